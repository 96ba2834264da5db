use Rattle.std.proofs.Common.{arith, ◌≡◌, ◌∙◌, ◌++◌, ◌∷◌, ◌+◌, [], ap, sym, ℕ, List}
use Rattle.std.proofs.lemmas.Grind.{common_steps}
use Rattle.std.proofs.lemmas.List.{length-map}
use Rattle.std.specs.Prelude.{slice_get}
use Rattle.mb_outside.specs.Contents.{after_open, next_handle}
use Rattle.mb_outside.specs.Place.{Place, Opened}
use Rattle.mb_outside.specs.MemoryDesk.{told, contents_of, given_as, bytes_in, name_in}
use Rattle.mb_outside.proofs.LogLemmas.{IsLogged-more}
use Rattle.mb_outside.proofs.ToldLemmas.{told-open}
use Rattle.mb_outside.proofs.memory_desk.MemoryDeskDesk.open.Goals as goal

pub invariant_of-self : goal.invariant_of-self
invariant_of-self c =
    let i = c.self.invariant in (
      i.0,
      i.1,
      i.2,
      i.3,
      record {
        fewer = grind (arith, common_steps);
        room = grind (arith, common_steps, i.4.room);
        logged = IsLogged-more _ _ _ i.4.logged (grind (arith, common_steps));
      },
    )

pub returns-in-Some-clause-contents : goal.returns-in-Some-clause-contents
returns-in-Some-clause-contents c =
    let i = c.self.inside in
    let file = c.in-Some.file in
    let before = told i.files.items i.input.items i.at i.places.items i.log.items in
    let same : before ≡ contents_of c.args.self.now
    = ap contents_of (c.self.view_is ∙ c.is_to_fail-is_planned.ensures.counted) in
    let items : c.push_reserved.new.self.items ≡ i.places.items ++ Opened file 0 ∷ [] = grind (arith, common_steps) in
    let names = length-map i.places.items (given_as i.files.items) in
    let next : 3 + c.len-given.result ≡ next_handle before = omega (arith, names) in
    let named : name_in (slice_get i.files.items file) ≡ c.args.name.now
    = ap (λ (files : List (List ℕ × List ℕ)). name_in (slice_get files file)) (sym c.deref.ensures.value)
    ∙ c.in-Some.ensures.found.1 in
    let content = bytes_in (slice_get i.files.items file) in (
      next ∙ ap next_handle same,
      content,
      ap (λ (places : List Place). told i.files.items i.input.items i.at places i.log.items) items
          ∙ (told-open i.files.items i.input.items i.at i.places.items i.log.items file
          ∙ (ap (λ (name : List ℕ). after_open name content before) named
          ∙ ap (after_open c.args.name.now content) same)),
    )
