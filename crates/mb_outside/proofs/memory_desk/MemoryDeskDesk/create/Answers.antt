use Rattle.std.proofs.Common.{arith, ◌≡◌, ◌∙◌, ◌++◌, ◌∷◌, ◌+◌, [], ap, subst, length, ℕ, List}
use Rattle.std.proofs.lemmas.Grind.{common_steps}
use Rattle.std.proofs.lemmas.List.{length-map}
use Rattle.mb_outside.specs.Contents.{after_create, next_handle}
use Rattle.mb_outside.specs.Place.{Place, Created}
use Rattle.mb_outside.specs.MemoryDesk.{told, contents_of, given_as, IsLogged}
use Rattle.mb_outside.proofs.LogLemmas.{IsLogged-more}
use Rattle.mb_outside.proofs.ToldLemmas.{told-create}
use Rattle.mb_outside.proofs.memory_desk.MemoryDeskDesk.create.Goals as goal

pub invariant_of-self : goal.invariant_of-self
invariant_of-self c =
    let i = c.self.invariant in (
      i.0,
      i.1,
      i.2,
      i.3,
      record {
        fewer = grind (arith, common_steps);
        room = grind (arith, common_steps, i.4.room);
        logged = IsLogged-more _ _ _ i.4.logged (grind (arith, common_steps));
      },
    )

pub returns-in-Ok-clause-contents : goal.returns-in-Ok-clause-contents
returns-in-Ok-clause-contents c =
    let i = c.self.inside in
    let before = told i.files.items i.input.items i.at i.places.items i.log.items in
    let same : before ≡ contents_of c.args.self.now
    = ap contents_of (c.self.view_is ∙ c.is_to_fail-is_planned.ensures.counted) in
    let items : c.push_reserved.new.self.items ≡ i.places.items ++ Created c.args.name.now ∷ []
    = grind (arith, common_steps) in
    let logged : IsLogged (3 + length i.places.items) i.log.items
    = subst (λ (m : ℕ). IsLogged (3 + m) i.log.items) i.places.ok.0 c.self.invariant.4.logged in
    let names = length-map i.places.items (given_as i.files.items) in
    let next : 3 + c.len-given.result ≡ next_handle before = omega (arith, names) in (
      next ∙ ap next_handle same,
      ap (λ (places : List Place). told i.files.items i.input.items i.at places i.log.items) items
          ∙ (told-create i.files.items i.input.items i.at i.places.items i.log.items c.args.name.now logged
          ∙ ap (after_create c.args.name.now) same),
    )
