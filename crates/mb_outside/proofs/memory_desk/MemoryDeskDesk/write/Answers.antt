use Rattle.std.proofs.Common.{◌≡◌, ◌∙◌, ◌<◌, ◌+◌, ap, sym, subst, arith, length, vec_len, true}
use Rattle.std.proofs.lemmas.Grind.{common_steps}
use Rattle.mb_outside.specs.Contents.{Contents, is_writable}
use Rattle.mb_outside.specs.MemoryDesk.{contents_of, told}
use Rattle.mb_outside.proofs.LogLemmas.{IsLogged-write}
use Rattle.mb_outside.proofs.ToldLemmas.{wrote, writable_below}
use Rattle.mb_outside.proofs.memory_desk.MemoryDeskDesk.write.Goals as goal

pub returns-clause-contents : goal.returns-clause-contents
returns-clause-contents c =
    let i = c.self.inside in
    wrote i.files.items i.input.items i.at i.places.items i.log.items _ c.args.h _ _ _ c.note_down.ensures.log
    (grind (arith, common_steps)) (ap contents_of (c.self.view_is ∙ c.is_to_fail-is_planned.ensures.counted))

pub invariant_of-self-2 : goal.invariant_of-self-2
invariant_of-self-2 c =
    let i = c.self.inside in
    let before = told i.files.items i.input.items i.at i.places.items i.log.items in
    let same : before ≡ contents_of c.args.self.now
    = ap contents_of (c.self.view_is ∙ c.is_to_fail-is_planned.ensures.counted) in
    let writable : is_writable before c.args.h ≡ true
    = subst (λ (x : Contents). is_writable x c.args.h ≡ true) (sym same) c.requires in
    let below : c.args.h < 3 + length i.places.items
    = writable_below i.files.items i.input.items i.at i.places.items i.log.items c.args.h writable in
    let known = c.self.invariant in
    let given = known.4 in (
      known.0,
      grind (arith, common_steps),
      grind (arith, common_steps),
      known.3,
      record {
        fewer = given.fewer;
        room = given.room;
        logged = rw c.note_down.ensures.log (IsLogged-write (3 + vec_len i.places) c.args.h i.log.items _ given.logged
            (omega (arith, below, i.places.ok.0)));
      },
    )
