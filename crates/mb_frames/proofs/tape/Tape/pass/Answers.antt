use Rattle.std.proofs.Common.{[], sym, ◌∙◌, ap, arith, length, ◌-◌, append-nil}
use Rattle.mb_frames.specs.TapeSteps.{TapeState}
use Rattle.mb_frames.specs.TapeReading.{to_come_by}
use Rattle.mb_frames.specs.declared.tape.Place.TheVariants.{Within}
use Rattle.mb_frames.proofs.TapeStepLemmas.{stands-all, takes-bytes}
use Rattle.mb_frames.proofs.tape.Tape.pass.Goals as goal

pub returns-in-Within-clause-step : goal.returns-in-Within-clause-step
returns-in-Within-clause-step c =
    let is = ap (λ (t : TapeState). t.place) (sym c.self.view_is) ∙ c.in-Within.is in
    takes-bytes c.args.self.now _ c.in-Within.left c.args.bytes.now [] c.args.bytes.now is
    (ap (λ (t : TapeState). record t { place = Within (c.in-Within.left - length c.args.bytes.now) }) c.self.view_is)
    (sym (append-nil c.args.bytes.now)) (omega (arith, c.requires, ap to_come_by is))

pub returns-in-Within-clause-stands : goal.returns-in-Within-clause-stands
returns-in-Within-clause-stands c = λ before so_far s.
    stands-all _ _ c.args.bytes.now _ before so_far s (returns-in-Within-clause-step c)
