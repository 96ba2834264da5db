use Rattle.std.proofs.Common.{◌≡◌, [], Some, sym, ap, ◌∙◌, arith, length}
use Rattle.mb_message.specs.Signs.{signs_of_event}
use Rattle.mb_message.specs.declared.event.Seen.TheVariants as seen
use Rattle.mb_stream.specs.Reading.{told_signs}
use Rattle.mb_stream.specs.ReaderLaw.{answer}
use Rattle.mb_carrier.specs.Step.{seen_of}
use Rattle.mb_carrier.proofs.ReadingLemmas.{told_signs-seen}
use Rattle.mb_track.proofs.StandLemmas.{gone-none, gone-then, goes-by, of-none, other-quiet}
use Rattle.mb_track.proofs.StandLemmas.{quiet-then, same-self, same-then}
use Rattle.mb_track.proofs.track.TrackReader.hear.Goals as goal

pub returns-then-not-self-clause-goes : goal.returns-then-not-self-clause-goes
returns-then-not-self-clause-goes c = gone-none c.args.self.now c.args.input.now.now

pub returns-then-not-self-clause-quiet : goal.returns-then-not-self-clause-quiet
returns-then-not-self-clause-quiet c =
    other-quiet c.args.self.now c.args.input.now.now c.if-not-self.true

pub notes-init : goal.notes-init
notes-init c = record {
  own = c.if-not-self.false;
  same = same-self c.args.self.now;
  end = omega arith;
  goes = gone-none c.args.self.now c.args.input.now.now;
  fewer = omega arith;
  owed = omega arith;
  less = omega arith;
}

event : (c : goal.In-Ev) → told_signs (answer (seen_of c.read.result)) ≡ signs_of_event c.in-Ev.ev
event c =
    ap (λ o. told_signs (answer (seen_of o))) (c.in-Some.is ∙ ap Some c.in-Ev.is) ∙ told_signs-seen (seen.Ev c.in-Ev.ev)

pub returns-in-Ev-clause-goes : goal.returns-in-Ev-clause-goes
returns-in-Ev-clause-goes c =
    gone-then c.args.self.now c.notes.self c.read.new.self c.args.input.now.now c.notes.input.now c.read.new.input.now _
    c.notes.invariant.goes
    (goes-by c.notes.self c.read.new.self c.notes.input.now c.read.new.input.now _ _ (event c) c.read.ensures.goes)

pub returns-in-Ev-clause-few : goal.returns-in-Ev-clause-few
returns-in-Ev-clause-few c =
    omega (arith, sym (ap length (event c)), c.read.ensures.few, c.notes.invariant.fewer)

pub notes-preserved : goal.notes-preserved
notes-preserved c = record {
  own = c.read.ensures.same.own ∙ c.notes.invariant.own;
  same = same-then c.args.self.now c.notes.self c.read.new.self c.notes.invariant.same c.read.ensures.same;
  end = omega (arith, c.notes.invariant.end, c.read.ensures.end);
  goes =
      gone-then c.args.self.now c.notes.self c.read.new.self c.args.input.now.now c.notes.input.now
      c.read.new.input.now [] c.notes.invariant.goes
      (goes-by c.notes.self c.read.new.self c.notes.input.now c.read.new.input.now _ []
      (ap (λ o. told_signs (answer (seen_of o))) (c.in-Some.is ∙ ap Some c.in_default-step.is)) c.read.ensures.goes);
  fewer = omega (arith, c.notes.invariant.fewer, c.read.ensures.fewer);
  owed = omega (arith, c.notes.invariant.owed, c.read.ensures.owed);
  less = omega (arith, c.notes.invariant.less, c.in-Some.ensures.progress);
}

pub returns-clause-goes : goal.returns-clause-goes
returns-clause-goes c =
    gone-then c.args.self.now c.notes.self c.read.new.self c.args.input.now.now c.notes.input.now c.read.new.input.now
    []
    c.notes.invariant.goes
    (goes-by c.notes.self c.read.new.self c.notes.input.now c.read.new.input.now _ []
    (ap (λ o. told_signs (answer (seen_of o))) c.in_default.is) c.read.ensures.goes)

pub returns-clause-quiet : goal.returns-clause-quiet
returns-clause-quiet c =
    quiet-then c.args.self.now c.notes.self c.read.new.self c.args.input.now.now c.notes.input.now c.read.new.input.now
    c.notes.invariant.goes (of-none c.read.result _ c.in_default.is c.read.ensures.quiet)
