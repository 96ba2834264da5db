use Rattle.std.proofs.Common.{◌≡◌, ◌≤◌, ℕ, List, [], None, Some, Option, refl, sym, ap, ◌∙◌, subst, arith, length}
use Rattle.std.proofs.Common.{append-nil, not, false, ◌++◌, ◌==◌}
use Rattle.mb_frames.specs.TapeReading.{TapeStands, TapeTakes, told_of}
use Rattle.mb_frames.specs.declared.tape.TapePart.{TapePart}
use Rattle.mb_frames.specs.declared.tape.TapePart.TheVariants as part
use Rattle.mb_frames.proofs.TapeStepLemmas.{over-none, owed-little}
use Rattle.mb_carrier.specs.Port.{ReaderStands}
use Rattle.mb_track.specs.TrackReading.{TrackGoes, track_spec}
use Rattle.mb_track.specs.declared.track.TrackReader.{TrackReader}
use Rattle.mb_track.proofs.StandLemmas.{broken-none, broken-stands, fault-none, fault-some, gone-none}
use Rattle.mb_track.proofs.StandLemmas.{gone-then, goes-by, of-none, own-none, own-owed, part-begin, part-bytes}
use Rattle.mb_track.proofs.StandLemmas.{fewer-left, longest-of, progress-of, part-end, part-goes, part-none, part-over}
use Rattle.mb_track.proofs.StandLemmas.{quiet-then}
use Rattle.mb_track.specs.TrackReading.{event_signs}
use Rattle.mb_track.proofs.RisingRecords.{begin-rises}
use Rattle.mb_track.proofs.track.TrackReader.next.Goals as goal

pub steps-init : goal.steps-init
steps-init c = record {
  spec = refl;
  track = refl;
  moment = refl;
  own = refl;
  end = omega arith;
  goes = gone-none c.args.self.now c.args.input.now.now;
  fewer = omega arith;
  less = omega arith;
}

pub returns-in-Some-clause-goes : goal.returns-in-Some-clause-goes
returns-in-Some-clause-goes c =
    gone-then c.args.self.now c.steps.self c.hear.new.self c.args.input.now.now c.steps.input.now c.hear.new.input.now _
    c.steps.invariant.goes
    (goes-by c.steps.self c.hear.new.self c.steps.input.now c.hear.new.input.now _ _ (ap event_signs c.in-Some.is)
    c.hear.ensures.goes)

pub returns-in-Ok-Some-Begin-clause-goes : goal.returns-in-Ok-Some-Begin-clause-goes
returns-in-Ok-Some-Begin-clause-goes c =
    subst (λ (z : TrackReader). TrackGoes c.args.self.now z c.args.input.now.now c.next.new.input.now [])
    (sym c.begin.ensures)
    (part-goes c.args.self.now c.hear.new.self
    (record {
      tape = c.next.new.self;
      reader = c.hear.new.self.reader;
      track = c.hear.new.self.track;
      own = c.in-Ok-Some-Begin.track == c.hear.new.self.track;
      moment = c.in-Ok-Some-Begin.moment;
    }) c.args.input.now.now c.hear.new.input.now c.next.new.input.now _
    (quiet-then c.args.self.now c.steps.self c.hear.new.self c.args.input.now.now c.steps.input.now c.hear.new.input.now
    c.steps.invariant.goes (of-none c.hear.result _ c.in_default.is c.hear.ensures.quiet))
    (subst (λ (o : Option TapePart). TapeTakes c.hear.new.self.tape c.next.new.self c.hear.new.input.now
    c.next.new.input.now (told_of o)) (c.in-Ok-Some-Begin.field-0-is ∙ ap Some c.in-Ok-Some-Begin.field-0-0-is)
    c.in-Ok-Some-Begin.ensures.step)
    (λ taken bytes told none st tape.
    part-begin (track_spec c.hear.new.self) (ReaderStands c.hear.new.self.reader) c.hear.new.self.tape c.next.new.self
    c.hear.new.self.track c.hear.new.self.own c.hear.new.self.moment taken c.hear.new.input.now
    c.next.new.input.now bytes told c.in-Ok-Some-Begin.moment c.in-Ok-Some-Begin.track c.in-Ok-Some-Begin.field-0-0-2 st
    tape))

pub returns-in-Ok-Some-Begin-clause-rises : goal.returns-in-Ok-Some-Begin-clause-rises
returns-in-Ok-Some-Begin-clause-rises c = λ taken told st.
    omega (
      arith,
      c.steps.invariant.moment,
      c.hear.ensures.same.moment,
      ap (λ (r : TrackReader). r.moment) c.begin.ensures,
      begin-rises c.args.self.now c.hear.new.self c.next.new.self c.args.input.now.now c.hear.new.input.now
          c.next.new.input.now c.in-Ok-Some-Begin.moment c.in-Ok-Some-Begin.track c.in-Ok-Some-Begin.field-0-0-2
          (quiet-then c.args.self.now c.steps.self c.hear.new.self c.args.input.now.now c.steps.input.now
          c.hear.new.input.now c.steps.invariant.goes (of-none c.hear.result _ c.in_default.is c.hear.ensures.quiet))
          (subst (λ (o : Option TapePart). TapeTakes c.hear.new.self.tape c.next.new.self c.hear.new.input.now
          c.next.new.input.now (told_of o)) (c.in-Ok-Some-Begin.field-0-is ∙ ap Some c.in-Ok-Some-Begin.field-0-0-is)
          c.in-Ok-Some-Begin.ensures.step) taken told st,
    )

pub returns-in-Ok-Some-End-clause-goes : goal.returns-in-Ok-Some-End-clause-goes
returns-in-Ok-Some-End-clause-goes c =
    part-goes c.args.self.now c.hear.new.self
    (record {
      tape = c.next.new.self;
      reader = c.hear.new.self.reader;
      track = c.hear.new.self.track;
      own = false;
      moment = c.hear.new.self.moment;
    }) c.args.input.now.now c.hear.new.input.now c.next.new.input.now _
    (quiet-then c.args.self.now c.steps.self c.hear.new.self c.args.input.now.now c.steps.input.now c.hear.new.input.now
    c.steps.invariant.goes (of-none c.hear.result _ c.in_default.is c.hear.ensures.quiet))
    (subst (λ (o : Option TapePart). TapeTakes c.hear.new.self.tape c.next.new.self c.hear.new.input.now
    c.next.new.input.now (told_of o)) (c.in-Ok-Some-End.field-0-is ∙ ap Some c.in-Ok-Some-End.field-0-0-is)
    c.in-Ok-Some-End.ensures.step)
    (λ taken bytes told none st tape.
    part-end (track_spec c.hear.new.self) (ReaderStands c.hear.new.self.reader) c.hear.new.self.tape c.next.new.self
    c.hear.new.self.track c.hear.new.self.own c.hear.new.self.moment taken c.hear.new.input.now
    c.next.new.input.now bytes told st tape)

pub returns-in-Ok-None-clause-goes : goal.returns-in-Ok-None-clause-goes
returns-in-Ok-None-clause-goes c =
    part-goes c.args.self.now c.hear.new.self
    (record {
      tape = c.next.new.self;
      reader = c.hear.new.self.reader;
      track = c.hear.new.self.track;
      own = c.hear.new.self.own;
      moment = c.hear.new.self.moment;
    }) c.args.input.now.now c.hear.new.input.now c.next.new.input.now _
    (quiet-then c.args.self.now c.steps.self c.hear.new.self c.args.input.now.now c.steps.input.now c.hear.new.input.now
    c.steps.invariant.goes (of-none c.hear.result _ c.in_default.is c.hear.ensures.quiet))
    (subst (λ (o : Option TapePart). TapeTakes c.hear.new.self.tape c.next.new.self c.hear.new.input.now
    c.next.new.input.now (told_of o)) c.in-Ok-None.field-0-is c.in-Ok-None.ensures.step)
    (λ taken bytes told none st tape.
    part-none (track_spec c.hear.new.self) (ReaderStands c.hear.new.self.reader) c.hear.new.self.tape c.next.new.self
    c.hear.new.self.track c.hear.new.self.own (not c.hear.new.self.own) c.hear.new.self.moment taken
    c.hear.new.input.now c.next.new.input.now bytes told st tape)

pub returns-in-Err-clause-goes : goal.returns-in-Err-clause-goes
returns-in-Err-clause-goes c =
    part-goes c.args.self.now c.hear.new.self
    (record {
      tape = c.next.new.self;
      reader = c.hear.new.self.reader;
      track = c.hear.new.self.track;
      own = c.hear.new.self.own;
      moment = c.hear.new.self.moment;
    }) c.args.input.now.now c.hear.new.input.now c.next.new.input.now _
    (quiet-then c.args.self.now c.steps.self c.hear.new.self c.args.input.now.now c.steps.input.now c.hear.new.input.now
    c.steps.invariant.goes (of-none c.hear.result _ c.in_default.is c.hear.ensures.quiet))
    c.in-Err.ensures.step
    (λ taken bytes told none st tape.
    part-none (track_spec c.hear.new.self) (ReaderStands c.hear.new.self.reader) c.hear.new.self.tape c.next.new.self
    c.hear.new.self.track c.hear.new.self.own (not c.hear.new.self.own) c.hear.new.self.moment taken
    c.hear.new.input.now c.next.new.input.now bytes told st tape)

pub returns-in-Ok-None-clause-over : goal.returns-in-Ok-None-clause-over
returns-in-Ok-None-clause-over c =
    let none : c.in-Ok-None.field-0 ≡ None = c.in-Ok-None.field-0-is in
    let over = over-none c.in-Ok-None.field-0 _ none c.in-Ok-None.ensures.none in
    part-over c.args.self.now c.hear.new.self c.next.new.self c.args.input.now.now c.hear.new.input.now
    c.next.new.input.now None _ _
    (quiet-then c.args.self.now c.steps.self c.hear.new.self c.args.input.now.now c.steps.input.now c.hear.new.input.now
    c.steps.invariant.goes (of-none c.hear.result _ c.in_default.is c.hear.ensures.quiet))
    (subst (λ (o : Option TapePart). TapeTakes c.hear.new.self.tape c.next.new.self c.hear.new.input.now
    c.next.new.input.now (told_of o)) c.in-Ok-None.field-0-is c.in-Ok-None.ensures.step)
    (λ bytes parts st. subst (λ (xs : List ℕ). TapeStands c.next.new.self xs parts)
    (sym (ap (λ xs. bytes ++ xs) over.0 ∙ append-nil bytes)) st) over.1
    (λ bytes parts st. fault-none c.next.new.self bytes parts c.in-Ok-None.ensures.fault st)
    (c.hear.ensures.same.spec ∙ c.steps.invariant.spec) (c.hear.ensures.same.track ∙ c.steps.invariant.track)

pub returns-in-Err-clause-over : goal.returns-in-Err-clause-over
returns-in-Err-clause-over c =
    part-over c.args.self.now c.hear.new.self c.next.new.self c.args.input.now.now c.hear.new.input.now
    c.next.new.input.now (Some c.in-Err.fault) _ _
    (quiet-then c.args.self.now c.steps.self c.hear.new.self c.args.input.now.now c.steps.input.now c.hear.new.input.now
    c.steps.invariant.goes (of-none c.hear.result _ c.in_default.is c.hear.ensures.quiet))
    c.in-Err.ensures.step
    (λ bytes parts st. broken-stands c.next.new.self c.in-Err.fault bytes c.next.new.input.now parts
    c.in-Err.ensures.fault st)
    (broken-none c.next.new.self c.in-Err.fault c.in-Err.ensures.fault)
    (λ bytes parts st. fault-some c.next.new.self c.in-Err.fault bytes parts c.in-Err.ensures.fault st)
    (c.hear.ensures.same.spec ∙ c.steps.invariant.spec) (c.hear.ensures.same.track ∙ c.steps.invariant.track)

pub steps-preserved : goal.steps-preserved
steps-preserved c =
    let some : c.in-Ok-Some-Bytes.field-0 ≡ Some (part.Bytes c.in-Ok-Some-Bytes.field-0-0-0)
    = c.in-Ok-Some-Bytes.field-0-is ∙ ap Some c.in-Ok-Some-Bytes.field-0-0-is in
    let shorter : length c.next.new.input.now ≤ length c.hear.new.input.now
    = fewer-left c.hear.new.self.tape c.next.new.self c.hear.new.input.now c.next.new.input.now _
    c.in-Ok-Some-Bytes.ensures.step in
    record {
      spec = c.hear.ensures.same.spec ∙ c.steps.invariant.spec;
      track = c.hear.ensures.same.track ∙ c.steps.invariant.track;
      moment = c.hear.ensures.same.moment ∙ c.steps.invariant.moment;
      own = c.hear.ensures.same.own ∙ c.steps.invariant.own;
      end = omega (arith, c.steps.invariant.end, c.hear.ensures.end, shorter);
      goes =
          part-goes c.args.self.now c.hear.new.self
          (record {
            tape = c.next.new.self;
            reader = c.hear.new.self.reader;
            track = c.hear.new.self.track;
            own = c.hear.new.self.own;
            moment = c.hear.new.self.moment;
          }) c.args.input.now.now c.hear.new.input.now c.next.new.input.now _
          (quiet-then c.args.self.now c.steps.self c.hear.new.self c.args.input.now.now c.steps.input.now
          c.hear.new.input.now
          c.steps.invariant.goes (of-none c.hear.result _ c.in_default.is c.hear.ensures.quiet))
          (subst (λ (o : Option TapePart). TapeTakes c.hear.new.self.tape c.next.new.self c.hear.new.input.now
          c.next.new.input.now (told_of o)) some c.in-Ok-Some-Bytes.ensures.step)
          (λ taken bytes told none st tape.
          part-bytes (track_spec c.hear.new.self) (ReaderStands c.hear.new.self.reader) c.hear.new.self.tape
          c.next.new.self
          c.hear.new.self.track c.hear.new.self.own (not c.hear.new.self.own) c.hear.new.self.moment taken
          c.hear.new.input.now c.next.new.input.now bytes c.in-Ok-Some-Bytes.field-0-0-0.now told st
          (own-none c.hear.new.self.own c.hear.new.self.tape c.hear.new.input.now c.in-Ok-Some-Bytes.field-0-0-0 none
          (longest-of _ c.hear.new.self.tape c.hear.new.input.now c.in-Ok-Some-Bytes.field-0-0-0 some
          c.in-Ok-Some-Bytes.ensures.longest)) tape);
      fewer = omega (arith, c.steps.invariant.fewer, c.hear.ensures.fewer, shorter);
      less =
          omega (
            arith,
            c.steps.invariant.less,
            c.hear.ensures.fewer,
            c.hear.ensures.owed,
            shorter,
            progress-of c.in-Ok-Some-Bytes.field-0 _ _ some c.in-Ok-Some-Bytes.ensures.progress,
            own-owed c.hear.new.self.own c.hear.new.self.reader,
            owed-little c.next.new.self,
            owed-little c.hear.new.self.tape,
          );
    }
