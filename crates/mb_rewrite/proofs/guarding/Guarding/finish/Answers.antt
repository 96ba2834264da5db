use Rattle.std.proofs.Common.{◌≡◌, ◌++◌, List, ℕ, refl, sym, ap, ◌∙◌, subst, append_assoc}
use Rattle.std.proofs.lemmas.Result.{on_err_weaker, on_ok_weaker}
use Rattle.mb_frames.specs.Gathering.{written_piece}
use Rattle.mb_rewrite.specs.Guarded.{guarded_tape}
use Rattle.mb_rewrite.specs.Guarding.{GuardHasTold, GuardingStands, guarding_spec, off_puts}
use Rattle.mb_rewrite.specs.declared.guarding.Guarding.{Guarding}
use Rattle.mb_rewrite.proofs.EndLemmas.{ended-all, halted-end, halted-last}
use Rattle.mb_rewrite.proofs.GuardLemmas.{before_of, end-closed, end-front, ends-all, ends-as, has-told}
use Rattle.mb_rewrite.proofs.LineLemmas.{halted-then, wrote-then}
use Rattle.mb_rewrite.proofs.guarding.Guarding.finish.Goals as goal

pub hear_end-requires-clause-stands : goal.hear_end-requires-clause-stands
hear_end-requires-clause-stands g c = (
  c.requires.stands.0,
  has-told c.args.self.now
      (record { track = c.args.self.now.track; guard = c.args.self.now.guard; line = c.begin.new.self }) refl refl
      c.begin.ensures.same.0 c.begin.ensures.same.1 c.requires.stands.0 c.requires.stands.1,
)

pub returns-in-Err-clause-halted : goal.returns-in-Err-clause-halted
returns-in-Err-clause-halted g c =
    let begun : Guarding
    = record { track = c.args.self.now.track; guard = c.args.self.now.guard; line = c.begin.new.self } in
    let told : (bytes : List ℕ) → GuardingStands c.args.self.now bytes → GuardHasTold begun bytes
    = has-told c.args.self.now begun refl refl c.begin.ensures.same.0 c.begin.ensures.same.1 in
    halted-end (before_of c.args.self.now) c.begin.new.self c.begin.new.held.items
    (λ x. g.K.Out.took c.args.out.now x c.hear_end.new.out) (c.in-Err.ensures.err).more
    (guarded_tape (guarding_spec c.args.self.now))
    (record {
      writer = c.begin.ensures.same.0;
      gather = c.begin.ensures.same.1;
      held_is = c.begin.ensures.written;
    }) (c.in-Err.ensures.err).halted
    (λ bytes st. end-front begun bytes c.begin.new.held.items
    (λ x. g.K.Out.took c.args.out.now x c.hear_end.new.out) (told bytes st) c.in-Err.ensures.err)

pub end_notes-requires-clause-closed : goal.end_notes-requires-clause-closed
end_notes-requires-clause-closed g c =
    let begun : Guarding
    = record { track = c.args.self.now.track; guard = c.args.self.now.guard; line = c.begin.new.self } in
    end-closed begun c.hear_end.new.self c.requires.stands.0 c.begin.new.held.items c.hear_end.new.held.items
    (λ x. g.K.Out.took c.args.out.now x c.hear_end.new.out)
    (has-told c.args.self.now begun refl refl c.begin.ensures.same.0 c.begin.ensures.same.1 c.requires.stands.0
    c.requires.stands.1) c.in_default.ensures.ok

pub returns-in-Err-end_notes-clause-halted : goal.returns-in-Err-end_notes-clause-halted
returns-in-Err-end_notes-clause-halted g c =
    let begun : Guarding
    = record { track = c.args.self.now.track; guard = c.args.self.now.guard; line = c.begin.new.self } in
    let told : (bytes : List ℕ) → GuardingStands c.args.self.now bytes → GuardHasTold begun bytes
    = has-told c.args.self.now begun refl refl c.begin.ensures.same.0 c.begin.ensures.same.1 in
    let heard = c.in_default.ensures.ok in
    halted-end (before_of c.args.self.now) c.begin.new.self c.begin.new.held.items
    (λ x. g.K.Out.took c.args.out.now x c.end_notes.new.out) (heard.more ++ off_puts c.hear_end.new.self)
    (guarded_tape (guarding_spec c.args.self.now))
    (record {
      writer = c.begin.ensures.same.0;
      gather = c.begin.ensures.same.1;
      held_is = c.begin.ensures.written;
    })
    (halted-then c.begin.new.self c.hear_end.new.self.line heard.more (off_puts c.hear_end.new.self)
    c.begin.new.held.items c.hear_end.new.held.items (λ x. g.K.Out.took c.args.out.now x c.hear_end.new.out)
    (λ x. g.K.Out.took c.hear_end.new.out x c.end_notes.new.out)
    (λ x. g.K.Out.took c.args.out.now x c.end_notes.new.out) (λ x y. g.met.K.Out.both _ _ _ x y) heard.wrote
    c.in-Err-end_notes.ensures.err)
    (λ bytes st. ends-all begun c.hear_end.new.self bytes c.begin.new.held.items c.hear_end.new.held.items
    (λ x. g.K.Out.took c.args.out.now x c.hear_end.new.out) (told bytes st) heard c.hear_end.ensures.moment)

pub returns-clause-ended : goal.returns-clause-ended
returns-clause-ended g c =
    let begun : Guarding
    = record { track = c.args.self.now.track; guard = c.args.self.now.guard; line = c.begin.new.self } in
    let told : (bytes : List ℕ) → GuardingStands c.args.self.now bytes → GuardHasTold begun bytes
    = has-told c.args.self.now begun refl refl c.begin.ensures.same.0 c.begin.ensures.same.1 in
    let heard = c.in_default.ensures.ok in
    on_ok_weaker c.end.result
    (λ took. ended-all (before_of c.args.self.now) c.begin.new.self c.end_notes.new.self.line c.begin.new.held.items
    c.end_notes.new.held.items
    (written_piece c.end_notes.new.self.line.gather.moment c.end_notes.new.self.line.gather.bytes)
    (λ x. g.K.Out.took c.args.out.now x c.end_notes.new.out) (λ x. g.K.Out.took c.end_notes.new.out x c.end.new.out)
    (λ x. g.K.Out.took c.args.out.now x c.end.new.out) (heard.more ++ off_puts c.hear_end.new.self)
    (guarded_tape (guarding_spec c.args.self.now)) (λ x y. g.met.K.Out.both _ _ _ x y)
    (record {
      writer = c.begin.ensures.same.0;
      gather = c.begin.ensures.same.1;
      held_is = c.begin.ensures.written;
    })
    (wrote-then c.begin.new.self c.hear_end.new.self.line c.end_notes.new.self.line heard.more
    (off_puts c.hear_end.new.self) c.begin.new.held.items c.hear_end.new.held.items c.end_notes.new.held.items
    (λ x. g.K.Out.took c.args.out.now x c.hear_end.new.out)
    (λ x. g.K.Out.took c.hear_end.new.out x c.end_notes.new.out)
    (λ x. g.K.Out.took c.args.out.now x c.end_notes.new.out) (λ x y. g.met.K.Out.both _ _ _ x y) heard.wrote
    c.in_default-end_notes.ensures.ok) refl
    (λ bytes st. ends-as begun c.hear_end.new.self bytes c.begin.new.held.items c.hear_end.new.held.items
    (λ x. g.K.Out.took c.args.out.now x c.hear_end.new.out) (told bytes st) heard c.hear_end.ensures.moment) took)
    c.end.ensures.ok

pub returns-clause-halted : goal.returns-clause-halted
returns-clause-halted g c =
    let begun : Guarding
    = record { track = c.args.self.now.track; guard = c.args.self.now.guard; line = c.begin.new.self } in
    let told : (bytes : List ℕ) → GuardingStands c.args.self.now bytes → GuardHasTold begun bytes
    = has-told c.args.self.now begun refl refl c.begin.ensures.same.0 c.begin.ensures.same.1 in
    let heard = c.in_default.ensures.ok in
    on_err_weaker c.end.result
    (λ front. halted-last (before_of c.args.self.now) c.begin.new.self c.end_notes.new.self.line
    c.begin.new.held.items c.end_notes.new.held.items
    (written_piece c.end_notes.new.self.line.gather.moment c.end_notes.new.self.line.gather.bytes)
    (λ x. g.K.Out.took c.args.out.now x c.end_notes.new.out) (λ x. g.K.Out.took c.end_notes.new.out x c.end.new.out)
    (λ x. g.K.Out.took c.args.out.now x c.end.new.out) (heard.more ++ off_puts c.hear_end.new.self)
    (guarded_tape (guarding_spec c.args.self.now)) (λ x y. g.met.K.Out.both _ _ _ x y)
    (record {
      writer = c.begin.ensures.same.0;
      gather = c.begin.ensures.same.1;
      held_is = c.begin.ensures.written;
    })
    (wrote-then c.begin.new.self c.hear_end.new.self.line c.end_notes.new.self.line heard.more
    (off_puts c.hear_end.new.self) c.begin.new.held.items c.hear_end.new.held.items c.end_notes.new.held.items
    (λ x. g.K.Out.took c.args.out.now x c.hear_end.new.out)
    (λ x. g.K.Out.took c.hear_end.new.out x c.end_notes.new.out)
    (λ x. g.K.Out.took c.args.out.now x c.end_notes.new.out) (λ x y. g.met.K.Out.both _ _ _ x y) heard.wrote
    c.in_default-end_notes.ensures.ok) refl
    (λ bytes st. ends-as begun c.hear_end.new.self bytes c.begin.new.held.items c.hear_end.new.held.items
    (λ x. g.K.Out.took c.args.out.now x c.hear_end.new.out) (told bytes st) heard c.hear_end.ensures.moment) front)
    c.end.ensures.err
