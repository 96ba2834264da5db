use Rattle.std.proofs.Common.{◌≡◌, ◌∙◌, [], Some, None, refl, sym, arith}
use Rattle.std.proofs.lemmas.Grind.{common_steps}
use Rattle.mb_top.proofs.StreamLemmas.{read-piece, at-end, ran-end, ran-halted, fed-at, halted-at, piece-is, piece-size}
use Rattle.mb_top.proofs.StreamLemmas.{so_far-none, so_far-same, so_far-fed, ran-faulty, ran-read_fault, ran-too_long}
use Rattle.mb_top.proofs.StreamLemmas.{may-faulty, no_fault-told, read_fault-told, stop-faults, stop-stands, stops-later}
use Rattle.mb_top.specs.declared.status.Stop.TheVariants.{Faulty, TooLong}
use Rattle.mb_top.proofs.stream.stream.Goals as goal

pub returns-then-count-eq0-clause-ran : goal.returns-then-count-eq0-clause-ran
returns-then-count-eq0-clause-ran g c = λ tells.
    let fed = c.pieces.invariant.fed in
    let e = at-end _ _ _ _ fed.0 _ c.in-Ok.count (fed.3 tells) (c.in-Ok.ensures.contents tells) c.if-count-eq0.true
    (grind (arith, common_steps)) in
    ran-end _ _ _ _ _ _ fed.0 _ c.pieces.invariant.command (omega (arith, fed.1)) e.0 e.1
    (c.end.ensures.ran tells fed.0 fed.2)

pub returns-in-Err-clause-ran : goal.returns-in-Err-clause-ran
returns-in-Err-clause-ran g c = λ tells.
    let fed = c.pieces.invariant.fed in
    let halted = halted-at _ _ _ _ _ c.pieces.invariant.command c.in-Err.ensures.halted in
    let read = read-piece _ _ _ _ fed.0 _ _ c.in-Ok.count (fed.3 tells) (c.in-Ok.ensures.contents tells)
    (piece-is _ _ c.in-Ok.count c.in-Ok.ensures.bound) in
    ran-halted _ _ c.in-Ok.count _ _ _ fed.0 _ halted.given (piece-size _ _ c.in-Ok.count c.in-Ok.ensures.bound)
    (grind (arith, common_steps, fed.1)) (grind (arith, common_steps)) read (halted.took_it.contents_are tells)
    (halted.part fed.0 fed.2)

pub stop-requires-clause-stands : goal.stop-requires-clause-stands
stop-requires-clause-stands g c =
    let fed = c.pieces.invariant.fed in
    (fed.0, stops-later _ fed.0 fed.2, omega (arith, fed.1, c.pieces.invariant.within, c.requires.most))

pub returns-in_default-clause-ran : goal.returns-in_default-clause-ran
returns-in_default-clause-ran g c = λ tells.
    let fed = c.pieces.invariant.fed in
    ran-read_fault _ _ _ _ _ _ fed.0 _ c.pieces.invariant.command (omega (arith, fed.1, c.pieces.invariant.within))
    (so_far-same _ _ _ _ fed.0 (c.in_default.ensures.contents tells) (fed.3 tells))
    (c.stop.ensures.ran tells fed.0 (stops-later _ fed.0 fed.2))

pub returns-in_default-clause-faults : goal.returns-in_default-clause-faults
returns-in_default-clause-faults g c =
    let inv = c.pieces.invariant in
    stop-faults _ _ _ _ _ _ _ _ _ _ inv.command
    (read_fault-told _ _ _ _ _ _ (inv.reads_same) (c.read.ensures.write_faults ∙ inv.writes_same)
    c.read.ensures.cause.later c.in_default.ensures.cause.failed)
    c.stop.ensures.how c.stop.ensures.read_faults

pub stop-requires-in-Ok-Some-clause-stands : goal.stop-requires-in-Ok-Some-clause-stands
stop-requires-in-Ok-Some-clause-stands g c =
    let so_far = c.pieces.invariant.fed in
    let fault : c.in-Ok-Some.field-0 ≡ Some c.in-Ok-Some.fault = c.in-Ok-Some.field-0-is in
    let piece = fed-at _ _ _ _ _ _ _ _ _ c.pieces.invariant.command fault c.in-Ok-Some.ensures.fed in
    stop-stands _ so_far.0 _ c.in-Ok.count c.args.limit (piece.may_stop so_far.0 so_far.2)
    (piece-size _ _ c.in-Ok.count c.in-Ok.ensures.bound) (grind (arith, common_steps, so_far.1)) c.requires.most

pub stop-requires-in-Ok-Some-clause-may : goal.stop-requires-in-Ok-Some-clause-may
stop-requires-in-Ok-Some-clause-may g c =
    let so_far = c.pieces.invariant.fed in
    let fault : c.in-Ok-Some.field-0 ≡ Some c.in-Ok-Some.fault = c.in-Ok-Some.field-0-is in
    let piece = fed-at _ _ _ _ _ _ _ _ _ (sym c.feed.ensures.command) fault c.in-Ok-Some.ensures.fed in
    may-faulty _ _ c.in-Ok-Some.fault (piece.kept so_far.0 so_far.2)

pub returns-in-Ok-Some-clause-ran : goal.returns-in-Ok-Some-clause-ran
returns-in-Ok-Some-clause-ran g c = λ tells.
    let so_far = c.pieces.invariant.fed in
    let fault : c.in-Ok-Some.field-0 ≡ Some c.in-Ok-Some.fault = c.in-Ok-Some.field-0-is in
    let piece = fed-at _ _ _ _ _ _ _ _ _ c.pieces.invariant.command fault c.in-Ok-Some.ensures.fed in
    let read = read-piece _ _ _ _ so_far.0 _ _ c.in-Ok.count (so_far.3 tells) (c.in-Ok.ensures.contents tells)
    (piece-is _ _ c.in-Ok.count c.in-Ok.ensures.bound) in
    ran-faulty _ _ _ c.in-Ok.count _ _ _ _ so_far.0 _ piece.given c.in-Ok-Some.fault _
    (c.feed.ensures.command ∙ c.pieces.invariant.command)
    (piece-size _ _ c.in-Ok.count c.in-Ok.ensures.bound)
    (grind (arith, common_steps, so_far.1)) read (piece.took_it.contents_are tells) (piece.beyond so_far.0 so_far.2)
    (piece.kept so_far.0 so_far.2)
    (c.stop-in-Ok-Some.ensures.ran tells _ (piece.may_stop so_far.0 so_far.2))

pub returns-in-Ok-Some-clause-faults : goal.returns-in-Ok-Some-clause-faults
returns-in-Ok-Some-clause-faults g c =
    let inv = c.pieces.invariant in
    stop-faults _ _ _ _ _ _ _ _ _ _ (c.feed.ensures.command ∙ inv.command)
    (no_fault-told _ (Faulty c.in-Ok-Some.fault) _ _ _ _ (λ e. cc) (λ e. cc)
    (c.feed.ensures.read_faults ∙ (c.in-Ok.ensures.sound ∙ inv.reads_same))
    (c.in-Ok-Some.ensures.sound ∙ (c.read.ensures.write_faults ∙ inv.writes_same)))
    c.stop-in-Ok-Some.ensures.how c.stop-in-Ok-Some.ensures.read_faults

pub returns-clause-ran : goal.returns-clause-ran
returns-clause-ran g c = λ tells.
    let fed = c.pieces.invariant.fed in
    ran-too_long _ _ _ _ _ _ fed.0 _ c.pieces.invariant.command
    (grind (arith, common_steps, fed.1, c.pieces.invariant.within)) (fed.3 tells)
    (c.stop-2.ensures.ran tells fed.0 (stops-later _ fed.0 fed.2))

pub returns-clause-faults : goal.returns-clause-faults
returns-clause-faults g c =
    let inv = c.pieces.invariant in
    stop-faults _ _ _ _ _ _ _ _ _ _ inv.command
    (no_fault-told _ TooLong _ _ _ _ (λ e. cc) (λ e. cc) inv.reads_same inv.writes_same)
    c.stop-2.ensures.how c.stop-2.ensures.read_faults

pub pieces-init : goal.pieces-init
pieces-init g c =
    record {
      within = omega arith;
      command = refl;
      reads_same = refl;
      reads_later = omega arith;
      writes_same = refl;
      fed = ([], refl, c.requires.stands, λ tells. so_far-none _ _);
    }

pub pieces-preserved : goal.pieces-preserved
pieces-preserved g c =
    let inv = c.pieces.invariant in
    let fed = inv.fed in
    let none : c.in-Ok-None.field-0 ≡ None = c.in-Ok-None.field-0-is in
    let piece = fed-at _ _ _ _ _ _ _ _ _ inv.command none c.in-Ok-None.ensures.fed in
    record {
      within = grind (arith, common_steps);
      command = c.feed.ensures.command ∙ inv.command;
      reads_same = c.feed.ensures.read_faults ∙ (c.in-Ok.ensures.sound ∙ inv.reads_same);
      reads_later = omega (arith, inv.reads_later, c.read.ensures.cause.later, c.feed.ensures.read_faults);
      writes_same = c.in-Ok-None.ensures.sound ∙ (c.read.ensures.write_faults ∙ inv.writes_same);
      fed = so_far-fed _ _ _ _ _ _ _ _ _ _ _ fed.0 _ _ _ c.in-Ok.count piece fed.1
          (piece-size _ _ c.in-Ok.count c.in-Ok.ensures.bound) fed.2 fed.3 c.in-Ok.ensures.contents
          (piece-is _ _ c.in-Ok.count c.in-Ok.ensures.bound);
    }
