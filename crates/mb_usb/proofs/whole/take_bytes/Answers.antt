use Rattle.std.proofs.Common.{◌≡◌, ◌⊎◌, inl, inr}
use Rattle.mb_din.specs.State.{free_now, open_now}
use Rattle.mb_usb.proofs.WholePackets.{bytes-two, bytes-three, bytes-run}
use Rattle.mb_usb.proofs.whole.take_bytes.Goals.{then-number-eq12-via-then-number-eq12}
use Rattle.mb_usb.proofs.whole.take_bytes.Goals.{then-number-eq12-via-else-number-eq12+then-number-eq13}
use Rattle.mb_usb.proofs.whole.take_bytes.Goals as goal

pub returns-then-number-eq12-clause-whole : goal.returns-then-number-eq12-clause-whole
returns-then-number-eq12-clause-whole c =
    let number : (c.args.number ≡ 12) ⊎ (c.args.number ≡ 13) = elim c.then-number-eq12.branch [
      | then-number-eq12-via-then-number-eq12 w ↦ inl w.if-number-eq12.true
      | then-number-eq12-via-else-number-eq12+then-number-eq13 w ↦ inr w.if-number-eq13.true
    ] in
    bytes-two (free_now c.args.din.now) c.read_two.result c.args.number c.args.at c.args.bytes.now c.args.din.now
    c.read_two.new.self c.requires.three number c.if-number-first.false c.read_two.ensures.when
    c.read_two.ensures.whole

pub returns-then-number-ge8-clause-whole : goal.returns-then-number-ge8-clause-whole
returns-then-number-ge8-clause-whole c =
    bytes-three (free_now c.args.din.now) c.read_three.result c.args.number c.args.at c.args.bytes.now c.args.din.now
    c.read_three.new.self c.requires.three c.if-number-ge8.true c.if-number-eq15.false c.if-number-eq12.false
    c.if-number-eq13.false c.if-number-first.false c.read_three.ensures.when c.read_three.ensures.whole

pub returns-then-number-eq4-clause-whole : goal.returns-then-number-eq4-clause-whole
returns-then-number-eq4-clause-whole c =
    bytes-run (open_now c.args.din.now) c.read_run.result c.args.number c.args.at c.args.bytes.now c.args.din.now
    c.read_run.new.self c.requires.three c.if-number-eq4.true c.read_run.ensures.when c.read_run.ensures.whole
