use Rattle.std.proofs.Common.{◌≢◌, ◌/◌, ◌<◌, ◌∙◌, None, Some, ap, length, sym, refl, rules, arith}
use Rattle.std.proofs.lemmas.List.{nil_from_length}
use Rattle.mb_usb.specs.declared.under.Packets.{Packets}
use Rattle.mb_usb.specs.Under.{left_of, head_of}
use Rattle.mb_usb.specs.State.{reader_at}
use Rattle.mb_usb.specs.Cables.{UsbHolds}
use Rattle.mb_ports.proofs.ReaderLaw.{port_signs-port}
use Rattle.mb_stream.specs.ReaderLaw.{answer}
use Rattle.mb_usb.proofs.ReadLemmas.{pass-behind, shorter, falls, owed-bound}
use Rattle.mb_usb.proofs.EachCable.{begins, then-due, then-pass, then-carry, then-none, then-all_told}
use Rattle.mb_usb.proofs.reader.read.Goals as goal

pub bytes-init : goal.bytes-init
bytes-init c = record {
  behind = c.requires.behind;
  tells = begins c.args.packet.now c.args.dins.now c.args.input.now.now;
  ends = refl;
  owes = omega arith;
}

pub bytes-preserved-then-left-eq0 : goal.bytes-preserved-then-left-eq0
bytes-preserved-then-left-eq0 c =
    let less : length c.in-Some-split_first.rest.now < length c.bytes.input.now = search rules in
    record {
      behind = pass-behind c.bytes.packet c.take_due.new.self c.pass.new.self c.bytes.dins
          c.in-Some-split_first.byte.now c.bytes.invariant.behind c.take_due.ensures.told c.pass.ensures;
      tells = then-pass (UsbHolds c.args.packet.now c.args.dins.now) c.args.input.now.now c.bytes.input.now
          c.in-Some-split_first.rest.now c.bytes.packet c.take_due.new.self c.pass.new.self c.bytes.dins
          c.in-Some-split_first.byte.now c.bytes.invariant.tells
          (sym c.take_due.ensures.due ∙ c.in_default.is) c.take_due.ensures.told (search rules) c.pass.ensures
          (search rules);
      ends = search rules;
      owes = falls c.pass.new.self (reader_at c.bytes.dins (head_of c.pass.new.self.under / 16))
          c.in-Some-split_first.rest.now c.bytes.input.now _ _ less c.bytes.invariant.owes;
    }

pub bytes-preserved : goal.bytes-preserved
bytes-preserved c =
    let over : left_of c.take_due.new.self.under ≢ 0 = search rules in
    let none = c.in_default-carry_at.ensures.none in
    let less : length c.carry_at.new.input.now < length c.bytes.input.now =
    shorter (left_of c.take_due.new.self.under) c.bytes.input.now c.in-Some-split_first.rest.now
    c.carry_at.new.input.now c.in-Some-split_first.byte.now over (search rules) none in
    record {
      behind = c.carry_at.ensures.behind;
      tells = then-carry (UsbHolds c.args.packet.now c.args.dins.now) c.args.input.now.now c.bytes.input.now
          c.in-Some-split_first.rest.now c.carry_at.new.input.now c.bytes.packet c.take_due.new.self
          c.carry_at.new.packet c.bytes.dins c.carry_at.new.dins
          c.cable-port.result c.in-Some-split_first.byte.now None c.bytes.invariant.tells (sym c.take_due.ensures.due ∙
          c.in_default.is) c.take_due.ensures.told over c.cable-port.ensures.cable c.cable-port.ensures.below
          (search rules) c.in_default-carry_at.ensures.hands c.carry_at.ensures.others;
      ends = search rules;
      owes = falls c.carry_at.new.packet (reader_at c.carry_at.new.dins (head_of c.carry_at.new.packet.under / 16))
          c.carry_at.new.input.now c.bytes.input.now _ _ less c.bytes.invariant.owes;
    }

pub returns-in-Some-clause-tells : goal.returns-in-Some-clause-tells
returns-in-Some-clause-tells c =
    then-due (UsbHolds c.args.packet.now c.args.dins.now) c.args.input.now.now c.bytes.input.now c.bytes.packet
    c.take_due.new.self c.bytes.dins c.in-Some.note c.bytes.invariant.tells
    (sym c.take_due.ensures.due ∙ c.in-Some.is) c.take_due.ensures.told

pub returns-in_default-split_first-clause-tells : goal.returns-in_default-split_first-clause-tells
returns-in_default-split_first-clause-tells c =
    then-none (UsbHolds c.args.packet.now c.args.dins.now) c.args.input.now.now c.bytes.input.now c.bytes.packet
    c.take_due.new.self c.bytes.dins c.bytes.invariant.tells
    (sym c.take_due.ensures.due ∙ c.in_default.is) c.take_due.ensures.told

pub returns-in_default-split_first-clause-all_told : goal.returns-in_default-split_first-clause-all_told
returns-in_default-split_first-clause-all_told c =
    then-all_told (UsbHolds c.args.packet.now c.args.dins.now) c.args.input.now.now c.bytes.input.now
    c.take_due.new.self c.bytes.dins (returns-in_default-split_first-clause-tells c)
    (ap (λ (p : Packets). p.due) c.take_due.ensures.told) (nil_from_length c.bytes.input.now (search rules))

pub returns-in-Some-carry_at-clause-tells : goal.returns-in-Some-carry_at-clause-tells
returns-in-Some-carry_at-clause-tells c =
    let over : left_of c.take_due.new.self.under ≢ 0 = search rules in
    then-carry (UsbHolds c.args.packet.now c.args.dins.now) c.args.input.now.now c.bytes.input.now
    c.in-Some-split_first.rest.now c.carry_at.new.input.now c.bytes.packet c.take_due.new.self c.carry_at.new.packet
    c.bytes.dins c.carry_at.new.dins
    c.cable-port.result c.in-Some-split_first.byte.now (Some c.in-Some-carry_at.seen) c.bytes.invariant.tells
    (sym c.take_due.ensures.due ∙ c.in_default.is) c.take_due.ensures.told over c.cable-port.ensures.cable
    c.cable-port.ensures.below (search rules) c.in-Some-carry_at.ensures.hands c.carry_at.ensures.others

pub returns-in-Some-carry_at-clause-few : goal.returns-in-Some-carry_at-clause-few
returns-in-Some-carry_at-clause-few c =
    omega (
      arith,
      ap length (port_signs-port c.cable-port.result (answer (Some c.in-Some-carry_at.seen))),
      c.in-Some-carry_at.ensures.few,
      c.bytes.invariant.owes,
      owed-bound c.args.packet.now (reader_at c.args.dins.now (head_of c.args.packet.now.under / 16)),
    )
