use Rattle.std.proofs.Common.{◌≡◌, ◌≢◌, ◌<◌, ◌∙◌, ℕ, None, Some, true, List, [], ◌∷◌, ap, subst, length, sym, refl}
use Rattle.std.proofs.Common.{rules, arith}
use Rattle.std.proofs.lemmas.List.{nil_from_length}
use Rattle.mb_stream.specs.Told.{Notes}
use Rattle.mb_stream.specs.ReaderLaw.{answer}
use Rattle.mb_usb.specs.declared.under.Packets.{Packets}
use Rattle.mb_usb.specs.Under.{left_of, is_of_cable}
use Rattle.mb_usb.specs.State.{owed_alone}
use Rattle.mb_usb.proofs.ReadLemmas.{shorter}
use Rattle.mb_usb.specs.Whole.{PassedOver}
use Rattle.mb_usb.proofs.WholePackets.{then-packet, then-over, over-behind, over-ends, packet-few}
use Rattle.mb_usb.proofs.OnlyCable.{kept-tells, kept-behind, kept-owes, begins, is-of, then-due, then-carry, then-none}
use Rattle.mb_usb.proofs.OnlyCable.{tells-literal, tolds, all_told-literal, undue-behind, carry-behind, carry-owed}
use Rattle.mb_usb.proofs.OnlyCable.{falls, owed-bound}
use Rattle.mb_usb.proofs.Steps.{same-undue}
use Rattle.mb_usb.proofs.cable.read_cable.Goals as goal

pub bytes-init : goal.bytes-init
bytes-init c = record {
  behind = c.requires.behind;
  tells = begins c.args.own c.args.packet.now c.args.din.now c.args.input.now.now;
  ends = refl;
  owes = omega arith;
}

pub returns-in-Some-clause-tells : goal.returns-in-Some-clause-tells
returns-in-Some-clause-tells c =
    tells-literal c.args.own c.args.packet.now c.take_due.new.self c.args.din.now c.bytes.din c.args.input.now.now
    c.bytes.input.now ((None, Notes c.in-Some.note.at c.in-Some.note.kind) ∷ [])
    (Notes c.in-Some.note.at c.in-Some.note.kind ∷ []) refl
    (then-due c.args.own c.args.packet.now c.bytes.packet c.take_due.new.self c.args.din.now c.bytes.din
    c.args.input.now.now c.bytes.input.now c.in-Some.note c.bytes.invariant.tells (sym c.take_due.ensures.due ∙
    c.in-Some.is) c.take_due.ensures.told)

pub returns-in-Some-take_packet-clause-tells : goal.returns-in-Some-take_packet-clause-tells
returns-in-Some-take_packet-clause-tells c =
    tells-literal c.args.own c.args.packet.now c.take_packet.new.packet c.args.din.now c.take_packet.new.din
    c.args.input.now.now c.take_packet.new.input.now _ (answer (Some c.in-Some-take_packet.seen))
    (tolds (answer (Some c.in-Some-take_packet.seen)))
    (then-packet c.args.own c.args.packet.now c.bytes.packet c.take_due.new.self c.take_packet.new.packet c.args.din.now
    c.bytes.din c.take_packet.new.din c.args.input.now.now c.bytes.input.now c.take_packet.new.input.now
    (answer (Some c.in-Some-take_packet.seen)) c.bytes.invariant.tells
    (sym c.take_due.ensures.due ∙ c.in_default.is) c.take_due.ensures.told c.in-Some-take_packet.ensures.whole)

pub returns-in_default-split_first-clause-tells : goal.returns-in_default-split_first-clause-tells
returns-in_default-split_first-clause-tells c =
    tells-literal c.args.own c.args.packet.now c.take_packet.new.packet c.args.din.now c.take_packet.new.din
    c.args.input.now.now c.take_packet.new.input.now [] [] refl
    (then-none c.args.own c.args.packet.now c.bytes.packet c.take_packet.new.packet c.args.din.now c.take_packet.new.din
    c.args.input.now.now c.take_packet.new.input.now (kept-tells c.args.own c.args.packet.now c.bytes.packet
    c.args.din.now c.bytes.din c.take_packet.new.din c.args.input.now.now c.bytes.input.now
    c.take_packet.new.input.now c.bytes.invariant.tells c.in_default-take_packet.ensures.reader
    c.in_default-take_packet.ensures.input) (sym c.take_due.ensures.due ∙ c.in_default.is)
    (c.in_default-take_packet.ensures.packet ∙ c.take_due.ensures.told))

pub returns-in_default-split_first-clause-all_told : goal.returns-in_default-split_first-clause-all_told
returns-in_default-split_first-clause-all_told c =
    all_told-literal c.args.own c.args.packet.now c.take_packet.new.packet c.args.din.now c.take_packet.new.din
    c.args.input.now.now c.take_packet.new.input.now
    (then-none c.args.own c.args.packet.now c.bytes.packet c.take_packet.new.packet c.args.din.now c.take_packet.new.din
    c.args.input.now.now c.take_packet.new.input.now (kept-tells c.args.own c.args.packet.now c.bytes.packet
    c.args.din.now c.bytes.din c.take_packet.new.din c.args.input.now.now c.bytes.input.now
    c.take_packet.new.input.now c.bytes.invariant.tells c.in_default-take_packet.ensures.reader
    c.in_default-take_packet.ensures.input) (sym c.take_due.ensures.due ∙ c.in_default.is)
    (c.in_default-take_packet.ensures.packet ∙ c.take_due.ensures.told))
    (ap (λ (p : Packets). p.due) (c.in_default-take_packet.ensures.packet ∙ c.take_due.ensures.told))
    (nil_from_length c.take_packet.new.input.now (search rules))

pub bytes-preserved : goal.bytes-preserved
bytes-preserved c =
    let first : c.take_packet.new.input.now ≡ c.in-Some-split_first.byte.now ∷ c.in-Some-split_first.rest.now =
    search rules in
    let over = subst (λ (z : List ℕ). PassedOver c.args.own c.take_packet.new.packet c.pass_over.new.packet z
    c.pass_over.result.now) (sym first) c.pass_over.ensures.passed in
    let before = kept-tells c.args.own c.args.packet.now c.bytes.packet c.args.din.now c.bytes.din c.take_packet.new.din
    c.args.input.now.now c.bytes.input.now c.take_packet.new.input.now c.bytes.invariant.tells
    c.in_default-take_packet.ensures.reader c.in_default-take_packet.ensures.input in
    let same = c.in_default-take_packet.ensures.packet ∙ c.take_due.ensures.told in
    let less : length c.pass_over.result.now < length c.take_packet.new.input.now =
    omega (arith, c.pass_over.ensures.fewer, ap length first) in
    record {
      behind = over-behind c.args.own c.bytes.packet c.take_packet.new.packet c.pass_over.new.packet
          c.take_packet.new.din c.take_packet.new.input.now c.pass_over.result.now
          (kept-behind c.bytes.packet c.bytes.din c.take_packet.new.din c.bytes.invariant.behind
          c.in_default-take_packet.ensures.reader) same over;
      tells = then-over c.args.own c.args.packet.now c.bytes.packet c.take_packet.new.packet c.pass_over.new.packet
          c.args.din.now c.take_packet.new.din c.args.input.now.now c.take_packet.new.input.now c.pass_over.result.now
          before
          (sym c.take_due.ensures.due ∙ c.in_default.is) same over;
      ends = omega (
        arith,
        over-ends c.args.own c.take_packet.new.packet c.pass_over.new.packet
            c.take_packet.new.input.now c.pass_over.result.now over,
        ap (λ (p : Packets). p.offset) same,
        ap length c.in_default-take_packet.ensures.input,
        c.bytes.invariant.ends,
      );
      owes = falls c.args.own c.pass_over.new.packet c.take_packet.new.din c.pass_over.result.now
          c.take_packet.new.input.now _ _ less (kept-owes c.args.own c.bytes.packet c.bytes.din c.take_packet.new.din
          c.bytes.input.now c.take_packet.new.input.now _ c.bytes.invariant.owes c.in_default-take_packet.ensures.reader
          c.in_default-take_packet.ensures.input);
    }

pub bytes-preserved-in_default-carry : goal.bytes-preserved-in_default-carry
bytes-preserved-in_default-carry c =
    let of_it : is_of_cable c.args.own c.take_packet.new.packet.under ≡ true = sym c.is_of.ensures ∙ c.if-is_of.true in
    let over : left_of c.take_packet.new.packet.under ≢ 0 = (is-of c.args.own c.take_packet.new.packet.under of_it).0 in
    let less : length c.carry.new.input.now < length c.take_packet.new.input.now =
    shorter (left_of c.take_packet.new.packet.under) c.take_packet.new.input.now c.in-Some-split_first.rest.now
    c.carry.new.input.now c.in-Some-split_first.byte.now over (search rules) c.in_default-carry.ensures.none in
    record {
      behind = carry-behind c.take_packet.new.packet c.carry.new.packet c.take_packet.new.din c.carry.new.din
          c.take_packet.new.input.now c.carry.new.input.now _ (undue-behind c.bytes.packet c.take_packet.new.packet
          c.take_packet.new.din (kept-behind c.bytes.packet c.bytes.din c.take_packet.new.din c.bytes.invariant.behind
          c.in_default-take_packet.ensures.reader) (c.in_default-take_packet.ensures.packet ∙ c.take_due.ensures.told))
          c.carry.ensures.hands c.carry.ensures.at;
      tells = then-carry c.args.own c.args.packet.now c.bytes.packet c.take_packet.new.packet c.carry.new.packet
          c.args.din.now c.take_packet.new.din c.carry.new.din c.args.input.now.now c.take_packet.new.input.now
          c.in-Some-split_first.rest.now c.carry.new.input.now c.in-Some-split_first.byte.now None
          (kept-tells c.args.own c.args.packet.now c.bytes.packet c.args.din.now c.bytes.din c.take_packet.new.din
          c.args.input.now.now c.bytes.input.now c.take_packet.new.input.now c.bytes.invariant.tells
          c.in_default-take_packet.ensures.reader c.in_default-take_packet.ensures.input)
          (sym c.take_due.ensures.due ∙ c.in_default.is) (c.in_default-take_packet.ensures.packet ∙
          c.take_due.ensures.told) of_it (search rules) c.in_default-carry.ensures.hands;
      ends = search rules;
      owes = falls c.args.own c.carry.new.packet c.carry.new.din c.carry.new.input.now c.take_packet.new.input.now _ _
          less (kept-owes c.args.own c.bytes.packet c.bytes.din c.take_packet.new.din c.bytes.input.now
          c.take_packet.new.input.now _ c.bytes.invariant.owes c.in_default-take_packet.ensures.reader
          c.in_default-take_packet.ensures.input);
    }

pub returns-in-Some-carry-clause-behind : goal.returns-in-Some-carry-clause-behind
returns-in-Some-carry-clause-behind c =
    carry-behind c.take_packet.new.packet c.carry.new.packet c.take_packet.new.din c.carry.new.din
    c.take_packet.new.input.now c.carry.new.input.now _ (undue-behind c.bytes.packet c.take_packet.new.packet
    c.take_packet.new.din (kept-behind c.bytes.packet c.bytes.din c.take_packet.new.din c.bytes.invariant.behind
    c.in_default-take_packet.ensures.reader) (c.in_default-take_packet.ensures.packet ∙ c.take_due.ensures.told))
    c.carry.ensures.hands c.carry.ensures.at

pub returns-in-Some-carry-clause-tells : goal.returns-in-Some-carry-clause-tells
returns-in-Some-carry-clause-tells c =
    let of_it : is_of_cable c.args.own c.take_packet.new.packet.under ≡ true = sym c.is_of.ensures ∙ c.if-is_of.true in
    tells-literal c.args.own c.args.packet.now c.carry.new.packet c.args.din.now c.carry.new.din c.args.input.now.now
    c.carry.new.input.now _ (answer (Some c.in-Some-carry.seen)) (tolds (answer (Some c.in-Some-carry.seen)))
    (then-carry c.args.own c.args.packet.now c.bytes.packet c.take_packet.new.packet c.carry.new.packet c.args.din.now
    c.take_packet.new.din c.carry.new.din c.args.input.now.now c.take_packet.new.input.now
    c.in-Some-split_first.rest.now c.carry.new.input.now c.in-Some-split_first.byte.now (Some c.in-Some-carry.seen)
    (kept-tells c.args.own c.args.packet.now c.bytes.packet c.args.din.now c.bytes.din c.take_packet.new.din
    c.args.input.now.now c.bytes.input.now c.take_packet.new.input.now c.bytes.invariant.tells
    c.in_default-take_packet.ensures.reader c.in_default-take_packet.ensures.input)
    (sym c.take_due.ensures.due ∙ c.in_default.is) (c.in_default-take_packet.ensures.packet ∙ c.take_due.ensures.told)
    of_it (search rules) c.in-Some-carry.ensures.hands)

pub returns-in-Some-carry-clause-progress : goal.returns-in-Some-carry-clause-progress
returns-in-Some-carry-clause-progress c =
    let of_it : is_of_cable c.args.own c.take_packet.new.packet.under ≡ true = sym c.is_of.ensures ∙ c.if-is_of.true in
    let same = same-undue c.bytes.packet c.take_packet.new.packet (sym c.take_due.ensures.due ∙ c.in_default.is)
    (c.in_default-take_packet.ensures.packet ∙ c.take_due.ensures.told) in
    let owes : owed_alone c.args.own c.bytes.packet c.take_packet.new.din ≡ owed_alone c.args.own
    c.take_packet.new.packet c.take_packet.new.din = ap (λ (p : Packets).
    owed_alone c.args.own p c.take_packet.new.din) same in
    omega (
      arith,
      owes,
      (kept-owes c.args.own c.bytes.packet c.bytes.din c.take_packet.new.din c.bytes.input.now
          c.take_packet.new.input.now _ c.bytes.invariant.owes c.in_default-take_packet.ensures.reader
          c.in_default-take_packet.ensures.input),
      carry-owed c.args.own c.take_packet.new.packet c.carry.new.packet c.take_packet.new.din c.carry.new.din
          c.take_packet.new.input.now c.carry.new.input.now (answer (Some c.in-Some-carry.seen))
          c.in-Some-carry.ensures.hands (ap (λ (p : Packets). p.due) (c.in_default-take_packet.ensures.packet ∙
          c.take_due.ensures.told)) of_it c.in-Some-carry.ensures.progress,
    )

pub returns-in-Some-take_packet-clause-few : goal.returns-in-Some-take_packet-clause-few
returns-in-Some-take_packet-clause-few c =
    let own = packet-few c.args.own _ _ _ _ c.bytes.input.now _ (answer (Some c.in-Some-take_packet.seen))
    c.in-Some-take_packet.ensures.whole in
    omega (arith, own, c.bytes.invariant.owes, owed-bound c.args.own c.args.packet.now c.args.din.now)

pub returns-in-Some-carry-clause-few : goal.returns-in-Some-carry-clause-few
returns-in-Some-carry-clause-few c =
    omega (
      arith,
      c.in-Some-carry.ensures.few,
      ap length c.in_default-take_packet.ensures.input,
      c.bytes.invariant.owes,
      owed-bound c.args.own c.args.packet.now c.args.din.now,
    )
