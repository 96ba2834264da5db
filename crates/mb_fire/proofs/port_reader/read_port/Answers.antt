use Rattle.std.proofs.Common.{◌≡◌, ◌≢◌, ◌<◌, ◌∙◌, None, Some, true, [], ◌∷◌, length, sym, ap, refl, rules, arith}
use Rattle.std.proofs.lemmas.List.{nil_from_length}
use Rattle.mb_stream.specs.Told.{Notes}
use Rattle.mb_stream.specs.ReaderLaw.{answer}
use Rattle.mb_fire.specs.Under.{left_of}
use Rattle.mb_fire.specs.State.{is_of_port}
use Rattle.mb_fire.proofs.OnlyPort.{begins, is-of, then-due, then-pass, then-carry, then-none, tells-literal, tolds}
use Rattle.mb_fire.proofs.OnlyPort.{all_told-literal, undue-behind, pass-behind, carry-behind, carry-owed, due-owed}
use Rattle.mb_fire.proofs.OnlyPort.{due-same, shorter, falls}
use Rattle.mb_fire.specs.declared.under.Packets.{Packets}
use Rattle.mb_fire.proofs.PassedSteps.{then-over, over-behind, over-ends}
use Rattle.mb_fire.proofs.Steps.{undue}
use Rattle.mb_fire.proofs.HandsLemmas.{taken-fits}
use Rattle.mb_fire.proofs.port_reader.read_port.Goals as goal

pub bytes-init : goal.bytes-init
bytes-init c = record {
  behind = c.requires.behind;
  tells = begins c.args.own c.args.packet.now c.args.din.now c.args.input.now.now;
  ends = refl;
  shrinks = omega arith;
  owes = omega arith;
}

pub returns-in-Some-clause-tells : goal.returns-in-Some-clause-tells
returns-in-Some-clause-tells c =
    tells-literal c.args.own c.args.packet.now c.take_due.new.self c.args.din.now c.bytes.din c.args.input.now.now
    c.bytes.input.now ((None, Notes c.in-Some.note.at c.in-Some.note.kind) ∷ [])
    (Notes c.in-Some.note.at c.in-Some.note.kind ∷ []) refl
    (then-due c.args.own c.args.packet.now c.bytes.packet c.take_due.new.self c.args.din.now c.bytes.din
    c.args.input.now.now c.bytes.input.now c.in-Some.note c.bytes.invariant.tells (sym c.take_due.ensures.due
    ∙ c.in-Some.is) c.take_due.ensures.told)

pub returns-in-Some-clause-behind : goal.returns-in-Some-clause-behind
returns-in-Some-clause-behind c =
    undue-behind c.bytes.packet c.take_due.new.self c.bytes.din c.bytes.invariant.behind c.take_due.ensures.told

pub returns-in-Some-clause-progress : goal.returns-in-Some-clause-progress
returns-in-Some-clause-progress c =
    omega (
      arith,
      c.bytes.invariant.owes,
      due-owed c.args.own c.bytes.packet c.take_due.new.self c.bytes.din c.in-Some.note c.bytes.invariant.behind
          (sym c.take_due.ensures.due ∙ c.in-Some.is) c.take_due.ensures.told,
    )

pub returns-in_default-split_first-clause-tells : goal.returns-in_default-split_first-clause-tells
returns-in_default-split_first-clause-tells c =
    tells-literal c.args.own c.args.packet.now c.pass_whole.new.packet c.args.din.now c.bytes.din c.args.input.now.now
    c.bytes.input.now [] [] refl
    (then-none c.args.own c.args.packet.now c.bytes.packet c.pass_whole.new.packet c.args.din.now c.bytes.din
    c.args.input.now.now c.bytes.input.now c.bytes.invariant.tells (sym c.take_due.ensures.due ∙ c.in_default.is)
    (c.in_default-pass_whole.ensures.same ∙ c.take_due.ensures.told))

pub returns-in_default-split_first-clause-all_told : goal.returns-in_default-split_first-clause-all_told
returns-in_default-split_first-clause-all_told c =
    all_told-literal c.args.own c.args.packet.now c.pass_whole.new.packet c.args.din.now c.bytes.din
    c.args.input.now.now c.bytes.input.now
    (then-none c.args.own c.args.packet.now c.bytes.packet c.pass_whole.new.packet c.args.din.now c.bytes.din
    c.args.input.now.now c.bytes.input.now c.bytes.invariant.tells (sym c.take_due.ensures.due ∙ c.in_default.is)
    (c.in_default-pass_whole.ensures.same ∙ c.take_due.ensures.told))
    (undue c.bytes.packet c.pass_whole.new.packet (sym c.take_due.ensures.due ∙ c.in_default.is)
    (c.in_default-pass_whole.ensures.same ∙ c.take_due.ensures.told)).1
    (nil_from_length c.bytes.input.now (search rules))

pub returns-in_default-split_first-clause-behind : goal.returns-in_default-split_first-clause-behind
returns-in_default-split_first-clause-behind c =
    undue-behind c.bytes.packet c.pass_whole.new.packet c.bytes.din c.bytes.invariant.behind
    (c.in_default-pass_whole.ensures.same ∙ c.take_due.ensures.told)

pub bytes-preserved : goal.bytes-preserved
bytes-preserved c =
    let first : c.bytes.input.now ≡ c.in-Some-split_first.byte.now ∷ c.in-Some-split_first.rest.now = search rules in
    let less : length c.in-Some-split_first.rest.now < length c.bytes.input.now = search rules in
    record {
      behind = pass-behind c.bytes.packet c.pass_whole.new.packet c.pass.new.self c.bytes.din
          c.in-Some-split_first.byte.now c.bytes.invariant.behind (c.in_default-pass_whole.ensures.same
          ∙ c.take_due.ensures.told) c.pass.ensures;
      tells = then-pass c.args.own c.args.packet.now c.bytes.packet c.pass_whole.new.packet c.pass.new.self
          c.args.din.now c.bytes.din c.args.input.now.now c.bytes.input.now c.in-Some-split_first.rest.now
          c.in-Some-split_first.byte.now c.bytes.invariant.tells
          (sym c.take_due.ensures.due ∙ c.in_default.is) (c.in_default-pass_whole.ensures.same
          ∙ c.take_due.ensures.told) (search rules) c.pass.ensures first;
      ends = search rules;
      shrinks = omega (arith, less, c.bytes.invariant.shrinks);
      owes = falls c.args.own c.pass.new.self c.bytes.din c.in-Some-split_first.rest.now c.bytes.input.now _ _ less
          c.bytes.invariant.owes;
    }

pub bytes-preserved-in_default-carry : goal.bytes-preserved-in_default-carry
bytes-preserved-in_default-carry c =
    let of_it : is_of_port c.args.own c.pass_whole.new.packet.under ≡ true = sym c.is_of.ensures ∙ c.if-is_of.true in
    let over : left_of c.pass_whole.new.packet.under ≢ 0 = (is-of c.args.own c.pass_whole.new.packet.under of_it).0 in
    let less : length c.carry.new.input.now < length c.bytes.input.now =
    shorter (left_of c.pass_whole.new.packet.under) c.bytes.input.now c.in-Some-split_first.rest.now
    c.carry.new.input.now c.in-Some-split_first.byte.now over (search rules) c.in_default-carry.ensures.none in
    record {
      behind = carry-behind c.pass_whole.new.packet c.carry.new.packet c.bytes.din c.carry.new.din c.bytes.input.now
          c.carry.new.input.now _ (undue-behind c.bytes.packet c.pass_whole.new.packet c.bytes.din
          c.bytes.invariant.behind (c.in_default-pass_whole.ensures.same ∙ c.take_due.ensures.told))
          c.carry.ensures.hands c.carry.ensures.at;
      tells = then-carry c.args.own c.args.packet.now c.bytes.packet c.pass_whole.new.packet c.carry.new.packet
          c.args.din.now c.bytes.din c.carry.new.din c.args.input.now.now c.bytes.input.now
          c.in-Some-split_first.rest.now c.carry.new.input.now c.in-Some-split_first.byte.now None
          c.bytes.invariant.tells
          (sym c.take_due.ensures.due ∙ c.in_default.is) (c.in_default-pass_whole.ensures.same
          ∙ c.take_due.ensures.told) of_it (search rules) c.in_default-carry.ensures.hands;
      ends = search rules;
      shrinks = omega (arith, less, c.bytes.invariant.shrinks);
      owes = falls c.args.own c.carry.new.packet c.carry.new.din c.carry.new.input.now c.bytes.input.now _ _ less
          c.bytes.invariant.owes;
    }

pub returns-in-Some-carry-clause-behind : goal.returns-in-Some-carry-clause-behind
returns-in-Some-carry-clause-behind c =
    carry-behind c.pass_whole.new.packet c.carry.new.packet c.bytes.din c.carry.new.din c.bytes.input.now
    c.carry.new.input.now _ (undue-behind c.bytes.packet c.pass_whole.new.packet c.bytes.din
    c.bytes.invariant.behind (c.in_default-pass_whole.ensures.same ∙ c.take_due.ensures.told)) c.carry.ensures.hands
    c.carry.ensures.at

pub returns-in-Some-carry-clause-tells : goal.returns-in-Some-carry-clause-tells
returns-in-Some-carry-clause-tells c =
    let of_it : is_of_port c.args.own c.pass_whole.new.packet.under ≡ true = sym c.is_of.ensures ∙ c.if-is_of.true in
    tells-literal c.args.own c.args.packet.now c.carry.new.packet c.args.din.now c.carry.new.din c.args.input.now.now
    c.carry.new.input.now _ (answer (Some c.in-Some-carry.seen)) (tolds (answer (Some c.in-Some-carry.seen)))
    (then-carry c.args.own c.args.packet.now c.bytes.packet c.pass_whole.new.packet c.carry.new.packet c.args.din.now
    c.bytes.din c.carry.new.din c.args.input.now.now c.bytes.input.now c.in-Some-split_first.rest.now
    c.carry.new.input.now c.in-Some-split_first.byte.now (Some c.in-Some-carry.seen) c.bytes.invariant.tells
    (sym c.take_due.ensures.due ∙ c.in_default.is) (c.in_default-pass_whole.ensures.same ∙ c.take_due.ensures.told)
    of_it (search rules) c.in-Some-carry.ensures.hands)

pub returns-in-Some-carry-clause-progress : goal.returns-in-Some-carry-clause-progress
returns-in-Some-carry-clause-progress c =
    let of_it : is_of_port c.args.own c.pass_whole.new.packet.under ≡ true = sym c.is_of.ensures ∙ c.if-is_of.true in
    let due = undue c.bytes.packet c.pass_whole.new.packet (sym c.take_due.ensures.due ∙ c.in_default.is)
    (c.in_default-pass_whole.ensures.same ∙ c.take_due.ensures.told) in
    let h = c.in-Some-carry.ensures.hands in
    let owes = carry-owed c.args.own c.pass_whole.new.packet c.carry.new.packet c.bytes.din c.carry.new.din
    c.bytes.input.now c.carry.new.input.now (answer (Some c.in-Some-carry.seen)) h due.1 of_it
    (taken-fits c.pass_whole.new.packet c.carry.new.packet c.bytes.din c.carry.new.din c.bytes.input.now
    c.carry.new.input.now (answer (Some c.in-Some-carry.seen)) h) c.in-Some-carry.ensures.progress in
    omega (
      arith,
      owes,
      due-same c.args.own c.bytes.packet c.pass_whole.new.packet c.bytes.din due.0,
      c.bytes.invariant.owes,
    )

pub bytes-preserved-in-Some-pass_whole : goal.bytes-preserved-in-Some-pass_whole
bytes-preserved-in-Some-pass_whole c =
    let due = sym c.take_due.ensures.due ∙ c.in_default.is in
    let over = c.in-Some-pass_whole.ensures.passed in
    let less : length c.in-Some-pass_whole.left.now < length c.bytes.input.now = c.in-Some-pass_whole.ensures.fewer in
    record {
      behind = over-behind c.args.own c.bytes.packet c.take_due.new.self c.pass_whole.new.packet c.bytes.din
          c.bytes.input.now c.in-Some-pass_whole.left.now c.bytes.invariant.behind c.take_due.ensures.told over;
      tells = then-over c.args.own c.args.packet.now c.bytes.packet c.take_due.new.self c.pass_whole.new.packet
          c.args.din.now c.bytes.din c.args.input.now.now c.bytes.input.now c.in-Some-pass_whole.left.now
          c.bytes.invariant.tells due c.take_due.ensures.told over;
      ends = omega (
        arith,
        over-ends c.args.own c.take_due.new.self c.pass_whole.new.packet c.bytes.input.now
            c.in-Some-pass_whole.left.now over,
        ap (λ (p : Packets). p.offset) c.take_due.ensures.told,
        c.bytes.invariant.ends,
      );
      shrinks = omega (arith, less, c.bytes.invariant.shrinks);
      owes = falls c.args.own c.pass_whole.new.packet c.bytes.din c.in-Some-pass_whole.left.now c.bytes.input.now
          _ _ less c.bytes.invariant.owes;
    }

pub returns-in-Some-carry-clause-few : goal.returns-in-Some-carry-clause-few
returns-in-Some-carry-clause-few c = omega (arith, c.in-Some-carry.ensures.few, c.bytes.invariant.shrinks)
