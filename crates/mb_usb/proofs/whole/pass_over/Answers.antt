use Rattle.std.proofs.Common.{◌∷◌, ℕ, List, sym, subst, get_or, take, drop, length, ◌-◌}
use Rattle.mb_usb.specs.Whole.{PassedOver}
use Rattle.mb_usb.proofs.WholePackets.{one-passed, four-passed, front-three}
use Rattle.mb_usb.proofs.whole.pass_over.Goals as goal

pub returns-in-len3-up-clause-passed : goal.returns-in-len3-up-clause-passed
returns-in-len3-up-clause-passed c =
    let rest = c.args.rest.now in
    let left : List ℕ = take (length rest - 3) (drop 3 rest) in
    subst (λ (z : List ℕ). PassedOver c.args.own c.args.packet.now c.pass_whole.new.self (c.args.byte ∷ z) left)
    (sym (front-three rest c.in-len3-up.len_at_least))
    (four-passed c.args.own c.args.packet.now c.pass_whole.new.self c.args.byte (get_or rest 0 0) (get_or rest 1 0)
    (get_or rest 2 0) left
    c.requires.rested c.requires.other c.if-is_others.ensures.between c.if-is_others.ensures.other
    c.if-is_others.ensures.carries c.pass_whole.ensures)

pub returns-clause-passed : goal.returns-clause-passed
returns-clause-passed c = one-passed c.args.own c.args.packet.now c.pass.new.self c.args.byte c.args.rest.now
    c.requires.rested c.requires.other c.pass.ensures
