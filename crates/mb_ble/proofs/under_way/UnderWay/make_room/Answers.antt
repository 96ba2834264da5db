use Rattle.std.proofs.Common.{◌++◌, map, arith, ap, ◌∙◌}
use Rattle.mb_message.specs.Signs.{ByteSign}
use Rattle.mb_ble.specs.UnderWay.{OpenPacket, after_all, given_all}
use Rattle.mb_ble.proofs.DataRuns.{full_state, full_given}
use Rattle.mb_ble.proofs.under_way.UnderWay.make_room.Goals as goal

pub returns-then-free-eq0-clause-state : goal.returns-then-free-eq0-clause-state
returns-then-free-eq0-clause-state c = λ moment bytes some.
    ap (λ p. after_all p moment (map ByteSign bytes)) c.flush.ensures.state
    ∙ full_state c.args.self.now moment bytes (omega (arith, c.free.ensures, c.if-free-eq0.true))
    (omega (arith, c.self.invariant.0, ap (λ (w : OpenPacket). w.size) c.self.view_is)) some

pub returns-then-free-eq0-clause-given : goal.returns-then-free-eq0-clause-given
returns-then-free-eq0-clause-given c = λ moment bytes some.
    ap (λ p. c.flush.new.out.items ++ given_all p moment (map ByteSign bytes)) c.flush.ensures.state
    ∙ ap (λ z. z ++ given_all (Rattle.mb_ble.specs.UnderWay.nothing c.args.self.now.size) moment (map ByteSign bytes))
    c.flush.ensures.given
    ∙ full_given c.args.self.now moment bytes c.args.out.now.items (omega (arith, c.free.ensures, c.if-free-eq0.true))
    (omega (arith, c.self.invariant.0, ap (λ (w : OpenPacket). w.size) c.self.view_is)) some
