use Rattle.std.proofs.Common.{◌≡◌, ◌+◌, ◌<◌, ◌≤◌, ◌++◌, length, map, arith, ap, ap₂, sym, ◌∙◌}
use Rattle.std.proofs.lemmas.List.{length-append}
use Rattle.mb_message.specs.Signs.{ByteSign}
use Rattle.mb_ble.specs.UnderWay.{OpenPacket, after_all, given_all}
use Rattle.mb_ble.proofs.DataRuns.{Filled, filled, some_left}
use Rattle.mb_ble.proofs.Whole.{take-drop}
use Rattle.mb_ble.proofs.under_way.UnderWay.put_run.Goals as goal

pub bytes-preserved : goal.bytes-preserved
bytes-preserved c =
    let some : 0 < length c.bytes.rest.now = some_left c.bytes.rest.now c.is_empty.result c.is_empty.ensures
    c.bytes-test.true in
    let whole : c.split_at.result.0.now ++ c.split_at.result.1.now ≡ c.bytes.rest.now =
    ap₂ (λ x y. x ++ y) c.split_at.ensures.front c.split_at.ensures.back ∙
    sym (take-drop c.min.result c.bytes.rest.now) in
    let sum : length c.split_at.result.0.now + length c.split_at.result.1.now ≡ length c.bytes.rest.now =
    sym (length-append c.split_at.result.0.now c.split_at.result.1.now) ∙ ap length whole in
    let one : 0 < length c.split_at.result.0.now = omega (
      arith,
      some,
      c.min.ensures,
      c.free.ensures,
      c.make_room.ensures.fits,
      c.split_at.ensures.front_len,
    ) in
    let fits : length c.make_room.new.self.content + 1 + length c.split_at.result.0.now ≤ c.make_room.new.self.size =
    omega (arith, c.min.ensures, c.free.ensures, c.split_at.ensures.front_len) in
    let f : Filled c.make_room.new.self c.args.moment c.split_at.result.0.now c.split_at.result.1.now =
    filled c.split_at.result.0.now c.split_at.result.1.now c.make_room.new.self c.args.moment one fits in
    let len : length c.add_data.new.self.content ≡ length c.make_room.new.self.content +
    length c.split_at.result.0.now =
    ap (λ (p : OpenPacket). length p.content) c.add_data.ensures.state ∙ length-append c.make_room.new.self.content
    c.split_at.result.0.now in
    record {
      room = omega (arith, c.make_room.ensures.len, c.bytes.invariant.room, len, sum, one);
      state =
          ap (λ p. after_all p c.args.moment (map ByteSign c.split_at.result.1.now)) c.add_data.ensures.state ∙ f.state
          ∙ ap (λ z. after_all c.make_room.new.self c.args.moment (map ByteSign z)) whole
          ∙ c.make_room.ensures.state c.args.moment c.bytes.rest.now some ∙ c.bytes.invariant.state;
      given =
          ap (λ p. c.make_room.new.out.items ++ given_all p c.args.moment (map ByteSign c.split_at.result.1.now))
          c.add_data.ensures.state
          ∙ ap (λ z. c.make_room.new.out.items ++ z) f.given
          ∙ ap (λ z. c.make_room.new.out.items ++ given_all c.make_room.new.self c.args.moment (map ByteSign z)) whole
          ∙ c.make_room.ensures.given c.args.moment c.bytes.rest.now some ∙ c.bytes.invariant.given;
    }
