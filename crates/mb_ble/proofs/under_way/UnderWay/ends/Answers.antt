use Rattle.std.proofs.Common.{◌≡◌, length, arith, subst}
use Rattle.mb_message.specs.Signs.{sign_of}
use Rattle.mb_ble.specs.Written.{spelling_at}
use Rattle.mb_ble.specs.UnderWay.{OpenPacket, ends_in}
use Rattle.mb_ble.proofs.WriterLemmas.{short_spelling}
use Rattle.mb_ble.proofs.under_way.UnderWay.ends.Goals as goal

pub overflow_add-len-2 : goal.overflow_add-len-2
overflow_add-len-2 c = omega (
  arith,
  c.spelled_len.ensures.len c.args.moment,
  short_spelling c.self.inside.running
      c.args.moment (sign_of c.args.mark),
)

pub returns : goal.returns
returns c = subst (λ (w : OpenPacket). c.must_end.result ≡ ends_in w (record {
  moment = c.args.moment;
  mark =
      sign_of c.args.mark;
})) c.self.view_is
    (let spelled : c.spelled_len.result ≡ length (spelling_at c.self.inside.running (record {
      moment = c.args.moment;
      mark = sign_of c.args.mark;
    })) = c.spelled_len.ensures.len c.args.moment in
    let len : c.len.result ≡ length c.self.inside.content.items = c.len.ensures.value in
    let none = c.is_empty.ensures in
    let far = c.is_far.ensures in
    let fall = c.falls.ensures in
    let all = c.must_end.ensures in
    cc)
