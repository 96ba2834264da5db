use Rattle.std.proofs.Common.{◌≡◌, length, min, take, drop, sym, subst, arith, rules}
use Rattle.mb_usb.specs.Under.{left_of}
use Rattle.mb_usb.specs.Hands.{Hands}
use Rattle.mb_stream.specs.ReaderLaw.{answer, StatusNext}
use Rattle.mb_usb.proofs.HandsLemmas.{hands-kept, hands-end, hands-at}
use Rattle.mb_usb.proofs.Longest.{longest, status-stays}
use Rattle.mb_usb.proofs.carry.carry.Goals as goal

both : (c : goal.After-pass_all) →
    (h : Hands c.args.packet.now c.pass_all.new.self c.args.din.now c.next-seen.new.self c.args.input.now.now
    c.split_at-2.result.1.now (answer c.next-seen.result)) × (h.kept ≡ c.next-seen.new.input.now)
both c =
    let piece : c.split_at.result.0.now ≡ take (min (length c.args.input.now.now) (left_of c.args.packet.now.under))
    c.args.input.now.now = grind arith in
    hands-kept c.args.packet.now c.pass_all.new.self c.args.din.now c.place.new.self c.next-seen.new.self
    c.args.input.now.now c.split_at.result.0.now c.next-seen.new.input.now c.split_at-2.result.0.now
    c.split_at-2.result.1.now _ (answer c.next-seen.result)
    piece c.place.ensures.same c.next-seen.ensures.front (search rules) c.split_at-2.ensures.front
    c.split_at-2.ensures.back c.pass_all.ensures c.place.ensures.stands c.next-seen.ensures.stands

pub returns-clause-hands : goal.returns-clause-hands
returns-clause-hands c = (both c).0

pub returns-clause-longest : goal.returns-clause-longest
returns-clause-longest c =
    let h = both c in
    longest c.args.packet.now c.pass_all.new.self c.args.din.now c.next-seen.new.self c.args.input.now.now
    c.split_at-2.result.1.now c.next-seen.new.input.now c.next-seen.result h.0 h.1 c.next-seen.ensures.longest

pub returns-clause-before : goal.returns-clause-before
returns-clause-before c e =
    let h = both c in
    let told = c.next-seen.ensures.before e in
    let own : StatusNext h.0.kept = subst StatusNext (sym h.1) told.0 in (
      subst StatusNext (sym h.0.left_is) (status-stays h.0.kept (drop (left_of c.args.packet.now.under)
          c.args.input.now.now) own),
      told.1,
    )

pub returns-clause-end : goal.returns-clause-end
returns-clause-end c = hands-end c.args.packet.now c.pass_all.new.self c.args.din.now c.next-seen.new.self
    c.args.input.now.now c.split_at-2.result.1.now _ (both c).0

pub returns-clause-at : goal.returns-clause-at
returns-clause-at c = hands-at c.args.packet.now c.pass_all.new.self c.args.din.now c.next-seen.new.self
    c.args.input.now.now c.split_at-2.result.1.now _ (both c).0
