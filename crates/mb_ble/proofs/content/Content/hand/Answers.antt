use Rattle.mb_stream.specs.ReaderLaw.{answer}
use Rattle.mb_ble.proofs.Hands.{hands_lem, common_short}
use Rattle.mb_ble.proofs.Halts.{runs_of}
use Rattle.mb_ble.proofs.content.Content.hand.Goals as goal

pub returns-clause-hands : goal.returns-clause-hands
returns-clause-hands c = hands_lem _ c.place.new.self _ _ _ _ _ c.place.ensures.offset c.next.ensures.end
    c.place.ensures.same c.place.ensures.stands c.next.ensures.stands

pub returns-clause-free : goal.returns-clause-free
returns-clause-free c = λ e. c.next.ensures.free (common_short (answer c.next.result) e)

pub returns-clause-runs : goal.returns-clause-runs
returns-clause-runs c = λ e. runs_of c.args.self.now.din c.place.new.self c.args.self.now.offset c.args.piece.now.now
    c.place.ensures.same (c.next.ensures.runs e)
