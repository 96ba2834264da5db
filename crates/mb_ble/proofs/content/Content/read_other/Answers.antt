use Rattle.std.proofs.Common.{sym, subst, ◌∙◌}
use Rattle.mb_ble.specs.Stands.{Reads}
use Rattle.mb_ble.proofs.RunLaw.{all-front, some-front}
use Rattle.mb_ble.proofs.Small.{lone_law_any}
use Rattle.mb_ble.proofs.content.Content.read_other.Goals as goal

pub returns-in-Stamped-clause-reads : goal.returns-in-Stamped-clause-reads
returns-in-Stamped-clause-reads c = subst (Reads c.args.self.now c.spend.new.self c.args.piece.now.now
    c.args.piece.now.now) (sym c.spend.ensures.told)
    (lone_law_any c.args.self.now c.spend.new.self c.args.piece.now.now c.in-Stamped.at c.is_low-low.result
    c.may_run.result (cc) c.requires.some c.is_low-low.ensures (cc) (cc) c.may_run.ensures.law
    c.spend.ensures.state)

pub returns-in-Between-clause-longest : goal.returns-in-Between-clause-longest
returns-in-Between-clause-longest c = c.read_head.ensures.longest c.read_head.new.piece.now

pub returns-in-Stamped-clause-longest : goal.returns-in-Stamped-clause-longest
returns-in-Stamped-clause-longest c = c.spend.ensures.longest c.args.piece.now.now

pub read_data-requires-clause-some : goal.read_data-requires-clause-some
read_data-requires-clause-some c = some-front c.args.piece.now.now c.run_len-len.result c.run_len-len.ensures.front
    c.requires.some (λ b bs e. c.is_low-low.ensures b bs e ∙ c.if-low-2.true)

pub read_data-requires-clause-low : goal.read_data-requires-clause-low
read_data-requires-clause-low c = all-front c.args.piece.now.now _ c.run_len-len.ensures.front
