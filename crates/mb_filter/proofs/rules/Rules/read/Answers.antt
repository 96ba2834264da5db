use Rattle.mb_filter.proofs.ReadLemmas.{read-fault}
use Rattle.mb_filter.proofs.rules.Rules.read.Goals as goal

pub returns-in-Err : goal.returns-in-Err
returns-in-Err c =
    read-fault c.args.text.now _ c.lines.rules c.lines.rest.now c.in-Some.line.now c.next_line.new.text.now
    c.in-Err.fault
    c.if-text-gt-LONGEST.false c.lines.invariant.read c.in-Some.ensures.some c.in-Err.ensures
