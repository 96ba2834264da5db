use Rattle.mb_rewrite.proofs.FilterLemmas.{new-stands}
use Rattle.mb_rewrite.proofs.filtering.Filtering.new.Goals as goal

pub returns-clause-stands : goal.returns-clause-stands
returns-clause-stands c =
    new-stands (record { track = c.new.result; mapper = c.new-2.result; line = c.new-3.result }) c.args.rules
    c.new.ensures.told c.new.ensures.track c.new.ensures.offset c.new-2.ensures c.new-3.ensures.stands c.new-3.ensures.begun
