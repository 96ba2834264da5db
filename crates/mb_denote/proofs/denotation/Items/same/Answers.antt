use Rattle.std.proofs.Common.{rules}
use Rattle.std.proofs.lemmas.Slice.Eq.{slice_eq-Decides}
use Rattle.mb_denote.proofs.Equality.{item_decides, meant_same}
use Rattle.mb_denote.proofs.denotation.Items.same.Goals as goal

pub returns-clause-list : goal.returns-clause-list
returns-clause-list c = slice_eq-Decides item_decides c.args.self.now c.args.other.now c.eq.result (search rules)

pub returns-clause-meaning : goal.returns-clause-meaning
returns-clause-meaning c = meant_same c.eq.result c.args.self.now c.args.other.now (returns-clause-list c)
