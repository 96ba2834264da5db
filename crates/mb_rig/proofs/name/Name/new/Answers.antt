use Rattle.mb_rig.proofs.LineLemmas.{printed-text}
use Rattle.mb_rig.proofs.name.Name.new.Goals as goal

pub unreachable-requires : goal.unreachable-requires
unreachable-requires c = c.in_default.ensures.cases.0 (printed-text c.args.bytes.now c.requires)
