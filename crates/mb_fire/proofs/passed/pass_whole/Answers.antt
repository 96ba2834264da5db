use Rattle.mb_fire.proofs.PassedLemmas.{passed-five, none-passed}
use Rattle.mb_fire.proofs.passed.pass_whole.Goals as goal

pub returns-then-left-input-clause-passed : goal.returns-then-left-input-clause-passed
returns-then-left-input-clause-passed c =
    passed-five c.args.own c.args.packet.now c.pass_header-blocks.new.packet c.pass_rest-quadlets.new.packet
    c.pass_quiet-last.new.packet c.pass_quadlet-label.new.packet c.pass_label-left.new.packet
    c.args.input.now c.pass_header-blocks.result.now c.pass_rest-quadlets.result.now c.pass_quiet-last.result.now
    c.pass_quadlet-label.result.now c.pass_label-left.result.now
    (c.pass_header-blocks.ensures.passed c.args.own) (c.pass_rest-quadlets.ensures.passed c.args.own)
    c.pass_quiet-last.ensures.passed c.pass_quadlet-label.ensures.passed
    (c.pass_label-left.ensures.passed c.args.own)

pub returns-else-left-input-clause-same : goal.returns-else-left-input-clause-same
returns-else-left-input-clause-same c =
    none-passed c.args.own c.args.packet.now c.pass_label-left.new.packet c.args.input.now c.pass_label-left.result.now
    (passed-five c.args.own c.args.packet.now c.pass_header-blocks.new.packet c.pass_rest-quadlets.new.packet
    c.pass_quiet-last.new.packet c.pass_quadlet-label.new.packet c.pass_label-left.new.packet
    c.args.input.now c.pass_header-blocks.result.now c.pass_rest-quadlets.result.now c.pass_quiet-last.result.now
    c.pass_quadlet-label.result.now c.pass_label-left.result.now
    (c.pass_header-blocks.ensures.passed c.args.own) (c.pass_rest-quadlets.ensures.passed c.args.own)
    c.pass_quiet-last.ensures.passed c.pass_quadlet-label.ensures.passed
    (c.pass_label-left.ensures.passed c.args.own))
    c.if-left-input.false
