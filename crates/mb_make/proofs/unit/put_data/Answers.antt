use Rattle.std.proofs.Common.{◌∙◌, arith}
use Rattle.mb_make.proofs.MadeLemmas.{data_put, state_put}
use Rattle.mb_make.proofs.unit.put_data.Goals as goal

pub data-preserved : goal.data-preserved
data-preserved c =
    record {
      bytes = data_put c.data.unit.items c.push.new.self.items c.data.left c.data.draws.state c.below.result
          c.below.new.self.state c.data-test.true c.push.ensures.items c.below.ensures.drawn c.below.ensures.state
          ∙ c.data.invariant.bytes;
      state = state_put c.data.left c.data.draws.state c.below.new.self.state c.data-test.true
          c.below.ensures.state ∙ c.data.invariant.state;
      len = omega arith;
    }
