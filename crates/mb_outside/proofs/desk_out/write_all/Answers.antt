use Rattle.std.proofs.Common.{◌∙◌, arith}
use Rattle.std.proofs.lemmas.Grind.{common_steps}
use Rattle.mb_outside.specs.TakingLaws.{Wrote-more}
use Rattle.mb_outside.proofs.desk_out.write_all.Goals as goal

pub writes-preserved : goal.writes-preserved
writes-preserved g c =
    record {
      sound = c.in-Ok.ensures.sound ∙ c.writes.invariant.sound;
      wrote = Wrote-more _ _ _ _ _ _ _ _ _ _ c.in-Ok.count c.writes.invariant.wrote (grind (arith, common_steps))
          c.in-Ok.ensures.contents c.write.ensures.read_faults;
    }
