use Rattle.std.proofs.Common.{◌≡◌, ◌≤◌, ℕ, List, length}
use Rattle.mb_rig.specs.RigText.{Setup}
use Rattle.mb_rig.specs.Feed.{IsSameLink, feed_owed}
use Rattle.mb_rig.specs.Running.{RunTouched}
use Rattle.mb_rig.specs.Step.{StepUnder}
use Rattle.mb_rig.specs.Merging.Playing.{Play}
use Rattle.mb_rig.specs.Merging.Course.{Links}
use Rattle.mb_rig.proofs.StepLemmas.{StepGoes}
use Rattle.mb_rig.proofs.feed.Feed.give.Given as goal

abbrev pub invariant-marks : goal.invariant-marks
invariant-marks g l =
    let D = g.D.Desk in
    record {
      same : IsSameLink l.fn.self.link l.self.link;
      goes : (s : Setup) (before : List ℕ) (first : ℕ) (links : Links) (play : Play) →
          StepUnder D.tells D.contents s before first l.turn.link l.turn.moment l.fn.self l.fn.bay l.fn.desk links
          play → StepGoes D.tells D.contents s before first l.turn.link l.turn.moment l.fn.bay.router l.self l.bay
          l.desk links;
      touched : (s : Setup) (before : List ℕ) (first : ℕ) (links : Links) (play : Play) →
          StepUnder D.tells D.contents s before first l.turn.link l.turn.moment l.fn.self l.fn.bay l.fn.desk links
          play → RunTouched D.tells D.contents l.fn.self.link.supply.handle 1 first (length l.fn.bay.outs.items)
          l.fn.desk l.desk;
      outs : length l.bay.outs.items ≡ length l.fn.bay.outs.items;
      owed : feed_owed l.self ≤ feed_owed l.fn.self;
      reads : D.read_faults l.desk ≡ D.read_faults l.fn.desk;
      writes : D.write_faults l.desk ≡ D.write_faults l.fn.desk;
    }

abbrev pub decreases-marks : goal.decreases-marks
decreases-marks g l = feed_owed l.self
