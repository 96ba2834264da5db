use Rattle.std.proofs.Common.{◌≡◌, ℕ, List, length}
use Rattle.mb_merge.specs.Passing.{to_pass}
use Rattle.mb_rig.specs.RigText.{Setup}
use Rattle.mb_rig.specs.Bay.{BayStands, BayWrote, OffersOf}
use Rattle.mb_rig.specs.Merging.Course.{Links}
use Rattle.mb_rig.specs.Merging.Playing.{Play}
use Rattle.mb_rig.proofs.BayLemmas.{BayComes}
use Rattle.mb_rig.proofs.bay.Bay.drain.Given as goal

abbrev pub invariant-marks : goal.invariant-marks
invariant-marks g l =
    let D = g.D.Desk in
    record {
      comes : (s : Setup) (before : List ℕ) (first : ℕ) (links : Links) (play : Play) (x : ℕ) →
          BayStands D.tells D.contents s before first l.fn.self l.fn.desk links play → OffersOf l.fn.self.router x →
          BayComes D.tells D.contents s before first l.fn.self l.self l.desk links x;
      wrote : (s : Setup) (before : List ℕ) (first : ℕ) (links : Links) (play : Play) →
          BayStands D.tells D.contents s before first l.fn.self l.fn.desk links play →
          BayWrote D.tells D.contents first (length l.fn.self.outs.items) l.fn.desk l.desk;
      greatest : l.self.greatest ≡ l.fn.self.greatest;
      outs : length l.self.outs.items ≡ length l.fn.self.outs.items;
      reads : D.read_faults l.desk ≡ D.read_faults l.fn.desk;
      writes : D.write_faults l.desk ≡ D.write_faults l.fn.desk;
    }

abbrev pub decreases-marks : goal.decreases-marks
decreases-marks g l = to_pass l.self.router
