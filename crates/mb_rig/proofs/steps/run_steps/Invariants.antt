use Rattle.std.proofs.Common.{◌≡◌, ℕ, List, length}
use Rattle.mb_rig.specs.RigText.{Setup}
use Rattle.mb_rig.specs.Running.{RunStands, RunTouched, feeds_owed}
use Rattle.mb_rig.specs.Merging.Course.{Links}
use Rattle.mb_rig.specs.Merging.Playing.{Play}
use Rattle.mb_rig.proofs.RunLemmas.{RunGoes}
use Rattle.mb_rig.proofs.steps.run_steps.Given as goal

abbrev pub invariant-steps : goal.invariant-steps
invariant-steps g l =
    let D = g.D.Desk in
    record {
      goes : (s : Setup) (before : List ℕ) (base first limit : ℕ) (links : Links) (play : Play) →
          RunStands D.tells D.contents s before base first limit l.fn.feeds l.fn.bay l.fn.desk links play →
          RunGoes D.tells D.contents s before base first limit l.feeds l.bay l.desk;
      touched : (s : Setup) (before : List ℕ) (base first limit : ℕ) (links : Links) (play : Play) →
          RunStands D.tells D.contents s before base first limit l.fn.feeds l.fn.bay l.fn.desk links play →
          RunTouched D.tells D.contents base (length l.fn.feeds) first (length l.fn.bay.outs.items) l.fn.desk
          l.desk;
      many : length l.feeds ≡ length l.fn.feeds;
      outs : length l.bay.outs.items ≡ length l.fn.bay.outs.items;
      reads : D.read_faults l.desk ≡ D.read_faults l.fn.desk;
      writes : D.write_faults l.desk ≡ D.write_faults l.fn.desk;
    }

abbrev pub decreases-steps : goal.decreases-steps
decreases-steps g l = feeds_owed l.feeds
