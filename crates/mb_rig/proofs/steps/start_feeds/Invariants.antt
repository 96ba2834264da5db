use Rattle.std.proofs.Common.{◌≡◌, ℕ, List, IsTrue, length}
use Rattle.mb_rig.specs.RigText.{Setup}
use Rattle.mb_rig.specs.Running.{RunTouched}
use Rattle.mb_rig.specs.Beginning.{FeedsReady}
use Rattle.mb_rig.proofs.StartLemmas.{FeedsUnder}
use Rattle.mb_rig.proofs.steps.start_feeds.Given as goal

abbrev pub invariant-links : goal.invariant-links
invariant-links g l =
    let D = g.D.Desk in
    record {
      goes : (s : Setup) (base limit : ℕ) → FeedsReady D.tells D.contents s base limit l.fn.feeds l.fn.desk →
          FeedsUnder D.tells D.contents s base limit l.at l.feeds l.desk;
      touched : (s : Setup) (base limit first outs : ℕ) →
          FeedsReady D.tells D.contents s base limit l.fn.feeds l.fn.desk →
          RunTouched D.tells D.contents base (length l.fn.feeds) first outs l.fn.desk l.desk;
      many : length l.feeds ≡ length l.fn.feeds;
      report : IsTrue D.tells → (D.contents l.desk).written ≡ (D.contents l.fn.desk).written;
      reads : D.read_faults l.desk ≡ D.read_faults l.fn.desk;
      writes : D.write_faults l.desk ≡ D.write_faults l.fn.desk;
    }
