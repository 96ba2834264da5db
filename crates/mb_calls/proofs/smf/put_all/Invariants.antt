use Rattle.std.proofs.Common.{◌≡◌, false}
use Rattle.mb_smf.specs.TrackWriting.{is_full}
use Rattle.mb_calls.proofs.smf.put_all.Given as goal

abbrev pub invariant-marks : goal.invariant-marks
invariant-marks l = record {
  short : is_full l.writer ≡ false;
}
