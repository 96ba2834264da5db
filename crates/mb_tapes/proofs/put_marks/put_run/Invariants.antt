use Rattle.std.proofs.Common.{◌≡◌, ◌≤◌, false, length}
use Rattle.mb_smf.specs.TrackWriting.{is_full}
use Rattle.mb_tapes.proofs.RecordingLemmas.{RunPut}
use Rattle.mb_tapes.proofs.put_marks.put_run.Given as goal

abbrev pub invariant-bytes : goal.invariant-bytes
invariant-bytes l = record {
  run : RunPut l.initial.file l.file l.moment l.bytes l.rest;
  order : l.file.moment ≤ l.moment;
  short : is_full l.file ≡ false;
}

abbrev pub decreases-bytes : goal.decreases-bytes
decreases-bytes l = length l.rest
