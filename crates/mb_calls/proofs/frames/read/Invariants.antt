use Rattle.std.proofs.Common.{◌≡◌, false}
use Rattle.mb_frames.specs.Reading.{is_at_end}
use Rattle.mb_calls.proofs.frames.read.Given as goal

abbrev pub invariant-bytes : goal.invariant-bytes
invariant-bytes l = record {
  told : is_at_end l.frames ≡ false;
}
