use Rattle.std.proofs.Common.{◌≡◌, ◌+◌, ◌≤◌, true, [], None, length}
use Rattle.mb_smf.specs.Smf.{is_faulted}
use Rattle.mb_smf.specs.SmfReading.{SmfTakes}
use Rattle.mb_smf.proofs.reader.SmfReader.advance.Given as goal

abbrev pub invariant-bytes : goal.invariant-bytes
invariant-bytes l = record {
  takes : SmfTakes l.initial.self l.self l.initial.input.now l.input.now [];
  kept : is_faulted l.initial.self.file.place ≡ true → (is_faulted l.self.file.place ≡ true) × (l.input.now ≡
      l.initial.input.now);
  nothing : l.self.owed ≡ None;
  end : l.self.file.offset + length l.input.now ≤ l.initial.self.file.offset + length l.initial.input.now;
  fewer : length l.input.now ≤ length l.initial.input.now;
}

abbrev pub decreases-bytes : goal.decreases-bytes
decreases-bytes l = length l.input.now
