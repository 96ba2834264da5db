use Rattle.std.proofs.Common.{◌≡◌, ◌+◌, ◌≤◌, length, drop}
use Rattle.mb_words.proofs.ReadLemmas.{ReadSoFar}
use Rattle.mb_words.proofs.words.read_specs.Given as goal

abbrev pub invariant-words : goal.invariant-words
invariant-words l =
    record {
      read : ReadSoFar (drop l.start l.words) (drop l.at l.words) l.specs.items;
      count : length l.specs.items + l.start ≡ l.at;
      ends : l.at-end ≡ length l.words;
      few : length l.words ≤ l.start + 10;
      some : l.start + 2 ≤ length l.words;
    }
