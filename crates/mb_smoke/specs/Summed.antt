-- A list of bytes in few numbers: the project's own.
--
--   mixed mix bytes     a number of 32 bits, made of each byte and its place
--   counts_of den       how many messages, whole and broken SysEx and real-time messages are meant
use Rattle.std.specs.Prelude.{ℕ, ◌+◌, ◌*◌, ◌%◌, ◌^◌, Bool, true, false, if◌then◌else◌, List, [], ◌∷◌, length}
use Rattle.mb_stream.specs.Denotation.{Meant, Message, Syx, Broken, Denotation}
use Rattle.mb_denote.specs.declared.counts.Counts.{Counts}

abbrev pub mixed : (mix : ℕ) → List ℕ → ℕ
mixed mix [] = mix
mixed mix (b ∷ bs) = mixed ((mix * 31 + b) % 2 ^ 32) bs

abbrev pub is_message : Meant → Bool
is_message (Message s d1 d2) = true
is_message (Syx ds) = false
is_message (Broken ds) = false

abbrev pub is_whole_sysex : Meant → Bool
is_whole_sysex (Message s d1 d2) = false
is_whole_sysex (Syx ds) = true
is_whole_sysex (Broken ds) = false

abbrev pub is_broken_sysex : Meant → Bool
is_broken_sysex (Message s d1 d2) = false
is_broken_sysex (Syx ds) = false
is_broken_sysex (Broken ds) = true

abbrev pub how_many : (Meant → Bool) → List Meant → ℕ
how_many p [] = 0
how_many p (x ∷ xs) = how_many p xs + (if p x then 1 else 0)

abbrev pub counts_of : Denotation → Counts
counts_of d = record {
  msg = how_many is_message d.items;
  syx = how_many is_whole_sysex d.items;
  broken = how_many is_broken_sysex d.items;
  rt = length d.realtimes;
}
