-- The header chunk, byte by byte, and what of other chunks is looked at (Standard MIDI Files 1.0, "Chunks", "Header
-- Chunks"). A header is the type "MThd", a length, which is at least 6, the format and the number of tracks, the
-- division, and what a later standard may add. Read are files of format 0, which have one track, and of a division in
-- ticks a quarter note. The faults' names and places are this project's own.
--
--   in_magic s i b         the byte at a place of "MThd"
--   in_header_length s i b, in_kind s i b, in_division s i b, in_rest s
--   in_name s i t b        of another chunk's type, which is still that of a track or not
--   in_chunk_length s i t b
use Rattle.std.specs.Prelude.{ℕ, ◌+◌, ◌-◌, Bool, true, ◌&&◌, ◌||◌, ◌==◌, not, nat_lt, nat_le, if◌then◌else◌}
use Rattle.mb_smf.specs.FileStep.{FileStep, goes, fails, with_byte}
use Rattle.mb_smf.specs.declared.file_place.FilePlace.{FilePlace}
use Rattle.mb_smf.specs.declared.file_place.FilePlace.TheVariants as at
use Rattle.mb_smf.specs.declared.file_state.FileState.{FileState}
use Rattle.mb_smf.specs.declared.fault.SmfWhy.TheVariants as why

-- "MThd", "MTrk"
abbrev pub magic_at : ℕ → ℕ
magic_at i = if i == 0 then 0x4d else (if i == 1 then 0x54 else (if i == 2 then 0x68 else 0x64))

abbrev pub track_at : ℕ → ℕ
track_at i = if i == 0 then 0x4d else (if i == 1 then 0x54 else (if i == 2 then 0x72 else 0x6b))

abbrev pub in_magic : FileState → (i b : ℕ) → FileStep
in_magic s i b =
    if not (b == magic_at i) then fails s why.Header
    else goes (record s { place = if nat_le 3 i then at.HeaderLength 0 else at.Magic (i + 1) })

abbrev pub header_length : FileState → ℕ → FileStep
header_length s n =
    if nat_lt n 6 then fails s why.Header else goes (record s { place = at.Kind 0; number = 0; left = n - 6 })

abbrev pub in_header_length : FileState → (i b : ℕ) → FileStep
in_header_length s i b =
    if nat_le 3 i then header_length s (with_byte s.number b)
    else goes (record s { place = at.HeaderLength (i + 1); number = with_byte s.number b })

-- format 0 and one track are the number 1
abbrev pub in_kind : FileState → (i b : ℕ) → FileStep
in_kind s i b =
    if nat_lt i 3 then goes (record s { place = at.Kind (i + 1); number = with_byte s.number b })
    else (if with_byte s.number b == 1 then goes (record s { place = at.Division 0; number = 0 })
    else fails s why.Format)

abbrev pub a_chunk : FilePlace
a_chunk = at.Name 0 true

-- bytes that are passed over, and then a chunk
abbrev pub passed_over : (left : ℕ) → FilePlace
passed_over left = if left == 0 then a_chunk else at.Rest

-- a division with its top bit set is one in frames
abbrev pub division : FileState → ℕ → FileStep
division s n =
    if (n == 0) || nat_le 0x8000 n then fails s why.Division
    else goes (record s { place = passed_over s.left; number = 0; clock = record s.clock { division = n; sum = 0 } })

abbrev pub in_division : FileState → (i b : ℕ) → FileStep
in_division s i b =
    if i == 0 then goes (record s { place = at.Division 1; number = with_byte s.number b })
    else division s (with_byte s.number b)

abbrev pub in_rest : FileState → FileStep
in_rest s = goes (record s { place = passed_over (s.left - 1); left = s.left - 1; number = 0 })

-- "Chunks": a type of four bytes and a length. Those of other types are passed over.
abbrev pub in_name : FileState → (i : ℕ) → (is_track : Bool) → (b : ℕ) → FileStep
in_name s i is_track b =
    let still : Bool = is_track && (b == track_at i) in
    goes (record s { place = if nat_le 3 i then at.ChunkLength 0 still else at.Name (i + 1) still })

abbrev pub chunk_length : FileState → (is_track : Bool) → ℕ → FileStep
chunk_length s is_track n =
    if not is_track then goes (record s { place = passed_over n; number = 0; left = n })
    else (if n == 0 then fails s why.Track else goes (record s { place = at.Delta 0; number = 0; left = n }))

abbrev pub in_chunk_length : FileState → (i : ℕ) → (is_track : Bool) → (b : ℕ) → FileStep
in_chunk_length s i is_track b =
    if nat_le 3 i then chunk_length s is_track (with_byte s.number b)
    else goes (record s { place = at.ChunkLength (i + 1) is_track; number = with_byte s.number b })
