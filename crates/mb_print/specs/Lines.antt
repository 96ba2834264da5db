-- The texts of lines. They are the project's own; a byte is written as the MIDI 1.0 Detailed Specification writes it,
-- by two hexadecimal digits. A number is in decimal, as std's `{}` writes it: without leading zeros, 0 as one digit.
--
--   hex_digit d                   a digit, `0` to `9` and `A` to `F`
--   spaced_bytes bs               each byte behind a space
--   mark_words sign               what a mark is, and its bytes
--   mark_text moment sign         the line of a mark: `MOMENT short B1 B2 B3`
--   kind_text kind                the word of a note
--   note_text traced at kind      the line of a note: `AT KIND`, or `note AT KIND` among marks
--   kind_letter kind              the letter of what passed
--   report_text arrival passing source kind      the line of a report: `ARRIVAL PASSING SOURCE KIND`
use Rattle.std.specs.Prelude.{ℕ, ◌+◌, ◌-◌, ◌/◌, ◌%◌, nat_lt, Bool, if◌then◌else◌, List, [], ◌∷◌, ◌++◌, flat_map, take}
use Rattle.std.specs.Prelude.{codes, decimal}
use Rattle.mb_message.specs.Bytes.{length_of_short}
use Rattle.mb_message.specs.Signs.{Sign, ShortSign, RtSign, OpenSign, ByteSign, EndSign, AbortSign}
use Rattle.mb_message.specs.declared.note.NoteKind.{NoteKind}
use Rattle.mb_message.specs.declared.note.NoteKind.TheVariants.{StrayData, Truncated, StrayEnd, Undefined, ReservedCin}
use Rattle.mb_message.specs.declared.note.NoteKind.TheVariants.{CinMismatch, BadHeader, EmptyPacket, LoneStamp, BadCip}
use Rattle.mb_message.specs.declared.note.NoteKind.TheVariants.{ZeroDbs, Ragged, NoMidiQuadlet, DbcGap}
use Rattle.mb_print.specs.declared.lines.Kind.{Kind}
use Rattle.mb_print.specs.declared.lines.Kind.TheVariants as kind

-- 48 is `0`, 65 is `A`.
abbrev pub hex_digit : ℕ → ℕ
hex_digit d = if nat_lt d 10 then 48 + d else 65 + (d - 10)

-- 32 is a space.
abbrev pub spaced_byte : ℕ → List ℕ
spaced_byte b = 32 ∷ hex_digit (b / 16) ∷ hex_digit (b % 16) ∷ []

abbrev pub spaced_bytes : List ℕ → List ℕ
spaced_bytes bs = flat_map spaced_byte bs

-- the bytes that a short message has
abbrev pub short_bytes : (status data1 data2 : ℕ) → List ℕ
short_bytes s d1 d2 = take (length_of_short s) (s ∷ d1 ∷ d2 ∷ [])

abbrev pub mark_words : Sign → List ℕ
mark_words (ShortSign s d1 d2) = codes "short" ++ spaced_bytes (short_bytes s d1 d2)
mark_words (RtSign b) = codes "rt" ++ spaced_byte b
mark_words OpenSign = codes "open"
mark_words (ByteSign b) = codes "data" ++ spaced_byte b
mark_words EndSign = codes "end"
mark_words AbortSign = codes "abort"

abbrev pub mark_text : (moment : ℕ) → Sign → List ℕ
mark_text moment sign = decimal moment ++ codes " " ++ mark_words sign ++ codes "\n"

abbrev pub kind_text : NoteKind → List ℕ
kind_text StrayData = codes "stray-data"
kind_text Truncated = codes "truncated"
kind_text StrayEnd = codes "stray-end"
kind_text Undefined = codes "undefined"
kind_text ReservedCin = codes "reserved-cin"
kind_text CinMismatch = codes "cin-mismatch"
kind_text BadHeader = codes "bad-header"
kind_text EmptyPacket = codes "empty-packet"
kind_text LoneStamp = codes "lone-stamp"
kind_text BadCip = codes "bad-cip"
kind_text ZeroDbs = codes "zero-dbs"
kind_text Ragged = codes "ragged"
kind_text NoMidiQuadlet = codes "no-midi-quadlet"
kind_text DbcGap = codes "dbc-gap"

-- Among marks a note's line begins with a word, so that it isn't taken for a mark's.
abbrev pub note_text : (traced : Bool) (at : ℕ) → NoteKind → List ℕ
note_text traced at kind =
    (if traced then codes "note " else []) ++ decimal at ++ codes " " ++ kind_text kind ++ codes "\n"

-- `M` of a short message, `S` of a SysEx that ended, `B` of one that was broken off, `R` of a real-time message
abbrev pub kind_letter : Kind → ℕ
kind_letter kind.M = 77
kind_letter kind.S = 83
kind_letter kind.B = 66
kind_letter kind.R = 82

abbrev pub report_text : (arrival passing source : ℕ) → Kind → List ℕ
report_text arrival passing source kind =
    decimal arrival ++ codes " " ++ decimal passing ++ codes " " ++ decimal source ++ codes " " ++ kind_letter kind ∷ []
    ++ codes "\n"
