-- USB recordings and what they mean. Each holds by computing the definitions.
use Rattle.std.proofs.Common.{◌≡◌, ℕ, true, false, List, [], ◌∷◌, refl}
use Rattle.mb_message.specs.declared.note.NoteKind.TheVariants.{StrayData, Truncated, ReservedCin, CinMismatch}
use Rattle.mb_message.specs.Signs.{ShortSign, RtSign, OpenSign, ByteSign, EndSign, AbortSign}
use Rattle.mb_stream.specs.Told.{Marks, Notes}
use Rattle.mb_stream.specs.Reading.{part_at, signs_of, notes_of}
use Rattle.mb_stream.specs.Denotation.{denotation, Syx}
use Rattle.mb_usb.specs.Reading.{usb_reading, usb_whole}
use Rattle.mb_usb.specs.Written.{usb_written}

-- two cables, each with its own running status: 19 90 3C 64, 0F F8, 0C C0 05, 1F 40, 1F 64
abbrev two_cables : List ℕ
two_cables =
    0x19 ∷ 0x90 ∷ 0x3c ∷ 0x64 ∷ 0x0f ∷ 0xf8 ∷ 0 ∷ 0 ∷ 0x0c ∷ 0xc0 ∷ 5 ∷ 0 ∷ 0x1f ∷ 0x40 ∷ 0 ∷ 0 ∷ 0x1f ∷ 0x64 ∷ 0 ∷ 0 ∷
    []

running_status_is_of_one_cable : signs_of (usb_reading 1 two_cables) ≡ ShortSign 0x90 0x3c 0x64 ∷ ShortSign 0x90 0x40
    0x64 ∷ []
running_status_is_of_one_cable = refl

each_cable_has_its_own_messages : signs_of (usb_reading 0 two_cables) ≡ RtSign 0xf8 ∷ ShortSign 0xc0 5 0 ∷ []
each_cable_has_its_own_messages = refl

bytes_by_themselves_have_no_note : notes_of (usb_reading 1 two_cables) ≡ []
bytes_by_themselves_have_no_note = refl

reserved_number_carries_nothing : usb_reading 0 (0 ∷ 0 ∷ 0 ∷ 0 ∷ []) ≡ part_at 0 (Notes 0 ReservedCin) ∷ []
reserved_number_carries_nothing = refl

reserved_number_is_known_at_the_first_byte : usb_reading 3 (0x31 ∷ []) ≡ part_at 0 (Notes 0 ReservedCin) ∷ []
reserved_number_is_known_at_the_first_byte = refl

padding_is_not_looked_at : usb_reading 0 (0x0c ∷ 0xc0 ∷ 5 ∷ 0xff ∷ []) ≡ part_at 0 (Marks (ShortSign 0xc0 5 0)) ∷ []
padding_is_not_looked_at = refl

bytes_that_do_not_suit_are_carried :
    usb_reading 0 (0x09 ∷ 0x80 ∷ 0x3c ∷ 0x64 ∷ []) ≡
    part_at 0 (Marks (ShortSign 0x80 0x3c 0x64)) ∷ part_at 0 (Notes 0 CinMismatch) ∷ []
bytes_that_do_not_suit_are_carried = refl

notes_on_packets_are_of_every_cable :
    usb_reading 1 (0x09 ∷ 0x80 ∷ 0x3c ∷ 0x64 ∷ 0x19 ∷ 0x90 ∷ 0x3c ∷ 0x64 ∷ []) ≡
    part_at 0 (Notes 0 CinMismatch) ∷ part_at 0 (Marks (ShortSign 0x90 0x3c 0x64)) ∷ []
notes_on_packets_are_of_every_cable = refl

unfinished_packet_has_no_mismatch :
    usb_reading 0 (0x09 ∷ 0x80 ∷ 0x3c ∷ []) ≡ part_at 0 (Notes 1 Truncated) ∷ []
unfinished_packet_has_no_mismatch = refl

bytes_of_an_unfinished_packet_count : usb_reading 0 (0x09 ∷ 0x3c ∷ []) ≡ part_at 0 (Notes 1 StrayData) ∷ []
bytes_of_an_unfinished_packet_count = refl

sysex_over_three_packets :
    denotation (signs_of (usb_reading 0 (0x04 ∷ 0xf0 ∷ 1 ∷ 2 ∷ 0x04 ∷ 3 ∷ 4 ∷ 5 ∷ 0x06 ∷ 6 ∷ 0xf7 ∷ 0 ∷ []))) ≡
    record { items = Syx (1 ∷ 2 ∷ 3 ∷ 4 ∷ 5 ∷ 6 ∷ []) ∷ []; realtimes = [] }
sysex_over_three_packets = refl

sysex_open_at_the_end_is_broken : signs_of (usb_reading 0 (0x04 ∷ 0xf0 ∷ 1 ∷ 2 ∷ [])) ≡ OpenSign ∷ ByteSign 1 ∷
    ByteSign 2 ∷ AbortSign ∷ []
sysex_open_at_the_end_is_broken = refl

-- what is written is read again
written_is_read :
    signs_of (usb_reading 7 (usb_written 7 (OpenSign ∷ ByteSign 1 ∷ RtSign 0xf8 ∷ ByteSign 2 ∷ EndSign ∷ ShortSign 0xf6
    0 0 ∷ []))) ≡
    RtSign 0xf8 ∷ OpenSign ∷ ByteSign 1 ∷ ByteSign 2 ∷ EndSign ∷ ShortSign 0xf6 0 0 ∷ []
written_is_read = refl

whole_packets : usb_whole two_cables ≡ true
whole_packets = refl

unfinished_packet_is_not_whole : usb_whole (0x09 ∷ 0x90 ∷ 0x3c ∷ []) ≡ false
unfinished_packet_is_not_whole = refl
