-- USB recordings as devices write them, and what they mean. Each holds by computing the definitions.
use Rattle.std.proofs.Common.{◌≡◌, ℕ, ◌+◌, ◌*◌, List, [], ◌∷◌, ◌++◌, map, flat_map, Some, None, refl}
use Rattle.mb_message.specs.declared.note.NoteKind.TheVariants.{StrayData, Truncated, ReservedCin, CinMismatch}
use Rattle.mb_message.specs.Signs.{Sign, ShortSign, RtSign, OpenSign, ByteSign, EndSign, AbortSign}
use Rattle.mb_stream.specs.Told.{Marks, Notes}
use Rattle.mb_stream.specs.Reading.{part_at, signs_of, notes_of}
use Rattle.mb_ports.specs.Events.{below}
use Rattle.mb_ports.specs.Reader.{bare}
use Rattle.mb_usb.specs.Reading.{usb_reading}
use Rattle.mb_usb.specs.Cables.{all_cables_so_far}

-- data of a running status in packets that are meant for SysEx
running_data_under_number_4 :
    usb_reading 0 (0x09 ∷ 0x90 ∷ 0x3c ∷ 0x64 ∷ 0x04 ∷ 0x40 ∷ 0x64 ∷ 0x43 ∷ 0x04 ∷ 0x64 ∷ 0x45 ∷ 0x00 ∷ []) ≡
    part_at 0 (Marks (ShortSign 0x90 0x3c 0x64)) ∷ part_at 0 (Marks (ShortSign 0x90 0x40 0x64)) ∷
    part_at 0 (Marks (ShortSign 0x90 0x43 0x64)) ∷ part_at 0 (Marks (ShortSign 0x90 0x45 0x00)) ∷ []
running_data_under_number_4 = refl

sysex_byte_by_byte :
    signs_of (usb_reading 0 (0x0f ∷ 0xf0 ∷ 0 ∷ 0 ∷ 0x0f ∷ 1 ∷ 0 ∷ 0 ∷ 0x0f ∷ 0xf7 ∷ 0 ∷ 0 ∷ [])) ≡ OpenSign ∷
    ByteSign 1 ∷ EndSign ∷ []
sysex_byte_by_byte = refl

sysex_broken_by_a_message :
    signs_of (usb_reading 0 (0x0f ∷ 0xf0 ∷ 0 ∷ 0 ∷ 0x0f ∷ 1 ∷ 0 ∷ 0 ∷ 0x09 ∷ 0x90 ∷ 0x3c ∷ 0x64 ∷ [])) ≡ OpenSign ∷
    ByteSign 1 ∷ AbortSign ∷ ShortSign 0x90 0x3c 0x64 ∷ []
sysex_broken_by_a_message = refl

-- a SysEx of one cable goes on over packets of another
packets_of_another_cable_between :
    signs_of (usb_reading 2 (0x24 ∷ 0xf0 ∷ 1 ∷ 2 ∷ 0x09 ∷ 0x90 ∷ 0x3c ∷ 0x64 ∷ 0x25 ∷ 0xf7 ∷ 0 ∷ 0 ∷ [])) ≡ OpenSign ∷
    ByteSign 1 ∷ ByteSign 2 ∷ EndSign ∷ []
packets_of_another_cable_between = refl

-- a program change under a number of three bytes reads the third as the data of another
number_too_long :
    usb_reading 0 (0x0b ∷ 0xc0 ∷ 5 ∷ 6 ∷ []) ≡
    part_at 0 (Marks (ShortSign 0xc0 5 0)) ∷ part_at 0 (Marks (ShortSign 0xc0 6 0)) ∷ part_at 0 (Notes 0 CinMismatch) ∷
    []
number_too_long = refl

-- a note on under a number of two bytes leaves its last byte out
number_too_short :
    usb_reading 0 (0x0c ∷ 0x90 ∷ 0x3c ∷ 0x64 ∷ []) ≡ part_at 0 (Notes 0 CinMismatch) ∷ part_at 0 (Notes 1 Truncated) ∷
    []
number_too_short = refl

stray_data_and_a_message_in_one_packet :
    usb_reading 0 (0x04 ∷ 0x3c ∷ 0x90 ∷ 0x3d ∷ 0x0f ∷ 0x64 ∷ 9 ∷ 9 ∷ []) ≡
    part_at 0 (Notes 1 StrayData) ∷ part_at 0 (Notes 0 CinMismatch) ∷ part_at 0 (Marks (ShortSign 0x90 0x3d 0x64)) ∷ []
stray_data_and_a_message_in_one_packet = refl

-- sixteen cables at once, each with a channel of its own, and then running data of each
abbrev sixteen : List ℕ
sixteen =
    flat_map (λ c. (c * 16 + 9) ∷ (0x90 + c) ∷ 0x3c ∷ 0x64 ∷ []) (below 16)
    ++ (flat_map (λ c. (c * 16 + 15) ∷ (0x40 + c) ∷ 0xff ∷ 0xff ∷ []) (below 16)
    ++ flat_map (λ c. (c * 16 + 15) ∷ c ∷ 0 ∷ 0 ∷ []) (below 16))

abbrev two_notes : ℕ → List Sign
two_notes c = ShortSign (0x90 + c) 0x3c 0x64 ∷ ShortSign (0x90 + c) (0x40 + c) c ∷ []

each_of_sixteen_has_its_own_status : map (λ c. signs_of (usb_reading c sixteen)) (below 16) ≡ map two_notes (below 16)
each_of_sixteen_has_its_own_status = refl

no_note_on_sixteen : notes_of (usb_reading 15 sixteen) ≡ []
no_note_on_sixteen = refl

-- all cables in one list, each with its cable, and the notes on packets without
all_in_one_list :
    map bare (all_cables_so_far (0x19 ∷ 0x90 ∷ 0x3c ∷ 0x64 ∷ 0x00 ∷ 1 ∷ 2 ∷ 3 ∷ 0x2f ∷ 0xf8 ∷ 0 ∷ 0 ∷ [])) ≡
    (Some 1, Marks (ShortSign 0x90 0x3c 0x64)) ∷ (None, Notes 4 ReservedCin) ∷ (Some 2, Marks (RtSign 0xf8)) ∷ []
all_in_one_list = refl
