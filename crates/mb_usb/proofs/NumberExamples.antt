-- Which bytes suit each code index number (USB Device Class Definition for MIDI Devices 1.0, table 4-1): of each row
-- bytes that suit, and near misses that don't. Each holds by computing the definition.
use Rattle.std.proofs.Common.{◌≡◌, ℕ, Bool, true, false, List, [], ◌∷◌, map, refl}
use Rattle.mb_usb.specs.Reading.{packets, suits_packet}

-- whether each packet's bytes suit its number
abbrev suit : List ℕ → List Bool
suit bytes = map suits_packet (packets bytes)

number_2_is_of_f1_and_f3 :
    suit
    (0x02 ∷ 0xf1 ∷ 0x7f ∷ 0xff ∷ 0x02 ∷ 0xf3 ∷ 0 ∷ 0 ∷ 0x02 ∷ 0xf2 ∷ 1 ∷ 2 ∷ 0x02 ∷ 0xf1 ∷ 0x80 ∷ 0 ∷
    0x02 ∷ 0xf6 ∷ 0 ∷ 0 ∷ 0x02 ∷ 0xc0 ∷ 5 ∷ 0 ∷ 0x02 ∷ 1 ∷ 2 ∷ 0 ∷ []) ≡
    true ∷ true ∷ false ∷ false ∷ false ∷ false ∷ false ∷ []
number_2_is_of_f1_and_f3 = refl

number_3_is_of_f2 :
    suit
    (0x03 ∷ 0xf2 ∷ 0x7f ∷ 0x7f ∷ 0x03 ∷ 0xf1 ∷ 1 ∷ 2 ∷ 0x03 ∷ 0xf3 ∷ 1 ∷ 2 ∷ 0x03 ∷ 0xf2 ∷ 0x80 ∷ 0 ∷
    0x03 ∷ 0xf2 ∷ 0 ∷ 0x80 ∷ 0x03 ∷ 0xf0 ∷ 1 ∷ 2 ∷ []) ≡
    true ∷ false ∷ false ∷ false ∷ false ∷ false ∷ []
number_3_is_of_f2 = refl

number_4_starts_or_goes_on :
    suit
    (0x04 ∷ 0xf0 ∷ 0x7f ∷ 0x7f ∷ 0x04 ∷ 0x7f ∷ 0 ∷ 0x7f ∷ 0x04 ∷ 0xf0 ∷ 1 ∷ 0xf7 ∷ 0x04 ∷ 0xf7 ∷ 1 ∷ 2 ∷
    0x04 ∷ 0xf0 ∷ 0x80 ∷ 1 ∷ 0x04 ∷ 0x90 ∷ 1 ∷ 2 ∷ []) ≡
    true ∷ true ∷ false ∷ false ∷ false ∷ false ∷ []
number_4_starts_or_goes_on = refl

number_5_is_a_single_byte_of_system_common :
    suit
    (0x05 ∷ 0xf6 ∷ 0xff ∷ 0xff ∷ 0x05 ∷ 0xf7 ∷ 0 ∷ 0 ∷ 0x05 ∷ 0xf5 ∷ 0 ∷ 0 ∷ 0x05 ∷ 0xf8 ∷ 0 ∷ 0 ∷
    0x05 ∷ 0xf0 ∷ 0 ∷ 0 ∷ 0x05 ∷ 0x01 ∷ 0 ∷ 0 ∷ []) ≡
    true ∷ true ∷ false ∷ false ∷ false ∷ false ∷ []
number_5_is_a_single_byte_of_system_common = refl

number_6_ends_by_its_second_byte :
    suit
    (0x06 ∷ 0xf0 ∷ 0xf7 ∷ 0xff ∷ 0x06 ∷ 0x7f ∷ 0xf7 ∷ 0 ∷ 0x06 ∷ 0xf0 ∷ 1 ∷ 0 ∷ 0x06 ∷ 0xf0 ∷ 0xf6 ∷ 0 ∷
    0x06 ∷ 0xf7 ∷ 0xf7 ∷ 0 ∷ 0x06 ∷ 0x90 ∷ 0xf7 ∷ 0 ∷ 0x06 ∷ 1 ∷ 2 ∷ 0xf7 ∷ []) ≡
    true ∷ true ∷ false ∷ false ∷ false ∷ false ∷ false ∷ []
number_6_ends_by_its_second_byte = refl

number_7_ends_by_its_third_byte :
    suit
    (0x07 ∷ 0xf0 ∷ 0x7f ∷ 0xf7 ∷ 0x07 ∷ 0x7f ∷ 0 ∷ 0xf7 ∷ 0x07 ∷ 0xf0 ∷ 1 ∷ 2 ∷ 0x07 ∷ 1 ∷ 2 ∷ 0xf6 ∷
    0x07 ∷ 0xf0 ∷ 0xf7 ∷ 0xf7 ∷ 0x07 ∷ 0xf7 ∷ 1 ∷ 0xf7 ∷ 0x07 ∷ 1 ∷ 0x80 ∷ 0xf7 ∷ []) ≡
    true ∷ true ∷ false ∷ false ∷ false ∷ false ∷ false ∷ []
number_7_ends_by_its_third_byte = refl

number_8_is_of_note_off :
    suit
    (0x08 ∷ 0x80 ∷ 0x7f ∷ 0x7f ∷ 0x08 ∷ 0x8f ∷ 0 ∷ 0 ∷ 0x08 ∷ 0x90 ∷ 1 ∷ 2 ∷ 0x08 ∷ 0x7f ∷ 1 ∷ 2 ∷
    0x08 ∷ 0x80 ∷ 0x80 ∷ 0 ∷ 0x08 ∷ 0x80 ∷ 0 ∷ 0x80 ∷ []) ≡
    true ∷ true ∷ false ∷ false ∷ false ∷ false ∷ []
number_8_is_of_note_off = refl

numbers_9_a_and_b_are_of_their_statuses :
    suit
    (0x09 ∷ 0x9f ∷ 0x7f ∷ 0x7f ∷ 0x0a ∷ 0xa0 ∷ 0 ∷ 0x7f ∷ 0x0b ∷ 0xbf ∷ 0x7f ∷ 0 ∷ 0x09 ∷ 0x8f ∷ 1 ∷ 2 ∷
    0x0a ∷ 0xb0 ∷ 1 ∷ 2 ∷ 0x0b ∷ 0xb0 ∷ 1 ∷ 0x80 ∷ []) ≡
    true ∷ true ∷ true ∷ false ∷ false ∷ false ∷ []
numbers_9_a_and_b_are_of_their_statuses = refl

-- of a message of two bytes the third isn't looked at
number_c_is_of_program_change :
    suit (0x0c ∷ 0xc0 ∷ 0x7f ∷ 0xff ∷ 0x0c ∷ 0xcf ∷ 0 ∷ 0 ∷ 0x0c ∷ 0xd0 ∷ 1 ∷ 0 ∷ 0x0c ∷ 0xc0 ∷ 0x80 ∷ 0 ∷ []) ≡
    true ∷ true ∷ false ∷ false ∷ []
number_c_is_of_program_change = refl

number_d_is_of_channel_pressure :
    suit
    (0x0d ∷ 0xd0 ∷ 0x7f ∷ 0xff ∷ 0x0d ∷ 0xdf ∷ 0 ∷ 0 ∷ 0x0d ∷ 0xc0 ∷ 1 ∷ 0 ∷ 0x0d ∷ 0xe0 ∷ 1 ∷ 0 ∷
    0x0d ∷ 0xd0 ∷ 0x80 ∷ 0 ∷ []) ≡
    true ∷ true ∷ false ∷ false ∷ false ∷ []
number_d_is_of_channel_pressure = refl

number_e_is_of_pitch_bend :
    suit
    (0x0e ∷ 0xe0 ∷ 0x7f ∷ 0x7f ∷ 0x0e ∷ 0xef ∷ 0 ∷ 0 ∷ 0x0e ∷ 0xd0 ∷ 1 ∷ 2 ∷ 0x0e ∷ 0xf0 ∷ 1 ∷ 2 ∷
    0x0e ∷ 0xe0 ∷ 0x80 ∷ 0 ∷ 0x0e ∷ 0xe0 ∷ 0 ∷ 0x80 ∷ []) ≡
    true ∷ true ∷ false ∷ false ∷ false ∷ false ∷ []
number_e_is_of_pitch_bend = refl

number_f_suits_any_byte :
    suit (0x0f ∷ 0xf8 ∷ 0xff ∷ 0xff ∷ 0x0f ∷ 1 ∷ 0 ∷ 0 ∷ 0x0f ∷ 0x90 ∷ 0 ∷ 0 ∷ []) ≡ true ∷ true ∷ true ∷ []
number_f_suits_any_byte = refl
