-- The definitions compute.
use Rattle.std.proofs.Common.{◌≡◌, List, [], ◌∷◌, refl}
use Rattle.mb_stream.specs.Denotation.{Meant, Message, Syx}
use Rattle.mb_guard.specs.Sounding.{voices, sounding, offs}

-- a note whose end is missing, beside one that is ended by velocity 0
abbrev one_left : List Meant
one_left = Message 0x90 0x3c 0x64 ∷ Message 0x90 0x40 0x64 ∷ Message 0x90 0x3c 0 ∷ []

note_left_sounding : offs one_left ≡ Message 0x80 0x40 0x40 ∷ []
unfolding voices
note_left_sounding = refl

-- two channels, one note twice, and All Notes Off
abbrev four_begun : List Meant
four_begun =
    Message 0x91 5 1 ∷ Message 0x90 9 1 ∷ Message 0x90 3 1 ∷ Message 0x90 9 1 ∷ Message 0xb0 123 0 ∷ Syx [] ∷ []

by_channel_and_key_each_once : offs four_begun ≡
    Message 0x80 3 0x40 ∷ Message 0x80 9 0x40 ∷ Message 0x81 5 0x40 ∷ []
unfolding voices
by_channel_and_key_each_once = refl

-- a Note Off ends a note whatever its velocity, and only on its channel
ended_on_its_channel : sounding (Message 0x92 7 1 ∷ Message 0x83 7 0 ∷ Message 0x82 7 127 ∷ []) ≡ []
unfolding voices
ended_on_its_channel = refl
