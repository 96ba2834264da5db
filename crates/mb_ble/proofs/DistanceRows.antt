-- Worked rows of the moments of messages.
use Rattle.std.proofs.Common.{◌≡◌, ℕ, List, [], ◌∷◌, refl}
use Rattle.mb_message.specs.Signs.{ShortSign, RtSign, OpenSign, ByteSign, EndSign, AbortSign}
use Rattle.mb_stream.specs.Puts.{Put, At}
use Rattle.mb_ble.specs.Reading.{ble_reading}
use Rattle.mb_ble.specs.Written.{ble_written}
use Rattle.mb_ble.specs.Distances.{puts_read, message_moments}

-- the moments of messages, written and read again
abbrev again : ℕ → List Put → List ℕ
again size puts = message_moments (puts_read (ble_reading (ble_written size puts)))

a_message_at_its_last_mark : message_moments (At 1 OpenSign ∷ At 2 (ByteSign 1) ∷ At 3 (RtSign 0xf8) ∷ At 4 EndSign
    ∷ At 5 (ShortSign 0x90 60 100) ∷ At 6 OpenSign ∷ At 7 AbortSign ∷ []) ≡ 3 ∷ 4 ∷ 5 ∷ []
a_message_at_its_last_mark = refl

in_one_packet : again 20 (At 4102 (ShortSign 0x90 60 100) ∷ At 4103 (RtSign 0xf8) ∷ []) ≡ 4102 ∷ 4103 ∷ []
in_one_packet = refl

the_lower_seven_fall_in_a_packet : again 20 (At 127 (RtSign 0xf8) ∷ At 128 (RtSign 0xfa) ∷ []) ≡ 127 ∷ 128 ∷ []
the_lower_seven_fall_in_a_packet = refl

thirteen_bits_go_round : again 20 (At 8191 (RtSign 0xf8) ∷ At 8192 (RtSign 0xf8) ∷ At 16383 (RtSign 0xf8) ∷ [])
    ≡ 8191 ∷ 8192 ∷ 16383 ∷ []
thirteen_bits_go_round = refl

the_first_moment_is_its_thirteen_bits : again 20 (At 9000 (RtSign 0xf8) ∷ At 9128 (RtSign 0xf8)
    ∷ At 17319 (RtSign 0xf8) ∷ []) ≡ 808 ∷ 936 ∷ 9127 ∷ []
the_first_moment_is_its_thirteen_bits = refl

-- 8,192 ms apart they fall together
a_round_apart : again 20 (At 100 (RtSign 0xf8) ∷ At 8292 (RtSign 0xf8) ∷ []) ≡ 100 ∷ 100 ∷ []
a_round_apart = refl

a_broken_sysex_far_from_all_messages : again 20 (At 100 OpenSign ∷ At 9000 (ByteSign 1) ∷ At 9001 AbortSign
    ∷ At 20000 (RtSign 0xf8) ∷ At 28000 (RtSign 0xf8) ∷ []) ≡ 3616 ∷ 11616 ∷ []
a_broken_sysex_far_from_all_messages = refl

a_header_without_a_stamp : again 5 (At 300 OpenSign ∷ At 301 (ByteSign 1) ∷ At 302 (ByteSign 2) ∷ At 9000 (ByteSign 3)
    ∷ At 9001 (ByteSign 4) ∷ At 9002 (ByteSign 5) ∷ At 9002 (ByteSign 6) ∷ At 9003 EndSign ∷ []) ≡ 811 ∷ []
a_header_without_a_stamp = refl
