-- Worked examples of written packets: each holds by computing both sides.
use Rattle.std.proofs.Common.{◌≡◌, [], ◌∷◌, refl}
use Rattle.mb_message.specs.Signs.{ShortSign, RtSign, OpenSign, ByteSign, EndSign, AbortSign}
use Rattle.mb_usb.specs.Written.{usb_written, usb_live}
use Rattle.mb_usb.specs.Running.{usb_from, usb_at, pending_from}

note_on_is_one_packet : usb_written 0 (ShortSign 0x90 0x3c 0x64 ∷ []) ≡ 0x09 ∷ 0x90 ∷ 0x3c ∷ 0x64 ∷ []
note_on_is_one_packet = refl

empty_sysex_is_one_packet_of_number_6 : usb_written 0 (OpenSign ∷ EndSign ∷ []) ≡ 0x06 ∷ 0xf0 ∷ 0xf7 ∷ 0 ∷ []
empty_sysex_is_one_packet_of_number_6 = refl

sysex_of_one_byte_is_one_packet_of_number_7 :
    usb_written 0 (OpenSign ∷ ByteSign 1 ∷ EndSign ∷ []) ≡ 0x07 ∷ 0xf0 ∷ 1 ∷ 0xf7 ∷ []
sysex_of_one_byte_is_one_packet_of_number_7 = refl

sysex_of_two_bytes_ends_with_a_packet_of_number_5 :
    usb_written 0 (OpenSign ∷ ByteSign 1 ∷ ByteSign 2 ∷ EndSign ∷ []) ≡ 0x04 ∷ 0xf0 ∷ 1 ∷ 2 ∷ 0x05 ∷ 0xf7 ∷ 0 ∷ 0 ∷ []
sysex_of_two_bytes_ends_with_a_packet_of_number_5 = refl

tune_request_breaks_a_sysex_of_whole_packets :
    usb_written 0 (OpenSign ∷ ByteSign 1 ∷ ByteSign 2 ∷ AbortSign ∷ ShortSign 0xf6 0 0 ∷ []) ≡ 0x04 ∷ 0xf0 ∷ 1 ∷ 2 ∷
    0x05 ∷ 0xf6 ∷ 0 ∷ 0 ∷ []
tune_request_breaks_a_sysex_of_whole_packets = refl

numbers_of_short_messages_on_the_last_cable :
    usb_written 15
    (ShortSign 0xc0 5 0 ∷ ShortSign 0xc0 6 0 ∷ ShortSign 0xf2 1 2 ∷ ShortSign 0xf3 7 0 ∷ ShortSign 0xf1 8 0 ∷ []) ≡
    0xfc ∷ 0xc0 ∷ 5 ∷ 0 ∷ 0xfc ∷ 0xc0 ∷ 6 ∷ 0 ∷ 0xf3 ∷ 0xf2 ∷ 1 ∷ 2 ∷ 0xf2 ∷ 0xf3 ∷ 7 ∷ 0 ∷ 0xf2 ∷ 0xf1 ∷ 8 ∷ 0 ∷ []
numbers_of_short_messages_on_the_last_cable = refl

broken_sysex_leaves_its_bytes_one_by_one :
    usb_written 1 (OpenSign ∷ ByteSign 1 ∷ AbortSign ∷ ShortSign 0x90 0x3c 0x64 ∷ []) ≡
    0x1f ∷ 0xf0 ∷ 0 ∷ 0 ∷ 0x1f ∷ 1 ∷ 0 ∷ 0 ∷ 0x19 ∷ 0x90 ∷ 0x3c ∷ 0x64 ∷ []
broken_sysex_leaves_its_bytes_one_by_one = refl

clock_inside_a_sysex_goes_before_bytes_that_wait :
    usb_written 0 (OpenSign ∷ ByteSign 1 ∷ RtSign 0xf8 ∷ ByteSign 2 ∷ EndSign ∷ []) ≡
    0x0f ∷ 0xf8 ∷ 0 ∷ 0 ∷ 0x04 ∷ 0xf0 ∷ 1 ∷ 2 ∷ 0x05 ∷ 0xf7 ∷ 0 ∷ 0 ∷ []
clock_inside_a_sysex_goes_before_bytes_that_wait = refl

open_sysex_waits_in_the_live_part : usb_live 0 (OpenSign ∷ ByteSign 1 ∷ RtSign 0xf8 ∷ []) ≡ 0x0f ∷ 0xf8 ∷ 0 ∷ 0 ∷ []
open_sysex_waits_in_the_live_part = refl

end_of_the_list_writes_what_waits :
    usb_written 0 (OpenSign ∷ ByteSign 1 ∷ RtSign 0xf8 ∷ []) ≡ 0x0f ∷ 0xf8 ∷ 0 ∷ 0 ∷ 0x0f ∷ 0xf0 ∷ 0 ∷ 0 ∷ 0x0f ∷ 1 ∷
    0 ∷ 0 ∷ []
end_of_the_list_writes_what_waits = refl

-- the running form at the same lists
what_waits_is_written_as_at_an_abort :
    usb_at 0 (pending_from [] (OpenSign ∷ ByteSign 1 ∷ RtSign 0xf8 ∷ [])) AbortSign ≡ 0x0f ∷ 0xf0 ∷ 0 ∷ 0 ∷ 0x0f ∷ 1 ∷
    0 ∷ 0 ∷ []
what_waits_is_written_as_at_an_abort = refl

running_form_of_a_clock_inside_a_sysex :
    usb_from 0 [] (OpenSign ∷ ByteSign 1 ∷ RtSign 0xf8 ∷ ByteSign 2 ∷ EndSign ∷ []) ≡
    0x0f ∷ 0xf8 ∷ 0 ∷ 0 ∷ 0x04 ∷ 0xf0 ∷ 1 ∷ 2 ∷ 0x05 ∷ 0xf7 ∷ 0 ∷ 0 ∷ []
running_form_of_a_clock_inside_a_sysex = refl
