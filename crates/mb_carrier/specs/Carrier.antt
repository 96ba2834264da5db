-- Each carrier's reading and writing, by cases.
--
--   payload_of s bytes     the byte stream that a recording carries on the port that a spec names
--   known s bytes          what becomes known at the recording's bytes, in order
--   end_told s bytes       what only its end makes known
--   reading_of s bytes     both, the marks and notes of the port
--   marks_of, notes_of     the marks of a reading, and its notes
--   den s bytes            what a recording denotes on its port
--   whole s bytes          the recording doesn't stop inside a packet
--   moment_of s ms k       the moment of what becomes known, the moments of the bytes given
--   puts_of s ms bytes     the marks of a reading with their moments; puts_so_far: those that become known at its bytes
--   written s puts         what marks with their moments, and flushes, are written as
--   live s puts            the same without what the writer's finish adds
--   room_of, longest_of    the free bytes that a writer asks for, and the longest run of SysEx data that it takes
--   hop_room_of,           the same of a hop's calls, which may hand over less at once, so that a buffer is nearly full
--   hop_longest_of         before it is handed on
use Rattle.std.specs.Prelude.{ℕ, zero, suc, ◌+◌, Bool, true, List, [], ◌∷◌, ◌++◌, map, flat_map, length}
use Rattle.mb_message.specs.Signs.{Sign}
use Rattle.mb_stream.specs.Payload.{Entry}
use Rattle.mb_stream.specs.Groups.{last_of}
use Rattle.mb_stream.specs.Told.{Known, Told, Marks, Notes, at_end}
use Rattle.mb_stream.specs.Puts.{Put, At, signs_in, puts_at}
use Rattle.mb_stream.specs.Order.{in_order}
use Rattle.mb_stream.specs.Reading as stream
use Rattle.mb_stream.specs.Reading.{Part, Remark, part_of, signs_of, told_signs}
use Rattle.mb_stream.specs.Denotation.{Denotation, denotation}
use Rattle.mb_din.specs.Recording.{din_payload, din_reading}
use Rattle.mb_din.specs.Written.{din_written}
use Rattle.mb_usb.specs.Reading.{cable_payload, usb_told, usb_reading, usb_whole}
use Rattle.mb_usb.specs.Written.{usb_written, usb_live}
use Rattle.mb_fire.specs.Packets.{fire_whole}
use Rattle.mb_fire.specs.Reading.{fire_payload, fire_reading}
use Rattle.mb_fire.specs.Ports.{port_so_far}
use Rattle.mb_fire.specs.Written.{fire_written}
use Rattle.mb_fire.specs.PortWriter as fire
use Rattle.mb_ble.specs.Packets as ble
use Rattle.mb_ble.specs.Reading.{last_tokens, ble_known, ble_reading, ble_whole}
use Rattle.mb_ble.specs.Written.{ble_written, ble_live}
use Rattle.mb_carrier.specs.declared.spec.Spec.{Spec}
use Rattle.mb_carrier.specs.declared.spec.Spec.TheVariants.{Din, Usb, Fire, Ble}

abbrev pub payload_of : Spec → List ℕ → List Entry
payload_of Din bytes = din_payload bytes
payload_of (Usb cable) bytes = cable_payload cable bytes
payload_of (Fire port) bytes = fire_payload port bytes
payload_of (Ble size) bytes = ble.payload (last_tokens bytes)

abbrev pub known : Spec → List ℕ → List Known
known Din bytes = stream.so_far (din_payload bytes)
known (Usb cable) bytes = in_order (λ k. k) (usb_told cable bytes)
known (Fire port) bytes = port_so_far port bytes
known (Ble size) bytes = ble_known bytes

abbrev pub end_told : Spec → List ℕ → List Told
end_told s bytes = at_end (last_of (payload_of s bytes))

-- the marks among what is known
abbrev pub known_signs : List Known → List Sign
known_signs ks = signs_of (map part_of ks)

abbrev pub reading_of : Spec → List ℕ → List Part
reading_of Din bytes = din_reading bytes
reading_of (Usb cable) bytes = usb_reading cable bytes
reading_of (Fire port) bytes = fire_reading port bytes
reading_of (Ble size) bytes = ble_reading bytes

abbrev pub marks_of : Spec → List ℕ → List Sign
marks_of s bytes = signs_of (reading_of s bytes)

-- the marks of the part so far
abbrev pub marks_so_far : Spec → List ℕ → List Sign
marks_so_far s bytes = known_signs (known s bytes)

abbrev pub notes_of : Spec → List ℕ → List Remark
notes_of s bytes = stream.notes_of (reading_of s bytes)

abbrev pub den : Spec → List ℕ → Denotation
den s bytes = denotation (marks_of s bytes)

abbrev pub whole : Spec → List ℕ → Bool
whole Din bytes = true
whole (Usb cable) bytes = usb_whole bytes
whole (Fire port) bytes = fire_whole bytes
whole (Ble size) bytes = ble_whole bytes

-- Where a carrier has no clock, what becomes known has the moment of the byte at which it does. BLE-MIDI packets have
-- stamps, whatever the moments of their bytes.
abbrev pub moment_of : Spec → (moments : ℕ → ℕ) → Known → ℕ
moment_of Din moments k = moments k.at
moment_of (Usb cable) moments k = moments k.at
moment_of (Fire port) moments k = moments k.at
moment_of (Ble size) moments k = k.moment

abbrev pub put_in : (moment : ℕ) → Told → List Put
put_in moment (Marks m) = At moment m ∷ []
put_in moment (Notes at kind) = []

-- the marks among what is known, with their moments
abbrev pub puts_known : Spec → (moments : ℕ → ℕ) → List Known → List Put
puts_known s moments ks = flat_map (λ k. put_in (moment_of s moments k) k.told) ks

abbrev pub puts_so_far : Spec → (moments : ℕ → ℕ) → List ℕ → List Put
puts_so_far s moments bytes = puts_known s moments (known s bytes)

-- the moment of the last of so many bytes, and 0 before any
abbrev pub last_byte_moment : (moments : ℕ → ℕ) → ℕ → ℕ
last_byte_moment moments zero = 0
last_byte_moment moments (suc n) = moments n

-- the moment of what only the end makes known: of packets with stamps that of the last stamp
abbrev pub end_moment : Spec → (moments : ℕ → ℕ) → List ℕ → ℕ
end_moment Din moments bytes = last_byte_moment moments (length bytes)
end_moment (Usb cable) moments bytes = last_byte_moment moments (length bytes)
end_moment (Fire port) moments bytes = last_byte_moment moments (length bytes)
end_moment (Ble size) moments bytes = (ble.clock (last_tokens bytes)).moment

-- the marks of a reading, with their moments
abbrev pub puts_of : Spec → (moments : ℕ → ℕ) → List ℕ → List Put
puts_of s moments bytes = puts_so_far s moments bytes
    ++ puts_at (end_moment s moments bytes) (told_signs (end_told s bytes))

abbrev pub written : Spec → List Put → List ℕ
written Din puts = din_written (signs_in puts)
written (Usb cable) puts = usb_written cable (signs_in puts)
written (Fire port) puts = fire_written port (signs_in puts)
written (Ble size) puts = ble_written size puts

-- the writers of a byte line and of a FireWire port hold nothing back
abbrev pub live : Spec → List Put → List ℕ
live Din puts = din_written (signs_in puts)
live (Usb cable) puts = usb_live cable (signs_in puts)
live (Fire port) puts = fire_written port (signs_in puts)
live (Ble size) puts = ble_live size puts

abbrev pub room_of : Spec → ℕ
room_of Din = 16
room_of (Usb cable) = 24
room_of (Fire port) = fire.room port
room_of (Ble size) = size + 88

abbrev pub longest_of : Spec → ℕ
longest_of Din = 16
longest_of (Usb cable) = 16
longest_of (Fire port) = fire.longest port
longest_of (Ble size) = 16

abbrev pub hop_room_of : Spec → ℕ
hop_room_of Din = 16
hop_room_of (Usb cable) = 24
hop_room_of (Fire port) = fire.short_room port
hop_room_of (Ble size) = size + 88

abbrev pub hop_longest_of : Spec → ℕ
hop_longest_of Din = 16
hop_longest_of (Usb cable) = 16
hop_longest_of (Fire port) = 3
hop_longest_of (Ble size) = 16
