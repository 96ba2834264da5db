-- What a list of marks is written as on a cable (USB Device Class Definition for MIDI Devices 1.0, section 4 and table
-- 4-1; MIDI 1.0 Detailed Specification 4.2, "System Exclusive Messages"). The list is looked at as a whole: each packet
-- has a place, that of the mark at which it can be written, and packets stand in the order of their places.
--
--   usb_packets cable 0 ms     the packets of a list, each at its place
--   usb_written cable ms       their bytes
--   usb_live cable ms          those that are written while the list goes on
use Rattle.std.specs.Prelude.{ℕ, ◌+◌, ◌==◌, nat_lt, nat_le, if◌then◌else◌, List, [], ◌∷◌, ◌++◌, length, flat_map}
use Rattle.mb_message.specs.Signs.{Sign, ShortSign, RtSign, OpenSign, ByteSign, EndSign}
use Rattle.mb_stream.specs.Spelling.{data_of}
use Rattle.mb_usb.specs.Packets.{packet, cin_of_short, single}

-- something at a place, that of a mark in its list or the end of the list: no word of the standard
pub record Placed (X : Type 0) : Type 0 where
  pub place : ℕ
  pub thing : X

abbrev pub at_place : {X : Type 0} → ℕ → X → Placed X
at_place i x = record { place = i; thing = x }

-- "System Exclusive Messages": the bytes behind F0, F7 last if it has one; real-time messages between them are none of
-- it
abbrev pub rest_of_sysex : ℕ → List Sign → List (Placed ℕ)
rest_of_sysex i [] = []
rest_of_sysex i (ByteSign b ∷ ms) = at_place i b ∷ rest_of_sysex (i + 1) ms
rest_of_sysex i (RtSign b ∷ ms) = rest_of_sysex (i + 1) ms
rest_of_sysex i (EndSign ∷ ms) = at_place i 0xf7 ∷ []
rest_of_sysex i (_ ∷ ms) = []

-- The same section: it ends at the first mark that is neither its data nor real-time, or at the end of the list.
abbrev pub end_of_sysex : ℕ → List Sign → ℕ
end_of_sysex i [] = i
end_of_sysex i (ByteSign b ∷ ms) = end_of_sysex (i + 1) ms
end_of_sysex i (RtSign b ∷ ms) = end_of_sysex (i + 1) ms
end_of_sysex i (_ ∷ ms) = i

-- USB-MIDI 1.0, section 4: cut into threes, the last of them perhaps shorter
abbrev pub threes : {X : Type 0} → List X → List (List X)
threes [] = []
threes (x ∷ []) = (x ∷ []) ∷ []
threes (x ∷ y ∷ []) = (x ∷ y ∷ []) ∷ []
threes (x ∷ y ∷ z ∷ xs) = (x ∷ y ∷ z ∷ []) ∷ threes xs

-- USB-MIDI 1.0, table 4-1, numbers 4 to 7 and F: a part with F7 is a packet of number 5, 6 or 7, by its length, and a
-- three without F7 one of number 4, each at its last byte. Where one or two bytes are left without F7, each is a packet
-- of number F where the SysEx ends.
abbrev pub part_packets : (cable end : ℕ) → List (Placed ℕ) → List (Placed (List ℕ))
part_packets cable end [] = []
part_packets cable end (x ∷ []) =
    if x.thing == 0xf7 then at_place x.place (packet cable 5 (x.thing ∷ [])) ∷ []
    else at_place end (single cable x.thing) ∷ []
part_packets cable end (x ∷ y ∷ []) =
    if y.thing == 0xf7 then at_place y.place (packet cable 6 (x.thing ∷ y.thing ∷ [])) ∷ []
    else at_place end (single cable x.thing) ∷ at_place end (single cable y.thing) ∷ []
part_packets cable end (x ∷ y ∷ z ∷ _) =
    at_place z.place (packet cable (if z.thing == 0xf7 then 7 else 4) (x.thing ∷ y.thing ∷ z.thing ∷ [])) ∷ []

abbrev pub sysex_packets : (cable end : ℕ) → List (Placed ℕ) → List (Placed (List ℕ))
sysex_packets cable end bytes = flat_map (part_packets cable end) (threes bytes)

-- USB-MIDI 1.0, section 4: each short and each real-time message is a packet, each SysEx is cut into threes
abbrev pub usb_packets : (cable place : ℕ) → List Sign → List (Placed (List ℕ))
usb_packets cable i [] = []
usb_packets cable i (ShortSign s a b ∷ ms) =
    at_place i (packet cable (cin_of_short s) (s ∷ data_of s a b)) ∷ usb_packets cable (i + 1) ms
usb_packets cable i (RtSign b ∷ ms) = at_place i (single cable b) ∷ usb_packets cable (i + 1) ms
usb_packets cable i (OpenSign ∷ ms) =
    sysex_packets cable (end_of_sysex (i + 1) ms) (at_place i 0xf0 ∷ rest_of_sysex (i + 1) ms) ++
    usb_packets cable (i + 1) ms
usb_packets cable i (_ ∷ ms) = usb_packets cable (i + 1) ms

-- USB-MIDI 1.0, section 4, lets a real-time packet stand between those of a SysEx: so they stand in the order of their
-- places.
abbrev pub put_at : {X : Type 0} → Placed X → List (Placed X) → List (Placed X)
put_at x [] = x ∷ []
put_at x (y ∷ ys) = if nat_le x.place y.place then x ∷ y ∷ ys else y ∷ put_at x ys

abbrev pub by_place : {X : Type 0} → List (Placed X) → List (Placed X)
by_place [] = []
by_place (x ∷ xs) = put_at x (by_place xs)

abbrev pub usb_placed : (cable : ℕ) → List Sign → List (Placed (List ℕ))
usb_placed cable ms = by_place (usb_packets cable 0 ms)

-- the bytes of placed packets, one after the other
abbrev pub bytes_of : List (Placed (List ℕ)) → List ℕ
bytes_of xs = flat_map (λ x. x.thing) xs

abbrev pub usb_written : (cable : ℕ) → List Sign → List ℕ
usb_written cable ms = bytes_of (usb_placed cable ms)

abbrev pub before_place : {X : Type 0} → ℕ → List (Placed X) → List (Placed X)
before_place n [] = []
before_place n (x ∷ xs) = if nat_lt x.place n then x ∷ before_place n xs else before_place n xs

-- what is written while the list goes on: what stands at a mark of it, and so not at its end
abbrev pub usb_live : (cable : ℕ) → List Sign → List ℕ
usb_live cable ms = bytes_of (before_place (length ms) (usb_placed cable ms))
