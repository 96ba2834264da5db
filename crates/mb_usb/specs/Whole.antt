-- Packets that stand whole in the input (USB Device Class Definition for MIDI Devices 1.0, section 4), taken in one go.
--
--   WholeBytes number bytes ..     the bytes that a packet uses were taken whole by its cable's reader
--   WholePacket cable ..           a packet of the cable was taken
--   is_at_once number s bytes      such bytes are a message, or data of the open SysEx, and are taken in one go
--   PassedOver cable ..            bytes were passed over that aren't the cable's
use Rattle.std.specs.Prelude.{◌≡◌, ℕ, ◌+◌, ◌/◌, ◌%◌, ◌≢◌, Bool, true, false, ◌&&◌, ◌||◌, ◌==◌, nat_le, if◌then◌else◌}
use Rattle.std.specs.Prelude.{None, List, [], ◌∷◌, ◌++◌, length, take}
use Rattle.mb_message.specs.Bytes.{is_data, is_realtime}
use Rattle.mb_stream.specs.Told.{Told}
use Rattle.mb_din.specs.Reader.{TakesWhole}
use Rattle.mb_din.specs.State.{State, free_now, open_now}
use Rattle.mb_usb.specs.declared.under.Under.{Under}
use Rattle.mb_usb.specs.declared.under.Under.TheVariants.{Between}
use Rattle.mb_usb.specs.declared.under.Packets.{Packets}
use Rattle.mb_usb.specs.Reading.{used, suits_rest}
use Rattle.mb_usb.specs.Under.{is_of_cable, packet_after, packet_behind}

-- the three bytes suit the code index number, so that nothing is remarked of the packet
pub record WholeBytes (number : ℕ) (bytes : List ℕ) (at : ℕ) (reader reader_now : State)
    (answer : List Told) : Type 0 where
  pub some : used number ≢ 0
  pub suits : suits_rest number bytes ≡ true
  pub takes : TakesWhole reader reader_now at (take (used number) bytes) answer

pub record WholePacket (cable : ℕ) (was now : Packets) (reader reader_now : State) (input left : List ℕ)
    (answer : List Told) : Type 0 where
  pub head : ℕ
  pub bytes : List ℕ
  pub front : input ≡ head ∷ (bytes ++ left)
  pub three : length bytes ≡ 3
  pub of : head / 16 ≡ cable
  pub between : was.under ≡ Between
  pub behind : now ≡ record { offset = was.offset + 4; under = Between; due = None }
  pub carries : WholeBytes (head % 16) bytes (was.offset + 1) reader reader_now answer

-- what a code index number from 8 on stands for: a channel message, of which C and D have one data byte, or a single
-- byte
abbrev pub is_message : (number : ℕ) → State → (first second third : ℕ) → Bool
is_message number s a b c =
    if number == 15 then is_realtime a
    else ((number == a / 16) && free_now s && is_data b && (number == 12 || number == 13 || is_data c))

abbrev pub is_at_once : (number : ℕ) → State → List ℕ → Bool
is_at_once number s (a ∷ b ∷ c ∷ []) =
    if nat_le 8 number then is_message number s a b c
    else ((number == 4) && open_now s && is_data a && is_data b && is_data c)
is_at_once number s bytes = false

abbrev pub is_between : Under → Bool
is_between Between = true
is_between _ = false

-- such a packet of the cable stands whole at the front of the input, and none is under way
abbrev pub is_packet_at_once : (cable : ℕ) → Packets → State → (input : List ℕ) → Bool
is_packet_at_once cable p s [] = false
is_packet_at_once cable p s (head ∷ input) =
    is_between p.under && (head / 16 == cable) && is_at_once (head % 16) s (take 3 input)

-- one after the other: none is the cable's, and nothing is remarked before the last
abbrev pub ArePassed : (cable : ℕ) → Packets → List ℕ → Type 0
ArePassed cable p [] = Unit {0}
ArePassed cable p (b ∷ bs) = (p.due ≡ None) × (is_of_cable cable p.under ≡ false) ×
    ArePassed cable (packet_after p b) bs

pub record PassedOver (cable : ℕ) (was now : Packets) (input left : List ℕ) : Type 0 where
  pub taken : List ℕ
  pub front : input ≡ taken ++ left
  pub passed : ArePassed cable was taken
  pub behind : now ≡ packet_behind was taken
