-- What the writers of a conversion hold back while the recording goes on, beside what is known of it.
--
--   HoldsBack s full less        what may be missing of the meaning of the marks that a spec's writer was handed
--   LeavesOut size full less     the last marks may be missing, as many as are written in one packet
--   HeldBackBy specs full less   the same of specs, each of which reads what the one before wrote
--   bytes_held, most_held        how many bytes of SysEx may be missing, of one spec and of several, where nothing else
--                                may be
use Rattle.std.specs.Prelude.{◌≡◌, ℕ, ◌+◌, true, List, [], ◌∷◌, ◌++◌, Option, Some, None}
use Rattle.mb_stream.specs.Denotation.{Denotation, denotation}
use Rattle.mb_stream.specs.Lacking.{Lacks}
use Rattle.mb_stream.specs.MeaningFront.{IsMeaningFront}
use Rattle.mb_stream.specs.Puts.{Put, signs_in}
use Rattle.mb_stream.specs.Standing.{suited}
use Rattle.mb_ble.specs.HeldBack.{IsOnePacket}
use Rattle.mb_ble.specs.Written.{ble_written}
use Rattle.mb_carrier.specs.declared.spec.Spec.{Spec}
use Rattle.mb_carrier.specs.declared.spec.Spec.TheVariants.{Din, Usb, Fire, Ble}

-- What is missing is the last marks, as many as are written in one packet of at most so many bytes, or in none
-- (BLE-MIDI 1.0, "Packet Encoding"). The marks before them are whole.
pub record LeavesOut (size : ℕ) (full less : Denotation) : Type 0 where
  pub shown : List Put
  pub held : List Put
  pub suits : suited (signs_in (shown ++ held)) ≡ true
  pub full_is : full ≡ denotation (signs_in (shown ++ held))
  pub less_is : less ≡ denotation (signs_in shown)
  pub packet : IsOnePacket size (ble_written size held)
  pub front : IsMeaningFront less full

-- The writers of a byte line and of a FireWire port hold nothing back. A cable's holds back the bytes of a SysEx that
-- fill no packet yet (USB Device Class Definition for MIDI Devices 1.0, section 4): two at most. That of BLE-MIDI
-- packets holds back the packet under way.
abbrev pub HoldsBack : Spec → (full less : Denotation) → Type 0
HoldsBack Din full less = less ≡ full
HoldsBack (Usb cable) full less = Lacks 2 less full
HoldsBack (Fire port) full less = less ≡ full
HoldsBack (Ble size) full less = LeavesOut size full less

abbrev pub HeldBackBy : List Spec → (full less : Denotation) → Type 0
HeldBackBy [] full less = less ≡ full
HeldBackBy (s ∷ specs) full less = (handed_on : Denotation) × HoldsBack s full handed_on ×
    HeldBackBy specs handed_on less

-- whole marks stand in a packet under way
abbrev pub bytes_held : Spec → Option ℕ
bytes_held Din = Some 0
bytes_held (Usb cable) = Some 2
bytes_held (Fire port) = Some 0
bytes_held (Ble size) = None

abbrev pub both_held : (one others : Option ℕ) → Option ℕ
both_held (Some one) (Some others) = Some (one + others)
both_held _ _ = None

abbrev pub most_held : List Spec → Option ℕ
most_held [] = Some 0
most_held (s ∷ specs) = both_held (bytes_held s) (most_held specs)
