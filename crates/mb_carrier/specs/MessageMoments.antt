-- The moments of the messages of a recording (BLE-MIDI 1.0, "Timestamp"). A byte line, a cable and a FireWire port have
-- no stamps, so that what is read of them has no moments but those that a hop before it gave.
--
--   HasStamps s, HasNoStamps s       whether a spec's carrier has stamps
--   moments_read s bytes             the moments of the messages that a recording carries on the port of a spec
--   KeepsDistances first last b o    where the last spec has stamps: if no two neighbouring messages of the bytes read
--                                    are 8,192 ms apart or more, any two lie as far apart in what was written
use Rattle.std.specs.Prelude.{ℕ, List}
use Rattle.mb_ble.specs.Distances.{message_moments, AreClose, KeepDistances}
use Rattle.mb_carrier.specs.Carrier.{puts_of}
use Rattle.mb_carrier.specs.Conversion.{none_set}
use Rattle.mb_carrier.specs.declared.spec.Spec.{Spec}
use Rattle.mb_carrier.specs.declared.spec.Spec.TheVariants.{Din, Usb, Fire, Ble}

abbrev pub HasStamps : Spec → Type 0
HasStamps Din = ⊥
HasStamps (Usb cable) = ⊥
HasStamps (Fire port) = ⊥
HasStamps (Ble size) = Unit {0}

abbrev pub HasNoStamps : Spec → Type 0
HasNoStamps Din = Unit {0}
HasNoStamps (Usb cable) = Unit {0}
HasNoStamps (Fire port) = Unit {0}
HasNoStamps (Ble size) = ⊥

abbrev pub moments_read : Spec → List ℕ → List ℕ
moments_read s bytes = message_moments (puts_of s none_set bytes)

abbrev pub KeepsDistances : (first last : Spec) → (read written : List ℕ) → Type 0
KeepsDistances first last read written = HasStamps last → AreClose (moments_read first read) →
    KeepDistances (moments_read first read) (moments_read last written)
