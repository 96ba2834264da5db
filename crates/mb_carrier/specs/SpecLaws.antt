-- By its carrier: what is known of a spec's bytes stays known, the marks of a reading are those that are known and
-- those of its end, and they suit.
use Rattle.std.specs.Prelude.{◌≡◌, ℕ, true, List, ◌++◌}
use Rattle.mb_stream.specs.Standing.{suited}
use Rattle.mb_message.specs.Front.{IsFront}
use Rattle.mb_stream.specs.Reading.{told_signs}
use Rattle.mb_carrier.specs.Carrier.{known, end_told, marks_of, marks_so_far}
use Rattle.mb_carrier.specs.DinLaws as din
use Rattle.mb_carrier.specs.UsbLaws as usb
use Rattle.mb_carrier.specs.FireLaws as fire
use Rattle.mb_carrier.specs.BleLaws as ble
use Rattle.mb_carrier.specs.declared.spec.Spec.{Spec}
use Rattle.mb_carrier.specs.declared.spec.Spec.TheVariants.{Din, Usb, Fire, Ble}

pub known-stays : (s : Spec) (bytes more : List ℕ) → IsFront (known s bytes) (known s (bytes ++ more))
known-stays Din = din.known-stays
known-stays (Usb cable) = usb.known-stays cable
known-stays (Fire port) = fire.known-stays port
known-stays (Ble size) = ble.known-stays

pub marks-end : (s : Spec) (bytes : List ℕ) → marks_of s bytes ≡ marks_so_far s bytes ++ told_signs (end_told s bytes)
marks-end Din = din.marks-end
marks-end (Usb cable) = usb.marks-end cable
marks-end (Fire port) = fire.marks-end port
marks-end (Ble size) = ble.marks-end

pub marks-suit : (s : Spec) (bytes : List ℕ) → suited (marks_of s bytes) ≡ true
marks-suit Din = din.marks-suit
marks-suit (Usb cable) = usb.marks-suit cable
marks-suit (Fire port) = fire.marks-suit port
marks-suit (Ble size) = ble.marks-suit
