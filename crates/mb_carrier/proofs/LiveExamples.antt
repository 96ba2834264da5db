-- What stands written before the end of a recording, and what it may lack.
use Rattle.std.proofs.Common.{◌≡◌, List, [], ◌∷◌, refl}
use Rattle.std.specs.Prelude.{Some, None}
use Rattle.mb_carrier.specs.Conversion.{live_through, through}
use Rattle.mb_carrier.specs.Live.{most_held}
use Rattle.mb_carrier.specs.declared.spec.Spec.TheVariants.{Din, Usb, Ble}

-- two bytes of a SysEx fill no packet yet
example-one_cable : live_through Din [] (Usb 0) (0xf0 ∷ 1 ∷ 2 ∷ 3 ∷ 4 ∷ []) ≡ 0x04 ∷ 0xf0 ∷ 1 ∷ 2 ∷ []
example-one_cable = refl

-- they come at the end
example-at_the_end : through Din [] (Usb 0) (0xf0 ∷ 1 ∷ 2 ∷ 3 ∷ 4 ∷ [])
    ≡ 0x04 ∷ 0xf0 ∷ 1 ∷ 2 ∷ 0x0f ∷ 3 ∷ 0 ∷ 0 ∷ 0x0f ∷ 4 ∷ 0 ∷ 0 ∷ []
example-at_the_end = refl

-- two bytes wait at each cable
example-two_cables : live_through Din (Usb 0 ∷ []) (Usb 1) (0xf0 ∷ 1 ∷ 0xf0 ∷ 2 ∷ []) ≡ []
example-two_cables = refl

-- a real-time message passes what waits
example-realtime : live_through Din [] (Usb 0) (0xf0 ∷ 1 ∷ 0xf8 ∷ []) ≡ 0x0f ∷ 0xf8 ∷ 0 ∷ 0 ∷ []
example-realtime = refl

-- a byte line holds nothing back
example-most : most_held (Usb 0 ∷ Din ∷ Usb 3 ∷ []) ≡ Some 4
example-most = refl

-- a packet holds whole messages back
example-packet : most_held (Usb 0 ∷ Ble 20 ∷ []) ≡ None
example-packet = refl

-- the packet under way waits, and comes at the end
example-under_way : live_through Din [] (Ble 20) (0x90 ∷ 0x3c ∷ 0x64 ∷ []) ≡ []
example-under_way = refl

example-last_packet : through Din [] (Ble 20) (0x90 ∷ 0x3c ∷ 0x64 ∷ [])
    ≡ 0 ∷ 5 ∷ 0x80 ∷ 0x80 ∷ 0x90 ∷ 0x3c ∷ 0x64 ∷ []
example-last_packet = refl

-- packets of at most five bytes: the first is whole where the second begins
example-first_packet : live_through Din [] (Ble 5) (0xf0 ∷ 1 ∷ 2 ∷ 3 ∷ []) ≡ 0 ∷ 5 ∷ 0x80 ∷ 0x80 ∷ 0xf0 ∷ 1 ∷ 2 ∷ []
example-first_packet = refl
