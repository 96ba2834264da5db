-- The moments of messages, read of packets, through chains and read again.
use Rattle.std.proofs.Common.{◌≡◌, ℕ, List, [], ◌∷◌, refl}
use Rattle.mb_carrier.specs.Conversion.{through}
use Rattle.mb_carrier.specs.MessageMoments.{moments_read}
use Rattle.mb_carrier.specs.declared.spec.Spec.{Spec}
use Rattle.mb_carrier.specs.declared.spec.Spec.TheVariants.{Din, Usb, Fire, Ble}

-- what was read, converted and read again
abbrev again : List Spec → List ℕ → List ℕ
again between bytes = moments_read (Ble 20) (through (Ble 20) between (Ble 20) bytes)

abbrev falling : List ℕ
falling = 0 ∷ 5 ∷ 0x80 ∷ 0xff ∷ 0xf8 ∷ 0x80 ∷ 0xfa ∷ []

example-fall : moments_read (Ble 20) falling ≡ 127 ∷ 128 ∷ []
example-fall = refl

example-fall_again : again [] falling ≡ 127 ∷ 128 ∷ []
example-fall_again = refl

abbrev round : List ℕ
round = 0 ∷ 3 ∷ 0xbf ∷ 0xff ∷ 0xf8 ∷ 0 ∷ 3 ∷ 0x80 ∷ 0x80 ∷ 0xf8 ∷ []

example-round : moments_read (Ble 20) round ≡ 8191 ∷ 8192 ∷ []
example-round = refl

example-round_again : again (Ble 5 ∷ []) round ≡ 8191 ∷ 8192 ∷ []
example-round_again = refl

-- 128 ms apart they stand in two packets, 127 ms apart in one
example-far : again (Din ∷ []) (0 ∷ 3 ∷ 0x80 ∷ 0x80 ∷ 0xf8 ∷ 0 ∷ 3 ∷ 0x81 ∷ 0x80 ∷ 0xf8 ∷ []) ≡ 0 ∷ 128 ∷ []
example-far = refl

example-near : again (Usb 0 ∷ []) (0 ∷ 3 ∷ 0x80 ∷ 0x80 ∷ 0xf8 ∷ 0 ∷ 3 ∷ 0x80 ∷ 0xff ∷ 0xf8 ∷ []) ≡ 0 ∷ 127 ∷ []
example-near = refl

-- a keyboard's notes with clock and active sensing, and an identity reply
abbrev keyboard : List ℕ
keyboard =
    0 ∷ 12 ∷ 0xa0 ∷ 0x85 ∷ 0x90 ∷ 60 ∷ 100 ∷ 0x85 ∷ 64 ∷ 96 ∷ 0x87 ∷ 0xf8 ∷ 0x87 ∷ 0xfe ∷ 0 ∷ 18 ∷ 0xa0 ∷ 0x88 ∷ 0xf0
    ∷ 126 ∷ 0 ∷ 6 ∷ 2 ∷ 65 ∷ 16 ∷ 2 ∷ 0 ∷ 0 ∷ 0 ∷ 1 ∷ 0 ∷ 0 ∷ 0x88 ∷ 0xf7 ∷ []

example-keyboard : moments_read (Ble 20) keyboard ≡ 4101 ∷ 4101 ∷ 4103 ∷ 4103 ∷ 4104 ∷ []
example-keyboard = refl

example-keyboard_again : again (Usb 3 ∷ Din ∷ Ble 7 ∷ []) keyboard ≡ 4101 ∷ 4101 ∷ 4103 ∷ 4103 ∷ 4104 ∷ []
example-keyboard_again = refl

-- a clock among the data of a SysEx passes a cable's packets that wait
abbrev among : List ℕ
among = 0 ∷ 10 ∷ 0x80 ∷ 0x8a ∷ 0xf0 ∷ 1 ∷ 0x9e ∷ 0xf8 ∷ 2 ∷ 3 ∷ 0xa8 ∷ 0xf7 ∷ []

example-among : moments_read (Ble 20) among ≡ 30 ∷ 40 ∷ []
example-among = refl

example-among_again : again (Usb 3 ∷ Fire 9 ∷ []) among ≡ 30 ∷ 40 ∷ []
example-among_again = refl

-- an undefined status with a stamp is no message, so what is written begins a round earlier
example-earlier : moments_read (Ble 20) (0 ∷ 3 ∷ 0xbf ∷ 0xff ∷ 0xf4 ∷ 0 ∷ 3 ∷ 0x80 ∷ 0x81 ∷ 0xf8 ∷ []) ≡ 8193 ∷ []
example-earlier = refl

example-earlier_again : again [] (0 ∷ 3 ∷ 0xbf ∷ 0xff ∷ 0xf4 ∷ 0 ∷ 3 ∷ 0x80 ∷ 0x81 ∷ 0xf8 ∷ []) ≡ 1 ∷ []
example-earlier_again = refl
