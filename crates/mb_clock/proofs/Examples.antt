-- The definitions compute.
use Rattle.std.proofs.Common.{◌≡◌, [], ◌∷◌, refl}
use Rattle.mb_clock.specs.Stamps.{all_bits}
use Rattle.mb_clock.specs.Moments.{moments}

-- the first stamp has its 13 bits as its moment
first : moments ((record { high = 2; lows = 5 ∷ [] }) ∷ []) ≡ 261 ∷ []
first = refl

-- the lower bits fall once, and twice: the upper bits rise each time
falls_once : moments ((record { high = 2; lows = 126 ∷ 1 ∷ 1 ∷ [] }) ∷ []) ≡ 382 ∷ 385 ∷ 385 ∷ []
falls_once = refl

falls_twice : moments ((record { high = 2; lows = 126 ∷ 1 ∷ 0 ∷ 7 ∷ [] }) ∷ []) ≡ 382 ∷ 385 ∷ 512 ∷ 519 ∷ []
falls_twice = refl

-- 13 bits go round, in a packet and at the next one's header
around : all_bits ((record { high = 63; lows = 127 ∷ 0 ∷ [] }) ∷ []) ≡ 8191 ∷ 0 ∷ []
around = refl

around_moments : moments ((record { high = 63; lows = 127 ∷ 0 ∷ [] }) ∷ []) ≡ 8191 ∷ 8192 ∷ []
around_moments = refl

header_back : moments ((record { high = 5; lows = 0 ∷ [] }) ∷ (record { high = 4; lows = 127 ∷ [] }) ∷ []) ≡ 640 ∷
    8831 ∷ []
header_back = refl
