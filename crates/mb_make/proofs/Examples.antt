-- Worked examples of what is generated, by computing.
use Rattle.std.proofs.Common.{◌≡◌, [], ◌∷◌, refl}
use Rattle.mb_make.specs.Generated.{drawn, next_state, generated, made_by}

-- the upper bits of the first states behind 0
first_draws : drawn 32768 0 ∷ drawn 32768 (next_state 0) ∷ drawn 32768 (next_state (next_state 0)) ∷ []
    ≡ 0 ∷ 21468 ∷ 9988 ∷ []
first_draws = refl

-- Pitch Bend on the fifth channel
one_unit : generated 0 1 ≡ 0xe4 ∷ 0x65 ∷ 0x2a ∷ []
unfolding generated made_by
one_unit = refl

-- Program Change, System Reset, Pitch Bend
three_units : generated 1 3 ≡ 0xc1 ∷ 0x6b ∷ 0xff ∷ 0xe4 ∷ 0x76 ∷ 0x3d ∷ []
unfolding generated made_by
three_units = refl
