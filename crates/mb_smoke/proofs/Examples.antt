-- Worked examples of the definitions, by computing.
use Rattle.std.proofs.Common.{◌≡◌, [], ◌∷◌, refl}
use Rattle.std.specs.Prelude.{codes}
use Rattle.mb_carrier.specs.Carrier.{den}
use Rattle.mb_carrier.specs.declared.spec.Spec.TheVariants.{Din}
use Rattle.mb_smoke.specs.Summed.{mixed, counts_of}
use Rattle.mb_smoke.specs.Texts.{hexadecimal, mix_text}

nothing_mixed : mixed 0 [] ≡ 0
nothing_mixed = refl

pitch_bend_mixed : mixed 0 (0xe4 ∷ 0x65 ∷ 0x2a ∷ []) ≡ 222281
pitch_bend_mixed = refl

-- past 32 bits the upper ones are left out
mixed_in_32_bits : mixed 0 (0xc1 ∷ 0x6b ∷ 0xff ∷ 0xe4 ∷ 0x76 ∷ 0x3d ∷ []) ≡ 0x4fb273d6
mixed_in_32_bits = refl

mixed_text : mix_text 222281 ≡ codes "mix 00036449\n"
unfolding hexadecimal
mixed_text = refl

mixed_text_in_lower_case : mix_text 0x4fb273d6 ≡ codes "mix 4fb273d6\n"
unfolding hexadecimal
mixed_text_in_lower_case = refl

-- a Program Change, a System Reset, a Pitch Bend, a SysEx with a clock in it and one that stays open
meaning_counted : counts_of (den Din (0xc1 ∷ 0x6b ∷ 0xff ∷ 0xe4 ∷ 0x76 ∷ 0x3d ∷ 0xf0 ∷ 0xf8 ∷ 0x01 ∷ 0xf7 ∷ 0xf0 ∷ []))
    ≡ record { msg = 2; syx = 1; broken = 1; rt = 2 }
meaning_counted = refl
