-- Readers that took the same bytes, and one that is told of bytes one by one.
use Rattle.std.proofs.Common.{◌≡◌, ◌≢◌, ℕ, zero, suc, ◌+◌, ◌*◌, ◌-◌, ◌<◌, ◌≤◌, true, false, List, [], ◌∷◌, ◌++◌, length}
use Rattle.std.proofs.Common.{map, refl, sym, ◌∙◌, ap, subst, arith, append_assoc, append-nil}
use Rattle.std.proofs.lemmas.Bool.Decides.{nat_tests}
use Rattle.std.proofs.lemmas.List.{append_cancel_left}
use Rattle.mb_frames.specs.Frames.{FramePart, FrameBegin, FrameByte, FrameEnd, parts}
use Rattle.mb_frames.specs.Reading.{Place, Between, High, Within, from, Stands, room_of, behind_length, length_ended}
use Rattle.mb_frames.specs.Reading.{begun, is_at_end}
use Rattle.mb_frames.proofs.Steps.{rest_parts-zero, rest_parts-append, parts-counted}

-- but for an end there is nothing to tell without a byte
nothing : (place : Place) → is_at_end place ≡ false → from place [] ≡ []
nothing Between h = refl
nothing (High high) h = refl
nothing (Within zero) h = cc
nothing (Within (suc left)) h = refl

pub told-all : (bytes : List ℕ) (place : Place) (so_far : List FramePart) → Stands place bytes so_far →
    is_at_end place ≡ false →
    so_far ≡ parts bytes
told-all bytes place so_far s none =
    sym (ap parts (sym (append-nil bytes)) ∙ (s.rest [] ∙ (ap (λ z. so_far ++ z) (nothing place none) ∙
    append-nil so_far)))

pub told-same : (bytes : List ℕ) (one other : Place) (so_far as_well : List FramePart) → Stands one bytes so_far →
    Stands other bytes as_well →
    is_at_end one ≡ false → is_at_end other ≡ false → so_far ≡ as_well
told-same bytes one other so_far as_well s t none no_other = told-all bytes one so_far s none ∙
    sym (told-all bytes other as_well t no_other)

pub go-alike : (bytes : List ℕ) (one other : Place) (so_far as_well : List FramePart) → Stands one bytes so_far →
    Stands other bytes as_well →
    is_at_end one ≡ false → is_at_end other ≡ false → (more : List ℕ) → from one more ≡ from other more
go-alike bytes one other so_far as_well s t none no_other more =
    append_cancel_left so_far (from one more) (from other more)
    (sym (s.rest more) ∙ (t.rest more ∙ ap (λ z. z ++ from other more)
    (sym (told-same bytes one other so_far as_well s t none no_other))))

pub new-stands : (place : Place) → place ≡ Between → Stands place [] []
new-stands place e = subst (λ p. Stands p [] []) (sym e) (record { rest = parts-counted })

stands-on : (old new : Place) (bytes taken : List ℕ) (so_far news : List FramePart) →
    ((more : List ℕ) → from old (taken ++ more) ≡ news ++ from new more) →
    Stands old bytes so_far → Stands new (bytes ++ taken) (so_far ++ news)
stands-on old new bytes taken so_far news step s = record {
  rest = λ more.
      ap parts (append_assoc bytes taken more) ∙
      (s.rest (taken ++ more) ∙
      (ap (λ z. so_far ++ z) (step more) ∙
      sym (append_assoc so_far news (from new more))));
}

pub behind-length : (place : Place) (byte : ℕ) (bytes : List ℕ) (so_far : List FramePart) →
    ((left : ℕ) → place ≢ Within left) →
    Stands place bytes so_far → Stands (behind_length place byte) (bytes ++ byte ∷ []) (so_far ++
    begun (length_ended place byte))
behind-length Between byte bytes so_far outside s = stands-on Between (High byte) bytes (byte ∷ []) so_far [] (λ more.
    refl) s
behind-length (High high) byte bytes so_far outside s =
    stands-on (High high) (Within (256 * high + byte)) bytes (byte ∷ []) so_far (FrameBegin (256 * high + byte) ∷ [])
    (λ more. refl) s
behind-length (Within left) byte bytes so_far outside s = absurd (outside left refl)

pub behind-content : (old new : Place) (count : ℕ) → new ≡ Within (room_of old - count) → 0 < count →
    count ≤ room_of old →
    (content bytes : List ℕ) (so_far : List FramePart) → length content ≡ count → Stands old bytes so_far →
    Stands new (bytes ++ content) (so_far ++ map FrameByte content)
behind-content Between new count e some few content bytes so_far is s = absurd (omega arith)
behind-content (High high) new count e some few content bytes so_far is s = absurd (omega arith)
behind-content (Within left) new count e some few content bytes so_far is s =
    subst (λ p. Stands p (bytes ++ content) (so_far ++ map FrameByte content)) (sym e)
    (stands-on (Within left) (Within (left - count)) bytes content so_far (map FrameByte content)
    (λ more. rest_parts-append left content more (left - count) (omega (arith, few, is))) s)

at-end : (place : Place) → is_at_end place ≡ true → place ≡ Within 0
at-end Between h = cc
at-end (High high) h = cc
at-end (Within left) h = let none : left ≡ 0 = grind (arith, nat_tests) in ap Within none

pub behind-end : (old new : Place) → is_at_end old ≡ true → new ≡ Between → (bytes : List ℕ) (so_far : List FramePart) →
    Stands old bytes so_far →
    Stands new bytes (so_far ++ FrameEnd ∷ [])
behind-end old new e f bytes so_far s = subst (λ p. Stands p bytes (so_far ++ FrameEnd ∷ [])) (sym f) (record {
  rest = λ more.
      s.rest more ∙
      (ap (λ z. so_far ++ z) (ap (λ p. from p more) (at-end old e) ∙ rest_parts-zero more) ∙
      sym (append_assoc so_far (FrameEnd ∷ []) (from Between more)));
})
