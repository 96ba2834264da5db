-- A list of bytes is frames and an unfinished one; its parts are theirs.
use Rattle.std.proofs.Common.{◌≡◌, ℕ, zero, suc, ◌+◌, ◌*◌, ◌-◌, ◌/◌, ◌%◌, ◌<◌, ◌⊎◌, inl, inr, true, false, List, []}
use Rattle.std.proofs.Common.{◌∷◌, ◌++◌, length, map, refl, sym, ◌∙◌, ap, subst, arith, append_assoc, append-nil}
use Rattle.std.proofs.Common.{length-append}
use Rattle.std.proofs.lemmas.Bool.Decides.{nat_tests}
use Rattle.std.specs.List.{flat_map}
use Rattle.mb_frames.specs.Frames.{FramePart, FrameBegin, FrameByte, FrameEnd, frame, frame_parts, parts}
use Rattle.mb_frames.specs.Frames.{unfinished_parts, IsUnfinished, Cut, AreBytes}
use Rattle.mb_frames.specs.Counting.{counted_parts, rest_parts}
use Rattle.mb_frames.specs.Reading.{Place, Between, High, Within, from, Stands, IsWhole, is_partial}
use Rattle.mb_frames.proofs.Steps.{rest_parts-zero, rest_parts-append, parts-counted}

-- whole frames

counted-frame : (content more : List ℕ) → counted_parts (frame content ++ more) ≡ frame_parts content ++
    counted_parts more
counted-frame content more =
    let len : 256 * (length content / 256) + length content % 256 ≡ length content = omega arith in
    let rest : rest_parts (length content) (content ++ more) ≡ map FrameByte content ++ rest_parts 0 more =
    rest_parts-append (length content) content more 0 (omega arith) in
    let begins : ℕ → List FramePart = λ n. FrameBegin n ∷ rest_parts n (content ++ more) in
    ap begins len ∙
    (ap (λ z. FrameBegin (length content) ∷ z) (rest ∙ ap (λ z. map FrameByte content ++ z) (rest_parts-zero more)) ∙
    ap (λ z. FrameBegin (length content) ∷ z) (sym (append_assoc (map FrameByte content) (FrameEnd ∷ [])
    (counted_parts more))))

parts-frame : (content more : List ℕ) → parts (frame content ++ more) ≡ frame_parts content ++ parts more
parts-frame content more =
    parts-counted (frame content ++ more) ∙ (counted-frame content more ∙ ap (λ z. frame_parts content ++
    z) (sym (parts-counted more)))

pub parts-frames : (contents : List (List ℕ)) (more : List ℕ) → parts (flat_map frame contents ++ more) ≡
    flat_map frame_parts contents ++ parts more
parts-frames [] more = refl
parts-frames (content ∷ contents) more =
    ap parts (append_assoc (frame content) (flat_map frame contents) more) ∙
    (parts-frame content (flat_map frame contents ++ more) ∙
    (ap (λ z. frame_parts content ++ z) (parts-frames contents more) ∙
    sym (append_assoc (frame_parts content) (flat_map frame_parts contents) (parts more))))

rest_parts-short : (left : ℕ) (bytes : List ℕ) → length bytes < left → rest_parts left bytes ≡ map FrameByte bytes
rest_parts-short zero bytes short = absurd (omega (arith, short))
rest_parts-short (suc left) [] short = refl
rest_parts-short (suc left) (b ∷ bs) short = ap (λ z. FrameByte b ∷ z) (rest_parts-short left bs (omega (arith, short)))

pub parts-unfinished : (rest : List ℕ) → IsUnfinished rest → parts rest ≡ unfinished_parts rest
parts-unfinished [] is = parts-counted []
parts-unfinished (high ∷ []) is = parts-counted (high ∷ [])
parts-unfinished (high ∷ low ∷ content) is =
    parts-counted (high ∷ low ∷ content) ∙ ap (λ z. FrameBegin (256 * high + low) ∷ z)
    (rest_parts-short (256 * high + low) content is)

pub frames-parts : (contents : List (List ℕ)) → parts (flat_map frame contents) ≡ flat_map frame_parts contents
frames-parts contents =
    ap parts (sym (append-nil (flat_map frame contents))) ∙ (parts-frames contents [] ∙
    append-nil (flat_map frame_parts contents))

pub frames-whole : (contents : List (List ℕ)) → IsWhole (flat_map frame contents)
frames-whole contents = record {
  alone = λ more. parts-frames contents more ∙ ap (λ z. z ++ parts more) (sym (frames-parts contents));
}

-- any list of bytes is cut

-- what is left of a content's bytes: too few, or all and what follows
abbrev Rest : ℕ → List ℕ → Type 0
Rest left bytes = (length bytes < left) ⊎ ((content : List ℕ) × (more : List ℕ) × (bytes ≡ content ++ more) ×
    (length content ≡ left) × Cut more)

cut_short : (bytes : List ℕ) → IsUnfinished bytes → Cut bytes
cut_short bytes is = record { contents = []; rest = bytes; joined = refl; unfinished = is }

frame-length : (high low : ℕ) (content : List ℕ) → low < 256 → length content ≡ 256 * high + low →
    high ∷ low ∷ content ≡ frame content
frame-length high low content small is =
    let first : high ≡ length content / 256 = omega (arith, is) in
    let second : low ≡ length content % 256 = omega (arith, is) in
    ap (λ z. z ∷ low ∷ content) first ∙ ap (λ z. (length content / 256) ∷ z ∷ content) second

cut_from : (high low : ℕ) (bytes : List ℕ) → low < 256 → Rest (256 * high + low) bytes → Cut (high ∷ low ∷ bytes)
cut_from high low bytes small r = elim r [
  | inl short ↦ cut_short (high ∷ low ∷ bytes) short
  | inr (content, more, joined, len, cut) ↦ record {
    contents = content ∷ cut.contents;
    rest = cut.rest;
    joined =
        ap (λ z. high ∷ low ∷ z) joined ∙
        (ap (λ z. z ++ more) (frame-length high low content small len) ∙
        (ap (λ z. frame content ++ z) cut.joined ∙
        sym (append_assoc (frame content) (flat_map frame cut.contents) cut.rest)));
    unfinished = cut.unfinished;
  }
]

one_more : (left b : ℕ) (bytes : List ℕ) → Rest left bytes → Rest (suc left) (b ∷ bytes)
one_more left b bytes r = elim r [
  | inl short ↦ inl (omega (arith, short))
  | inr (content, more, joined, len, cut) ↦ inr (b ∷ content, more, ap (λ z. b ∷ z) joined, omega (arith, len), cut)
]

cut_rest : (left : ℕ) (bytes : List ℕ) → AreBytes bytes → Rest left bytes
cut_rest zero [] are = inr ([], [], refl, refl, cut_short [] tt)
cut_rest zero (high ∷ []) are = inr ([], high ∷ [], refl, refl, cut_short (high ∷ []) tt)
cut_rest zero (high ∷ low ∷ bytes) are =
    inr (
      [],
      high ∷ low ∷ bytes,
      refl,
      refl,
      cut_from high low bytes are.1.0 (cut_rest (256 * high + low) bytes
          are.1.1),
    )
cut_rest (suc left) [] are = inl (omega arith)
cut_rest (suc left) (b ∷ bytes) are = one_more left b bytes (cut_rest left bytes are.1)

pub cut : (bytes : List ℕ) → AreBytes bytes → Cut bytes
cut [] are = cut_short [] tt
cut (high ∷ []) are = cut_short (high ∷ []) tt
cut (high ∷ low ∷ bytes) are = cut_from high low bytes are.1.0 (cut_rest (256 * high + low) bytes are.1.1)

-- where nothing is unfinished

-- Where the next byte is told of, and nothing is to be told without it, the bytes so far aren't whole.
tells_more : (bytes : List ℕ) (so_far : List FramePart) (place : Place) (b : ℕ) (x : FramePart) (xs : List FramePart) →
    Stands place bytes so_far → from place [] ≡ [] → from place (b ∷ []) ≡ x ∷ xs → IsWhole bytes → ⊥
tells_more bytes so_far place b x xs s nothing something whole =
    let now : parts bytes ≡ so_far = ap parts (sym (append-nil bytes)) ∙
    (s.rest [] ∙ (ap (λ z. so_far ++ z) nothing ∙ append-nil so_far)) in
    let then_ : parts (bytes ++ b ∷ []) ≡ so_far ++ x ∷ xs = s.rest (b ∷ []) ∙ ap (λ z. so_far ++ z) something in
    let alone : parts (bytes ++ b ∷ []) ≡ parts bytes ++ [] = whole.alone (b ∷ []) in
    let same : so_far ++ x ∷ xs ≡ so_far = sym then_ ∙ (alone ∙ (append-nil (parts bytes) ∙ now)) in
    let lengths : length so_far + length (x ∷ xs) ≡ length so_far = sym (length-append so_far (x ∷ xs)) ∙
    ap length same in
    omega (arith, lengths)

tells_alone : (bytes : List ℕ) (so_far : List FramePart) (place : Place) →
    Stands place bytes so_far → ((more : List ℕ) → from place more ≡ from place [] ++ parts more) → IsWhole bytes
tells_alone bytes so_far place s apart = record {
  alone = λ more.
      let now : parts bytes ≡ so_far ++ from place [] = ap parts (sym (append-nil bytes)) ∙ s.rest [] in
      s.rest more ∙ (ap (λ z. so_far ++ z) (apart more) ∙
      (sym (append_assoc so_far (from place []) (parts more)) ∙ ap (λ z. z ++ parts more) (sym now)));
}

inside : (left : ℕ) → is_partial (Within (suc left)) ≡ true
inside left = grind (arith, nat_tests)

not_true : true ≡ false → ⊥
not_true h = cc

pub whole_or_partial : (bytes : List ℕ) (so_far : List FramePart) (place : Place) →
    Stands place bytes so_far → (is_partial place ≡ false → IsWhole bytes) × (IsWhole bytes → is_partial place ≡ false)
whole_or_partial bytes so_far Between s = (
  λ h. tells_alone bytes so_far Between s (λ more. sym (parts-counted more)),
  λ h. refl,
)
whole_or_partial bytes so_far (High high) s = (
  λ h. absurd (not_true h),
  λ whole. absurd (tells_more bytes so_far (High high) 0 (FrameBegin (256 * high + 0))
      (rest_parts (256 * high + 0) []) s refl refl whole),
)
whole_or_partial bytes so_far (Within zero) s = (
  λ h. tells_alone bytes so_far (Within zero) s (λ more.
      rest_parts-zero more ∙ ap (λ z. FrameEnd ∷ z) (sym (parts-counted more))),
  λ h. refl,
)
whole_or_partial bytes so_far (Within (suc left)) s = (
  λ h. absurd (not_true (sym (inside left) ∙ h)),
  λ whole.
      absurd (tells_more bytes so_far (Within (suc left)) 0 (FrameByte 0) (rest_parts left []) s refl refl whole),
)

-- What stands for a rest stands for it behind frames.
stands_behind : (contents : List (List ℕ)) (rest : List ℕ) (place : Place) (so_far : List FramePart) →
    Stands place rest so_far → Stands place (flat_map frame contents ++ rest) (flat_map frame_parts contents ++ so_far)
stands_behind contents rest place so_far s = record {
  rest = λ more.
      ap parts (append_assoc (flat_map frame contents) rest more) ∙
      (parts-frames contents (rest ++ more) ∙
      (ap (λ z. flat_map frame_parts contents ++ z) (s.rest more) ∙
      sym (append_assoc (flat_map frame_parts contents) so_far (from place more))));
}

stands_high : (high : ℕ) → Stands (High high) (high ∷ []) []
stands_high high = record { rest = λ more. parts-counted (high ∷ more) }

stands_content : (high low left : ℕ) (content : List ℕ) → 256 * high + low ≡ length content + left →
    Stands (Within left) (high ∷ low ∷ content) (FrameBegin (256 * high + low) ∷ map FrameByte content)
stands_content high low left content is = record {
  rest = λ more.
      parts-counted (high ∷ low ∷ (content ++ more)) ∙
      ap (λ z. FrameBegin (256 * high + low) ∷ z) (rest_parts-append (256 * high + low) content more left is);
}

-- Frames and a rest are whole only where there is no rest.
rest_nothing : (contents : List (List ℕ)) (rest : List ℕ) → IsUnfinished rest → IsWhole (flat_map frame contents ++
    rest) → rest ≡ []
rest_nothing contents [] is whole = refl
rest_nothing contents (high ∷ []) is whole =
    absurd (tells_more (flat_map frame contents ++ high ∷ []) (flat_map frame_parts contents ++ []) (High high) 0
    (FrameBegin (256 * high + 0)) (rest_parts (256 * high + 0) [])
    (stands_behind contents (high ∷ []) (High high) [] (stands_high high)) refl refl whole)
rest_nothing contents (high ∷ low ∷ content) is whole =
    let left : ℕ = 256 * high + low - length content - 1 in
    let are : 256 * high + low ≡ length content + suc left = omega (arith, is) in
    let so_far : List FramePart = FrameBegin (256 * high + low) ∷ map FrameByte content in
    absurd (tells_more (flat_map frame contents ++ high ∷ low ∷ content) (flat_map frame_parts contents ++ so_far)
    (Within (suc left)) 0 (FrameByte 0) (rest_parts left [])
    (stands_behind contents (high ∷ low ∷ content) (Within (suc left)) so_far (stands_content high low (suc left)
    content are)) refl refl whole)

pub whole-frames : (bytes : List ℕ) → AreBytes bytes → IsWhole bytes → (contents : List (List ℕ)) ×
    (bytes ≡ flat_map frame contents)
whole-frames bytes are whole =
    let c : Cut bytes = cut bytes are in
    let none : c.rest ≡ [] = rest_nothing c.contents c.rest c.unfinished (subst IsWhole c.joined whole) in
    (c.contents, c.joined ∙ (ap (λ z. flat_map frame c.contents ++ z) none ∙ append-nil (flat_map frame c.contents)))
