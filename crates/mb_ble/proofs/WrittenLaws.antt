-- Of what is written: how long it is, and that it is whole frames. Of what is read: that it stays known.
use Rattle.std.proofs.Common.{◌≡◌, ℕ, zero, suc, ◌+◌, ◌-◌, ◌*◌, ◌/◌, ◌%◌, ◌≤◌, Bool, true, false, List, [], ◌∷◌, ◌++◌}
use Rattle.std.proofs.Common.{length, refl, ap, sym, subst, ◌∙◌, arith, append_assoc}
use Rattle.std.specs.Prelude.{if◌then◌else◌}
use Rattle.std.proofs.lemmas.List.{append-nil, length-append}
use Rattle.mb_stream.specs.Puts.{Put, At, Flush, signs_in}
use Rattle.mb_frames.specs.Frames.{FramePart, FrameBegin, FrameByte, FrameEnd, frame, parts}
use Rattle.mb_frames.proofs.Steps.{rest_parts-zero, parts-counted}
use Rattle.mb_frames.specs.Counting.{counted_parts, rest_parts}
use Rattle.mb_ble.specs.Packets.{Token, Begins, Ends, byte_token, tokens, all_tokens}
use Rattle.mb_ble.specs.Reading.{ble_known, onto, whole_from, ble_whole}
use Rattle.mb_ble.specs.News.{news_from}
use Rattle.mb_ble.specs.Written.{Spelled, content, header, spelling, running_of, ends, ble_live, ble_written}
use Rattle.mb_ble.specs.Running.{flushed, given_at, under_way_at, live_from, under_way_from, live, under_way}
use Rattle.mb_ble.specs.UnderWay.{is_abort}
use Rattle.mb_ble.proofs.WriterLemmas.{short_spelling}
use Rattle.mb_ble.proofs.Live.{at_abort, at_spelled, live_law, written_law}
use Rattle.mb_ble.proofs.Law.{ble_known-news}
use Rattle.mb_ble.proofs.Whole.{news-append, whole-pass}
use Rattle.mb_message.specs.Front.{IsFront}

-- Length.

abbrev cost : List Spelled → ℕ
cost [] = 0
cost (x ∷ before) = 3 + length (content (x ∷ before))

flushed-cost : (before : List Spelled) → length (flushed before) ≡ cost before
flushed-cost [] = refl
flushed-cost (x ∷ before) = omega arith

cost-more : (x : Spelled) (before : List Spelled) → cost (x ∷ before) ≤ cost before + 7
cost-more x [] = omega (
  arith,
  length-append (content []) (spelling [] x),
  short_spelling (running_of []) x.moment
      x.mark,
)
cost-more x (y ∷ before) = omega (
  arith,
  length-append (content (y ∷ before)) (spelling (y ∷ before) x),
  short_spelling (running_of (y ∷ before)) x.moment x.mark,
)

step-cost : (n : ℕ) (before : List Spelled) (p : Put) → length (given_at n before p) + cost (under_way_at n before p) ≤
    cost before + 7 * length (signs_in (p ∷ []))
step-cost n before Flush = omega (arith, flushed-cost before)
step-cost n before (At moment mark) = by (is_abort mark) refl (ends n before (record { moment = moment; mark = mark }))
  where
    marked : (e : Bool) → length (if e then flushed before else []) + cost (if e then record {
      moment = moment;
      mark =
          mark;
    } ∷ [] else record { moment = moment; mark = mark } ∷ before) ≤ cost before + 7 * 1
    marked true = omega (arith, flushed-cost before, cost-more (record { moment = moment; mark = mark }) [])
    marked false = omega (arith, cost-more (record { moment = moment; mark = mark }) before)

    by : (a : Bool) → is_abort mark ≡ a → Bool → length (given_at n before (At moment mark)) +
        cost (under_way_at n before (At moment mark)) ≤ cost before + 7 * 1
    by true a e = let z = at_abort n before moment mark a in omega (arith, ap length z.1, ap cost z.0)
    by false a e = let z = at_spelled n before moment mark a in omega (
      arith,
      ap length z.1,
      ap cost z.0,
      marked (ends n before (record { moment = moment; mark = mark })),
    )

one-more : (p : Put) (puts : List Put) → length (signs_in (p ∷ puts)) ≡ length (signs_in (p ∷ [])) +
    length (signs_in puts)
one-more (At m s) puts = omega arith
one-more Flush puts = omega arith

all-cost : (n : ℕ) (puts : List Put) (before : List Spelled) → length (live_from n before puts) +
    cost (under_way_from n before puts) ≤ cost before + 7 * length (signs_in puts)
all-cost n [] before = omega arith
all-cost n (p ∷ puts) before =
    omega (
      arith,
      length-append (given_at n before p) (live_from n (under_way_at n before p) puts),
      step-cost n before p,
      all-cost n puts (under_way_at n before p),
      one-more p puts,
    )

-- at most seven bytes a mark
pub written-size : (n : ℕ) (puts : List Put) → length (ble_written n puts) ≤ 7 * length (signs_in puts)
written-size n puts =
    omega (
      arith,
      ap length (written_law n puts),
      length-append (ble_live n puts) (flushed (under_way n puts)),
      ap length (live_law n puts),
      flushed-cost (under_way n puts),
      all-cost n puts [],
    )

-- Whole frames.

abbrev Whole : List ℕ → Type 0
Whole xs = (more : List ℕ) → whole_from 0 (xs ++ more) ≡ whole_from 0 more

whole-both : (xs ys : List ℕ) → Whole xs → Whole ys → Whole (xs ++ ys)
whole-both xs ys a b = λ more. ap (whole_from 0) (append_assoc xs ys more) ∙ (a (ys ++ more) ∙ b more)

whole-frame : (c : List ℕ) → Whole (frame c)
whole-frame c = λ more. ap (λ n. whole_from n (c ++ more)) (joined (length c)) ∙
    (whole-pass c (length c) more (omega arith) ∙ ap (λ n. whole_from n more) (nothing (length c)))
  where
    joined : (n : ℕ) → 256 * (n / 256) + n % 256 ≡ n
    joined n = omega arith

    nothing : (n : ℕ) → n - n ≡ 0
    nothing n = omega arith

whole-flushed : (before : List Spelled) → Whole (flushed before)
whole-flushed [] = λ more. refl
whole-flushed (x ∷ before) = whole-frame (header (x ∷ before) ∷ content (x ∷ before))

whole-given : (n : ℕ) (before : List Spelled) (p : Put) → Whole (given_at n before p)
whole-given n before Flush = whole-flushed before
whole-given n before (At moment mark) = by (is_abort mark) refl
  where
    marked : (e : Bool) → Whole (if e then flushed before else [])
    marked true = whole-flushed before
    marked false = λ more. refl

    by : (a : Bool) → is_abort mark ≡ a → Whole (given_at n before (At moment mark))
    by true a = subst Whole (sym (at_abort n before moment mark a).1) (λ more. refl)
    by false a = subst Whole (sym (at_spelled n before moment mark a).1)
        (marked (ends n before (record { moment = moment; mark = mark })))

whole-live : (n : ℕ) (puts : List Put) (before : List Spelled) → Whole (live_from n before puts)
whole-live n [] before = λ more. refl
whole-live n (p ∷ puts) before = whole-both (given_at n before p) (live_from n (under_way_at n before p) puts)
    (whole-given n before p) (whole-live n puts (under_way_at n before p))

pub live-whole : (n : ℕ) (puts : List Put) → ble_whole (ble_live n puts) ≡ true
live-whole n puts = ap ble_whole (live_law n puts ∙ sym (append-nil (live n puts))) ∙ whole-live n puts [] []

pub written-whole : (n : ℕ) (puts : List Put) → ble_whole (ble_written n puts) ≡ true
written-whole n puts =
    ap ble_whole (written_law n puts ∙ ap (λ z. z ++ flushed (under_way n puts)) (live_law n puts) ∙
    sym (append-nil (live n puts ++ flushed (under_way n puts))))
    ∙ whole-both (live n puts) (flushed (under_way n puts)) (whole-live n puts []) (whole-flushed (under_way n puts)) []

-- What is known stays known.

rest-front : (left : ℕ) (bytes more : List ℕ) → IsFront (rest_parts left bytes) (rest_parts left (bytes ++ more))
rest-front zero [] more = (counted_parts more, rest_parts-zero more)
rest-front zero (h ∷ []) more = (counted_parts (h ∷ more), rest_parts-zero (h ∷ more))
rest-front zero (h ∷ l ∷ bytes) more = let f = rest-front (256 * h + l) bytes more in
    (f.0, ap (λ z. FrameEnd ∷ FrameBegin (256 * h + l) ∷ z) f.1)
rest-front (suc left) [] more = (rest_parts (suc left) more, refl)
rest-front (suc left) (b ∷ bytes) more = let f = rest-front left bytes more in (f.0, ap (λ z. FrameByte b ∷ z) f.1)

counted-front : (bytes more : List ℕ) → IsFront (counted_parts bytes) (counted_parts (bytes ++ more))
counted-front [] more = (counted_parts more, refl)
counted-front (h ∷ []) more = (counted_parts (h ∷ more), refl)
counted-front (h ∷ l ∷ bytes) more = let f = rest-front (256 * h + l) bytes more in
    (f.0, ap (λ z. FrameBegin (256 * h + l) ∷ z) f.1)

parts-front : (bytes more : List ℕ) → IsFront (parts bytes) (parts (bytes ++ more))
parts-front bytes more =
    let f = counted-front bytes more in
    (f.0, parts-counted (bytes ++ more) ∙ (f.1 ∙ ap (λ z. z ++ f.0) (sym (parts-counted bytes))))

tokens-front : (at : ℕ) (last : Token) (ps rest : List FramePart) → IsFront (tokens at last ps) (tokens at last (ps ++
    rest))
tokens-front at last [] rest = (tokens at last rest, refl)
tokens-front at last (FrameBegin len ∷ ps) rest = let f = tokens-front (at + 2) (Begins at len) ps rest in
    (f.0, ap (λ z. Begins at len ∷ z) f.1)
tokens-front at last (FrameByte b ∷ ps) rest = let f = tokens-front (at + 1) (byte_token at last b) ps rest in
    (f.0, ap (λ z. byte_token at last b ∷ z) f.1)
tokens-front at last (FrameEnd ∷ ps) rest = let f = tokens-front at (Ends (at - 1)) ps rest in
    (f.0, ap (λ z. Ends (at - 1) ∷ z) f.1)

pub known-stays : (bytes more : List ℕ) → IsFront (ble_known bytes) (ble_known (bytes ++ more))
known-stays bytes more =
    let p = parts-front bytes more in
    let t = tokens-front 0 (Ends 0) (parts bytes) p.0 in (
      news_from (onto [] (all_tokens bytes)) t.0,
      ble_known-news (bytes ++ more) ∙ (ap (λ ps. news_from [] (tokens 0 (Ends 0) ps)) p.1 ∙ (ap (news_from []) t.1
          ∙ (news-append (all_tokens bytes) t.0 [] ∙ ap (λ z. z ++ news_from (onto [] (all_tokens bytes)) t.0)
          (sym (ble_known-news bytes))))),
    )
