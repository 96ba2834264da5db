-- Stretches of a supply's buffer.
use Rattle.std.proofs.Common.{◌≡◌, ℕ, ◌+◌, ◌-◌, ◌<◌, ◌≤◌, List, ◌++◌, length, take, drop, sym, ◌∙◌, ap, subst, arith}
use Rattle.std.proofs.Common.{length-take}
use Rattle.std.specs.List.{slice_range}
use Rattle.std.proofs.lemmas.List.{drop-drop, drop-take, take-append-le, length-take-le}
use Rattle.mb_outside.specs.Contents.{Contents, Gives, after_read}
use Rattle.mb_rig.specs.Supply.{Drew}

-- bytes are handed out from the front
pub range_passed : (xs : List ℕ) (i j n : ℕ) → n ≤ length (take 1 (slice_range xs i j)) →
    slice_range xs (i + n) j ≡ drop n (slice_range xs i j)
range_passed xs i j n within =
    let inside : n ≤ j - i = omega (arith, length-take 1 (slice_range xs i j), length-take (j - i) (drop i xs)) in
    let len : j - i ≡ n + (j - (i + n)) = omega arith in
    sym (ap (λ k. drop n (take k (drop i xs))) len ∙ drop-take n (j - (i + n)) (drop i xs)
    ∙ ap (take (j - (i + n))) (drop-drop n i xs))

front_of_range : (n : ℕ) (buffer post : List ℕ) → n ≤ length buffer →
    slice_range (buffer ++ post) 0 n ≡ take n buffer
front_of_range n buffer post within =
    let len : n - 0 ≡ n = omega arith in
    ap (λ k. take k (buffer ++ post)) len ∙ take-append-le n buffer post within

-- what a read gave stands at the buffer's front
pub range_drawn : (old new : Contents) (read handle n : ℕ) (buffer post : List ℕ) → read ≡ handle →
    Gives old new read n buffer → n ≤ length buffer → 0 < length buffer →
    Drew handle old (slice_range (buffer ++ post) 0 n) new
range_drawn old new read handle n buffer post same gave within some =
    let gives : Gives old new handle n buffer = subst (λ (h : ℕ). Gives old new h n buffer) same gave in
    let drawn = front_of_range n buffer post within in
    let len : length (slice_range (buffer ++ post) 0 n) ≡ n =
    ap length drawn ∙ length-take-le n buffer within in
    record {
      contents = gives.contents ∙ ap (λ k. after_read handle k old) (sym len);
      bytes = drawn ∙ (gives.bytes ∙ ap (λ k. take k (old.left handle)) (sym len));
      within = let P : ℕ → Type 0 = λ k. k ≤ length (old.left handle) in subst P (sym len) gives.within;
      ends = λ none. gives.ends (sym len ∙ ap length none) some;
    }
