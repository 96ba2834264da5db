-- Each call of the router keeps the places in order; what the tags of a reading say of their lines.
use Rattle.std.proofs.Common.{◌≡◌, ◌≢◌, ◌⊎◌, inl, inr, ⊎_elim, ℕ, zero, suc, ◌+◌, ◌<◌, true, false, Option, Some, None}
use Rattle.std.proofs.Common.{List, [], ◌∷◌, ◌++◌, map, drop, refl, ap, sym, subst, ◌∙◌, arith}
use Rattle.std.specs.Prelude.{slice_get}
use Rattle.std.proofs.lemmas.List.{map-append}
use Rattle.mb_message.specs.Signs.{Sign, ShortSign, RtSign, OpenSign, ByteSign, EndSign, AbortSign}
use Rattle.mb_rig.specs.Merging.Lines.{Key, Line, is_realtime}
use Rattle.mb_rig.specs.Merging.Report.{Passing}
use Rattle.mb_rig.specs.Merging.Tags.{Tag, Under, tag_at}
use Rattle.mb_rig.specs.Merging.Playing.{Play, takes, offered_goes, head_goes}
use Rattle.mb_rig.specs.Merging.Order.{LineFits, newest}
use Rattle.mb_rig.specs.Merging.Realtimes.{PlaceFits, IsLatest, places_of}
use Rattle.mb_rig.specs.Merging.Unstalled.{OwnFits}
use Rattle.mb_rig.specs.Merging.Places.{AreBelow, IsRising, Places}
use Rattle.mb_rig.proofs.Merging.Lateness.{none≢some, some_same, same_or_not, with_line}
use Rattle.mb_rig.proofs.Merging.PlaySteps.{with_held-same, with_held-other}
use Rattle.mb_rig.proofs.Merging.OrderSteps.{passing_of, newest-push}

last : (ns : List ℕ) (j n m : ℕ) → slice_get (ns ++ n ∷ []) j ≡ Some m → (slice_get ns j ≡ Some m) ⊎ (n ≡ m)
last [] zero n m e = inr (some_same e)
last [] (suc j) n m e = inl e
last (x ∷ xs) zero n m e = inl e
last (x ∷ xs) (suc j) n m e = last xs j n m e

rising-push : (ns : List ℕ) (n : ℕ) → IsRising ns → AreBelow ns n → IsRising (ns ++ n ∷ [])
rising-push [] n rising below = (λ j m e. absurd (none≢some m e), tt)
rising-push (x ∷ xs) n rising below = (
  λ j m e. ⊎_elim (λ (old : slice_get xs j ≡ Some m). rising.0 j m old)
      (λ (new : n ≡ m). subst (λ k. x < k) new (below 0 x refl)) (last xs j n m e),
  rising-push xs n rising.1 (λ j m e. below (suc j) m e),
)

new_line : (P : Passing → Type 0) (moment : ℕ) (line : Option Line) (before : List Passing) →
    ((k : ℕ) (z : Passing) → slice_get before k ≡ Some z → P z) →
    ((l : Line) → line ≡ Some l → P (record { line = l; moment = moment })) → (k : ℕ) (z : Passing) →
    slice_get (with_line (passing_of moment line) before) k ≡ Some z → P z
new_line P moment None before known new k z at = known k z at
new_line P moment (Some l) before known new zero z at = subst P (some_same at) (new l refl)
new_line P moment (Some l) before known new (suc k) z at = known k z at

-- before it is taken, a tag is above all of its source
pub latest-of : (p : Play) (next : ℕ → ℕ) (t : Tag) → Places p next → t.place ≡ next t.source → IsLatest p t
latest-of p next t known at k z here source = subst (λ n. z.line.place < n) (ap next source ∙ sym at)
    (known.below k z here)

next_grows : (next next_then : ℕ → ℕ) (s : ℕ) → next_then s ≡ next s + 1 → ((x : ℕ) → x ≢ s → next_then x ≡ next x) →
    (x n : ℕ) → n < next x → n < next_then x
next_grows next next_then s grown others x n less = ⊎_elim
    (λ (e : x ≡ s). let a : next_then x ≡ next_then s = ap next_then e in let b : next x ≡ next s = ap next e in omega
    (arith, a, b, grown, less))
    (λ (apart : x ≢ s). subst (λ m. n < m) (sym (others x apart)) less)
    (same_or_not x s)

pub places-accepts : (p : Play) (next next_then : ℕ → ℕ) (t : Tag) → Places p next →
    next_then t.source ≡ next t.source + 1 → ((x : ℕ) → x ≢ t.source → next_then x ≡ next x) →
    Places (takes p true t) next_then
places-accepts p next next_then t known grown others = record {
  below = λ k z here. next_grows next next_then t.source grown others z.line.source z.line.place (known.below k z here);
  held = λ x j n e. next_grows next next_then t.source grown others x n (known.held x j n e);
  rising = known.rising;
  apart = known.apart;
}

pub places-takes : (p : Play) (next next_then : ℕ → ℕ) (t : Tag) → Places p next → t.place ≡ next t.source →
    next_then t.source ≡ next t.source + 1 → ((x : ℕ) → x ≢ t.source → next_then x ≡ next x) →
    Places (takes p false t) next_then
places-takes p next next_then t known at grown others = record {
  below = λ k z here. next_grows next next_then t.source grown others z.line.source z.line.place (known.below k z here);
  held = λ x j n e. ⊎_elim
      (λ (old : slice_get (places_of p x) j ≡ Some n). next_grows next next_then t.source grown others x n
      (known.held x j n old))
      (λ (new : (x ≡ t.source) × (t.place ≡ n)). let a : next_then x ≡ next_then t.source = ap next_then new.0 in let b
      = new.1 in omega (arith, a, b, at, grown))
      (old_or_new x j n e);
  rising = λ x. ⊎_elim
      (λ (e : x ≡ t.source). subst (λ y. IsRising (places_of (takes p false t) y)) (sym e)
      (subst IsRising (sym here) (rising-push (places_of p t.source) t.place (known.rising t.source)
      (subst (AreBelow (places_of p t.source)) (sym at) (known.held t.source)))))
      (λ (apart : x ≢ t.source). subst IsRising (sym (there x apart)) (known.rising x))
      (same_or_not x t.source);
  apart = λ x j n k z e line source. ⊎_elim
      (λ (old : slice_get (places_of p x) j ≡ Some n). known.apart x j n k z old line source)
      (λ (new : (x ≡ t.source) × (t.place ≡ n)). λ (same : z.line.place ≡ n). let less = latest-of p next t known at k z
      line (source ∙ new.0) in let b = new.1 in absurd (omega (arith, less, same, b)))
      (old_or_new x j n e);
}
  where
    here : places_of (takes p false t) t.source ≡ places_of p t.source ++ t.place ∷ []
    here = ap (map (λ (u : Tag). u.place)) (with_held-same p.held t.source (p.held t.source ++ t ∷ []))
        ∙ map-append (λ (u : Tag). u.place) (p.held t.source) (t ∷ [])

    there : (x : ℕ) → x ≢ t.source → places_of (takes p false t) x ≡ places_of p x
    there x apart = ap (map (λ (u : Tag). u.place)) (with_held-other p.held t.source x (p.held t.source ++ t ∷ [])
        apart)

    old_or_new : (x j n : ℕ) → slice_get (places_of (takes p false t) x) j ≡ Some n →
        (slice_get (places_of p x) j ≡ Some n) ⊎ ((x ≡ t.source) × (t.place ≡ n))
    old_or_new x j n e = ⊎_elim
        (λ (same : x ≡ t.source). ⊎_elim
        (λ (old : slice_get (places_of p t.source) j ≡ Some n). inl (ap (λ y. slice_get (places_of p y) j) same ∙ old))
        (λ new. inr (same, new))
        (last (places_of p t.source) j t.place n (ap (λ ns. slice_get ns j) (sym here)
        ∙ (ap (λ y. slice_get (places_of (takes p false t) y) j) (sym same) ∙ e))))
        (λ (apart : x ≢ t.source). inl (ap (λ ns. slice_get ns j) (sym (there x apart)) ∙ e))
        (same_or_not x t.source)

-- the tag just offered passes: it is above what its source holds
pub places-offered : (p : Play) (next : ℕ → ℕ) (t : Tag) (moment : ℕ) → Places p next → t.place < next t.source →
    AreBelow (places_of p t.source) t.place → LineFits t → PlaceFits t → Places (offered_goes p t moment) next
places-offered p next t moment known less fresh fits place = record {
  below = λ k z here. new_line (λ (q : Passing). q.line.place < next q.line.source) moment t.line (newest p) known.below
      (λ l e. subst (λ n. n < next l.source) (sym (place l e).0)
      (subst (λ s. t.place < next s) (sym (fits l e).0) less)) k z
      (ap (λ ps. slice_get ps k) (sym (newest-push p t moment)) ∙ here);
  held = known.held;
  rising = known.rising;
  apart = λ x j n k z held here source. new_line (λ (q : Passing). q.line.source ≡ x → q.line.place ≢ n) moment t.line
      (newest p) (λ i q at own. known.apart x j n i q held at own)
      (λ l e own same. let above = fresh j n (ap (λ y. slice_get (places_of p y) j) (sym (fits l e).0 ∙ own) ∙ held) in
      let a = (place l e).0 in absurd (omega (arith, above, a, same)))
      k z (ap (λ ps. slice_get ps k) (sym (newest-push p t moment)) ∙ here) source;
}

-- a first held tag passes
pub places-head : (p : Play) (next : ℕ → ℕ) (t : Tag) (rest : List Tag) (moment : ℕ) → Places p next →
    p.held t.source ≡ t ∷ rest → LineFits t → PlaceFits t → Places (head_goes p t moment) next
places-head p next t rest moment known first fits place = record {
  below = λ k z here. new_line (λ (q : Passing). q.line.place < next q.line.source) moment t.line (newest p) known.below
      (λ l e. subst (λ n. n < next l.source) (sym (place l e).0)
      (subst (λ s. t.place < next s) (sym (fits l e).0)
      (known.held t.source 0 t.place (ap (λ ns. slice_get ns 0) were)))) k z
      (ap (λ ps. slice_get ps k) (sym (newest-push p t moment)) ∙ here);
  held = λ x j n e. let w = was x j n e in known.held x w.0 n w.1;
  rising = λ x. ⊎_elim
      (λ (e : x ≡ t.source). subst (λ y. IsRising (places_of (head_goes p t moment) y)) (sym e)
      (subst IsRising (sym now) rose.1))
      (λ (apart : x ≢ t.source). subst IsRising (sym (there x apart)) (known.rising x))
      (same_or_not x t.source);
  apart = λ x j n k z held here source. new_line (λ (q : Passing). q.line.source ≡ x → q.line.place ≢ n) moment t.line
      (newest p) (λ i q at own. let w = was x j n held in known.apart x w.0 n i q w.1 at own)
      (λ l e own same. let above = rose.0 j n (ap (λ ns. slice_get ns j) (sym now)
      ∙ (ap (λ y. slice_get (places_of (head_goes p t moment) y) j) (sym (fits l e).0 ∙ own) ∙ held)) in let a =
      (place l e).0 in absurd (omega (arith, above, a, same)))
      k z (ap (λ ps. slice_get ps k) (sym (newest-push p t moment)) ∙ here) source;
}
  where
    were : places_of p t.source ≡ t.place ∷ map (λ (u : Tag). u.place) rest
    were = ap (map (λ (u : Tag). u.place)) first

    now : places_of (head_goes p t moment) t.source ≡ map (λ (u : Tag). u.place) rest
    now = ap (map (λ (u : Tag). u.place)) (with_held-same p.held t.source (drop 1 (p.held t.source))
        ∙ ap (drop 1) first)

    there : (x : ℕ) → x ≢ t.source → places_of (head_goes p t moment) x ≡ places_of p x
    there x apart = ap (map (λ (u : Tag). u.place)) (with_held-other p.held t.source x (drop 1 (p.held t.source)) apart)

    rose : IsRising (t.place ∷ map (λ (u : Tag). u.place) rest)
    rose = subst IsRising were (known.rising t.source)

    was : (x j n : ℕ) → slice_get (places_of (head_goes p t moment) x) j ≡ Some n →
        (i : ℕ) × (slice_get (places_of p x) i ≡ Some n)
    was x j n e = ⊎_elim
        (λ (same : x ≡ t.source). (
          suc j,
          ap (λ y. slice_get (places_of p y) (suc j)) same
              ∙ (ap (λ ns. slice_get ns (suc j)) were ∙ (ap (λ ns. slice_get ns j) (sym now)
              ∙ (ap (λ y. slice_get (places_of (head_goes p t moment) y) j) (sym same) ∙ e))),
        ))
        (λ (apart : x ≢ t.source). (j, ap (λ ns. slice_get ns j) (sym (there x apart)) ∙ e))
        (same_or_not x t.source)

-- no line of its source has a held tag's place
pub apart-head : (p : Play) (next : ℕ → ℕ) (t : Tag) (rest : List Tag) → Places p next → p.held t.source ≡ t ∷ rest →
    (k : ℕ) (z : Passing) → slice_get (newest p) k ≡ Some z → z.line.source ≡ t.source → z.line.place ≢ t.place
apart-head p next t rest known first k z here source = known.apart t.source 0 t.place k z
    (ap (λ us. slice_get (map (λ (u : Tag). u.place) us) 0) first) here source

-- what a reading's tag says of its line
pub tag_at-place : (source : ℕ) (u : Under) (key : Key) (m : Sign) → PlaceFits (tag_at source u key m)
tag_at-place source u key OpenSign l e = absurd (none≢some l e)
tag_at-place source u key (ByteSign b) l e = absurd (none≢some l e)
tag_at-place source u key (ShortSign s a b) l e = (
  ap (λ (x : Line). x.place) (sym (some_same e)),
  ap
      (λ (x : Line). is_realtime x.event) (sym (some_same e)),
)
tag_at-place source u key (RtSign b) l e = (
  ap (λ (x : Line). x.place) (sym (some_same e)),
  ap
      (λ (x : Line). is_realtime x.event) (sym (some_same e)),
)
tag_at-place source u key EndSign l e = (
  ap (λ (x : Line). x.place) (sym (some_same e)),
  ap
      (λ (x : Line). is_realtime x.event) (sym (some_same e)),
)
tag_at-place source u key AbortSign l e = (
  ap (λ (x : Line). x.place) (sym (some_same e)),
  ap
      (λ (x : Line). is_realtime x.event) (sym (some_same e)),
)

pub tag_at-own : (source : ℕ) (u : Under) (key : Key) (m : Sign) → key.link ≡ source → u.begin.link ≡ source →
    OwnFits (tag_at source u key m)
tag_at-own source u key OpenSign own began l e = absurd (none≢some l e)
tag_at-own source u key (ByteSign b) own began l e = absurd (none≢some l e)
tag_at-own source u key (ShortSign s a b) own began l e = subst
    (λ (x : Line). (x.key.link ≡ x.source) × (x.begin.link ≡ x.source)) (some_same e) (own, own)
tag_at-own source u key (RtSign b) own began l e = subst
    (λ (x : Line). (x.key.link ≡ x.source) × (x.begin.link ≡ x.source)) (some_same e) (own, own)
tag_at-own source u key EndSign own began l e = subst (λ (x : Line). (x.key.link ≡ x.source) ×
    (x.begin.link ≡ x.source)) (some_same e) (own, began)
tag_at-own source u key AbortSign own began l e = subst (λ (x : Line). (x.key.link ≡ x.source) ×
    (x.begin.link ≡ x.source)) (some_same e) (own, began)
