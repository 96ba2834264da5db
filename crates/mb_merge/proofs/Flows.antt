-- What is pending of a source: the mark just offered of it and those held suit one after another, from what has passed
-- of the source to what was taken of it.
--
--   pending o s link        the marks of a source that were taken and haven't passed, but for real-time ones
--   Suit open ms last       the marks suit one after another, and leave a SysEx open or not
--   IsFree ls s             no other source has an open SysEx on an out of it
--   Fits m                  what holds of a router between calls
use Rattle.std.proofs.Common.{◌≡◌, ◌≢◌, ℕ, ◌<◌, ◌⊎◌, inl, inr, Bool, true, false, ◌&&◌, ◌||◌, List, [], ◌∷◌, ◌++◌}
use Rattle.std.proofs.Common.{length, refl, sym, ◌∙◌, ap, subst, arith}
use Rattle.std.specs.Prelude.{slice_set}
use Rattle.std.proofs.lemmas.List.{get_or-set_same, get_or-set_other, length-set}
use Rattle.mb_message.specs.declared.mark.Mark.{Mark}
use Rattle.mb_message.specs.declared.mark.Mark.TheVariants as mark
use Rattle.mb_message.specs.Signs.{sign_of, suits_sign}
use Rattle.mb_merge.specs.declared.source.Held.{Held}
use Rattle.mb_merge.specs.Links.{Link, closed_link, link_at, share, owns, is_owned}
use Rattle.mb_merge.specs.Passing.{is_realtime_mark, opens}
use Rattle.mb_merge.specs.Calls.{IsExclusive}
use Rattle.mb_merge.proofs.LinkLemmas.{is_owned_below-hit, takes_from_is}

-- links at their places

pub link_at-set_same : (links : List Link) (source : ℕ) (link : Link) → source < length links →
    link_at (slice_set links source link) source ≡ link
link_at-set_same links source link below = get_or-set_same links source link (closed_link []) below

pub link_at-set_other : (links : List Link) (source other : ℕ) (link : Link) → other ≢ source →
    link_at (slice_set links source link) other ≡ link_at links other
link_at-set_other links source other link apart = get_or-set_other links source other link (closed_link []) apart

pub length-links : (links : List Link) (source : ℕ) (link : Link) → length (slice_set links source link) ≡ length links
length-links links source link = length-set links source link

pub same_or_not : (a b : ℕ) → (a ≡ b) ⊎ (a ≢ b)
same_or_not a b = grind arith

-- marks that suit one after another

abbrev pub Suit : (open_now : Bool) → List Mark → (last : Bool) → Type 0
Suit open_now [] last = open_now ≡ last
Suit open_now (m ∷ ms) last = (suits_sign open_now (sign_of m) ≡ true) × Suit (opens open_now m) ms last

pub Suit-append : (open_now last : Bool) (ms : List Mark) (m : Mark) → Suit open_now ms last →
    suits_sign last (sign_of m) ≡ true → Suit open_now (ms ++ m ∷ []) (opens last m)
Suit-append open_now last [] m same suits = (
  subst (λ z. suits_sign z (sign_of m) ≡ true) (sym same) suits,
  ap (λ z. opens z m) same,
)
Suit-append open_now last (n ∷ ns) m h suits = (h.0, Suit-append (opens open_now n) last ns m h.1 suits)

-- no real-time mark is held
abbrev pub NoRealtime : List Held → Type 0
NoRealtime [] = Unit {0}
NoRealtime (h ∷ hs) = (is_realtime_mark h.mark ≡ false) × NoRealtime hs

pub NoRealtime-append : (hs : List Held) (h : Held) → NoRealtime hs → is_realtime_mark h.mark ≡ false →
    NoRealtime (hs ++ h ∷ [])
NoRealtime-append [] h none not_rt = (not_rt, tt)
NoRealtime-append (g ∷ gs) h none not_rt = (none.0, NoRealtime-append gs h none.1 not_rt)

-- a real-time mark changes nothing
pub opens-realtime : (m : Mark) (open_now : Bool) → is_realtime_mark m ≡ true → opens open_now m ≡ open_now
opens-realtime (mark.Rt r) open_now is = refl
opens-realtime (mark.Short s) open_now is = absurd (cc)
opens-realtime mark.Open open_now is = absurd (cc)
opens-realtime (mark.Byte b) open_now is = absurd (cc)
opens-realtime mark.End open_now is = absurd (cc)
opens-realtime mark.Abort open_now is = absurd (cc)

-- who owns

pub share_comm : (xs ys : List Bool) → share xs ys ≡ share ys xs
share_comm [] [] = refl
share_comm [] (y ∷ ys) = refl
share_comm (x ∷ xs) [] = refl
share_comm (x ∷ xs) (y ∷ ys) = by_value x y (share_comm xs ys) where
  by_value : (a b : Bool) → share xs ys ≡ share ys xs → ((a && b) || share xs ys) ≡ ((b && a) || share ys xs)
  by_value true true rest = refl
  by_value true false rest = rest
  by_value false true rest = rest
  by_value false false rest = rest

pub record IsFree (links : List Link) (source : ℕ) : Type 0 where
  pub free : (i : ℕ) → i < length links → i ≢ source → (link_at links i).is_open ≡ true →
      share (link_at links i).outs (link_at links source).outs ≡ false

not_true : true ≡ false → ⊥
not_true h = cc

pub not_owned-free : (links : List Link) (source : ℕ) → is_owned links source ≡ false → IsFree links source
not_owned-free links source none = record {
  free = λ i below apart opened. by_value i below apart opened (share (link_at links i).outs
      (link_at links source).outs) refl;
} where
  by_value : (i : ℕ) → i < length links → i ≢ source → (link_at links i).is_open ≡ true → (shared : Bool) →
      share (link_at links i).outs (link_at links source).outs ≡ shared → shared ≡ false
  by_value i below apart opened false is = refl
  by_value i below apart opened true is =
      let owned : owns (link_at links i) (link_at links source) ≡ true =
      ap (λ z. z && share (link_at links i).outs (link_at links source).outs) opened ∙ is in
      absurd (not_true (sym (is_owned_below-hit links source i (length links) below (takes_from_is links source i apart
      owned)) ∙ none))

-- Links that keep their outs; only one that was open before, or finds its outs free, is open.
pub exclusive-set : (links : List Link) (source : ℕ) (link : Link) → source < length links →
    link.outs ≡ (link_at links source).outs →
    (link.is_open ≡ true → ((link_at links source).is_open ≡ true) ⊎ IsFree links source) → IsExclusive links →
    IsExclusive (slice_set links source link)
exclusive-set links source link below outs opening ex = record {
  apart = λ i j i_below j_below different i_open j_open.
      both i j (subst (λ n. i < n) (length-links links source link) i_below)
      (subst (λ n. j < n) (length-links links source link) j_below) different i_open j_open (same_or_not i source)
      (same_or_not j source);
} where
  with_other : (j : ℕ) → j < length links → j ≢ source → link.is_open ≡ true → (link_at links j).is_open ≡ true →
      share link.outs (link_at links j).outs ≡ false
  with_other j j_below different mine theirs =
      ap (λ z. share z (link_at links j).outs) outs ∙
      (elim (opening mine) [
        | inl was ↦ ex.apart source j below j_below (λ e. different (sym e)) was theirs
        | inr free ↦ share_comm (link_at links source).outs (link_at links j).outs ∙
            free.free j j_below different theirs
      ])

  both : (i j : ℕ) → i < length links → j < length links → i ≢ j →
      (link_at (slice_set links source link) i).is_open ≡ true → (link_at (slice_set links source link) j).is_open ≡
      true →
      (i ≡ source) ⊎ (i ≢ source) → (j ≡ source) ⊎ (j ≢ source) →
      share (link_at (slice_set links source link) i).outs (link_at (slice_set links source link) j).outs ≡ false
  both i j i_below j_below different i_open j_open (inl here) (inl there) = absurd (different (here ∙ sym there))
  both i j i_below j_below different i_open j_open (inl here) (inr elsewhere) =
      let at_i : link_at (slice_set links source link) i ≡ link = subst (λ k. link_at (slice_set links source link) k ≡
      link) (sym here) (link_at-set_same links source link below) in
      let at_j : link_at (slice_set links source link) j ≡ link_at links j = link_at-set_other links source j link
      elsewhere in
      ap (λ z. share z.outs (link_at (slice_set links source link) j).outs) at_i ∙
      (ap (λ z. share link.outs z.outs) at_j ∙
      with_other j j_below elsewhere (sym (ap (λ z. z.is_open) at_i) ∙ i_open) (sym (ap (λ z. z.is_open) at_j) ∙
      j_open))
  both i j i_below j_below different i_open j_open (inr elsewhere) (inl there) =
      let at_j : link_at (slice_set links source link) j ≡ link = subst (λ k. link_at (slice_set links source link) k ≡
      link) (sym there) (link_at-set_same links source link below) in
      let at_i : link_at (slice_set links source link) i ≡ link_at links i = link_at-set_other links source i link
      elsewhere in
      ap (λ z. share (link_at (slice_set links source link) i).outs z.outs) at_j ∙
      (ap (λ z. share z.outs link.outs) at_i ∙
      (share_comm (link_at links i).outs link.outs ∙
      with_other i i_below elsewhere (sym (ap (λ z. z.is_open) at_j) ∙ j_open) (sym (ap (λ z. z.is_open) at_i) ∙
      i_open)))
  both i j i_below j_below different i_open j_open (inr one_place) (inr other_place) =
      let at_i : link_at (slice_set links source link) i ≡ link_at links i = link_at-set_other links source i link
      one_place in
      let at_j : link_at (slice_set links source link) j ≡ link_at links j = link_at-set_other links source j link
      other_place in
      ap (λ z. share z.outs (link_at (slice_set links source link) j).outs) at_i ∙
      (ap (λ z. share (link_at links i).outs z.outs) at_j ∙
      ex.apart i j i_below j_below different (sym (ap (λ z. z.is_open) at_i) ∙ i_open) (sym (ap (λ z. z.is_open) at_j) ∙
      j_open))

-- Links of which the outs and what is open are as before.
pub record Alike (old new : List Link) : Type 0 where
  pub len : length new ≡ length old
  pub outs : (i : ℕ) → (link_at new i).outs ≡ (link_at old i).outs
  pub opened : (i : ℕ) → (link_at new i).is_open ≡ (link_at old i).is_open

pub alike-set : (links : List Link) (source : ℕ) (link : Link) → source < length links →
    link.outs ≡ (link_at links source).outs → link.is_open ≡ (link_at links source).is_open →
    Alike links (slice_set links source link)
alike-set links source link below outs opened = record {
  len = length-links links source link;
  outs = λ i. by_place (λ l. l.outs ≡ (link_at links i).outs) i (same_or_not i source) (λ same. outs ∙
      ap (λ k. (link_at links k).outs) (sym same)) refl;
  opened = λ i. by_place (λ l. l.is_open ≡ (link_at links i).is_open) i (same_or_not i source) (λ same. opened ∙
      ap (λ k. (link_at links k).is_open) (sym same)) refl;
} where
  by_place : (P : Link → Type 0) (i : ℕ) → (i ≡ source) ⊎ (i ≢ source) → (i ≡ source → P link) → P (link_at links i) →
      P (link_at (slice_set links source link) i)
  by_place P i (inl same) mine other =
      subst P (sym (subst (λ k. link_at (slice_set links source link) k ≡ link) (sym same)
      (link_at-set_same links source link below))) (mine same)
  by_place P i (inr apart) mine other = subst P (sym (link_at-set_other links source i link apart)) other

pub IsFree-alike : (old new : List Link) (source : ℕ) → Alike old new → IsFree old source → IsFree new source
IsFree-alike old new source like free = record {
  free = λ i below apart opened.
      ap (λ z. share z (link_at new source).outs) (like.outs i) ∙
      (ap (λ z. share (link_at old i).outs z) (like.outs source) ∙
      free.free i (subst (λ n. i < n) like.len below) apart (sym (like.opened i) ∙ opened));
}

pub IsExclusive-alike : (old new : List Link) → Alike old new → IsExclusive old → IsExclusive new
IsExclusive-alike old new like ex = record {
  apart = λ i j i_below j_below different i_open j_open.
      ap (λ z. share z (link_at new j).outs) (like.outs i) ∙
      (ap (λ z. share (link_at old i).outs z) (like.outs j) ∙
      ex.apart i j (subst (λ n. i < n) like.len i_below) (subst (λ n. j < n) like.len j_below) different
      (sym (like.opened i) ∙ i_open) (sym (like.opened j) ∙ j_open));
}
