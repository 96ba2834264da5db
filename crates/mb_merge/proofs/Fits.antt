-- What holds of a router between calls, and that each call keeps it.
use Rattle.std.proofs.Common.{◌≡◌, ◌≢◌, ◌↔◌, ℕ, ◌<◌, ◌≤◌, ◌⊎◌, inl, inr, Bool, true, false, not, ◌&&◌, ◌||◌, ◌==◌}
use Rattle.std.proofs.Common.{if◌then◌else◌, List, [], ◌∷◌, ◌++◌, length, map, drop, Option, Some, None, refl, sym, ◌∙◌}
use Rattle.std.proofs.Common.{ap, subst, arith}
use Rattle.std.specs.Prelude.{slice_set}
use Rattle.std.proofs.lemmas.Bool.Decides.{nat_tests}
use Rattle.std.proofs.lemmas.Option.{none-some}
use Rattle.std.proofs.lemmas.List.{map-append, nil_from_length}
use Rattle.mb_message.specs.declared.mark.Mark.{Mark}
use Rattle.mb_message.specs.declared.mark.Mark.TheVariants as mark
use Rattle.mb_message.specs.Signs.{sign_of, suits_sign}
use Rattle.mb_merge.specs.declared.source.Held.{Held}
use Rattle.mb_merge.specs.declared.router.Passed.{Passed}
use Rattle.mb_merge.specs.Links.{Link, Merger, HasSource, link_at, link_of, with_link, is_owned}
use Rattle.mb_merge.specs.Passing.{has_room, has_room_in, is_realtime_mark, may_pass, opens, least, passes_now, taken}
use Rattle.mb_merge.specs.Passing.{offered_mark, after_pass, after_head, drained}
use Rattle.mb_merge.specs.Calls.{in_turn, IsExclusive}
use Rattle.mb_merge.proofs.Flows.{link_at-set_same, link_at-set_other, same_or_not, Suit, Suit-append, NoRealtime}
use Rattle.mb_merge.proofs.Flows.{NoRealtime-append, opens-realtime, IsFree, not_owned-free, exclusive-set, Alike}
use Rattle.mb_merge.proofs.Flows.{alike-set, IsFree-alike, IsExclusive-alike}

-- the mark just offered, where it is of this source and keeps its turn
abbrev pub offered_turn : Option Passed → ℕ → List Mark
offered_turn None source = []
offered_turn (Some p) source = if in_turn source p then p.mark ∷ [] else []

abbrev pub held_marks : List Held → List Mark
held_marks hs = map (λ h. h.mark) hs

-- what is pending suits one after another, from what has passed to what was taken
pub record Turn (offered : Option Passed) (source : ℕ) (link : Link) : Type 0 where
  pub suit : Suit link.is_open (offered_turn offered source ++ held_marks link.held) link.in_sysex
  pub no_rt : NoRealtime link.held

pub record Fits (m : Merger) : Type 0 where
  pub turn : (source : ℕ) → Turn m.offered source (link_of m source)
  pub source : HasSource m.links m.offered
  pub free : (p : Passed) → m.offered ≡ Some p → is_realtime_mark p.mark ≡ false → IsFree m.links p.source
  pub exclusive : IsExclusive m.links
  pub quiet : m.draining ≡ false → (m.offered ≡ None) × (least m.links ≡ None)

pub not_true : true ≡ false → ⊥
not_true h = cc

pub same_number : (a b : ℕ) → a ≡ b → (a == b) ≡ true
same_number a b h = grind (arith, nat_tests)

pub other_number : (a b : ℕ) → a ≢ b → (a == b) ≡ false
other_number a b h = grind (arith, nat_tests)

-- of another source nothing is offered
offered_turn-other : (p : Passed) (source : ℕ) → p.source ≢ source → offered_turn (Some p) source ≡ []
offered_turn-other p source apart = ap (λ t. if t && not (is_realtime_mark p.mark) then p.mark ∷ [] else [])
    (other_number p.source source apart)

pub offered_turn-own : (p : Passed) (source : ℕ) (rt : Bool) → p.source ≡ source → is_realtime_mark p.mark ≡ rt →
    offered_turn (Some p) source ≡ (if rt then [] else p.mark ∷ [])
offered_turn-own p source true here is =
    ap (λ t. if t && not (is_realtime_mark p.mark) then p.mark ∷ [] else []) (same_number p.source source here) ∙
    ap (λ t. if not t then p.mark ∷ [] else []) is
offered_turn-own p source false here is =
    ap (λ t. if t && not (is_realtime_mark p.mark) then p.mark ∷ [] else []) (same_number p.source source here) ∙
    ap (λ t. if not t then p.mark ∷ [] else []) is

-- why a mark passes at once
pub record Passes (links : List Link) (source : ℕ) (m : Mark) (link : Link) : Type 0 where
  pub nothing : link.held ≡ []
  pub may : may_pass links source m ≡ true
  pub not_rt : is_realtime_mark m ≡ false

nothing_held : (hs : List Held) → (length hs == 0) ≡ true → hs ≡ []
nothing_held hs h = nil_from_length hs (grind (arith, nat_tests))

pub passes-why : (m : Merger) (source : ℕ) (mk : Mark) → passes_now m source mk ≡ true → (is_realtime_mark mk ≡ true) ⊎
    Passes m.links source mk (link_of m source)
passes-why m source mk is = by_test (is_realtime_mark mk) (length (link_of m source).held == 0)
    (may_pass m.links source mk) refl refl refl is where
      by_test : (rt empty may : Bool) → is_realtime_mark mk ≡ rt → (length (link_of m source).held == 0) ≡ empty →
          may_pass m.links source mk ≡ may → (rt || (empty && may)) ≡ true →
          (is_realtime_mark mk ≡ true) ⊎ Passes m.links source mk (link_of m source)
      by_test true empty may hr he hm h = inl hr
      by_test false true true hr he hm h = inr (record {
        nothing = nothing_held (link_of m source).held he;
        may = hm;
        not_rt = hr;
      })
      by_test false true false hr he hm h = absurd (not_true (sym h))
      by_test false false may hr he hm h = absurd (not_true (sym h))

pub waits-why : (m : Merger) (source : ℕ) (mk : Mark) → passes_now m source mk ≡ false → is_realtime_mark mk ≡ false
waits-why m source mk is = by_test (is_realtime_mark mk) ((length (link_of m source).held == 0) && may_pass m.links
    source mk) is where
      by_test : (rt rest : Bool) → (rt || rest) ≡ false → rt ≡ false
      by_test true rest h = h
      by_test false rest h = refl

-- when a mark is refused
pub refused : (m : Merger) (source : ℕ) (mk : Mark) → (has_room m source mk ≡ false) ↔ ((is_realtime_mark mk ≡ false) ×
    (passes_now m source mk ≡ false) × (1024 ≤ length (link_of m source).held))
refused m source mk = (
  λ h. by_test (passes_now m source mk) refl h,
  λ all. ap (λ p. has_room_in (link_of m source) p) all.1 ∙ grind (arith, nat_tests, all.2),
) where
  by_test : (passes : Bool) → passes_now m source mk ≡ passes → has_room_in (link_of m source) passes ≡ false →
      (is_realtime_mark mk ≡ false) × (passes_now m source mk ≡ false) × (1024 ≤ length (link_of m source).held)
  by_test true is h = absurd (not_true h)
  by_test false is h = (waits-why m source mk is, is, grind (arith, nat_tests, h))

-- a source's link after an offer of it
turn-offer : (m : Merger) (source moment : ℕ) (mk : Mark) (link : Link) (passes : Bool) →
    (passes ≡ true → (is_realtime_mark mk ≡ true) ⊎ Passes m.links source mk link) →
    (passes ≡ false → is_realtime_mark mk ≡ false) →
    Turn None source link → suits_sign link.in_sysex (sign_of mk) ≡ true → Turn (offered_mark passes source moment mk)
    source (taken link passes moment mk)
turn-offer m source moment mk link true why not_rt t suits = by_case (why refl) where
  by_case : (is_realtime_mark mk ≡ true) ⊎ Passes m.links source mk link →
      Turn (Some (record { source = source; arrival = moment; mark = mk })) source (taken link true moment mk)
  by_case (inl rt) = record {
    suit =
        subst (λ z. Suit link.is_open (z ++ held_marks link.held) (opens link.in_sysex mk))
        (sym (offered_turn-own (record { source = source; arrival = moment; mark = mk }) source true refl rt))
        (subst (λ z. Suit link.is_open (held_marks link.held) z) (sym (opens-realtime mk link.in_sysex rt)) t.suit);
    no_rt = t.no_rt;
  }
  by_case (inr passes) = record {
    suit =
        let same : link.is_open ≡ link.in_sysex = subst (λ z. Suit link.is_open (held_marks z) link.in_sysex)
        passes.nothing t.suit in
        let alone : Suit link.is_open (mk ∷ []) (opens link.in_sysex mk) = Suit-append link.is_open link.in_sysex [] mk
        same suits in
        subst (λ z. Suit link.is_open (z ++ held_marks link.held) (opens link.in_sysex mk))
        (sym (offered_turn-own (record { source = source; arrival = moment; mark = mk }) source false refl
        passes.not_rt))
        (subst (λ z. Suit link.is_open ((mk ∷ []) ++ held_marks z) (opens link.in_sysex mk)) (sym passes.nothing)
        alone);
    no_rt = t.no_rt;
  }
turn-offer m source moment mk link false why not_rt t suits = record {
  suit =
      subst (λ z. Suit link.is_open z (opens link.in_sysex mk))
      (sym (map-append (λ h. h.mark) link.held ((record { arrival = moment; mark = mk }) ∷ [])))
      (Suit-append link.is_open link.in_sysex (held_marks link.held) mk t.suit suits);
  no_rt = NoRealtime-append link.held (record { arrival = moment; mark = mk }) t.no_rt (not_rt refl);
}

-- of another source
turn-other : (offered : Option Passed) (source : ℕ) (link : Link) → offered_turn offered source ≡ [] →
    Turn None source link → Turn offered source link
turn-other offered source link nothing t = record {
  suit = subst (λ z. Suit link.is_open (z ++ held_marks link.held) link.in_sysex) (sym nothing) t.suit;
  no_rt = t.no_rt;
}

offered_mark-other : (passes : Bool) (source moment : ℕ) (mk : Mark) (other : ℕ) → other ≢ source →
    offered_turn (offered_mark passes source moment mk) other ≡ []
offered_mark-other true source moment mk other apart = offered_turn-other (record {
  source = source;
  arrival = moment;
  mark = mk;
}) other (λ e. apart (sym e))
offered_mark-other false source moment mk other apart = refl

-- a router after an offer
abbrev pub offer_at : Merger → (source moment : ℕ) → Mark → (passes : Bool) → Merger
offer_at m source moment mk passes = record {
  links = slice_set m.links source (taken (link_of m source) passes moment mk);
  outs = m.outs;
  offered = offered_mark passes source moment mk;
  draining = true;
}

has_source : (links : List Link) (source moment : ℕ) (mk : Mark) (passes : Bool) → source < length links →
    HasSource links (offered_mark passes source moment mk)
has_source links source moment mk true below = below
has_source links source moment mk false below = tt

not_not : (b : Bool) → not b ≡ true → b ≡ false
not_not true h = sym h
not_not false h = refl

-- a mark that keeps its turn passes where no other source has a SysEx open on an out of its source
open-free : (links : List Link) (source : ℕ) → source < length links → IsExclusive links →
    (link_at links source).is_open ≡ true → IsFree links source
open-free links source below ex mine = record {
  free = λ i i_below apart opened. ex.apart i source i_below below apart
      opened mine;
}

pub may-free : (links : List Link) (source : ℕ) (mk : Mark) → source < length links → IsExclusive links →
    is_realtime_mark mk ≡ false → may_pass links source mk ≡ true → IsFree links source
may-free links source (mark.Rt r) below ex not_rt may = absurd (not_true not_rt)
may-free links source (mark.Short s) below ex not_rt may = not_owned-free links source (not_not (is_owned links source)
    may)
may-free links source mark.Open below ex not_rt may = not_owned-free links source (not_not (is_owned links source) may)
may-free links source (mark.Byte b) below ex not_rt may = open-free links source below ex may
may-free links source mark.End below ex not_rt may = open-free links source below ex may
may-free links source mark.Abort below ex not_rt may = open-free links source below ex may

same_passed : (a b : Passed) → Some a ≡ Some b → a ≡ b
same_passed a b h = cc

free-offered : (links new : List Link) (source moment : ℕ) (mk : Mark) (passes : Bool) (p : Passed) (link : Link) →
    source < length links → IsExclusive links → Alike links new →
    offered_mark passes source moment mk ≡ Some p → is_realtime_mark p.mark ≡ false →
    (passes ≡ true → (is_realtime_mark mk ≡ true) ⊎ Passes links source mk link) → IsFree new p.source
free-offered links new source moment mk false p link below ex like offered not_rt why = absurd (none-some p offered)
free-offered links new source moment mk true p link below ex like offered not_rt why =
    let same : record { source = source; arrival = moment; mark = mk } ≡ p =
    same_passed (record { source = source; arrival = moment; mark = mk }) p offered in
    let mine : is_realtime_mark mk ≡ false = ap (λ z. is_realtime_mark z.mark) same ∙ not_rt in
    let free : IsFree links source = elim (why refl) [
      | inl rt ↦ absurd (not_true (sym rt ∙ mine))
      | inr passes ↦
          may-free links source mk below ex mine passes.may
    ] in
    subst (λ k. IsFree new k) (ap (λ z. z.source) same) (IsFree-alike links new source like free)

pub fits-offer : (m : Merger) (source moment : ℕ) (mk : Mark) (passes : Bool) → passes_now m source mk ≡ passes →
    Fits m → source < length m.links →
    suits_sign (link_of m source).in_sysex (sign_of mk) ≡ true → m.offered ≡ None →
    Fits (offer_at m source moment mk passes)
fits-offer m source moment mk passes is f below suits nothing = record {
  turn = λ other. turn_at other (same_or_not other source);
  source = has_source new_links source moment mk passes (subst (λ n. source < n) (sym like.len) below);
  free = λ p offered not_rt. free-offered m.links new_links source moment mk passes p (link_of m source) below
      f.exclusive like offered not_rt why;
  exclusive = IsExclusive-alike m.links new_links like f.exclusive;
  quiet = λ h. absurd (not_true h);
} where
  new_links : List Link
  new_links = slice_set m.links source (taken (link_of m source) passes moment mk)

  like : Alike m.links (slice_set m.links source (taken (link_of m source) passes moment mk))
  like = alike-set m.links source (taken (link_of m source) passes moment mk) below refl refl

  turn_none : (other : ℕ) → Turn None other (link_of m other)
  turn_none other = subst (λ o. Turn o other (link_of m other)) nothing (f.turn other)

  why : passes ≡ true → (is_realtime_mark mk ≡ true) ⊎ Passes m.links source mk (link_of m source)
  why h = passes-why m source mk (is ∙ h)

  turn_at : (other : ℕ) → (other ≡ source) ⊎ (other ≢ source) → Turn (offered_mark passes source moment mk) other
      (link_at (slice_set m.links source (taken (link_of m source) passes moment mk)) other)
  turn_at other (inl same) =
      subst (λ k. Turn (offered_mark passes source moment mk) k
      (link_at (slice_set m.links source (taken (link_of m source) passes moment mk)) k)) (sym same)
      (subst (λ l. Turn (offered_mark passes source moment mk) source l)
      (sym (link_at-set_same m.links source (taken (link_of m source) passes moment mk) below))
      (turn-offer m source moment mk (link_of m source) passes (λ h. passes-why m source mk (is ∙ h)) (λ h.
      waits-why m source mk (is ∙ h)) (turn_none source) suits))
  turn_at other (inr apart) =
      subst (λ l. Turn (offered_mark passes source moment mk) other l)
      (sym (link_at-set_other m.links source other (taken (link_of m source) passes moment mk) apart))
      (turn-other (offered_mark passes source moment mk) other (link_of m other) (offered_mark-other passes source
      moment mk other apart) (turn_none other))

-- what was offered passes
abbrev pub pass_offered : Merger → Passed → Merger
pass_offered m p = record {
  links = slice_set m.links p.source (after_pass (link_of m p.source) p.mark);
  outs = m.outs;
  offered = None;
  draining = m.draining;
}

opens_only : (mk : Mark) (b : Bool) → opens b mk ≡ true → (b ≡ true) ⊎ (mk ≡ mark.Open)
opens_only (mark.Rt r) b h = inl h
opens_only (mark.Short s) b h = inl h
opens_only mark.Open b h = inr refl
opens_only (mark.Byte y) b h = inl h
opens_only mark.End b h = absurd (not_true (sym h))
opens_only mark.Abort b h = absurd (not_true (sym h))

turn-pass : (p : Passed) (link : Link) (rt : Bool) → is_realtime_mark p.mark ≡ rt → Turn (Some p) p.source link →
    Turn None p.source (after_pass link p.mark)
turn-pass p link true rt t = record {
  suit =
      subst (λ z. Suit z (held_marks link.held) link.in_sysex) (sym (opens-realtime p.mark link.is_open rt))
      (subst (λ z. Suit link.is_open (z ++ held_marks link.held) link.in_sysex) (offered_turn-own p p.source true refl
      rt) t.suit);
  no_rt = t.no_rt;
}
turn-pass p link false rt t = record {
  suit =
      let all : Suit link.is_open ((p.mark ∷ []) ++ held_marks link.held) link.in_sysex =
      subst (λ z. Suit link.is_open (z ++ held_marks link.held) link.in_sysex) (offered_turn-own p p.source false refl
      rt) t.suit in
      all.1;
  no_rt = t.no_rt;
}

pub fits-offered : (m : Merger) (p : Passed) → m.offered ≡ Some p → Fits m → Fits (pass_offered m p)
fits-offered m p is f = record {
  turn = λ other. turn_at other (same_or_not other p.source);
  source = tt;
  free = λ q offered not_rt. absurd (none-some q offered);
  exclusive = exclusive-set m.links p.source (after_pass (link_of m p.source) p.mark) below refl opening f.exclusive;
  quiet = λ h. absurd (none-some p (sym (f.quiet h).0 ∙ is));
} where
  below : p.source < length m.links
  below = subst (HasSource m.links) is f.source

  turn_some : (other : ℕ) → Turn (Some p) other (link_of m other)
  turn_some other = subst (λ o. Turn o other (link_of m other)) is (f.turn other)

  opening : opens (link_of m p.source).is_open p.mark ≡ true → ((link_of m p.source).is_open ≡ true) ⊎ IsFree m.links
      p.source
  opening h = elim (opens_only p.mark (link_of m p.source).is_open h) [
    | inl was ↦ inl was
    | inr opened ↦ inr
        (f.free p is (ap is_realtime_mark opened))
  ]

  turn_at : (other : ℕ) → (other ≡ p.source) ⊎ (other ≢ p.source) →
      Turn None other (link_at (slice_set m.links p.source (after_pass (link_of m p.source) p.mark)) other)
  turn_at other (inl same) =
      subst (λ k. Turn None k (link_at (slice_set m.links p.source (after_pass (link_of m p.source) p.mark)) k))
      (sym same)
      (subst (λ l. Turn None p.source l) (sym (link_at-set_same m.links p.source (after_pass (link_of m p.source)
      p.mark) below))
      (turn-pass p (link_of m p.source) (is_realtime_mark p.mark) refl (turn_some p.source)))
  turn_at other (inr apart) =
      subst (λ l. Turn None other l) (sym (link_at-set_other m.links p.source other (after_pass (link_of m p.source)
      p.mark) apart))
      (record {
        suit = subst (λ z. Suit (link_of m other).is_open (z ++ held_marks (link_of m other).held)
            (link_of m other).in_sysex) (offered_turn-other p other (λ e. apart (sym e))) (turn_some other).suit;
        no_rt = (turn_some other).no_rt;
      })

-- a first held mark passes
turn-head : (source : ℕ) (link : Link) (h : Held) (hs : List Held) → link.held ≡ h ∷ hs → Turn None source link →
    Turn None source (after_head link h.mark)
turn-head source link h hs is t = record {
  suit =
      let all : Suit link.is_open (h.mark ∷ held_marks hs) link.in_sysex =
      subst (λ z. Suit link.is_open (held_marks z) link.in_sysex) is t.suit in
      subst (λ z. Suit (opens link.is_open h.mark) (held_marks (drop 1 z)) link.in_sysex) (sym is) all.1;
  no_rt =
      let all : NoRealtime (h ∷ hs) = subst NoRealtime is t.no_rt in
      subst (λ z. NoRealtime (drop 1 z)) (sym is) all.1;
}

pub fits-head : (m : Merger) (source : ℕ) (h : Held) (hs : List Held) → m.offered ≡ None → source < length m.links →
    (link_of m source).held ≡ h ∷ hs →
    may_pass m.links source h.mark ≡ true → (m.draining ≡ false → ⊥) → Fits m →
    Fits (with_link m source (after_head (link_of m source) h.mark))
fits-head m source h hs nothing below is may busy f = record {
  turn = λ other. turn_at other (same_or_not other source);
  source = subst (HasSource (slice_set m.links source (after_head (link_of m source) h.mark))) (sym nothing) tt;
  free = λ q offered not_rt. absurd (none-some q (sym nothing ∙ offered));
  exclusive = exclusive-set m.links source (after_head (link_of m source) h.mark) below refl opening f.exclusive;
  quiet = λ q. absurd (busy q);
} where
  opening : opens (link_of m source).is_open h.mark ≡ true → ((link_of m source).is_open ≡ true) ⊎ IsFree m.links source
  opening o = elim (opens_only h.mark (link_of m source).is_open o) [
    | inl was ↦ inl was
    | inr opened ↦ inr
        (may-free m.links source h.mark below f.exclusive (ap is_realtime_mark opened) may)
  ]

  turn_none : (other : ℕ) → Turn None other (link_of m other)
  turn_none other = subst (λ o. Turn o other (link_of m other)) nothing (f.turn other)

  turn_at : (other : ℕ) → (other ≡ source) ⊎ (other ≢ source) →
      Turn m.offered other (link_at (slice_set m.links source (after_head (link_of m source) h.mark)) other)
  turn_at other (inl same) =
      subst (λ o. Turn o other (link_at (slice_set m.links source (after_head (link_of m source) h.mark)) other))
      (sym nothing)
      (subst (λ k. Turn None k (link_at (slice_set m.links source (after_head (link_of m source) h.mark)) k)) (sym same)
      (subst (λ l. Turn None source l) (sym (link_at-set_same m.links source (after_head (link_of m source) h.mark)
      below))
      (turn-head source (link_of m source) h hs is (turn_none source))))
  turn_at other (inr apart) =
      subst (λ l. Turn m.offered other l) (sym (link_at-set_other m.links source other (after_head (link_of m source)
      h.mark) apart)) (f.turn other)

pub fits-drained : (m : Merger) → m.offered ≡ None → least m.links ≡ None → Fits m → Fits (drained m)
fits-drained m nothing none f = record {
  turn = f.turn;
  source = f.source;
  free = f.free;
  exclusive = f.exclusive;
  quiet = λ h. (nothing, none);
}
