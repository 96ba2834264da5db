-- Of each source 1,024 marks are held at most; so a link whose mark passes has room for one more.
use Rattle.std.proofs.Common.{◌≡◌, ◌≢◌, ⊎_elim, ℕ, zero, suc, ◌<◌, ◌≤◌, Bool, true, false, List, [], ◌∷◌, ◌++◌}
use Rattle.std.proofs.Common.{length, drop, Option, Some, None, refl, ap, sym, subst, ◌∙◌, arith}
use Rattle.std.specs.Prelude.{not, ◌&&◌, nat_lt, nat_le, if◌then◌else◌, slice_get, slice_set}
use Rattle.std.proofs.lemmas.Bool.Decides.{nat_tests}
use Rattle.std.proofs.lemmas.List.{length-append, length-drop}
use Rattle.mb_message.specs.declared.mark.Mark.{Mark}
use Rattle.mb_message.specs.Signs.{Sign, sign_of, suits_sign}
use Rattle.mb_merge.specs.declared.source.Held.{Held}
use Rattle.mb_merge.specs.declared.router.Passed.{Passed}
use Rattle.mb_merge.specs.declared.waiting.Head.{Head}
use Rattle.mb_merge.specs.Links.{Link, Merger, link_at, link_of}
use Rattle.mb_merge.specs.Passing.{after_head, after_pass, drained, has_room, has_room_in, head_passes, held_passes}
use Rattle.mb_merge.specs.Passing.{least}
use Rattle.mb_merge.specs.Passing.{next_of, offered_in, offered_mark, offered_passes, passes_now, taken}
use Rattle.mb_merge.specs.Calls.{Call, History, Next, Offer, after_call, after_calls, begins, may_offer, taken_in}
use Rattle.mb_merge.proofs.Fits.{not_true}
use Rattle.mb_merge.proofs.Flows.{link_at-set_other}
use Rattle.mb_merge.proofs.Histories.{opened-IsFresh}
use Rattle.mb_rig.specs.RigText.{Setup}
use Rattle.mb_rig.specs.Merging.Course.{IsReached, Links, freed, gives, start_of}
use Rattle.mb_rig.specs.Bay.{KeepRoom, OffersOf}
use Rattle.mb_rig.proofs.Merging.Lateness.{none≢some, same_or_not, some_same}
use Rattle.mb_rig.proofs.Merging.Given.{elsewhere}

abbrev pub AreFewHeld : Merger → Type 0
AreFewHeld m = (x : ℕ) → length (link_of m x).held ≤ 1024

set-few : (links : List Link) (x : ℕ) (l : Link) (n : ℕ) → ((y : ℕ) → length (link_at links y).held ≤ n) →
    length l.held ≤ n → (y : ℕ) → length (link_at (slice_set links x l) y).held ≤ n
set-few [] x l n all here y = all y
set-few (k ∷ ls) zero l n all here zero = here
set-few (k ∷ ls) zero l n all here (suc y) = all (suc y)
set-few (k ∷ ls) (suc x) l n all here zero = all zero
set-few (k ∷ ls) (suc x) l n all here (suc y) = set-few ls x l n (λ z. all (suc z)) here y

set-here : (links : List Link) (x : ℕ) (l : Link) → length (link_at (slice_set links x l) x).held ≤ length l.held
set-here [] x l = omega arith
set-here (k ∷ ls) zero l = omega arith
set-here (k ∷ ls) (suc x) l = set-here ls x l

both : (a b : Bool) → (a && b) ≡ true → (a ≡ true) × (b ≡ true)
both true b h = (refl, h)
both false b h = absurd (not_true (sym h))

few-offer : (m : Merger) (source moment : ℕ) (mark : Mark) → has_room m source mark ≡ true → AreFewHeld m →
    AreFewHeld (offered_in m source moment mark)
few-offer m source moment mark room few =
    set-few m.links source (taken (link_of m source) (passes_now m source mark) moment mark) 1024 few
    (by_test (passes_now m source mark) room)
  where
    by_test : (passes : Bool) → has_room_in (link_of m source) passes ≡ true →
        length (taken (link_of m source) passes moment mark).held ≤ 1024
    by_test true e = few source
    by_test false e =
        let below : length (link_of m source).held < 1024 = grind (arith, nat_tests, e) in
        let more = length-append (link_of m source).held ((record { arrival = moment; mark = mark }) ∷ []) in
        omega (arith, below, more)

room-of : (m : Merger) (source moment : ℕ) (mark : Mark) → may_offer m source moment mark ≡ true →
    has_room m source mark ≡ true
room-of m source moment mark may =
    let first = both (nat_lt source (length m.links)) (suits_sign (link_of m source).in_sysex (sign_of mark) &&
    (nat_le (link_of m source).last moment && (not m.draining && has_room m source mark))) may in
    let second = both (suits_sign (link_of m source).in_sysex (sign_of mark)) (nat_le (link_of m source).last
    moment && (not m.draining && has_room m source mark)) first.1 in
    let third = both (nat_le (link_of m source).last moment) (not m.draining && has_room m source mark) second.1 in
    (both (not m.draining) (has_room m source mark) third.1).1

few-head : (m : Merger) (source : ℕ) (o : Option Held) → AreFewHeld m → AreFewHeld (head_passes m source o).1
few-head m source None few = few
few-head m source (Some h) few =
    set-few m.links source (after_head (link_of m source) h.mark) 1024 few
    (let n = few source in let less = drop-less (link_of m source).held in omega (arith, n, less))
  where
    drop-less : (hs : List Held) → length (drop 1 hs) ≤ length hs
    drop-less [] = omega arith
    drop-less (h ∷ hs) = omega arith

few-held : (m : Merger) (best : Option Head) → AreFewHeld m → AreFewHeld (held_passes m best).1
few-held m None few = few
few-held m (Some best) few = few-head m best.source (slice_get (link_of m best.source).held 0) few

few-offered : (m : Merger) (offered : Option Passed) → AreFewHeld m → AreFewHeld (offered_passes m offered).1
few-offered m None few = few-held m (least m.links) few
few-offered m (Some p) few = set-few m.links p.source (after_pass (link_of m p.source) p.mark) 1024 few (few p.source)

few-call : (h : History) (call : Call) → AreFewHeld h.now → AreFewHeld (after_call h call).now
few-call h Next few = few-offered h.now h.now.offered few
few-call h (Offer source moment mark) few = by_test (may_offer h.now source moment mark) refl
  where
    by_test : (may : Bool) → may_offer h.now source moment mark ≡ may →
        AreFewHeld (if may then taken_in h source moment mark else h).now
    by_test true e = few-offer h.now source moment mark (room-of h.now source moment mark e) few
    by_test false e = few

few-calls : (h : History) (calls : List Call) → AreFewHeld h.now → AreFewHeld (after_calls h calls).now
few-calls h [] few = few
few-calls h (call ∷ calls) few = few-calls (after_call h call) calls (few-call h call few)

pub reached-few : (s : Setup) (m : Merger) → IsReached (start_of s) m → AreFewHeld m
reached-few s m was = subst AreFewHeld was.now (few-calls (begins (start_of s)) was.calls start)
  where
    start : AreFewHeld (start_of s)
    start x =
        let none : length (link_of (start_of s) x).held ≡ 0 =
        ap length ((opened-IsFresh (length s.ins) (length s.outs) s.routes).closed x).nothing in
        omega (arith, none)

-- what passes leaves room

some-held : (hs : List Held) (h : Held) → slice_get hs 0 ≡ Some h → 0 < length hs
some-held [] h is = absurd (none≢some h is)
some-held (g ∷ hs) h is = omega arith

room-head : (m : Merger) (links : Links) (source : ℕ) (o : Option Held) (x : ℕ) (q : Passed) → AreFewHeld m →
    slice_get (link_of m source).held 0 ≡ o → (head_passes m source o).0 ≡ Some q →
    KeepRoom m links (head_passes m source o).1 (freed links q.source) x
room-head m links source None x q few is at y apart room free = absurd (none≢some q at)
room-head m links source (Some h) x q few is at y apart room free = ⊎_elim here there (same_or_not y source)
  where
    own : source ≡ q.source
    own = ap (λ (p : Passed). p.source) (some_same at)

    here : y ≡ source → length (link_of (head_passes m source (Some h)).1 y).held < 1024
    here e = subst (λ z. length (link_of (head_passes m source (Some h)).1 z).held < 1024) (sym e)
        (let a = set-here m.links source (after_head (link_of m source) h.mark) in
        let b = few source in
        let c = some-held (link_of m source).held h is in
        let d = length-drop 1 (link_of m source).held in
        omega (arith, a, b, c, d))

    there : y ≢ source → length (link_of (head_passes m source (Some h)).1 y).held < 1024
    there other = subst (λ (l : Link). length l.held < 1024)
        (sym (link_at-set_other m.links source y (after_head (link_of m source) h.mark) other))
        (room (sym (elsewhere links.stalled q.source false y (λ e. other (e ∙ sym own))) ∙ free))

room-held : (m : Merger) (links : Links) (best : Option Head) (x : ℕ) (q : Passed) → AreFewHeld m →
    (held_passes m best).0 ≡ Some q → KeepRoom m links (held_passes m best).1 (freed links q.source) x
room-held m links None x q few at = absurd (none≢some q at)
room-held m links (Some best) x q few at =
    room-head m links best.source (slice_get (link_of m best.source).held 0) x q few refl at

room-offered : (m : Merger) (links : Links) (offered : Option Passed) (x : ℕ) (q : Passed) → AreFewHeld m →
    m.offered ≡ offered → OffersOf m x → (offered_passes m offered).0 ≡ Some q →
    KeepRoom m links (offered_passes m offered).1 (freed links q.source) x
room-offered m links None x q few is of at y apart room free =
    room-held m links (least m.links) x q few at y apart room free
room-offered m links (Some p) x q few is of at y apart room free =
    subst (λ (l : Link). length l.held < 1024)
    (sym (link_at-set_other m.links p.source y (after_pass (link_of m p.source) p.mark) (λ e. apart (e ∙ of p is))))
    (room (sym (elsewhere links.stalled q.source false y
    (λ e. apart (e ∙ (sym (ap (λ (z : Passed). z.source) (some_same at)) ∙ of p is)))) ∙ free))

-- the next mark passes
pub room-next : (m : Merger) (links : Links) (x : ℕ) (q : Passed) → AreFewHeld m → OffersOf m x →
    (next_of m).0 ≡ Some q → KeepRoom m links (next_of m).1 (freed links q.source) x
room-next m links x q few of at = room-offered m links m.offered x q few refl of at

-- a mark is offered
pub room-offer : (m : Merger) (links : Links) (x moment : ℕ) (mark : Mark) →
    KeepRoom m links (offered_in m x moment mark) (gives links x moment (sign_of mark)) x
room-offer m links x moment mark y apart room free =
    subst (λ (l : Link). length l.held < 1024)
    (sym (link_at-set_other m.links x y (taken (link_of m x) (passes_now m x mark) moment mark) apart)) (room free)

pub offers-own : (m : Merger) (x moment : ℕ) (mark : Mark) → OffersOf (offered_in m x moment mark) x
offers-own m x moment mark p is = by_test (passes_now m x mark) is
  where
    by_test : (passes : Bool) → offered_mark passes x moment mark ≡ Some p → p.source ≡ x
    by_test true e = sym (ap (λ (z : Passed). z.source) (some_same e))
    by_test false e = absurd (none≢some p e)

-- behind a call for the next mark none is offered

head-offered : (m : Merger) (source : ℕ) (o : Option Held) → (head_passes m source o).1.offered ≡ m.offered
head-offered m source None = refl
head-offered m source (Some h) = refl

held-offered : (m : Merger) (best : Option Head) → (held_passes m best).1.offered ≡ m.offered
held-offered m None = refl
held-offered m (Some best) = head-offered m best.source (slice_get (link_of m best.source).held 0)

offered-none : (m : Merger) (offered : Option Passed) → m.offered ≡ offered →
    (offered_passes m offered).1.offered ≡ None
offered-none m None is = held-offered m (least m.links) ∙ is
offered-none m (Some p) is = refl

pub next-idle : (m : Merger) → (next_of m).1.offered ≡ None
next-idle m = offered-none m m.offered refl

pub next-offers : (m : Merger) (x : ℕ) → OffersOf (next_of m).1 x
next-offers m x p is = absurd (none≢some p (sym (offered-none m m.offered refl) ∙ is))

-- where none passes nothing but that changes

head-none : (m : Merger) (source : ℕ) (o : Option Held) → (head_passes m source o).0 ≡ None →
    (head_passes m source o).1 ≡ drained m
head-none m source None none = refl
head-none m source (Some h) none = absurd (none≢some _ (sym none))

held-none : (m : Merger) (best : Option Head) → (held_passes m best).0 ≡ None → (held_passes m best).1 ≡ drained m
held-none m None none = refl
held-none m (Some best) none = head-none m best.source (slice_get (link_of m best.source).held 0) none

offered-quiet : (m : Merger) (offered : Option Passed) → (offered_passes m offered).0 ≡ None →
    (offered_passes m offered).1 ≡ drained m
offered-quiet m None none = held-none m (least m.links) none
offered-quiet m (Some p) none = absurd (none≢some p (sym none))

pub next-none : (m : Merger) → (next_of m).0 ≡ None → (next_of m).1 ≡ drained m
next-none m none = offered-quiet m m.offered none

pub offers-some : (m : Merger) → (x : ℕ) × OffersOf m x
offers-some m = by_offered m.offered refl
  where
    by_offered : (o : Option Passed) → m.offered ≡ o → (x : ℕ) × OffersOf m x
    by_offered None is = (0, λ p e. absurd (none≢some p (sym is ∙ e)))
    by_offered (Some q) is = (q.source, λ p e. ap (λ (z : Passed). z.source) (some_same (sym e ∙ is)))
