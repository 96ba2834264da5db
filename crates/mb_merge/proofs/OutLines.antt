-- What passed to an out may stand there, mark after mark, and no two dumps mix.
--
--   Step start before p      how a mark passes, given those that passed before it
--   Steps start before ps    each of these marks does
--   Line start out ms open   whether a SysEx is open on an out, as the sources that go to it have it
use Rattle.std.proofs.Common.{◌≡◌, ◌≢◌, ℕ, ◌<◌, ◌⊎◌, inl, inr, Bool, true, false, if◌then◌else◌, List, [], ◌∷◌, ◌++◌}
use Rattle.std.proofs.Common.{length, Option, Some, None, refl, sym, ◌∙◌, ap, ap₂, subst, append-nil, append_assoc}
use Rattle.std.specs.Prelude.{slice_get}
use Rattle.mb_message.specs.declared.mark.Mark.{Mark}
use Rattle.mb_message.specs.declared.mark.Mark.TheVariants as mark
use Rattle.mb_message.specs.Signs.{sign_of, suits_sign}
use Rattle.mb_merge.specs.declared.source.Held.{Held}
use Rattle.mb_merge.specs.declared.router.Passed.{Passed}
use Rattle.mb_merge.specs.declared.waiting.Head.{Head}
use Rattle.mb_merge.specs.Links.{Link, Merger, HasSource, link_of, share}
use Rattle.mb_merge.specs.Passing.{is_realtime_mark, opens, ready_by, least, head_passes, held_passes, offered_passes}
use Rattle.mb_merge.specs.Calls.{Call, Offer, Next, History, begins, may_offer, taken_in, passed_in, after_call}
use Rattle.mb_merge.specs.Calls.{after_calls, waits, open_by, goes_to, to_out, AreSuiting, IsFresh, IsLeast, IsTracked}
use Rattle.mb_merge.specs.Calls.{IsUnmixed}
use Rattle.mb_merge.proofs.LinkLemmas.{share-at}
use Rattle.mb_merge.proofs.LeastLemmas.{least-IsLeast}
use Rattle.mb_merge.proofs.Flows.{same_or_not, NoRealtime, Suit, IsFree, opens-realtime}
use Rattle.mb_merge.proofs.Fits.{not_true, Turn, held_marks, offered_turn-own, may-free}
use Rattle.mb_merge.proofs.Histories.{Keeps, head_list, ready-may, head-suits, keeps-call, keeps-begins}
use Rattle.mb_merge.proofs.Tracks.{open_from-push, open_step-own, open_step-other, tracks-call, tracks-begins}

record Step (start : Merger) (before : List Passed) (p : Passed) : Type 0 where
  below : p.source < length start.links
  suits : suits_sign (open_by p.source before) (sign_of p.mark) ≡ true
  alone : is_realtime_mark p.mark ≡ false → (other : ℕ) → other < length start.links → other ≢ p.source →
      open_by other before ≡ true →
      share (link_of start other).outs (link_of start p.source).outs ≡ false

abbrev Steps : Merger → (before passed : List Passed) → Type 0
Steps start before [] = Unit {0}
Steps start before (p ∷ ps) = Step start before p × Steps start (before ++ p ∷ []) ps

steps-push : (start : Merger) (before ps : List Passed) (p : Passed) → Steps start before ps →
    Step start (before ++ ps) p → Steps start before (ps ++ p ∷ [])
steps-push start before [] p all one = (subst (λ z. Step start z p) (append-nil before) one, tt)
steps-push start before (q ∷ qs) p all one = (
  all.0,
  steps-push start (before ++ q ∷ []) qs p all.1 (subst (λ z. Step start z p)
      (sym (append_assoc before (q ∷ []) qs)) one),
)

steps-at : (start : Merger) (before front back : List Passed) (p : Passed) → Steps start before (front ++ p ∷ back) →
    Step start (before ++ front) p
steps-at start before [] back p all = subst (λ z. Step start z p) (sym (append-nil before)) all.0
steps-at start before (q ∷ qs) back p all = subst (λ z. Step start z p) (append_assoc before (q ∷ []) qs)
    (steps-at start (before ++ q ∷ []) qs back p all.1)

-- a mark passes

step-of : (start : Merger) (h : History) (p : Passed) → p.source < length h.now.links →
    suits_sign (link_of h.now p.source).is_open (sign_of p.mark) ≡ true →
    (is_realtime_mark p.mark ≡ false → IsFree h.now.links p.source) → IsTracked start h → Step start h.passed p
step-of start h p below suits free t = record {
  below = subst (λ n. p.source < n) t.sources below;
  suits = subst (λ z. suits_sign z (sign_of p.mark) ≡ true) (t.opened p.source) suits;
  alone = λ not_rt other other_below apart opened.
      ap₂ share (sym (t.routes other)) (sym (t.routes p.source)) ∙
      (free not_rt).free other (subst (λ n. other < n) (sym t.sources) other_below) apart (t.opened other ∙ opened);
}

suits-realtime : (mk : Mark) (b : Bool) → is_realtime_mark mk ≡ true → suits_sign b (sign_of mk) ≡ true
suits-realtime (mark.Rt r) b is = refl
suits-realtime (mark.Short s) b is = absurd (not_true (sym is))
suits-realtime mark.Open b is = absurd (not_true (sym is))
suits-realtime (mark.Byte y) b is = absurd (not_true (sym is))
suits-realtime mark.End b is = absurd (not_true (sym is))
suits-realtime mark.Abort b is = absurd (not_true (sym is))

offered-suits : (p : Passed) (link : Link) (rt : Bool) → is_realtime_mark p.mark ≡ rt → Turn (Some p) p.source link →
    suits_sign link.is_open (sign_of p.mark) ≡ true
offered-suits p link true rt t = suits-realtime p.mark link.is_open rt
offered-suits p link false rt t =
    let all : Suit link.is_open ((p.mark ∷ []) ++ held_marks link.held) link.in_sysex =
    subst (λ z. Suit link.is_open (z ++ held_marks link.held) link.in_sysex) (offered_turn-own p p.source false refl rt)
    t.suit in
    all.0

step-offered : (start : Merger) (h : History) (p : Passed) → h.now.offered ≡ Some p → Keeps h → IsTracked start h →
    Step start h.passed p
step-offered start h p is k t =
    step-of start h p (subst (HasSource h.now.links) is k.fits.source)
    (offered-suits p (link_of h.now p.source) (is_realtime_mark p.mark) refl
    (subst (λ o. Turn o p.source (link_of h.now p.source)) is (k.fits.turn p.source)))
    (k.fits.free p is) t

step-head : (start : Merger) (h : History) (best : Head) (hd : Held) → h.now.offered ≡ None →
    slice_get (link_of h.now best.source).held 0 ≡ Some hd → IsLeast h.now.links (Some best) → Keeps h →
    IsTracked start h →
    Step start h.passed (waits best.source hd)
step-head start h best hd nothing head_is first k t =
    let split = head_list (link_of h.now best.source).held hd head_is in
    let none_rt : NoRealtime (hd ∷ split.0) = subst NoRealtime split.1 (k.fits.turn best.source).no_rt in
    step-of start h (waits best.source hd) first.1 (head-suits h.now best.source hd split.0 k.fits nothing split.1)
    (λ not_rt. may-free h.now.links best.source hd.mark first.1 k.fits.exclusive none_rt.0
    (ready-may h.now.links best.source hd best (sym (ap (ready_by h.now.links best.source) head_is) ∙ first.0))) t

steps-best : (start : Merger) (h : History) (best : Head) (held : Option Held) → h.now.offered ≡ None →
    slice_get (link_of h.now best.source).held 0 ≡ held → IsLeast h.now.links (Some best) →
    Keeps h → IsTracked start h → Steps start [] h.passed → Steps start []
    (passed_in h (head_passes h.now best.source held)).passed
steps-best start h best None nothing head_is first k t s = subst (Steps start []) (sym (append-nil h.passed)) s
steps-best start h best (Some hd) nothing head_is first k t s =
    steps-push start [] h.passed (waits best.source hd) s (step-head start h best hd nothing head_is first k t)

steps-held : (start : Merger) (h : History) (best : Option Head) → h.now.offered ≡ None → IsLeast h.now.links best →
    Keeps h → IsTracked start h → Steps start [] h.passed → Steps start [] (passed_in h (held_passes h.now best)).passed
steps-held start h None nothing first k t s = subst (Steps start []) (sym (append-nil h.passed)) s
steps-held start h (Some best) nothing first k t s = steps-best start h best (slice_get (link_of h.now best.source).held
    0) nothing refl first k t s

steps-next : (start : Merger) (h : History) (offered : Option Passed) → h.now.offered ≡ offered →
    Keeps h → IsTracked start h → Steps start [] h.passed → Steps start []
    (passed_in h (offered_passes h.now offered)).passed
steps-next start h None is k t s = steps-held start h (least h.now.links) is (least-IsLeast h.now.links) k t s
steps-next start h (Some p) is k t s = steps-push start [] h.passed p s (step-offered start h p is k t)

steps-call : (start : Merger) (h : History) (call : Call) → Keeps h → IsTracked start h → Steps start [] h.passed →
    Steps start [] (after_call h call).passed
steps-call start h Next k t s = steps-next start h h.now.offered refl k t s
steps-call start h (Offer source moment mk) k t s = by_test (may_offer h.now source moment mk) where
  by_test : (may : Bool) → Steps start [] (if may then taken_in h source moment mk else h).passed
  by_test true = s
  by_test false = s

steps-calls : (start : Merger) (h : History) (calls : List Call) → Keeps h → IsTracked start h →
    Steps start [] h.passed → Steps start [] (after_calls h calls).passed
steps-calls start h [] k t s = s
steps-calls start h (call ∷ calls) k t s =
    steps-calls start (after_call h call) calls (keeps-call h call k) (tracks-call start h call k.fits.source t)
    (steps-call start h call k t s)

-- an out

abbrev Line : Merger → (out : ℕ) → List Passed → (open_now : Bool) → Type 0
Line start out marks true = (source : ℕ) × (source < length start.links) × (goes_to start out source ≡ true) ×
    (open_by source marks ≡ true)
Line start out marks false = (source : ℕ) → source < length start.links → goes_to start out source ≡ true →
    open_by source marks ≡ false

push-own : (marks : List Passed) (p : Passed) (source : ℕ) → p.source ≡ source → open_by source (marks ++ p ∷ []) ≡
    opens (open_by source marks) p.mark
push-own marks p source same = open_from-push source false marks p ∙ open_step-own source (open_by source marks) p same

push-other : (marks : List Passed) (p : Passed) (source : ℕ) → p.source ≢ source → open_by source (marks ++ p ∷ []) ≡
    open_by source marks
push-other marks p source apart = open_from-push source false marks p ∙ open_step-other source (open_by source marks) p
    apart

-- what doesn't change for the sources that go to an out
line-same : (start : Merger) (out : ℕ) (marks more : List Passed) (open_now : Bool) →
    ((source : ℕ) → goes_to start out source ≡ true → open_by source more ≡ open_by source marks) →
    Line start out marks open_now → Line start out more open_now
line-same start out marks more true same l = (l.0, l.1, l.2, same l.0 l.2 ∙ l.3)
line-same start out marks more false same l = λ source below goes. same source goes ∙ l source below goes

-- a mark of a source that doesn't go to it
line-elsewhere : (start : Merger) (out : ℕ) (marks : List Passed) (p : Passed) (open_now : Bool) →
    goes_to start out p.source ≡ false → Line start out marks open_now → Line start out (marks ++ p ∷ []) open_now
line-elsewhere start out marks p open_now away l =
    line-same start out marks (marks ++ p ∷ []) open_now
    (λ source goes. push-other marks p source (λ e. not_true (sym (subst (λ k. goes_to start out k ≡ true) (sym e) goes)
    ∙ away))) l

-- a real-time mark
line-realtime : (start : Merger) (out : ℕ) (marks : List Passed) (p : Passed) (open_now : Bool) →
    is_realtime_mark p.mark ≡ true → Line start out marks open_now → Line start out (marks ++ p ∷ []) open_now
line-realtime start out marks p open_now rt l = line-same start out marks (marks ++ p ∷ []) open_now (λ source goes.
    by_place source (same_or_not p.source source)) l where
      by_place : (source : ℕ) → (p.source ≡ source) ⊎ (p.source ≢ source) → open_by source (marks ++ p ∷ []) ≡
          open_by source marks
      by_place source (inl same) = push-own marks p source same ∙ opens-realtime p.mark (open_by source marks) rt
      by_place source (inr apart) = push-other marks p source apart

-- another source that goes to it has no SysEx open where a mark that keeps its turn passes
others-closed : (start : Merger) (out : ℕ) (marks : List Passed) (p : Passed) → Step start marks p →
    goes_to start out p.source ≡ true → is_realtime_mark p.mark ≡ false →
    (source : ℕ) → source < length start.links → source ≢ p.source → goes_to start out source ≡ true →
    open_by source marks ≡ false
others-closed start out marks p s goes not_rt source below apart there = by_value (open_by source marks) refl where
  by_value : (b : Bool) → open_by source marks ≡ b → b ≡ false
  by_value false is = refl
  by_value true is =
      absurd (not_true (sym (share-at out (link_of start source).outs (link_of start p.source).outs there goes) ∙
      s.alone not_rt source below apart is))

-- so the out has a SysEx open exactly where the mark's own source has
line-own : (start : Merger) (out : ℕ) (marks : List Passed) (p : Passed) (open_now : Bool) → Step start marks p →
    goes_to start out p.source ≡ true → is_realtime_mark p.mark ≡ false →
    Line start out marks open_now → open_by p.source marks ≡ open_now
line-own start out marks p false s goes not_rt l = l p.source s.below goes
line-own start out marks p true s goes not_rt l = by_place (same_or_not l.0 p.source) where
  by_place : (l.0 ≡ p.source) ⊎ (l.0 ≢ p.source) → open_by p.source marks ≡ true
  by_place (inl same) = subst (λ k. open_by k marks ≡ true) same l.3
  by_place (inr apart) = absurd (not_true (sym l.3 ∙ others-closed start out marks p s goes not_rt l.0 l.1 apart l.2))

line-turn : (start : Merger) (out : ℕ) (marks : List Passed) (p : Passed) (after : Bool) → Step start marks p →
    goes_to start out p.source ≡ true → is_realtime_mark p.mark ≡ false →
    open_by p.source (marks ++ p ∷ []) ≡ after → Line start out (marks ++ p ∷ []) after
line-turn start out marks p true s goes not_rt is = (p.source, s.below, goes, is)
line-turn start out marks p false s goes not_rt is = λ source below there.
    by_place source below there (same_or_not source p.source) where
      by_place : (source : ℕ) → source < length start.links → goes_to start out source ≡ true →
          (source ≡ p.source) ⊎ (source ≢ p.source) → open_by source (marks ++ p ∷ []) ≡ false
      by_place source below there (inl same) = subst (λ k. open_by k (marks ++ p ∷ []) ≡ false) (sym same) is
      by_place source below there (inr apart) =
          push-other marks p source (λ e. apart (sym e)) ∙ others-closed start out marks p s goes not_rt source below apart
          there

suiting : (start : Merger) (out : ℕ) (before passed : List Passed) (open_now : Bool) → Steps start before passed →
    Line start out before open_now → AreSuiting open_now (to_out start out passed)
suiting start out before [] open_now all l = tt
suiting start out before (p ∷ ps) open_now all l =
    by_test (goes_to start out p.source) (is_realtime_mark p.mark) refl refl
    (λ next line. suiting start out (before ++ p ∷ []) ps next all.1 line) where
      by_test : (goes rt : Bool) → goes_to start out p.source ≡ goes → is_realtime_mark p.mark ≡ rt →
          ((next : Bool) → Line start out (before ++ p ∷ []) next → AreSuiting next (to_out start out ps)) →
          AreSuiting open_now (if goes then p ∷ to_out start out ps else to_out start out ps)
      by_test false rt away is rest = rest open_now (line-elsewhere start out before p open_now away l)
      by_test true true goes is rest = (
        suits-realtime p.mark open_now is,
        rest (opens open_now p.mark) (subst (Line start out (before ++ p ∷ []))
            (sym (opens-realtime p.mark open_now is)) (line-realtime start out before p open_now is l)),
      )
      by_test true false goes is rest =
          let own : open_by p.source before ≡ open_now = line-own start out before p open_now all.0 goes is l in (
            subst (λ z. suits_sign z (sign_of p.mark) ≡ true) own all.0.suits,
            rest (opens open_now p.mark) (line-turn start out before p (opens open_now p.mark) all.0 goes is
                (push-own before p p.source refl ∙ ap (λ z. opens z p.mark) own)),
          )

pub unmixed : (m : Merger) (calls : List Call) → IsFresh m → IsUnmixed m (after_calls (begins m) calls).passed
unmixed m calls fresh =
    let all : Steps m [] (after_calls (begins m) calls).passed = steps-calls m (begins m) calls (keeps-begins m fresh)
    (tracks-begins m fresh) tt in
    record {
      suits = λ out. suiting m out [] (after_calls (begins m) calls).passed false all (λ source below goes. refl);
      alone = λ before after p is not_rt other below apart opened.
          let at : Step m before p = steps-at m [] before after p (subst (Steps m []) is all) in
          at.alone not_rt other below apart opened;
    }
