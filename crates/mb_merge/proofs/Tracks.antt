-- What is kept of each source is what the marks taken and passed say, and its outs stay.
use Rattle.std.proofs.Common.{◌≡◌, ◌≢◌, ℕ, ◌<◌, ◌⊎◌, inl, inr, Bool, true, false, if◌then◌else◌, List, [], ◌∷◌, ◌++◌}
use Rattle.std.proofs.Common.{length, Option, Some, None, get_or, refl, sym, ◌∙◌, ap, subst, arith, append-nil}
use Rattle.std.specs.Prelude.{slice_set, slice_get}
use Rattle.std.proofs.lemmas.List.FromFn.{get_or-map-range_with_len, length-map-range_with_len}
use Rattle.mb_message.specs.declared.mark.Mark.{Mark}
use Rattle.mb_merge.specs.declared.source.Held.{Held}
use Rattle.mb_merge.specs.declared.router.Passed.{Passed}
use Rattle.mb_merge.specs.declared.waiting.Head.{Head}
use Rattle.mb_merge.specs.Links.{Link, Merger, HasSource, closed_link, link_at, link_of}
use Rattle.mb_merge.specs.Passing.{opens, least, passes_now, taken, after_pass, after_head, drained, head_passes}
use Rattle.mb_merge.specs.Passing.{held_passes, offered_passes}
use Rattle.mb_merge.specs.Opening.{opened, outs_of, stands_in}
use Rattle.mb_merge.specs.Calls.{Call, Offer, Next, History, begins, may_offer, taken_in, passed_in, after_call}
use Rattle.mb_merge.specs.Calls.{after_calls, waits, open_step, open_from, open_by, IsFresh, IsTracked, IsLeast}
use Rattle.mb_merge.proofs.LeastLemmas.{least-IsLeast}
use Rattle.mb_merge.proofs.Flows.{link_at-set_same, link_at-set_other, length-links, same_or_not}
use Rattle.mb_merge.proofs.Fits.{same_number, other_number, offer_at}
use Rattle.mb_merge.proofs.Histories.{Keeps, taken_mark, offer_source, keeps-call, keeps-begins}

pub open_from-push : (source : ℕ) (before : Bool) (ps : List Passed) (p : Passed) → open_from source before (ps ++
    p ∷ []) ≡ open_step source (open_from source before ps) p
open_from-push source before [] p = refl
open_from-push source before (q ∷ qs) p = open_from-push source (open_step source before q) qs p

pub open_step-own : (source : ℕ) (before : Bool) (p : Passed) → p.source ≡ source → open_step source before p ≡
    opens before p.mark
open_step-own source before p same = ap (λ t. if t then opens before p.mark else before) (same_number p.source source
    same)

pub open_step-other : (source : ℕ) (before : Bool) (p : Passed) → p.source ≢ source → open_step source before p ≡ before
open_step-other source before p apart = ap (λ t. if t then opens before p.mark else before)
    (other_number p.source source apart)

-- a property of every link stays where one link is set that has it
everywhere : (P : ℕ → Link → Type 0) (links : List Link) (source : ℕ) (link : Link) → source < length links →
    P source link → ((other : ℕ) → other ≢ source → P other (link_at links other)) →
    (other : ℕ) → P other (link_at (slice_set links source link) other)
everywhere P links source link below here elsewhere other = by_place (same_or_not other source) where
  by_place : (other ≡ source) ⊎ (other ≢ source) → P other (link_at (slice_set links source link) other)
  by_place (inl same) =
      subst (λ k. P k (link_at (slice_set links source link) k)) (sym same)
      (subst (P source) (sym (link_at-set_same links source link below)) here)
  by_place (inr apart) = subst (P other) (sym (link_at-set_other links source other link apart)) (elsewhere other apart)

-- a mark is taken
tracks-offer : (start : Merger) (h : History) (source moment : ℕ) (mk : Mark) (passes : Bool) →
    source < length h.now.links → IsTracked start h →
    IsTracked start (record {
      taken = h.taken ++ taken_mark source moment mk ∷ [];
      passed = h.passed;
      now =
          offer_at h.now source moment mk passes;
    })
tracks-offer start h source moment mk passes below t = record {
  sources = length-links h.now.links source link ∙ t.sources;
  outs = t.outs;
  routes = everywhere (λ k l. l.outs ≡ (link_of start k).outs) h.now.links source link below (t.routes source)
      (λ k apart. t.routes k);
  opened = everywhere (λ k l. l.is_open ≡ open_by k h.passed) h.now.links source link below (t.opened source)
      (λ k apart. t.opened k);
  sysex = everywhere (λ k l. l.in_sysex ≡ open_by k (h.taken ++ taken_mark source moment mk ∷ [])) h.now.links source
      link below
      (ap (λ b. opens b mk) (t.sysex source) ∙ sym (open_from-push source false h.taken (taken_mark source moment mk) ∙
      open_step-own source (open_by source h.taken) (taken_mark source moment mk) refl))
      (λ k apart. t.sysex k ∙ sym (open_from-push k false h.taken (taken_mark source moment mk) ∙
      open_step-other k (open_by k h.taken) (taken_mark source moment mk) (λ e. apart (sym e))));
} where
  link : Link
  link = taken (link_of h.now source) passes moment mk

-- a mark passes, whose source's link is open then or not by it, and else as before
tracks-pass : (start : Merger) (h : History) (p : Passed) (link : Link) (offered : Option Passed) →
    p.source < length h.now.links → link.outs ≡ (link_of h.now p.source).outs →
    link.in_sysex ≡ (link_of h.now p.source).in_sysex → link.is_open ≡ opens (link_of h.now p.source).is_open p.mark →
    IsTracked start h →
    IsTracked start (record {
      taken = h.taken;
      passed = h.passed ++ p ∷ [];
      now =
          record {
            links = slice_set h.now.links p.source link;
            outs = h.now.outs;
            offered = offered;
            draining =
                h.now.draining;
          };
    })
tracks-pass start h p link offered below same_outs same_sysex opening t = record {
  sources = length-links h.now.links p.source link ∙ t.sources;
  outs = t.outs;
  routes = everywhere (λ k l. l.outs ≡ (link_of start k).outs) h.now.links p.source link below (same_outs ∙
      t.routes p.source) (λ k apart. t.routes k);
  sysex = everywhere (λ k l. l.in_sysex ≡ open_by k h.taken) h.now.links p.source link below (same_sysex ∙
      t.sysex p.source) (λ k apart. t.sysex k);
  opened = everywhere (λ k l. l.is_open ≡ open_by k (h.passed ++ p ∷ [])) h.now.links p.source link below
      (opening ∙ (ap (λ b. opens b p.mark) (t.opened p.source) ∙ sym (open_from-push p.source false h.passed p ∙
      open_step-own p.source (open_by p.source h.passed) p refl)))
      (λ k apart. t.opened k ∙ sym (open_from-push k false h.passed p ∙ open_step-other k (open_by k h.passed) p (λ e.
      apart (sym e))));
}

tracks-none : (start : Merger) (h : History) → IsTracked start h → IsTracked start (record {
  taken = h.taken;
  passed =
      h.passed ++ [];
  now = drained h.now;
})
tracks-none start h t = record {
  sources = t.sources;
  outs = t.outs;
  routes = t.routes;
  opened = λ source. t.opened source ∙ ap (open_by source) (sym (append-nil h.passed));
  sysex = t.sysex;
}

tracks-head : (start : Merger) (h : History) (source : ℕ) (held : Option Held) → source < length h.now.links →
    IsTracked start h → IsTracked start (passed_in h (head_passes h.now source held))
tracks-head start h source None below t = tracks-none start h t
tracks-head start h source (Some hd) below t =
    tracks-pass start h (waits source hd) (after_head (link_of h.now source) hd.mark) h.now.offered below refl refl refl
    t

tracks-held : (start : Merger) (h : History) (best : Option Head) → IsLeast h.now.links best → IsTracked start h →
    IsTracked start (passed_in h (held_passes h.now best))
tracks-held start h None first t = tracks-none start h t
tracks-held start h (Some best) first t = tracks-head start h best.source (slice_get (link_of h.now best.source).held 0)
    first.1 t

tracks-next : (start : Merger) (h : History) (offered : Option Passed) → HasSource h.now.links offered →
    IsTracked start h → IsTracked start (passed_in h (offered_passes h.now offered))
tracks-next start h None below t = tracks-held start h (least h.now.links) (least-IsLeast h.now.links) t
tracks-next start h (Some p) below t = tracks-pass start h p (after_pass (link_of h.now p.source) p.mark) None below
    refl refl refl t

pub tracks-call : (start : Merger) (h : History) (call : Call) → HasSource h.now.links h.now.offered →
    IsTracked start h → IsTracked start (after_call h call)
tracks-call start h Next below t = tracks-next start h h.now.offered below t
tracks-call start h (Offer source moment mk) below t = by_test (may_offer h.now source moment mk) refl where
  by_test : (may : Bool) → may_offer h.now source moment mk ≡ may →
      IsTracked start (if may then taken_in h source moment mk else h)
  by_test true may = tracks-offer start h source moment mk (passes_now h.now source mk) (offer_source h.now source
      moment mk may) t
  by_test false may = t

tracks-calls : (start : Merger) (h : History) (calls : List Call) → Keeps h → IsTracked start h →
    IsTracked start (after_calls h calls)
tracks-calls start h [] k t = t
tracks-calls start h (call ∷ calls) k t = tracks-calls start (after_call h call) calls (keeps-call h call k)
    (tracks-call start h call k.fits.source t)

pub tracks-begins : (m : Merger) → IsFresh m → IsTracked m (begins m)
tracks-begins m fresh = record {
  sources = refl;
  outs = refl;
  routes = λ source. refl;
  opened = λ source. (fresh.closed source).not_open;
  sysex = λ source. (fresh.closed source).outside;
}

pub tracked : (m : Merger) (calls : List Call) → IsFresh m → IsTracked m (after_calls (begins m) calls)
tracked m calls fresh = tracks-calls m (begins m) calls (keeps-begins m fresh) (tracks-begins m fresh)

pub routed : (sources outs source out : ℕ) (routes : List (ℕ × ℕ)) → source < sources → out < 16 →
    get_or (link_of (opened sources outs routes) source).outs out false ≡ stands_in (source, out) routes
routed sources outs source out routes source_below out_below =
    ap (λ l. get_or l.outs out false) (get_or-map-range_with_len (λ s. closed_link (outs_of s routes)) 0 sources source
    source (closed_link []) source_below (omega arith)) ∙
    get_or-map-range_with_len (λ o. stands_in (source, o) routes) 0 16 out out false out_below (omega arith)

pub as_many : (sources outs : ℕ) (routes : List (ℕ × ℕ)) → length (opened sources outs routes).links ≡ sources
as_many sources outs routes = length-map-range_with_len (λ s. closed_link (outs_of s routes)) 0 sources
