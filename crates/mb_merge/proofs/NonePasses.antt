-- No mark passes exactly where none may.
use Rattle.std.proofs.Common.{◌≡◌, ℕ, ◌<◌, ◌↔◌, Bool, true, false, if◌then◌else◌, List, [], ◌∷◌, length, Option, Some}
use Rattle.std.proofs.Common.{None, refl, sym, ◌∙◌, ap}
use Rattle.std.specs.Prelude.{slice_get}
use Rattle.std.proofs.lemmas.Option.{none-some}
use Rattle.mb_message.specs.declared.mark.Mark.{Mark}
use Rattle.mb_merge.specs.declared.source.Held.{Held}
use Rattle.mb_merge.specs.declared.router.Passed.{Passed}
use Rattle.mb_merge.specs.declared.waiting.Head.{Head}
use Rattle.mb_merge.specs.Links.{Link, Merger, link_at, link_of}
use Rattle.mb_merge.specs.Passing.{head_passes, held_passes, least, may_pass, next_of, offered_passes, ready_by}
use Rattle.mb_merge.specs.Passing.{ready_head}
use Rattle.mb_merge.specs.Calls.{IsLeast, NoneMayPass}
use Rattle.mb_merge.proofs.LeastLemmas.{least-IsLeast}

-- a ready head is a held mark that may pass
ready_is : (links : List Link) (source : ℕ) (marks : List Held) (head : Head) →
    ready_by links source (slice_get marks 0) ≡ Some head →
    (held : Held) × (more : List Held) × (marks ≡ held ∷ more) × (may_pass links source held.mark ≡ true)
ready_is links source [] head e = absurd (none-some head e)
ready_is links source (h ∷ hs) head e = (h, hs, refl, by_test (may_pass links source h.mark) e)
  where
    by_test : (passes : Bool) → ◌≡◌ {A = Option Head} (if passes then Some (record {
      arrival = h.arrival;
      source =
          source;
    }) else None) (Some head) → passes ≡ true
    by_test true same = refl
    by_test false same = absurd (none-some head same)

-- a source with no ready head has no mark that may pass
unready : (links : List Link) (source : ℕ) (marks more : List Held) (held : Held) →
    ready_by links source (slice_get marks 0) ≡ None → marks ≡ held ∷ more → may_pass links source held.mark ≡ false
unready links source [] more held e cut = cc
unready links source (h ∷ hs) more held e cut = sym (ap (λ (m : Held). may_pass links source m.mark) same) ∙
    by_test (may_pass links source h.mark) e
  where
    same : h ≡ held
    same = cc

    by_test : (passes : Bool) → ◌≡◌ {A = Option Head} (if passes then Some (record {
      arrival = h.arrival;
      source =
          source;
    }) else None) None → passes ≡ false
    by_test true e = absurd (none-some _ (sym e))
    by_test false e = refl

differ : (b : Bool) → b ≡ true → b ≡ false → ⊥
differ b e f = let same = sym e ∙ f in cc

-- of the held marks

held_none : (m : Merger) (best : Option Head) → IsLeast m.links best → (held_passes m best).0 ≡ None → NoneMayPass m
held_none m None least_is none = λ source held more below cut. unready m.links source (link_of m source).held more held
    (least_is source below) cut
held_none m (Some best) least_is none =
    let r = ready_is m.links best.source (link_of m best.source).held best least_is.0 in
    absurd (some_passes (link_of m best.source).held r.0 r.1 r.2 none)
  where
    some_passes : (marks : List Held) (held : Held) (more : List Held) → marks ≡ held ∷ more →
        (head_passes m best.source (slice_get marks 0)).0 ≡ None → ⊥
    some_passes [] held more cut e = cc
    some_passes (h ∷ hs) held more cut e = none-some _ (sym e)

none_held : (m : Merger) (best : Option Head) → IsLeast m.links best → NoneMayPass m → (held_passes m best).0 ≡ None
none_held m None least_is none = refl
none_held m (Some best) least_is none =
    let r = ready_is m.links best.source (link_of m best.source).held best least_is.0 in
    absurd (differ (may_pass m.links best.source (r.0).mark) r.3 (none best.source r.0 r.1 least_is.1 r.2))

by_offered : (m : Merger) (offered : Option Passed) → ((offered_passes m offered).0 ≡ None) ↔ ((offered ≡ None) ×
    NoneMayPass m)
by_offered m None = (
  λ e. (refl, held_none m (least m.links) (least-IsLeast m.links) e),
  λ h.
      none_held m (least m.links) (least-IsLeast m.links) h.1,
)
by_offered m (Some p) = (λ e. absurd (none-some p (sym e)), λ h. absurd (none-some p (sym h.0)))

pub none_passes : (m : Merger) → ((next_of m).0 ≡ None) ↔ ((m.offered ≡ None) × NoneMayPass m)
none_passes m = by_offered m m.offered
