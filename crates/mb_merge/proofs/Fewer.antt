-- A mark that passes is one fewer to pass.
use Rattle.std.proofs.Common.{◌≡◌, ℕ, ◌+◌, ◌<◌, List, [], length, drop, Option, Some, None, refl, sym, ◌∙◌, ap, subst}
use Rattle.std.proofs.Common.{arith}
use Rattle.std.specs.Prelude.{slice_get, slice_set, sum_by, OnSome}
use Rattle.std.proofs.lemmas.List.Sums.{sum_by-set}
use Rattle.mb_merge.specs.declared.source.Held.{Held}
use Rattle.mb_merge.specs.declared.router.Passed.{Passed}
use Rattle.mb_merge.specs.declared.waiting.Head.{Head}
use Rattle.mb_merge.specs.Links.{Link, Merger, HasSource, closed_link, link_at, link_of}
use Rattle.mb_merge.specs.Passing.{least, after_pass, after_head, head_passes, held_passes, offered_passes, next_of}
use Rattle.mb_merge.specs.Passing.{count_offered, to_pass}
use Rattle.mb_merge.specs.Calls.{IsLeast}
use Rattle.mb_merge.proofs.LeastLemmas.{least-IsLeast}
use Rattle.mb_merge.proofs.Histories.{head_list}

-- how many marks are held
abbrev held_of : List Link → ℕ
held_of links = sum_by (λ link. length link.held) links

held-set : (links : List Link) (source : ℕ) (link : Link) → source < length links →
    held_of (slice_set links source link) + length (link_at links source).held ≡ held_of links + length link.held
held-set links source link below = sum_by-set (λ l. length l.held) links source link (closed_link []) below

-- one fewer, where a mark passes
abbrev Fewer : Option Passed → (old new : ℕ) → Type 0
Fewer None old new = Unit {0}
Fewer (Some p) old new = new < old

fewer-head : (m : Merger) (source : ℕ) (held : Option Held) → source < length m.links →
    slice_get (link_of m source).held 0 ≡ held →
    Fewer (head_passes m source held).0 (to_pass m) (to_pass (head_passes m source held).1)
fewer-head m source None below is = tt
fewer-head m source (Some hd) below is =
    let split = head_list (link_of m source).held hd is in
    let before : length (link_of m source).held ≡ length split.0 + 1 = ap length split.1 ∙ omega arith in
    let after : length (after_head (link_of m source) hd.mark).held ≡ length split.0 =
    ap (λ z. length (drop 1 z)) split.1 in
    omega (arith, held-set m.links source (after_head (link_of m source) hd.mark) below, before, after)

fewer-held : (m : Merger) (best : Option Head) → IsLeast m.links best → Fewer (held_passes m best).0 (to_pass m)
    (to_pass (held_passes m best).1)
fewer-held m None h = tt
fewer-held m (Some best) h = fewer-head m best.source (slice_get (link_of m best.source).held 0) h.1 refl

fewer-offered : (m : Merger) (offered : Option Passed) → m.offered ≡ offered → HasSource m.links offered →
    Fewer (offered_passes m offered).0 (to_pass m) (to_pass (offered_passes m offered).1)
fewer-offered m None is below = fewer-held m (least m.links) (least-IsLeast m.links)
fewer-offered m (Some p) is below =
    let one_was : count_offered m.offered ≡ 1 = ap count_offered is in
    omega (arith, held-set m.links p.source (after_pass (link_of m p.source) p.mark) below, one_was)

pub fewer : (m : Merger) → HasSource m.links m.offered → Fewer (next_of m).0 (to_pass m) (to_pass (next_of m).1)
fewer m below = fewer-offered m m.offered refl below

on_some : (o : Option Passed) (old new : ℕ) → Fewer o old new → OnSome o (new < old)
on_some None old new h = tt
on_some (Some p) old new h = h

pub told_fewer : (m new : Merger) (told : Option Passed) → HasSource m.links m.offered → told ≡ (next_of m).0 →
    new ≡ (next_of m).1 → OnSome told (to_pass new < to_pass m)
told_fewer m new told below told_is new_is =
    subst (λ t. OnSome t (to_pass new < to_pass m)) (sym told_is)
    (subst (λ n. OnSome (next_of m).0 (to_pass n < to_pass m)) (sym new_is)
    (on_some (next_of m).0 (to_pass m) (to_pass (next_of m).1) (fewer m below)))
