-- The calls of a router keep the third parts of merged and of orderly.
use Rattle.std.proofs.Common.{◌≡◌, ◌≢◌, ◌⊎◌, ⊎_elim, ℕ, ◌<◌, Bool, true, false, Some, List, [], ◌∷◌, ◌++◌, length, map}
use Rattle.std.proofs.Common.{drop, refl, ap, sym, subst, ◌∙◌}
use Rattle.std.specs.Prelude.{slice_get, slice_set}
use Rattle.std.proofs.lemmas.List.{map-append}
use Rattle.mb_message.specs.Signs.{sign_of}
use Rattle.mb_message.specs.declared.mark.Mark.{Mark}
use Rattle.mb_message.specs.declared.mark.Mark.TheVariants.{Short, Rt, Open, Byte, End, Abort}
use Rattle.mb_merge.specs.declared.source.Held.{Held}
use Rattle.mb_merge.specs.Links.{Link, Merger, link_of}
use Rattle.mb_merge.specs.Passing.{opens, taken, after_pass, after_head}
use Rattle.mb_merge.proofs.Flows.{link_at-set_same, link_at-set_other}
use Rattle.mb_rig.specs.Merging.Lines.{Key, arrival_of, is_sysex, Line}
use Rattle.mb_rig.specs.Merging.Report.{Passing}
use Rattle.mb_rig.specs.Merging.Unbroken.{HasOwner}
use Rattle.mb_rig.specs.Merging.Routed.{key_of, open_of, keys_of}
use Rattle.mb_rig.specs.Merging.Tags.{Tag, is_realtime_sign}
use Rattle.mb_rig.specs.Merging.Playing.{Play, takes, offered_goes, head_goes}
use Rattle.mb_rig.specs.Merging.Order.{LineFits, newest, sharing}
use Rattle.mb_rig.specs.Merging.Realtimes.{RealtimesFit, PlaceFits, IsLatest, stands}
use Rattle.mb_rig.specs.Merging.Unstalled.{UnstalledOrder, OwnFits}
use Rattle.mb_rig.proofs.Merging.Lateness.{true≢false, same_or_not}
use Rattle.mb_rig.proofs.Merging.Overtaken.{Anyone}
use Rattle.mb_rig.proofs.Merging.RealtimeSteps.{realtimes-accepts, realtimes-takes, realtimes-offered, realtimes-head}
use Rattle.mb_rig.proofs.Merging.UnstalledSteps.{unstalled-accepts, unstalled-takes, unstalled-offered, unstalled-head}

-- a router with one link changed
abbrev pub with_link : Merger → ℕ → Link → Merger
with_link m s now = record m { links = slice_set m.links s now }

pub open_other : (m : Merger) (s x : ℕ) (now : Link) → x ≢ s → open_of (with_link m s now) x ≡ open_of m x
open_other m s x now apart = ap (λ (l : Link). l.is_open) (link_at-set_other m.links s x now apart)

pub keys_other : (m : Merger) (s x : ℕ) (now : Link) → x ≢ s → keys_of (with_link m s now) x ≡ keys_of m x
keys_other m s x now apart = ap (λ (l : Link). map (key_of x) l.held) (link_at-set_other m.links s x now apart)

pub open_same : (m : Merger) (s : ℕ) (now : Link) → s < length m.links → open_of (with_link m s now) s ≡ now.is_open
open_same m s now within = ap (λ (l : Link). l.is_open) (link_at-set_same m.links s now within)

pub keys_same : (m : Merger) (s : ℕ) (now : Link) → s < length m.links →
    keys_of (with_link m s now) s ≡ map (key_of s) now.held
keys_same m s now within = ap (λ (l : Link). map (key_of s) l.held) (link_at-set_same m.links s now within)

pub open_kept : (m : Merger) (s : ℕ) (now : Link) → s < length m.links → now.is_open ≡ (link_of m s).is_open →
    open_of (with_link m s now) ≡ open_of m
open_kept m s now within same = λ i x. each x i
  where
    each : (x : ℕ) → open_of (with_link m s now) x ≡ open_of m x
    each x = ⊎_elim (λ (e : x ≡ s). ap (open_of (with_link m s now)) e ∙
        (open_same m s now within ∙ (same ∙ ap (open_of m) (sym e)))) (λ apart. open_other m s x now apart)
        (same_or_not x s)

pub keys_kept : (m : Merger) (s : ℕ) (now : Link) → s < length m.links → now.held ≡ (link_of m s).held →
    keys_of (with_link m s now) ≡ keys_of m
keys_kept m s now within same = λ i x. each x i
  where
    each : (x : ℕ) → keys_of (with_link m s now) x ≡ keys_of m x
    each x = ⊎_elim (λ (e : x ≡ s). ap (keys_of (with_link m s now)) e ∙
        (keys_same m s now within ∙ (ap (map (key_of s)) same ∙ ap (keys_of m) (sym e))))
        (λ apart. keys_other m s x now apart) (same_or_not x s)

pub opens_realtime : (b : Bool) (mark : Mark) → is_realtime_sign (sign_of mark) ≡ true → opens b mark ≡ b
opens_realtime b (Short x) e = refl
opens_realtime b (Rt x) e = refl
opens_realtime b Open e = absurd (true≢false (sym e))
opens_realtime b (Byte x) e = refl
opens_realtime b End e = absurd (true≢false (sym e))
opens_realtime b Abort e = absurd (true≢false (sym e))

-- a mark is held
pub realtimes_routed-takes : (routes : List (ℕ × ℕ)) (m : Merger) (p : Play) (t : Tag) (mark : Mark) →
    RealtimesFit routes p (open_of m) (keys_of m) → t.source < length m.links → (link_of m t.source).is_open ≡ false →
    IsLatest p t →
    RealtimesFit routes (takes p false t) (open_of (with_link m t.source
    (taken (link_of m t.source) false t.key.moment mark)))
    (keys_of (with_link m t.source (taken (link_of m t.source) false t.key.moment mark)))
realtimes_routed-takes routes m p t mark known within closed latest =
    let now : Link = taken (link_of m t.source) false t.key.moment mark in
    subst (λ (f : ℕ → Bool). RealtimesFit routes (takes p false t) f (keys_of (with_link m t.source now)))
    (sym (open_kept m t.source now within refl))
    (realtimes-takes routes p t (open_of m) (keys_of m) (keys_of (with_link m t.source now)) known closed
    (λ x apart. keys_other m t.source x now apart) latest)

-- the mark just offered passes
pub realtimes_routed-offered : (routes : List (ℕ × ℕ)) (m : Merger) (p : Play) (t : Tag) (mark : Mark) (moment : ℕ) →
    RealtimesFit routes p (open_of m) (keys_of m) → t.source < length m.links → sign_of mark ≡ t.sign →
    (opens (link_of m t.source).is_open mark ≡ true → p.held t.source ≡ []) →
    ((link_of m t.source).is_open ≡ true → opens (link_of m t.source).is_open mark ≡ false →
    (l : Line) × (t.line ≡ Some l) × (is_sysex l.event ≡ true)) →
    LineFits t → PlaceFits t → IsLatest p t → (is_realtime_sign t.sign ≡ true → p.held t.source ≢ [] →
    HasOwner (sharing routes) (stands p (open_of m) (keys_of m)) t.source Anyone) →
    RealtimesFit routes (offered_goes p t moment) (open_of
    (with_link m t.source (after_pass (link_of m t.source) mark)))
    (keys_of (with_link m t.source (after_pass (link_of m t.source) mark)))
realtimes_routed-offered routes m p t mark moment known within sign opening ending fits place latest owner =
    let now : Link = after_pass (link_of m t.source) mark in
    let is : open_of (with_link m t.source now) t.source ≡ opens (link_of m t.source).is_open mark = open_same m
    t.source now within in
    subst (λ (f : ℕ → List Key). RealtimesFit routes (offered_goes p t moment) (open_of (with_link m t.source now)) f)
    (sym (keys_kept m t.source now within refl))
    (realtimes-offered routes p t moment (open_of m) (open_of (with_link m t.source now)) (keys_of m) known
    (λ x apart. open_other m t.source x now apart)
    (λ e. opening (sym is ∙ e)) (λ was e. ending was (sym is ∙ e)) fits place latest
    (λ rt. is ∙ opens_realtime (link_of m t.source).is_open mark (ap is_realtime_sign sign ∙ rt)) owner)

-- a first held mark passes
pub realtimes_routed-head : (routes : List (ℕ × ℕ)) (m : Merger) (p : Play) (t : Tag) (rest : List Tag) (h : Held)
    (hs : List Held) (moment : ℕ) → RealtimesFit routes p (open_of m) (keys_of m) →
    p.held t.source ≡ t ∷ rest → (link_of m t.source).held ≡ h ∷ hs → is_realtime_sign t.sign ≡ false → LineFits t →
    PlaceFits t →
    ((k : ℕ) (z : Passing) → slice_get (newest p) k ≡ Some z → z.line.source ≡ t.source → z.line.place ≢ t.place) →
    ((link_of m t.source).is_open ≡ false → (o : ℕ) → (link_of m o).is_open ≡ true → sharing routes o t.source ≡ true →
    ⊥) →
    RealtimesFit routes (head_goes p t moment) (open_of (with_link m t.source (after_head (link_of m t.source) h.mark)))
    (keys_of (with_link m t.source (after_head (link_of m t.source) h.mark)))
realtimes_routed-head routes m p t rest h hs moment known first is calm fits place apart may =
    let now : Link = after_head (link_of m t.source) h.mark in
    realtimes-head routes p t rest moment (open_of m) (open_of (with_link m t.source now)) (keys_of m)
    (keys_of (with_link m t.source now)) known first (λ none. no_cons (sym (ap (map (key_of t.source)) is) ∙ none))
    (λ x other. (keys_other m t.source x now other, open_other m t.source x now other)) calm fits place apart may
  where
    no_cons : map (key_of t.source) (h ∷ hs) ≡ [] → ⊥
    no_cons e = cc

-- a mark is held, since an owner is there; its key is the greatest
pub unstalled_routed-takes : (routes : List (ℕ × ℕ)) (m : Merger) (p : Play) (t : Tag) (mark : Mark)
    (begin_of : ℕ → Key) (K : Key) → UnstalledOrder routes p (open_of m) (keys_of m) begin_of K →
    t.source < length m.links →
    (link_of m t.source).is_open ≡ false → ((o : ℕ) × ((link_of m o).is_open ≡ true) × (keys_of m o ≡ []) ×
    (sharing routes o t.source ≡ true)) → t.key ≡ K → t.key.link ≡ t.source →
    UnstalledOrder routes (takes p false t) (open_of (with_link m t.source
    (taken (link_of m t.source) false t.key.moment mark)))
    (keys_of (with_link m t.source (taken (link_of m t.source) false t.key.moment mark))) begin_of K
unstalled_routed-takes routes m p t mark begin_of K known within closed owner at link =
    let now : Link = taken (link_of m t.source) false t.key.moment mark in
    let same : key_of t.source (record { arrival = t.key.moment; mark = mark }) ≡ K =
    (λ i. record { moment = t.key.moment; link = sym link i }) ∙ at in
    subst (λ (f : ℕ → Bool). UnstalledOrder routes (takes p false t) f (keys_of (with_link m t.source now)) begin_of K)
    (sym (open_kept m t.source now within refl))
    (unstalled-takes routes p t (open_of m) (keys_of m) (keys_of (with_link m t.source now)) begin_of K known closed
    owner
    (keys_same m t.source now within ∙ (map-append (key_of t.source) (link_of m t.source).held
    ((record { arrival = t.key.moment; mark = mark }) ∷ []) ∙ ap (λ (k : Key). keys_of m t.source ++ k ∷ []) same))
    (λ x apart. keys_other m t.source x now apart))

-- the mark just offered passes; its key is the greatest
pub unstalled_routed-offered : (routes : List (ℕ × ℕ)) (m : Merger) (p : Play) (t : Tag) (mark : Mark)
    (begin_of begin_then : ℕ → Key) (K : Key) → UnstalledOrder routes p (open_of m) (keys_of m) begin_of K →
    t.source < length m.links →
    t.key ≡ K → LineFits t → OwnFits t → ((x : ℕ) → x ≢ t.source → begin_then x ≡ begin_of x) →
    (opens (link_of m t.source).is_open mark ≡ true → (keys_of m t.source ≡ []) ×
    ((((link_of m t.source).is_open ≡ true) × (begin_then t.source ≡ begin_of t.source)) ⊎
    (begin_then t.source ≡ K))) →
    ((link_of m t.source).is_open ≡ true → opens (link_of m t.source).is_open mark ≡ false →
    (l : Line) × (t.line ≡ Some l) × (is_sysex l.event ≡ true) × (l.begin ≡ begin_of t.source)) →
    ((link_of m t.source).is_open ≡ true → opens (link_of m t.source).is_open mark ≡ true →
    begin_then t.source ≡ begin_of t.source) →
    UnstalledOrder routes (offered_goes p t (arrival_of K))
    (open_of (with_link m t.source (after_pass (link_of m t.source) mark)))
    (keys_of (with_link m t.source (after_pass (link_of m t.source) mark))) begin_then K
unstalled_routed-offered routes m p t mark begin_of begin_then K known within at fits own others opening ending same =
    let now : Link = after_pass (link_of m t.source) mark in
    let is : open_of (with_link m t.source now) t.source ≡ opens (link_of m t.source).is_open mark = open_same m
    t.source now within in
    subst (λ (f : ℕ → List Key). UnstalledOrder routes (offered_goes p t (arrival_of K))
    (open_of (with_link m t.source now)) f begin_then K) (sym (keys_kept m t.source now within refl))
    (unstalled-offered routes p t (open_of m) (open_of (with_link m t.source now)) (keys_of m) begin_of begin_then K
    known at fits own
    (λ x apart. (open_other m t.source x now apart, others x apart)) (λ e. opening (sym is ∙ e))
    (λ was e. ending was (sym is ∙ e)) (λ was e. same was (sym is ∙ e)))

-- a first held mark passes
pub unstalled_routed-head : (routes : List (ℕ × ℕ)) (m : Merger) (p : Play) (t : Tag) (h : Held) (hs : List Held)
    (begin_of begin_then : ℕ → Key) (K : Key) → UnstalledOrder routes p (open_of m) (keys_of m) begin_of K →
    t.source < length m.links →
    (link_of m t.source).held ≡ h ∷ hs → h.arrival ≡ t.key.moment → t.key.link ≡ t.source →
    ((x : ℕ) → x ≢ t.source → begin_then x ≡ begin_of x) →
    (opens (link_of m t.source).is_open h.mark ≡ true → (((link_of m t.source).is_open ≡ true) ×
    (begin_then t.source ≡ begin_of t.source)) ⊎ (begin_then t.source ≡ t.key)) →
    is_realtime_sign t.sign ≡ false → LineFits t → PlaceFits t → OwnFits t →
    ((link_of m t.source).is_open ≡ false → (o : ℕ) → (link_of m o).is_open ≡ true → sharing routes o t.source ≡ true →
    ⊥) →
    UnstalledOrder routes (head_goes p t (arrival_of K))
    (open_of (with_link m t.source (after_head (link_of m t.source) h.mark)))
    (keys_of (with_link m t.source (after_head (link_of m t.source) h.mark))) begin_then K
unstalled_routed-head routes m p t h hs begin_of begin_then K known within is came link others opening calm fits place
    own may =
    let now : Link = after_head (link_of m t.source) h.mark in
    let same : key_of t.source h ≡ t.key = λ i. record { moment = came i; link = sym link i } in
    unstalled-head routes p t (map (key_of t.source) hs) (open_of m) (open_of (with_link m t.source now)) (keys_of m)
    (keys_of (with_link m t.source now)) begin_of begin_then K known
    (ap (map (key_of t.source)) is ∙ ap (λ (k : Key). k ∷ map (key_of t.source) hs) same)
    (keys_same m t.source now within ∙ ap (λ gs. map (key_of t.source) (drop 1 gs)) is) link
    (λ x apart. (keys_other m t.source x now apart, open_other m t.source x now apart, others x apart))
    (λ e. opening (sym (open_same m t.source now within) ∙ e)) calm fits place own may

-- the offered mark is to pass
pub realtimes_routed-accepts : (routes : List (ℕ × ℕ)) (m : Merger) (p : Play) (t : Tag) (mark : Mark) →
    RealtimesFit routes p (open_of m) (keys_of m) → t.source < length m.links →
    RealtimesFit routes (takes p true t) (open_of (with_link m t.source
    (taken (link_of m t.source) true t.key.moment mark)))
    (keys_of (with_link m t.source (taken (link_of m t.source) true t.key.moment mark)))
realtimes_routed-accepts routes m p t mark known within =
    let now : Link = taken (link_of m t.source) true t.key.moment mark in
    subst (λ (f : ℕ → Bool). RealtimesFit routes (takes p true t) f (keys_of (with_link m t.source now)))
    (sym (open_kept m t.source now within refl))
    (subst (λ (f : ℕ → List Key). RealtimesFit routes (takes p true t) (open_of m) f)
    (sym (keys_kept m t.source now within refl)) (realtimes-accepts routes p t (open_of m) (keys_of m) known))

pub unstalled_routed-accepts : (routes : List (ℕ × ℕ)) (m : Merger) (p : Play) (t : Tag) (mark : Mark)
    (begin_of : ℕ → Key) (K : Key) → UnstalledOrder routes p (open_of m) (keys_of m) begin_of K →
    t.source < length m.links →
    UnstalledOrder routes (takes p true t) (open_of (with_link m t.source
    (taken (link_of m t.source) true t.key.moment mark)))
    (keys_of (with_link m t.source (taken (link_of m t.source) true t.key.moment mark))) begin_of K
unstalled_routed-accepts routes m p t mark begin_of K known within =
    let now : Link = taken (link_of m t.source) true t.key.moment mark in
    subst (λ (f : ℕ → Bool). UnstalledOrder routes (takes p true t) f (keys_of (with_link m t.source now)) begin_of K)
    (sym (open_kept m t.source now within refl))
    (subst (λ (f : ℕ → List Key). UnstalledOrder routes (takes p true t) (open_of m) f begin_of K)
    (sym (keys_kept m t.source now within refl)) (unstalled-accepts routes p t (open_of m) (keys_of m) begin_of K
    known))
