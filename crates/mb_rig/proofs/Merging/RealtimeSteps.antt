-- Each call of the router keeps the third part of merged.
use Rattle.std.proofs.Common.{◌≡◌, ◌≢◌, ⊎_elim, ℕ, ◌<◌, Bool, true, false, Option, Some, None, List, [], ◌∷◌, ◌++◌, map}
use Rattle.std.proofs.Common.{drop, take, refl, ap, sym, subst, ◌∙◌, arith, append-nil}
use Rattle.std.specs.Prelude.{not, ◌&&◌, ◌||◌, ◌==◌, nat_lt, reverse, slice_get, if◌then◌else◌}
use Rattle.std.proofs.lemmas.Bool.Decides.{nat_tests}
use Rattle.std.proofs.lemmas.List.{map-append}
use Rattle.mb_rig.specs.Merging.Lines.{Key, is_realtime, is_sysex, Line}
use Rattle.mb_rig.specs.Merging.Report.{Passing, share, may_hold}
use Rattle.mb_rig.specs.Merging.Merged.{overtakes, realtimes_fit, realtimes_merged}
use Rattle.mb_rig.specs.Merging.Run.{Run, Stood, Drained}
use Rattle.mb_rig.specs.Merging.Unbroken.{HasOwner, Overtaken}
use Rattle.mb_rig.specs.Merging.Tags.{Tag, is_realtime_sign}
use Rattle.mb_rig.specs.Merging.Playing.{Play, report_of, line_of, takes, offered_goes, head_goes}
use Rattle.mb_rig.specs.Merging.Order.{LineFits, newest, sharing}
use Rattle.mb_rig.specs.Merging.Realtimes.{RealtimesFit, PlaceFits, IsLatest, places_of, stands}
use Rattle.mb_rig.proofs.Merging.Lateness.{true≢false, none≢some, some_same, same_or_not, true_or_not, with_line}
use Rattle.mb_rig.proofs.Merging.Overtaken as over
use Rattle.mb_rig.proofs.Merging.Overtaken.{Any, Anyone}
use Rattle.mb_rig.proofs.Merging.FitsAt.{fits_at, fits_all}
use Rattle.mb_rig.proofs.Merging.InOrder.{any_of}
use Rattle.mb_rig.proofs.Merging.PlaySteps.{with_held-same, with_held-other}
use Rattle.mb_rig.proofs.Merging.OrderSteps.{passing_of, report-push, newest-push, each_fits-push, both}

-- a line more, which fits behind the others
realtimes-line : (routes : List (ℕ × ℕ)) (moment : ℕ) (line : Option Line) (run : List Passing) →
    realtimes_merged routes run ≡ true →
    ((l : Line) → line ≡ Some l → realtimes_fit routes l [] (reverse run) ≡ true) →
    realtimes_merged routes (run ++ line_of moment line) ≡ true
realtimes-line routes moment None run known fits = ap (realtimes_merged routes) (append-nil run) ∙ known
realtimes-line routes moment (Some l) run known fits =
    each_fits-push (λ p before. realtimes_fit routes p.line [] before) [] run (record { line = l; moment = moment })
    ∙ both _ _ known (ap (λ xs. realtimes_fit routes l [] xs) (append-nil (reverse run)) ∙ fits l refl)

less_true : (a b : ℕ) → a < b → nat_lt a b ≡ true
less_true a b e = grind (arith, nat_tests)

differs : (a b : ℕ) → a ≢ b → (a == b) ≡ false
differs a b e = grind (arith, nat_tests, e)

-- a line fits behind one of another source, of a lower place, or where it was held
fits_other : (routes : List (ℕ × ℕ)) (x : Line) (held : Bool) (p : Passing) → p.line.source ≢ x.source →
    fits_at routes x held p ≡ true
fits_other routes x held p apart =
    ap (λ (c : Bool). not c || (if is_realtime x.event then is_realtime p.line.event || nat_lt p.line.place x.place else
    not (is_realtime p.line.event) || (nat_lt p.line.place x.place || held))) (differs p.line.source x.source apart)

or_true : (a : Bool) → (a || true) ≡ true
or_true true = refl
or_true false = refl

fits_lower : (routes : List (ℕ × ℕ)) (x : Line) (held : Bool) (p : Passing) → p.line.place < x.place →
    fits_at routes x held p ≡ true
fits_lower routes x held p lower =
    ap (λ (c : Bool). not (p.line.source == x.source) ||
    (if is_realtime x.event then is_realtime p.line.event || c else not (is_realtime p.line.event) || (c || held)))
    (less_true p.line.place x.place lower)
    ∙ by_tests (p.line.source == x.source) (is_realtime x.event) (is_realtime p.line.event)
  where
    by_tests : (a b c : Bool) → (not a || (if b then c || true else not c || (true || held))) ≡ true
    by_tests false b c = refl
    by_tests true true true = refl
    by_tests true true false = refl
    by_tests true false true = refl
    by_tests true false false = refl

fits_calm : (routes : List (ℕ × ℕ)) (x : Line) (held : Bool) (p : Passing) → is_realtime x.event ≡ false →
    is_realtime p.line.event ≡ false → fits_at routes x held p ≡ true
fits_calm routes x held p calm also =
    ap (λ (b : Bool). not (p.line.source == x.source) ||
    (if b then is_realtime p.line.event || nat_lt p.line.place x.place else not (is_realtime p.line.event) ||
    (nat_lt p.line.place x.place || held))) calm
    ∙ (ap (λ (c : Bool). not (p.line.source == x.source) || (not c || (nat_lt p.line.place x.place || held))) also
    ∙ or_true (not (p.line.source == x.source)))

fits_held : (routes : List (ℕ × ℕ)) (x : Line) (held : Bool) (p : Passing) → is_realtime x.event ≡ false → held ≡ true →
    fits_at routes x held p ≡ true
fits_held routes x held p calm e =
    ap (λ (b : Bool). not (p.line.source == x.source) ||
    (if b then is_realtime p.line.event || nat_lt p.line.place x.place else not (is_realtime p.line.event) ||
    (nat_lt p.line.place x.place || held))) calm
    ∙ (ap (λ (c : Bool). not (p.line.source == x.source) ||
    (not (is_realtime p.line.event) || (nat_lt p.line.place x.place || c))) e
    ∙ (ap (λ (c : Bool). not (p.line.source == x.source) || (not (is_realtime p.line.event) || c))
    (or_true (nat_lt p.line.place x.place))
    ∙ (ap (λ (c : Bool). not (p.line.source == x.source) || c) (or_true (not (is_realtime p.line.event)))
    ∙ or_true (not (p.line.source == x.source)))))

-- a line above all of its source
fits_latest : (routes : List (ℕ × ℕ)) (x : Line) (before : List Passing) →
    ((k : ℕ) (z : Passing) → slice_get before k ≡ Some z → z.line.source ≡ x.source → z.line.place < x.place) →
    realtimes_fit routes x [] before ≡ true
fits_latest routes x before latest = fits_all routes x before [] (λ k z at. ⊎_elim
    (λ (e : z.line.source ≡ x.source). fits_lower routes x _ z (latest k z at e))
    (λ (apart : z.line.source ≢ x.source). fits_other routes x _ z apart)
    (same_or_not z.line.source x.source))

stood_overtakes : (routes : List (ℕ × ℕ)) (x : Line) (before : List Passing) →
    Stood (sharing routes) before x.source Any → (overtakes routes before x || overtakes routes [] x) ≡ true
stood_overtakes routes x before s =
    ap (λ (c : Bool). c || false) (any_of (λ (y : Passing). may_hold routes y.line x) before s.0 s.1 s.2
    (both (is_sysex s.1.line.event) (not (s.1.line.source == x.source) && share routes s.1.line.source x.source) s.3
    s.4))

-- a held line: behind each real-time line of its source that overtook it one had held it
fits_overtaken : (routes : List (ℕ × ℕ)) (x : Line) (before : List Passing) → is_realtime x.event ≡ false →
    ((k : ℕ) (z : Passing) → slice_get before k ≡ Some z → z.line.source ≡ x.source → is_realtime z.line.event ≡ true →
    z.line.place ≢ x.place) →
    ((k : ℕ) (z : Passing) → slice_get before k ≡ Some z → z.line.source ≡ x.source → is_realtime z.line.event ≡ true →
    x.place < z.line.place → Stood (sharing routes) (take k before) x.source Any) →
    realtimes_fit routes x [] before ≡ true
fits_overtaken routes x before calm apart held = fits_all routes x before [] (λ k z at. ⊎_elim
    (λ (e : z.line.source ≡ x.source). ⊎_elim
    (λ (rt : is_realtime z.line.event ≡ true). ⊎_elim
    (λ (lower : nat_lt z.line.place x.place ≡ true). fits_lower routes x _ z (is_less z.line.place x.place lower))
    (λ not_lower. fits_held routes x _ z calm (stood_overtakes routes x (take k before)
    (held k z at e rt (above z.line.place x.place not_lower (apart k z at e rt)))))
    (true_or_not (nat_lt z.line.place x.place)))
    (λ also. fits_calm routes x _ z calm also)
    (true_or_not (is_realtime z.line.event)))
    (λ (other : z.line.source ≢ x.source). fits_other routes x _ z other)
    (same_or_not z.line.source x.source))
  where
    is_less : (a b : ℕ) → nat_lt a b ≡ true → a < b
    is_less a b e = grind (arith, nat_tests)

    above : (a b : ℕ) → nat_lt a b ≡ false → a ≢ b → b < a
    above a b e apart = grind (arith, nat_tests, apart)

-- the offered tag is to pass: nothing else changes yet
pub realtimes-accepts : (routes : List (ℕ × ℕ)) (p : Play) (t : Tag) (is_open : ℕ → Bool) (held : ℕ → List Key) →
    RealtimesFit routes p is_open held → RealtimesFit routes (takes p true t) is_open held
realtimes-accepts routes p t is_open held known = record { overtaken = known.overtaken; merged = known.merged }

-- it is held
pub realtimes-takes : (routes : List (ℕ × ℕ)) (p : Play) (t : Tag) (is_open : ℕ → Bool)
    (held held_then : ℕ → List Key) → RealtimesFit routes p is_open held → is_open t.source ≡ false →
    ((x : ℕ) → x ≢ t.source → held_then x ≡ held x) → IsLatest p t → RealtimesFit routes (takes p false t) is_open
    held_then
realtimes-takes routes p t is_open held held_then known closed others latest = record {
  overtaken = over.takes (sharing routes) (places_of p) (places_of (takes p false t)) (stands p is_open held) held_then
      t.source t.place known.overtaken closed
      (λ x apart. (
        others x apart,
        ap (map (λ (u : Tag). u.place))
            (with_held-other p.held t.source x (p.held t.source ++ t ∷ []) apart),
      ))
      (ap (map (λ (u : Tag). u.place)) (with_held-same p.held t.source (p.held t.source ++ t ∷ []))
      ∙ map-append (λ (u : Tag). u.place) (p.held t.source) (t ∷ []))
      (λ k z at source less. let lower = latest k z at source in omega (arith, lower, less));
  merged = known.merged;
}

line-passing : (moment : ℕ) (line : Option Line) (z : Passing) → passing_of moment line ≡ Some z → line ≡ Some z.line
line-passing moment None z e = absurd (none≢some z e)
line-passing moment (Some l) z e = ap (λ (q : Passing). Some q.line) (some_same e)

-- the tag just offered passes
pub realtimes-offered : (routes : List (ℕ × ℕ)) (p : Play) (t : Tag) (moment : ℕ) (is_open is_open_then : ℕ → Bool)
    (held : ℕ → List Key) → RealtimesFit routes p is_open held →
    ((x : ℕ) → x ≢ t.source → is_open_then x ≡ is_open x) → (is_open_then t.source ≡ true → p.held t.source ≡ []) →
    (is_open t.source ≡ true → is_open_then t.source ≡ false → (l : Line) × (t.line ≡ Some l) ×
    (is_sysex l.event ≡ true)) →
    LineFits t → PlaceFits t → IsLatest p t → (is_realtime_sign t.sign ≡ true →
    is_open_then t.source ≡ is_open t.source) →
    (is_realtime_sign t.sign ≡ true → p.held t.source ≢ [] → HasOwner (sharing routes) (stands p is_open held) t.source
    Anyone) →
    RealtimesFit routes (offered_goes p t moment) is_open_then held
realtimes-offered routes p t moment is_open is_open_then held known others opening ending fits place latest same owner =
    record {
      overtaken = subst (λ ps. Overtaken (sharing routes) (places_of p)
          (record {
            is_open = is_open_then;
            held = held;
            present = λ x. None;
            stalled = λ x. false;
            greatest =
                (stands p is_open held).greatest;
            report = ps;
          }))
          (sym (newest-push p t moment))
          (over.passes_offered (sharing routes) (places_of p) (stands p is_open held) is_open_then
          (passing_of moment t.line) t.source known.overtaken others
          (λ e. ap (map (λ (u : Tag). u.place)) (opening e))
          (λ was now. let l = ending was now in (
            record { line = l.0; moment = moment },
            ap (passing_of moment) l.1,
            l.2,
            (fits l.0 l.1).0,
          ))
          (λ z e. (fits z.line (line-passing moment t.line z e)).0)
          (λ z e rt some. waits (sym (place z.line (line-passing moment t.line z e)).1 ∙ rt) some));
      merged = ap (realtimes_merged routes) (report-push p.passed t moment)
          ∙ realtimes-line routes moment t.line (report_of p.passed) known.merged
          (λ l e. fits_latest routes l (newest p) (λ k z at source. subst (λ n. z.line.place < n) (sym (place l e).0)
          (latest k z at (source ∙ (fits l e).0))));
    }
  where
    waits : is_realtime_sign t.sign ≡ true → places_of p t.source ≢ [] →
        HasOwner (sharing routes) (record (stands p is_open held)
        { is_open = is_open_then; report = with_line (passing_of moment t.line) (newest p) }) t.source Anyone
    waits rt some =
        let w = owner rt (λ none. some (ap (map (λ (u : Tag). u.place)) none)) in (
          same rt ∙ w.0,
          (
            w.1.0,
            others w.1.0 (λ e. true≢false (sym w.1.1 ∙ ap is_open e ∙ w.0))
                ∙ w.1.1,
            w.1.2,
            w.1.3,
            tt,
          ),
        )

-- a first held tag passes
pub realtimes-head : (routes : List (ℕ × ℕ)) (p : Play) (t : Tag) (rest : List Tag) (moment : ℕ)
    (is_open is_open_then : ℕ → Bool) (held held_then : ℕ → List Key) → RealtimesFit routes p is_open held →
    p.held t.source ≡ t ∷ rest → held t.source ≢ [] → ((x : ℕ) → x ≢ t.source →
    (held_then x ≡ held x) × (is_open_then x ≡ is_open x)) →
    is_realtime_sign t.sign ≡ false → LineFits t → PlaceFits t →
    ((k : ℕ) (z : Passing) → slice_get (newest p) k ≡ Some z → z.line.source ≡ t.source → z.line.place ≢ t.place) →
    (is_open t.source ≡ false → (o : ℕ) → is_open o ≡ true → sharing routes o t.source ≡ true → ⊥) →
    RealtimesFit routes (head_goes p t moment) is_open_then held_then
realtimes-head routes p t rest moment is_open is_open_then held held_then known first some others calm fits place apart
    may = record {
      overtaken = subst (λ ps. Overtaken (sharing routes) (places_of (head_goes p t moment))
          (record {
            is_open = is_open_then;
            held = held_then;
            present = λ x. None;
            stalled = λ x. false;
            greatest =
                (stands p is_open held).greatest;
            report = ps;
          }))
          (sym (newest-push p t moment))
          (over.passes_head (sharing routes) (places_of p) (places_of (head_goes p t moment)) (stands p is_open held)
          is_open_then held_then (λ x. false) (passing_of moment t.line) t.source t.place
          (map (λ (u : Tag). u.place) rest) known.overtaken
          (ap (map (λ (u : Tag). u.place)) first)
          (ap (map (λ (u : Tag). u.place)) (with_held-same p.held t.source (drop 1 (p.held t.source))
          ∙ ap (drop 1) first))
          some
          (λ x other. (
            (others x other).0,
            (others x other).1,
            ap (map (λ (u : Tag). u.place))
                (with_held-other p.held t.source x (drop 1 (p.held t.source)) other),
          ))
          (λ z e. (place z.line (line-passing moment t.line z e)).1 ∙ calm)
          may);
      merged = ap (realtimes_merged routes) (report-push p.passed t moment)
          ∙ realtimes-line routes moment t.line (report_of p.passed) known.merged
          (λ l e. fits_overtaken routes l (newest p) ((place l e).1 ∙ calm)
          (λ k z at source rt same. apart k z at (source ∙ (fits l e).0) (same ∙ (place l e).0))
          (λ k z at source rt less. subst (λ s. Stood (sharing routes) (take k (newest p)) s Any) (sym (fits l e).0)
          (over.held_fits (sharing routes) (places_of p) (stands p is_open held) t.source 0 t.place known.overtaken
          (ap (λ us. slice_get (map (λ (u : Tag). u.place) us) 0) first) may k z at (source ∙ (fits l e).0) rt
          (subst (λ n. n < z.line.place) (place l e).0 less))));
    }

-- what a drained router gives where a real-time mark is offered
pub owner-drained : (shares : ℕ → ℕ → Bool) (r : Run) (x : ℕ) → Drained shares r → r.held x ≢ [] →
    HasOwner shares r x Anyone
owner-drained shares r x drained some = let w = drained.waits x some in
    (w.0, (w.1.0, w.1.1, (drained.owners w.1.0 w.1.1).0, w.1.2, tt))
