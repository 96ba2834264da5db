-- Each call of the router keeps the third part of orderly, where no link was ever stalled.
use Rattle.std.proofs.Common.{◌≡◌, ◌≢◌, ◌⊎◌, ℕ, zero, suc, Bool, true, false, Option, Some, None, List, [], ◌∷◌, ◌++◌}
use Rattle.std.proofs.Common.{refl, ap, sym, subst, ◌∙◌, arith, append-nil}
use Rattle.std.specs.Prelude.{reverse, slice_get}
use Rattle.std.proofs.lemmas.Bool.Decides.{nat_tests}
use Rattle.mb_rig.specs.Merging.Lines.{Key, is_below, arrival_of, is_sysex, Line}
use Rattle.mb_rig.specs.Merging.Report.{Passing}
use Rattle.mb_rig.specs.Merging.Orderly.{is_held_back, is_orderly_unstalled}
use Rattle.mb_rig.specs.Merging.Run.{AtMost, Stood, Drained}
use Rattle.mb_rig.specs.Merging.Unbroken.{IsHeld, Unbroken}
use Rattle.mb_rig.specs.Merging.Tags.{Tag, is_realtime_sign}
use Rattle.mb_rig.specs.Merging.Playing.{Play, report_of, line_of, takes, offered_goes, head_goes}
use Rattle.mb_rig.specs.Merging.Order.{Bounded, LineFits, newest, sharing}
use Rattle.mb_rig.specs.Merging.Realtimes.{PlaceFits}
use Rattle.mb_rig.specs.Merging.Unstalled.{UnstalledOrder, IsOwn, OwnFits, stands_at}
use Rattle.mb_rig.proofs.Merging.Lateness.{true≢false, some_same, at_most_trans, with_line}
use Rattle.mb_rig.proofs.Merging.Unbroken as unbroken
use Rattle.mb_rig.proofs.Merging.InOrder.{all_of, implied, held_back, moment_at_most}
use Rattle.mb_rig.proofs.Merging.OrderSteps.{passing_of, report-push, newest-push, each_fits-push, bounded-line, both}

unstalled-line : (routes : List (ℕ × ℕ)) (moment : ℕ) (line : Option Line) (run : List Passing) →
    is_orderly_unstalled routes run ≡ true →
    ((l : Line) → line ≡ Some l → is_held_back routes l (reverse run) ≡ true) →
    is_orderly_unstalled routes (run ++ line_of moment line) ≡ true
unstalled-line routes moment None run known fits = ap (is_orderly_unstalled routes) (append-nil run) ∙ known
unstalled-line routes moment (Some l) run known fits =
    each_fits-push (λ p before. is_held_back routes p.line before) [] run (record { line = l; moment = moment })
    ∙ both _ _ known (ap (λ xs. is_held_back routes l xs) (append-nil (reverse run)) ∙ fits l refl)

own-line : (moment : ℕ) (line : Option Line) (before : List Passing) →
    ((i : ℕ) (z : Passing) → slice_get before i ≡ Some z → IsOwn z.line) → ((l : Line) → line ≡ Some l → IsOwn l) →
    (i : ℕ) (z : Passing) → slice_get (with_line (passing_of moment line) before) i ≡ Some z → IsOwn z.line
own-line moment None before known own i z at = known i z at
own-line moment (Some l) before known own zero z at = subst (λ (q : Passing). IsOwn q.line) (some_same at) (own l refl)
own-line moment (Some l) before known own (suc i) z at = known i z at

-- a line of the greatest key stands behind none of a greater
at_greatest : (routes : List (ℕ × ℕ)) (K : Key) (before : List Passing) (x : Line) → Bounded K before → x.key ≡ K →
    is_held_back routes x before ≡ true
at_greatest routes K before x bounded at =
    all_of _ before (λ i z here. implied (is_below x.key z.line.key) _
    (λ later. absurd (true≢false (sym later ∙ (ap (λ k. is_below k z.line.key) at ∙ bounded.keys i z here)))))

-- a step begins, at a key not below any before
pub unstalled-begins : (routes : List (ℕ × ℕ)) (p : Play) (is_open : ℕ → Bool) (held : ℕ → List Key)
    (present : ℕ → Option Key) (stalled : ℕ → Bool) (begin_of : ℕ → Key) (K k : Key) →
    UnstalledOrder routes p is_open held begin_of K →
    Drained (sharing routes) (record {
      is_open = is_open;
      held = held;
      present = present;
      stalled = stalled;
      greatest =
          K;
      report = newest p;
    }) → AtMost K k → UnstalledOrder routes p is_open held begin_of k
unstalled-begins routes p is_open held present stalled begin_of K k known drained later =
    let now = unbroken.begins (sharing routes) begin_of (record
    { is_open = is_open; held = held; present = present; stalled = stalled; greatest = K; report = newest p }) k
    (record { held = known.unbroken.held; begun = known.unbroken.begun; within = known.unbroken.within }) drained later
    in
    record {
      unbroken = record { held = now.held; begun = now.begun; within = now.within };
      bounded = record {
        keys = λ i z here. at_most_trans z.line.key K k (known.bounded.keys i z here) later;
        moments = λ i z here. let at = known.bounded.moments i z here in let more = moment_at_most K k later in omega
            (arith, at, more);
      };
      own = known.own;
      exact = known.exact;
    }

-- the offered tag is to pass: nothing else changes yet
pub unstalled-accepts : (routes : List (ℕ × ℕ)) (p : Play) (t : Tag) (is_open : ℕ → Bool) (held : ℕ → List Key)
    (begin_of : ℕ → Key) (K : Key) → UnstalledOrder routes p is_open held begin_of K →
    UnstalledOrder routes (takes p true t) is_open held begin_of K
unstalled-accepts routes p t is_open held begin_of K known = record {
  unbroken = record { held = known.unbroken.held; begun = known.unbroken.begun; within = known.unbroken.within };
  bounded = known.bounded;
  own = known.own;
  exact = known.exact;
}

-- it is held, since an owner is there
pub unstalled-takes : (routes : List (ℕ × ℕ)) (p : Play) (t : Tag) (is_open : ℕ → Bool) (held held_then : ℕ → List Key)
    (begin_of : ℕ → Key) (K : Key) → UnstalledOrder routes p is_open held begin_of K →
    is_open t.source ≡ false → ((o : ℕ) × (is_open o ≡ true) × (held o ≡ []) × (sharing routes o t.source ≡ true)) →
    held_then t.source ≡ held t.source ++ K ∷ [] →
    ((x : ℕ) → x ≢ t.source → held_then x ≡ held x) → UnstalledOrder routes (takes p false t) is_open held_then begin_of
    K
unstalled-takes routes p t is_open held held_then begin_of K known closed owner grown others =
    let now = unbroken.takes (sharing routes) begin_of (stands_at p is_open held K) held_then t.source known.unbroken
    closed owner grown others in
    record {
      unbroken = record { held = now.held; begun = now.begun; within = now.within };
      bounded = known.bounded;
      own
          = known.own;
      exact = known.exact;
    }

-- the tag just offered passes; its key is the greatest
pub unstalled-offered : (routes : List (ℕ × ℕ)) (p : Play) (t : Tag) (is_open is_open_then : ℕ → Bool)
    (held : ℕ → List Key) (begin_of begin_then : ℕ → Key) (K : Key) → UnstalledOrder routes p is_open held begin_of K →
    t.key ≡ K → LineFits t → OwnFits t → ((x : ℕ) → x ≢ t.source → (is_open_then x ≡ is_open x) ×
    (begin_then x ≡ begin_of x)) →
    (is_open_then t.source ≡ true → (held t.source ≡ []) ×
    (((is_open t.source ≡ true) × (begin_then t.source ≡ begin_of t.source)) ⊎ (begin_then t.source ≡ K))) →
    (is_open t.source ≡ true → is_open_then t.source ≡ false → (l : Line) × (t.line ≡ Some l) ×
    (is_sysex l.event ≡ true) × (l.begin ≡ begin_of t.source)) →
    (is_open t.source ≡ true → is_open_then t.source ≡ true → begin_then t.source ≡ begin_of t.source) →
    UnstalledOrder routes (offered_goes p t (arrival_of K)) is_open_then held begin_then K
unstalled-offered routes p t is_open is_open_then held begin_of begin_then K known at fits own others opens ends same =
    record {
      unbroken = subst (λ ps. Unbroken (sharing routes) begin_then
          (record {
            is_open = is_open_then;
            held = held;
            present = λ x. None;
            stalled = λ x. false;
            greatest = K;
            report =
                ps;
          }))
          (sym (newest-push p t (arrival_of K)))
          (unbroken.passes_offered (sharing routes) begin_of begin_then (stands_at p is_open held K) is_open_then
          (passing_of (arrival_of K) t.line) t.source known.unbroken others opens
          (λ was now. let l = ends was now in
          subst (unbroken.EndsBegun t.source (begin_of t.source) K) (sym (ap (passing_of (arrival_of K)) l.1))
          ((fits l.0 l.1).0, l.2, (fits l.0 l.1).1 ∙ at, l.3))
          same);
      bounded = subst (Bounded K) (sym (newest-push p t (arrival_of K)))
          (bounded-line K (arrival_of K) t.line (newest p) known.bounded (omega arith)
          (λ l e. subst (λ k. AtMost k K) (sym ((fits l e).1 ∙ at)) (self K)));
      own = λ i z here. own-line (arrival_of K) t.line (newest p) known.own own i z
          (ap (λ ps. slice_get ps i) (sym (newest-push p t (arrival_of K))) ∙ here);
      exact = ap (is_orderly_unstalled routes) (report-push p.passed t (arrival_of K))
          ∙ unstalled-line routes (arrival_of K) t.line (report_of p.passed) known.exact
          (λ l e. at_greatest routes K (newest p) l known.bounded ((fits l e).1 ∙ at));
    }
  where
    self : (a : Key) → AtMost a a
    self a = grind (arith, nat_tests)

-- a first held tag passes
pub unstalled-head : (routes : List (ℕ × ℕ)) (p : Play) (t : Tag) (keys : List Key) (is_open is_open_then : ℕ → Bool)
    (held held_then : ℕ → List Key) (begin_of begin_then : ℕ → Key) (K : Key) →
    UnstalledOrder routes p is_open held begin_of K →
    held t.source ≡ t.key ∷ keys → held_then t.source ≡ keys → t.key.link ≡ t.source →
    ((x : ℕ) → x ≢ t.source → (held_then x ≡ held x) × (is_open_then x ≡ is_open x) × (begin_then x ≡ begin_of x)) →
    (is_open_then t.source ≡ true → ((is_open t.source ≡ true) × (begin_then t.source ≡ begin_of t.source)) ⊎
    (begin_then t.source ≡ t.key)) →
    is_realtime_sign t.sign ≡ false → LineFits t → PlaceFits t → OwnFits t →
    (is_open t.source ≡ false → (o : ℕ) → is_open o ≡ true → sharing routes o t.source ≡ true → ⊥) →
    UnstalledOrder routes (head_goes p t (arrival_of K)) is_open_then held_then begin_then K
unstalled-head routes p t keys is_open is_open_then held held_then begin_of begin_then K known first now link others
    opens calm fits place own may = record {
      unbroken = subst (λ ps. Unbroken (sharing routes) begin_then
          (record {
            is_open = is_open_then;
            held = held_then;
            present = λ x. None;
            stalled = λ x. false;
            greatest = K;
            report = ps;
          }))
          (sym (newest-push p t (arrival_of K)))
          (unbroken.passes_head (sharing routes) begin_of begin_then (stands_at p is_open held K) is_open_then held_then
          (λ x. false) (passing_of (arrival_of K) t.line) t.source t.key keys known.unbroken first now others opens
          may);
      bounded = subst (Bounded K) (sym (newest-push p t (arrival_of K)))
          (bounded-line K (arrival_of K) t.line (newest p) known.bounded (omega arith)
          (λ l e. subst (λ k. AtMost k K) (sym (fits l e).1) not_above));
      own = λ i z here. own-line (arrival_of K) t.line (newest p) known.own own i z
          (ap (λ ps. slice_get ps i) (sym (newest-push p t (arrival_of K))) ∙ here);
      exact = ap (is_orderly_unstalled routes) (report-push p.passed t (arrival_of K))
          ∙ unstalled-line routes (arrival_of K) t.line (report_of p.passed) known.exact
          (λ l e. held_back routes K (newest p) l known.bounded (subst (λ k. AtMost k K) (sym (fits l e).1) not_above)
          (λ z i here later. (place l e).1 ∙ calm)
          (λ c from to. subst (λ s. Stood (sharing routes) (newest p) s
          (λ y. (AtMost y.begin c × AtMost c y.key) × ((y.key.link ≡ y.source) × (y.begin.link ≡ y.source))))
          (sym (fits l e).0)
          (with_own c (unbroken.held_in_order (sharing routes) begin_of (stands_at p is_open held K) t.source t.key
          known.unbroken is_first may c (subst (λ k. AtMost k c) (fits l e).1 from) to)))
          (own l e).0);
    }
  where
    is_first : IsHeld (stands_at p is_open held K) t.source t.key
    is_first = (0, ap (λ ks. slice_get ks 0) first)

    not_above : AtMost t.key K
    not_above = known.unbroken.within t.source t.key is_first

    with_own : (c : Key) → Stood (sharing routes) (newest p) t.source (λ y. AtMost y.begin c × AtMost c y.key)
        → Stood (sharing routes) (newest p) t.source (λ y. (AtMost y.begin c × AtMost c y.key) ×
        ((y.key.link ≡ y.source) × (y.begin.link ≡ y.source)))
    with_own c s = (s.0, s.1, s.2, s.3, s.4, (s.5, known.own s.0 s.1 s.2))
