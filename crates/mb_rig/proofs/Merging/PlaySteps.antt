-- Each call of the router is a step of the tags: what is held and offered stays theirs, and none is lost.
use Rattle.std.proofs.Common.{◌≡◌, ◌≢◌, ◌⊎◌, inl, inr, ⊎_elim, ℕ, ◌<◌, Bool, true, false, Option, Some, None, List, []}
use Rattle.std.proofs.Common.{◌∷◌, ◌++◌, length, map, filter, drop, refl, ap, sym, subst, ◌∙◌, arith, append_assoc}
use Rattle.std.proofs.Common.{append-nil}
use Rattle.std.specs.Prelude.{not, ◌&&◌, ◌==◌, if◌then◌else◌, slice_set}
use Rattle.std.proofs.lemmas.Bool.Decides.{nat_tests}
use Rattle.std.proofs.lemmas.List.{map-append}
use Rattle.std.proofs.lemmas.List.Elements.{filter-append}
use Rattle.mb_message.specs.Signs.{sign_of}
use Rattle.mb_message.specs.declared.mark.Mark.{Mark}
use Rattle.mb_merge.specs.declared.source.Held.{Held}
use Rattle.mb_merge.specs.declared.router.Passed.{Passed}
use Rattle.mb_merge.specs.Links.{Link, Merger, link_at, link_of}
use Rattle.mb_merge.specs.Calls.{one}
use Rattle.mb_merge.specs.Passing.{after_head, after_pass, taken, offered_mark}
use Rattle.mb_merge.proofs.Flows.{link_at-set_same, link_at-set_other}
use Rattle.mb_rig.specs.Merging.Tags.{Tag}
use Rattle.mb_rig.specs.Merging.Playing.{PassedTag, Play, Plays, InTurn, AreHeld, IsHeldMark, takes, offered_goes}
use Rattle.mb_rig.specs.Merging.Playing.{head_goes, with_held, begins_play, tag_in_turn, tag_at_once, tags_passed}
use Rattle.mb_rig.specs.Merging.Tags.{is_realtime_sign}
use Rattle.mb_rig.proofs.Merging.Lateness.{true≢false, same_or_not}

-- lists of what is held

AreHeld-push : (source : ℕ) (hs : List Held) (ts : List Tag) (h : Held) (t : Tag) → AreHeld source hs ts →
    IsHeldMark h t → t.source ≡ source → t.key.link ≡ source →
    AreHeld source (hs ++ h ∷ []) (ts ++ t ∷ [])
AreHeld-push source [] [] h t are is own key = ((is, own, key), tt)
AreHeld-push source [] (u ∷ us) h t are is own key = absurd are
AreHeld-push source (g ∷ gs) [] h t are is own key = absurd are
AreHeld-push source (g ∷ gs) (u ∷ us) h t are is own key = (are.0, AreHeld-push source gs us h t are.1 is own key)

AreHeld-drop : (source : ℕ) (hs : List Held) (ts : List Tag) → AreHeld source hs ts →
    AreHeld source (drop 1 hs) (drop 1 ts)
AreHeld-drop source [] [] are = tt
AreHeld-drop source [] (u ∷ us) are = absurd are
AreHeld-drop source (g ∷ gs) [] are = absurd are
AreHeld-drop source (g ∷ gs) (u ∷ us) are = are.1

pub with_held-same : (held : ℕ → List Tag) (source : ℕ) (ts : List Tag) → with_held held source ts source ≡ ts
with_held-same held source ts = grind (arith, nat_tests)

pub with_held-other : (held : ℕ → List Tag) (source other : ℕ) (ts : List Tag) → other ≢ source →
    with_held held source ts other ≡ held other
with_held-other held source other ts apart = grind (arith, nat_tests, apart)

-- a source's link and its tags change together, no other's does
plays-set : (links : List Link) (link : Link) (held : ℕ → List Tag) (ts : List Tag) (source : ℕ) →
    source < length links → ((x : ℕ) → AreHeld x (link_at links x).held (held x)) →
    AreHeld source link.held ts → (x : ℕ) → AreHeld x (link_at (slice_set links source link) x).held
    (with_held held source ts x)
plays-set links link held ts source within are now x = ⊎_elim
    (λ (e : x ≡ source). subst (λ y. AreHeld y (link_at (slice_set links source link) y).held
    (with_held held source ts y)) (sym e)
    (subst (λ (l : Link). AreHeld source l.held (with_held held source ts source))
    (sym (link_at-set_same links source link within))
    (subst (λ us. AreHeld source link.held us) (sym (with_held-same held source ts)) now)))
    (λ (apart : x ≢ source). subst (λ (l : Link). AreHeld x l.held (with_held held source ts x))
    (sym (link_at-set_other links source x link apart))
    (subst (λ us. AreHeld x (link_at links x).held us) (sym (with_held-other held source x ts apart)) (are x)))
    (same_or_not x source)

-- the same tags
plays-keep : (links : List Link) (link : Link) (held : ℕ → List Tag) (source : ℕ) → source < length links →
    ((x : ℕ) → AreHeld x (link_at links x).held (held x)) →
    link.held ≡ (link_at links source).held → (x : ℕ) → AreHeld x (link_at (slice_set links source link) x).held
    (held x)
plays-keep links link held source within are same x = ⊎_elim
    (λ (e : x ≡ source). subst (λ y. AreHeld y (link_at (slice_set links source link) y).held (held y)) (sym e)
    (subst (λ (l : Link). AreHeld source l.held (held source)) (sym (link_at-set_same links source link within))
    (subst (λ hs. AreHeld source hs (held source)) (sym same) (are source))))
    (λ (apart : x ≢ source). subst (λ (l : Link). AreHeld x l.held (held x))
    (sym (link_at-set_other links source x link apart)) (are x))
    (same_or_not x source)

-- a mark is taken
pub plays-takes : (m : Merger) (p : Play) (t : Tag) (mark : Mark) (passes : Bool) → Plays m p →
    t.source < length m.links → sign_of mark ≡ t.sign → t.key.link ≡ t.source →
    Plays (record {
      links = slice_set m.links t.source (taken (link_of m t.source) passes t.key.moment mark);
      outs = m.outs;
      offered = offered_mark passes t.source t.key.moment mark;
      draining = true;
    }) (takes p passes t)
plays-takes m p t mark true plays within sign key = record {
  held = plays-keep m.links (taken (link_of m t.source) true t.key.moment mark) p.held t.source within plays.held refl;
  offered = (refl, refl, sign, key);
}
plays-takes m p t mark false plays within sign key = record {
  held = plays-set m.links (taken (link_of m t.source) false t.key.moment mark) p.held (p.held t.source ++ t ∷ [])
      t.source within plays.held
      (AreHeld-push t.source (link_of m t.source).held (p.held t.source)
      (record { arrival = t.key.moment; mark = mark }) t (plays.held t.source) (refl, sign) refl key);
  offered = tt;
}

-- the mark just offered passes
pub plays-offered : (m : Merger) (p : Play) (q : Passed) (t : Tag) (moment : ℕ) → Plays m p →
    q.source < length m.links →
    Plays (record m { links = slice_set m.links q.source (after_pass (link_of m q.source) q.mark); offered = None })
    (offered_goes p t moment)
plays-offered m p q t moment plays within = record {
  held = plays-keep m.links (after_pass (link_of m q.source) q.mark) p.held q.source within plays.held refl;
  offered = tt;
}

-- a first held mark passes
pub plays-head : (m : Merger) (p : Play) (h : Held) (t : Tag) (moment : ℕ) → Plays m p → t.source < length m.links →
    Plays (record m { links = slice_set m.links t.source (after_head (link_of m t.source) h.mark) })
    (head_goes p t moment)
plays-head m p h t moment plays within = record {
  held = plays-set m.links (after_head (link_of m t.source) h.mark) p.held (drop 1 (p.held t.source)) t.source within
      plays.held
      (AreHeld-drop t.source (link_of m t.source).held (p.held t.source) (plays.held t.source));
  offered = plays.offered;
}

-- the first tag is that of the first held mark
pub first_tag : (m : Merger) (p : Play) (source : ℕ) (h : Held) (hs : List Held) → Plays m p →
    (link_of m source).held ≡ h ∷ hs →
    (t : Tag) × (p.held source ≡ t ∷ drop 1 (p.held source)) × IsHeldMark h t × (t.source ≡ source) ×
    (t.key.link ≡ source)
first_tag m p source h hs plays e = by_lists (link_of m source).held (p.held source) e (plays.held source)
  where
    same_head : (a b : Held) (ys zs : List Held) → a ∷ ys ≡ b ∷ zs → a ≡ b
    same_head a b ys zs e = cc

    by_lists : (gs : List Held) (ts : List Tag) → gs ≡ h ∷ hs → AreHeld source gs ts →
        (t : Tag) × (ts ≡ t ∷ drop 1 ts) × IsHeldMark h t × (t.source ≡ source) × (t.key.link ≡ source)
    by_lists [] ts e are = absurd (none e)
      where
        none : [] ≡ h ∷ hs → ⊥
        none e = cc
    by_lists (g ∷ gs) [] e are = absurd are
    by_lists (g ∷ gs) (t ∷ ts) e are = (
      t,
      refl,
      subst (λ (x : Held). IsHeldMark x t) (same_head g h gs hs e) are.0.0,
      are.0.1,
      are.0.2,
    )

-- none twice, none lost

abbrev kept : {A : Type 0} → Bool → A → List A
kept c x = if c then x ∷ [] else []

filter-one : (f : Tag → Bool) (t : Tag) → filter f (t ∷ []) ≡ kept (f t) t
filter-one f t = by_test (f t) refl
  where
    by_test : (c : Bool) → f t ≡ c → filter f (t ∷ []) ≡ kept c t
    by_test true e = grind (arith, e)
    by_test false e = grind (arith, e)

filter-push : (f : Tag → Bool) (ts : List Tag) (t : Tag) → filter f (ts ++ t ∷ []) ≡ filter f ts ++ kept (f t) t
filter-push f ts t = filter-append f ts (t ∷ []) ∙ ap (λ us. filter f ts ++ us) (filter-one f t)

pub passed-push : (p : Play) (t : Tag) (moment : ℕ) → map (λ (x : PassedTag). x.tag)
    (p.passed ++ (record { tag = t; moment = moment }) ∷ []) ≡ tags_passed p ++ t ∷ []
passed-push p t moment = map-append (λ (x : PassedTag). x.tag) p.passed ((record { tag = t; moment = moment }) ∷ [])

-- whether a tag keeps its turn for a source
turn_test : (source : ℕ) (t : Tag) (rt : Bool) → is_realtime_sign t.sign ≡ rt → t.source ≡ source →
    tag_in_turn source t ≡ not rt
turn_test source t rt e own = ap (λ c. c && not (is_realtime_sign t.sign)) (same t.source source own) ∙ ap not e
  where
    same : (a b : ℕ) → a ≡ b → (a == b) ≡ true
    same a b e = grind (arith, nat_tests)

turn_other : (source : ℕ) (t : Tag) → t.source ≢ source → tag_in_turn source t ≡ false
turn_other source t apart = ap (λ c. c && not (is_realtime_sign t.sign)) (differ t.source source apart)
  where
    differ : (a b : ℕ) → a ≢ b → (a == b) ≡ false
    differ a b e = grind (arith, nat_tests, e)

-- the tag just offered passes
pub in_turn-offered : (p : Play) (t : Tag) (moment : ℕ) → InTurn p → p.offered ≡ Some t →
    InTurn (offered_goes p t moment)
in_turn-offered p t moment known is = record {
  turns = λ source. known.turns source ∙ moves (tag_in_turn source) (p.held source);
  realtimes = λ source. known.realtimes source ∙ (ap (λ (o : Option Tag). filter (tag_at_once source) (tags_passed p) ++
      filter (tag_at_once source) (one o)) is
      ∙ (sym (filter-append (tag_at_once source) (tags_passed p) (t ∷ []))
      ∙ (ap (filter (tag_at_once source)) (sym (passed-push p t moment))
      ∙ sym (append-nil (filter (tag_at_once source)
      (map (λ (x : PassedTag). x.tag) (p.passed ++ (record { tag = t; moment = moment }) ∷ [])))))));
}
  where
    moves : (f : Tag → Bool) (held : List Tag) → filter f (tags_passed p) ++ (filter f (one p.offered) ++ held)
        ≡ filter f (map (λ (x : PassedTag). x.tag) (p.passed ++ (record { tag = t; moment = moment }) ∷ [])) ++
        ([] ++ held)
    moves f held =
        ap (λ (o : Option Tag). filter f (tags_passed p) ++ (filter f (one o) ++ held)) is
        ∙ (sym (append_assoc (filter f (tags_passed p)) (filter f (t ∷ [])) held)
        ∙ ap (λ us. us ++ held) (sym (filter-append f (tags_passed p) (t ∷ []))
        ∙ ap (filter f) (sym (passed-push p t moment))))

-- a tag is taken; one that keeps its turn and passes at once finds nothing held of its source
pub in_turn-takes : (p : Play) (t : Tag) (passes : Bool) → InTurn p → p.offered ≡ None →
    (passes ≡ true → is_realtime_sign t.sign ≡ false → p.held t.source ≡ []) →
    (passes ≡ false → is_realtime_sign t.sign ≡ false) → InTurn (takes p passes t)
in_turn-takes p t true known idle free calm = record {
  turns = λ source. filter-push (tag_in_turn source) p.taken t
      ∙ (ap (λ us. us ++ kept (tag_in_turn source t) t) (known.turns source
      ∙ ap (λ (o : Option Tag). filter (tag_in_turn source) (tags_passed p) ++
      (filter (tag_in_turn source) (one o) ++ p.held source)) idle)
      ∙ (append_assoc (filter (tag_in_turn source) (tags_passed p)) (p.held source) (kept (tag_in_turn source t) t)
      ∙ ap (λ us. filter (tag_in_turn source) (tags_passed p) ++ us)
      (turned source (same_or_not t.source source) (is_realtime_sign t.sign) refl
      ∙ ap (λ us. us ++ p.held source) (sym (filter-one (tag_in_turn source) t)))));
  realtimes = λ source. filter-push (tag_at_once source) p.taken t
      ∙ (ap (λ us. us ++ kept (tag_at_once source t) t) (known.realtimes source
      ∙ (ap (λ (o : Option Tag). filter (tag_at_once source) (tags_passed p) ++ filter (tag_at_once source) (one o))
      idle ∙ append-nil (filter (tag_at_once source) (tags_passed p))))
      ∙ ap (λ us. filter (tag_at_once source) (tags_passed p) ++ us) (sym (filter-one (tag_at_once source) t)));
}
  where
    none_kept : (source : ℕ) (c : Bool) → tag_in_turn source t ≡ c → c ≡ false →
        p.held source ++ kept (tag_in_turn source t) t ≡ kept (tag_in_turn source t) t ++ p.held source
    none_kept source true e f = absurd (true≢false f)
    none_kept source false e f = ap (λ c. p.held source ++ kept c t) e ∙
        (append-nil (p.held source) ∙ ap (λ c. kept c t ++ p.held source) (sym e))

    turned : (source : ℕ) → (t.source ≡ source) ⊎ (t.source ≢ source) → (rt : Bool) → is_realtime_sign t.sign ≡ rt →
        p.held source ++ kept (tag_in_turn source t) t ≡ kept (tag_in_turn source t) t ++ p.held source
    turned source (inl own) true e = none_kept source (tag_in_turn source t) refl (turn_test source t true e own)
    turned source (inl own) false e =
        let none : p.held source ≡ [] = ap p.held (sym own) ∙ free refl e in
        ap (λ hs. hs ++ kept (tag_in_turn source t) t) none
        ∙ (sym (append-nil (kept (tag_in_turn source t) t)) ∙ ap (λ hs. kept (tag_in_turn source t) t ++ hs)
        (sym none))
    turned source (inr apart) rt e = none_kept source (tag_in_turn source t) refl (turn_other source t apart)
in_turn-takes p t false known idle free calm = record {
  turns = λ source. filter-push (tag_in_turn source) p.taken t
      ∙ (ap (λ us. us ++ kept (tag_in_turn source t) t) (known.turns source
      ∙ ap (λ (o : Option Tag). filter (tag_in_turn source) (tags_passed p) ++
      (filter (tag_in_turn source) (one o) ++ p.held source)) idle)
      ∙ (append_assoc (filter (tag_in_turn source) (tags_passed p)) (p.held source) (kept (tag_in_turn source t) t)
      ∙ ap (λ us. filter (tag_in_turn source) (tags_passed p) ++ us) (grown source (same_or_not source t.source))));
  realtimes = λ source. filter-push (tag_at_once source) p.taken t
      ∙ (ap (λ us. us ++ kept (tag_at_once source t) t) (known.realtimes source
      ∙ (ap (λ (o : Option Tag). filter (tag_at_once source) (tags_passed p) ++ filter (tag_at_once source) (one o))
      idle))
      ∙ (ap (λ c. (filter (tag_at_once source) (tags_passed p) ++ []) ++ kept c t) (at_once_none source)
      ∙ append-nil (filter (tag_at_once source) (tags_passed p) ++ [])));
}
  where
    and_false : (c : Bool) → (c && false) ≡ false
    and_false true = refl
    and_false false = refl

    at_once_none : (source : ℕ) → tag_at_once source t ≡ false
    at_once_none source = ap (λ c. (t.source == source) && c) (calm refl) ∙ and_false (t.source == source)

    grown : (source : ℕ) → (source ≡ t.source) ⊎ (source ≢ t.source) → p.held source ++ kept (tag_in_turn source t)
        t ≡ with_held p.held t.source (p.held t.source ++ t ∷ []) source
    grown source (inl own) =
        ap (λ c. p.held source ++ kept c t) (turn_test source t false (calm refl) (sym own))
        ∙ (ap (λ y. p.held y ++ t ∷ []) own ∙ (sym (with_held-same p.held t.source (p.held t.source ++ t ∷ []))
        ∙ ap (with_held p.held t.source (p.held t.source ++ t ∷ [])) (sym own)))
    grown source (inr apart) =
        ap (λ c. p.held source ++ kept c t) (turn_other source t (λ e. apart (sym e)))
        ∙ (append-nil (p.held source) ∙ sym (with_held-other p.held t.source source (p.held t.source ++ t ∷ []) apart))

-- a first held tag passes
pub in_turn-head : (p : Play) (t : Tag) (rest : List Tag) (moment : ℕ) → InTurn p → p.offered ≡ None →
    p.held t.source ≡ t ∷ rest → is_realtime_sign t.sign ≡ false → InTurn (head_goes p t moment)
in_turn-head p t rest moment known idle first calm = record {
  turns = λ source. known.turns source ∙ (ap (λ (o : Option Tag). filter (tag_in_turn source) (tags_passed p) ++
      (filter (tag_in_turn source) (one o) ++ p.held source)) idle
      ∙ (moved source (same_or_not source t.source) ∙ ap
      (λ (o : Option Tag). filter (tag_in_turn source)
      (map (λ (x : PassedTag). x.tag) (p.passed ++ (record { tag = t; moment = moment }) ∷ [])) ++
      (filter (tag_in_turn source) (one o) ++ with_held p.held t.source (drop 1 (p.held t.source)) source))
      (sym idle)));
  realtimes = λ source. known.realtimes source ∙ ap (λ us. us ++ filter (tag_at_once source) (one p.offered))
      (sym (ap (filter (tag_at_once source)) (passed-push p t moment) ∙
      (filter-push (tag_at_once source) (tags_passed p) t
      ∙ (ap (λ c. filter (tag_at_once source) (tags_passed p) ++ kept c t) (at_once_none source)
      ∙ append-nil (filter (tag_at_once source) (tags_passed p))))));
}
  where
    and_false : (c : Bool) → (c && false) ≡ false
    and_false true = refl
    and_false false = refl

    at_once_none : (source : ℕ) → tag_at_once source t ≡ false
    at_once_none source = ap (λ c. (t.source == source) && c) calm ∙ and_false (t.source == source)

    now_passed : (source : ℕ) → filter (tag_in_turn source)
        (map (λ (x : PassedTag). x.tag) (p.passed ++ (record { tag = t; moment = moment }) ∷ [])) ≡ filter
        (tag_in_turn source) (tags_passed p) ++ kept (tag_in_turn source t) t
    now_passed source = ap (filter (tag_in_turn source)) (passed-push p t moment)
        ∙ filter-push (tag_in_turn source) (tags_passed p) t

    moved : (source : ℕ) → (source ≡ t.source) ⊎ (source ≢ t.source) → filter (tag_in_turn source) (tags_passed p) ++
        ([] ++ p.held source)
        ≡ filter (tag_in_turn source) (map (λ (x : PassedTag). x.tag)
        (p.passed ++ (record { tag = t; moment = moment }) ∷ [])) ++
        ([] ++ with_held p.held t.source (drop 1 (p.held t.source)) source)
    moved source (inl own) =
        ap (λ hs. filter (tag_in_turn source) (tags_passed p) ++ hs) (ap p.held own ∙ first)
        ∙ (sym (append_assoc (filter (tag_in_turn source) (tags_passed p)) (t ∷ []) rest)
        ∙ (ap (λ c. (filter (tag_in_turn source) (tags_passed p) ++ kept c t) ++ rest)
        (sym (turn_test source t false calm (sym own)))
        ∙ (ap (λ us. us ++ rest) (sym (now_passed source))
        ∙ ap (λ hs. filter (tag_in_turn source) (map (λ (x : PassedTag). x.tag)
        (p.passed ++ (record { tag = t; moment = moment }) ∷ [])) ++ hs)
        (ap (drop 1) (sym first) ∙ (sym (with_held-same p.held t.source (drop 1 (p.held t.source)))
        ∙ ap (with_held p.held t.source (drop 1 (p.held t.source))) (sym own))))))
    moved source (inr apart) =
        ap (λ hs. filter (tag_in_turn source) (tags_passed p) ++ hs)
        (sym (with_held-other p.held t.source source (drop 1 (p.held t.source)) apart))
        ∙ ap (λ us. us ++ with_held p.held t.source (drop 1 (p.held t.source)) source)
        (sym (now_passed source ∙ (ap (λ c. filter (tag_in_turn source) (tags_passed p) ++ kept c t)
        (turn_other source t (λ e. apart (sym e))) ∙ append-nil (filter (tag_in_turn source) (tags_passed p)))))

pub in_turn-begins : InTurn begins_play
in_turn-begins = record { turns = λ source. refl; realtimes = λ source. refl }
