-- What passes to an out may stand there mark after mark, and the out's owner is the open source that goes there.
use Rattle.std.proofs.Common.{◌≡◌, ◌≢◌, ◌⊎◌, inl, inr, ⊎_elim, ℕ, Bool, true, false, Option, Some, None, List, [], ◌∷◌}
use Rattle.std.proofs.Common.{◌++◌, filter, refl, ap, sym, subst, ◌∙◌, arith, append-nil}
use Rattle.std.specs.Prelude.{◌==◌, if◌then◌else◌}
use Rattle.std.proofs.lemmas.Bool.Decides.{nat_tests}
use Rattle.std.proofs.lemmas.List.Elements.{filter-append}
use Rattle.mb_message.specs.Signs.{Sign, ShortSign, RtSign, OpenSign, ByteSign, EndSign, AbortSign, suits_sign}
use Rattle.mb_rig.specs.Merging.Tags.{Tag}
use Rattle.mb_rig.specs.Merging.Heard.{MayFollow, Follows, owner_behind, end_owner, OutsKnown, MayGo, open_after}
use Rattle.mb_rig.specs.Merging.Heard.{opens_sign}
use Rattle.mb_rig.proofs.Merging.Lateness.{true≢false, none≢some, some_same, same_or_not}
use Rattle.mb_rig.proofs.Merging.SourceLines.{filter-cons}

follows-push : (o : Option ℕ) (ts : List Tag) (t : Tag) → Follows o ts → MayFollow (end_owner o ts) t.source t.sign →
    Follows o (ts ++ t ∷ [])
follows-push o [] t follows may = (may, tt)
follows-push o (u ∷ us) t follows may = (follows.0, follows-push (owner_behind o u.source u.sign) us t follows.1 may)

owner-push : (o : Option ℕ) (ts : List Tag) (t : Tag) → end_owner o (ts ++ t ∷ []) ≡ owner_behind (end_owner o ts)
    t.source t.sign
owner-push o [] t = refl
owner-push o (u ∷ us) t = owner-push (owner_behind o u.source u.sign) us t

abbrev to_out : (ℕ → ℕ → Bool) → ℕ → List Tag → List Tag
to_out goes o ts = filter (λ (t : Tag). goes o t.source) ts

out-push : (goes : ℕ → ℕ → Bool) (o : ℕ) (ts : List Tag) (t : Tag) → goes o t.source ≡ true →
    to_out goes o (ts ++ t ∷ []) ≡ to_out goes o ts ++ t ∷ []
out-push goes o ts t e = filter-append (λ (u : Tag). goes o u.source) ts (t ∷ [])
    ∙ ap (λ us. to_out goes o ts ++ us) (filter-cons (λ (u : Tag). goes o u.source) t [] true e)

out-same : (goes : ℕ → ℕ → Bool) (o : ℕ) (ts : List Tag) (t : Tag) → goes o t.source ≡ false →
    to_out goes o (ts ++ t ∷ []) ≡ to_out goes o ts
out-same goes o ts t e = filter-append (λ (u : Tag). goes o u.source) ts (t ∷ [])
    ∙ (ap (λ us. to_out goes o ts ++ us) (filter-cons (λ (u : Tag). goes o u.source) t [] false e)
    ∙ append-nil (to_out goes o ts))

-- the mark, by the owner of an out that it goes to
may-follow : (goes : ℕ → ℕ → Bool) (is_open : ℕ → Bool) (o source : ℕ) (m : Sign) (owner : Option ℕ) →
    ((s t : ℕ) → is_open s ≡ true → is_open t ≡ true → goes o s ≡ true → goes o t ≡ true → s ≡ t) →
    goes o source ≡ true →
    (owner ≡ None → is_open source ≡ false) → ((s : ℕ) → owner ≡ Some s → (is_open s ≡ true) × (goes o s ≡ true)) →
    (suits_sign true m ≡ false → (s : ℕ) → goes o s ≡ true → is_open s ≡ true → ⊥) →
    (suits_sign false m ≡ false → is_open source ≡ true) → MayFollow owner source m
may-follow goes is_open o source m owner one here closed owned outside inside = by_mark m outside inside owner closed
    owned
  where
    free : (owner : Option ℕ) → ((s : ℕ) → owner ≡ Some s → (is_open s ≡ true) × (goes o s ≡ true)) →
        ((s : ℕ) → goes o s ≡ true → is_open s ≡ true → ⊥) → owner ≡ None
    free None owned none = refl
    free (Some s) owned none = let w = owned s refl in absurd (none s w.1 w.0)

    own : (owner : Option ℕ) → (owner ≡ None → is_open source ≡ false) →
        ((s : ℕ) → owner ≡ Some s → (is_open s ≡ true) × (goes o s ≡ true)) → is_open source ≡ true →
        owner ≡ Some source
    own None closed owned open_now = absurd (true≢false (sym open_now ∙ closed refl))
    own (Some s) closed owned open_now = let w = owned s refl in ap (λ (x : ℕ). Some x)
        (one s source w.0 open_now w.1 here)

    by_mark : (m : Sign) → (suits_sign true m ≡ false → (s : ℕ) → goes o s ≡ true → is_open s ≡ true → ⊥) →
        (suits_sign false m ≡ false → is_open source ≡ true) →
        (owner : Option ℕ) → (owner ≡ None → is_open source ≡ false) →
        ((s : ℕ) → owner ≡ Some s → (is_open s ≡ true) × (goes o s ≡ true)) → MayFollow owner source m
    by_mark (ShortSign s a b) outside inside owner closed owned = free owner owned (outside refl)
    by_mark (RtSign b) outside inside owner closed owned = tt
    by_mark OpenSign outside inside owner closed owned = free owner owned (outside refl)
    by_mark (ByteSign b) outside inside owner closed owned = own owner closed owned (inside refl)
    by_mark EndSign outside inside owner closed owned = own owner closed owned (inside refl)
    by_mark AbortSign outside inside owner closed owned = own owner closed owned (inside refl)

open-own : (is_open : ℕ → Bool) (t : Tag) (s : ℕ) → s ≡ t.source → open_after is_open t s ≡ opens_sign (is_open s)
    t.sign
open-own is_open t s e = ap (λ (c : Bool). if c then opens_sign (is_open s) t.sign else is_open s) (same s t.source e)
  where
    same : (a b : ℕ) → a ≡ b → (a == b) ≡ true
    same a b e = grind (arith, nat_tests)

open-other : (is_open : ℕ → Bool) (t : Tag) (s : ℕ) → s ≢ t.source → open_after is_open t s ≡ is_open s
open-other is_open t s e = ap (λ (c : Bool). if c then opens_sign (is_open s) t.sign else is_open s)
    (differ s t.source e)
  where
    differ : (a b : ℕ) → a ≢ b → (a == b) ≡ false
    differ a b e = grind (arith, nat_tests, e)

-- behind the mark: the owner of an out that it goes to
closed-behind : (m : Sign) (owner : Option ℕ) (source : ℕ) (before : Bool) → MayFollow owner source m →
    (owner ≡ None → before ≡ false) → owner_behind owner source m ≡ None → opens_sign before m ≡ false
closed-behind (ShortSign s a b) owner source before may closed e = closed e
closed-behind (RtSign b) owner source before may closed e = closed e
closed-behind OpenSign owner source before may closed e = absurd (none≢some source (sym e))
closed-behind (ByteSign b) owner source before may closed e = closed e
closed-behind EndSign owner source before may closed e = refl
closed-behind AbortSign owner source before may closed e = refl

-- another source: an owner of the out before is one behind, unless the mark ended the owner's, which is this one
other-owner : (m : Sign) (owner : Option ℕ) (source : ℕ) → MayFollow owner source m →
    owner_behind owner source m ≡ None → (owner ≡ None) ⊎ (owner ≡ Some source)
other-owner (ShortSign s a b) owner source may e = inl e
other-owner (RtSign b) owner source may e = inl e
other-owner OpenSign owner source may e = absurd (none≢some source (sym e))
other-owner (ByteSign b) owner source may e = inl e
other-owner EndSign owner source may e = inr may
other-owner AbortSign owner source may e = inr may

owned-behind : (m : Sign) (owner : Option ℕ) (source s : ℕ) → MayFollow owner source m →
    owner_behind owner source m ≡ Some s → ((owner ≡ Some s) ×
    ((before : Bool) → before ≡ true → opens_sign before m ≡ true)) ⊎
    ((s ≡ source) × ((before : Bool) → opens_sign before m ≡ true))
owned-behind (ShortSign x a b) owner source s may e = inl (e, λ before is. is)
owned-behind (RtSign b) owner source s may e = inl (e, λ before is. is)
owned-behind OpenSign owner source s may e = inr (sym (some_same e), λ before. refl)
owned-behind (ByteSign b) owner source s may e = inl (e, λ before is. is)
owned-behind EndSign owner source s may e = absurd (none≢some s e)
owned-behind AbortSign owner source s may e = absurd (none≢some s e)

pub outs-pass : (goes : ℕ → ℕ → Bool) (is_open : ℕ → Bool) (ts : List Tag) (t : Tag) → OutsKnown goes is_open ts →
    MayGo goes is_open t →
    ((o s u : ℕ) → is_open s ≡ true → is_open u ≡ true → goes o s ≡ true → goes o u ≡ true → s ≡ u) →
    OutsKnown goes (open_after is_open t) (ts ++ t ∷ [])
outs-pass goes is_open ts t known may one = record {
  follows = λ o. by_goes o (goes o t.source) refl;
  closed = λ o s e there. closed_now o s (goes o t.source) refl e there;
  owner = λ o s e. owner_now o s (goes o t.source) refl e;
}
  where
    may_at : (o : ℕ) → goes o t.source ≡ true → MayFollow (end_owner None (to_out goes o ts)) t.source t.sign
    may_at o here = may-follow goes is_open o t.source t.sign (end_owner None (to_out goes o ts)) (one o) here
        (λ e. known.closed o t.source e here) (known.owner o)
        (λ e s. (may.outside e).1 o s here) may.inside

    by_goes : (o : ℕ) (c : Bool) → goes o t.source ≡ c → Follows None (to_out goes o (ts ++ t ∷ []))
    by_goes o true e = subst (Follows None) (sym (out-push goes o ts t e))
        (follows-push None (to_out goes o ts) t (known.follows o) (may_at o e))
    by_goes o false e = subst (Follows None) (sym (out-same goes o ts t e)) (known.follows o)

    closed_now : (o s : ℕ) (c : Bool) → goes o t.source ≡ c → end_owner None (to_out goes o (ts ++ t ∷ [])) ≡ None →
        goes o s ≡ true → open_after is_open t s ≡ false
    closed_now o s true here e there =
        let owner = end_owner None (to_out goes o ts) in
        let now : owner_behind owner t.source t.sign ≡ None = sym (owner-push None (to_out goes o ts) t)
        ∙ (ap (end_owner None) (sym (out-push goes o ts t here)) ∙ e) in
        ⊎_elim
        (λ (same : s ≡ t.source). open-own is_open t s same ∙ closed-behind t.sign owner t.source (is_open s)
        (may_at o here) (λ f. known.closed o s f there) now)
        (λ (apart : s ≢ t.source). open-other is_open t s apart ∙ ⊎_elim
        (λ (f : owner ≡ None). known.closed o s f there)
        (λ (f : owner ≡ Some t.source). not_open (is_open s) refl
        (λ open_now. apart (one o s t.source open_now (known.owner o t.source f).0 there here)))
        (other-owner t.sign owner t.source (may_at o here) now))
        (same_or_not s t.source)
      where
        not_open : (c : Bool) → is_open s ≡ c → (is_open s ≡ true → ⊥) → is_open s ≡ false
        not_open true f no_way = absurd (no_way f)
        not_open false f no_way = f
    closed_now o s false here e there =
        open-other is_open t s (λ same. true≢false (sym there ∙ (ap (goes o) same ∙ here)))
        ∙ known.closed o s (ap (end_owner None) (sym (out-same goes o ts t here)) ∙ e) there

    owner_now : (o s : ℕ) (c : Bool) → goes o t.source ≡ c → end_owner None (to_out goes o (ts ++ t ∷ [])) ≡ Some s →
        (open_after is_open t s ≡ true) × (goes o s ≡ true)
    owner_now o s true here e =
        let owner = end_owner None (to_out goes o ts) in
        let now : owner_behind owner t.source t.sign ≡ Some s = sym (owner-push None (to_out goes o ts) t)
        ∙ (ap (end_owner None) (sym (out-push goes o ts t here)) ∙ e) in
        ⊎_elim
        (λ (w : (owner ≡ Some s) × ((before : Bool) → before ≡ true → opens_sign before t.sign ≡ true)).
        let k = known.owner o s w.0 in (
          ⊎_elim (λ (same : s ≡ t.source). open-own is_open t s same ∙ w.1 (is_open s) k.0)
              (λ (apart : s ≢ t.source). open-other is_open t s apart ∙ k.0) (same_or_not s t.source),
          k.1,
        ))
        (λ (w : (s ≡ t.source) × ((before : Bool) → opens_sign before t.sign ≡ true)).
        (open-own is_open t s w.0 ∙ w.1 (is_open s), ap (goes o) w.0 ∙ here))
        (owned-behind t.sign owner t.source s (may_at o here) now)
    owner_now o s false here e =
        let k = known.owner o s (ap (end_owner None) (sym (out-same goes o ts t here)) ∙ e) in
        (open-other is_open t s (λ same. true≢false (sym k.1 ∙ (ap (goes o) same ∙ here))) ∙ k.0, k.1)

pub outs-begin : (goes : ℕ → ℕ → Bool) (is_open : ℕ → Bool) → ((s : ℕ) → is_open s ≡ false) → OutsKnown goes is_open []
outs-begin goes is_open closed = record {
  follows = λ o. tt;
  closed = λ o s e there. closed s;
  owner = λ o s e. absurd
      (none≢some s e);
}
