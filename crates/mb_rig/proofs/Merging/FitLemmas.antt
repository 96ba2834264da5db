-- The lines of what passes are what its source's marks say: in whatever places real-time marks pass.
use Rattle.std.proofs.Common.{◌≡◌, ◌≢◌, ◌⊎◌, inl, inr, ℕ, Bool, true, false, Some, None, List, [], ◌∷◌, ◌++◌, filter}
use Rattle.std.proofs.Common.{refl, ap, sym, subst, ◌∙◌, arith}
use Rattle.std.specs.Prelude.{not, ◌&&◌, ◌==◌}
use Rattle.std.proofs.lemmas.Bool.Decides.{nat_tests}
use Rattle.mb_message.specs.Signs.{Sign, ShortSign, RtSign, OpenSign, ByteSign, EndSign, AbortSign}
use Rattle.mb_stream.specs.Denotation.{Syx, Broken}
use Rattle.mb_rig.specs.Merging.Lines.{Key, Line, Ends}
use Rattle.mb_rig.specs.Merging.Tags.{Tag, Under, AreTags, tag_at, tags_from, line_at, under_after}
use Rattle.mb_rig.specs.Merging.Playing.{tag_in_turn}
use Rattle.mb_rig.specs.Merging.Tags.{is_realtime_sign}
use Rattle.mb_rig.specs.Merging.Heard.{with_under, unders_after, LineFitsData, LinesFit}
use Rattle.mb_rig.proofs.Merging.Lateness.{true≢false, same_or_not, none≢some, some_same}
use Rattle.mb_rig.proofs.Merging.SourceLines.{filter-cons}

-- what completes depends on the data of the SysEx alone
same_event : (source : ℕ) (u v : Under) (key other_key : Key) (m : Sign) → u.data_bytes ≡ v.data_bytes → (l k : Line) →
    line_at source u key m ≡ Some l → line_at source v other_key m ≡ Some k → l.event ≡ k.event
same_event source u v key other_key (ShortSign s a b) same l k e f = ap (λ (x : Line). x.event) (sym (some_same e))
    ∙ ap (λ (x : Line). x.event) (some_same f)
same_event source u v key other_key (RtSign b) same l k e f = ap (λ (x : Line). x.event) (sym (some_same e))
    ∙ ap (λ (x : Line). x.event) (some_same f)
same_event source u v key other_key OpenSign same l k e f = absurd (none≢some l e)
same_event source u v key other_key (ByteSign b) same l k e f = absurd (none≢some l e)
same_event source u v key other_key EndSign same l k e f = ap (λ (x : Line). x.event) (sym (some_same e))
    ∙ (ap (λ data_bytes. Ends (Syx data_bytes)) same ∙ ap (λ (x : Line). x.event) (some_same f))
same_event source u v key other_key AbortSign same l k e f = ap (λ (x : Line). x.event) (sym (some_same e))
    ∙ (ap (λ data_bytes. Ends (Broken data_bytes)) same ∙ ap (λ (x : Line). x.event) (some_same f))

-- and whether something completes, on the mark alone
line_there : (source : ℕ) (u v : Under) (key other_key : Key) (m : Sign) (l : Line) → line_at source u key m ≡ Some l →
    (k : Line) × (line_at source v other_key m ≡ Some k)
line_there source u v key other_key (ShortSign s a b) l e = (_, refl)
line_there source u v key other_key (RtSign b) l e = (_, refl)
line_there source u v key other_key OpenSign l e = absurd (none≢some l e)
line_there source u v key other_key (ByteSign b) l e = absurd (none≢some l e)
line_there source u v key other_key EndSign l e = (_, refl)
line_there source u v key other_key AbortSign l e = (_, refl)

line_absent : (source : ℕ) (u v : Under) (key other_key : Key) (m : Sign) → line_at source u key m ≡ None →
    line_at source v other_key m ≡ None
line_absent source u v key other_key (ShortSign s a b) e = absurd (none≢some _ (sym e))
line_absent source u v key other_key (RtSign b) e = absurd (none≢some _ (sym e))
line_absent source u v key other_key OpenSign e = refl
line_absent source u v key other_key (ByteSign b) e = refl
line_absent source u v key other_key EndSign e = absurd (none≢some _ (sym e))
line_absent source u v key other_key AbortSign e = absurd (none≢some _ (sym e))

-- a tag of a reading fits wherever the data is the same
tag-fits : (source : ℕ) (u v : Under) (key : Key) (m : Sign) → u.data_bytes ≡ v.data_bytes →
    LineFitsData v (tag_at source u key m)
tag-fits source u v key m same = record {
  events = λ l e k f. same_event source u v key key m same l k e f;
  some = λ k f. line_there source v u key key m k f;
  none = λ f. line_absent source v u key key m f;
}

fits-data : (u v : Under) (t : Tag) → u.data_bytes ≡ v.data_bytes → LineFitsData u t → LineFitsData v t
fits-data u v t same fits = record {
  events = λ l e k f. let g = line_there t.source v u t.key t.key t.sign k f in fits.events l e g.0 g.1
      ∙ same_event t.source u v t.key t.key t.sign same g.0 k g.1 f;
  some = λ k f. let g = line_there t.source v u t.key t.key t.sign k f in fits.some g.0 g.1;
  none = λ f. fits.none (line_absent t.source v u t.key t.key t.sign f);
}

-- of one source, without real-time marks
abbrev pub FitsTurns : Under → List Tag → Type 0
FitsTurns u [] = Unit {0}
FitsTurns u (t ∷ ts) = LineFitsData u t × FitsTurns (under_after u t.key t.sign) ts

same_after : (u v : Under) (key : Key) (m : Sign) → u.data_bytes ≡ v.data_bytes →
    (under_after u key m).data_bytes ≡ (under_after v key m).data_bytes
same_after u v key (ShortSign s a b) same = same
same_after u v key (RtSign b) same = same
same_after u v key OpenSign same = refl
same_after u v key (ByteSign b) same = ap (λ data_bytes. data_bytes ++ b ∷ []) same
same_after u v key EndSign same = refl
same_after u v key AbortSign same = refl

turns-data : (u v : Under) (ts : List Tag) → u.data_bytes ≡ v.data_bytes → FitsTurns u ts → FitsTurns v ts
turns-data u v [] same fits = tt
turns-data u v (t ∷ ts) same fits = (
  fits-data u v t same fits.0,
  turns-data (under_after u t.key t.sign)
      (under_after v t.key t.sign) ts (same_after u v t.key t.sign same) fits.1,
)

pub turns-front : (u : Under) (ts us : List Tag) → FitsTurns u (ts ++ us) → FitsTurns u ts
turns-front u [] us fits = tt
turns-front u (t ∷ ts) us fits = (fits.0, turns-front (under_after u t.key t.sign) ts us fits.1)

-- a source's own reading fits
pub reading-fits : (source : ℕ) (u v : Under) (ms : List (Key × Sign)) → u.data_bytes ≡ v.data_bytes →
    FitsTurns v (filter (λ (t : Tag). not (is_realtime_sign t.sign)) (tags_from source u ms))
reading-fits source u v [] same = tt
reading-fits source u v (m ∷ ms) same = by_kind (is_realtime_sign m.1) refl
    (λ w e. reading-fits source (under_after u m.0 m.1) w ms e)
  where
    kept : (s : Sign) (key : Key) → is_realtime_sign s ≡ true → (under_after u key s).data_bytes ≡ u.data_bytes
    kept (ShortSign s a b) key e = refl
    kept (RtSign b) key e = refl
    kept OpenSign key e = absurd (true≢false (sym e))
    kept (ByteSign b) key e = absurd (true≢false (sym e))
    kept EndSign key e = absurd (true≢false (sym e))
    kept AbortSign key e = absurd (true≢false (sym e))

    by_kind : (rt : Bool) → is_realtime_sign m.1 ≡ rt → ((w : Under) → (under_after u m.0 m.1).data_bytes ≡ w.data_bytes
        →
        FitsTurns w (filter (λ (t : Tag). not (is_realtime_sign t.sign)) (tags_from source (under_after u m.0 m.1) ms)))
        →
        FitsTurns v (filter (λ (t : Tag). not (is_realtime_sign t.sign))
        (tag_at source u m.0 m.1 ∷ tags_from source (under_after u m.0 m.1) ms))
    by_kind true e rest = subst (FitsTurns v) (sym (filter-cons (λ (t : Tag). not (is_realtime_sign t.sign))
        (tag_at source u m.0 m.1) (tags_from source (under_after u m.0 m.1) ms) false (ap not e)))
        (rest v (kept m.1 m.0 e ∙ same))
    by_kind false e rest = subst (FitsTurns v) (sym (filter-cons (λ (t : Tag). not (is_realtime_sign t.sign))
        (tag_at source u m.0 m.1) (tags_from source (under_after u m.0 m.1) ms) true (ap not e)))
        (tag-fits source u v m.0 m.1 same, rest (under_after v m.0 m.1) (same_after u v m.0 m.1 same))

-- a real-time tag fits anywhere
abbrev pub FitAnywhere : List Tag → Type 0
FitAnywhere [] = Unit {0}
FitAnywhere (t ∷ ts) = (is_realtime_sign t.sign ≡ true → (u : Under) → LineFitsData u t) × FitAnywhere ts

-- What passes, of all sources: where each source's turns fit, all lines do.
pub lines-fit : (unders : ℕ → Under) (ts : List Tag) → ((x : ℕ) → FitsTurns (unders x) (filter (tag_in_turn x) ts)) →
    FitAnywhere ts → LinesFit unders ts
lines-fit unders [] turns rts = tt
lines-fit unders (t ∷ ts) turns rts = (
  first (is_realtime_sign t.sign) refl,
  lines-fit (unders_after unders t) ts (λ x. rest x (is_realtime_sign t.sign) refl (same_or_not x t.source)) rts.1,
)
  where
    own : (rt : Bool) → is_realtime_sign t.sign ≡ rt → tag_in_turn t.source t ≡ not rt
    own rt e = ap (λ c. c && not (is_realtime_sign t.sign)) (self t.source) ∙ ap not e
      where
        self : (a : ℕ) → (a == a) ≡ true
        self a = grind (arith, nat_tests)

    first : (rt : Bool) → is_realtime_sign t.sign ≡ rt → LineFitsData (unders t.source) t
    first true e = rts.0 e (unders t.source)
    first false e = (subst (FitsTurns (unders t.source)) (filter-cons (tag_in_turn t.source) t ts true (own false e))
        (turns t.source)).0

    here : (u : Under) → with_under unders t.source u t.source ≡ u
    here u = grind (arith, nat_tests)

    elsewhere : (x : ℕ) (u : Under) → x ≢ t.source → with_under unders t.source u x ≡ unders x
    elsewhere x u apart = grind (arith, nat_tests, apart)

    differ : (x : ℕ) → x ≢ t.source → tag_in_turn x t ≡ false
    differ x apart = ap (λ c. c && not (is_realtime_sign t.sign)) (other t.source x (λ e. apart (sym e)))
      where
        other : (a b : ℕ) → a ≢ b → (a == b) ≡ false
        other a b e = grind (arith, nat_tests, e)

    kept : (u : Under) (s : Sign) (key : Key) → is_realtime_sign s ≡ true →
        u.data_bytes ≡ (under_after u key s).data_bytes
    kept u (ShortSign s a b) key e = refl
    kept u (RtSign b) key e = refl
    kept u OpenSign key e = absurd (true≢false (sym e))
    kept u (ByteSign b) key e = absurd (true≢false (sym e))
    kept u EndSign key e = absurd (true≢false (sym e))
    kept u AbortSign key e = absurd (true≢false (sym e))

    rest : (x : ℕ) (rt : Bool) → is_realtime_sign t.sign ≡ rt → (x ≡ t.source) ⊎ (x ≢ t.source) →
        FitsTurns (unders_after unders t x) (filter (tag_in_turn x) ts)
    rest x true e (inl same) = subst (λ y. FitsTurns (unders_after unders t y) (filter (tag_in_turn y) ts)) (sym same)
        (subst (λ u. FitsTurns u (filter (tag_in_turn t.source) ts))
        (sym (here (under_after (unders t.source) t.key t.sign)))
        (turns-data (unders t.source) (under_after (unders t.source) t.key t.sign) (filter (tag_in_turn t.source) ts)
        (kept (unders t.source) t.sign t.key e)
        (subst (FitsTurns (unders t.source)) (filter-cons (tag_in_turn t.source) t ts false (own true e))
        (turns t.source))))
    rest x false e (inl same) = subst (λ y. FitsTurns (unders_after unders t y) (filter (tag_in_turn y) ts)) (sym same)
        (subst (λ u. FitsTurns u (filter (tag_in_turn t.source) ts))
        (sym (here (under_after (unders t.source) t.key t.sign)))
        (subst (FitsTurns (unders t.source)) (filter-cons (tag_in_turn t.source) t ts true (own false e))
        (turns t.source)).1)
    rest x rt e (inr apart) =
        subst (λ u. FitsTurns u (filter (tag_in_turn x) ts))
        (sym (elsewhere x (under_after (unders t.source) t.key t.sign) apart))
        (subst (FitsTurns (unders x)) (filter-cons (tag_in_turn x) t ts false (differ x apart)) (turns x))

realtime-fits : (source : ℕ) (u v : Under) (key : Key) (m : Sign) → is_realtime_sign m ≡ true →
    LineFitsData v (tag_at source u key m)
realtime-fits source u v key (ShortSign s a b) e = absurd (true≢false (sym e))
realtime-fits source u v key (RtSign b) e = record {
  events = λ l f k g. ap (λ (x : Line). x.event) (sym (some_same f)) ∙ ap (λ (x : Line). x.event) (some_same g);
  some = λ k g. line_there source v u key key (RtSign b) k g;
  none = λ g. line_absent source v u key key (RtSign b) g;
}
realtime-fits source u v key OpenSign e = absurd (true≢false (sym e))
realtime-fits source u v key (ByteSign b) e = absurd (true≢false (sym e))
realtime-fits source u v key EndSign e = absurd (true≢false (sym e))
realtime-fits source u v key AbortSign e = absurd (true≢false (sym e))

pub tags-fit : (ts : List Tag) → AreTags ts → FitAnywhere ts
tags-fit [] are = tt
tags-fit (t ∷ ts) are = (
  λ e u. subst (LineFitsData u) (sym are.0.is) (realtime-fits t.source are.0.under u t.key t.sign e),
  tags-fit ts are.1,
)
