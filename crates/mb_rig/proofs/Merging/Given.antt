-- The marks that were taken of a source, one more at a time.
use Rattle.std.proofs.Common.{◌≡◌, ◌≢◌, ◌⊎◌, inl, inr, ℕ, ◌+◌, ◌≤◌, Bool, true, false, List, [], ◌∷◌, ◌++◌, drop, Some}
use Rattle.std.proofs.Common.{refl, ap, sym, subst, ◌∙◌, arith}
use Rattle.std.specs.Prelude.{not, ◌==◌, if◌then◌else◌, filter}
use Rattle.std.proofs.lemmas.Bool.Decides.{nat_tests}
use Rattle.mb_message.specs.Signs.{Sign, ShortSign, RtSign, OpenSign, ByteSign, EndSign, AbortSign}
use Rattle.mb_stream.specs.Puts.{Put, At, Flush, signs_in}
use Rattle.mb_rig.specs.Merging.Lines.{Key, Line, key_at, keyed_marks, is_realtime, is_sysex, no_key}
use Rattle.mb_rig.specs.Merging.Tags.{Tag, Under, IsTag, AreTags, tag_at, tags_from, tags_of, under_after, under_behind}
use Rattle.mb_rig.specs.Merging.Tags.{under_of, nothing_under, is_realtime_sign, line_at}
use Rattle.mb_rig.specs.Merging.Tags.{is_tag_of}
use Rattle.mb_rig.specs.Merging.Playing.{PassedTag, RisesFrom, begin_at, begin_behind, begin_then, tag_in_turn}
use Rattle.mb_rig.specs.Merging.Order.{LineFits}
use Rattle.mb_rig.specs.Merging.Realtimes.{PlaceFits}
use Rattle.mb_rig.specs.Merging.Course.{at_link}
use Rattle.mb_rig.proofs.Merging.SourceLines.{filter-cons, filter-two}
use Rattle.mb_rig.proofs.Merging.Lateness.{true≢false, none≢some, some_same}

pub keyed-push : (source : ℕ) (puts : List Put) (moment : ℕ) (sign : Sign) →
    keyed_marks source (puts ++ At moment sign ∷ []) ≡ keyed_marks source puts ++ (key_at moment source, sign) ∷ []
keyed-push source [] moment sign = refl
keyed-push source (At n m ∷ puts) moment sign =
    ap (λ (ms : List (Key × Sign)). (key_at n source, m) ∷ ms) (keyed-push source puts moment sign)
keyed-push source (Flush ∷ puts) moment sign = keyed-push source puts moment sign

tags-push : (source : ℕ) (u : Under) (ms : List (Key × Sign)) (key : Key) (sign : Sign) →
    tags_from source u (ms ++ (key, sign) ∷ [])
    ≡ tags_from source u ms ++ tag_at source (under_behind u ms) key sign ∷ []
tags-push source u [] key sign = refl
tags-push source u (m ∷ ms) key sign =
    ap (λ ts. tag_at source u m.0 m.1 ∷ ts) (tags-push source (under_after u m.0 m.1) ms key sign)

pub tags_of-push : (source : ℕ) (puts : List Put) (moment : ℕ) (sign : Sign) →
    tags_of source (puts ++ At moment sign ∷ [])
    ≡ tags_of source puts ++ tag_at source (under_of source puts) (key_at moment source) sign ∷ []
tags_of-push source puts moment sign =
    ap (tags_from source (nothing_under source)) (keyed-push source puts moment sign)
    ∙ tags-push source (nothing_under source) (keyed_marks source puts) (key_at moment source) sign

under-push : (u : Under) (ms : List (Key × Sign)) (key : Key) (sign : Sign) →
    under_behind u (ms ++ (key, sign) ∷ []) ≡ under_after (under_behind u ms) key sign
under-push u [] key sign = refl
under-push u (m ∷ ms) key sign = under-push (under_after u m.0 m.1) ms key sign

place-after : (u : Under) (key : Key) (sign : Sign) → (under_after u key sign).place ≡ u.place + 1
place-after u key (ShortSign s a b) = refl
place-after u key (RtSign b) = refl
place-after u key OpenSign = refl
place-after u key (ByteSign b) = refl
place-after u key EndSign = refl
place-after u key AbortSign = refl

pub place-push : (source : ℕ) (puts : List Put) (moment : ℕ) (sign : Sign) →
    (under_of source (puts ++ At moment sign ∷ [])).place ≡ (under_of source puts).place + 1
place-push source puts moment sign =
    ap (λ (ms : List (Key × Sign)). (under_behind (nothing_under source) ms).place) (keyed-push source puts moment sign)
    ∙ (ap (λ (u : Under). u.place) (under-push (nothing_under source) (keyed_marks source puts) (key_at moment source)
    sign) ∙ place-after (under_behind (nothing_under source) (keyed_marks source puts)) (key_at moment source) sign)

pub signs-push : (puts : List Put) (moment : ℕ) (sign : Sign) →
    signs_in (puts ++ At moment sign ∷ []) ≡ signs_in puts ++ sign ∷ []
signs-push [] moment sign = refl
signs-push (At n m ∷ puts) moment sign = ap (λ (ms : List Sign). m ∷ ms) (signs-push puts moment sign)
signs-push (Flush ∷ puts) moment sign = signs-push puts moment sign

pub here-same : {A : Type 0} (f : ℕ → A) (x : ℕ) (a : A) → at_link f x a x ≡ a
here-same f x a = ap (λ (c : Bool). if c then a else f x) (same x)
  where
    same : (n : ℕ) → (n == n) ≡ true
    same n = grind (arith, nat_tests)

pub elsewhere : {A : Type 0} (f : ℕ → A) (x : ℕ) (a : A) (other : ℕ) → other ≢ x → at_link f x a other ≡ f other
elsewhere f x a other apart = ap (λ (c : Bool). if c then a else f other) (differ other x apart)
  where
    differ : (n m : ℕ) → n ≢ m → (n == m) ≡ false
    differ n m e = grind (arith, nat_tests, e)

-- tags of a source have their lines

line-fits : (source : ℕ) (u : Under) (key : Key) (m : Sign) (l : Line) → line_at source u key m ≡ Some l →
    ((l.source ≡ source) × (l.key ≡ key)) × ((l.place ≡ u.place) × (is_realtime l.event ≡ is_realtime_sign m))
line-fits source u key OpenSign l e = absurd (none≢some l e)
line-fits source u key (ByteSign b) l e = absurd (none≢some l e)
line-fits source u key (ShortSign s a b) l e = subst (λ (x : Line). ((x.source ≡ source) × (x.key ≡ key)) ×
    ((x.place ≡ u.place) × (is_realtime x.event ≡ false))) (some_same e) ((refl, refl), (refl, refl))
line-fits source u key (RtSign b) l e = subst (λ (x : Line). ((x.source ≡ source) × (x.key ≡ key)) ×
    ((x.place ≡ u.place) × (is_realtime x.event ≡ true))) (some_same e) ((refl, refl), (refl, refl))
line-fits source u key EndSign l e = subst (λ (x : Line). ((x.source ≡ source) × (x.key ≡ key)) ×
    ((x.place ≡ u.place) × (is_realtime x.event ≡ false))) (some_same e) ((refl, refl), (refl, refl))
line-fits source u key AbortSign l e = subst (λ (x : Line). ((x.source ≡ source) × (x.key ≡ key)) ×
    ((x.place ≡ u.place) × (is_realtime x.event ≡ false))) (some_same e) ((refl, refl), (refl, refl))

pub tag-line : (t : Tag) → IsTag t → LineFits t
tag-line t is l e = (line-fits t.source is.under t.key t.sign l (ap (λ (x : Tag). x.line) (sym is.is) ∙ e)).0

pub tag-place : (t : Tag) → IsTag t → PlaceFits t
tag-place t is l e =
    let fits = (line-fits t.source is.under t.key t.sign l (ap (λ (x : Tag). x.line) (sym is.is) ∙ e)).1 in
    (fits.0 ∙ ap (λ (x : Tag). x.place) (sym is.is), fits.1)

-- an end and an abort complete a SysEx
ends-line : (source : ℕ) (u : Under) (key : Key) (m : Sign) → (m ≡ EndSign) ⊎ (m ≡ AbortSign) →
    (l : Line) × (line_at source u key m ≡ Some l) × (is_sysex l.event ≡ true)
ends-line source u key m (inl e) =
    subst (λ (x : Sign). (l : Line) × (line_at source u key x ≡ Some l) × (is_sysex l.event ≡ true)) (sym e)
    (_, refl, refl)
ends-line source u key m (inr e) =
    subst (λ (x : Sign). (l : Line) × (line_at source u key x ≡ Some l) × (is_sysex l.event ≡ true)) (sym e)
    (_, refl, refl)

pub tag-ends : (t : Tag) → IsTag t → (t.sign ≡ EndSign) ⊎ (t.sign ≡ AbortSign) →
    (l : Line) × (t.line ≡ Some l) × (is_sysex l.event ≡ true)
tag-ends t is e =
    let l = ends-line t.source is.under t.key t.sign e in
    (l.0, ap (λ (x : Tag). x.line) is.is ∙ l.1, l.2)

pub AreTags-push : (ts : List Tag) (t : Tag) → AreTags ts → IsTag t → AreTags (ts ++ t ∷ [])
AreTags-push [] t are is = (is, tt)
AreTags-push (u ∷ us) t are is = (are.0, AreTags-push us t are.1 is)

pub AreTags-drop : (ts : List Tag) → AreTags ts → AreTags (drop 1 ts)
AreTags-drop [] are = tt
AreTags-drop (u ∷ us) are = are.1

-- where the open SysEx began

begin-keeps : (u : Under) (key : Key) (m : Sign) → (under_after u key m).begin ≡ begin_at u.begin key m
begin-keeps u key OpenSign = refl
begin-keeps u key (ShortSign s a b) = refl
begin-keeps u key (RtSign b) = refl
begin-keeps u key (ByteSign b) = refl
begin-keeps u key EndSign = refl
begin-keeps u key AbortSign = refl

begin-tags : (source : ℕ) (u : Under) (ms : List (Key × Sign)) →
    (under_behind u ms).begin ≡ begin_behind u.begin (tags_from source u ms)
begin-tags source u [] = refl
begin-tags source u (m ∷ ms) = begin-tags source (under_after u m.0 m.1) ms
    ∙ ap (λ k. begin_behind k (tags_from source (under_after u m.0 m.1) ms)) (begin-keeps u m.0 m.1)

realtime-begins : (begin key : Key) (m : Sign) → is_realtime_sign m ≡ true → begin_at begin key m ≡ begin
realtime-begins begin key OpenSign e = absurd (true≢false (sym e))
realtime-begins begin key (ShortSign s a b) e = refl
realtime-begins begin key (RtSign b) e = refl
realtime-begins begin key (ByteSign b) e = refl
realtime-begins begin key EndSign e = refl
realtime-begins begin key AbortSign e = refl

begin-turns : (begin : Key) (ts : List Tag) →
    begin_behind begin ts ≡ begin_behind begin (filter (λ (t : Tag). not (is_realtime_sign t.sign)) ts)
begin-turns begin [] = refl
begin-turns begin (t ∷ ts) = by_kind (is_realtime_sign t.sign) refl (λ k. begin-turns k ts)
  where
    by_kind : (rt : Bool) → is_realtime_sign t.sign ≡ rt → ((k : Key) →
        begin_behind k ts ≡ begin_behind k (filter (λ (u : Tag). not (is_realtime_sign u.sign)) ts)) →
        begin_behind begin (t ∷ ts) ≡ begin_behind begin (filter (λ (u : Tag). not (is_realtime_sign u.sign)) (t ∷ ts))
    by_kind true e rest = ap (λ k. begin_behind k ts) (realtime-begins begin t.key t.sign e) ∙ (rest begin
        ∙ ap (begin_behind begin) (sym (filter-cons (λ (u : Tag). not (is_realtime_sign u.sign)) t ts false
        (ap not e))))
    by_kind false e rest = rest (begin_then begin t)
        ∙ ap (begin_behind begin) (sym (filter-cons (λ (u : Tag). not (is_realtime_sign u.sign)) t ts true (ap not e)))

-- of what was taken of a source, by its turns
pub given-begin : (x : ℕ) (puts : List Put) (taken : List Tag) → filter (is_tag_of x) taken ≡ tags_of x puts →
    (under_of x puts).begin ≡ begin_behind (no_key x) (filter (tag_in_turn x) taken)
given-begin x puts taken all = begin-tags x (nothing_under x) (keyed_marks x puts)
    ∙ (ap (begin_behind (no_key x)) (sym all) ∙ (begin-turns (no_key x) (filter (is_tag_of x) taken)
    ∙ ap (begin_behind (no_key x)) (sym (filter-two x (λ (m : Sign). not (is_realtime_sign m)) taken))))

begin-link : (source : ℕ) (u : Under) (puts : List Put) → u.begin.link ≡ source →
    (under_behind u (keyed_marks source puts)).begin.link ≡ source
begin-link source u [] own = own
begin-link source u (At moment m ∷ puts) own = begin-link source (under_after u (key_at moment source) m) puts
    (ap (λ (k : Key). k.link) (begin-keeps u (key_at moment source) m) ∙ by_sign m)
  where
    by_sign : (m : Sign) → (begin_at u.begin (key_at moment source) m).link ≡ source
    by_sign OpenSign = refl
    by_sign (ShortSign s a b) = own
    by_sign (RtSign b) = own
    by_sign (ByteSign b) = own
    by_sign EndSign = own
    by_sign AbortSign = own
begin-link source u (Flush ∷ puts) own = begin-link source u puts own

pub given-link : (x : ℕ) (puts : List Put) → (under_of x puts).begin.link ≡ x
given-link x puts = begin-link x (nothing_under x) puts refl

-- a SysEx line begins where its source's SysEx did
line-begin : (source : ℕ) (u : Under) (key : Key) (m : Sign) (l : Line) → line_at source u key m ≡ Some l →
    is_sysex l.event ≡ true → l.begin ≡ u.begin
line-begin source u key OpenSign l e s = absurd (none≢some l e)
line-begin source u key (ByteSign b) l e s = absurd (none≢some l e)
line-begin source u key (ShortSign a b c) l e s = absurd
    (true≢false (sym s ∙ ap (λ (x : Line). is_sysex x.event) (sym (some_same e))))
line-begin source u key (RtSign b) l e s = absurd (true≢false
    (sym s ∙ ap (λ (x : Line). is_sysex x.event) (sym (some_same e))))
line-begin source u key EndSign l e s = ap (λ (x : Line). x.begin) (sym (some_same e))
line-begin source u key AbortSign l e s = ap (λ (x : Line). x.begin) (sym (some_same e))

pub tag-begin : (source : ℕ) (u : Under) (key : Key) (m : Sign) (l : Line) → (tag_at source u key m).line ≡ Some l →
    is_sysex l.event ≡ true → l.begin ≡ u.begin
tag-begin source u key m l e s = line-begin source u key m l e s

pub rises-push : (last most : ℕ) (ps : List PassedTag) (t : Tag) → RisesFrom last ps most →
    RisesFrom last (ps ++ (record { tag = t; moment = most }) ∷ []) most
rises-push last most [] t rises = (rises, omega arith)
rises-push last most (p ∷ ps) t rises = (rises.0, rises-push p.moment most ps t rises.1)

pub rises-later : (last most later : ℕ) (ps : List PassedTag) → RisesFrom last ps most → most ≤ later →
    RisesFrom last ps later
rises-later last most later [] rises le = omega (arith, rises, le)
rises-later last most later (p ∷ ps) rises le = (rises.0, rises-later p.moment most later ps rises.1 le)
