-- What the marks that are kept mean is what the rules say of the messages.
use Rattle.std.proofs.Common.{◌≡◌, ℕ, zero, suc, ◌+◌, Bool, true, false, if◌then◌else◌, List, [], ◌∷◌, ◌++◌}
use Rattle.std.proofs.Common.{flat_map, Option, Some, None, is_some, refl, sym, ◌∙◌, ap, ap₂, arith, ◌&&◌}
use Rattle.mb_message.specs.Bytes.{is_short}
use Rattle.mb_message.specs.Signs.{Sign, ShortSign, RtSign, OpenSign, ByteSign, EndSign, AbortSign}
use Rattle.mb_stream.specs.Denotation.{Meant, Message, Syx, Broken, Timed, Denotation, left_open, items_from}
use Rattle.mb_stream.specs.Denotation.{realtimes_from, denotation}
use Rattle.mb_filter.specs.declared.rule.Rule.{Rule}
use Rattle.mb_filter.specs.declared.rule.Action.{Action}
use Rattle.mb_filter.specs.declared.rule.Action.TheVariants as act
use Rattle.mb_filter.specs.Mapped.{if_short, on_channel, acted, decided, mapped_short}
use Rattle.mb_filter.specs.Mapped.{keeps_sysex, keeps_realtime, kept_if, as_mark, mapped_marks}
use Rattle.mb_filter.specs.Mapped.{meant_short, mapped_item, mapped_items, counting, kept_of, mapped_rts}
use Rattle.mb_filter.specs.Mapped.{mapped}

-- a short message stays one, or is gone
abbrev pub ShortOrNone : Option Sign → Type 0
ShortOrNone None = Unit {0}
ShortOrNone (Some (ShortSign s a b)) = Unit {0}
ShortOrNone (Some _) = ⊥

if_short-is : (s a b : ℕ) → ShortOrNone (if_short s a b)
if_short-is s a b = by (is_short s a b) where
  by : (t : Bool) → ShortOrNone (if t then Some (ShortSign s a b) else None)
  by true = tt
  by false = tt

choice-is : (t : Bool) (s a b : ℕ) → ShortOrNone (if t then if_short s a b else None)
choice-is true s a b = if_short-is s a b
choice-is false s a b = tt

acted-is : (action : Action) (s a b : ℕ) → ShortOrNone (acted action s a b)
acted-is act.Keep s a b = tt
acted-is act.Drop s a b = tt
acted-is (act.Channel n) s a b = if_short-is (on_channel s n) a b
acted-is (act.Up n) s a b = choice-is _ s (a + n) b
acted-is (act.Down n) s a b = choice-is _ s _ b

pub mapped_short-is : (rules : List Rule) (s a b : ℕ) → ShortOrNone (mapped_short rules s a b)
mapped_short-is rules s a b = acted-is (decided rules s) s a b

-- items

short-items : (x : Option Sign) → ShortOrNone x → (o : Option (List ℕ)) (rest : List Sign) →
    items_from o (as_mark x ++ rest) ≡ meant_short x ++ items_from o rest
short-items None is o rest = refl
short-items (Some (ShortSign s a b)) is o rest = refl
short-items (Some (RtSign c)) is o rest = absurd is
short-items (Some OpenSign) is o rest = absurd is
short-items (Some (ByteSign c)) is o rest = absurd is
short-items (Some EndSign) is o rest = absurd is
short-items (Some AbortSign) is o rest = absurd is

rt-items : (k : Bool) (b : ℕ) (o : Option (List ℕ)) (rest : List Sign) →
    items_from o (kept_if k (RtSign b) ++ rest) ≡ items_from o rest
rt-items true b o rest = refl
rt-items false b o rest = refl

-- the data of the open SysEx behind the rules
abbrev held : Bool → Option (List ℕ) → Option (List ℕ)
held true o = o
held false o = None

left-items : (k : Bool) (o : Option (List ℕ)) (rules : List Rule) → keeps_sysex rules ≡ k →
    items_from (held k o) [] ≡ mapped_items rules (left_open o)
left-items true None rules e = refl
left-items false None rules e = refl
left-items true (Some ds) rules e = sym (ap (λ (t : Bool). kept_if t (Broken ds) ++ []) e)
left-items false (Some ds) rules e = sym (ap (λ (t : Bool). kept_if t (Broken ds) ++ []) e)

items-mapped : (rules : List Rule) (k : Bool) → keeps_sysex rules ≡ k → (o : Option (List ℕ)) (ms : List Sign) →
    items_from (held k o) (mapped_marks rules ms) ≡ mapped_items rules (items_from o ms)
items-mapped rules k e o [] = left-items k o rules e
items-mapped rules k e o (ShortSign s a b ∷ ms) =
    short-items (mapped_short rules s a b) (acted-is (decided rules s) s a b)
    (held k o) (mapped_marks rules ms) ∙
    ap (λ z. meant_short (mapped_short rules s a b) ++ z) (items-mapped rules k e o ms)
items-mapped rules k e o (RtSign b ∷ ms) =
    rt-items (keeps_realtime rules b) b (held k o) (mapped_marks rules ms) ∙ items-mapped rules k e o ms
items-mapped rules true e o (OpenSign ∷ ms) =
    ap (λ (t : Bool). items_from o (kept_if t OpenSign ++ mapped_marks rules ms)) e ∙
    items-mapped rules true e (Some []) ms
items-mapped rules false e o (OpenSign ∷ ms) =
    ap (λ (t : Bool). items_from None (kept_if t OpenSign ++ mapped_marks rules ms)) e ∙
    items-mapped rules false e (Some []) ms
items-mapped rules true e None (ByteSign b ∷ ms) =
    ap (λ (t : Bool). items_from None (kept_if t (ByteSign b) ++ mapped_marks rules ms)) e ∙
    items-mapped rules true e None ms
items-mapped rules true e (Some ds) (ByteSign b ∷ ms) =
    ap (λ (t : Bool). items_from (Some ds) (kept_if t (ByteSign b) ++ mapped_marks rules ms)) e ∙
    items-mapped rules true e (Some (ds ++ b ∷ [])) ms
items-mapped rules false e None (ByteSign b ∷ ms) =
    ap (λ (t : Bool). items_from None (kept_if t (ByteSign b) ++ mapped_marks rules ms)) e ∙
    items-mapped rules false e None ms
items-mapped rules false e (Some ds) (ByteSign b ∷ ms) =
    ap (λ (t : Bool). items_from None (kept_if t (ByteSign b) ++ mapped_marks rules ms)) e ∙
    items-mapped rules false e (Some (ds ++ b ∷ [])) ms
items-mapped rules true e None (EndSign ∷ ms) =
    ap (λ (t : Bool). items_from None (kept_if t EndSign ++ mapped_marks rules ms)) e ∙
    items-mapped rules true e None ms
items-mapped rules true e (Some ds) (EndSign ∷ ms) =
    ap (λ (t : Bool). items_from (Some ds) (kept_if t EndSign ++ mapped_marks rules ms)) e ∙
    (ap (λ z. Syx ds ∷ z) (items-mapped rules true e None ms) ∙
    sym (ap (λ (t : Bool). kept_if t (Syx ds) ++ mapped_items rules (items_from None ms)) e))
items-mapped rules false e None (EndSign ∷ ms) =
    ap (λ (t : Bool). items_from None (kept_if t EndSign ++ mapped_marks rules ms)) e ∙
    items-mapped rules false e None ms
items-mapped rules false e (Some ds) (EndSign ∷ ms) =
    ap (λ (t : Bool). items_from None (kept_if t EndSign ++ mapped_marks rules ms)) e ∙
    (items-mapped rules false e None ms ∙ sym
    (ap (λ (t : Bool). kept_if t (Syx ds) ++ mapped_items rules (items_from None ms)) e))
items-mapped rules true e None (AbortSign ∷ ms) =
    ap (λ (t : Bool). items_from None (kept_if t AbortSign ++ mapped_marks rules ms)) e ∙
    items-mapped rules true e None ms
items-mapped rules true e (Some ds) (AbortSign ∷ ms) =
    ap (λ (t : Bool). items_from (Some ds) (kept_if t AbortSign ++ mapped_marks rules ms)) e ∙
    (ap (λ z. Broken ds ∷ z) (items-mapped rules true e None ms) ∙
    sym (ap (λ (t : Bool). kept_if t (Broken ds) ++ mapped_items rules (items_from None ms)) e))
items-mapped rules false e None (AbortSign ∷ ms) =
    ap (λ (t : Bool). items_from None (kept_if t AbortSign ++ mapped_marks rules ms)) e ∙
    items-mapped rules false e None ms
items-mapped rules false e (Some ds) (AbortSign ∷ ms) =
    ap (λ (t : Bool). items_from None (kept_if t AbortSign ++ mapped_marks rules ms)) e ∙
    (items-mapped rules false e None ms ∙ sym
    (ap (λ (t : Bool). kept_if t (Broken ds) ++ mapped_items rules (items_from None ms)) e))

-- real-time messages: what counts before one is counted anew

abbrev renumbered : List Rule → (ℕ → ℕ) → Timed → List Timed
renumbered rules anew r = kept_if (keeps_realtime rules r.byte) (record { byte = r.byte; after = anew r.after })

short-rts : (x : Option Sign) → ShortOrNone x → (o : Bool) (j : ℕ) (rest : List Sign) →
    realtimes_from o j (as_mark x ++ rest) ≡ realtimes_from o (j + counting (meant_short x)) rest
short-rts None is o j rest = let e : j ≡ j + 0 = omega arith in ap (λ n. realtimes_from o n rest) e
short-rts (Some (ShortSign s a b)) is o j rest = let e : suc j ≡ j + 1 = omega arith in
    ap (λ n. realtimes_from o n rest) e
short-rts (Some (RtSign c)) is o j rest = absurd is
short-rts (Some OpenSign) is o j rest = absurd is
short-rts (Some (ByteSign c)) is o j rest = absurd is
short-rts (Some EndSign) is o j rest = absurd is
short-rts (Some AbortSign) is o j rest = absurd is

rt-rts : (k : Bool) (b : ℕ) (o : Bool) (j : ℕ) (rest : List Sign) →
    realtimes_from o j (kept_if k (RtSign b) ++ rest) ≡
    kept_if k (record { byte = b; after = j }) ++ realtimes_from o j rest
rt-rts true b o j rest = refl
rt-rts false b o j rest = refl

-- behind a start, a data byte and a break, where SysEx are kept or dropped
open-rts : (k o : Bool) (j : ℕ) (rest : List Sign) →
    realtimes_from (k && o) j (kept_if k OpenSign ++ rest) ≡ realtimes_from (k && true) j rest
open-rts true o j rest = refl
open-rts false o j rest = refl

byte-rts : (k : Bool) (b : ℕ) (o : Bool) (j : ℕ) (rest : List Sign) →
    realtimes_from o j (kept_if k (ByteSign b) ++ rest) ≡ realtimes_from o j rest
byte-rts true b o j rest = refl
byte-rts false b o j rest = refl

abort-rts : (k o : Bool) (j : ℕ) (rest : List Sign) →
    realtimes_from (k && o) j (kept_if k AbortSign ++ rest) ≡ realtimes_from (k && false) j rest
abort-rts true o j rest = refl
abort-rts false o j rest = refl

-- an end counts where a SysEx is open that is kept
end-rts : (k : Bool) (ds : List ℕ) (j : ℕ) (rest : List Sign) →
    realtimes_from (k && true) j (kept_if k EndSign ++ rest) ≡
    realtimes_from (k && false) (j + counting (kept_if k (Syx ds))) rest
end-rts true ds j rest = let e : suc j ≡ j + 1 = omega arith in ap (λ n. realtimes_from false n rest) e
end-rts false ds j rest = let e : j ≡ j + 0 = omega arith in ap (λ n. realtimes_from false n rest) e

stray-rts : (k : Bool) (j : ℕ) (rest : List Sign) →
    realtimes_from (k && false) j (kept_if k EndSign ++ rest) ≡ realtimes_from (k && false) j rest
stray-rts true j rest = refl
stray-rts false j rest = refl

kept_of-broken : (rules : List Rule) (i : ℕ) (ds : List ℕ) (is : List Meant) →
    kept_of rules i (Broken ds ∷ is) ≡ kept_of rules i is
kept_of-broken rules zero ds is = refl
kept_of-broken rules (suc i) ds is = refl

-- the count anew of what stands behind n is j and what is kept of the items from there on
abbrev Counts : List Rule → (anew : ℕ → ℕ) → (n j : ℕ) → List Meant → Type 0
Counts rules anew n j is = (i : ℕ) → anew (n + i) ≡ j + kept_of rules i is

counts-next : (rules : List Rule) (anew : ℕ → ℕ) (n j c : ℕ) (is js : List Meant) →
    ((i : ℕ) → kept_of rules (suc i) js ≡ c + kept_of rules i is) →
    Counts rules anew n j js → Counts rules anew (suc n) (j + c) is
counts-next rules anew n j c is js step counts = λ i.
    let e : suc n + i ≡ n + suc i = omega arith in
    ap anew e ∙ (counts (suc i) ∙
    (let f : j + kept_of rules (suc i) js ≡ j + c + kept_of rules i is = omega (arith, step i) in f))

counts-here : (rules : List Rule) (anew : ℕ → ℕ) (n j : ℕ) (is : List Meant) →
    Counts rules anew n j is → anew n ≡ j
counts-here rules anew n j is counts =
    let e : n ≡ n + 0 = omega arith in
    ap anew e ∙ (counts 0 ∙ (let f : j + 0 ≡ j = omega arith in f))

-- whether a SysEx is open behind the rules
abbrev opened : List Rule → Option (List ℕ) → Bool
opened rules o = keeps_sysex rules && is_some o

rts-mapped : (rules : List Rule) (anew : ℕ → ℕ) (n j : ℕ) (o : Option (List ℕ)) (ms : List Sign) →
    Counts rules anew n j (items_from o ms) →
    realtimes_from (opened rules o) j (mapped_marks rules ms) ≡
    flat_map (renumbered rules anew) (realtimes_from (is_some o) n ms)
rts-mapped rules anew n j o [] counts = refl
rts-mapped rules anew n j o (ShortSign s a b ∷ ms) counts =
    let count : ℕ = counting (mapped_item rules (Message s a b)) in
    short-rts (mapped_short rules s a b) (mapped_short-is rules s a b) (opened rules o) j (mapped_marks rules ms) ∙
    rts-mapped rules anew (suc n) (j + count) o ms
    (counts-next rules anew n j count (items_from o ms) (Message s a b ∷ items_from o ms) (λ i. refl) counts)
rts-mapped rules anew n j o (RtSign b ∷ ms) counts =
    let kept : ℕ → List Timed = λ m. kept_if (keeps_realtime rules b) (record { byte = b; after = m }) in
    let others : List Timed = flat_map (renumbered rules anew) (realtimes_from (is_some o) n ms) in
    rt-rts (keeps_realtime rules b) b (opened rules o) j (mapped_marks rules ms) ∙
    (ap (λ z. kept j ++ z) (rts-mapped rules anew n j o ms counts) ∙
    ap (λ m. kept m ++ others) (sym (counts-here rules anew n j (items_from o ms) counts)))
rts-mapped rules anew n j o (OpenSign ∷ ms) counts =
    open-rts (keeps_sysex rules) (is_some o) j (mapped_marks rules ms) ∙ rts-mapped rules anew n j (Some []) ms counts
rts-mapped rules anew n j None (ByteSign b ∷ ms) counts =
    byte-rts (keeps_sysex rules) b (opened rules None) j (mapped_marks rules ms) ∙
    rts-mapped rules anew n j None ms counts
rts-mapped rules anew n j (Some ds) (ByteSign b ∷ ms) counts =
    byte-rts (keeps_sysex rules) b (opened rules (Some ds)) j (mapped_marks rules ms) ∙
    rts-mapped rules anew n j (Some (ds ++ b ∷ [])) ms counts
rts-mapped rules anew n j None (EndSign ∷ ms) counts =
    stray-rts (keeps_sysex rules) j (mapped_marks rules ms) ∙ rts-mapped rules anew n j None ms counts
rts-mapped rules anew n j (Some ds) (EndSign ∷ ms) counts =
    let count : ℕ = counting (mapped_item rules (Syx ds)) in
    end-rts (keeps_sysex rules) ds j (mapped_marks rules ms) ∙
    rts-mapped rules anew (suc n) (j + count) None ms
    (counts-next rules anew n j count (items_from None ms) (Syx ds ∷ items_from None ms) (λ i. refl) counts)
rts-mapped rules anew n j None (AbortSign ∷ ms) counts =
    abort-rts (keeps_sysex rules) false j (mapped_marks rules ms) ∙ rts-mapped rules anew n j None ms counts
rts-mapped rules anew n j (Some ds) (AbortSign ∷ ms) counts =
    abort-rts (keeps_sysex rules) true j (mapped_marks rules ms) ∙
    rts-mapped rules anew n j None ms (λ i.
    counts i ∙ ap (λ m. j + m) (kept_of-broken rules i ds (items_from None ms)))

held-none : (k : Bool) → held k None ≡ None
held-none true = refl
held-none false = refl

pub none-opened : (k : Bool) → (k && false) ≡ false
none-opened true = refl
none-opened false = refl

pub mapped-means : (rules : List Rule) (ms : List Sign) →
    denotation (mapped_marks rules ms) ≡ mapped rules (denotation ms)
mapped-means rules ms =
    let given : List Meant = items_from None ms in
    let items : items_from None (mapped_marks rules ms) ≡ mapped_items rules given =
    ap (λ z. items_from z (mapped_marks rules ms)) (sym (held-none (keeps_sysex rules))) ∙
    items-mapped rules (keeps_sysex rules) refl None ms in
    let anew : ℕ → ℕ = λ n. kept_of rules n given in
    let counts : Counts rules anew 0 0 given = λ i.
    (let e : 0 + i ≡ i = omega arith in ap anew e) ∙ (let f : anew i ≡ 0 + anew i = omega arith in f) in
    let rts : realtimes_from false 0 (mapped_marks rules ms) ≡ mapped_rts rules given (realtimes_from false 0 ms) =
    ap (λ (o : Bool). realtimes_from o 0 (mapped_marks rules ms)) (sym (none-opened (keeps_sysex rules))) ∙
    rts-mapped rules anew 0 0 None ms counts in
    let with_both : List Meant → List Timed → Denotation = λ is rs. record { items = is; realtimes = rs } in
    ap₂ with_both items rts
