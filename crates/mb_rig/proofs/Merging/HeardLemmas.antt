-- What passes to an out denotes its lines, and the open SysEx as a last broken one.
use Rattle.std.proofs.Common.{◌≡◌, ◌≢◌, ⊎_elim, ℕ, suc, ◌+◌, Bool, true, false, Option, Some, None, List, [], ◌∷◌, ◌++◌}
use Rattle.std.proofs.Common.{map, refl, ap, sym, ◌∙◌, arith}
use Rattle.std.specs.List.{flat_map}
use Rattle.std.proofs.lemmas.Bool.Decides.{nat_tests}
use Rattle.mb_message.specs.Signs.{Sign, ShortSign, RtSign, OpenSign, ByteSign, EndSign, AbortSign}
use Rattle.mb_stream.specs.Denotation.{Meant, Message, Syx, Broken, Timed, items_from, realtimes_from, left_open}
use Rattle.mb_rig.specs.Merging.Lines.{Key, Line, Event, Ends, Realtime}
use Rattle.mb_rig.specs.Merging.Merged.{items_of, realtimes_of, counts_one}
use Rattle.mb_rig.specs.Merging.Tags.{Tag, Under, line_at, under_after}
use Rattle.mb_rig.specs.Merging.Heard.{with_under, unders_after, LineFitsData, LinesFit, owner_behind, MayFollow}
use Rattle.mb_rig.specs.Merging.Heard.{Follows, open_data, end_unders, end_owner}
use Rattle.mb_rig.proofs.Merging.Lateness.{same_or_not}

abbrev lines_of_tag : Option Line → List Line
lines_of_tag None = []
lines_of_tag (Some line) = line ∷ []

abbrev pub lines_heard : List Tag → List Line
lines_heard ts = flat_map (λ (t : Tag). lines_of_tag t.line) ts

abbrev pub signs_heard : List Tag → List Sign
signs_heard ts = map (λ (t : Tag). t.sign) ts

with_under-same : (unders : ℕ → Under) (source : ℕ) (u : Under) → with_under unders source u source ≡ u
with_under-same unders source u = grind (arith, nat_tests)

-- an event's items and real-time messages before others
items_step : (line : Line) (e : Event) (rest : List Line) → line.event ≡ e →
    items_of (line ∷ rest) ≡ elim e [ Ends item ↦ item ∷ items_of rest | Realtime b ↦ items_of rest ]
items_step line e rest same = ap (λ (x : Event). elim x [
  | Ends item ↦ item ∷ items_of rest
  | Realtime b ↦ items_of rest
]) same

realtimes_step : (n : ℕ) (line : Line) (e : Event) (rest : List Line) → line.event ≡ e →
    realtimes_of n (line ∷ rest) ≡ elim e [
      | Ends item ↦ realtimes_of (n + counts_one item) rest
      | Realtime b ↦
          (record { byte = b; after = n }) ∷ realtimes_of n rest
    ]
realtimes_step n line e rest same = ap (λ (x : Event). elim x [
  | Ends item ↦ realtimes_of (n + counts_one item) rest
  | Realtime b ↦ (record { byte = b; after = n }) ∷ realtimes_of
      n rest
]) same

-- a tag that completes an event has one line of it
one_line : (u : Under) (t : Tag) (other : Line) (rest : List Line) → LineFitsData u t →
    line_at t.source u t.key t.sign ≡ Some other → (line : Line) × (lines_of_tag t.line ++ rest ≡ line ∷ rest) ×
    (line.event ≡ other.event)
one_line u t other rest fits at =
    let l = fits.some other at in
    (l.0, ap (λ o. lines_of_tag o ++ rest) l.1, fits.events l.0 l.1 other at)

no_line : (u : Under) (t : Tag) (rest : List Line) → LineFitsData u t → line_at t.source u t.key t.sign ≡ None →
    lines_of_tag t.line ++ rest ≡ rest
no_line u t rest fits at = ap (λ o. lines_of_tag o ++ rest) (fits.none at)

abbrev tag : ℕ → ℕ → Key → Sign → Option Line → Tag
tag source place key m line = record { source = source; place = place; key = key; sign = m; line = line }

-- the data of the open SysEx where another source's, or no data, changed
data_kept : (unders : ℕ → Under) (source : ℕ) (u : Under) (o : Option ℕ) → u.data_bytes ≡ (unders source).data_bytes →
    open_data (with_under unders source u) o ≡ open_data unders o
data_kept unders source u None same = refl
data_kept unders source u (Some x) same = ⊎_elim
    (λ (e : x ≡ source). ap (λ (data_bytes : List ℕ). Some data_bytes)
    (ap (λ y. (with_under unders source u y).data_bytes) e
    ∙ (ap (λ (v : Under). v.data_bytes) (with_under-same unders source u)
    ∙ (same ∙ ap (λ y. (unders y).data_bytes) (sym e)))))
    (λ (apart : x ≢ source). ap (λ (v : Under). Some v.data_bytes) (other x apart))
    (same_or_not x source)
  where
    other : (x : ℕ) → x ≢ source → with_under unders source u x ≡ unders x
    other x apart = grind (arith, nat_tests, apart)

data_now : (unders : ℕ → Under) (source : ℕ) (u : Under) → open_data (with_under unders source u) (Some source) ≡ Some
    u.data_bytes
data_now unders source u = ap (λ (v : Under). Some v.data_bytes) (with_under-same unders source u)

-- one more item, or none, before what follows
with_item : (item : Meant) (u : Under) (t : Tag) (other : Line) (rest : List Line) (left now : List Meant) →
    LineFitsData u t → line_at t.source u t.key t.sign ≡ Some other → other.event ≡ Ends item →
    now ≡ items_of rest ++ left → item ∷ now ≡ items_of (lines_of_tag t.line ++ rest) ++ left
with_item item u t other rest left now fits at is follows =
    let l = one_line u t other rest fits at in
    ap (λ xs. item ∷ xs) follows
    ∙ ap (λ xs. xs ++ left) (sym (ap items_of l.1 ∙ items_step l.0 (Ends item) rest (l.2 ∙ is)))

no_item : (u : Under) (t : Tag) (rest : List Line) (left now : List Meant) → LineFitsData u t →
    line_at t.source u t.key t.sign ≡ None → now ≡ items_of rest ++ left →
    now ≡ items_of (lines_of_tag t.line ++ rest) ++ left
no_item u t rest left now fits at follows = follows ∙ ap (λ xs. items_of xs ++ left) (sym (no_line u t rest fits at))

realtime_item : (b : ℕ) (u : Under) (t : Tag) (other : Line) (rest : List Line) (left now : List Meant) →
    LineFitsData u t → line_at t.source u t.key t.sign ≡ Some other → other.event ≡ Realtime b →
    now ≡ items_of rest ++ left → now ≡ items_of (lines_of_tag t.line ++ rest) ++ left
realtime_item b u t other rest left now fits at is follows =
    let l = one_line u t other rest fits at in
    follows ∙ ap (λ xs. xs ++ left) (sym (ap items_of l.1 ∙ items_step l.0 (Realtime b) rest (l.2 ∙ is)))

item_at : (unders : ℕ → Under) (o : Option ℕ) (source place : ℕ) (key : Key) (m : Sign) (line : Option Line)
    (ms : List Sign) (rest : List Line) (left : List Meant) →
    LineFitsData (unders source) (tag source place key m line) → MayFollow o source m →
    items_from (open_data (unders_after unders (tag source place key m line)) (owner_behind o source m)) ms ≡ items_of
    rest ++ left →
    items_from (open_data unders o) (m ∷ ms) ≡ items_of (lines_of_tag line ++ rest) ++ left
item_at unders o source place key (ShortSign s a b) line ms rest left fits may ih =
    ap (λ x. Message s a b ∷ items_from (open_data unders x) ms) may
    ∙ with_item (Message s a b) (unders source) (tag source place key (ShortSign s a b) line) _ rest left
    (items_from None ms) fits refl refl
    (sym (ap (λ x. items_from (open_data (unders_after unders (tag source place key (ShortSign s a b) line)) x) ms) may)
    ∙ ih)
item_at unders o source place key (RtSign b) line ms rest left fits may ih =
    realtime_item b (unders source) (tag source place key (RtSign b) line) _ rest left
    (items_from (open_data unders o) ms) fits refl refl
    (ap (λ od. items_from od ms) (sym (data_kept unders source (under_after (unders source) key (RtSign b)) o refl))
    ∙ ih)
item_at unders o source place key OpenSign line ms rest left fits may ih =
    ap (λ x. items_from (open_data unders x) (OpenSign ∷ ms)) may
    ∙ no_item (unders source) (tag source place key OpenSign line) rest left (items_from (Some []) ms) fits refl
    (ap (λ od. items_from od ms) (sym (data_now unders source (under_after (unders source) key OpenSign))) ∙ ih)
item_at unders o source place key (ByteSign b) line ms rest left fits may ih =
    ap (λ x. items_from (open_data unders x) (ByteSign b ∷ ms)) may
    ∙ no_item (unders source) (tag source place key (ByteSign b) line) rest left
    (items_from (Some ((unders source).data_bytes ++ b ∷ [])) ms) fits refl
    (ap (λ od. items_from od ms) (sym (data_now unders source (under_after (unders source) key (ByteSign b)))
    ∙ ap (open_data (unders_after unders (tag source place key (ByteSign b) line))) (sym may)) ∙ ih)
item_at unders o source place key EndSign line ms rest left fits may ih =
    ap (λ x. items_from (open_data unders x) (EndSign ∷ ms)) may
    ∙ with_item (Syx (unders source).data_bytes) (unders source) (tag source place key EndSign line) _ rest left
    (items_from None ms) fits refl refl ih
item_at unders o source place key AbortSign line ms rest left fits may ih =
    ap (λ x. items_from (open_data unders x) (AbortSign ∷ ms)) may
    ∙ with_item (Broken (unders source).data_bytes) (unders source) (tag source place key AbortSign line) _ rest left
    (items_from None ms) fits refl refl ih

pub items-heard : (unders : ℕ → Under) (o : Option ℕ) (ts : List Tag) → LinesFit unders ts → Follows o ts →
    items_from (open_data unders o) (signs_heard ts) ≡ items_of (lines_heard ts) ++ left_open
    (open_data (end_unders unders ts) (end_owner o ts))
items-heard unders o [] fits follows = refl
items-heard unders o (t ∷ ts) fits follows =
    item_at unders o t.source t.place t.key t.sign t.line (signs_heard ts) (lines_heard ts)
    (left_open (open_data (end_unders unders (t ∷ ts)) (end_owner o (t ∷ ts)))) fits.0 follows.0
    (items-heard (unders_after unders t) (owner_behind o t.source t.sign) ts fits.1 follows.1)

-- real-time messages count the messages before them

realtimes_with : (n : ℕ) (u : Under) (t : Tag) (other : Line) (rest : List Line) (item : Meant) (now : List Timed) →
    LineFitsData u t → line_at t.source u t.key t.sign ≡ Some other → other.event ≡ Ends item →
    now ≡ realtimes_of (n + counts_one item) rest → now ≡ realtimes_of n (lines_of_tag t.line ++ rest)
realtimes_with n u t other rest item now fits at is follows =
    let l = one_line u t other rest fits at in
    follows ∙ sym (ap (realtimes_of n) l.1 ∙ realtimes_step n l.0 (Ends item) rest (l.2 ∙ is))

-- whether an out has an owner
abbrev pub is_taken : Option ℕ → Bool
is_taken None = false
is_taken (Some source) = true

timed_at : (unders : ℕ → Under) (o : Option ℕ) (n source place : ℕ) (key : Key) (m : Sign) (line : Option Line)
    (ms : List Sign) (rest : List Line) →
    LineFitsData (unders source) (tag source place key m line) → MayFollow o source m →
    ((k : ℕ) → realtimes_from (is_taken (owner_behind o source m)) k ms ≡ realtimes_of k rest) →
    realtimes_from (is_taken o) n (m ∷ ms) ≡ realtimes_of n (lines_of_tag line ++ rest)
timed_at unders o n source place key (ShortSign s a b) line ms rest fits may ih =
    realtimes_with n (unders source) (tag source place key (ShortSign s a b) line) _ rest (Message s a b)
    (realtimes_from (is_taken o) (suc n) ms) fits refl refl (ih (suc n) ∙ ap (λ k. realtimes_of k rest) (more n))
  where
    more : (n : ℕ) → suc n ≡ n + 1
    more n = omega arith
timed_at unders o n source place key (RtSign b) line ms rest fits may ih =
    let l = one_line (unders source) (tag source place key (RtSign b) line) _ rest fits refl in
    ap (λ xs. (record { byte = b; after = n }) ∷ xs) (ih n)
    ∙ sym (ap (realtimes_of n) l.1 ∙ realtimes_step n l.0 (Realtime b) rest l.2)
timed_at unders o n source place key OpenSign line ms rest fits may ih =
    ih n ∙ ap (realtimes_of n) (sym (no_line (unders source) (tag source place key OpenSign line) rest fits refl))
timed_at unders o n source place key (ByteSign b) line ms rest fits may ih =
    ih n ∙ ap (realtimes_of n) (sym (no_line (unders source) (tag source place key (ByteSign b) line) rest fits refl))
timed_at unders o n source place key EndSign line ms rest fits may ih =
    ap (λ x. realtimes_from (is_taken x) n (EndSign ∷ ms)) may
    ∙ realtimes_with n (unders source) (tag source place key EndSign line) _ rest (Syx (unders source).data_bytes)
    (realtimes_from false (suc n) ms) fits refl refl (ih (suc n) ∙ ap (λ k. realtimes_of k rest) (more n))
  where
    more : (n : ℕ) → suc n ≡ n + 1
    more n = omega arith
timed_at unders o n source place key AbortSign line ms rest fits may ih =
    realtimes_with n (unders source) (tag source place key AbortSign line) _ rest (Broken (unders source).data_bytes)
    (realtimes_from false n ms) fits refl refl (ih n ∙ ap (λ k. realtimes_of k rest) (same n))
  where
    same : (n : ℕ) → n ≡ n + 0
    same n = omega arith

pub realtimes-heard : (unders : ℕ → Under) (o : Option ℕ) (n : ℕ) (ts : List Tag) → LinesFit unders ts → Follows o ts →
    realtimes_from (is_taken o) n (signs_heard ts) ≡ realtimes_of n (lines_heard ts)
realtimes-heard unders o n [] fits follows = refl
realtimes-heard unders o n (t ∷ ts) fits follows =
    timed_at unders o n t.source t.place t.key t.sign t.line (signs_heard ts) (lines_heard ts) fits.0 follows.0
    (λ k. realtimes-heard (unders_after unders t) (owner_behind o t.source t.sign) k ts fits.1 follows.1)
