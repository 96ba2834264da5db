-- A reader of BLE-MIDI packets, by the public clauses of `BleReader`.
use Rattle.std.proofs.Common.{◌≡◌, ℕ, zero, suc, Bool, true, false, Option, Some, None, List, [], ◌∷◌, ◌++◌, map, refl}
use Rattle.std.proofs.Common.{sym, ◌∙◌, ap, subst, IfSome, IfNone}
use Rattle.std.specs.Prelude.{IsSome, OnSome, ◌↔◌}
use Rattle.std.proofs.lemmas.Bool.{false≢true}
use Rattle.std.proofs.lemmas.List.{append-nil}
use Rattle.mb_message.specs.Front.{IsFront}
use Rattle.mb_message.specs.declared.event.Seen.{Seen}
use Rattle.mb_stream.specs.Groups.{last_of}
use Rattle.mb_stream.specs.Order.{Each}
use Rattle.mb_stream.specs.Reading.{Part, part_of, part_at}
use Rattle.mb_stream.specs.ReaderLaw as law
use Rattle.mb_stream.specs.ReaderLaw.{bare_told, answer, told_by}
use Rattle.mb_stream.specs.Told.{Told, Known, Marks, Notes, at_end}
use Rattle.mb_din.specs.State.{State, Rests, fresh, free_now}
use Rattle.mb_frames.specs.Reading.{Place, Between, High, Within, from}
use Rattle.mb_ble.specs.Packets.{Token, tokens, clock, payload, all_tokens}
use Rattle.mb_ble.specs.Reading.{ble_known, ble_end, onto, last_tokens}
use Rattle.mb_ble.specs.Stands.{last, BleStands, BleAllTold, ble_answer, seen_of}
use Rattle.mb_ble.specs.State.{ble_moment}
use Rattle.mb_ble.specs.declared.position.Position.{Position}
use Rattle.mb_ble.specs.declared.step.BleStep.{BleStep}
use Rattle.mb_ble.proofs.Whole.{onto-append}
use Rattle.mb_carrier.specs.Carrier.{known, moment_of}
use Rattle.mb_carrier.specs.Hop.{ReaderGoes, IsAtMoment}
use Rattle.mb_carrier.specs.declared.spec.Spec.TheVariants.{Ble}

bare_parts : (ks : List Known) → map (λ (p : Part). p.told) (map part_of ks) ≡ map bare_told ks
bare_parts [] = refl
bare_parts (k ∷ ks) = ap (λ ts. k.told ∷ ts) (bare_parts ks)

bare_at : (m : ℕ) (ts : List Told) → map (λ (p : Part). p.told) (map (part_at m) ts) ≡ ts
bare_at m [] = refl
bare_at m (t ∷ ts) = ap (λ us. t ∷ us) (bare_at m ts)

answer-bare : (r : Option BleStep) → map (λ (p : Part). p.told) (ble_answer r) ≡ answer (seen_of r)
answer-bare None = refl
answer-bare (Some s) = bare_at s.moment (told_by s.seen)

-- each thing told has the step's moment
abbrev AllAt : ℕ → List Part → Type 0
AllAt m [] = Unit {0}
AllAt m (p ∷ ps) = (p.moment ≡ m) × AllAt m ps

all-at : (m n : ℕ) (ts : List Told) → m ≡ n → AllAt n (map (part_at m) ts)
all-at m n [] e = tt
all-at m n (t ∷ ts) e = (e, all-at m n ts e)

answer-at : (r : Option BleStep) (m : ℕ) → IfSome r (λ s. s.moment ≡ m) → AllAt m (ble_answer r)
answer-at None m h = tt
answer-at (Some s) m h = all-at s.moment m (told_by s.seen) h

one-at : (m own : ℕ) (t : Told) → own ≡ m → IsAtMoment m own t
one-at m own (Marks s) e = e
one-at m own (Notes at kind) e = tt

each-at : (size m : ℕ) (moments : ℕ → ℕ) (ks : List Known) → AllAt m (map part_of ks) →
    Each (λ k. IsAtMoment m (moment_of (Ble size) moments k) k.told) ks
each-at size m moments [] h = tt
each-at size m moments (k ∷ ks) h = (one-at m k.moment k.told h.0, each-at size m moments ks h.1)

pub port-goes : (size : ℕ) (was now : Position) (input left : List ℕ) (r : Option BleStep) (seen : Option Seen) →
    seen ≡ seen_of r → law.Tells part_of ble_known (BleStands was) (BleStands now) input left (ble_answer r) →
    IfSome r (λ s. s.moment ≡ ble_moment now) →
    (bytes : List ℕ) (told : List Known) → BleStands was bytes told →
    IsFront told (known (Ble size) (bytes ++ input)) →
    ReaderGoes (Ble size) (BleStands now) (λ m. ble_moment now) input left (answer seen) bytes told
port-goes size was now input left r seen e says at bytes told h front =
    let g = says bytes told h front in
    record {
      goes = record {
        taken = g.taken;
        front = g.front;
        fresh = g.fresh;
        answer_is = sym (bare_parts g.fresh) ∙ (ap (map (λ (p : Part). p.told)) g.answer_is ∙ (answer-bare r
            ∙ ap answer (sym e)));
        stands = g.stands;
        still = g.still;
      };
      times = λ moments moment have. each-at size (ble_moment now) moments g.fresh
          (subst (AllAt (ble_moment now)) (sym g.answer_is) (answer-at r (ble_moment now) at));
    }

-- nothing that was taken is kept from the caller where nothing is told
pub port-all_told : (size : ℕ) (r : Option BleStep) (seen : Option Seen) (was : Position) (input : List ℕ) →
    seen ≡ seen_of r → IfNone r (BleAllTold was input) →
    IfNone seen ((bytes : List ℕ) (told : List Known) → BleStands was bytes told →
    IsFront told (known (Ble size) (bytes ++ input)) → told ≡ known (Ble size) (bytes ++ input))
port-all_told size None seen was input e h =
    subst (λ (o : Option Seen). IfNone o ((bytes : List ℕ) (told : List Known) → BleStands was bytes told →
    IsFront told (known (Ble size) (bytes ++ input)) → told ≡ known (Ble size) (bytes ++ input))) (sym e) h
port-all_told size (Some s) seen was input e h =
    subst (λ (o : Option Seen). IfNone o ((bytes : List ℕ) (told : List Known) → BleStands was bytes told →
    IsFront told (known (Ble size) (bytes ++ input)) → told ≡ known (Ble size) (bytes ++ input))) (sym e) tt

-- What the end tells, and its moment.
pub port-ends : (r : Option BleStep) (seen : Option Seen) (bytes : List ℕ) → seen ≡ seen_of r →
    ble_answer r ≡ ble_end bytes → answer seen ≡ at_end (last_of (payload (last_tokens bytes)))
port-ends r seen bytes e h =
    ap answer e ∙ (sym (answer-bare r) ∙ (ap (map (λ (p : Part). p.told)) h
    ∙ bare_at (clock (last_tokens bytes)).moment (at_end (last_of (payload (last_tokens bytes))))))

-- the bytes of an unfinished length change no clock
clock-rest : (place : Place) (offset : ℕ) (l : Token) (before : List Token) →
    clock (onto before (tokens offset l (from place []))) ≡ clock before
clock-rest Between offset l before = refl
clock-rest (High high) offset l before = refl
clock-rest (Within zero) offset l before = refl
clock-rest (Within (suc n)) offset l before = refl

pub port-at : (was now : Position) → ble_moment now ≡ ble_moment was → (bytes : List ℕ) (told : List Known) →
    BleStands was bytes told → (clock (last_tokens bytes)).moment ≡ ble_moment now
port-at was now same bytes told st =
    let rest : List Token = tokens was.content.offset (last st.before) (from was.frames []) in
    let all : all_tokens bytes ≡ st.taken ++ rest = ap all_tokens (sym (append-nil bytes)) ∙ st.tokens_are [] in
    let here : last_tokens bytes ≡ onto st.before rest =
    ap (onto []) all ∙ (onto-append st.taken rest [] ∙ ap (λ b. onto b rest) (sym st.before_is)) in
    ap (λ ts. (clock ts).moment) here
    ∙ (ap (λ c. c.moment) (clock-rest was.frames was.content.offset (last st.before) st.before
    ∙ sym st.holds.clock_is) ∙ sym same)

-- what rests tells nothing at the end
rests-free : (s : State) → Rests s → free_now s ≡ true
rests-free s e = ap free_now e

pub port-once : (r : Option BleStep) (seen : Option Seen) (s : State) → seen ≡ seen_of r →
    IsSome r ↔ (free_now s ≡ false) → OnSome seen (Rests s → ⊥)
port-once None seen s e h = subst (λ (o : Option Seen). OnSome o (Rests s → ⊥)) (sym e) tt
port-once (Some step) seen s e h =
    subst (λ (o : Option Seen). OnSome o (Rests s → ⊥)) (sym e)
    (λ rests. false≢true (sym (h.0 refl) ∙ rests-free s rests))
