-- What a call keeps true of the packets and of each cable's reader, and by what callers' loops end.
use Rattle.std.proofs.Common.{◌≡◌, ℕ, ◌+◌, ◌-◌, ◌*◌, ◌/◌, ◌%◌, ◌<◌, ◌≤◌, ◌≢◌, Bool, true, false, ◌||◌, ◌==◌, nat_le}
use Rattle.std.proofs.Common.{if◌then◌else◌, Option, Some, None, is_none, List, [], ◌∷◌, length, set, drop, get_or}
use Rattle.std.proofs.Common.{refl, sym, ◌∙◌, ap, ap₂, subst, arith}
use Rattle.std.proofs.lemmas.List.{get_or-set_same, get_or-set_other, get_or_default, length-drop}
use Rattle.std.specs.Prelude.{OnSome}
use Rattle.std.proofs.lemmas.Bool.Decides.{nat_tests}
use Rattle.mb_message.specs.declared.note.Note.{Note}
use Rattle.mb_stream.specs.Told.{Told}
use Rattle.mb_din.specs.State as din
use Rattle.mb_din.specs.State.{State}
use Rattle.mb_din.specs.declared.progress.Progress.{Progress}
use Rattle.mb_din.specs.declared.progress.Progress.TheVariants.{Idle, Running, Begun, InSysex}
use Rattle.mb_usb.specs.declared.under.Under.{Under}
use Rattle.mb_usb.specs.declared.under.Under.TheVariants.{Between, One, Two, Three}
use Rattle.mb_usb.specs.declared.under.Packets.{Packets}
use Rattle.mb_usb.specs.Under.{left_of, head_of, note_at, under_after, packet_after, packet_behind, is_rested}
use Rattle.mb_usb.specs.Hands.{Hands}
use Rattle.mb_message.specs.declared.note.NoteKind.TheVariants.{ReservedCin, CinMismatch}
use Rattle.mb_usb.specs.Reading.{suits_cin}
use Rattle.mb_usb.specs.State.{is_unbroken, reader_at, owed_by, owed_of, AreBehind}
use Rattle.mb_usb.proofs.HandsLemmas.{packet_behind-offset, hands-end}

-- A note is due only where no byte of the packet under way is still carried.

reserved : (t : Bool) (x : Note) (more : ℕ) → (is_none (if t then Some x else None) || ((if t then 0 else more) == 0)) ≡
    true
reserved true x more = refl
reserved false x more = refl

or-true : (t : Bool) → (t || true) ≡ true
or-true true = refl
or-true false = refl

rested-by : (u : Under) (b at : ℕ) → (is_none (note_at u b at) || (left_of (under_after u b) == 0)) ≡ true
rested-by Between b at = reserved (nat_le (b % 16) 1) _ _
rested-by (One h) b at = refl
rested-by (Two h a) b at = refl
rested-by (Three h a b) c at = or-true (is_none (note_at (Three h a b) c at))

pub rested-after : (p : Packets) (b : ℕ) → is_rested (packet_after p b) ≡ true
rested-after p b = rested-by p.under b p.offset

pub rested-behind : (p : Packets) (bs : List ℕ) → is_rested p ≡ true → is_rested (packet_behind p bs) ≡ true
rested-behind p [] h = h
rested-behind p (b ∷ bs) h = rested-behind (packet_after p b) bs (rested-after p b)

-- A note of a packet is none of a broken message.

reserved-unbroken : (t : Bool) (at : ℕ) → is_unbroken (if t then Some (record { kind = ReservedCin; at = at }) else
    None) ≡ true
reserved-unbroken true at = refl
reserved-unbroken false at = refl

mismatch-unbroken : (t u : Bool) (at : ℕ) → is_unbroken (if t then None else
    (if u then None else Some (record { kind = CinMismatch; at = at }))) ≡ true
mismatch-unbroken true u at = refl
mismatch-unbroken false true at = refl
mismatch-unbroken false false at = refl

unbroken-by : (u : Under) (b at : ℕ) → is_unbroken (note_at u b at) ≡ true
unbroken-by Between b at = reserved-unbroken (nat_le (b % 16) 1) at
unbroken-by (One h) b at = refl
unbroken-by (Two h a) b at = refl
unbroken-by (Three h a b) c at = mismatch-unbroken (nat_le (h % 16) 1) (suits_cin (h % 16) a b c) (at - 3)

pub unbroken-after : (p : Packets) (b : ℕ) → is_unbroken (packet_after p b).due ≡ true
unbroken-after p b = unbroken-by p.under b p.offset

pub unbroken-behind : (p : Packets) (bs : List ℕ) → is_unbroken p.due ≡ true → is_unbroken (packet_behind p bs).due ≡
    true
unbroken-behind p [] h = h
unbroken-behind p (b ∷ bs) h = unbroken-behind (packet_after p b) bs (unbroken-after p b)

-- What is owed.

pub owed-reader : (p : Progress) → din.owed_of p ≤ 1
owed-reader Idle = omega arith
owed-reader (Running s) = omega arith
owed-reader (Begun s first at) = omega arith
owed-reader InSysex = omega arith

pub owed_by-bound : (due : Option Note) (left r : ℕ) → r ≤ 1 → owed_by due left r ≤ 1
owed_by-bound (Some x) left r h = omega arith
owed_by-bound None left r h = by_left (left == 0) where
  by_left : (t : Bool) → (if t then 0 else r) ≤ 1
  by_left true = omega arith
  by_left false = h

pub owed-bound : (p : Packets) (r : State) → owed_of p r ≤ 1
owed-bound p r = owed_by-bound p.due (left_of p.under) (din.owed r) (owed-reader r.progress)

owed-carrying : (due : Option Note) (left r : ℕ) → due ≡ None → left ≢ 0 → owed_by due left r ≡ r
owed-carrying (Some x) left r e h = cc
owed-carrying None left r e h = by_left (left == 0) refl where
  by_left : (t : Bool) → (left == 0) ≡ t → (if t then 0 else r) ≡ r
  by_left true e = absurd (h (grind (arith, nat_tests)))
  by_left false e = refl

-- One cable's reader behind a call.

pub set-behind : (was now : Packets) (dins : List State) (i : ℕ) (next : State) → AreBehind was dins →
    is_rested now ≡ true → was.offset ≤ now.offset → next.offset ≡ now.offset → i < length dins →
    AreBehind now (set dins i next)
set-behind was now dins i next h rested rises at low = record {
  rested = rested;
  low = λ c below. by_test c below (c == i) refl;
} where
  by_test : (c : ℕ) → c < 16 → (t : Bool) → (c == i) ≡ t → (reader_at (set dins i next) c).offset ≤ now.offset
  by_test c below true e =
      let same : i ≡ c = grind (arith, nat_tests) in
      let read : reader_at (set dins i next) i ≡ next = get_or-set_same dins i next din.fresh low in
      let here : (reader_at (set dins i next) i).offset ≤ now.offset =
      omega (arith, ap (λ (s : State). s.offset) read) in
      subst (λ z. (reader_at (set dins i next) z).offset ≤ now.offset) same here
  by_test c below false e =
      let apart : c ≢ i = grind (arith, nat_tests) in
      let read : reader_at (set dins i next) c ≡ reader_at dins c = get_or-set_other dins i c next din.fresh apart in
      omega (arith, h.low c below, ap (λ (s : State). s.offset) read)

pub hands-rises : (was now : Packets) (reader next : State) (input left : List ℕ) (answer : List Told) →
    Hands was now reader next input left answer → was.offset ≤ now.offset
hands-rises was now reader next input left answer h =
    let at : now.offset ≡ was.offset + length h.taken = ap (λ (z : Packets). z.offset) h.packet ∙
    packet_behind-offset was h.taken in
    omega arith

pub hands-rested : (was now : Packets) (reader next : State) (input left : List ℕ) (answer : List Told) →
    Hands was now reader next input left answer → is_rested was ≡ true → is_rested now ≡ true
hands-rested was now reader next input left answer h r = ap is_rested h.packet ∙ rested-behind was h.taken r

-- Where bytes were taken, what is owed falls by more than it can rise; where none was, the cable's reader owes less.
owed-falls : (was now : Packets) (r r' next : State) (taken : List ℕ) (l l' : ℕ) → now ≡ packet_behind was taken →
    was.due ≡ None → left_of was.under ≢ 0 →
    (taken ≡ [] → r' ≡ next) → l' + length taken ≡ l → 2 * l' + din.owed next < 2 * l + din.owed r →
    2 * l' + owed_of now r' < 2 * l + owed_of was r
owed-falls was now r r' next [] l l' e none left same lengths falls =
    let old : owed_of was r ≡ din.owed r = owed-carrying was.due (left_of was.under) (din.owed r) none left in
    let new : owed_of now r' ≡ din.owed next = ap₂ owed_of e (same refl) ∙ owed-carrying was.due (left_of was.under)
    (din.owed next) none left in
    omega (arith, old, new)
owed-falls was now r r' next (b ∷ bs) l l' e none left same lengths falls = omega (arith, owed-bound now r')

pub hands-owed : (was now : Packets) (r r' next : State) (input left : List ℕ) (answer : List Told)
    (h : Hands was now r next input left answer) → was.due ≡ None → left_of was.under ≢ 0 →
    (h.taken ≡ [] → r' ≡ next) → 2 * length left + din.owed next < 2 * length input + din.owed r →
    2 * length left + owed_of now r' < 2 * length input + owed_of was r
hands-owed was now r r' next input left answer h none left_over same falls =
    let at : now.offset ≡ was.offset + length h.taken = ap (λ (z : Packets). z.offset) h.packet ∙
    packet_behind-offset was h.taken in
    let lengths : length left + length h.taken ≡ length input = omega (
      arith,
      hands-end was now r next input left answer
          h,
    ) in
    owed-falls was now r r' next h.taken (length input) (length left) h.packet none left_over same lengths falls

-- the reader that was written is the one of the packet under way, where no byte was taken
pub set-read : (was now : Packets) (dins : List State) (i : ℕ) (next : State) (taken : List ℕ) →
    now ≡ packet_behind was taken → i ≡ head_of was.under / 16 → i < length dins →
    taken ≡ [] → reader_at (set dins i next) (head_of now.under / 16) ≡ next
set-read was now dins i next taken e at low none =
    let same : head_of now.under / 16 ≡ i = ap (λ (z : Packets). head_of z.under / 16) (e ∙
    ap (packet_behind was) none) ∙ sym at in
    ap (reader_at (set dins i next)) same ∙ get_or-set_same dins i next din.fresh low

-- a reader by its index, read at any default
pub hands-read : (was now : Packets) (dins : List State) (i : ℕ) (next d : State) (input left : List ℕ)
    (answer : List Told) → i < length dins → Hands was now (get_or dins i d) next input left answer →
    Hands was now (reader_at dins i) (reader_at (set dins i next) i) input left answer
hands-read was now dins i next d input left answer low h =
    subst (λ r. Hands was now (reader_at dins i) r input left answer) (sym (get_or-set_same dins i next din.fresh low))
    (subst (λ r. Hands was now r next input left answer) (get_or_default dins i d din.fresh low) h)

pub read-behind : (was now : Packets) (dins : List State) (i : ℕ) (next d : State) (input left : List ℕ)
    (answer : List Told) → i < length dins → Hands was now (get_or dins i d) next input left answer →
    next.offset ≡ now.offset → AreBehind was dins → AreBehind now (set dins i next)
read-behind was now dins i next d input left answer low h at b =
    set-behind was now dins i next b (hands-rested was now (get_or dins i d) next input left answer h b.rested)
    (hands-rises was now (get_or dins i d) next input left answer h) at low

pub read-owed : (was now : Packets) (dins : List State) (i : ℕ) (next d : State) (input left : List ℕ)
    (answer : List Told) → i < length dins → Hands was now (get_or dins i d) next input left answer →
    i ≡ head_of was.under / 16 → was.due ≡ None → left_of was.under ≢ 0 → 2 * length left + din.owed next < 2 *
    length input + din.owed (get_or dins i d) →
    2 * length left + owed_of now (reader_at (set dins i next) (head_of now.under / 16)) < 2 * length input +
    owed_of was (reader_at dins (head_of was.under / 16))
read-owed was now dins i next d input left answer low h at none over falls =
    let here : get_or dins i d ≡ reader_at dins (head_of was.under / 16) = get_or_default dins i d din.fresh low ∙
    ap (reader_at dins) at in
    subst (λ r. 2 * length left + owed_of now (reader_at (set dins i next) (head_of now.under / 16)) < 2 *
    length input + owed_of was r) here
    (hands-owed was now (get_or dins i d) (reader_at (set dins i next) (head_of now.under / 16)) next input left answer
    h none over
    (λ nothing. set-read was now dins i next h.taken h.packet at low nothing) falls)

pub some_weaker : {T P Q : Type 0} (o : Option T) → (P → Q) → OnSome o P → OnSome o Q
some_weaker None f p = p
some_weaker (Some x) f p = f p

-- a byte that no cable carries was taken
pub pass-behind : (p q r : Packets) (dins : List State) (b : ℕ) → AreBehind p dins → q ≡ record p { due = None } →
    r ≡ packet_after q b → AreBehind r dins
pass-behind p q r dins b h same after = record {
  rested = ap is_rested after ∙ rested-after q b;
  low = λ c below. omega (
    arith,
    h.low c below,
    ap (λ (z : Packets). z.offset) same,
    ap (λ (z : Packets). z.offset)
        after,
  );
}

-- what was handed to a cable's reader was taken whole
pub shorter : (left : ℕ) (input rest behind : List ℕ) (b : ℕ) → left ≢ 0 → input ≡ b ∷ rest → behind ≡ drop left input →
    length behind < length input
shorter left input rest behind b over first e =
    omega (arith, ap length first, ap length e, length-drop left input)

pub falls : (p : Packets) (r : State) (behind input : List ℕ) (owes most : ℕ) → length behind < length input →
    2 * length input + owes ≤ most → 2 * length behind + owed_of p r ≤ most
falls p r behind input owes most less h = omega (arith, owed-bound p r)
