-- The steps of a reader of packets, for any machine: a note that is due, and a byte that no port has.
--
--   tells-due, tells-pass        the two steps
--   all_told-none                where the input is used up, all is told
--   finish-stands, start-holds   the end, and the beginning
--   anew-holds                   one port's reader begins anew
use Rattle.std.proofs.Common.{◌≡◌, ℕ, ◌+◌, ◌-◌, ◌<◌, inl, inr, Bool, true, false, ◌==◌, Option, Some, None, List, []}
use Rattle.std.proofs.Common.{◌∷◌, ◌++◌, length, map, refl, sym, ◌∙◌, ap, subst, arith, append_assoc, append-nil}
use Rattle.std.proofs.Common.{length-append}
use Rattle.std.proofs.lemmas.List.{append_cancel_left}
use Rattle.std.proofs.lemmas.Bool.Decides.{nat_tests}
use Rattle.mb_message.specs.declared.note.Note.{Note}
use Rattle.mb_stream.specs.Payload.{Entry}
use Rattle.mb_stream.specs.Groups.{Group, last_of}
use Rattle.mb_stream.specs.Told.{Told, Notes, Known}
use Rattle.mb_stream.specs.Reading.{so_far, sign_in, told_signs}
use Rattle.mb_din.specs.Reader.{Stands, IsAhead}
use Rattle.mb_message.specs.Front.{IsFront}
use Rattle.mb_din.specs.State.{State, state_of}
use Rattle.mb_ports.specs.Events.{Event, Remarked, port_payload, Ported, ported, unported, ports_so_far, ports_news}
use Rattle.mb_ports.specs.Events.{EventsRise}
use Rattle.mb_ports.specs.Machine.{Machine, remark, remarked, carried_by, spot, events_from, events, under_from}
use Rattle.mb_ports.specs.Reader.{Whole, PortsStand, Holds, all_known, bare, port_signs}
use Rattle.mb_stream.specs.ReaderLaw.{Goes, Tells, AllTold}
use Rattle.mb_ports.proofs.PortsLaw.{EventsRise-front, last_groups, ports_law, ports_so_far-append}
use Rattle.mb_ports.proofs.MachineLaw.{events_from-append, under_from-append, LowPorts, rise-notes, events-rise, Headed}
use Rattle.mb_ports.proofs.MachineLaw.{of_note, of_port, news-head, port_payload-append, port_payload-notes}

abbrev pub whole : {U : Type 0} → (offset : ℕ) → U → List Note → (ℕ → State) → Whole U
whole o u due readers = record { offset = o; under = u; due = due; readers = readers }

-- What was told ahead.

-- nothing, or one thing at the offset of the next byte that isn't a note of a packet
abbrev pub AheadAt : ℕ → List Known → Type 0
AheadAt o [] = Unit {0}
AheadAt o (k ∷ []) = (k.at ≡ o) × (k.rank < 3)
AheadAt o (k ∷ l ∷ ks) = ⊥

ahead-at : (now was : State) (ks : List Known) → was.offset ≡ now.offset → IsAhead now was ks → AheadAt now.offset ks
ahead-at now was [] e h = tt
ahead-at now was (k ∷ []) e h = (h.1 ∙ e, h.2)
ahead-at now was (k ∷ l ∷ ks) e h = h

pub stands-ahead : (now : State) (entries : List Entry) (ahead : List Known) → Stands now entries (so_far entries ++
    ahead) → AheadAt now.offset ahead
stands-ahead now entries ahead s =
    subst (AheadAt now.offset) (sym (append_cancel_left (so_far entries) ahead s.ahead s.told_is))
    (ahead-at now (state_of now.offset (last_of entries)) s.ahead refl s.state)

-- where the next events make nothing known at the next byte's offset, nothing was told ahead
pub not-ahead : (n low q o : ℕ) (gs : ℕ → Group) (es : List Event) (k : Known) (rest : List Ported) →
    EventsRise n low es → o < low → k.at ≡ o → k.rank < 3 →
    ports_news gs es ≡ ported q k ∷ rest → ⊥
not-ahead n low q o gs es k rest r h at rank e = by_head (news-head n low gs es (ported q k) rest r e) where
  by_head : Headed n low (ported q k) → ⊥
  by_head (of_note none four) = omega (arith, four)
  by_head (of_port c below is high) = omega (arith, high)

pub front-rest : (known : List Ported) (ahead news : List Ported) (told all rest : List Ported) → told ≡ known ++
    ahead → all ≡ known ++ news → all ≡ told ++ rest → news ≡ ahead ++ rest
front-rest known ahead news told all rest t a f =
    append_cancel_left known news (ahead ++ rest) (sym a ∙ (f ∙
    (ap (λ z. z ++ rest) t ∙ append_assoc known ahead rest)))

no_ahead : (n low q o : ℕ) (gs : ℕ → Group) (es : List Event) (ahead : List Known) (rest : List Ported) →
    EventsRise n low es → o < low → AheadAt o ahead →
    ports_news gs es ≡ map (ported q) ahead ++ rest → ahead ≡ []
no_ahead n low q o gs es [] rest r h a e = refl
no_ahead n low q o gs es (k ∷ []) rest r h a e = absurd (not-ahead n low q o gs es k rest r h a.0 a.1 e)
no_ahead n low q o gs es (k ∷ l ∷ ks) rest r h a e = absurd a

-- The events of what was taken, and of what follows.

pub events-more : {U : Type 0} (m : Machine U) (o : ℕ) (u : U) (bytes more : List ℕ) (taken : List Event) →
    o ≡ length bytes → u ≡ under_from m m.start bytes →
    events m bytes ≡ taken → events m (bytes ++ more) ≡ taken ++ events_from m u o more
events-more m o u bytes more taken at under are =
    let here : 0 + length bytes ≡ o = omega (arith, at) in
    events_from-append m m.start 0 bytes more ∙
    (ap (λ z. z ++ events_from m (under_from m m.start bytes) (0 + length bytes) more) are ∙
    (ap (λ z. taken ++ events_from m (under_from m m.start bytes) z more) here ∙
    ap (λ z. taken ++ events_from m z o more) (sym under)))

pub known-more : {U : Type 0} (m : Machine U) (n : ℕ) → LowPorts m n → (o : ℕ) (u : U) (bytes more : List ℕ)
    (taken : List Event) → o ≡ length bytes → u ≡ under_from m m.start bytes →
    events m bytes ≡ taken → all_known m n (bytes ++ more) ≡ ports_so_far n taken ++ ports_news (last_groups taken)
    (events_from m u o more)
known-more m n lows o u bytes more taken at under are =
    let all = events-more m o u bytes more taken at under are in
    ap (ports_so_far n) all ∙
    ports_so_far-append n 0 taken (events_from m u o more) (subst (EventsRise n 0) all (events-rise m n lows m.start 0 0
    (bytes ++ more) (omega arith)))

-- A note that is due.

payload-note : (c : ℕ) (taken : List Event) (k : Known) → port_payload c taken ≡ port_payload c (taken ++
    Remarked k ∷ [])
payload-note c taken k = sym (port_payload-append c taken (Remarked k ∷ []) ∙ append-nil (port_payload c taken))

pub tells-due : {U : Type 0} (m : Machine U) (n : ℕ) → LowPorts m n → (o : ℕ) (u : U) (rs : ℕ → State) (input : List ℕ)
    (due xs : List Note) (x : Note) → due ≡ x ∷ xs →
    Tells bare (all_known m n) (Holds m n (whole o u due rs)) (Holds m n (whole o u xs rs)) input input
    ((None, Notes x.at x.kind) ∷ [])
tells-due m n lows o u rs input due xs x e bytes told h front =
    let k = remark (o - 1) x in
    let taken = h.taken ++ Remarked k ∷ [] in
    let events_are : events m bytes ≡ taken ++ remarked (o - 1) xs = h.events_are ∙
    (ap (λ z. h.taken ++ remarked (o - 1) z) e ∙ sym (append_assoc h.taken (Remarked k ∷ [])
    (remarked (o - 1) xs))) in
    let none : h.stand.ahead ≡ [] = elim h.rested [ inl no_due ↦ cc | inr rested ↦ rested ] in
    let rises : EventsRise n 0 ((h.taken ++ Remarked k ∷ []) ++ remarked (o - 1) xs) = subst (EventsRise n 0) events_are
    (events-rise m n lows m.start 0 0 bytes (omega arith)) in
    let known : ports_so_far n taken ≡ ports_so_far n h.taken ++ unported k ∷ [] = ports_so_far-append n 0 h.taken
    (Remarked k ∷ []) (EventsRise-front n 0 taken (remarked (o - 1) xs) rises) in
    let s = h.stand in
    let told_is : told ≡ ports_so_far n h.taken = s.told_is ∙ (ap (λ z. ports_so_far n h.taken ++ map (ported s.port) z)
    none ∙ append-nil (ports_so_far n h.taken)) in
    let all : told ++ unported k ∷ [] ≡ ports_so_far n taken = ap (λ z. z ++ unported k ∷ []) told_is ∙ sym known in
    let more = events-more m o u bytes input (taken ++ remarked (o - 1) xs) h.offset h.under events_are in
    let more_is : events m (bytes ++ input) ≡ taken ++ (remarked (o - 1) xs ++ events_from m u o input) = more ∙
    append_assoc taken (remarked (o - 1) xs) (events_from m u o input) in
    let later = ports_so_far-append n 0 taken (remarked (o - 1) xs ++ events_from m u o input)
    (subst (EventsRise n 0) more_is (events-rise m n lows m.start 0 0 (bytes ++ input) (omega arith))) in
    record {
      taken = [];
      front = refl;
      fresh = unported k ∷ [];
      answer_is = refl;
      stands = subst (λ bs. Holds m n (whole o u xs rs) bs (told ++ unported k ∷ [])) (sym (append-nil bytes)) (record {
        offset = h.offset;
        under = h.under;
        taken = taken;
        events_are = events_are;
        stand = record {
          port = s.port;
          below = s.below;
          ahead = [];
          told_is = all ∙ sym (append-nil (ports_so_far n taken));
          own = subst (λ es. Stands (rs s.port) es (so_far es ++ [])) (payload-note s.port h.taken k)
              (subst (λ z. Stands (rs s.port) (port_payload s.port h.taken) (so_far (port_payload s.port h.taken) ++ z))
              none s.own);
          others = λ c below other. subst (λ es. Stands (rs c) es (so_far es)) (payload-note c h.taken k)
              (s.others c below other);
        };
        here = inl refl;
        rested = inr refl;
      });
      still = (
        ports_news (last_groups taken) (remarked (o - 1) xs ++ events_from m u o input),
        ap (ports_so_far n) more_is ∙ (later ∙ ap (λ z. z ++ ports_news (last_groups taken) (remarked (o - 1) xs ++
            events_from m u o input)) (sym all)),
      );
    }

-- A byte that no port has.

passed-events : (port : Option ℕ) (at b : ℕ) (xs : List Note) → port ≡ None → (carried_by port (spot at b) ++
    remarked at xs) ++ [] ≡ remarked (at + 1 - 1) xs
passed-events (Some p) at b xs e = cc
passed-events None at b xs e = let end : at ≡ at + 1 - 1 = omega arith in append-nil (remarked at xs) ∙
    ap (λ z. remarked z xs) end

passed-rises : (n at b : ℕ) (port : Option ℕ) (xs : List Note) (es : List Event) → port ≡ None →
    EventsRise n (at + 1) es → EventsRise n (at + 1) ((carried_by port (spot at b) ++ remarked at xs) ++ es)
passed-rises n at b (Some p) xs es e r = cc
passed-rises n at b None xs es e r = rise-notes n (at + 1) at xs es (omega arith) r

pub tells-pass : {U : Type 0} (m : Machine U) (n : ℕ) → LowPorts m n → (o : ℕ) (u : U) (rs : ℕ → State) (b : ℕ)
    (left : List ℕ) → m.port u ≡ None →
    Tells bare (all_known m n) (Holds m n (whole o u [] rs)) (Holds m n (whole (o + 1) (m.after u b) (m.notes u b o)
    rs)) (b ∷ left) left []
tells-pass m n lows o u rs b left none bytes told h front =
    let s = h.stand in
    let are : events m bytes ≡ h.taken = h.events_are ∙ append-nil h.taken in
    let known = known-more m n lows o u bytes (b ∷ left) h.taken h.offset h.under are in
    let next : ports_news (last_groups h.taken) (events_from m u o (b ∷ left)) ≡ map (ported s.port) s.ahead ++
    front.0 =
    front-rest (ports_so_far n h.taken) (map (ported s.port) s.ahead) (ports_news (last_groups h.taken)
    (events_from m u o (b ∷ left))) told (all_known m n (bytes ++ b ∷ left)) front.0 s.told_is known front.1 in
    let rises : EventsRise n (o + 1) (events_from m u o (b ∷ left)) =
    passed-rises n o b (m.port u) (m.notes u b o) (events_from m (m.after u b) (o + 1) left) none
    (events-rise m n lows (m.after u b) (o + 1) (o + 1) left (omega arith)) in
    let no : s.ahead ≡ [] = elim h.here [
      | inl e ↦ e
      | inr e ↦ no_ahead n (o + 1) s.port o (last_groups h.taken) (events_from m u o (b ∷ left)) s.ahead front.0 rises
          (omega arith) (subst (λ z. AheadAt z s.ahead) e (stands-ahead (rs s.port) (port_payload s.port h.taken)
          s.ahead s.own)) next
    ] in
    let more = events-more m o u bytes (b ∷ []) h.taken h.offset h.under are ∙
    ap (λ z. h.taken ++ z) (passed-events (m.port u) o b (m.notes u b o) none) in
    record {
      taken = b ∷ [];
      front = refl;
      fresh = [];
      answer_is = refl;
      stands = subst (Holds m n (whole (o + 1) (m.after u b) (m.notes u b o) rs) (bytes ++ b ∷ []))
          (sym (append-nil told)) (record {
            offset = ap (λ z. z + 1) h.offset ∙ sym (length-append bytes (b ∷ []));
            under = ap (λ z. m.after z b) h.under ∙ sym (under_from-append m m.start bytes (b ∷ []));
            taken = h.taken;
            events_are = more;
            stand = s;
            here = inl no;
            rested = inr no;
          });
      still = (front.0, front.1 ∙ ap (λ z. z ++ front.0) (sym (append-nil told)));
    }

-- Where the input is used up, all is told.

pub map-nil : {A B : Type 0} (f : A → B) (xs : List A) → map f xs ≡ [] → xs ≡ []
map-nil f [] e = refl
map-nil f (x ∷ xs) e = cc

append-nil-front : (xs ys : List Ported) → xs ++ ys ≡ [] → xs ≡ []
append-nil-front [] ys e = refl
append-nil-front (x ∷ xs) ys e = cc

all-told : {U : Type 0} (m : Machine U) (n o : ℕ) (u : U) (rs : ℕ → State) (bytes : List ℕ) (told : List Ported) →
    Holds m n (whole o u [] rs) bytes told →
    IsFront told (all_known m n bytes) → told ≡ all_known m n bytes
all-told m n o u rs bytes told h front =
    let s = h.stand in
    let are : all_known m n bytes ≡ ports_so_far n h.taken = ap (ports_so_far n) (h.events_are ∙ append-nil h.taken) in
    let next : [] ≡ map (ported s.port) s.ahead ++ front.0 =
    front-rest (ports_so_far n h.taken) (map (ported s.port) s.ahead) [] told (all_known m n bytes) front.0 s.told_is
    (are ∙ sym (append-nil (ports_so_far n h.taken))) front.1 in
    let none : map (ported s.port) s.ahead ≡ [] = append-nil-front (map (ported s.port) s.ahead) front.0 (sym next) in
    s.told_is ∙ (ap (λ z. ports_so_far n h.taken ++ z) none ∙ (append-nil (ports_so_far n h.taken) ∙ sym are))

pub all_told-none : {U : Type 0} (m : Machine U) (n o : ℕ) (u : U) (rs : ℕ → State) (was : List ℕ → List Ported →
    Type 0) (input : List ℕ) →
    Tells bare (all_known m n) was (Holds m n (whole o u [] rs)) input [] [] → AllTold (all_known m n) was input
all_told-none m n o u rs was input tells bytes told h front =
    let g : Goes bare (all_known m n) (Holds m n (whole o u [] rs)) input [] [] bytes told = tells bytes told h front in
    let none : g.fresh ≡ [] = map-nil bare g.fresh g.answer_is in
    let all : bytes ++ input ≡ bytes ++ g.taken = ap (λ z. bytes ++ z) (g.front ∙ append-nil g.taken) in
    let told_is : told ++ g.fresh ≡ told = ap (λ z. told ++ z) none ∙ append-nil told in
    sym told_is ∙ (all-told m n o u rs (bytes ++ g.taken) (told ++ g.fresh) g.stands (
      g.still.0,
      ap (all_known m n) (sym all) ∙ g.still.1,
    ) ∙ ap (all_known m n) (sym all))

-- with nothing told ahead
pub every-stands : (n : ℕ) (rs : ℕ → State) (taken : List Event) (told : List Ported) (s : PortsStand n rs taken told) →
    s.ahead ≡ [] → (c : ℕ) → c < n →
    Stands (rs c) (port_payload c taken) (so_far (port_payload c taken))
every-stands n rs taken told s none c below = by_test (c == s.port) refl where
  by_test : (t : Bool) → (c == s.port) ≡ t → Stands (rs c) (port_payload c taken) (so_far (port_payload c taken))
  by_test true e =
      let same : s.port ≡ c = grind (arith, nat_tests) in
      let own : Stands (rs s.port) (port_payload s.port taken) (so_far (port_payload s.port taken)) =
      subst (Stands (rs s.port) (port_payload s.port taken)) (ap (λ z. so_far (port_payload s.port taken) ++ z) none ∙
      append-nil (so_far (port_payload s.port taken))) s.own in
      subst (λ p. Stands (rs p) (port_payload p taken) (so_far (port_payload p taken))) same own
  by_test false e = let apart : (c ≡ s.port) → ⊥ = grind (arith, nat_tests) in s.others c below apart

-- The beginning, and the end.

pub start-holds : {U : Type 0} (m : Machine U) (n : ℕ) (rs : ℕ → State) → 0 < n →
    ((c : ℕ) → c < n → Stands (rs c) [] []) → Holds m n (whole 0 m.start [] rs) [] []
start-holds m n rs some fresh =
    let nothing : ports_so_far n [] ≡ [] = ports_law n 0 [] tt in
    record {
      offset = refl;
      under = refl;
      taken = [];
      events_are = refl;
      stand = record {
        port = 0;
        below = some;
        ahead = [];
        told_is = sym nothing ∙ sym (append-nil (ports_so_far n []));
        own = fresh 0 some;
        others = λ c below other. fresh c below;
      };
      here = inl refl;
      rested = inr refl;
    }

-- notes that are to be told make something known
undue : (gs : ℕ → Group) (at : ℕ) (due : List Note) → [] ≡ ports_news gs (remarked at due) → due ≡ []
undue gs at [] e = refl
undue gs at (x ∷ xs) e = cc

-- where all is told, nothing was told ahead, and no note is to be told
pub all_told-rests : {U : Type 0} (m : Machine U) (n : ℕ) → LowPorts m n → (o : ℕ) (u : U) (due : List Note) (rs : ℕ →
    State) (bytes : List ℕ) →
    (h : Holds m n (whole o u due rs) bytes (all_known m n bytes)) → (h.stand.ahead ≡ []) × (due ≡ [])
all_told-rests m n lows o u due rs bytes h =
    let s = h.stand in
    let known : all_known m n bytes ≡ ports_so_far n h.taken ++ ports_news (last_groups h.taken)
    (remarked (o - 1) due) =
    ap (ports_so_far n) h.events_are ∙ ports_so_far-append n 0 h.taken (remarked (o - 1) due)
    (subst (EventsRise n 0) h.events_are (events-rise m n lows m.start 0 0 bytes (omega arith))) in
    let same : map (ported s.port) s.ahead ≡ ports_news (last_groups h.taken) (remarked (o - 1) due) =
    append_cancel_left (ports_so_far n h.taken) _ _ (sym s.told_is ∙ known) in
    let none : s.ahead ≡ [] = elim h.rested [
      | inl e ↦ map-nil (ported s.port) s.ahead (same ∙ ap (λ z. ports_news (last_groups h.taken) (remarked (o - 1) z))
          e)
      | inr e ↦ e
    ] in
    (none, undue (last_groups h.taken) (o - 1) due (sym (ap (map (ported s.port)) none) ∙ same))

-- where all is told, each port's reader stands for the port's payload
pub finish-stands : {U : Type 0} (m : Machine U) (n : ℕ) → LowPorts m n → (o : ℕ) (u : U) (due : List Note) (rs : ℕ →
    State) (bytes : List ℕ) → Holds m n (whole o u due rs) bytes (all_known m n bytes) →
    (c : ℕ) → c < n → Stands (rs c) (port_payload c (events m bytes)) (so_far (port_payload c (events m bytes)))
finish-stands m n lows o u due rs bytes h c below =
    let rests : (h.stand.ahead ≡ []) × (due ≡ []) = all_told-rests m n lows o u due rs bytes h in
    let payload : port_payload c h.taken ≡ port_payload c (events m bytes) =
    sym (ap (port_payload c) h.events_are ∙ (port_payload-append c h.taken (remarked (o - 1) due) ∙
    (ap (λ z. port_payload c h.taken ++ z) (port_payload-notes c (o - 1) due) ∙
    append-nil (port_payload c h.taken)))) in
    subst (λ es. Stands (rs c) es (so_far es)) payload (every-stands n rs h.taken (all_known m n bytes) h.stand rests.0
    c below)

-- One port's reader begins anew where all was told: it stands for a recording of the same length and with the same
-- packet under way, in which that port carries nothing and each other what it carried.
pub anew-holds : {U : Type 0} (m : Machine U) (n : ℕ) → LowPorts m n → (o : ℕ) (u : U) (due : List Note) (rs now : ℕ →
    State) (bytes instead : List ℕ) (p : ℕ) → p < n →
    Holds m n (whole o u due rs) bytes (all_known m n bytes) → length instead ≡ length bytes →
    under_from m m.start instead ≡ under_from m m.start bytes →
    port_payload p (events m instead) ≡ [] → ((c : ℕ) → c < n → (c ≡ p → ⊥) → port_payload c (events m instead) ≡
    port_payload c (events m bytes)) →
    Stands (now p) [] [] → ((c : ℕ) → c < n → (c ≡ p → ⊥) → now c ≡ rs c) → Holds m n (whole o u due now) instead
    (all_known m n instead)
anew-holds m n lows o u due rs now bytes instead p below h lengths same silent payloads fresh others =
    let rests : (h.stand.ahead ≡ []) × (due ≡ []) = all_told-rests m n lows o u due rs bytes h in
    record {
      offset = h.offset ∙ sym lengths;
      under = h.under ∙ sym same;
      taken = events m instead;
      events_are = sym (ap (λ z. events m instead ++ remarked (o - 1) z) rests.1 ∙ append-nil (events m instead));
      stand = record {
        port = p;
        below = below;
        ahead = [];
        told_is = sym (append-nil (all_known m n instead));
        own = subst (λ es. Stands (now p) es (so_far es ++ [])) (sym silent) fresh;
        others = λ c low apart.
            subst (λ (s : State). Stands s (port_payload c (events m instead))
            (so_far (port_payload c (events m instead)))) (sym (others c low apart))
            (subst (λ es. Stands (rs c) es (so_far es)) (sym (payloads c low apart)) (finish-stands m n lows o u due rs
            bytes h c low));
      };
      here = inl refl;
      rested = inl rests.1;
    }

-- the marks of what one port's reader tells
pub port_signs-port : (c : ℕ) (ts : List Told) → port_signs (map (λ t. (Some c, t)) ts) ≡ told_signs ts
port_signs-port c [] = refl
port_signs-port c (t ∷ ts) = ap (λ z. sign_in t ++ z) (port_signs-port c ts)
