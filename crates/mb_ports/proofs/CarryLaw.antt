-- The third step of a reader of packets: bytes of one port, which its byte-stream reader takes a front of. What that
-- promises of the port's payload, all readers together promise of all ports.
use Rattle.std.proofs.Common.{◌≡◌, ℕ, ◌+◌, ◌-◌, ◌<◌, ◌≤◌, ◌⊎◌, inl, inr, false, ◌==◌, Some, List, [], ◌∷◌, ◌++◌, length}
use Rattle.std.proofs.Common.{map, refl, sym, ◌∙◌, ap, ap₂, subst, arith, append_assoc, append-nil, length-append}
use Rattle.std.proofs.lemmas.List.{append_cancel_left, append_cancel_right}
use Rattle.std.proofs.lemmas.Bool.Decides.{nat_tests}
use Rattle.mb_stream.specs.Payload.{Entry, heard_from}
use Rattle.mb_stream.specs.Groups.{Group, last_of}
use Rattle.mb_stream.specs.Told.{Told, Known}
use Rattle.mb_stream.specs.Reading.{so_far}
use Rattle.mb_stream.specs.Working.{RisesFrom, news_from}
use Rattle.mb_din.specs.Reader.{Stands, NextSays}
use Rattle.mb_message.specs.Front.{IsFront}
use Rattle.mb_din.specs.State.{State}
use Rattle.mb_din.proofs.Rises.{RisesFrom-heard, so_far-append}
use Rattle.mb_ports.specs.Events.{Event, port_payload, Ported, ported, ports_so_far, ports_news, EventsRise}
use Rattle.mb_ports.specs.Machine.{Machine, remarked, events_from, events, under_from, due_after, Steady}
use Rattle.mb_ports.specs.Reader.{PortsStand, Holds, all_known, bare}
use Rattle.mb_stream.specs.ReaderLaw.{Tells}
use Rattle.mb_ports.proofs.PortsLaw.{EventsRise-front, groups_after, ports_news-append, ports_so_far-append}
use Rattle.mb_ports.proofs.PortsLaw.{last_groups, last_groups-port}
use Rattle.mb_ports.proofs.MachineLaw.{events_from-append, under_from-append, LowPorts, rise-notes, events-rise}
use Rattle.mb_ports.proofs.MachineLaw.{carried_run, port_payload-append, port_payload-own, port_payload-other}
use Rattle.mb_ports.proofs.MachineLaw.{ports_news-run, steady-first, steady-events, steady-quiet}
use Rattle.mb_ports.proofs.ReaderLaw.{whole, AheadAt, stands-ahead, not-ahead, front-rest, events-more, known-more}
use Rattle.mb_ports.proofs.ReaderLaw.{every-stands}

map-append : {A B : Type 0} (f : A → B) (xs ys : List A) → map f (xs ++ ys) ≡ map f xs ++ map f ys
map-append f [] ys = refl
map-append f (x ∷ xs) ys = ap (λ z. f x ∷ z) (map-append f xs ys)

-- What is known of a port's payload, with bytes behind it.
heard-more : (now : State) (entries : List Entry) (told : List Known) (bs : List ℕ) → Stands now entries told →
    so_far (entries ++ heard_from now.offset 0 bs) ≡ so_far entries ++
    news_from (last_of entries) (heard_from now.offset 0 bs)
heard-more now entries told bs s =
    so_far-append entries (heard_from now.offset 0 bs) now.offset s.rises (subst (RisesFrom now.offset)
    (append-nil (heard_from now.offset 0 bs)) (RisesFrom-heard bs now.offset 0 [] tt))

-- Before the call: what was told ahead is the port's own, and its reader, put to the next byte's offset, stands for it.
record Started (n o p : ℕ) (rs : ℕ → State) (placed : State) (taken : List Event) (told : List Ported)
    (news : List Known) : Type 0 where
  ahead : List Known
  told_is : told ≡ ports_so_far n taken ++ map (ported p) ahead
  stands : Stands placed (port_payload p taken) (so_far (port_payload p taken) ++ ahead)
  others : (c : ℕ) → c < n → (c ≡ p → ⊥) → Stands (rs c) (port_payload c taken) (so_far (port_payload c taken))
  front : IsFront ahead news

abbrev pub placed_at : ℕ → State → State
placed_at o r = record r { offset = o }

started-plain : (n o p : ℕ) (rs : ℕ → State) (taken : List Event) (told : List Ported) (news : List Known)
    (s : PortsStand n rs taken told) → p < n → s.ahead ≡ [] →
    ((es : List Entry) → Stands (rs p) es (so_far es) → Stands (placed_at o (rs p)) es (so_far es)) →
    Started n o p rs (placed_at o (rs p)) taken told news
started-plain n o p rs taken told news s below none stays = record {
  ahead = [];
  told_is = s.told_is ∙ ap (λ z. ports_so_far n taken ++ map (ported s.port) z) none;
  stands = subst (Stands (placed_at o (rs p)) (port_payload p taken)) (sym (append-nil (so_far (port_payload p taken))))
      (stays (port_payload p taken) (every-stands n rs taken told s none p below));
  others = λ c low apart. every-stands n rs taken told s none c low;
  front = (news, refl);
}

-- one thing was told ahead: it is the first of what the bytes make known
first-told : (n o p q : ℕ) (k : Known) (news : List Known) (gs : ℕ → Group) (es : List Event) (rest : List Ported) →
    EventsRise n (o + 1) es → k.at ≡ o → k.rank < 3 →
    map (ported p) news ++ ports_news gs es ≡ ported q k ∷ rest → (p ≡ q) × IsFront (k ∷ []) news
first-told n o p q k [] gs es rest r at rank e = absurd (not-ahead n (o + 1) q o gs es k rest r (omega arith) at rank e)
first-told n o p q k (x ∷ xs) gs es rest r at rank e =
    let same : ported p x ≡ ported q k = cc in
    let ports : Some p ≡ Some q = ap (λ (z : Ported). z.port) same in
    let knowns : x ≡ k = ap (λ (z : Ported). z.known) same in
    let port : p ≡ q = cc in
    (port, (xs, ap (λ z. z ∷ xs) knowns))

started-ahead : (n o p : ℕ) (rs : ℕ → State) (taken : List Event) (told : List Ported) (news : List Known)
    (s : PortsStand n rs taken told) (gs : ℕ → Group) (es : List Event) (rest : List Ported)
    (ks : List Known) → s.ahead ≡ ks → p < n → (rs s.port).offset ≡ o →
    ((fs : List Entry) → Stands (rs p) fs (so_far fs) → Stands (placed_at o (rs p)) fs (so_far fs)) →
    EventsRise n (o + 1) es →
    AheadAt o ks → map (ported p) news ++ ports_news gs es ≡ map (ported s.port) ks ++ rest →
    Started n o p rs (placed_at o (rs p)) taken told news
started-ahead n o p rs taken told news s gs es rest [] e below here stays r a next = started-plain n o p rs taken told
    news s below e stays
started-ahead n o p rs taken told news s gs es rest (k ∷ l ∷ ks) e below here stays r a next = absurd a
started-ahead n o p rs taken told news s gs es rest (k ∷ []) e below here stays r a next =
    let first : (p ≡ s.port) × IsFront (k ∷ []) news = first-told n o p s.port k news gs es rest r a.0 a.1 next in
    let at : (rs p).offset ≡ o = ap (λ z. (rs z).offset) first.0 ∙ here in
    let placed : rs p ≡ placed_at o (rs p) = ap (λ z. placed_at z (rs p)) at in
    record {
      ahead = k ∷ [];
      told_is = s.told_is ∙ ap₂ (λ q z. ports_so_far n taken ++ map (ported q) z) (sym first.0) e;
      stands = subst (λ z. Stands z (port_payload p taken) (so_far (port_payload p taken) ++ k ∷ [])) placed
          (subst (λ z. Stands (rs p) (port_payload p taken) (so_far (port_payload p taken) ++ z)) e
          (subst (λ q. Stands (rs q) (port_payload q taken) (so_far (port_payload q taken) ++ s.ahead)) (sym first.0)
          s.own));
      others = λ c low apart. s.others c low (λ same. apart (same ∙ sym first.0));
      front = first.1;
    }

-- What the call's bytes make known, and what follows them.

record Cut {U : Type 0} (m : Machine U) (n o : ℕ) (u : U) (p : ℕ) (gs : ℕ → Group) (ys after : List ℕ) : Type 0 where
  es : List Event
  rises : EventsRise n (o + 1) es
  is : events_from m u o (ys ++ after) ≡ carried_run p o ys ++ es

cut : {U : Type 0} (m : Machine U) (n : ℕ) → LowPorts m n → (o : ℕ) (u : U) (p room : ℕ) (gs : ℕ → Group)
    (ys after : List ℕ) → Steady m u p room → length ys ≤ room → 0 < length ys →
    Cut m n o u p gs ys after
cut m n lows o u p room gs ys after steady fits some =
    let end = o + length ys - 1 in
    let due = due_after m u [] o ys in
    let rest = events_from m (under_from m u ys) (o + length ys) after in
    let later : EventsRise n (end + 1) rest = events-rise m n lows (under_from m u ys) (end + 1) (o + length ys) after
    (omega arith) in
    record {
      es = remarked end due ++ rest;
      rises = rise-notes n (o + 1) end due rest (omega arith) later;
      is = events_from-append m u o ys after ∙ (ap (λ z. z ++ rest) (steady-events m u p room o ys steady fits) ∙
          append_assoc (carried_run p o ys) (remarked end due) rest);
    }

port-run : (taken : List Event) (p o : ℕ) (bs : List ℕ) → port_payload p (taken ++ carried_run p o bs) ≡ port_payload p
    taken ++ heard_from o 0 bs
port-run taken p o bs = port_payload-append p taken (carried_run p o bs) ∙ ap (λ z. port_payload p taken ++
    z) (port_payload-own p o bs)

other-run : (taken : List Event) (p c o : ℕ) (bs : List ℕ) → (c ≡ p → ⊥) →
    port_payload c (taken ++ carried_run p o bs) ≡ port_payload c taken
other-run taken p c o bs apart =
    let no : (p == c) ≡ false = grind (arith, nat_tests) in
    port_payload-append c taken (carried_run p o bs) ∙ (ap (λ z. port_payload c taken ++ z) (port_payload-other p c o bs
    no) ∙ append-nil (port_payload c taken))

run-news : (taken : List Event) (p o : ℕ) (bs : List ℕ) → ports_news (last_groups taken) (carried_run p o bs) ≡
    map (ported p) (news_from (last_of (port_payload p taken)) (heard_from o 0 bs))
run-news taken p o bs =
    ports_news-run (last_groups taken) p o bs ∙ ap (λ g. map (ported p) (news_from g (heard_from o 0 bs)))
    (last_groups-port p taken)

map-pair : (p : ℕ) (ks : List Known) → map bare (map (ported p) ks) ≡ map (λ t. (Some p, t)) (map (λ k. k.told) ks)
map-pair p [] = refl
map-pair p (k ∷ ks) = ap (λ z. (Some p, k.told) ∷ z) (map-pair p ks)

regroup : (known : List Ported) (p : ℕ) (ahead fresh news more : List Known) → ahead ++ fresh ≡ news ++ more →
    (known ++ map (ported p) ahead) ++ map (ported p) fresh ≡ (known ++ map (ported p) news) ++ map (ported p) more
regroup known p ahead fresh news more e =
    append_assoc known (map (ported p) ahead) (map (ported p) fresh) ∙
    (ap (λ z. known ++ z) (sym (map-append (ported p) ahead fresh) ∙
    (ap (map (ported p)) e ∙ map-append (ported p) news more)) ∙
    sym (append_assoc known (map (ported p) news) (map (ported p) more)))

same-known : (known ahead fresh news more all : List Known) → (known ++ ahead) ++ fresh ≡ all ++ more → all ≡ known ++
    news → ahead ++ fresh ≡ news ++ more
same-known known ahead fresh news more all e a =
    append_cancel_left known (ahead ++ fresh) (news ++ more) (sym (append_assoc known ahead fresh) ∙
    (e ∙ (ap (λ z. z ++ more) a ∙ append_assoc known news more)))

front-behind : (known : List Ported) (p : ℕ) (ahead fresh rest : List Known) (later : List Ported) →
    ((known ++ map (ported p) ahead) ++ map (ported p) fresh) ++ (map (ported p) rest ++ later) ≡ known ++
    ((map (ported p) (ahead ++ fresh) ++ map (ported p) rest) ++ later)
front-behind known p ahead fresh rest later =
    ap (λ z. z ++ (map (ported p) rest ++ later)) (append_assoc known (map (ported p) ahead) (map (ported p) fresh) ∙
    ap (λ z. known ++ z) (sym (map-append (ported p) ahead fresh))) ∙
    (append_assoc known (map (ported p) (ahead ++ fresh)) (map (ported p) rest ++ later) ∙
    ap (λ z. known ++ z) (sym (append_assoc (map (ported p) (ahead ++ fresh)) (map (ported p) rest) later)))

nil-behind : (xs ys zs : List Known) → xs ≡ (xs ++ ys) ++ zs → ys ≡ []
nil-behind xs ys zs e = by_case ys (append_cancel_left xs [] (ys ++ zs) (append-nil xs ∙
    (e ∙ append_assoc xs ys zs))) where
      by_case : (ys : List Known) → [] ≡ ys ++ zs → ys ≡ []
      by_case [] h = refl
      by_case (y ∷ ys) h = cc

-- a note is due only behind all of the port's bytes, and then nothing was told ahead
rested-by : {U : Type 0} (m : Machine U) (u : U) (p room o : ℕ) (ts kept : List ℕ) (ahead : List Known) →
    Steady m u p room → length (ts ++ kept) ≤ room → (kept ≡ [] → ahead ≡ []) →
    (due_after m u [] o ts ≡ []) ⊎ (ahead ≡ [])
rested-by m u p room o ts [] ahead steady fits none = inr (none refl)
rested-by m u p room o ts (b ∷ bs) ahead steady fits none =
    inl (steady-quiet m u p room o ts steady (omega (arith, length-append ts (b ∷ bs))))

pub record Call {U : Type 0} (m : Machine U) (n o : ℕ) (u : U) (rs readers : ℕ → State) (p room : ℕ) (ys kept ts :
    List ℕ) (answer : List Told) : Type 0 where
  pub steady : Steady m u p room
  pub fits : length ys ≤ room
  pub some : 0 < length ys
  pub cut : ys ≡ ts ++ kept
  pub offset : (readers p).offset ≡ o + length ts
  pub stays : (es : List Entry) → Stands (rs p) es (so_far es) → Stands (placed_at o (rs p)) es (so_far es)
  pub says : NextSays (placed_at o (rs p)) (readers p) ys kept answer
  pub others : (c : ℕ) → c < n → (c ≡ p → ⊥) → readers c ≡ rs c

-- what is known of all events with the input: first what the bytes make known of their port
known-carry : {U : Type 0} (m : Machine U) (n : ℕ) → LowPorts m n → (o : ℕ) (u : U) (p : ℕ) (bytes ys after : List ℕ)
    (taken es : List Event) → o ≡ length bytes → u ≡ under_from m m.start bytes →
    events m bytes ≡ taken → events_from m u o (ys ++ after) ≡ carried_run p o ys ++ es →
    all_known m n (bytes ++ (ys ++ after)) ≡ ports_so_far n taken ++
    (map (ported p) (news_from (last_of (port_payload p taken)) (heard_from o 0 ys)) ++
    ports_news (groups_after (last_groups taken) (carried_run p o ys)) es)
known-carry m n lows o u p bytes ys after taken es at under are is =
    known-more m n lows o u bytes (ys ++ after) taken at under are ∙
    ap (λ z. ports_so_far n taken ++ z)
    (ap (ports_news (last_groups taken)) is ∙
    (ports_news-append (last_groups taken) (carried_run p o ys) es ∙
    ap (λ z. z ++ ports_news (groups_after (last_groups taken) (carried_run p o ys)) es) (run-news taken p o ys)))

started : {U : Type 0} (m : Machine U) (n : ℕ) → LowPorts m n → (o : ℕ) (u : U) (rs : ℕ → State) (p : ℕ)
    (bytes ys after : List ℕ) (told : List Ported) (h : Holds m n (whole o u [] rs) bytes told) (es : List Event) →
    EventsRise n (o + 1) es → events_from m u o (ys ++ after) ≡ carried_run p o ys ++ es → p < n →
    IsFront told (all_known m n (bytes ++ (ys ++ after))) →
    ((fs : List Entry) → Stands (rs p) fs (so_far fs) → Stands (placed_at o (rs p)) fs (so_far fs)) →
    Started n o p rs (placed_at o (rs p)) h.taken told (news_from (last_of (port_payload p h.taken))
    (heard_from o 0 ys))
started m n lows o u rs p bytes ys after told h es rises is below front stays =
    let s = h.stand in
    let news = news_from (last_of (port_payload p h.taken)) (heard_from o 0 ys) in
    let gs = groups_after (last_groups h.taken) (carried_run p o ys) in
    let known = known-carry m n lows o u p bytes ys after h.taken es h.offset h.under (h.events_are ∙
    append-nil h.taken) is in
    let next : map (ported p) news ++ ports_news gs es ≡ map (ported s.port) s.ahead ++ front.0 =
    front-rest (ports_so_far n h.taken) (map (ported s.port) s.ahead) (map (ported p) news ++ ports_news gs es) told
    (all_known m n (bytes ++ (ys ++ after))) front.0 s.told_is known front.1 in
    elim h.here [
      | inl none ↦ started-plain n o p rs h.taken told news s below none stays
      | inr here ↦ started-ahead n o p rs h.taken told news s gs es front.0 s.ahead refl below here stays rises
          (subst (λ z. AheadAt z s.ahead) here (stands-ahead (rs s.port) (port_payload s.port h.taken) s.ahead s.own))
          next
    ]

pub tells-carry : {U : Type 0} (m : Machine U) (n : ℕ) → LowPorts m n → (o : ℕ) (u : U) (rs readers : ℕ → State)
    (p room : ℕ) (ys after kept ts : List ℕ) (answer : List Told) →
    Call m n o u rs readers p room ys kept ts answer →
    Tells bare (all_known m n) (Holds m n (whole o u [] rs)) (Holds m n (whole (o + length ts) (under_from m u ts)
    (due_after m u [] o ts) readers)) (ys ++ after) (kept ++ after) (map (λ t. (Some p, t)) answer)
tells-carry m n lows o u rs readers p room ys after kept ts answer call bytes told h front =
    let below : p < n = lows u p (steady-first m u p room (omega (arith, call.some, call.fits)) call.steady) in
    let c = cut m n lows o u p room (last_groups h.taken) ys after call.steady call.fits call.some in
    let known = known-carry m n lows o u p bytes ys after h.taken c.es h.offset h.under (h.events_are ∙
    append-nil h.taken) c.is in
    let st = started m n lows o u rs p bytes ys after told h c.es c.rises c.is below front call.stays in
    let entries = port_payload p h.taken in
    let g = last_of entries in
    let run = heard_from o 0 ys in
    let known_ys : so_far (entries ++ run) ≡ so_far entries ++ news_from g run = heard-more (placed_at o (rs p)) entries
    (so_far entries ++ st.ahead) ys st.stands in
    let with_nothing : entries ++ (run ++ []) ≡ entries ++ run = ap (λ z. entries ++ z) (append-nil run) in
    let one_front : IsFront (so_far entries ++ st.ahead) (so_far (entries ++ (run ++ []))) = (
      st.front.0,
      ap so_far with_nothing ∙ (known_ys ∙ (ap (λ z. so_far entries ++ z) st.front.1 ∙
          sym (append_assoc (so_far entries) st.ahead st.front.0))),
    ) in
    let d = call.says 0 entries (so_far entries ++ st.ahead) [] st.stands tt one_front in
    let taken_is : d.taken ≡ ts = append_cancel_right d.taken ts kept (sym d.front ∙ call.cut) in
    let now : Stands (readers p) (entries ++ heard_from o 0 ts) ((so_far entries ++ st.ahead) ++ d.fresh) =
    subst (λ z. Stands (readers p) (entries ++ heard_from o 0 z) ((so_far entries ++ st.ahead) ++ d.fresh)) taken_is
    d.stands in
    let known_ts : so_far (entries ++ heard_from o 0 ts) ≡ so_far entries ++ news_from g (heard_from o 0 ts) =
    heard-more (placed_at o (rs p)) entries (so_far entries ++ st.ahead) ts st.stands in
    let split : st.ahead ++ d.fresh ≡ news_from g (heard_from o 0 ts) ++ now.ahead =
    same-known (so_far entries) st.ahead d.fresh (news_from g (heard_from o 0 ts)) now.ahead
    (so_far (entries ++ heard_from o 0 ts)) now.told_is known_ts in
    let taken' = h.taken ++ carried_run p o ts in
    let due = due_after m u [] o ts in
    let fits_ts : length ts ≤ room = omega (arith, call.fits, ap length call.cut, length-append ts kept) in
    let events_are : events m (bytes ++ ts) ≡ taken' ++ remarked (o + length ts - 1) due =
    events-more m o u bytes ts h.taken h.offset h.under (h.events_are ∙ append-nil h.taken) ∙
    (ap (λ z. h.taken ++ z) (steady-events m u p room o ts call.steady fits_ts) ∙
    sym (append_assoc h.taken (carried_run p o ts) (remarked (o + length ts - 1) due))) in
    let all_rise : EventsRise n 0 (taken' ++ remarked (o + length ts - 1) due) = subst (EventsRise n 0) events_are
    (events-rise m n lows m.start 0 0 (bytes ++ ts) (omega arith)) in
    let known_taken : ports_so_far n taken' ≡ ports_so_far n h.taken ++
    map (ported p) (news_from g (heard_from o 0 ts)) =
    ports_so_far-append n 0 h.taken (carried_run p o ts) (EventsRise-front n 0 taken' (remarked (o + length ts - 1) due)
    all_rise) ∙ ap (λ z. ports_so_far n h.taken ++ z) (run-news h.taken p o ts) in
    let told_now : told ++ map (ported p) d.fresh ≡ ports_so_far n taken' ++ map (ported p) now.ahead =
    ap (λ z. z ++ map (ported p) d.fresh) st.told_is ∙
    (regroup (ports_so_far n h.taken) p st.ahead d.fresh (news_from g (heard_from o 0 ts)) now.ahead split ∙
    ap (λ z. z ++ map (ported p) now.ahead) (sym known_taken)) in
    let rest_is : news_from g run ≡ (st.ahead ++ d.fresh) ++ d.still.0 =
    append_cancel_left (so_far entries) (news_from g run) ((st.ahead ++ d.fresh) ++ d.still.0)
    (sym known_ys ∙ (ap so_far (sym with_nothing) ∙ (d.still.1 ∙
    (ap (λ z. z ++ d.still.0) (append_assoc (so_far entries) st.ahead d.fresh) ∙
    append_assoc (so_far entries) (st.ahead ++ d.fresh) d.still.0)))) in
    let later = ports_news (groups_after (last_groups h.taken) (carried_run p o ys)) c.es in
    let none_ahead : kept ≡ [] → now.ahead ≡ [] = λ empty.
    let same : ys ≡ ts = call.cut ∙ (ap (λ z. ts ++ z) empty ∙ append-nil ts) in
    nil-behind (news_from g run) now.ahead d.still.0
    (rest_is ∙ ap (λ z. z ++ d.still.0) (split ∙ ap (λ z. news_from g (heard_from o 0 z) ++ now.ahead) (sym same))) in
    let own_payload : port_payload p taken' ≡ entries ++ heard_from o 0 ts = port-run h.taken p o ts in
    let fits_cut : length (ts ++ kept) ≤ room = omega (arith, call.fits, ap length call.cut) in
    record {
      taken = ts;
      front = ap (λ z. z ++ after) call.cut ∙ append_assoc ts kept after;
      fresh = map (ported p) d.fresh;
      answer_is = map-pair p d.fresh ∙ ap (map (λ t. (Some p, t))) d.answer_is;
      stands = record {
        offset = ap (λ z. z + length ts) h.offset ∙ sym (length-append bytes ts);
        under = ap (λ z. under_from m z ts) h.under ∙ sym (under_from-append m m.start bytes ts);
        taken = taken';
        events_are = events_are;
        stand = record {
          port = p;
          below = below;
          ahead = now.ahead;
          told_is = told_now;
          own = subst (λ z. Stands (readers p) z (so_far z ++ now.ahead)) (sym own_payload)
              (subst (Stands (readers p) (entries ++ heard_from o 0 ts)) now.told_is now);
          others = λ q low apart. subst (λ z. Stands (readers q) z (so_far z)) (sym (other-run h.taken p q o ts apart))
              (subst (λ z. Stands z (port_payload q h.taken) (so_far (port_payload q h.taken)))
              (sym (call.others q low apart)) (st.others q low apart));
        };
        here = inr call.offset;
        rested = rested-by m u p room o ts kept now.ahead call.steady fits_cut none_ahead;
      };
      still = (
        map (ported p) d.still.0 ++ later,
        known ∙ (ap (λ z. ports_so_far n h.taken ++ (z ++ later)) (ap (map (ported p)) rest_is ∙
            map-append (ported p) (st.ahead ++ d.fresh) d.still.0) ∙
            (sym (front-behind (ports_so_far n h.taken) p st.ahead d.fresh d.still.0 later) ∙
            ap (λ z. (z ++ map (ported p) d.fresh) ++ (map (ported p) d.still.0 ++ later)) (sym st.told_is))),
      );
    }
