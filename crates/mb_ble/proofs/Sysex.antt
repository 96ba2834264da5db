-- A run of data bytes, of an open SysEx or of a channel status.
use Rattle.std.proofs.Common.{◌≡◌, ℕ, suc, ◌+◌, ◌-◌, ◌<◌, ◌≤◌, Bool, true, false, Option, Some, None, List, [], ◌∷◌}
use Rattle.std.proofs.Common.{◌++◌, length, map, refl, ap, ap₂, sym, subst, ◌∙◌, arith, append_assoc, append-nil}
use Rattle.std.proofs.Common.{length-append, inl}
use Rattle.std.specs.Prelude.{if◌then◌else◌, nat_lt, ◌==◌, not, ◌&&◌, ◌||◌, nat_le}
use Rattle.std.proofs.lemmas.Bool.Decides.{nat_tests}
use Rattle.mb_ble.proofs.Base.{Climb, climb-data, so_far-append, last_of-append, rises-to, rises-from, heard-append}
use Rattle.mb_ble.proofs.Base.{cancel}
use Rattle.mb_din.specs.Reader.{Stands, IsAhead, DinGoes}
use Rattle.mb_din.specs.State.{State, state_of}
use Rattle.mb_din.specs.Turn.{data_front}
use Rattle.mb_message.specs.Front.{IsFront}
use Rattle.mb_message.specs.Bytes.{is_channel, data_length, is_data, is_realtime}
use Rattle.mb_stream.specs.Order.{Each}
use Rattle.mb_stream.proofs.OrderLemmas.{Each-append}
use Rattle.mb_stream.specs.Groups.{Group, is_sysex, last_of, longer}
use Rattle.mb_stream.specs.Payload.{Spot, Entry, Heard, Silent, heard_from}
use Rattle.mb_stream.specs.Reading.{so_far}
use Rattle.mb_stream.specs.Told.{Told, Known}
use Rattle.mb_stream.specs.Working.{news, group_behind as behind_entry, data_news, RisesFrom}
use Rattle.mb_stream.specs.Working as stream
use Rattle.mb_ble.specs.Packets.{Token, Data, Ends, Stamp, byte_token, tokens, clock, running, is_full, resumed}
use Rattle.mb_ble.specs.Packets.{payload, spot}
use Rattle.mb_ble.specs.Reading.{lone, onto}
use Rattle.mb_ble.specs.News.{news_from}
use Rattle.mb_ble.specs.Reading.{unit_note}
use Rattle.mb_ble.specs.Stands.{last, Holds, Read}
use Rattle.mb_ble.specs.declared.content.Content.{Content}
use Rattle.mb_ble.specs.declared.content.Head.TheVariants as head
use Rattle.mb_ble.proofs.Small.{nothing}
use Rattle.mb_ble.proofs.Fronts.{Timely, timely, front-off, parts-same}
use Rattle.mb_frames.specs.Counting.{rest_parts}

abbrev pub Low : List ℕ → Type 0
Low [] = Unit {0}
Low (b ∷ bs) = (nat_lt b 128 ≡ true) × Low bs

-- data makes no System Common message whole
abbrev pub never_full : Group → Bool
never_full g = elim g.status as (λ _. Bool) [ None ↦ true | Some s ↦ is_channel s || (s == 0xf0) ]

pub sysex-never : (g : Group) → is_sysex g ≡ true → never_full g ≡ true
sysex-never g o = by g.status o
  where
    false≢true : false ≡ true → ⊥
    false≢true e = cc

    or_true : (a : Bool) → (a || true) ≡ true
    or_true true = refl
    or_true false = refl

    by : (st : Option ℕ) → (elim st as (λ _. Bool) [ None ↦ false | Some s ↦ s == 0xf0 ]) ≡ true →
        (elim st as (λ _. Bool) [ None ↦ true | Some s ↦ is_channel s || (s == 0xf0) ]) ≡ true
    by None e = refl
    by (Some s) e = ap (λ z. is_channel s || z) e ∙ or_true (is_channel s)

pub open-full : (g : Group) → never_full g ≡ true → is_full g ≡ false
open-full g o = by g.status o
  where
    false≢true : false ≡ true → ⊥
    false≢true e = cc

    by : (st : Option ℕ) → (elim st as (λ _. Bool) [ None ↦ true | Some s ↦ is_channel s || (s == 0xf0) ]) ≡ true →
        (elim st as (λ _. Bool) [
          | None ↦ false
          | Some s ↦ not (is_channel s) && elim (data_length s) as (λ _. Bool)
              [ None ↦ false | Some k ↦ nat_le k (length g.data_bytes) ]
        ]) ≡ false
    by None e = refl
    by (Some s) e = kind (is_channel s) refl e
      where
        is : (s : ℕ) → (s == 0xf0) ≡ true → s ≡ 0xf0
        is s e = grind (arith, nat_tests)

        kind : (c : Bool) → is_channel s ≡ c → (c || (s == 0xf0)) ≡ true →
            (not (is_channel s) && elim (data_length s) as (λ _. Bool) [
              | None ↦ false
              | Some k ↦ nat_le k
                  (length g.data_bytes)
            ]) ≡ false
        kind true c e = ap (λ z. not z && elim (data_length s) as (λ _. Bool) [
          | None ↦ false
          | Some k ↦ nat_le k
              (length g.data_bytes)
        ]) c
        kind false c e = subst (λ z. (not (is_channel z) && elim (data_length z) as (λ _. Bool)
            [ None ↦ false | Some k ↦ nat_le k (length g.data_bytes) ]) ≡ false) (sym (is s e)) refl

data-behind : (g : Group) (x : Spot) → is_data x.byte ≡ true → behind_entry g (Heard x) ≡ longer g x
data-behind g x e = ap₂ (λ r d. if r then g else (if d then longer g x else Rattle.mb_stream.specs.Groups.begun x))
    (not_rt x.byte e) e
  where
    not_rt : (n : ℕ) → is_data n ≡ true → is_realtime n ≡ false
    not_rt n e = grind (arith, nat_tests)

pub open-behind : (g : Group) (x : Spot) → is_data x.byte ≡ true → never_full g ≡ true →
    never_full (behind_entry g (Heard x)) ≡ true
open-behind g x e o = ap never_full (data-behind g x e) ∙ o

open-resumed : (run : Option ℕ) (es : List Entry) → never_full (last_of es) ≡ true → resumed run es ≡ es
open-resumed None es o = refl
open-resumed (Some s) es o = ap (λ c. if c then es ++ Silent s ∷ [] else es) (open-full (last_of es) o)

abbrev pub datas : ℕ → List ℕ → List Token
datas o [] = []
datas o (b ∷ bs) = Data o b ∷ datas (o + 1) bs

-- a data byte where data makes no System Common message whole
pub data-payload : (before : List Token) (o b : ℕ) → nat_lt b 128 ≡ true → never_full (last_of (payload before)) ≡
    true → payload (Data o b ∷ before) ≡ payload before ++ Heard (spot before o b) ∷ []
data-payload before o b low op = open-resumed (running before) (payload before ++ Heard (spot before o b) ∷ [])
    (ap never_full (last_of-append (payload before) (Heard (spot before o b) ∷ [])) ∙
    open-behind (last_of (payload before)) (spot before o b) low op)

pub data-open : (before : List Token) (o b : ℕ) → nat_lt b 128 ≡ true → never_full (last_of (payload before)) ≡ true →
    never_full (last_of (payload (Data o b ∷ before))) ≡ true
data-open before o b low op = ap (λ z. never_full (last_of z)) (data-payload before o b low op) ∙
    ap never_full (last_of-append (payload before) (Heard (spot before o b) ∷ [])) ∙
    open-behind (last_of (payload before)) (spot before o b) low op

-- what a run's tokens leave
pub record Ran (o m : ℕ) (before : List Token) (run : List ℕ) : Type 0 where
  pub toks : (r : ℕ) (more : List ℕ) → tokens o (last before) (rest_parts (length run + r) (run ++ more)) ≡
      datas o run ++ tokens (o + length run) (last (onto before (datas o run))) (rest_parts r more)
  pub payload_is : payload (onto before (datas o run)) ≡ payload before ++ heard_from o m run
  pub news_is : news_from before (datas o run) ≡ stream.news_from (last_of (payload before)) (heard_from o m run)
  pub clock_is : clock (onto before (datas o run)) ≡ clock before
  pub running_is : running (onto before (datas o run)) ≡ running before
  pub kind : (at b : ℕ) → byte_token at (last (onto before (datas o run))) b ≡ byte_token at (Ends 0) b
  pub stamp : (low : Bool) (rank known_at : ℕ) → lone low rank known_at (onto before (datas o run)) ≡ []

pub ran : (run : List ℕ) (o m : ℕ) (before : List Token) → Low run → never_full (last_of (payload before)) ≡ true →
    (clock before).moment ≡ m → ((at b : ℕ) → byte_token at (last before) b ≡ byte_token at (Ends 0) b) →
    ((low : Bool) (rank known_at : ℕ) → lone low rank known_at before ≡ []) → Ran o m before run
ran [] o m before low op c k s = record {
  toks = λ r more. ap₂ (λ n q. tokens n (last before) (rest_parts q more)) (zero-right o) (zero-left r);
  payload_is = sym (append-nil (payload before));
  news_is = refl;
  clock_is = refl;
  running_is = refl;
  kind = k;
  stamp = s;
}
  where
    zero-right : (n : ℕ) → n ≡ n + length {A = ℕ} []
    zero-right n = omega arith

    zero-left : (n : ℕ) → length {A = ℕ} [] + n ≡ n
    zero-left n = omega arith
ran (b ∷ run) o m before low op c k s =
    let t : Token = Data o b in
    let x : Spot = record { at = o; byte = b; moment = m } in
    let is_x : spot before o b ≡ x = ap (λ n. record { at = o; byte = b; moment = n }) c in
    let es : List Entry = payload before in
    let pay : payload (t ∷ before) ≡ es ++ Heard x ∷ [] = data-payload before o b low.0 op ∙
    ap (λ z. es ++ Heard z ∷ []) is_x in
    let rest : Ran (o + 1) m (t ∷ before) run = ran run (o + 1) m (t ∷ before) low.1 (data-open before o b low.0 op) c
    (λ at y. refl) (λ l r ka. refl) in
    let tok : byte_token o (last before) b ≡ t = k o b ∙ ap (λ c. if c then Data o b else
    Stamp o (Rattle.std.specs.Prelude.◌%◌ b 128)) low.0 in
    record {
      toks = λ r more.
          ap (λ n. tokens o (last before) (rest_parts n (b ∷ (run ++ more)))) (suc-in (length run) r)
          ∙ ap (λ u. u ∷ tokens (o + 1) u (rest_parts (length run + r) (run ++ more))) tok ∙
          ap (λ z. t ∷ z) (rest.toks r more)
          ∙ ap (λ n. t ∷ (datas (o + 1) run ++ tokens n (last (onto (t ∷ before) (datas (o + 1) run)))
          (rest_parts r more))) (one-in o (length run));
      payload_is = rest.payload_is ∙ ap (λ z. z ++ heard_from (o + 1) m run) pay ∙ append_assoc es (Heard x ∷ [])
          (heard_from (o + 1) m run);
      news_is =
          ap₂ (λ u v. (u ++ v) ++ news_from (t ∷ before) (datas (o + 1) run))
          (s (Rattle.mb_stream.specs.Told.may_run (last_of es)) 0 o) (ap (news (last_of es)) is_x)
          ∙ ap (λ z. news (last_of es) x ++ z) (rest.news_is ∙ ap (λ g. stream.news_from g (heard_from (o + 1) m run))
          (ap last_of pay ∙ last_of-append es (Heard x ∷ [])));
      clock_is = rest.clock_is;
      running_is = rest.running_is;
      kind = rest.kind;
      stamp = rest.stamp;
    }
  where
    suc-in : (n r : ℕ) → length (b ∷ run) + r ≡ suc (length run + r)
    suc-in n r = omega arith

    one-in : (o n : ℕ) → o + 1 + length run ≡ o + length (b ∷ run)
    one-in o n = omega arith

-- what data bytes make known: ranks and moments
abbrev pub High : Known → Type 0
High k = 2 < k.rank

pub run-high : (run : List ℕ) (o m : ℕ) (g : Group) → Low run → Each High (stream.news_from g (heard_from o m run))
run-high [] o m g low = tt
run-high (b ∷ run) o m g low =
    let x : Spot = record { at = o; byte = b; moment = m } in
    Each-append High (news g x) (stream.news_from (behind_entry g (Heard x)) (heard_from (o + 1) m run)) (one g x low.0)
    (run-high run (o + 1) m (behind_entry g (Heard x)) low.1)
  where
    ranks : (at low : ℕ) (ks : List Known) → 2 ≤ low → Climb at low ks → Each High ks
    ranks at low [] le c = tt
    ranks at low (k ∷ ks) le c = (omega (arith, c.1), ranks at k.rank ks (omega (arith, c.1)) c.2)

    not_rt : (n : ℕ) → is_data n ≡ true → is_realtime n ≡ false
    not_rt n e = grind (arith, nat_tests)

    one : (g : Group) (x : Spot) → is_data x.byte ≡ true → Each High (news g x)
    one g x e = subst (Each High) (sym (ap₂ (λ r d. if r then Rattle.mb_stream.specs.Told.realtime_known x ∷ [] else
        (if d then data_news g.status g.data_bytes x else Rattle.mb_stream.specs.Told.ended g x ++
        Rattle.mb_stream.specs.Told.status_told x)) (not_rt x.byte e) e))
        (ranks x.at 2 (data_news g.status g.data_bytes x) (omega arith) (climb-data g.status g.data_bytes x))

pub run-timely : (run : List ℕ) (o m : ℕ) (g : Group) → Each (Timely m) (stream.news_from g (heard_from o m run))
run-timely [] o m g = tt
run-timely (b ∷ run) o m g =
    let x : Spot = record { at = o; byte = b; moment = m } in
    Each-append (Timely m) (news g x) (stream.news_from (behind_entry g (Heard x)) (heard_from (o + 1) m run))
    (timely g x) (run-timely run (o + 1) m (behind_entry g (Heard x)))

none-ahead : (ks whole : List Known) (now was : State) → IsAhead now was ks → IsFront ks whole → Each High whole →
    ks ≡ []
none-ahead [] whole now was a f h = refl
none-ahead (k ∷ []) whole now was a f h = absurd (first (subst (Each High) f.1 h))
  where
    first : Each High (k ∷ f.0) → ⊥
    first h = omega (arith, h.0, a.2)
none-ahead (k ∷ l ∷ ks) whole now was a f h = absurd a

pub low-back : (xs ys : List ℕ) → Low (xs ++ ys) → Low ys
low-back [] ys l = l
low-back (x ∷ xs) ys l = low-back xs ys l.1

pub low-front : (xs ys : List ℕ) → Low (xs ++ ys) → Low xs
low-front [] ys l = tt
low-front (x ∷ xs) ys l = (l.0, low-front xs ys l.1)

pub heard-from : (o m : ℕ) (bs : List ℕ) (low : ℕ) → low ≤ o → RisesFrom low (heard_from o m bs)
heard-from o m [] low le = tt
heard-from o m (b ∷ bs) low le = (le, heard-from (o + 1) m bs (o + 1) (omega arith))

-- what the reader of groups told of data bytes that were handed to it
pub record RunDined (now : State) (taken : List ℕ) (seen : List Told) (es : List Entry) (o m : ℕ) : Type 0 where
  pub fresh : List Known
  pub answer_is : map (λ (k : Known). k.told) fresh ≡ seen
  pub fresh_is : fresh ≡ stream.news_from (last_of es) (heard_from o m taken)
  pub stands : Stands now (es ++ heard_from o m taken) (so_far (es ++ heard_from o m taken))
  pub offset : now.offset ≡ o + length taken

pub run_dined : (placed now : State) (handed left : List ℕ) (seen : List Told) (es : List Entry) (o m : ℕ) →
    placed.offset ≡ o → now.offset + length left ≡ o + length handed → Stands placed es (so_far es) → Low handed →
    (g : DinGoes placed now m handed left seen es (so_far es) (heard_from o m handed)) → RunDined now g.taken seen es o
    m
run_dined placed now handed left seen es o m there end st low g =
    let front : handed ≡ g.taken ++ left = g.front in
    let s0 : Stands now (es ++ heard_from o m g.taken) (so_far es ++ g.fresh) =
    subst (λ n. Stands now (es ++ heard_from n m g.taken) (so_far es ++ g.fresh)) there g.stands in
    let p : ℕ = o + length g.taken in
    let split : es ++ heard_from o m handed ≡ (es ++ heard_from o m g.taken) ++ heard_from p m left =
    ap (λ z. es ++ heard_from o m z) front ∙ ap (λ z. es ++ z) (heard-append o m g.taken left p refl) ∙
    sym (append_assoc es (heard_from o m g.taken) (heard_from p m left)) in
    let es2 : List Entry = es ++ heard_from o m g.taken in
    let off : now.offset ≡ p = omega (arith, end, ap length front, length-append g.taken left) in
    let later : so_far (es2 ++ heard_from p m left) ≡ so_far es2 ++ stream.news_from (last_of es2)
    (heard_from p m left) =
    so_far-append es2 (heard_from p m left) (rises-to 0 now.offset es2 (heard_from p m left) s0.rises
    (heard-from p m left now.offset (omega (arith, off)))) (rises-from 0 now.offset es2 s0.rises) in
    let still : IsFront s0.ahead (stream.news_from (last_of es2) (heard_from p m left)) =
    front-off (so_far es2) s0.ahead (stream.news_from (last_of es2) (heard_from p m left))
    (subst (λ z. IsFront z (so_far es2 ++ stream.news_from (last_of es2) (heard_from p m left))) s0.told_is
    (subst (IsFront (so_far es ++ g.fresh)) (ap so_far split ∙ later) g.still)) in
    let none : s0.ahead ≡ [] = none-ahead s0.ahead (stream.news_from (last_of es2) (heard_from p m left)) now
    (state_of now.offset (last_of es2)) s0.state still (run-high left p m (last_of es2)
    (low-back g.taken left (subst Low front low))) in
    let all : so_far es ++ g.fresh ≡ so_far es2 = s0.told_is ∙ ap (λ z. so_far es2 ++ z) none ∙
    append-nil (so_far es2) in
    let grows : so_far es2 ≡ so_far es ++ stream.news_from (last_of es) (heard_from o m g.taken) =
    so_far-append es (heard_from o m g.taken) (rises-to 0 placed.offset es (heard_from o m g.taken) st.rises
    (heard-from o m g.taken placed.offset (omega (arith, there)))) (rises-from 0 placed.offset es st.rises) in
    record {
      fresh = g.fresh;
      answer_is = g.answer_is;
      fresh_is = cancel (so_far es) g.fresh (stream.news_from (last_of es) (heard_from o m g.taken)) (all ∙ grows);
      stands = subst (λ z. Stands now es2 z) all s0;
      offset = off;
    }

-- the content's reader hands the data bytes at the front on
pub low-data : (bs : List ℕ) → Low (data_front bs)
low-data [] = tt
low-data (b ∷ bs) = by (is_data b) refl (low-data bs)
  where
    by : (d : Bool) → is_data b ≡ d → Low (data_front bs) → Low (if d then b ∷ data_front bs else [])
    by true e l = (e, l)
    by false e l = tt

-- some bytes were taken
pub run_taken : (was now : Content) (b : ℕ) (run left : List ℕ) (seen : List Told) (before : List Token)
    (told : List Known) (room : ℕ) (following : List ℕ) (stamp : List Known) (dinm : State) → Holds was before told →
    nat_lt b 128 ≡ true → Low run →
    byte_token was.offset (last before) b ≡ Data was.offset b → unit_note before (Data was.offset b) ≡ told →
    never_full (last_of (payload before)) ≡ true → length (b ∷ run) ≤ room →
    RunDined dinm (b ∷ run) seen (payload before) was.offset (clock before).moment → now ≡ record was {
      offset =
          was.offset + length (b ∷ run);
      head = head.Inside;
      din = dinm;
    } → Read was now ((b ∷ run) ++ left) left seen
    before told room following
run_taken was now b run left seen before told room following stamp dinm holds low lows tok note op fits d is =
    subst (λ c. Read was c ((b ∷ run) ++ left) left seen before told room following) (sym is) read
  where
    o : ℕ
    o = was.offset

    m : ℕ
    m = (clock before).moment

    t : Token
    t = Data was.offset b

    es : List Entry
    es = payload before

    x : Spot
    x = spot before was.offset b

    goes : Content
    goes = record was { offset = was.offset + length (b ∷ run); head = head.Inside; din = dinm }

    r : Ran (was.offset + 1) (clock before).moment (t ∷ before) run
    r = ran run (was.offset + 1) (clock before).moment (t ∷ before) lows (data-open before was.offset b low op) refl
        (λ at y. refl) (λ l r ka. refl)

    pay : payload (onto (t ∷ before) (datas (was.offset + 1) run)) ≡ es ++ heard_from was.offset (clock before).moment
        (b ∷ run)
    pay = r.payload_is ∙ ap (λ z. z ++ heard_from (o + 1) m run) (data-payload before was.offset b low op) ∙
        append_assoc es (Heard x ∷ []) (heard_from (o + 1) m run)

    news_all : news_from before (t ∷ datas (was.offset + 1) run) ≡ told ++
        stream.news_from (last_of es) (heard_from was.offset (clock before).moment (b ∷ run))
    news_all =
        ap (λ z. (z ++ news (last_of es) x) ++ news_from (t ∷ before) (datas (o + 1) run)) note ∙
        append_assoc told (news (last_of es) x) (news_from (t ∷ before) (datas (o + 1) run))
        ∙ ap (λ z. told ++ (news (last_of es) x ++ z)) (r.news_is ∙
        ap (λ g. stream.news_from g (heard_from (o + 1) m run))
        (ap last_of (data-payload before was.offset b low op) ∙ last_of-append es (Heard x ∷ [])))

    sums : (room : ℕ) → length (b ∷ run) ≤ room → room ≡ suc (length run + (room - length (b ∷ run)))
    sums room le = omega (arith, le)

    shift : (o : ℕ) → o + 1 + length run ≡ o + length (b ∷ run)
    shift o = omega arith

    open-now : never_full (last_of (payload (onto (t ∷ before) (datas (was.offset + 1) run)))) ≡ true
    open-now = ran-open run (was.offset + 1) (t ∷ before) lows (data-open before was.offset b low op)
      where
        ran-open : (run : List ℕ) (o : ℕ) (before : List Token) → Low run → never_full (last_of (payload before)) ≡
            true → never_full (last_of (payload (onto before (datas o run)))) ≡ true
        ran-open [] o before l op = op
        ran-open (y ∷ run) o before l op = ran-open run (o + 1) (Data o y ∷ before) l.1 (data-open before o y l.0 op)

    read : Read was goes ((b ∷ run) ++ left) left seen before told room following
    read = record {
      new = t ∷ datas (was.offset + 1) run;
      taken = b ∷ run;
      front = refl;
      parts = λ more.
          ap (λ n. tokens o (last before) (rest_parts n (b ∷ (run ++ more)))) (sums room fits)
          ∙ ap (λ u. u ∷ tokens (o + 1) u (rest_parts (length run + (room - length (b ∷ run))) (run ++ more))) tok ∙
          ap (λ z. t ∷ z) (r.toks (room - length (b ∷ run)) more)
          ∙ ap (λ n. t ∷ (datas (o + 1) run ++ tokens n (last (onto (t ∷ before) (datas (o + 1) run)))
          (rest_parts (room - length (b ∷ run)) more))) (shift o);
      ahead = [];
      holds = record {
        clock_is = holds.clock_is ∙ sym r.clock_is;
        running_is = holds.running_is ∙ sym r.running_is;
        runs = λ s e. (
          (holds.runs s (sym r.running_is ∙ e)).0,
          open-full (last_of (payload (onto (t ∷ before) (datas (o + 1) run)))) open-now,
        );
        kind = r.kind;
        stamp = [];
        early = [];
        told_is = refl;
        stamp_is = (refl, r.stamp);
        din = subst (λ z. Stands dinm z (so_far z ++ [])) (sym pay)
            (subst (λ z. Stands dinm (es ++ heard_from o m (b ∷ run)) z)
            (sym (append-nil (so_far (es ++ heard_from o m (b ∷ run))))) d.stands);
        are_early = tt;
        here = inl refl;
        low = omega (arith, d.offset);
        rested = λ e. refl;
      };
      fresh = d.fresh;
      seen_is = parts-same m d.fresh (subst (Each (Timely m)) (sym d.fresh_is) (run-timely (b ∷ run) o m (last_of es)))
          ∙ ap₂ (λ n ts. map (λ t. record { moment = n; told = t }) ts) (ap (λ c. c.moment) (sym holds.clock_is))
          d.answer_is;
      told_is = ap (λ z. told ++ z) d.fresh_is ∙ sym news_all ∙
          sym (append-nil (news_from before (t ∷ datas (o + 1) run)));
      still = nothing _;
    }
