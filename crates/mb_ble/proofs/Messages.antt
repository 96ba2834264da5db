-- A channel message that stands whole behind its stamp.
use Rattle.std.proofs.Common.{◌≡◌, ℕ, zero, suc, ◌+◌, ◌-◌, ◌<◌, ◌≤◌, Bool, true, false, Option, Some, None, List, []}
use Rattle.std.proofs.Common.{◌∷◌, ◌++◌, length, map, refl, ap, ap₂, sym, subst, ◌∙◌, arith, append_assoc, append-nil}
use Rattle.std.proofs.Common.{inl, inr}
use Rattle.std.specs.Prelude.{if◌then◌else◌, nat_lt, ◌⊎◌, ◌||◌, ◌&&◌, ◌==◌}
use Rattle.std.proofs.lemmas.Bool.Decides.{nat_tests}
use Rattle.mb_message.specs.Front.{IsFront}
use Rattle.mb_message.specs.Bytes.{is_channel, is_data, is_realtime}
use Rattle.mb_frames.specs.Counting.{rest_parts}
use Rattle.mb_din.specs.Reader.{Stands, DinGoes, TakesWhole, put_to}
use Rattle.mb_din.specs.State.{State}
use Rattle.mb_stream.specs.Order.{Each}
use Rattle.mb_stream.specs.Groups.{Group, begun, last_of, longer}
use Rattle.mb_stream.specs.Payload.{Spot, Entry, Heard, Silent, heard_from}
use Rattle.mb_stream.specs.Reading.{so_far}
use Rattle.mb_stream.specs.Told.{Told, Known}
use Rattle.mb_stream.specs.Working.{news, group_behind as behind_entry}
use Rattle.mb_stream.specs.Working as stream
use Rattle.mb_ble.specs.Packets.{Token, Data, Status, tokens, clock, running, is_full, resumed, payload, spot}
use Rattle.mb_ble.specs.Reading.{onto}
use Rattle.mb_ble.specs.News.{token_news, news_from}
use Rattle.mb_ble.specs.Content.{Hands, running_then}
use Rattle.mb_ble.specs.Stands.{is_heady, last, Holds, Read, Reads, Counts}
use Rattle.mb_ble.specs.State.{slack}
use Rattle.mb_ble.specs.declared.content.Head.{Head}
use Rattle.mb_ble.specs.declared.content.Content.{Content}
use Rattle.mb_ble.specs.declared.content.Head.TheVariants as head
use Rattle.mb_ble.proofs.Base.{so_far-append, last_of-append, rises-to, rises-from, cancel, told-all}
use Rattle.mb_ble.proofs.Fronts.{Timely, early-cut, each-back, front-off, parts-same}
use Rattle.mb_ble.proofs.Hands.{hands_lem}
use Rattle.mb_ble.proofs.Small.{nothing, later-not}
use Rattle.mb_ble.proofs.Bytes.{Ready, ready, Leaves, leaves}
use Rattle.mb_ble.proofs.Whole.{length-append}
use Rattle.mb_ble.proofs.Sysex.{Low, never_full, open-full, datas, data-open, Ran, ran, run-timely, heard-from}

false≢true : false ≡ true → ⊥
false≢true e = cc

-- what was taken whole was handed over and used up
pub hands_whole : (was now : State) (at : ℕ) (piece : List ℕ) (seen : List Told) → TakesWhole was now at piece seen →
    Hands was now at piece [] seen
hands_whole was now at piece seen w = hands_lem was (put_to at was) now at piece [] seen refl
    (ends now.offset (length piece) w.offset) refl w.stays w.goes
  where
    ends : (n k : ℕ) → n ≡ at + k → n + length {A = ℕ} [] ≡ at + k
    ends n k e = omega (arith, e)

channel-high : (s : ℕ) → is_channel s ≡ true → nat_lt s 128 ≡ false
channel-high s e = grind (arith, nat_tests)

-- a channel status begins a group
channel-group : (g : Group) (x : Spot) → is_channel x.byte ≡ true → behind_entry g (Heard x) ≡ begun x
channel-group g x e = ap₂ (λ r d. if r then g else (if d then longer g x else begun x)) (not_rt x.byte e)
    (not_data x.byte e)
  where
    not_rt : (n : ℕ) → is_channel n ≡ true → is_realtime n ≡ false
    not_rt n e = grind (arith, nat_tests)

    not_data : (n : ℕ) → is_channel n ≡ true → is_data n ≡ false
    not_data n e = grind (arith, nat_tests)

channel-never : (g : Group) (x : Spot) → is_channel x.byte ≡ true → never_full (behind_entry g (Heard x)) ≡ true
channel-never g x e = ap never_full (channel-group g x e) ∙ ap (λ c. c || (x.byte == 0xf0)) e

resumed-quiet : (run : Option ℕ) (es : List Entry) → is_full (last_of es) ≡ false → resumed run es ≡ es
resumed-quiet None es f = refl
resumed-quiet (Some s) es f = ap (λ c. if c then es ++ Silent s ∷ [] else es) f

runs-then : (s : ℕ) (run : Option ℕ) → is_channel s ≡ true → running_then s run ≡ Some s
runs-then s run e = ap₂ (λ l c. if l then run else (if c then Some s else rest)) (channel-high s e) e
  where
    rest : Option ℕ
    rest = if is_realtime s || Rattle.std.specs.Prelude.is_some (Rattle.mb_message.specs.Bytes.data_length s) then
        run else None

-- data behind it leaves it so
never-behind : (run : List ℕ) (o : ℕ) (before : List Token) → Low run → never_full (last_of (payload before)) ≡ true →
    never_full (last_of (payload (onto before (datas o run)))) ≡ true
never-behind [] o before l op = op
never-behind (y ∷ run) o before l op = never-behind run (o + 1) (Data o y ∷ before) l.1 (data-open before o y l.0 op)

pub message_law : (was now : Content) (dinm : State) (input left : List ℕ) (s : ℕ) (ds : List ℕ) (seen : List Told) →
    input ≡ s ∷ (ds ++ left) → is_heady was.head ≡ false → (was.head ≡ head.Inside → ⊥) → is_channel s ≡ true → Low ds →
    TakesWhole was.din dinm was.offset (s ∷ ds) seen → now ≡ record was {
      offset = was.offset + length (s ∷ ds);
      head =
          head.Inside;
      running = Some s;
      din = dinm;
    } → Reads was now input left seen
message_law was now dinm input left s ds seen e heady inside ch lows w is = record {
  reads = λ before told room following holds fits front.
      subst (λ c. Read was c input left seen before told room following) (sym is)
      (subst (λ z. Read was goes z left seen before told room following) (sym e)
      (by before told room following holds (subst (λ z. length z ≤ room) e fits)
      (subst (λ z. IsFront told (news_from before (tokens was.offset (last before) (rest_parts room (z ++
      following))))) e front)));
}
  where
    goes : Content
    goes = record was { offset = was.offset + length (s ∷ ds); head = head.Inside; running = Some s; din = dinm }

    high : nat_lt s 128 ≡ false
    high = channel-high s ch

    by : (before : List Token) (told : List Known) (room : ℕ) (following : List ℕ) → Holds was before told →
        length (s ∷ (ds ++ left)) ≤ room →
        IsFront told (news_from before (tokens was.offset (last before) (rest_parts room ((s ∷ (ds ++ left)) ++
        following)))) → Read was goes (s ∷ (ds ++ left)) left seen before told room following
    by before told zero following holds fits front = absurd (omega arith)
    by before told (suc room) following holds fits front = read
      where
        o : ℕ
        o = was.offset

        m : ℕ
        m = (clock before).moment

        es : List Entry
        es = payload before

        t : Token
        t = Status was.offset s

        x : Spot
        x = spot before was.offset s

        ns : List Known
        ns = news (last_of (payload before)) (spot before was.offset s)

        r : Ready was s before holds.stamp (Status was.offset s)
        r = ready was.head was s before told room ((ds ++ left) ++ following) refl heady (λ e. absurd (inside e))
            (λ at h l. absurd (false≢true (sym high ∙ l))) holds false high front

        l : Leaves was.offset s before (Status was.offset s)
        l = leaves was.offset s before (Status was.offset s) (inr (refl, high))

        rest : List Known
        rest = news_from (t ∷ before) (tokens (was.offset + 1) t (rest_parts room ((ds ++ left) ++ following)))

        tells : token_news before t ≡ holds.stamp ++ ns
        tells = ap₂ (λ a b. a ++ b) r.note l.news_is

        cut : IsFront holds.early ns
        cut =
            let whole : IsFront told (token_news before t ++ rest) =
            subst (λ u. IsFront told (token_news before u ++
            news_from (u ∷ before) (tokens (o + 1) u (rest_parts room ((ds ++ left) ++ following))))) r.kind
            front in
            let there : IsFront (holds.stamp ++ holds.early) (holds.stamp ++ (ns ++ rest)) =
            subst (λ z. IsFront z (holds.stamp ++ (ns ++ rest))) holds.told_is (subst (λ z. IsFront told z)
            (ap (λ z. z ++ rest) tells ∙ append_assoc holds.stamp ns rest) whole) in
            let off : IsFront holds.early (ns ++ rest) = front-off holds.stamp holds.early (ns ++ rest) there in
            early-cut o holds.early ns rest off.0 holds.are_early (later-not (t ∷ before) t o room ((ds ++ left) ++
            following)) off.1

        hands : Hands was.din dinm was.offset (s ∷ ds) [] seen
        hands = hands_whole was.din dinm was.offset (s ∷ ds) seen w

        told0 : List Known
        told0 = so_far (payload before) ++ holds.early

        placed : Stands hands.placed (payload before) told0
        placed = hands.place es told0 (how holds.here) holds.din
          where
            how : (holds.early ≡ []) ⊎ (was.din.offset ≡ was.offset) → (was.din.offset ≡ was.offset) ⊎
                (told0 ≡ so_far (payload before))
            how (inl e) = inr (ap (λ z. so_far es ++ z) e ∙ append-nil (so_far es))
            how (inr e) = inl e

        heard : List Entry
        heard = heard_from was.offset (clock before).moment (s ∷ ds)

        later : List Known
        later = stream.news_from (behind_entry (last_of (payload before)) (Heard x)) (heard_from (was.offset + 1)
            (clock before).moment ds)

        grows : so_far (payload before ++ heard) ≡ so_far (payload before) ++ (ns ++ later)
        grows = so_far-append es heard (rises-to 0 hands.placed.offset es heard placed.rises
            (heard-from o m (s ∷ ds) hands.placed.offset (omega (arith, hands.there))))
            (rises-from 0 hands.placed.offset es placed.rises)

        front0 : IsFront told0 (so_far (payload before ++ heard))
        front0 = (
          cut.0 ++ later,
          grows ∙ ap (λ z. so_far es ++ (z ++ later)) cut.1 ∙
              ap (λ z. so_far es ++ z) (append_assoc holds.early cut.0 later) ∙
              sym (append_assoc (so_far es) holds.early (cut.0 ++ later)),
        )

        g : DinGoes hands.placed dinm m (s ∷ ds) [] seen es told0 heard
        g = subst (λ n. DinGoes hands.placed dinm m (s ∷ ds) [] seen es told0 (heard_from n m (s ∷ ds))) hands.there
            (hands.next m es told0 placed (subst (λ n. IsFront told0 (so_far (es ++ heard_from n m (s ∷ ds))))
            (sym hands.there) front0))

        all_taken : g.taken ≡ s ∷ ds
        all_taken = sym (append-nil g.taken) ∙ sym g.front

        stands : Stands dinm (payload before ++ heard) (told0 ++ g.fresh)
        stands = subst (λ z. Stands dinm (es ++ heard_from o m z) (told0 ++ g.fresh)) all_taken
            (subst (λ n. Stands dinm (es ++ heard_from n m g.taken) (told0 ++ g.fresh)) hands.there g.stands)

        all : told0 ++ g.fresh ≡ so_far (payload before ++ heard)
        all = told-all dinm (es ++ heard) (told0 ++ g.fresh) stands g.still

        fresh_is : holds.early ++ g.fresh ≡ ns ++ later
        fresh_is = cancel (so_far es) (holds.early ++ g.fresh) (ns ++ later)
            (sym (append_assoc (so_far es) holds.early g.fresh) ∙ all ∙ grows)

        never : never_full (last_of (payload before ++ Heard x ∷ [])) ≡ true
        never = ap never_full (last_of-append es (Heard x ∷ [])) ∙ channel-never (last_of es) x ch

        pay_t : payload (t ∷ before) ≡ payload before ++ Heard x ∷ []
        pay_t = l.payload_is ∙ resumed-quiet (running before) (es ++ Heard x ∷ [])
            (open-full (last_of (es ++ Heard x ∷ [])) never)

        never_t : never_full (last_of (payload (t ∷ before))) ≡ true
        never_t = ap (λ z. never_full (last_of z)) pay_t ∙ never

        r2 : Ran (was.offset + 1) (clock before).moment (t ∷ before) ds
        r2 = ran ds (was.offset + 1) (clock before).moment (t ∷ before) lows never_t refl l.kind l.stamp

        pay : payload (onto (t ∷ before) (datas (was.offset + 1) ds)) ≡ payload before ++ heard
        pay = r2.payload_is ∙ ap (λ z. z ++ heard_from (o + 1) m ds) pay_t ∙ append_assoc es (Heard x ∷ [])
            (heard_from (o + 1) m ds)

        news_all : news_from before (t ∷ datas (was.offset + 1) ds) ≡ (holds.stamp ++ ns) ++ later
        news_all = ap₂ (λ a b. a ++ b) tells (r2.news_is ∙ ap (λ z. stream.news_from z (heard_from (o + 1) m ds))
            (ap last_of pay_t ∙ last_of-append es (Heard x ∷ [])))

        sums : (room : ℕ) → length (s ∷ (ds ++ left)) ≤ suc room → room ≡ length ds + (suc room - length (s ∷ ds))
        sums room le = omega (arith, le, length-append ds left)

        shift : (o : ℕ) → o + 1 + length ds ≡ o + length (s ∷ ds)
        shift o = omega arith

        left_over : ℕ
        left_over = suc room - length (s ∷ ds)

        runs_now : running (onto (t ∷ before) (datas (was.offset + 1) ds)) ≡ Some s
        runs_now = r2.running_is ∙ l.running_is ∙ runs-then s (running before) ch

        some_some : (a c : ℕ) → Some a ≡ Some c → a ≡ c
        some_some a c e = cc

        read : Read was goes (s ∷ (ds ++ left)) left seen before told (suc room) following
        read = record {
          new = t ∷ datas (was.offset + 1) ds;
          taken = s ∷ ds;
          front = refl;
          parts = λ more.
              ap (λ n. tokens o (last before) (rest_parts (suc n) (s ∷ (ds ++ more)))) (sums room fits)
              ∙ ap (λ u. u ∷ tokens (o + 1) u (rest_parts (length ds + left_over) (ds ++ more))) r.kind ∙
              ap (λ z. t ∷ z) (r2.toks left_over more)
              ∙ ap (λ n. t ∷ (datas (o + 1) ds ++ tokens n (last (onto (t ∷ before) (datas (o + 1) ds)))
              (rest_parts left_over more))) (shift o);
          ahead = [];
          holds = record {
            clock_is = holds.clock_is ∙ sym r2.clock_is;
            running_is = sym runs_now;
            runs = λ n e. (
              subst (λ z. is_channel z ≡ true) (some_some s n (sym runs_now ∙ e)) ch,
              open-full (last_of (payload (onto (t ∷ before) (datas (o + 1) ds))))
                  (never-behind ds (o + 1) (t ∷ before) lows never_t),
            );
            kind = r2.kind;
            stamp = [];
            early = [];
            told_is = refl;
            stamp_is = (refl, r2.stamp);
            din = subst (λ z. Stands dinm z (so_far z ++ [])) (sym pay) (subst (λ z. Stands dinm (es ++ heard) z) (all ∙
                sym (append-nil (so_far (es ++ heard)))) stands);
            are_early = tt;
            here = inl refl;
            low = omega (arith, w.offset);
            rested = λ e. refl;
          };
          fresh = g.fresh;
          seen_is = parts-same m g.fresh (each-back (Timely m) holds.early g.fresh
              (subst (Each (Timely m)) (sym fresh_is) (run-timely (s ∷ ds) o m (last_of es)))) ∙
              ap₂ (λ n ts. map (λ t. record { moment = n; told = t }) ts) (ap (λ c. c.moment) (sym holds.clock_is))
              g.answer_is;
          told_is = ap (λ z. z ++ g.fresh) holds.told_is ∙ append_assoc holds.stamp holds.early g.fresh ∙
              ap (λ z. holds.stamp ++ z) fresh_is ∙ sym (append_assoc holds.stamp ns later) ∙ sym news_all ∙
              sym (append-nil (news_from before (t ∷ datas (o + 1) ds)));
          still = nothing _;
        }

-- what is counted at it
slack-most : (h : Head) → slack h ≤ 2
slack-most head.Between = omega arith
slack-most head.Header = omega arith
slack-most head.Skip = omega arith
slack-most head.Inside = omega arith
slack-most (head.Stamped at) = omega arith
slack-most head.Spent = omega arith

pub message_counts : (was now : Content) (dinm : State) (input left : List ℕ) (s : ℕ) (ds : List ℕ) (seen : List Told) →
    input ≡ s ∷ (ds ++ left) → is_channel s ≡ true →
    TakesWhole was.din dinm was.offset (s ∷ ds) seen → now ≡ record was {
      offset = was.offset + length (s ∷ ds);
      head =
          head.Inside;
      running = Some s;
      din = dinm;
    } → Counts was now input left
message_counts was now dinm input left s ds seen e ch w is = subst (λ c. Counts was c input left) (sym is) (record {
  taken = s ∷ ds;
  front = e;
  offset = refl;
  calm = λ c. record {
    low = omega (arith, w.offset);
    runs = ch;
    moment = omega (arith, c.moment, slack-most was.head);
  };
  inside = λ z. refl;
})

-- what the reader of groups said of the bytes
pub channel_is : (s : ℕ) → 128 ≤ s → s < 240 → is_channel s ≡ true
channel_is s low high = grind (arith, nat_tests)

pub two_data : (free : Bool) (d : ℕ) → (free && is_data d) ≡ true → Low (d ∷ [])
two_data true d e = (e, tt)
two_data false d e = absurd (false≢true e)

pub three_data : (free : Bool) (d1 d2 : ℕ) → (free && is_data d1 && is_data d2) ≡ true → Low (d1 ∷ d2 ∷ [])
three_data free d1 d2 e = by free (is_data d1) refl e
  where
    by : (free low : Bool) → is_data d1 ≡ low → (free && low && is_data d2) ≡ true → Low (d1 ∷ d2 ∷ [])
    by true true l e = (l, (e, tt))
    by true false l e = absurd (false≢true e)
    by false low l e = absurd (false≢true e)
