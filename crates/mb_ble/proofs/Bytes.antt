-- A byte of a message: what it tells of a stamp, and what the reader of groups tells.
use Rattle.std.proofs.Common.{◌≡◌, ℕ, zero, suc, ◌+◌, ◌-◌, ◌*◌, ◌%◌, ◌<◌, ◌≤◌, Bool, true, false, Option, Some, None}
use Rattle.std.proofs.Common.{List, [], ◌∷◌, ◌++◌, length, map, refl, ap, ap₂, sym, subst, ◌∙◌, arith, append_assoc}
use Rattle.std.proofs.Common.{append-nil, inl, inr}
use Rattle.std.specs.Prelude.{if◌then◌else◌, nat_lt, ◌⊎◌, ◌||◌, ◌&&◌, not, is_some}
use Rattle.std.proofs.lemmas.Bool.Decides.{nat_tests}
use Rattle.mb_ble.proofs.Base.{last_of-append}
use Rattle.mb_din.specs.Reader.{Stands}
use Rattle.mb_message.specs.Front.{IsFront}
use Rattle.mb_message.specs.Bytes.{is_channel, data_length, is_data, is_realtime}
use Rattle.mb_stream.specs.Order.{Each}
use Rattle.mb_stream.proofs.OrderLemmas.{Each-append}
use Rattle.mb_stream.specs.Groups.{Group, silent, begun, last_of}
use Rattle.mb_stream.specs.Payload.{Spot, Entry, Heard, Silent}
use Rattle.mb_stream.specs.Reading.{part_of, so_far}
use Rattle.mb_stream.specs.Told.{Told, Known, may_run}
use Rattle.mb_stream.specs.Working.{news, group_behind as behind_entry}
use Rattle.mb_message.specs.declared.note.NoteKind.TheVariants.{LoneStamp}
use Rattle.mb_ble.specs.Packets.{Token, Stamp, Status, Data, Ends, byte_token, tokens, clock, running, running_after}
use Rattle.mb_ble.specs.Packets.{is_full, resumed, payload, spot}
use Rattle.mb_ble.specs.Reading.{lone, noted, unit_note}
use Rattle.mb_ble.specs.News.{byte_news, token_news, news_from}
use Rattle.mb_ble.specs.Content.{running_then, is_common, Hands, Took}
use Rattle.mb_ble.specs.Stands.{is_heady, token_behind, last, NoStamp, StampIs, Holds, Read, Reads, MayRun}
use Rattle.mb_ble.specs.declared.content.Content.{Content}
use Rattle.mb_ble.specs.declared.content.Head.{Head}
use Rattle.mb_ble.specs.declared.content.Head.TheVariants as head
use Rattle.mb_ble.proofs.Ordered.{Above}
use Rattle.mb_ble.proofs.Law.{rise-rest}
use Rattle.mb_ble.proofs.Fronts.{news-above, Fact, facts, Timely, timely, Not, none-early, data-not, early-cut}
use Rattle.mb_ble.proofs.Fronts.{front-off, front-under, front-append, each-front, each-back, parts-same}
use Rattle.mb_ble.proofs.Small.{nothing, read-one, read-none, later-not, rest_stands, reads-first}
use Rattle.std.specs.Prelude.{take}
use Rattle.mb_ble.proofs.Groups.{Dined, dined, full_seen, resumes_law, one-taken}
use Rattle.mb_frames.specs.Counting.{rest_parts}

false≢true : false ≡ true → ⊥
false≢true e = cc

-- the byte's token, and that what it tells of a stamp was told
pub record Ready (was : Content) (b : ℕ) (before : List Token) (stamp : List Known) (t : Token) : Type 0 where
  pub kind : byte_token was.offset (last before) b ≡ t
  pub note : unit_note before t ≡ stamp
  pub byte : ((t ≡ Data was.offset b) × (nat_lt b 128 ≡ true)) ⊎ ((t ≡ Status was.offset b) × (nat_lt b 128 ≡ false))

-- a lone stamp's key is below the byte's own
abbrev Late : ℕ → Known → Type 0
Late o k = 7 * o < 7 * k.at + k.rank

not-late : (o low : ℕ) (k : Known) (ks whole : List Known) → 7 * k.at + k.rank ≤ 7 * o → IsFront (k ∷ ks) whole →
    Each (Late o) whole → ⊥
not-late o low k ks whole le f a = first (subst (Each (Late o)) f.1 a)
  where
    first : Each (Late o) ((k ∷ ks) ++ f.0) → ⊥
    first a = omega (arith, a.0, le)

fact-late : (x : Spot) (ks : List Known) → Each (Fact x) ks → Each (Late x.at) ks
fact-late x [] f = tt
fact-late x (k ∷ ks) f = (omega (arith, f.0.at, f.0.rank), fact-late x ks f.1)

above-late : (o : ℕ) (ks : List Known) → Each (Above (7 * o + 5)) ks → Each (Late o) ks
above-late o [] a = tt
above-late o (k ∷ ks) a = (omega (arith, a.0.key_is), above-late o ks a.1)

later-late : (before : List Token) (t : Token) (o room : ℕ) (bytes : List ℕ) →
    Each (Late o) (news_from before (tokens (o + 1) t (rest_parts room bytes)))
later-late before t o room bytes = above-late o (news_from before (tokens (o + 1) t (rest_parts room bytes)))
    (news-above (tokens (o + 1) t (rest_parts room bytes)) before (7 * o + 5) (rise-rest room bytes (o + 1) t
    (7 * o + 5) (omega arith)))

abbrev pub LoneIs : Content → ℕ → List Token → Type 0
LoneIs was at before = (low : Bool) (rank known_at : ℕ) → lone low rank known_at before ≡
    (if low then [] else noted rank (clock before).moment known_at at LoneStamp ∷ [])

pub ready : (h : Head) (was : Content) (b : ℕ) (before : List Token) (told : List Known) (room : ℕ) (bytes : List ℕ) →
    was.head ≡ h → is_heady h ≡ false → (h ≡ head.Inside → nat_lt b 128 ≡ true) → ((at : ℕ) → h ≡ head.Stamped at →
    nat_lt b 128 ≡ true → MayRun was.din true) →
    (holds : Holds was before told) → (c : Bool) → nat_lt b 128 ≡ c →
    IsFront told (news_from before (tokens was.offset (last before) (rest_parts (suc room) (b ∷ bytes)))) →
    Ready was b before holds.stamp (if c then Data was.offset b else Status was.offset b)
ready head.Between was b before told room bytes e a inside may holds c low front = absurd (false≢true (sym a))
ready head.Header was b before told room bytes e a inside may holds c low front = absurd (false≢true (sym a))
ready head.Skip was b before told room bytes e a inside may holds c low front = absurd (false≢true (sym a))
ready head.Inside was b before told room bytes e a inside may holds false low front =
    absurd (false≢true (sym low ∙ inside refl))
ready head.Inside was b before told room bytes e a inside may holds true low front =
    let s : NoStamp before holds.stamp = subst (λ h. StampIs h was.offset before holds.stamp) e holds.stamp_is in
    record {
      kind = holds.kind was.offset b ∙ ap (λ h. byte_token was.offset (token_behind h) b) e ∙
          ap (λ c. if c then Data was.offset b else Stamp was.offset (b % 128)) low;
      note = s.1 (may_run (last_of (payload before))) 0 was.offset ∙ sym s.0;
      byte = inl (refl, low);
    }
ready (head.Stamped at) was b before told room bytes e a inside may holds false low front =
    let s : (holds.stamp ≡ []) × LoneIs was at before = subst (λ h. StampIs h was.offset before holds.stamp) e
    holds.stamp_is in
    record {
      kind = holds.kind was.offset b ∙ ap (λ h. byte_token was.offset (token_behind h) b) e ∙
          ap (λ c. if c then Data was.offset b else Status was.offset b) low;
      note = sym s.0;
      byte = inr (refl, low);
    }
ready (head.Stamped at) was b before told room bytes e a inside may holds true low front =
    let o : ℕ = was.offset in
    let s : (holds.stamp ≡ []) × LoneIs was at before = subst (λ h. StampIs h o before holds.stamp) e holds.stamp_is in
    let k : byte_token o (last before) b ≡ Data o b = holds.kind o b ∙ ap (λ h. byte_token o (token_behind h) b) e ∙
    ap (λ c. if c then Data o b else Status o b) low in
    let m : Bool = may_run (last_of (payload before)) in
    let ns : List Known = news (last_of (payload before)) (spot before o b) in
    let rest : List Known = news_from (Data o b ∷ before) (tokens (o + 1) (Data o b) (rest_parts room bytes)) in
    let is : told ≡ holds.early = holds.told_is ∙ ap (λ z. z ++ holds.early) s.0 in
    let whole : IsFront holds.early ((lone m 0 o before ++ ns) ++ rest) =
    subst (λ z. IsFront z ((lone m 0 o before ++ ns) ++ rest)) is (subst (λ u. IsFront told (token_news before u ++
    news_from (u ∷ before) (tokens (o + 1) u (rest_parts room bytes)))) k front) in
    let early : holds.early ≡ [] = none-early o holds.early ((lone m 0 o before ++ ns) ++ rest) holds.are_early whole
    (Each-append (Not o) (lone m 0 o before ++ ns) rest (Each-append (Not o) (lone m 0 o before) ns
    (subst (Each (Not o)) (sym (s.1 m 0 o)) (lone-not m)) (data-not (last_of (payload before)) (spot before o b)
    low)) (later-not (Data o b ∷ before) (Data o b) o room bytes)) in
    let on : m ≡ true = may at refl low (payload before) (rest_stands was before told holds early) in
    record {
      kind = k;
      note = s.1 m 0 o ∙ ap (λ c. if c then [] else noted 0 (clock before).moment o at LoneStamp ∷ [])
          on ∙ sym s.0;
      byte = inl (refl, low);
    }
  where
    lone-not : (c : Bool) → Each (Not was.offset) (if c then [] else noted 0 (clock before).moment was.offset at
        LoneStamp ∷ [])
    lone-not true = tt
    lone-not false = (λ e. absurd (omega (arith, e.2)), tt)
ready head.Spent was b before told room bytes e a inside may holds c low front =
    by c low (subst (λ h. StampIs h was.offset before holds.stamp) e holds.stamp_is)
  where
    o : ℕ
    o = was.offset

    ns : List Known
    ns = news (last_of (payload before)) (spot before was.offset b)

    late-ns : Each (Late was.offset) ns
    late-ns = fact-late (spot before was.offset b) ns (facts (last_of (payload before)) (spot before was.offset b))

    -- a lone stamp doesn't come behind
    no_lone : (at rank known_at : ℕ) (whole : List Known) → 7 * known_at + rank ≤ 7 * was.offset →
        holds.stamp ≡ noted rank (clock before).moment known_at at LoneStamp ∷ [] → IsFront told whole →
        Each (Late was.offset) whole → ⊥
    no_lone at rank known_at whole le is f late =
        not-late was.offset 0 (noted rank (clock before).moment known_at at LoneStamp) holds.early whole le
        (subst (λ z. IsFront z whole) (holds.told_is ∙ ap (λ z. z ++ holds.early) is) f) late

    either : (at : ℕ) (whole : List Known) → (holds.stamp ≡ noted 0 (clock before).moment was.offset at LoneStamp ∷ [])
        ⊎ ((holds.stamp ≡ noted 5 (clock before).moment (was.offset - 1) at LoneStamp ∷ []) × (0 < was.offset)) →
        IsFront told whole → Each (Late was.offset) whole → ⊥
    either at whole (inl is) f late = no_lone at 0 was.offset whole (omega arith) is f late
    either at whole (inr is) f late = no_lone at 5 (was.offset - 1) whole (omega (arith, is.1)) is.0 f late

    by : (c : Bool) → nat_lt b 128 ≡ c → StampIs head.Spent was.offset before holds.stamp →
        Ready was b before holds.stamp (if c then Data was.offset b else Status was.offset b)
    by false low s =
        let k : byte_token was.offset (last before) b ≡ Status was.offset b = holds.kind was.offset b ∙
        ap (λ h. byte_token was.offset (token_behind h) b) e ∙
        ap (λ c. if c then Data was.offset b else Status was.offset b) low in
        let rest : List Known = news_from (Status was.offset b ∷ before) (tokens (was.offset + 1) (Status was.offset b)
        (rest_parts room bytes)) in
        let whole : IsFront told (ns ++ rest) = subst (λ u. IsFront told (token_news before u ++
        news_from (u ∷ before) (tokens (was.offset + 1) u (rest_parts room bytes)))) k front in
        absurd (either s.0 (ns ++ rest) s.1 whole (Each-append (Late was.offset) ns rest late-ns
        (later-late (Status was.offset b ∷ before) (Status was.offset b) was.offset room bytes)))
    by true low s =
        let k : byte_token was.offset (last before) b ≡ Data was.offset b = holds.kind was.offset b ∙
        ap (λ h. byte_token was.offset (token_behind h) b) e ∙
        ap (λ c. if c then Data was.offset b else Status was.offset b) low in
        let rest : List Known = news_from (Data was.offset b ∷ before) (tokens (was.offset + 1) (Data was.offset b)
        (rest_parts room bytes)) in
        let m : Bool = may_run (last_of (payload before)) in
        let whole : IsFront told ((lone m 0 was.offset before ++ ns) ++ rest) =
        subst (λ u. IsFront told (token_news before u ++
        news_from (u ∷ before) (tokens (was.offset + 1) u (rest_parts room bytes)))) k front in
        record { kind = k; note = test rest m (s.2 m 0 was.offset) s.1 whole; byte = inl (refl, low) }
      where
        test : (rest : List Known) (m : Bool) → lone m 0 was.offset before ≡
            (if m then [] else noted 0 (clock before).moment was.offset s.0 LoneStamp ∷ []) →
            (holds.stamp ≡ noted 0 (clock before).moment was.offset s.0 LoneStamp ∷ []) ⊎
            ((holds.stamp ≡ noted 5 (clock before).moment (was.offset - 1) s.0 LoneStamp ∷ []) × (0 < was.offset)) →
            IsFront told ((lone m 0 was.offset before ++ ns) ++ news_from (Data was.offset b ∷ before)
            (tokens (was.offset + 1) (Data was.offset b) (rest_parts room bytes))) → lone m 0 was.offset before ≡
            holds.stamp
        test rest true is how f =
            let more : List Known = news_from (Data was.offset b ∷ before) (tokens (was.offset + 1) (Data was.offset b)
            (rest_parts room bytes)) in
            absurd (either s.0 (ns ++ more) how (subst (λ z. IsFront told ((z ++ ns) ++ more)) is f)
            (Each-append (Late was.offset) ns more late-ns (later-late (Data was.offset b ∷ before)
            (Data was.offset b) was.offset room bytes)))
        test rest false is (inl how) f = is ∙ sym how
        test rest false is (inr how) f =
            let more : List Known = news_from (Data was.offset b ∷ before) (tokens (was.offset + 1) (Data was.offset b)
            (rest_parts room bytes)) in
            absurd (two holds.early ((ns ++ more)) (subst (λ z. IsFront z (noted 0 (clock before).moment was.offset s.0
            LoneStamp ∷ (ns ++ more))) (holds.told_is ∙ ap (λ z. z ++ holds.early) how.0)
            (subst (λ z. IsFront told ((z ++ ns) ++ more)) is f)))
          where
            heads : (a c : Known) (xs ys : List Known) → a ∷ xs ≡ c ∷ ys → a ≡ c
            heads a c xs ys e = cc

            zero_five : ◌≡◌ {A = ℕ} 0 5 → ⊥
            zero_five e = omega (arith, e)

            two : (es ks : List Known) → IsFront (noted 5 (clock before).moment (was.offset - 1) s.0 LoneStamp ∷ es)
                (noted 0 (clock before).moment was.offset s.0 LoneStamp ∷ ks) → ⊥
            two es ks f = zero_five (ap (λ k. k.rank) (heads (noted 0 (clock before).moment was.offset s.0 LoneStamp)
                (noted 5 (clock before).moment (was.offset - 1) s.0 LoneStamp) ks (es ++ f.0) f.1))

-- what a byte's token leaves
pub record Leaves (o b : ℕ) (before : List Token) (t : Token) : Type 0 where
  pub news_is : byte_news before t ≡ news (last_of (payload before)) (spot before o b)
  pub payload_is : payload (t ∷ before) ≡ resumed (running before) (payload before ++ Heard (spot before o b) ∷ [])
  pub running_is : running (t ∷ before) ≡ running_then b (running before)
  pub clock_is : clock (t ∷ before) ≡ clock before
  pub kind : (at x : ℕ) → byte_token at t x ≡ byte_token at (Ends 0) x
  pub stamp : (low : Bool) (rank known_at : ℕ) → lone low rank known_at (t ∷ before) ≡ []

pub leaves : (o b : ℕ) (before : List Token) (t : Token) → ((t ≡ Data o b) × (nat_lt b 128 ≡ true)) ⊎
    ((t ≡ Status o b) × (nat_lt b 128 ≡ false)) → Leaves o b before t
leaves o b before t (inl e) = subst (Leaves o b before) (sym e.0) (record {
  news_is = refl;
  payload_is = refl;
  running_is = sym (ap (λ c. if c then running before else running_after b (running before)) e.1);
  clock_is = refl;
  kind = λ at x. refl;
  stamp = λ low rank ka. refl;
})
leaves o b before t (inr e) = subst (Leaves o b before) (sym e.0) (record {
  news_is = refl;
  payload_is = refl;
  running_is = sym (ap (λ c. if c then running before else running_after b (running before)) e.1);
  clock_is = refl;
  kind = λ at x. refl;
  stamp = λ low rank ka. refl;
})

-- the byte was handed on and stays in the input
pub kept_law : (was mid : Content) (b : ℕ) (left bs : List ℕ) (seen : List Told) → left ≡ b ∷ [] →
    mid ≡ record was { din = mid.din } → Hands was.din mid.din was.offset (b ∷ []) left seen → is_heady was.head ≡
    false →
    (was.head ≡ head.Inside → nat_lt b 128 ≡ true) → ((at : ℕ) → was.head ≡ head.Stamped at → nat_lt b 128 ≡ true →
    MayRun was.din true) →
    (before : List Token) (told : List Known) (room : ℕ) (following : List ℕ) → Holds was before told →
    IsFront told (news_from before (tokens was.offset (last before)
    (rest_parts (suc room) (b ∷ (bs ++ following))))) → Read was mid (b ∷ bs) (b ∷ bs) seen before told (suc room)
    following
kept_law was mid b left bs seen not_taken is hands a inside may before told room following holds front =
    by (ready was.head was b before told room (bs ++ following) refl a inside may holds (nat_lt b 128) refl front)
  where
    by : Ready was b before holds.stamp (if nat_lt b 128 then Data was.offset b else Status was.offset b) →
        Read was mid (b ∷ bs) (b ∷ bs) seen before told (suc room) following
    by r =
        let o : ℕ = was.offset in
        let t : Token = if nat_lt b 128 then Data o b else Status o b in
        let x : Spot = spot before o b in
        let es : List Entry = payload before in
        let ns : List Known = news (last_of es) x in
        let l : Leaves o b before t = leaves o b before t r.byte in
        let rest : List Known = news_from (t ∷ before) (tokens (o + 1) t (rest_parts room (bs ++ following))) in
        let whole : IsFront told (token_news before t ++ rest) =
        subst (λ u. IsFront told (token_news before u ++
        news_from (u ∷ before) (tokens (o + 1) u (rest_parts room (bs ++ following))))) r.kind front in
        let tells : token_news before t ≡ holds.stamp ++ ns = ap₂ (λ a b. a ++ b) r.note l.news_is in
        let there : IsFront (holds.stamp ++ holds.early) (holds.stamp ++ (ns ++ rest)) =
        subst (λ z. IsFront z (holds.stamp ++ (ns ++ rest))) holds.told_is (subst (λ z. IsFront told z)
        (ap (λ z. z ++ rest) tells ∙ append_assoc holds.stamp ns rest) whole) in
        let off : IsFront holds.early (ns ++ rest) = front-off holds.stamp holds.early (ns ++ rest) there in
        let cut : IsFront holds.early ns = early-cut o holds.early ns rest off.0 holds.are_early
        (later-not (t ∷ before) t o room (bs ++ following)) off.1 in
        let d : Dined mid.din left seen es holds.early x = dined was.din mid.din left seen es holds.early x hands
        holds.din holds.here cut in
        let k = d.kept not_taken in
        let same : told ++ d.fresh ≡ holds.stamp ++ (holds.early ++ d.fresh) = ap (λ z. z ++ d.fresh) holds.told_is ∙
        append_assoc holds.stamp holds.early d.fresh in
        let still : IsFront (told ++ d.fresh) (token_news before t ++ rest) =
        subst (λ z. IsFront z (token_news before t ++ rest)) (sym same)
        (subst (λ z. IsFront (holds.stamp ++ (holds.early ++ d.fresh)) z) (ap (λ z. z ++ rest) (sym tells))
        (front-append (holds.stamp ++ (holds.early ++ d.fresh)) (holds.stamp ++ ns) rest
        (front-under holds.stamp (holds.early ++ d.fresh) ns d.front))) in
        let timed : Each (Timely x.moment) d.fresh = each-back (Timely x.moment) holds.early d.fresh
        (each-front (Timely x.moment) (holds.early ++ d.fresh) d.front.0 (subst (Each (Timely x.moment)) d.front.1
        (timely (last_of es) x))) in
        let seen_is : map part_of d.fresh ≡ map (λ t. record { moment = was.clock.moment; told = t }) seen =
        parts-same x.moment d.fresh timed ∙ ap₂ (λ m ts. map (λ t. record { moment = m; told = t }) ts)
        (ap (λ c. c.moment) (sym holds.clock_is)) d.answer_is in
        subst (λ c. Read was c (b ∷ bs) (b ∷ bs) seen before told (suc room) following) (sym is)
        (read-none was (record was { din = mid.din }) (b ∷ bs) seen before told (suc room) following d.fresh refl
        (record {
          clock_is = holds.clock_is;
          running_is = holds.running_is;
          runs = holds.runs;
          kind = holds.kind;
          stamp = holds.stamp;
          early = holds.early ++ d.fresh;
          told_is = same;
          stamp_is = holds.stamp_is;
          din = k.0;
          are_early = k.2;
          here = inr k.1;
          low = omega (arith, k.1);
          rested = λ e. absurd (false≢true (sym a ∙ e));
        })
        seen_is (subst (λ u. IsFront (told ++ d.fresh) (token_news before u ++
        news_from (u ∷ before) (tokens (o + 1) u (rest_parts room (bs ++ following))))) (sym r.kind) still))

-- what runs behind a byte
running-cases : (b : ℕ) (run : Option ℕ) (s : ℕ) → running_then b run ≡ Some s →
    (run ≡ Some s) ⊎ ((b ≡ s) × (is_channel b ≡ true))
running-cases b run s = by (nat_lt b 128) (is_channel b) (is_realtime b || is_some (data_length b)) refl
  where
    some_some : (a c : ℕ) → Some a ≡ Some c → a ≡ c
    some_some a c e = cc

    none_some : (a : ℕ) → None ≡ Some a → ⊥
    none_some a e = cc

    by : (low ch keeps : Bool) → is_channel b ≡ ch → (if low then run else
        (if ch then Some b else (if keeps then run else None))) ≡ Some s →
        (run ≡ Some s) ⊎ ((b ≡ s) × (is_channel b ≡ true))
    by true ch keeps c e = inl e
    by false true keeps c e = inr (some_some b s e, c)
    by false false true c e = inl e
    by false false false c e = absurd (none_some s e)

pub channel-begins : (g : Group) (x : Spot) → is_channel x.byte ≡ true → is_full (behind_entry g (Heard x)) ≡ false
channel-begins g x e = by (is_realtime x.byte) (is_data x.byte) (not_rt x.byte e) (not_data x.byte e)
  where
    not_rt : (n : ℕ) → is_channel n ≡ true → is_realtime n ≡ false
    not_rt n e = grind (arith, nat_tests)

    not_data : (n : ℕ) → is_channel n ≡ true → is_data n ≡ false
    not_data n e = grind (arith, nat_tests)

    by : (rt da : Bool) → rt ≡ false → da ≡ false → is_full (if rt then g else (if da then record g {
      data_bytes =
          g.data_bytes ++ x ∷ [];
    } else begun x)) ≡ false
    by true da r d = absurd (false≢true (sym r))
    by false true r d = absurd (false≢true (sym d))
    by false false r d = ap (λ c. not c && (elim (data_length x.byte) as (λ _. Bool) [
      | None ↦ false
      | Some k ↦
          Rattle.std.specs.Prelude.nat_le k 0
    ])) e

silent-full : (s : ℕ) → is_channel s ≡ true → is_full (silent s) ≡ false
silent-full s e = ap (λ c. not c && (elim (data_length s) as (λ _. Bool) [
  | None ↦ false
  | Some k ↦
      Rattle.std.specs.Prelude.nat_le k 0
])) e

resumed-full : (r : ℕ) (es : List Entry) → is_channel r ≡ true → is_full (last_of (resumed (Some r) es)) ≡ false
resumed-full r es ch = by (is_full (last_of es)) refl
  where
    by : (c : Bool) → is_full (last_of es) ≡ c → is_full (last_of (if c then es ++ Silent r ∷ [] else es)) ≡ false
    by true e = ap is_full (last_of-append es (Silent r ∷ [])) ∙ silent-full r ch
    by false e = e

runs-law : (b : ℕ) (run : Option ℕ) (es : List Entry) (x : Spot) → x.byte ≡ b → ((s : ℕ) → run ≡ Some s →
    is_channel s ≡ true) →
    (s : ℕ) → running_then b run ≡ Some s → (is_channel s ≡ true) ×
    (is_full (last_of (resumed run (es ++ Heard x ∷ []))) ≡ false)
runs-law b None es x is h s e = by (running-cases b None s e)
  where
    none_some : (a : ℕ) → None ≡ Some a → ⊥
    none_some a e = cc

    by : (None ≡ Some s) ⊎ ((b ≡ s) × (is_channel b ≡ true)) → (is_channel s ≡ true) ×
        (is_full (last_of (es ++ Heard x ∷ [])) ≡ false)
    by (inl n) = absurd (none_some s n)
    by (inr p) = (
      subst (λ n. is_channel n ≡ true) p.0 p.1,
      ap is_full (last_of-append es (Heard x ∷ [])) ∙
          channel-begins (last_of es) x (ap is_channel is ∙ p.1),
    )
runs-law b (Some r) es x is h s e = (by (running-cases b (Some r) s e), resumed-full r (es ++ Heard x ∷ []) (h r refl))
  where
    by : (Some r ≡ Some s) ⊎ ((b ≡ s) × (is_channel b ≡ true)) → is_channel s ≡ true
    by (inl n) = h s n
    by (inr p) = subst (λ n. is_channel n ≡ true) p.0 p.1

-- the byte was taken
pub took_law : (was mid now : Content) (b : ℕ) (left bs : List ℕ) (seen : List Told) → left ≡ [] →
    mid ≡ record was { din = mid.din } → Hands was.din mid.din was.offset (b ∷ []) left seen →
    Took mid now b (is_common seen) → is_heady was.head ≡ false →
    (was.head ≡ head.Inside → nat_lt b 128 ≡ true) → ((at : ℕ) → was.head ≡ head.Stamped at → nat_lt b 128 ≡ true →
    MayRun was.din true) →
    (before : List Token) (told : List Known) (room : ℕ) (following : List ℕ) → Holds was before told →
    IsFront told (news_from before (tokens was.offset (last before)
    (rest_parts (suc room) (b ∷ (bs ++ following))))) → Read was now (b ∷ bs) bs seen before told (suc room)
    following
took_law was mid now b left bs seen is_taken is hands took a inside may before told room following holds front =
    by (ready was.head was b before told room (bs ++ following) refl a inside may holds (nat_lt b 128) refl front)
  where
    by : Ready was b before holds.stamp (if nat_lt b 128 then Data was.offset b else Status was.offset b) →
        Read was now (b ∷ bs) bs seen before told (suc room) following
    by r =
        let o : ℕ = was.offset in
        let t : Token = if nat_lt b 128 then Data o b else Status o b in
        let x : Spot = spot before o b in
        let es : List Entry = payload before in
        let ns : List Known = news (last_of es) x in
        let l : Leaves o b before t = leaves o b before t r.byte in
        let rest : List Known = news_from (t ∷ before) (tokens (o + 1) t (rest_parts room (bs ++ following))) in
        let whole : IsFront told (token_news before t ++ rest) =
        subst (λ u. IsFront told (token_news before u ++
        news_from (u ∷ before) (tokens (o + 1) u (rest_parts room (bs ++ following))))) r.kind front in
        let tells : token_news before t ≡ holds.stamp ++ ns = ap₂ (λ a b. a ++ b) r.note l.news_is in
        let there : IsFront (holds.stamp ++ holds.early) (holds.stamp ++ (ns ++ rest)) =
        subst (λ z. IsFront z (holds.stamp ++ (ns ++ rest))) holds.told_is (subst (λ z. IsFront told z)
        (ap (λ z. z ++ rest) tells ∙ append_assoc holds.stamp ns rest) whole) in
        let off : IsFront holds.early (ns ++ rest) = front-off holds.stamp holds.early (ns ++ rest) there in
        let cut : IsFront holds.early ns = early-cut o holds.early ns rest off.0 holds.are_early
        (later-not (t ∷ before) t o room (bs ++ following)) off.1 in
        let d : Dined mid.din left seen es holds.early x = dined was.din mid.din left seen es holds.early x hands
        holds.din holds.here cut in
        let k = d.taken is_taken in
        let run : Option ℕ = running before in
        let same_run : mid.running ≡ run = ap (λ c. c.running) is ∙ holds.running_is in
        let full : (s : ℕ) → run ≡ Some s → is_full (last_of (es ++ Heard x ∷ [])) ≡ is_common seen = λ s e.
        full_seen es x holds.early d.fresh seen (holds.runs s e).1 holds.are_early k.2 d.answer_is in
        let goes = resumes_law run (is_common seen) mid.din now.din (es ++ Heard x ∷ [])
        (subst (λ z. Rattle.mb_ble.specs.Content.Resumes z (is_common seen) mid.din now.din) same_run took.din) full
        k.0 in
        let mid_offset : mid.offset ≡ o = ap (λ c. c.offset) is in
        let offset : now.offset ≡ o + 1 = took.offset ∙ ap (λ z. z + 1) mid_offset in
        let clock_now : now.clock ≡ clock before = took.clock ∙ ap (λ c. c.clock) is ∙ holds.clock_is in
        let timed : Each (Timely x.moment) d.fresh = each-back (Timely x.moment) holds.early d.fresh
        (each-front (Timely x.moment) (holds.early ++ d.fresh) d.front.0 (subst (Each (Timely x.moment)) d.front.1
        (timely (last_of es) x))) in
        let seen_is : map part_of d.fresh ≡ map (λ t. record { moment = now.clock.moment; told = t }) seen =
        parts-same x.moment d.fresh timed ∙ ap₂ (λ m ts. map (λ t. record { moment = m; told = t }) ts)
        (ap (λ c. c.moment) (sym clock_now)) d.answer_is in
        let told_is : told ++ d.fresh ≡ token_news before t ++ [] =
        ap (λ z. z ++ d.fresh) holds.told_is ∙ append_assoc holds.stamp holds.early d.fresh ∙
        ap (λ z. holds.stamp ++ z) k.2 ∙ sym tells ∙ sym (append-nil (token_news before t)) in
        read-one was now b bs seen before told room following t [] d.fresh r.kind offset
        (record {
          clock_is = clock_now ∙ sym l.clock_is;
          running_is = took.running ∙ ap (λ z. running_then b z) same_run ∙ sym l.running_is;
          runs = λ s e. subst (λ z. (is_channel s ≡ true) × (is_full (last_of z) ≡ false)) (sym l.payload_is)
              (runs-law b run es x refl (λ s e. (holds.runs s e).0) s (sym l.running_is ∙ e));
          kind = λ at y. l.kind at y ∙ ap (λ h. byte_token at (token_behind h) y) (sym took.head);
          stamp = [];
          early = [];
          told_is = refl;
          stamp_is = subst (λ h. StampIs h now.offset (t ∷ before) []) (sym took.head) (refl, l.stamp);
          din = subst (λ z. Stands now.din z (so_far z ++ [])) (sym l.payload_is)
              (subst (λ z. Stands now.din (resumed run (es ++ Heard x ∷ [])) z)
              (sym (append-nil (so_far (resumed run (es ++ Heard x ∷ []))))) goes.0);
          are_early = tt;
          here = inl refl;
          low = omega (arith, goes.1, k.1, offset);
          rested = λ e. refl;
        })
        seen_is told_is (nothing (news_from (t ∷ before) (tokens now.offset t (rest_parts room (bs ++ following)))))

-- in code
pub one_is : (input one rest : List ℕ) (b : ℕ) → input ≡ b ∷ rest → one ≡ take 1 input → one ≡ b ∷ []
one_is input one rest b e f = f ∙ ap (take 1) e

pub byte_taken : (was mid now : Content) (input one left rest : List ℕ) (b : ℕ) (common : Bool) (seen : List Told) →
    input ≡ b ∷ rest → one ≡ take 1 input → left ≡ [] → mid ≡ record was { din = mid.din } →
    Hands was.din mid.din was.offset one left seen →
    common ≡ is_common seen → Took mid now b common → is_heady was.head ≡ false →
    ((b : ℕ) (bs : List ℕ) → input ≡ b ∷ bs → was.head ≡ head.Inside → nat_lt b 128 ≡ true) →
    ((at b : ℕ) (bs : List ℕ) → input ≡ b ∷ bs → was.head ≡ head.Stamped at → nat_lt b 128 ≡ true →
    MayRun was.din true) → Reads was now input rest seen
byte_taken was mid now input one left rest b common seen e f t is hands c took a inside may =
    reads-first was now input rest b seen e (took_law was mid now b left rest seen t is
    (subst (λ z. Hands was.din mid.din was.offset z left seen) (one_is input one rest b e f) hands)
    (subst (Took mid now b) c took) a (inside b rest e) (λ at. may at b rest e))

pub byte_kept : (was mid : Content) (input one left rest : List ℕ) (b : ℕ) (seen : List Told) → input ≡ b ∷ rest →
    one ≡ take 1 input → (taken : List ℕ) → one ≡ taken ++ left → (left ≡ [] → ⊥) → mid ≡ record was { din = mid.din } →
    Hands was.din mid.din was.offset one left seen →
    is_heady was.head ≡ false → ((b : ℕ) (bs : List ℕ) → input ≡ b ∷ bs → was.head ≡ head.Inside →
    nat_lt b 128 ≡ true) →
    ((at b : ℕ) (bs : List ℕ) → input ≡ b ∷ bs → was.head ≡ head.Stamped at → nat_lt b 128 ≡ true →
    MayRun was.din true) → Reads was mid input input seen
byte_kept was mid input one left rest b seen e f taken g some is hands a inside may =
    by (one-taken b taken left (sym (one_is input one rest b e f) ∙ g))
  where
    by : ((taken ≡ []) × (left ≡ b ∷ [])) ⊎ ((taken ≡ b ∷ []) × (left ≡ [])) → Reads was mid input input seen
    by (inr t) = absurd (some t.1)
    by (inl t) = record {
      reads = λ before told room following holds fits front.
          subst (λ z. Read was mid z z seen before told room following) (sym e) (at before told room following holds
          (subst (λ z. length z ≤ room) e fits) (subst (λ z. IsFront told
          (news_from before (tokens was.offset (last before) (rest_parts room (z ++ following))))) e front));
    }
      where
        at : (before : List Token) (told : List Known) (room : ℕ) (following : List ℕ) → Holds was before told →
            length (b ∷ rest) ≤ room →
            IsFront told (news_from before (tokens was.offset (last before) (rest_parts room ((b ∷ rest) ++
            following)))) → Read was mid (b ∷ rest) (b ∷ rest) seen before told room following
        at before told zero following holds fits front = absurd (omega arith)
        at before told (suc room) following holds fits front = kept_law was mid b left rest seen t.1 is
            (subst (λ z. Hands was.din mid.din was.offset z left seen) (one_is input one rest b e f) hands) a
            (inside b rest e) (λ at. may at b rest e) before told room following holds front
