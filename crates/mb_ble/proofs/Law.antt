-- The literal reading is what becomes known at each token in turn.
use Rattle.std.proofs.Common.{◌≡◌, ℕ, zero, suc, ◌+◌, ◌*◌, ◌%◌, ◌<◌, ◌≤◌, Bool, true, false, Option, Some, None, List}
use Rattle.std.proofs.Common.{[], ◌∷◌, ◌++◌, refl, ap, ap₂, sym, subst, ◌∙◌, arith, append_assoc, append-nil}
use Rattle.std.specs.Prelude.{if◌then◌else◌, ◌==◌, nat_lt}
use Rattle.mb_message.specs.declared.note.NoteKind.TheVariants.{EmptyPacket, Truncated}
use Rattle.mb_ble.proofs.Base.{climb-data, climb-at_status, Climb-lower}
use Rattle.mb_frames.specs.Counting.{counted_parts, rest_parts}
use Rattle.mb_frames.proofs.Steps.{parts-counted}
use Rattle.mb_message.specs.Bytes.{is_data, is_realtime}
use Rattle.mb_stream.specs.Order.{Each}
use Rattle.mb_stream.proofs.OrderLemmas.{Each-append}
use Rattle.mb_stream.specs.Groups.{Group, is_sysex, last_of}
use Rattle.mb_stream.specs.Order.{in_order}
use Rattle.mb_stream.specs.Payload.{Spot}
use Rattle.mb_stream.specs.Told.{Known, begun_at, ended, status_told, realtime_known, may_run}
use Rattle.mb_stream.specs.Working.{data_news}
use Rattle.mb_ble.specs.Packets.{Token, Begins, Header, Unheaded, Skipped, Stamp, Status, Data, Ends, byte_token}
use Rattle.mb_ble.specs.Packets.{tokens, clock, payload, spot, all_tokens}
use Rattle.mb_ble.specs.Reading.{Cut, cut_at, cut_told, noted, lone, unit_note, unit_notes, known_of, ble_known}
use Rattle.mb_ble.specs.News.{byte_news, news_from}
use Rattle.mb_ble.proofs.Ordered.{Above, Rising, Aboves-lower, rising-le, rising-above, pull_three, rising-climb}
use Rattle.mb_ble.proofs.Stretches.{group_news, realtime_news, groups_at, realtimes_at, all_at, news-two}
use Rattle.mb_ble.proofs.Stretches.{stretches-groups, stretches-realtime}

-- Tokens' offsets rise; a packet's end tells behind its last byte.
abbrev pub TokensRise : ℕ → List Token → Type 0
TokensRise low [] = Unit {0}
TokensRise low (Begins at len ∷ ts) = (low ≤ 7 * at) × TokensRise (7 * at + 12) ts
TokensRise low (Header upper ∷ ts) = TokensRise low ts
TokensRise low (Unheaded at ∷ ts) = (low ≤ 7 * at) × TokensRise (7 * at + 5) ts
TokensRise low (Skipped ∷ ts) = TokensRise low ts
TokensRise low (Stamp at l ∷ ts) = TokensRise low ts
TokensRise low (Status at b ∷ ts) = (low ≤ 7 * at) × TokensRise (7 * at + 5) ts
TokensRise low (Data at b ∷ ts) = (low ≤ 7 * at) × TokensRise (7 * at + 5) ts
TokensRise low (Ends at ∷ ts) = (low ≤ 7 * at + 5) × TokensRise (7 * at + 7) ts

abbrev Rest : ℕ → List Token → Type 0
Rest at ts = (low : ℕ) → low + 2 ≤ 7 * (at + 1) → TokensRise low ts

pub rise-byte : (last : Token) (at b low : ℕ) (ts : List Token) → low + 2 ≤ 7 * at → Rest at ts →
    TokensRise low (byte_token at last b ∷ ts)
rise-byte last at b low ts le rest = by last
  where
    le' : low ≤ 7 * at
    le' = omega arith

    next : TokensRise (7 * at + 5) ts
    next = rest (7 * at + 5) (omega arith)

    same : TokensRise low ts
    same = rest low (omega arith)

    other : (c : Bool) → TokensRise low ((if c then Data at b else Stamp at (b % 128)) ∷ ts)
    other true = (le', next)
    other false = same

    headed : (c : Bool) → TokensRise low ((if c then Unheaded at else Header (b % 64)) ∷ ts)
    headed true = (le', next)
    headed false = same

    stamped : (c : Bool) → TokensRise low ((if c then Data at b else Status at b) ∷ ts)
    stamped true = (le', next)
    stamped false = (le', next)

    by : (last : Token) → TokensRise low (byte_token at last b ∷ ts)
    by (Begins a l) = headed (nat_lt b 128)
    by (Header u) = other (nat_lt b 128)
    by (Unheaded a) = same
    by Skipped = same
    by (Stamp a l) = stamped (nat_lt b 128)
    by (Status a x) = other (nat_lt b 128)
    by (Data a x) = other (nat_lt b 128)
    by (Ends a) = other (nat_lt b 128)

pub rise-rest : (left : ℕ) (bytes : List ℕ) (at : ℕ) (last : Token) (low : ℕ) → low + 2 ≤ 7 * at →
    TokensRise low (tokens at last (rest_parts left bytes))
rise-rest zero [] at last low le = (omega arith, tt)
rise-rest zero (h ∷ []) at last low le = (omega arith, tt)
rise-rest zero (h ∷ l ∷ bytes) at last low le = (
  omega arith,
  (omega arith, rise-rest (256 * h + l) bytes (at + 2) (Begins at (256 * h + l)) (7 * at + 12) (omega arith)),
)
rise-rest (suc left) [] at last low le = tt
rise-rest (suc left) (b ∷ bytes) at last low le = rise-byte last at b low (tokens (at + 1) (byte_token at last b)
    (rest_parts left bytes)) le (λ low' h. rise-rest left bytes (at + 1) (byte_token at last b) low' h)

rise-counted : (bytes : List ℕ) → TokensRise 0 (tokens 0 (Ends 0) (counted_parts bytes))
rise-counted [] = tt
rise-counted (h ∷ []) = tt
rise-counted (h ∷ l ∷ bytes) = (omega arith, rise-rest (256 * h + l) bytes 2 (Begins 0 (256 * h + l)) 12 (omega arith))

pub rise-all : (bytes : List ℕ) → TokensRise 0 (all_tokens bytes)
rise-all bytes = subst (λ ps. TokensRise 0 (tokens 0 (Ends 0) ps)) (sym (parts-counted bytes)) (rise-counted bytes)

-- what a token tells rises
rising-group : (g : Group) (x : Spot) → Rising (7 * x.at + 1) (7 * x.at + 5) (group_news g x)
rising-group g x = by (is_realtime x.byte) (is_data x.byte)
  where
    by : (rt da : Bool) → Rising (7 * x.at + 1) (7 * x.at + 5) (if rt then [] else
        (if da then data_news g.status g.data_bytes x else ended g x ++ status_told x))
    by true da = omega arith
    by false true = subst (λ n. Rising n (7 * x.at + 5) (data_news g.status g.data_bytes x)) (omega arith)
        (rising-climb x.at 0 (data_news g.status g.data_bytes x) (Climb-lower x.at 0 2 (data_news g.status g.data_bytes
        x) (omega arith) (climb-data g.status g.data_bytes x)))
    by false false = subst (λ n. Rising n (7 * x.at + 5) (ended g x ++ status_told x)) (omega arith)
        (rising-climb x.at 0 (ended g x ++ status_told x) (climb-at_status g x))

-- of one byte only one of the two kinds is there
pub record Split (low high : ℕ) (n r : List Known) : Type 0 where
  pub up : ℕ
  pub first : Rising low up n
  pub second : Rising up high r

split-byte : (g : Group) (x : Spot) → Split (7 * x.at + 1) (7 * x.at + 5) (group_news g x) (realtime_news x)
split-byte g x = by (is_realtime x.byte) (rising-group g x)
  where
    by : (rt : Bool) → Rising (7 * x.at + 1) (7 * x.at + 5) (group_news g x) → Split (7 * x.at + 1) (7 * x.at + 5)
        (if rt then [] else (if is_data x.byte then data_news g.status g.data_bytes x else ended g x ++ status_told x))
        (if rt then realtime_known x ∷ [] else [])
    by true h = record {
      up = 7 * x.at + 1;
      first = omega arith;
      second =
          (record { key_is = omega arith; small = omega arith }, omega arith);
    }
    by false h = record { up = 7 * x.at + 5; first = named (is_data x.byte); second = omega arith }
      where
        named : (da : Bool) → Rising (7 * x.at + 1) (7 * x.at + 5) (if da then data_news g.status g.data_bytes x else
            ended g x ++ status_told x)
        named true = subst (λ n. Rising n (7 * x.at + 5) (data_news g.status g.data_bytes x)) (omega arith)
            (rising-climb x.at 0 (data_news g.status g.data_bytes x)
            (Climb-lower x.at 0 2 (data_news g.status g.data_bytes x) (omega arith) (climb-data g.status g.data_bytes
            x)))
        named false = subst (λ n. Rising n (7 * x.at + 5) (ended g x ++ status_told x)) (omega arith)
            (rising-climb x.at 0 (ended g x ++ status_told x) (climb-at_status g x))

rising-lone : (kept : Bool) (rank at : ℕ) (before : List Token) → rank < 7 → Rising (7 * at + rank) (7 * at + rank + 1)
    (lone kept rank at before)
rising-lone kept rank at [] s = omega arith
rising-lone kept rank at (Begins a l ∷ before) s = omega arith
rising-lone kept rank at (Header u ∷ before) s = omega arith
rising-lone kept rank at (Unheaded a ∷ before) s = omega arith
rising-lone kept rank at (Skipped ∷ before) s = omega arith
rising-lone true rank at (Stamp a l ∷ before) s = omega arith
rising-lone false rank at (Stamp a l ∷ before) s = (record { key_is = omega arith; small = s }, omega arith)
rising-lone kept rank at (Status a b ∷ before) s = omega arith
rising-lone kept rank at (Data a b ∷ before) s = omega arith
rising-lone kept rank at (Ends a ∷ before) s = omega arith

rising-cut : (g : Group) (c : Cut) → Rising (7 * c.at + 6) (7 * c.at + 7) (cut_told g (Some c))
rising-cut g c = by (begun_at g)
  where
    by : (o : Option ℕ) → Rising (7 * c.at + 6) (7 * c.at + 7) (elim o as (λ _. List Known)
        [ None ↦ [] | Some at ↦ noted 6 c.moment c.at at Truncated ∷ [] ])
    by None = omega arith
    by (Some at) = (record { key_is = omega arith; small = omega arith }, omega arith)

-- A token's three lists rise from its key to the next.
pub record Steps (low : ℕ) (before : List Token) (t : Token) (ts : List Token) : Type 0 where
  pub mid : ℕ
  pub up : ℕ
  pub high : ℕ
  pub notes : Rising low mid (unit_note before t)
  pub of_groups : Rising mid up (groups_at before t)
  pub realtimes : Rising up high (realtimes_at before t)
  pub rest : TokensRise high ts

Rising-lower : (low lower high : ℕ) (ks : List Known) → lower ≤ low → Rising low high ks → Rising lower high ks
Rising-lower low lower high [] le r = omega arith
Rising-lower low lower high (k ∷ ks) le r = (record { key_is = omega (arith, r.0.key_is); small = r.0.small }, r.1)

pub steps : (low : ℕ) (before : List Token) (t : Token) (ts : List Token) → TokensRise low (t ∷ ts) →
    Steps low before t ts
steps low before (Begins at len) ts r = record {
  mid = 7 * at + 12;
  up = 7 * at + 12;
  high = 7 * at + 12;
  notes =
      by (len == 0);
  of_groups = omega arith;
  realtimes = omega arith;
  rest = r.1;
}
  where
    by : (c : Bool) → Rising low (7 * at + 12) (if c then noted 4 (clock before).moment (at + 1) at EmptyPacket ∷
        [] else [])
    by true = (record { key_is = omega (arith, r.0); small = omega arith }, omega arith)
    by false = omega (arith, r.0)
steps low before (Header upper) ts r = record {
  mid = low;
  up = low;
  high = low;
  notes = omega arith;
  of_groups =
      omega arith;
  realtimes = omega arith;
  rest = r;
}
steps low before (Unheaded at) ts r = record {
  mid = 7 * at + 5;
  up = 7 * at + 5;
  high = 7 * at + 5;
  notes =
      (record { key_is = omega (arith, r.0); small = omega arith }, omega arith);
  of_groups = omega arith;
  realtimes =
      omega arith;
  rest = r.1;
}
steps low before Skipped ts r = record {
  mid = low;
  up = low;
  high = low;
  notes = omega arith;
  of_groups = omega arith;
  realtimes = omega arith;
  rest = r;
}
steps low before (Stamp at l) ts r = record {
  mid = low;
  up = low;
  high = low;
  notes = omega arith;
  of_groups =
      omega arith;
  realtimes = omega arith;
  rest = r;
}
steps low before (Status at b) ts r =
    let s : Split (7 * at + 1) (7 * at + 5) (groups_at before (Status at b)) (realtimes_at before (Status at b)) =
    split-byte (last_of (payload before)) (spot before at b) in
    record {
      mid = 7 * at + 1;
      up = s.up;
      high = 7 * at + 5;
      notes = omega (arith, r.0);
      of_groups = s.first;
      realtimes = s.second;
      rest = r.1;
    }
steps low before (Data at b) ts r =
    let s : Split (7 * at + 1) (7 * at + 5) (groups_at before (Data at b)) (realtimes_at before (Data at b)) =
    split-byte (last_of (payload before)) (spot before at b) in
    record {
      mid = 7 * at + 0 + 1;
      up = s.up;
      high = 7 * at + 5;
      notes = Rising-lower (7 * at + 0) low (7 * at + 0 + 1) (lone (may_run (last_of (payload before))) 0 at before)
          (omega (arith, r.0)) (rising-lone (may_run (last_of (payload before))) 0 at before (omega arith));
      of_groups = Rising-lower (7 * at + 1) (7 * at + 0 + 1) s.up (groups_at before (Data at b)) (omega arith) s.first;
      realtimes = s.second;
      rest = r.1;
    }
steps low before (Ends at) ts r = record {
  mid = 7 * at + 5 + 1;
  up = 7 * at + 7;
  high = 7 * at + 7;
  notes = Rising-lower (7 * at + 5) low (7 * at + 5 + 1) (lone false 5 at before) r.0 (rising-lone false 5 at before
      (omega arith));
  of_groups = by (is_sysex (last_of (payload before)));
  realtimes = omega arith;
  rest = r.1;
}
  where
    by : (c : Bool) → Rising (7 * at + 5 + 1) (7 * at + 7) (if c then [] else cut_told (last_of (payload before))
        (Some (cut_at before at)))
    by true = omega arith
    by false = Rising-lower (7 * at + 6) (7 * at + 5 + 1) (7 * at + 7) (cut_told (last_of (payload before))
        (Some (cut_at before at))) (omega arith) (rising-cut (last_of (payload before)) (cut_at before at))

-- what comes later is above
record Later (low : ℕ) (before ts : List Token) : Type 0 where
  pub of_groups : Each (Above low) (all_at groups_at before ts)
  pub realtimes : Each (Above low) (all_at realtimes_at before ts)
  pub notes : Each (Above low) (unit_notes before ts)

later : (ts before : List Token) (low : ℕ) → TokensRise low ts → Later low before ts
later [] before low r = record { of_groups = tt; realtimes = tt; notes = tt }
later (t ∷ ts) before low r =
    let s : Steps low before t ts = steps low before t ts r in
    let l : Later s.high (t ∷ before) ts = later ts (t ∷ before) s.high s.rest in
    let le1 : low ≤ s.mid = rising-le low s.mid (unit_note before t) s.notes in
    let le2 : s.mid ≤ s.up = rising-le s.mid s.up (groups_at before t) s.of_groups in
    let le3 : s.up ≤ s.high = rising-le s.up s.high (realtimes_at before t) s.realtimes in
    record {
      of_groups = Each-append (Above low) (groups_at before t) (all_at groups_at (t ∷ before) ts)
          (Aboves-lower low s.mid (groups_at before t) le1 (rising-above s.mid s.up (groups_at before t) s.of_groups))
          (Aboves-lower low s.high (all_at groups_at (t ∷ before) ts) (omega arith) l.of_groups);
      realtimes = Each-append (Above low) (realtimes_at before t) (all_at realtimes_at (t ∷ before) ts)
          (Aboves-lower low s.up (realtimes_at before t) (omega arith) (rising-above s.up s.high (realtimes_at before t)
          s.realtimes)) (Aboves-lower low s.high (all_at realtimes_at (t ∷ before) ts) (omega arith) l.realtimes);
      notes = Each-append (Above low) (unit_note before t) (unit_notes (t ∷ before) ts)
          (rising-above low s.mid (unit_note before t) s.notes) (Aboves-lower low s.high (unit_notes (t ∷ before) ts)
          (omega arith) l.notes);
    }

pub byte-two : (before : List Token) (t : Token) → byte_news before t ≡ groups_at before t ++ realtimes_at before t
byte-two before (Begins at len) = refl
byte-two before (Header upper) = refl
byte-two before (Unheaded at) = refl
byte-two before Skipped = refl
byte-two before (Stamp at low) = refl
byte-two before (Status at b) = news-two (last_of (payload before)) (spot before at b)
byte-two before (Data at b) = news-two (last_of (payload before)) (spot before at b)
byte-two before (Ends at) = sym (append-nil (if is_sysex (last_of (payload before)) then [] else
    cut_told (last_of (payload before)) (Some (cut_at before at))))

ordered : (ts before : List Token) (low : ℕ) → TokensRise low ts → in_order (λ k. k) (all_at groups_at before ts ++
    (all_at realtimes_at before ts ++ unit_notes before ts)) ≡ news_from before ts
ordered [] before low r = refl
ordered (t ∷ ts) before low r =
    let s : Steps low before t ts = steps low before t ts r in
    let l : Later s.high (t ∷ before) ts = later ts (t ∷ before) s.high s.rest in
    let u : List Known = unit_note before t in
    let n : List Known = groups_at before t in
    let q : List Known = realtimes_at before t in
    let more : List Known = news_from (t ∷ before) ts in
    pull_three low s.mid s.up s.high u n q (all_at groups_at (t ∷ before) ts) (all_at realtimes_at (t ∷ before) ts)
    (unit_notes (t ∷ before) ts) s.notes s.of_groups s.realtimes l.of_groups l.realtimes l.notes
    ∙ ap (λ z. u ++ (n ++ (q ++ z))) (ordered ts (t ∷ before) s.high s.rest)
    ∙ ap (λ z. u ++ z) (sym (append_assoc n q more) ∙ ap (λ z. z ++ more) (sym (byte-two before t)))
    ∙ sym (append_assoc u (byte_news before t) more)

-- the law
pub known_news : (ts : List Token) → TokensRise 0 ts → known_of ts ≡ news_from [] ts
known_news ts r = ap₂ (λ a b. in_order (λ k. k) (a ++ (b ++ unit_notes [] ts))) (stretches-groups ts [])
    (stretches-realtime ts []) ∙ ordered ts [] 0 r

pub ble_known-news : (bytes : List ℕ) → ble_known bytes ≡ news_from [] (all_tokens bytes)
ble_known-news bytes = known_news (all_tokens bytes) (rise-all bytes)
