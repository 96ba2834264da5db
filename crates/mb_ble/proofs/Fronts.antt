-- What may be told ahead of a byte, and the facts of what one byte makes known.
use Rattle.std.proofs.Common.{◌≡◌, ℕ, ◌+◌, ◌*◌, ◌<◌, ◌≤◌, Bool, true, false, Option, Some, None, List, [], ◌∷◌, ◌++◌}
use Rattle.std.proofs.Common.{map, refl, ap, ap₂, sym, subst, ◌∙◌, arith, append_assoc, append-nil}
use Rattle.std.specs.Prelude.{if◌then◌else◌, ◌==◌, ◌||◌, nat_le}
use Rattle.mb_message.specs.Signs.{ShortSign, RtSign, OpenSign, ByteSign, EndSign, AbortSign}
use Rattle.mb_message.specs.declared.note.NoteKind.TheVariants.{StrayEnd, Undefined, Truncated}
use Rattle.mb_ble.proofs.Base.{Climb, climb-data, so_far-append, rises-to, rises-from, cancel}
use Rattle.mb_din.specs.Reader.{RisesTo}
use Rattle.mb_message.specs.Bytes.{is_data, is_realtime, is_undefined_realtime, is_channel, data_length}
use Rattle.mb_stream.specs.Order.{Each}
use Rattle.mb_stream.proofs.OrderLemmas.{Each-append}
use Rattle.mb_stream.specs.Groups.{Group, is_sysex, last_of}
use Rattle.mb_stream.specs.Payload.{Spot, Entry, Heard, Silent}
use Rattle.mb_stream.specs.Reading.{part_of, so_far}
use Rattle.mb_stream.specs.Told.{Told, Marks, Notes, Known, known_at, begun_at, truncated_at, truncated, ended}
use Rattle.mb_stream.specs.Told.{status_told, realtime_known, stray, sysex_byte, one_of, odd_one}
use Rattle.mb_stream.specs.Working.{data_news_by, data_news, news, pair_news, first_one_news, first_two_news}
use Rattle.mb_stream.specs.Working.{channel_news, common_news}
use Rattle.mb_ble.specs.Packets.{Token}
use Rattle.mb_ble.specs.Reading.{unit_note}
use Rattle.mb_ble.specs.News.{byte_news, token_news, news_from}
use Rattle.mb_ble.specs.Content.{is_common}
use Rattle.mb_ble.specs.Stands.{Early, AreEarly}
use Rattle.mb_ble.proofs.Ordered.{Above, Aboves-lower, rising-le, rising-above}
use Rattle.mb_ble.proofs.Stretches.{groups_at, realtimes_at}
use Rattle.mb_ble.proofs.Law.{TokensRise, Steps, steps, byte-two}
use Rattle.mb_message.specs.Front.{IsFront}

-- what is told of tokens from a key on is above it
pub news-above : (ts before : List Token) (low : ℕ) → TokensRise low ts → Each (Above low) (news_from before ts)
news-above [] before low r = tt
news-above (t ∷ ts) before low r =
    let s : Steps low before t ts = steps low before t ts r in
    let le1 : low ≤ s.mid = rising-le low s.mid (unit_note before t) s.notes in
    let le2 : s.mid ≤ s.up = rising-le s.mid s.up (groups_at before t) s.of_groups in
    let le3 : s.up ≤ s.high = rising-le s.up s.high (realtimes_at before t) s.realtimes in
    Each-append (Above low) (token_news before t) (news_from (t ∷ before) ts)
    (Each-append (Above low) (unit_note before t) (byte_news before t) (rising-above low s.mid (unit_note before t)
    s.notes)
    (subst (Each (Above low)) (sym (byte-two before t)) (Each-append (Above low) (groups_at before t)
    (realtimes_at before t)
    (Aboves-lower low s.mid (groups_at before t) le1 (rising-above s.mid s.up (groups_at before t) s.of_groups))
    (Aboves-lower low s.up (realtimes_at before t) (omega arith) (rising-above s.up s.high (realtimes_at before t)
    s.realtimes)))))
    (Aboves-lower low s.high (news_from (t ∷ before) ts) (omega arith) (news-above ts (t ∷ before) s.high s.rest))

abbrev pub Not : ℕ → Known → Type 0
Not offset k = Early offset k → ⊥

pub above-not : (offset : ℕ) (ks : List Known) → Each (Above (7 * offset + 5)) ks → Each (Not offset) ks
above-not offset [] a = tt
above-not offset (k ∷ ks) a = (λ e. absurd (omega (arith, e.0, e.2, a.0.key_is)), above-not offset ks a.1)

pub none-early : (offset : ℕ) (early whole : List Known) → AreEarly offset early → IsFront early whole →
    Each (Not offset) whole → early ≡ []
none-early offset [] whole e f n = refl
none-early offset (k ∷ ks) whole e f n = absurd (first (subst (Each (Not offset)) f.1 n))
  where
    first : Each (Not offset) ((k ∷ ks) ++ f.0) → ⊥
    first a = a.0 e.0

Each-ranks : (offset low : ℕ) (ks : List Known) → 2 ≤ low → Climb offset low ks → Each (Not offset) ks
Each-ranks offset low [] le c = tt
Each-ranks offset low (k ∷ ks) le c = (
  λ e. absurd (omega (arith, e.2, c.1)),
  Each-ranks offset k.rank ks (omega (arith, c.1)) c.2,
)

-- before a data byte nothing is told ahead but a lone stamp
pub data-not : (g : Group) (x : Spot) → is_data x.byte ≡ true → Each (Not x.at) (news g x)
data-not g x e = by (is_realtime x.byte) (is_data x.byte) e
  where
    by : (rt da : Bool) → da ≡ true → Each (Not x.at) (if rt then realtime_known x ∷ [] else
        (if da then data_news g.status g.data_bytes x else ended g x ++ status_told x))
    by true da e = (λ h. absurd (omega (arith, h.2)), tt)
    by false true e = Each-ranks x.at 2 (data_news g.status g.data_bytes x) (omega arith)
        (climb-data g.status g.data_bytes x)
    by false false e = absurd (no e)
      where
        no : false ≡ true → ⊥
        no e = cc

-- the front that is early is a front of what the byte itself tells
pub early-cut : (offset : ℕ) (early ns rest r : List Known) → AreEarly offset early → Each (Not offset) rest → ns ++
    rest ≡ early ++ r → IsFront early ns
early-cut offset [] ns rest r e n h = (ns, refl)
early-cut offset (k ∷ ks) [] rest r e n h = absurd (first (subst (Each (Not offset)) h n))
  where
    first : Each (Not offset) ((k ∷ ks) ++ r) → ⊥
    first a = a.0 e.0
early-cut offset (k ∷ ks) (y ∷ ns) rest r e n h =
    let more : IsFront ks ns = early-cut offset ks ns rest r e.1 n (tails y k (ns ++ rest) (ks ++ r) h) in
    (more.0, ap₂ (λ a b. a ∷ b) (heads y k (ns ++ rest) (ks ++ r) h) more.1)
  where
    heads : (a b : Known) (xs ys : List Known) → a ∷ xs ≡ b ∷ ys → a ≡ b
    heads a b xs ys e = cc

    tails : (a b : Known) (xs ys : List Known) → a ∷ xs ≡ b ∷ ys → xs ≡ ys
    tails a b xs ys e = cc

pub front-append : (xs ys zs : List Known) → IsFront xs ys → IsFront xs (ys ++ zs)
front-append xs ys zs f = (f.0 ++ zs, ap (λ z. z ++ zs) f.1 ∙ append_assoc xs f.0 zs)

pub front-under : (ps xs ys : List Known) → IsFront xs ys → IsFront (ps ++ xs) (ps ++ ys)
front-under ps xs ys f = (f.0, ap (λ z. ps ++ z) f.1 ∙ sym (append_assoc ps xs f.0))

pub front-off : (ps xs ys : List Known) → IsFront (ps ++ xs) (ps ++ ys) → IsFront xs ys
front-off ps xs ys f = (f.0, cancel ps ys (xs ++ f.0) (f.1 ∙ append_assoc ps xs f.0))

-- one more byte
pub push_one : (es : List Entry) (x : Spot) (n : ℕ) → RisesTo 0 n es → n ≤ x.at → so_far (es ++ Heard x ∷ []) ≡
    so_far es ++ news (last_of es) x
push_one es x n r le = so_far-append es (Heard x ∷ []) (rises-to 0 n es (Heard x ∷ []) r (le, tt))
    (rises-from 0 n es r) ∙ ap (λ z. so_far es ++ z) (append-nil (news (last_of es) x))

pub push_silent : (es : List Entry) (s n : ℕ) → RisesTo 0 n es → so_far (es ++ Silent s ∷ []) ≡ so_far es
push_silent es s n r = so_far-append es (Silent s ∷ []) (rises-to 0 n es (Silent s ∷ []) r tt) (rises-from 0 n es r) ∙
    append-nil (so_far es)

-- at a byte: the offset, ranks above 0, its moment, and nothing common early
pub record Fact (x : Spot) (k : Known) : Type 0 where
  pub at : k.at ≡ x.at
  pub rank : 0 < k.rank
  pub common : k.rank < 3 → is_common (k.told ∷ []) ≡ false

climb-fact : (x : Spot) (low : ℕ) (ks : List Known) → 2 ≤ low → Climb x.at low ks → Each (Fact x) ks
climb-fact x low [] le c = tt
climb-fact x low (k ∷ ks) le c = (
  record {
    at = c.0;
    rank = omega (arith, c.1);
    common = λ h.
        absurd (omega (arith, c.1, h));
  },
  climb-fact x k.rank ks (omega (arith, c.1)) c.2,
)

fact : (x : Spot) (rank : ℕ) (t : Told) → 0 < rank → (rank < 3 → is_common (t ∷ []) ≡ false) →
    Fact x (known_at rank x t)
fact x rank t a b = record { at = refl; rank = a; common = b }

late : (rank : ℕ) (t : Told) → 3 ≤ rank → rank < 3 → is_common (t ∷ []) ≡ false
late rank t a b = absurd (omega arith)

pub facts : (g : Group) (x : Spot) → Each (Fact x) (news g x)
facts g x = by (is_realtime x.byte) (is_data x.byte)
  where
    one : (t : Told) → Fact x (known_at 3 x t)
    one t = fact x 3 t (omega arith) (late 3 t (omega arith))

    told : (a b c : Bool) → Each (Fact x) (if a then known_at 3 x (Marks OpenSign) ∷ [] else
        (if b then known_at 3 x (Marks (ShortSign 0xf6 0 0)) ∷ [] else (if c then known_at 3 x (Notes x.at Undefined) ∷
        [] else [])))
    told true b c = (one (Marks OpenSign), tt)
    told false true c = (one (Marks (ShortSign 0xf6 0 0)), tt)
    told false false true = (one (Notes x.at Undefined), tt)
    told false false false = tt

    cut : (o : Option ℕ) → Each (Fact x) (truncated_at o x)
    cut None = tt
    cut (Some at) = (fact x 1 (Notes at Truncated) (omega arith) (λ h. refl), tt)

    ends : (e7 op : Bool) → Each (Fact x) (if e7 then (if op then known_at 3 x (Marks EndSign) ∷ [] else known_at 3 x
        (Notes x.at StrayEnd) ∷ []) else (if op then known_at 2 x (Marks AbortSign) ∷ [] else []))
    ends true true = (one (Marks EndSign), tt)
    ends true false = (one (Notes x.at StrayEnd), tt)
    ends false true = (fact x 2 (Marks AbortSign) (omega arith) (λ h. refl), tt)
    ends false false = tt

    by : (rt da : Bool) → Each (Fact x) (if rt then realtime_known x ∷ [] else
        (if da then data_news g.status g.data_bytes x else ended g x ++ status_told x))
    by true da = (one (if is_undefined_realtime x.byte then Notes x.at Undefined else Marks (RtSign x.byte)), tt)
    by false true = climb-fact x 2 (data_news g.status g.data_bytes x) (omega arith) (climb-data g.status g.data_bytes
        x)
    by false false = Each-append (Fact x) (ended g x) (status_told x)
        (Each-append (Fact x) (truncated g x) (if x.byte == 0xf7 then (if is_sysex g then known_at 3 x (Marks EndSign) ∷
        [] else known_at 3 x (Notes x.at StrayEnd) ∷ []) else (if is_sysex g then known_at 2 x (Marks AbortSign) ∷
        [] else [])) (cut (begun_at g)) (ends (x.byte == 0xf7) (is_sysex g)))
        (told (x.byte == 0xf0) (x.byte == 0xf6) ((x.byte == 0xf4) || (x.byte == 0xf5)))

pub each-front : (P : Known → Type 0) (xs ys : List Known) → Each P (xs ++ ys) → Each P xs
each-front P [] ys a = tt
each-front P (x ∷ xs) ys a = (a.0, each-front P xs ys a.1)

pub each-back : (P : Known → Type 0) (xs ys : List Known) → Each P (xs ++ ys) → Each P ys
each-back P [] ys a = a
each-back P (x ∷ xs) ys a = each-back P xs ys a.1

pub parts-same : (m : ℕ) (ks : List Known) → Each (λ k. k.moment ≡ m) ks → map part_of ks ≡ map (λ t.
    record { moment = m; told = t }) (map (λ (k : Known). k.told) ks)
parts-same m [] a = refl
parts-same m (k ∷ ks) a = ap₂ (λ p ps. p ∷ ps) (ap (λ n. record { moment = n; told = k.told }) a.0)
    (parts-same m ks a.1)

pub common-append : (xs ys : List Told) → is_common (xs ++ ys) ≡ (is_common xs || is_common ys)
common-append [] ys = refl
common-append (x ∷ xs) ys = by x (common-append xs ys)
  where
    by : (x : Told) → is_common (xs ++ ys) ≡ (is_common xs || is_common ys) → is_common (x ∷ (xs ++ ys)) ≡
        (is_common (x ∷ xs) || is_common ys)
    by (Notes at k) e = e
    by (Marks (ShortSign s a b)) e = ors (nat_le 0xf0 s) e
      where
        ors : (c : Bool) → is_common (xs ++ ys) ≡ (is_common xs || is_common ys) → (c || is_common (xs ++ ys)) ≡
            ((c || is_common xs) || is_common ys)
        ors true e = refl
        ors false e = e
    by (Marks (RtSign b)) e = e
    by (Marks OpenSign) e = e
    by (Marks (ByteSign b)) e = e
    by (Marks EndSign) e = e
    by (Marks AbortSign) e = e

-- the moment
abbrev pub Timely : ℕ → Known → Type 0
Timely m k = k.moment ≡ m

timely-two : (s : ℕ) (ds : List Spot) (x : Spot) → Each (Timely x.moment) (pair_news s ds x)
timely-two s [] x = tt
timely-two s (d ∷ ds) x = (refl, tt)

timely-first_one : (s : ℕ) (ds : List Spot) (x : Spot) → Each (Timely x.moment) (first_one_news s ds x)
timely-first_one s [] x = (refl, tt)
timely-first_one s (d ∷ ds) x = (refl, tt)

timely-first_two : (s : ℕ) (ds : List Spot) (x : Spot) → Each (Timely x.moment) (first_two_news s ds x)
timely-first_two s [] x = tt
timely-first_two s (d ∷ []) x = (refl, tt)
timely-first_two s (d ∷ e ∷ ds) x = (refl, tt)

timely-data : (st : Option ℕ) (ds : List Spot) (x : Spot) → Each (Timely x.moment) (data_news st ds x)
timely-data None ds x = (refl, tt)
timely-data (Some s) ds x = by (s == 0xf0)
  where
    of_channel : (k : ℕ) (one : Bool) → Each (Timely x.moment) (if one then one_of s x ∷ [] else
        pair_news s (odd_one ds) x)
    of_channel k true = (refl, tt)
    of_channel k false = timely-two s (odd_one ds) x

    of_common : (none one : Bool) → Each (Timely x.moment) (if none then stray x ∷ [] else
        (if one then first_one_news s ds x else first_two_news s ds x))
    of_common true one = (refl, tt)
    of_common false true = timely-first_one s ds x
    of_common false false = timely-first_two s ds x

    piece : (k : ℕ) (c : Bool) → Each (Timely x.moment) (if c then channel_news s k ds x else common_news s k ds x)
    piece k true = of_channel k (k == 1)
    piece k false = of_common (k == 0) (k == 1)

    counted : (l : Option ℕ) (c : Bool) → Each (Timely x.moment) (data_news_by l c s ds x)
    counted None c = (refl, tt)
    counted (Some k) true = piece k true
    counted (Some k) false = piece k false

    by : (sysex : Bool) → Each (Timely x.moment) (if sysex then sysex_byte x ∷ [] else data_news_by (data_length s)
        (is_channel s) s ds x)
    by true = (refl, tt)
    by false = counted (data_length s) (is_channel s)

pub timely : (g : Group) (x : Spot) → Each (Timely x.moment) (news g x)
timely g x = by (is_realtime x.byte) (is_data x.byte)
  where
    told : (a b c : Bool) → Each (Timely x.moment) (if a then known_at 3 x (Marks OpenSign) ∷ [] else
        (if b then known_at 3 x (Marks (ShortSign 0xf6 0 0)) ∷ [] else (if c then known_at 3 x (Notes x.at Undefined) ∷
        [] else [])))
    told true b c = (refl, tt)
    told false true c = (refl, tt)
    told false false true = (refl, tt)
    told false false false = tt

    cut : (o : Option ℕ) → Each (Timely x.moment) (truncated_at o x)
    cut None = tt
    cut (Some at) = (refl, tt)

    ends : (e7 op : Bool) → Each (Timely x.moment) (if e7 then (if op then known_at 3 x (Marks EndSign) ∷ [] else
        known_at 3 x (Notes x.at StrayEnd) ∷ []) else (if op then known_at 2 x (Marks AbortSign) ∷ [] else []))
    ends true true = (refl, tt)
    ends true false = (refl, tt)
    ends false true = (refl, tt)
    ends false false = tt

    by : (rt da : Bool) → Each (Timely x.moment) (if rt then realtime_known x ∷ [] else
        (if da then data_news g.status g.data_bytes x else ended g x ++ status_told x))
    by true da = (refl, tt)
    by false true = timely-data g.status g.data_bytes x
    by false false = Each-append (Timely x.moment) (ended g x) (status_told x)
        (Each-append (Timely x.moment) (truncated g x) (if x.byte == 0xf7 then
        (if is_sysex g then known_at 3 x (Marks EndSign) ∷ [] else known_at 3 x (Notes x.at StrayEnd) ∷ []) else
        (if is_sysex g then known_at 2 x (Marks AbortSign) ∷ [] else [])) (cut (begun_at g))
        (ends (x.byte == 0xf7) (is_sysex g)))
        (told (x.byte == 0xf0) (x.byte == 0xf6) ((x.byte == 0xf4) || (x.byte == 0xf5)))
