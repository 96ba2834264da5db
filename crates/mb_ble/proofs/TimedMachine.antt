-- The machine of packets with its clock. What the tokens of packets tell has the moments that the machine's clock has.
use Rattle.std.proofs.Common.{◌≡◌, ℕ, ◌+◌, ◌-◌, ◌%◌, Bool, true, false, ◌==◌, ◌||◌, List, [], ◌∷◌, ◌++◌, map, flat_map}
use Rattle.std.proofs.Common.{Option, Some, None, refl, sym, ap, ap₂, ◌∙◌, append_assoc, ◌≤◌, subst, arith}
use Rattle.std.specs.Prelude.{nat_lt, if◌then◌else◌}
use Rattle.std.proofs.lemmas.List.{map-append}
use Rattle.std.proofs.lemmas.List.Concat.{flat_map-append}
use Rattle.mb_message.specs.Bytes.{is_data, is_realtime, is_channel, data_length}
use Rattle.mb_message.specs.Signs.{ShortSign, OpenSign, EndSign, AbortSign}
use Rattle.mb_message.specs.declared.note.NoteKind.TheVariants.{Truncated, EmptyPacket, StrayEnd, Undefined}
use Rattle.mb_clock.specs.Clock.{Clock, clock_of, begun, stamped}
use Rattle.mb_frames.specs.Frames.{FramePart, FrameBegin, FrameByte, FrameEnd, parts}
use Rattle.mb_stream.specs.Groups.{Group, is_sysex}
use Rattle.mb_stream.specs.Payload.{Spot}
use Rattle.mb_stream.specs.Puts.{Put, At, puts_at, last_put}
use Rattle.mb_stream.specs.Reading.{Part, part_of, part_at, sign_in}
use Rattle.mb_stream.specs.Told.{Told, Marks, Notes, Known, known_at, stray, sysex_byte, one_of, odd_one, status_told}
use Rattle.mb_stream.specs.Told.{truncated_at, truncated, begun_at, sysex_ended, ended, realtime_known, may_run, at_end}
use Rattle.mb_stream.specs.Working.{pair_news, channel_news, first_one_news, first_two_news, common_news, data_news_by}
use Rattle.mb_stream.specs.Working.{data_news, news}
use Rattle.mb_stream.proofs.Machine.{Rest, ends}
use Rattle.mb_stream.proofs.Literal.{known_signs}
use Rattle.mb_stream.proofs.LiteralMarks.{told_signs, at_end-signs}
use Rattle.mb_ble.specs.Distances.{put_in, puts_read, IsRising}
use Rattle.mb_ble.specs.Packets.{Token, Begins, Header, Unheaded, Skipped, Stamp, Status, Data, Ends, byte_token}
use Rattle.mb_ble.specs.Packets.{tokens, clock, spot, all_tokens}
use Rattle.mb_ble.specs.Reading.{cut_at, lone, ble_known, onto, last_tokens, ble_end, ble_reading}
use Rattle.mb_ble.specs.Reading as reading
use Rattle.mb_ble.specs.News.{token_news, news_from}
use Rattle.mb_ble.proofs.Law.{ble_known-news}
use Rattle.mb_ble.proofs.RisingLemmas.{rises-lower, rises-append, rises-at, last_put-append, last_put-at}
use Rattle.mb_ble.proofs.PacketMachine.{Where, AtHeader, AtSkipped, AtStamped, AtBody, Packeted, between, part_after}
use Rattle.mb_ble.proofs.PacketMachine.{part_tells, parts_end}
use Rattle.mb_ble.proofs.PacketLiteral.{group_of, Sim, place_of, PartStep, begins-step, byte-step, ends-step}

abbrev pub byte_clock : Where → Clock → ℕ → Clock
byte_clock AtHeader c b = if nat_lt b 128 then c else begun c (b % 64)
byte_clock AtSkipped c b = c
byte_clock AtStamped c b = c
byte_clock AtBody c b = if nat_lt b 128 then c else stamped c (b % 128)

abbrev pub part_clock : Packeted → Clock → FramePart → Clock
part_clock p c (FrameBegin len) = c
part_clock p c (FrameByte b) = byte_clock p.place c b
part_clock p c FrameEnd = c

-- what is told of all parts, each mark at the clock's moment
abbrev pub timed_parts : Packeted → Clock → List FramePart → List Put
timed_parts p c [] = puts_at c.moment (ends p.reader)
timed_parts p c (x ∷ xs) = puts_at c.moment (part_tells p x) ++ timed_parts (part_after p x) (part_clock p c x) xs

abbrev timed_tells : Packeted → Clock → List FramePart → List Put
timed_tells p c [] = []
timed_tells p c (x ∷ xs) = puts_at c.moment (part_tells p x) ++ timed_tells (part_after p x) (part_clock p c x) xs

abbrev clock_end : Packeted → Clock → List FramePart → Clock
clock_end p c [] = c
clock_end p c (x ∷ xs) = clock_end (part_after p x) (part_clock p c x) xs

timed_parts-tells : (ps : List FramePart) (p : Packeted) (c : Clock) →
    timed_parts p c ps ≡ timed_tells p c ps ++ puts_at (clock_end p c ps).moment (ends (parts_end p ps).reader)
timed_parts-tells [] p c = refl
timed_parts-tells (x ∷ ps) p c =
    let here : List Put = puts_at c.moment (part_tells p x) in
    let last : List Put = puts_at (clock_end p c (x ∷ ps)).moment (ends (parts_end p (x ∷ ps)).reader) in
    ap (λ z. here ++ z) (timed_parts-tells ps (part_after p x) (part_clock p c x))
    ∙ sym (append_assoc here (timed_tells (part_after p x) (part_clock p c x) ps) last)

-- All that becomes known at a byte has its moment.
abbrev AllAt : ℕ → List Known → Type 0
AllAt m [] = Unit {0}
AllAt m (k ∷ ks) = (k.moment ≡ m) × AllAt m ks

all-append : (m : ℕ) (xs ys : List Known) → AllAt m xs → AllAt m ys → AllAt m (xs ++ ys)
all-append m [] ys a b = b
all-append m (x ∷ xs) ys a b = (a.0, all-append m xs ys a.1 b)

all-if : (m : ℕ) (c : Bool) (xs ys : List Known) → AllAt m xs → AllAt m ys → AllAt m (if c then xs else ys)
all-if m true xs ys a b = a
all-if m false xs ys a b = b

pair-at : (s : ℕ) (ds : List Spot) (x : Spot) → AllAt x.moment (pair_news s ds x)
pair-at s [] x = tt
pair-at s (a ∷ ds) x = (refl, tt)

first_one-at : (s : ℕ) (ds : List Spot) (x : Spot) → AllAt x.moment (first_one_news s ds x)
first_one-at s [] x = (refl, tt)
first_one-at s (a ∷ ds) x = (refl, tt)

first_two-at : (s : ℕ) (ds : List Spot) (x : Spot) → AllAt x.moment (first_two_news s ds x)
first_two-at s [] x = tt
first_two-at s (a ∷ []) x = (refl, tt)
first_two-at s (a ∷ b ∷ ds) x = (refl, tt)

channel-at : (s k : ℕ) (ds : List Spot) (x : Spot) → AllAt x.moment (channel_news s k ds x)
channel-at s k ds x =
    all-if x.moment (k == 1) (one_of s x ∷ []) (pair_news s (odd_one ds) x) (refl, tt) (pair-at s (odd_one ds) x)

common-at : (s k : ℕ) (ds : List Spot) (x : Spot) → AllAt x.moment (common_news s k ds x)
common-at s k ds x =
    all-if x.moment (k == 0) (stray x ∷ []) (if k == 1 then first_one_news s ds x else first_two_news s ds x) (refl, tt)
    (all-if x.moment (k == 1) (first_one_news s ds x) (first_two_news s ds x) (first_one-at s ds x)
    (first_two-at s ds x))

data_by-at : (l : Option ℕ) (c : Bool) (s : ℕ) (ds : List Spot) (x : Spot) → AllAt x.moment (data_news_by l c s ds x)
data_by-at None c s ds x = (refl, tt)
data_by-at (Some k) c s ds x =
    all-if x.moment c (channel_news s k ds x) (common_news s k ds x) (channel-at s k ds x) (common-at s k ds x)

data-at : (status : Option ℕ) (ds : List Spot) (x : Spot) → AllAt x.moment (data_news status ds x)
data-at None ds x = (refl, tt)
data-at (Some s) ds x =
    all-if x.moment (s == 0xf0) (sysex_byte x ∷ []) (data_news_by (data_length s) (is_channel s) s ds x) (refl, tt)
    (data_by-at (data_length s) (is_channel s) s ds x)

truncated-at : (o : Option ℕ) (x : Spot) → AllAt x.moment (truncated_at o x)
truncated-at None x = tt
truncated-at (Some a) x = (refl, tt)

-- each of these two lists is one of what a status tells, or nothing
either-at : (c d : Bool) (x : Spot) (rank rank2 rank3 : ℕ) (t u v : Told) →
    AllAt x.moment (if c then (if d then known_at rank x t ∷ [] else known_at rank2 x u ∷ []) else
    (if d then known_at rank3 x v ∷ [] else []))
either-at true true x i j k t u v = (refl, tt)
either-at true false x i j k t u v = (refl, tt)
either-at false true x i j k t u v = (refl, tt)
either-at false false x i j k t u v = tt

status-at : (c d e : Bool) (x : Spot) (t u v : Told) →
    AllAt x.moment (if c then known_at 3 x t ∷ [] else
    (if d then known_at 3 x u ∷ [] else (if e then known_at 3 x v ∷ [] else [])))
status-at true d e x t u v = (refl, tt)
status-at false true e x t u v = (refl, tt)
status-at false false true x t u v = (refl, tt)
status-at false false false x t u v = tt

ended-at : (g : Group) (x : Spot) → AllAt x.moment (ended g x)
ended-at g x =
    all-append x.moment (truncated g x) (sysex_ended (is_sysex g) x) (truncated-at (begun_at g) x)
    (either-at (x.byte == 0xf7) (is_sysex g) x 3 3 2 (Marks EndSign) (Notes x.at StrayEnd) (Marks AbortSign))

news-at : (g : Group) (x : Spot) → AllAt x.moment (news g x)
news-at g x =
    all-if x.moment (is_realtime x.byte) (realtime_known x ∷ [])
    (if is_data x.byte then data_news g.status g.data_bytes x else ended g x ++ status_told x) (refl, tt)
    (all-if x.moment (is_data x.byte) (data_news g.status g.data_bytes x) (ended g x ++ status_told x)
    (data-at g.status g.data_bytes x)
    (all-append x.moment (ended g x) (status_told x) (ended-at g x)
    (status-at (x.byte == 0xf0) (x.byte == 0xf6) ((x.byte == 0xf4) || (x.byte == 0xf5)) x (Marks OpenSign)
    (Marks (ShortSign 0xf6 0 0)) (Notes x.at Undefined))))

-- All that becomes known at a token has the clock's moment.
lone-at : (kept : Bool) (rank at : ℕ) (before : List Token) → AllAt (clock before).moment (lone kept rank at before)
lone-at kept rank at [] = tt
lone-at kept rank at (Begins a len ∷ before) = tt
lone-at kept rank at (Header u ∷ before) = tt
lone-at kept rank at (Unheaded a ∷ before) = tt
lone-at kept rank at (Skipped ∷ before) = tt
lone-at true rank at (Stamp a low ∷ before) = tt
lone-at false rank at (Stamp a low ∷ before) = (refl, tt)
lone-at kept rank at (Status a b ∷ before) = tt
lone-at kept rank at (Data a b ∷ before) = tt
lone-at kept rank at (Ends a ∷ before) = tt

cut-at : (before : List Token) (at : ℕ) (o : Option ℕ) →
    AllAt (clock before).moment
    (elim o as (λ _. List Known) [
      | None ↦ []
      | Some a ↦ reading.noted 6 (cut_at before at).moment
          (cut_at before at).at a Truncated ∷ []
    ])
cut-at before at None = tt
cut-at before at (Some a) = (refl, tt)

token-at : (before : List Token) (t : Token) → AllAt (clock before).moment (token_news before t)
token-at before (Begins at len) =
    all-append (clock before).moment _ []
    (all-if (clock before).moment (len == 0) (reading.noted 4 (clock before).moment (at + 1) at EmptyPacket ∷ []) []
    (refl, tt) tt) tt
token-at before (Header u) = tt
token-at before (Unheaded at) = (refl, tt)
token-at before Skipped = tt
token-at before (Stamp at low) = tt
token-at before (Status at b) = news-at (group_of before) (spot before at b)
token-at before (Data at b) =
    all-append (clock before).moment (lone (may_run (group_of before)) 0 at before)
    (news (group_of before) (spot before at b))
    (lone-at (may_run (group_of before)) 0 at before) (news-at (group_of before) (spot before at b))
token-at before (Ends at) =
    all-append (clock before).moment (lone false 5 at before) _ (lone-at false 5 at before)
    (all-if (clock before).moment (is_sysex (group_of before)) [] _ tt (cut-at before at (begun_at (group_of before))))

-- the marks of what becomes known, with their moments
abbrev known_puts : List Known → List Put
known_puts ks = flat_map (λ (k : Known). put_in k.moment k.told) ks

one-put : (m n : ℕ) (t : Told) → n ≡ m → put_in n t ≡ puts_at m (sign_in t)
one-put m n (Marks s) e = ap (λ z. At z s ∷ []) e
one-put m n (Notes at k) e = refl

known-put : (m : ℕ) (ks : List Known) → AllAt m ks → known_puts ks ≡ puts_at m (known_signs ks)
known-put m [] a = refl
known-put m (k ∷ ks) a =
    ap₂ (λ x y. x ++ y) (one-put m k.moment k.told a.0) (known-put m ks a.1)
    ∙ sym (map-append (At m) (sign_in k.told) (known_signs ks))

-- The clock behind a token.
head-clock : (at b : ℕ) (before : List Token) (c : Bool) →
    clock ((if c then Unheaded at else Header (b % 64)) ∷ before) ≡
    (if c then clock before else begun (clock before) (b % 64))
head-clock at b before true = refl
head-clock at b before false = refl

body-clock : (at b : ℕ) (before : List Token) (c : Bool) →
    clock ((if c then Data at b else Stamp at (b % 128)) ∷ before) ≡
    (if c then clock before else stamped (clock before) (b % 128))
body-clock at b before true = refl
body-clock at b before false = refl

stamp-clock : (at b : ℕ) (before : List Token) (c : Bool) →
    clock ((if c then Data at b else Status at b) ∷ before) ≡ clock before
stamp-clock at b before true = refl
stamp-clock at b before false = refl

token-clock : (at b : ℕ) (last : Token) (before : List Token) →
    clock (byte_token at last b ∷ before) ≡ byte_clock (place_of last) (clock before) b
token-clock at b (Begins _ _) before = head-clock at b before (nat_lt b 128)
token-clock at b (Header u) before = body-clock at b before (nat_lt b 128)
token-clock at b (Unheaded _) before = refl
token-clock at b Skipped before = refl
token-clock at b (Stamp _ _) before = stamp-clock at b before (nat_lt b 128)
token-clock at b (Status _ _) before = body-clock at b before (nat_lt b 128)
token-clock at b (Data _ _) before = body-clock at b before (nat_lt b 128)
token-clock at b (Ends _) before = body-clock at b before (nat_lt b 128)

-- All tokens.
abbrev TimedBy : List Token → List Token → Packeted → List FramePart → Type 0
TimedBy before ts p ps =
    (known_puts (news_from before ts) ≡ timed_tells p (clock before) ps)
    × (clock (onto before ts) ≡ clock_end p (clock before) ps) × Sim (onto before ts) (parts_end p ps)

timed-more : (before : List Token) (t : Token) (ts : List Token) (p : Packeted) (x : FramePart) (ps : List FramePart)
    (n : Bool) →
    PartStep before t (part_tells p x) n (part_after p x) → clock (t ∷ before) ≡ part_clock p (clock before) x →
    TimedBy (t ∷ before) ts (part_after p x) ps → TimedBy before (t ∷ ts) p (x ∷ ps)
timed-more before t ts p x ps n st c ih =
    let m : ℕ = (clock before).moment in (
      flat_map-append (λ (k : Known). put_in k.moment k.told) (token_news before t) (news_from (t ∷ before) ts)
          ∙ ap₂ (λ y z. y ++ z) (known-put m (token_news before t) (token-at before t) ∙ ap (puts_at m) st.signs)
          (ih.0 ∙ ap (λ k. timed_tells (part_after p x) k ps) c),
      ih.1 ∙ ap (λ k. clock_end (part_after p x) k ps) c,
      ih.2,
    )

timed-tokens : (ps : List FramePart) (at : ℕ) (last : Token) (before : List Token) (p : Packeted) →
    p.place ≡ place_of last → Sim before p →
    TimedBy before (tokens at last ps) p ps
timed-tokens [] at last before p e s = (refl, refl, s)
timed-tokens (FrameBegin len ∷ ps) at last before p e s =
    let st = begins-step at len before p s in
    timed-more before (Begins at len) (tokens (at + 2) (Begins at len) ps) p (FrameBegin len) ps _ st refl
    (timed-tokens ps (at + 2) (Begins at len) (Begins at len ∷ before) (part_after p (FrameBegin len)) st.place st.sim)
timed-tokens (FrameByte b ∷ ps) at last before p e s =
    let t : Token = byte_token at last b in
    let st = byte-step at b last before p e s in
    timed-more before t (tokens (at + 1) t ps) p (FrameByte b) ps _ st
    (token-clock at b last before ∙ ap (λ w. byte_clock w (clock before) b) (sym e))
    (timed-tokens ps (at + 1) t (t ∷ before) (part_after p (FrameByte b)) st.place st.sim)
timed-tokens (FrameEnd ∷ ps) at last before p e s =
    let st = ends-step (at - 1) before p s in
    timed-more before (Ends (at - 1)) (tokens at (Ends (at - 1)) ps) p FrameEnd ps _ st refl
    (timed-tokens ps at (Ends (at - 1)) (Ends (at - 1) ∷ before) (part_after p FrameEnd) st.place st.sim)

known-read : (ks : List Known) → puts_read (map part_of ks) ≡ known_puts ks
known-read [] = refl
known-read (k ∷ ks) = ap (λ z. put_in k.moment k.told ++ z) (known-read ks)

end-read : (m : ℕ) (ts : List Told) → puts_read (map (part_at m) ts) ≡ puts_at m (told_signs ts)
end-read m [] = refl
end-read m (t ∷ ts) =
    ap₂ (λ x y. x ++ y) (one-put m m t refl) (end-read m ts) ∙ sym (map-append (At m) (sign_in t) (told_signs ts))

all-timed : (bytes : List ℕ) → TimedBy [] (all_tokens bytes) (between Rest) (parts bytes)
all-timed bytes =
    timed-tokens (parts bytes) 0 (Ends 0) [] (between Rest) refl
    (record { reader = refl; runs = tt; lone_is = λ h kept rank at. refl })

-- the marks of what is read of packets, with their moments, are the machine's
pub ble-puts : (bytes : List ℕ) → puts_read (ble_reading bytes) ≡ timed_parts (between Rest) (clock_of []) (parts bytes)
ble-puts bytes =
    let h : TimedBy [] (all_tokens bytes) (between Rest) (parts bytes) = all-timed bytes in
    let g : Group = group_of (last_tokens bytes) in
    flat_map-append (λ (p : Part). put_in p.moment p.told) (map part_of (ble_known bytes)) (ble_end bytes)
    ∙ (ap₂ (λ x y. x ++ y) (known-read (ble_known bytes) ∙ (ap known_puts (ble_known-news bytes) ∙ h.0))
    (end-read (clock (last_tokens bytes)).moment (at_end g)
    ∙ ap₂ (λ (k : Clock) ms. puts_at k.moment ms) h.1 (at_end-signs g ∙ ap ends h.2.reader))
    ∙ sym (timed_parts-tells (parts bytes) (between Rest) (clock_of [])))

-- The clock's moment never falls, so neither do the moments of a reading.
byte-above : (w : Where) (c : Clock) (b : ℕ) → c.moment ≤ (byte_clock w c b).moment
byte-above AtHeader c b = by (nat_lt b 128)
  where
    by : (t : Bool) → c.moment ≤ (if t then c else begun c (b % 64)).moment
    by true = omega arith
    by false = omega arith
byte-above AtSkipped c b = omega arith
byte-above AtStamped c b = omega arith
byte-above AtBody c b = by (nat_lt b 128)
  where
    by : (t : Bool) → c.moment ≤ (if t then c else stamped c (b % 128)).moment
    by true = omega arith
    by false = omega arith

part-above : (p : Packeted) (c : Clock) (x : FramePart) → c.moment ≤ (part_clock p c x).moment
part-above p c (FrameBegin len) = omega arith
part-above p c (FrameByte b) = byte-above p.place c b
part-above p c FrameEnd = omega arith

parts-rise : (ps : List FramePart) (p : Packeted) (c : Clock) → IsRising c.moment (timed_parts p c ps)
parts-rise [] p c = rises-at c.moment c.moment (ends p.reader) (omega arith)
parts-rise (x ∷ ps) p c =
    let m : ℕ = c.moment in
    let here : List Put = puts_at m (part_tells p x) in
    let next : ℕ = (part_clock p c x).moment in
    let low : last_put m here ≤ next =
    omega (arith, last_put-at m m (part_tells p x) (omega arith), part-above p c x) in
    rises-append m here (timed_parts (part_after p x) (part_clock p c x) ps)
    (rises-at m m (part_tells p x) (omega arith))
    (rises-lower (last_put m here) next (timed_parts (part_after p x) (part_clock p c x) ps) low
    (parts-rise ps (part_after p x) (part_clock p c x)))

parts-last : (ps : List FramePart) (p : Packeted) (c : Clock) (last : ℕ) → last ≤ c.moment →
    last_put last (timed_parts p c ps) ≤ (clock_end p c ps).moment
parts-last [] p c last le = last_put-at last c.moment (ends p.reader) le
parts-last (x ∷ ps) p c last le =
    let here : List Put = puts_at c.moment (part_tells p x) in
    let low : last_put last here ≤ (part_clock p c x).moment =
    omega (arith, last_put-at last c.moment (part_tells p x) le, part-above p c x) in
    subst (λ z. z ≤ (clock_end p c (x ∷ ps)).moment)
    (sym (last_put-append last here (timed_parts (part_after p x) (part_clock p c x) ps)))
    (parts-last ps (part_after p x) (part_clock p c x) (last_put last here) low)

pub reading-rises : (bytes : List ℕ) → IsRising 0 (puts_read (ble_reading bytes))
reading-rises bytes =
    subst (IsRising 0) (sym (ble-puts bytes)) (parts-rise (parts bytes) (between Rest) (clock_of []))

pub reading-last : (bytes : List ℕ) → last_put 0 (puts_read (ble_reading bytes)) ≤ (clock (last_tokens bytes)).moment
reading-last bytes =
    let end : clock (last_tokens bytes) ≡ clock_end (between Rest) (clock_of []) (parts bytes) = (all-timed bytes).1 in
    subst (λ (k : Clock). last_put 0 (puts_read (ble_reading bytes)) ≤ k.moment) (sym end)
    (subst (λ ps. last_put 0 ps ≤ (clock_end (between Rest) (clock_of []) (parts bytes)).moment) (sym (ble-puts bytes))
    (parts-last (parts bytes) (between Rest) (clock_of []) 0 (omega arith)))
