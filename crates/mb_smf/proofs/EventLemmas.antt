-- An event of a track is read as what it gives.
use Rattle.std.proofs.Common.{◌≡◌, ℕ, ◌+◌, ◌-◌, ◌^◌, ◌<◌, ◌==◌, ◌&&◌, ◌||◌, Bool, true, false, nat_lt, nat_le}
use Rattle.std.proofs.Common.{if◌then◌else◌, List, [], ◌∷◌, ◌++◌, length, Option, Some, None, unwrap_or, refl, sym}
use Rattle.std.proofs.Common.{◌∙◌, ap, subst, arith, length-append}
use Rattle.std.proofs.lemmas.Bool.{false≢true}
use Rattle.std.proofs.lemmas.Bool.Decides.{nat_tests}
use Rattle.mb_message.specs.Bytes.{data_length, is_channel, is_data, is_short, is_short_of_length}
use Rattle.mb_stream.specs.Spelling.{data_by_length, data_of}
use Rattle.mb_frames.specs.Gathered.{TimedByte}
use Rattle.mb_smf.specs.TrackTime.{TrackTime, ticks_later, track_moment}
use Rattle.mb_smf.specs.declared.event_kind.EventKind.TheVariants as kind
use Rattle.mb_smf.specs.declared.file_place.FilePlace.{FilePlace}
use Rattle.mb_smf.specs.declared.file_place.FilePlace.TheVariants as at
use Rattle.mb_smf.specs.declared.file_state.FileState.{FileState}
use Rattle.mb_smf.specs.declared.fault.SmfWhy.TheVariants as why
use Rattle.mb_smf.specs.FileStep.{FileStep, fails, gives, goes}
use Rattle.mb_smf.specs.TrackSteps.{data_count, in_chunk}
use Rattle.mb_smf.specs.TrackSteps.{to_come}
use Rattle.mb_smf.specs.TrackSteps.{without_status}
use Rattle.mb_smf.specs.Smf.{file_step, given_at, moved}
use Rattle.mb_smf.specs.SmfEvents.{IsDelta, quantity}
use Rattle.mb_smf.proofs.PassLemmas.{Passes, passes-as, passes-both, passes-step, state_at}
use Rattle.mb_smf.proofs.QuantityLemmas.{OfDelta, QuantityRead, chunk_at, is-done}
use Rattle.mb_smf.proofs.QuantityLemmas.{one-on, quantity-read, room-in, went_on}

at-place : (o l k j : ℕ) (p : FilePlace) (n e : ℕ) (r : Option ℕ) (t : TrackTime) → k ≡ j →
    chunk_at o l k p n e r t ≡ chunk_at o l j p n e r t
at-place o l k j p n e r t is = ap (λ z. chunk_at o l z p n e r t) is

-- a delta

pub delta-read : (n o l k e : ℕ) (r : Option ℕ) (t : TrackTime) → IsDelta t n → k + length (quantity n) < l →
    Passes (chunk_at o l k (at.Delta 0) 0 e r t) (quantity n) []
    (chunk_at o l (k + length (quantity n)) at.First 0 e r (ticks_later t n))
delta-read n o l k e r t d room =
    let q : QuantityRead OfDelta n o l k e r t = quantity-read OfDelta n o l k e r t d.fits (omega (arith, room)) in
    let j : ℕ = q.behind in
    let len : length (quantity n) ≡ length q.front + 1 =
    ap length q.is ∙ length-append q.front (q.last ∷ []) in
    let s : FileState = chunk_at o l j (at.Delta q.count) q.number e r t in
    let now : FileStep = goes (record s { place = at.First; number = 0; clock = ticks_later t n }) in
    let near : nat_lt (track_moment (ticks_later t n)) (2 ^ 64) ≡ true = grind (arith, nat_tests, d.near) in
    let step : file_step s q.last ≡ goes (chunk_at o l (j + 1) at.First 0 e r (ticks_later t n)) =
    is-done OfDelta o l j q.count q.number e r t q.last n q.low q.value
    ∙ (ap (λ (z : Bool). moved (o + j) (in_chunk (if z then now else fails s why.Far))) near
    ∙ (ap (λ (z : Bool). went_on (o + j) z now) (room-in l j (omega (arith, room, len, q.there)))
    ∙ ap goes (one-on o l j at.First 0 e r (ticks_later t n)))) in
    passes-as (chunk_at o l k (at.Delta 0) 0 e r t) (chunk_at o l (j + 1) at.First 0 e r (ticks_later t n))
    (chunk_at o l (k + length (quantity n)) at.First 0 e r (ticks_later t n)) (q.front ++ q.last ∷ []) (quantity n) []
    [] (sym q.is) refl
    (at-place o l (j + 1) (k + length (quantity n)) at.First 0 e r (ticks_later t n) (omega (arith, len, q.there)))
    (passes-both (chunk_at o l k (at.Delta 0) 0 e r t) s
    (chunk_at o l (j + 1) at.First 0 e r (ticks_later t n)) q.front (q.last ∷ []) [] [] q.passes
    (passes-step s q.last (goes (chunk_at o l (j + 1) at.First 0 e r (ticks_later t n))) step))

-- channel messages

pub data Counts (s : ℕ) : Type 0 where
  OneByte : data_length s ≡ Some 1 → Counts s
  TwoBytes : data_length s ≡ Some 2 → Counts s

abbrev length_by : (is_channel_status one : Bool) → ℕ → Option ℕ
length_by c one s =
    if c then Some (if one then 1 else 2)
    else (if (s == 0xf1) || (s == 0xf3) then Some 1
    else (if s == 0xf2 then Some 2
    else (if s == 0xf6 then Some 0 else None)))

counts : (s : ℕ) → is_channel s ≡ true → Counts s
counts s c = by (nat_le 0xc0 s && nat_lt s 0xe0) refl where
  by : (q : Bool) → (nat_le 0xc0 s && nat_lt s 0xe0) ≡ q → Counts s
  by true e = OneByte (ap (λ z. length_by z (nat_le 0xc0 s && nat_lt s 0xe0) s) c ∙ ap (λ z. length_by true z s) e)
  by false e = TwoBytes (ap (λ z. length_by z (nat_le 0xc0 s && nat_lt s 0xe0) s) c ∙ ap (λ z. length_by true z s) e)

not-data : (s : ℕ) → is_channel s ≡ true → is_data s ≡ false
not-data s c = grind (arith, nat_tests)

pub and-first : (p q : Bool) → (p && q) ≡ true → p ≡ true
and-first true q h = refl
and-first false q h = h

pub and-second : (p q : Bool) → (p && q) ≡ true → q ≡ true
and-second true q h = h
and-second false q h = absurd (false≢true h)

-- an event's first byte, by what it is
abbrev first_by : (data_byte channel_status : Bool) → FileState → ℕ → FileStep
first_by d c s b =
    if d then without_status s s.running b
    else (if c then gives b (to_come (record s { running = Some b }) (data_count b))
    else (if b == 0xf0 then goes (record s { place = at.Length 0 kind.Sysex; running = None })
    else (if b == 0xf7 then goes (record s { place = at.Length 0 kind.Escape; running = None })
    else (if b == 0xff then goes (record s { place = at.MetaType; running = None }) else fails s why.Event))))

first-status : (s c o l k e : ℕ) (r : Option ℕ) (t : TrackTime) → is_channel s ≡ true → data_length s ≡ Some c →
    file_step (chunk_at o l k at.First 0 e r t) s ≡ moved (o + k)
    (in_chunk (gives s (to_come (chunk_at o l k at.First 0 e (Some s) t) c)))
first-status s c o l k e r t channel count =
    let now : FileState = chunk_at o l k at.First 0 e r t in
    ap (λ (q : Bool). moved (o + k) (in_chunk (first_by q (is_channel s) now s))) (not-data s channel)
    ∙ (ap (λ (q : Bool). moved (o + k) (in_chunk (first_by false q now s))) channel
    ∙ ap (λ z. moved (o + k) (in_chunk (gives s (to_come (chunk_at o l k at.First 0 e (Some s) t) (unwrap_or z 0)))))
    count)

first-data : (s c b o l k e : ℕ) (t : TrackTime) → is_data b ≡ true → data_length s ≡ Some c →
    file_step (chunk_at o l k at.First 0 e (Some s) t) b ≡ moved (o + k)
    (in_chunk (record {
      given = s ∷ b ∷ [];
      now = to_come (chunk_at o l k at.First 0 e (Some s) t) (c - 1);
    }))
first-data s c b o l k e t is_it count =
    let now : FileState = chunk_at o l k at.First 0 e (Some s) t in
    ap (λ (q : Bool). moved (o + k) (in_chunk (first_by q (is_channel b) now b))) is_it
    ∙ ap (λ z. moved (o + k) (in_chunk (record { given = s ∷ b ∷ []; now = to_come now (unwrap_or z 0 - 1) }))) count

-- a step that gives bytes, where the chunk goes on
pub goes-further : (given : List ℕ) (p : FilePlace) (n o l k e : ℕ) (r : Option ℕ) (t : TrackTime) → k + 1 < l →
    went_on (o + k) (nat_lt 1 (l - k)) (record { given = given; now = state_at (o + k) p n (l - k) e r t })
    ≡ went_on (o + k) true (record { given = given; now = state_at (o + k) p n (l - k) e r t })
goes-further given p n o l k e r t room =
    ap (λ (q : Bool). went_on (o + k) q (record { given = given; now = state_at (o + k) p n (l - k) e r t }))
    (room-in l k room)

-- the last data byte, and the one before it
data-last : (b o l k e : ℕ) (r : Option ℕ) (t : TrackTime) → is_data b ≡ true → k + 1 < l →
    Passes (chunk_at o l k (at.Data 1) 0 e r t) (b ∷ []) (given_at (track_moment t) (b ∷ []))
    (chunk_at o l (k + 1) (at.Delta 0) 0 e r t)
data-last b o l k e r t is_it room =
    let now : FileState = chunk_at o l k (at.Data 1) 0 e r t in
    passes-step now b (gives b (chunk_at o l (k + 1) (at.Delta 0) 0 e r t))
    (ap (λ (q : Bool). moved (o + k) (in_chunk (if q then gives b (to_come now 0) else fails now why.Event))) is_it
    ∙ (goes-further (b ∷ []) (at.Delta 0) 0 o l k e r t room ∙ ap (gives b) (one-on o l k (at.Delta 0) 0 e r t)))

data-first : (b o l k e : ℕ) (r : Option ℕ) (t : TrackTime) → is_data b ≡ true → k + 1 < l →
    Passes (chunk_at o l k (at.Data 2) 0 e r t) (b ∷ []) (given_at (track_moment t) (b ∷ []))
    (chunk_at o l (k + 1) (at.Data 1) 0 e r t)
data-first b o l k e r t is_it room =
    let now : FileState = chunk_at o l k (at.Data 2) 0 e r t in
    passes-step now b (gives b (chunk_at o l (k + 1) (at.Data 1) 0 e r t))
    (ap (λ (q : Bool). moved (o + k) (in_chunk (if q then gives b (to_come now 1) else fails now why.Event))) is_it
    ∙ (goes-further (b ∷ []) (at.Data 1) 0 o l k e r t room ∙ ap (gives b) (one-on o l k (at.Data 1) 0 e r t)))

status-passes : (s c o l k e : ℕ) (r : Option ℕ) (t : TrackTime) → is_channel s ≡ true → data_length s ≡ Some c →
    to_come (chunk_at o l k at.First 0 e (Some s) t) c ≡ chunk_at o l k (at.Data c) 0 e (Some s) t → k + 1 < l →
    Passes (chunk_at o l k at.First 0 e r t) (s ∷ []) (given_at (track_moment t) (s ∷ []))
    (chunk_at o l (k + 1) (at.Data c) 0 e (Some s) t)
status-passes s c o l k e r t channel count comes room =
    passes-step (chunk_at o l k at.First 0 e r t) s (gives s (chunk_at o l (k + 1) (at.Data c) 0 e (Some s) t))
    (first-status s c o l k e r t channel count
    ∙ (ap (λ z. moved (o + k) (in_chunk (gives s z))) comes
    ∙ (goes-further (s ∷ []) (at.Data c) 0 o l k e (Some s) t room
    ∙ ap (gives s) (one-on o l k (at.Data c) 0 e (Some s) t))))

running-one : (s b o l k e : ℕ) (t : TrackTime) → is_data b ≡ true → data_length s ≡ Some 1 → k + 1 < l →
    Passes (chunk_at o l k at.First 0 e (Some s) t) (b ∷ []) (given_at (track_moment t) (s ∷ b ∷ []))
    (chunk_at o l (k + 1) (at.Delta 0) 0 e (Some s) t)
running-one s b o l k e t is_it count room =
    passes-step (chunk_at o l k at.First 0 e (Some s) t) b
    (record { given = s ∷ b ∷ []; now = chunk_at o l (k + 1) (at.Delta 0) 0 e (Some s) t })
    (first-data s 1 b o l k e t is_it count ∙ (goes-further (s ∷ b ∷ []) (at.Delta 0) 0 o l k e (Some s) t room
    ∙ ap (λ z. record { given = s ∷ b ∷ []; now = z }) (one-on o l k (at.Delta 0) 0 e (Some s) t)))

running-two : (s b o l k e : ℕ) (t : TrackTime) → is_data b ≡ true → data_length s ≡ Some 2 → k + 1 < l →
    Passes (chunk_at o l k at.First 0 e (Some s) t) (b ∷ []) (given_at (track_moment t) (s ∷ b ∷ []))
    (chunk_at o l (k + 1) (at.Data 1) 0 e (Some s) t)
running-two s b o l k e t is_it count room =
    passes-step (chunk_at o l k at.First 0 e (Some s) t) b
    (record { given = s ∷ b ∷ []; now = chunk_at o l (k + 1) (at.Data 1) 0 e (Some s) t })
    (first-data s 2 b o l k e t is_it count ∙ (goes-further (s ∷ b ∷ []) (at.Data 1) 0 o l k e (Some s) t room
    ∙ ap (λ z. record { given = s ∷ b ∷ []; now = z }) (one-on o l k (at.Data 1) 0 e (Some s) t)))

-- how a channel message's data is spelled
data-one : (s a b : ℕ) → data_length s ≡ Some 1 → data_of s a b ≡ a ∷ []
data-one s a b count = ap (λ z. data_by_length z a b) count

data-two : (s a b : ℕ) → data_length s ≡ Some 2 → data_of s a b ≡ a ∷ b ∷ []
data-two s a b count = ap (λ z. data_by_length z a b) count

short-by : (s c a b : ℕ) → data_length s ≡ Some c → is_short s a b ≡ true → is_short_of_length (Some c) a b ≡ true
short-by s c a b count short = ap (λ z. is_short_of_length z a b) (sym count) ∙ short

pub passes-at : (a : FileState) (xs : List ℕ) (g : List TimedByte) (o l k j : ℕ) (p : FilePlace) (n e : ℕ)
    (r : Option ℕ) (t : TrackTime) → k ≡ j → Passes a xs g (chunk_at o l k p n e r t) →
    Passes a xs g (chunk_at o l j p n e r t)
passes-at a xs g o l k j p n e r t is h = subst (λ z. Passes a xs g (chunk_at o l z p n e r t)) is h

-- A channel message with its status, or without it where it runs.
abbrev ChannelPasses : (bytes ds : List ℕ) → (s o l k e : ℕ) → (r : Option ℕ) → TrackTime → Type 0
ChannelPasses bytes ds s o l k e r t =
    Passes (chunk_at o l k at.First 0 e r t) bytes (given_at (track_moment t) (s ∷ ds))
    (chunk_at o l (k + length bytes) (at.Delta 0) 0 e (Some s) t)

channel-one : (s a b o l k e : ℕ) (r : Option ℕ) (t : TrackTime) → is_channel s ≡ true → data_length s ≡ Some 1 →
    is_short_of_length (Some 1) a b ≡ true → k + length (s ∷ a ∷ []) < l →
    ChannelPasses (s ∷ a ∷ []) (a ∷ []) s o l k e r t
channel-one s a b o l k e r t channel one fits room =
    passes-at (chunk_at o l k at.First 0 e r t) (s ∷ a ∷ []) (given_at (track_moment t) (s ∷ a ∷ [])) o l (k + 1 + 1)
    (k + length (s ∷ a ∷ [])) (at.Delta 0) 0 e (Some s) t (omega arith)
    (passes-both (chunk_at o l k at.First 0 e r t) (chunk_at o l (k + 1) (at.Data 1) 0 e (Some s) t)
    (chunk_at o l (k + 1 + 1) (at.Delta 0) 0 e (Some s) t) (s ∷ []) (a ∷ []) (given_at (track_moment t) (s ∷ []))
    (given_at (track_moment t) (a ∷ []))
    (status-passes s 1 o l k e r t channel one refl (omega (arith, room)))
    (data-last a o l (k + 1) e (Some s) t (and-first (is_data a) (b == 0) fits) (omega (arith, room))))

channel-two : (s a b o l k e : ℕ) (r : Option ℕ) (t : TrackTime) → is_channel s ≡ true → data_length s ≡ Some 2 →
    is_short_of_length (Some 2) a b ≡ true → k + length (s ∷ a ∷ b ∷ []) < l →
    ChannelPasses (s ∷ a ∷ b ∷ []) (a ∷ b ∷ []) s o l k e r t
channel-two s a b o l k e r t channel two fits room =
    passes-at (chunk_at o l k at.First 0 e r t) (s ∷ a ∷ b ∷ []) (given_at (track_moment t) (s ∷ a ∷ b ∷ [])) o l
    (k + 1 + 1 + 1) (k + length (s ∷ a ∷ b ∷ [])) (at.Delta 0) 0 e (Some s) t (omega arith)
    (passes-both (chunk_at o l k at.First 0 e r t) (chunk_at o l (k + 1) (at.Data 2) 0 e (Some s) t)
    (chunk_at o l (k + 1 + 1 + 1) (at.Delta 0) 0 e (Some s) t) (s ∷ []) (a ∷ b ∷ [])
    (given_at (track_moment t) (s ∷ [])) (given_at (track_moment t) (a ∷ b ∷ []))
    (status-passes s 2 o l k e r t channel two refl (omega (arith, room)))
    (passes-both (chunk_at o l (k + 1) (at.Data 2) 0 e (Some s) t)
    (chunk_at o l (k + 1 + 1) (at.Data 1) 0 e (Some s) t) (chunk_at o l (k + 1 + 1 + 1) (at.Delta 0) 0 e (Some s) t)
    (a ∷ []) (b ∷ []) (given_at (track_moment t) (a ∷ [])) (given_at (track_moment t) (b ∷ []))
    (data-first a o l (k + 1) e (Some s) t (and-first (is_data a) (is_data b) fits) (omega (arith, room)))
    (data-last b o l (k + 1 + 1) e (Some s) t (and-second (is_data a) (is_data b) fits) (omega (arith, room)))))

pub channel-read : (s a b o l k e : ℕ) (r : Option ℕ) (t : TrackTime) → is_channel s ≡ true → is_short s a b ≡ true →
    k + length (s ∷ data_of s a b) < l → ChannelPasses (s ∷ data_of s a b) (data_of s a b) s o l k e r t
channel-read s a b o l k e r t channel short room = by (counts s channel) where
  by : Counts s → ChannelPasses (s ∷ data_of s a b) (data_of s a b) s o l k e r t
  by (OneByte one) = subst (λ ds. ChannelPasses (s ∷ ds) ds s o l k e r t) (sym (data-one s a b one))
      (channel-one s a b o l k e r t channel one (short-by s 1 a b one short)
      (subst (λ ds. k + length (s ∷ ds) < l) (data-one s a b one) room))
  by (TwoBytes two) = subst (λ ds. ChannelPasses (s ∷ ds) ds s o l k e r t) (sym (data-two s a b two))
      (channel-two s a b o l k e r t channel two (short-by s 2 a b two short)
      (subst (λ ds. k + length (s ∷ ds) < l) (data-two s a b two) room))

pub running-read : (s a b o l k e : ℕ) (t : TrackTime) → is_channel s ≡ true → is_short s a b ≡ true →
    k + length (data_of s a b) < l → ChannelPasses (data_of s a b) (data_of s a b) s o l k e (Some s) t
running-read s a b o l k e t channel short room = by (counts s channel) where
  by : Counts s → ChannelPasses (data_of s a b) (data_of s a b) s o l k e (Some s) t
  by (OneByte one) =
      let fits : is_short_of_length (Some 1) a b ≡ true = short-by s 1 a b one short in
      let many : k + length (a ∷ []) < l = subst (λ ds. k + length ds < l) (data-one s a b one) room in
      subst (λ ds. ChannelPasses ds ds s o l k e (Some s) t) (sym (data-one s a b one))
      (running-one s a o l k e t (and-first (is_data a) (b == 0) fits) one many)
  by (TwoBytes two) =
      let fits : is_short_of_length (Some 2) a b ≡ true = short-by s 2 a b two short in
      let many : k + length (a ∷ b ∷ []) < l = subst (λ ds. k + length ds < l) (data-two s a b two) room in
      subst (λ ds. ChannelPasses ds ds s o l k e (Some s) t) (sym (data-two s a b two))
      (passes-at (chunk_at o l k at.First 0 e (Some s) t) (a ∷ b ∷ []) (given_at (track_moment t) (s ∷ a ∷ b ∷ [])) o
      l (k + 1 + 1) (k + length (a ∷ b ∷ [])) (at.Delta 0) 0 e (Some s) t (omega arith)
      (passes-both (chunk_at o l k at.First 0 e (Some s) t) (chunk_at o l (k + 1) (at.Data 1) 0 e (Some s) t)
      (chunk_at o l (k + 1 + 1) (at.Delta 0) 0 e (Some s) t) (a ∷ []) (b ∷ [])
      (given_at (track_moment t) (s ∷ a ∷ [])) (given_at (track_moment t) (b ∷ []))
      (running-two s a o l k e t (and-first (is_data a) (is_data b) fits) two (omega (arith, many)))
      (data-last b o l (k + 1) e (Some s) t (and-second (is_data a) (is_data b) fits) (omega (arith, many)))))
