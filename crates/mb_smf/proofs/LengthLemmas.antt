-- An event with a length is read as what it gives.
use Rattle.std.proofs.Common.{◌≡◌, ℕ, ◌+◌, ◌-◌, ◌^◌, ◌<◌, ◌==◌, Bool, true, false, nat_le}
use Rattle.std.proofs.Common.{if◌then◌else◌, List, [], ◌∷◌, ◌++◌, length, Option, None, refl, sym, ◌∙◌, ap, subst}
use Rattle.std.proofs.Common.{arith, append-nil, length-append}
use Rattle.std.proofs.lemmas.List.{map-append}
use Rattle.std.proofs.lemmas.Bool.Decides.{nat_tests}
use Rattle.mb_frames.specs.Numbers.{number}
use Rattle.mb_smf.specs.TrackTime.{TrackTime, track_moment}
use Rattle.mb_smf.specs.declared.event_kind.EventKind.{EventKind}
use Rattle.mb_smf.specs.declared.event_kind.EventKind.TheVariants as kind
use Rattle.mb_smf.specs.declared.file_place.FilePlace.TheVariants as at
use Rattle.mb_smf.specs.declared.file_state.FileState.{FileState}
use Rattle.mb_smf.specs.FileStep.{goes, with_byte}
use Rattle.mb_smf.specs.TrackSteps.{event_ended, gives_bytes, in_chunk, length_of, meta_kind, next_event, with_bytes}
use Rattle.mb_smf.specs.Smf.{file_step, given_at, moved}
use Rattle.mb_smf.specs.SmfReading.{behind_run}
use Rattle.mb_smf.specs.SmfEvents.{behind_length, quantity}
use Rattle.mb_smf.proofs.PassLemmas.{Passes, passes-as, passes-both, passes-step, state_at}
use Rattle.mb_smf.proofs.QuantityLemmas.{OfLength, QuantityRead, chunk_at, is-done, one-on, quantity-read}
use Rattle.mb_smf.proofs.EventLemmas.{goes-further, passes-at}
use Rattle.mb_smf.proofs.RunLemmas.{run-all}

-- the first byte

pub sysex-first : (o l k e : ℕ) (r : Option ℕ) (t : TrackTime) → k + 1 < l →
    Passes (chunk_at o l k at.First 0 e r t) (0xf0 ∷ []) []
    (chunk_at o l (k + 1) (at.Length 0 kind.Sysex) 0 e None t)
sysex-first o l k e r t room =
    passes-step (chunk_at o l k at.First 0 e r t) 0xf0
    (goes (chunk_at o l (k + 1) (at.Length 0 kind.Sysex) 0 e None t))
    (goes-further [] (at.Length 0 kind.Sysex) 0 o l k e None t room
    ∙ ap goes (one-on o l k (at.Length 0 kind.Sysex) 0 e None t))

pub escape-first : (o l k e : ℕ) (r : Option ℕ) (t : TrackTime) → k + 1 < l →
    Passes (chunk_at o l k at.First 0 e r t) (0xf7 ∷ []) []
    (chunk_at o l (k + 1) (at.Length 0 kind.Escape) 0 e None t)
escape-first o l k e r t room =
    passes-step (chunk_at o l k at.First 0 e r t) 0xf7
    (goes (chunk_at o l (k + 1) (at.Length 0 kind.Escape) 0 e None t))
    (goes-further [] (at.Length 0 kind.Escape) 0 o l k e None t room
    ∙ ap goes (one-on o l k (at.Length 0 kind.Escape) 0 e None t))

-- and the type
pub meta-first : (type o l k e : ℕ) (r : Option ℕ) (t : TrackTime) → k + 1 + 1 < l →
    Passes (chunk_at o l k at.First 0 e r t) (0xff ∷ type ∷ []) []
    (chunk_at o l (k + 1 + 1) (at.Length 0 (meta_kind type)) 0 e None t)
meta-first type o l k e r t room =
    passes-both (chunk_at o l k at.First 0 e r t) (chunk_at o l (k + 1) at.MetaType 0 e None t)
    (chunk_at o l (k + 1 + 1) (at.Length 0 (meta_kind type)) 0 e None t) (0xff ∷ []) (type ∷ []) [] []
    (passes-step (chunk_at o l k at.First 0 e r t) 0xff (goes (chunk_at o l (k + 1) at.MetaType 0 e None t))
    (goes-further [] at.MetaType 0 o l k e None t (omega (arith, room))
    ∙ ap goes (one-on o l k at.MetaType 0 e None t)))
    (passes-step (chunk_at o l (k + 1) at.MetaType 0 e None t) type
    (goes (chunk_at o l (k + 1 + 1) (at.Length 0 (meta_kind type)) 0 e None t))
    (goes-further [] (at.Length 0 (meta_kind type)) 0 o l (k + 1) e None t room
    ∙ ap goes (one-on o l (k + 1) (at.Length 0 (meta_kind type)) 0 e None t)))

-- events of any length, and what is given when it stands
pub data Plain : EventKind → Type 0 where
  PlainSysex : Plain kind.Sysex
  PlainEscape : Plain kind.Escape
  PlainOther : Plain kind.Other

abbrev pub own : EventKind → List ℕ
own kind.Sysex = 0xf0 ∷ []
own k = []

length-plain : (u : EventKind) → Plain u → (s : FileState) (n : ℕ) →
    length_of s u n ≡ record { given = own u; now = with_bytes s u n }
length-plain kind.Sysex PlainSysex s n = refl
length-plain kind.Escape PlainEscape s n = refl
length-plain kind.Other PlainOther s n = refl
length-plain kind.Tempo plain s n = elim plain [ ]
length-plain kind.End plain s n = elim plain [ ]

none-to-come : (u : EventKind) → Plain u → (s : FileState) → with_bytes s u 0 ≡ next_event s
none-to-come kind.Sysex PlainSysex s = refl
none-to-come kind.Escape PlainEscape s = refl
none-to-come kind.Other PlainOther s = refl
none-to-come kind.Tempo plain s = elim plain [ ]
none-to-come kind.End plain s = elim plain [ ]

some-to-come : (u : EventKind) (s : FileState) (b : ℕ) (bs : List ℕ) → with_bytes s u (length (b ∷ bs))
    ≡ record s { place = at.Bytes u; event = length (b ∷ bs); number = 0 }
some-to-come u s b bs =
    let some : (length (b ∷ bs) == 0) ≡ false = grind (arith, nat_tests) in
    ap (λ (q : Bool). if q then event_ended s u else record s {
      place = at.Bytes u;
      event = length (b ∷ bs);
      number = 0;
    })
    some

-- the length, where no byte follows
length-none : (u : EventKind) → Plain u → (o l k e : ℕ) (r : Option ℕ) (t : TrackTime) → k + 1 < l →
    Passes (chunk_at o l k (at.Length 0 u) 0 e r t) (0 ∷ []) (given_at (track_moment t) (own u))
    (chunk_at o l (k + 1) (at.Delta 0) 0 e r t)
length-none u plain o l k e r t room =
    let s : FileState = chunk_at o l k (at.Length 0 u) 0 e r t in
    passes-step s 0 (record { given = own u; now = chunk_at o l (k + 1) (at.Delta 0) 0 e r t })
    (is-done (OfLength u) o l k 0 0 e r t 0 0 refl refl
    ∙ (ap (λ z. moved (o + k) (in_chunk z)) (length-plain u plain s 0)
    ∙ (ap (λ z. moved (o + k) (in_chunk (record { given = own u; now = z }))) (none-to-come u plain s)
    ∙ (goes-further (own u) (at.Delta 0) 0 o l k e r t room
    ∙ ap (λ z. record { given = own u; now = z }) (one-on o l k (at.Delta 0) 0 e r t)))))

-- and where some do
length-some : (u : EventKind) → Plain u → (b : ℕ) (bs : List ℕ) (o l k e : ℕ) (r : Option ℕ) (t : TrackTime) →
    length (b ∷ bs) < 2 ^ 28 → k + length (quantity (length (b ∷ bs))) < l →
    Passes (chunk_at o l k (at.Length 0 u) 0 e r t) (quantity (length (b ∷ bs)))
    (given_at (track_moment t) (own u))
    (chunk_at o l (k + length (quantity (length (b ∷ bs)))) (at.Bytes u) 0 (length (b ∷ bs)) r t)
length-some u plain b bs o l k e r t short room =
    let n : ℕ = length (b ∷ bs) in
    let q : QuantityRead (OfLength u) n o l k e r t =
    quantity-read (OfLength u) n o l k e r t short (omega (arith, room)) in
    let j : ℕ = q.behind in
    let len : length (quantity n) ≡ length q.front + 1 =
    ap length q.is ∙ length-append q.front (q.last ∷ []) in
    let s : FileState = chunk_at o l j (at.Length q.count u) q.number e r t in
    let now : FileState = chunk_at o l (j + 1) (at.Bytes u) 0 n r t in
    let step : file_step s q.last ≡ record { given = own u; now = now } =
    is-done (OfLength u) o l j q.count q.number e r t q.last n q.low q.value
    ∙ (ap (λ z. moved (o + j) (in_chunk z)) (length-plain u plain s n)
    ∙ (ap (λ z. moved (o + j) (in_chunk (record { given = own u; now = z }))) (some-to-come u s b bs)
    ∙ (goes-further (own u) (at.Bytes u) 0 o l j n r t (omega (arith, room, len, q.there))
    ∙ ap (λ z. record { given = own u; now = z }) (one-on o l j (at.Bytes u) 0 n r t)))) in
    passes-at (chunk_at o l k (at.Length 0 u) 0 e r t) (quantity n) (given_at (track_moment t) (own u)) o l (j + 1)
    (k + length (quantity n)) (at.Bytes u) 0 n r t (omega (arith, len, q.there))
    (passes-as (chunk_at o l k (at.Length 0 u) 0 e r t) now now (q.front ++ q.last ∷ []) (quantity n)
    (given_at (track_moment t) (own u)) (given_at (track_moment t) (own u)) (sym q.is) refl refl
    (passes-both (chunk_at o l k (at.Length 0 u) 0 e r t) s now q.front (q.last ∷ []) []
    (given_at (track_moment t) (own u)) q.passes
    (passes-step s q.last (record { given = own u; now = now }) step)))

-- the bytes, where they are given
run-passes : (u : EventKind) → gives_bytes u ≡ true → (b : ℕ) (bs : List ℕ) (o l k : ℕ) (r : Option ℕ)
    (t : TrackTime) → k + length (b ∷ bs) < l →
    Passes (chunk_at o l k (at.Bytes u) 0 (length (b ∷ bs)) r t) (b ∷ bs) (given_at (track_moment t) (b ∷ bs))
    (chunk_at o l (k + length (b ∷ bs)) (at.Delta 0) 0 0 r t)
run-passes u gives b bs o l k r t room =
    let n : ℕ = length (b ∷ bs) in
    let s : FileState = chunk_at o l k (at.Bytes u) 0 n r t in
    let ends : nat_le n n ≡ true = grind (arith, nat_tests) in
    let offset : o + k + n ≡ o + (k + n) = omega arith in
    let left : l - k - n ≡ l - (k + n) = omega arith in
    let none : n - n ≡ 0 = omega arith in
    let now : behind_run s n ≡ chunk_at o l (k + n) (at.Delta 0) 0 0 r t =
    ap (λ (q : Bool). state_at (o + k + n) (if q then at.Delta 0 else at.Bytes u) (if q then 0 else 0) (l - k - n)
    (n - n) r t) ends
    ∙ (ap (λ z. state_at z (at.Delta 0) 0 (l - k - n) (n - n) r t) offset
    ∙ (ap (λ z. state_at (o + (k + n)) (at.Delta 0) 0 z (n - n) r t) left
    ∙ ap (λ z. state_at (o + (k + n)) (at.Delta 0) 0 (l - (k + n)) z r t) none)) in
    subst (Passes s (b ∷ bs) (given_at (track_moment t) (b ∷ bs))) now
    (run-all u gives b bs (o + k) 0 (l - k) n r t (omega arith) (omega (arith, room)))

-- and where they are passed over
skip-passes : (b : ℕ) (bs : List ℕ) (o l k n e : ℕ) (r : Option ℕ) (t : TrackTime) → e ≡ length (b ∷ bs) →
    k + length (b ∷ bs) < l → Passes (chunk_at o l k (at.Bytes kind.Other) n e r t) (b ∷ bs) []
    (chunk_at o l (k + length (b ∷ bs)) (at.Delta 0) 0 0 r t)
skip-passes b [] o l k n e r t e_is room =
    let one : e ≡ 1 = omega (arith, e_is) in
    subst (λ z. Passes (chunk_at o l k (at.Bytes kind.Other) n z r t) (b ∷ []) []
    (chunk_at o l (k + 1) (at.Delta 0) 0 0 r t)) (sym one)
    (passes-step (chunk_at o l k (at.Bytes kind.Other) n 1 r t) b
    (goes (chunk_at o l (k + 1) (at.Delta 0) 0 0 r t))
    (goes-further [] (at.Delta 0) 0 o l k 0 r t (omega (arith, room))
    ∙ ap goes (one-on o l k (at.Delta 0) 0 0 r t)))
skip-passes b (x ∷ bs) o l k n e r t e_is room =
    let more : nat_le e 1 ≡ false = grind (arith, nat_tests, e_is) in
    let s : FileState = state_at (o + k) (at.Bytes kind.Other) n (l - k) (e - 1) r t in
    passes-at (chunk_at o l k (at.Bytes kind.Other) n e r t) (b ∷ x ∷ bs) [] o l (k + 1 + length (x ∷ bs))
    (k + length (b ∷ x ∷ bs)) (at.Delta 0) 0 0 r t (omega arith)
    (passes-both (chunk_at o l k (at.Bytes kind.Other) n e r t)
    (chunk_at o l (k + 1) (at.Bytes kind.Other) n (e - 1) r t)
    (chunk_at o l (k + 1 + length (x ∷ bs)) (at.Delta 0) 0 0 r t) (b ∷ []) (x ∷ bs) [] []
    (passes-step (chunk_at o l k (at.Bytes kind.Other) n e r t) b
    (goes (chunk_at o l (k + 1) (at.Bytes kind.Other) n (e - 1) r t))
    (ap (λ (q : Bool). moved (o + k) (in_chunk (goes (if q then event_ended s kind.Other else s)))) more
    ∙ (goes-further [] (at.Bytes kind.Other) n o l k (e - 1) r t (omega (arith, room))
    ∙ ap goes (one-on o l k (at.Bytes kind.Other) n (e - 1) r t))))
    (skip-passes x bs o l (k + 1) n (e - 1) r t (omega (arith, e_is)) (omega (arith, room))))

-- A length and its bytes: the state behind them keeps no event.
pub record LengthRead (u : EventKind) (bytes given : List ℕ) (o l k e : ℕ) (r : Option ℕ) (t : TrackTime) : Type 0 where
  pub event : ℕ
  pub passes : Passes (chunk_at o l k (at.Length 0 u) 0 e r t) (behind_length bytes) (given_at (track_moment t) given)
      (chunk_at o l (k + length (behind_length bytes)) (at.Delta 0) 0 event r t)

length-behind : (bytes : List ℕ) → length (behind_length bytes) ≡ length (quantity (length bytes)) + length bytes
length-behind bytes = length-append (quantity (length bytes)) bytes

pub carried-read : (u : EventKind) → Plain u → gives_bytes u ≡ true → (bytes : List ℕ) (o l k e : ℕ) (r : Option ℕ)
    (t : TrackTime) → length bytes < 2 ^ 28 → k + length (behind_length bytes) < l →
    LengthRead u bytes (own u ++ bytes) o l k e r t
carried-read u plain gives [] o l k e r t short room = record {
  event = e;
  passes =
      passes-as (chunk_at o l k (at.Length 0 u) 0 e r t) (chunk_at o l (k + 1) (at.Delta 0) 0 e r t)
      (chunk_at o l (k + 1) (at.Delta 0) 0 e r t) (0 ∷ []) (0 ∷ []) (given_at (track_moment t) (own u))
      (given_at (track_moment t) (own u ++ [])) refl (ap (given_at (track_moment t)) (sym (append-nil (own u)))) refl
      (length-none u plain o l k e r t (omega (arith, room)));
}
carried-read u plain gives (b ∷ bs) o l k e r t short room =
    let n : ℕ = length (b ∷ bs) in
    let j : ℕ = k + length (quantity n) in
    let fits : j + n < l = omega (arith, room, length-behind (b ∷ bs)) in
    let m : ℕ = track_moment t in
    record {
      event = 0;
      passes =
          passes-at (chunk_at o l k (at.Length 0 u) 0 e r t) (quantity n ++ b ∷ bs)
          (given_at m (own u ++ b ∷ bs)) o l (j + n) (k + length (behind_length (b ∷ bs))) (at.Delta 0) 0 0 r t
          (omega (arith, length-behind (b ∷ bs)))
          (passes-as (chunk_at o l k (at.Length 0 u) 0 e r t) (chunk_at o l (j + n) (at.Delta 0) 0 0 r t)
          (chunk_at o l (j + n) (at.Delta 0) 0 0 r t) (quantity n ++ b ∷ bs) (quantity n ++ b ∷ bs)
          (given_at m (own u) ++ given_at m (b ∷ bs)) (given_at m (own u ++ b ∷ bs)) refl
          (sym (map-append (λ x. record { moment = m; byte = x }) (own u) (b ∷ bs))) refl
          (passes-both (chunk_at o l k (at.Length 0 u) 0 e r t) (chunk_at o l j (at.Bytes u) 0 n r t)
          (chunk_at o l (j + n) (at.Delta 0) 0 0 r t) (quantity n) (b ∷ bs) (given_at m (own u))
          (given_at m (b ∷ bs)) (length-some u plain b bs o l k e r t short (omega (arith, fits)))
          (run-passes u gives b bs o l j r t fits)));
    }

pub skipped-read : (bytes : List ℕ) (o l k e : ℕ) (r : Option ℕ) (t : TrackTime) → length bytes < 2 ^ 28 →
    k + length (behind_length bytes) < l → LengthRead kind.Other bytes [] o l k e r t
skipped-read [] o l k e r t short room =
    record { event = e; passes = length-none kind.Other PlainOther o l k e r t (omega (arith, room)) }
skipped-read (b ∷ bs) o l k e r t short room =
    let n : ℕ = length (b ∷ bs) in
    let j : ℕ = k + length (quantity n) in
    let fits : j + n < l = omega (arith, room, length-behind (b ∷ bs)) in
    record {
      event = 0;
      passes =
          passes-at (chunk_at o l k (at.Length 0 kind.Other) 0 e r t) (quantity n ++ b ∷ bs) [] o l (j + n)
          (k + length (behind_length (b ∷ bs))) (at.Delta 0) 0 0 r t (omega (arith, length-behind (b ∷ bs)))
          (passes-both (chunk_at o l k (at.Length 0 kind.Other) 0 e r t)
          (chunk_at o l j (at.Bytes kind.Other) 0 n r t) (chunk_at o l (j + n) (at.Delta 0) 0 0 r t) (quantity n)
          (b ∷ bs) [] [] (length-some kind.Other PlainOther b bs o l k e r t short (omega (arith, fits)))
          (skip-passes b bs o l j 0 n r t refl fits));
    }

-- a tempo

tempo-is : (a b c : ℕ) → a < 256 → b < 256 → c < 256 →
    with_byte (with_byte (with_byte 0 a) b) c ≡ number (a ∷ b ∷ c ∷ [])
tempo-is a b c one two three = omega (arith, one, two, three)

abbrev with_tempo : TrackTime → ℕ → TrackTime
with_tempo t tempo = record { division = t.division; tempo = tempo; sum = t.sum }

pub tempo-read : (a b c o l k e : ℕ) (r : Option ℕ) (t : TrackTime) → a < 256 → b < 256 → c < 256 → k + 4 < l →
    Passes (chunk_at o l k (at.Length 0 kind.Tempo) 0 e r t) (3 ∷ a ∷ b ∷ c ∷ []) []
    (chunk_at o l (k + 4) (at.Delta 0) 0 0 r (with_tempo t (number (a ∷ b ∷ c ∷ []))))
tempo-read a b c o l k e r t one two three room =
    let at-bytes : (j n e : ℕ) → FileState = λ j n e. chunk_at o l j (at.Bytes kind.Tempo) n e r t in
    let first : ℕ = with_byte 0 a in
    let second : ℕ = with_byte first b in
    let third : ℕ = with_byte second c in
    let s : FileState = chunk_at o l k (at.Length 0 kind.Tempo) 0 e r t in
    let now : FileState = chunk_at o l (k + 1 + 1 + 1 + 1) (at.Delta 0) 0 0 r (with_tempo t third) in
    subst (λ z. Passes s (3 ∷ a ∷ b ∷ c ∷ []) [] (chunk_at o l (k + 4) (at.Delta 0) 0 0 r (with_tempo t z)))
    (tempo-is a b c one two three)
    (passes-at s (3 ∷ a ∷ b ∷ c ∷ []) [] o l (k + 1 + 1 + 1 + 1) (k + 4) (at.Delta 0) 0 0 r (with_tempo t third)
    (omega arith)
    (passes-both s (at-bytes (k + 1) 0 3) now (3 ∷ []) (a ∷ b ∷ c ∷ []) [] []
    (passes-step s 3 (goes (at-bytes (k + 1) 0 3))
    (goes-further [] (at.Bytes kind.Tempo) 0 o l k 3 r t (omega (arith, room))
    ∙ ap goes (one-on o l k (at.Bytes kind.Tempo) 0 3 r t)))
    (passes-both (at-bytes (k + 1) 0 3) (at-bytes (k + 1 + 1) first 2) now (a ∷ []) (b ∷ c ∷ []) [] []
    (passes-step (at-bytes (k + 1) 0 3) a (goes (at-bytes (k + 1 + 1) first 2))
    (goes-further [] (at.Bytes kind.Tempo) first o l (k + 1) 2 r t (omega (arith, room))
    ∙ ap goes (one-on o l (k + 1) (at.Bytes kind.Tempo) first 2 r t)))
    (passes-both (at-bytes (k + 1 + 1) first 2) (at-bytes (k + 1 + 1 + 1) second 1) now (b ∷ []) (c ∷ []) [] []
    (passes-step (at-bytes (k + 1 + 1) first 2) b (goes (at-bytes (k + 1 + 1 + 1) second 1))
    (goes-further [] (at.Bytes kind.Tempo) second o l (k + 1 + 1) 1 r t (omega (arith, room))
    ∙ ap goes (one-on o l (k + 1 + 1) (at.Bytes kind.Tempo) second 1 r t)))
    (passes-step (at-bytes (k + 1 + 1 + 1) second 1) c (goes now)
    (goes-further [] (at.Delta 0) 0 o l (k + 1 + 1 + 1) 0 r (with_tempo t third) (omega (arith, room))
    ∙ ap goes (one-on o l (k + 1 + 1 + 1) (at.Delta 0) 0 0 r (with_tempo t third))))))))
