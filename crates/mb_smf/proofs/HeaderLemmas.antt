-- The header and other chunks are read to their ends, and give nothing.
use Rattle.std.proofs.Common.{◌≡◌, ℕ, ◌+◌, ◌-◌, ◌/◌, ◌%◌, ◌^◌, ◌<◌, ◌==◌, ◌&&◌, ◌||◌, Bool, true, false, nat_lt}
use Rattle.std.proofs.Common.{nat_le, if◌then◌else◌, List, [], ◌∷◌, ◌++◌, flat_map, length, None, refl, sym}
use Rattle.std.proofs.Common.{◌∙◌, ap, subst, arith}
use Rattle.std.proofs.lemmas.Bool.Decides.{nat_tests}
use Rattle.mb_frames.specs.Numbers.{spelled}
use Rattle.mb_smf.specs.TrackTime.{TrackTime, first_tempo}
use Rattle.mb_smf.specs.declared.file_place.FilePlace.{FilePlace}
use Rattle.mb_smf.specs.declared.file_place.FilePlace.TheVariants as at
use Rattle.mb_smf.specs.declared.file_state.FileState.{FileState}
use Rattle.mb_smf.specs.declared.fault.SmfWhy.TheVariants as why
use Rattle.mb_smf.specs.FileStep.{FileStep, fails, goes, with_byte}
use Rattle.mb_smf.specs.HeaderSteps.{a_chunk, chunk_length, division, header_length, passed_over}
use Rattle.mb_smf.specs.Smf.{file_step, fresh_file, moved}
use Rattle.mb_smf.specs.SmfEvents.{AreOthers, IsOther, OtherChunk, chunk_bytes, first_time, header_chunk, track_type}
use Rattle.mb_smf.proofs.EventLemmas.{and-first, and-second}
use Rattle.mb_smf.proofs.PassLemmas.{Passes, passes-both, passes-none, passes-step, state_at}

header-value : (d : ℕ) → d < 0x8000 → with_byte (with_byte 0 (d / 256 % 256)) (d % 256) ≡ d
header-value d low = omega (arith, low)

length-value : (n : ℕ) → n < 2 ^ 32 →
    with_byte (with_byte (with_byte (with_byte 0 (n / 256 / 256 / 256 % 256)) (n / 256 / 256 % 256)) (n / 256 % 256))
    (n % 256) ≡ n
length-value n low = omega (arith, low)

-- where a chunk begins
abbrev pub chunk_begins : (o : ℕ) → TrackTime → FileState
chunk_begins o t = state_at o (at.Name 0 true) 0 0 0 None t

-- bytes that give nothing lead to a place
pub record ChunkRead (s : FileState) (bytes : List ℕ) (p : FilePlace) (left : ℕ) (t : TrackTime) : Type 0 where
  pub offset : ℕ
  pub passes : Passes s bytes [] (state_at offset p 0 left 0 None t)

-- bytes that are passed over

rest-read : (b : ℕ) (bs : List ℕ) (o n : ℕ) (t : TrackTime) → n ≡ length (b ∷ bs) →
    ChunkRead (state_at o at.Rest 0 n 0 None t) (b ∷ bs) (at.Name 0 true) 0 t
rest-read b [] o n t n_is =
    let one : n ≡ 1 = omega (arith, n_is) in
    record {
      offset = o + 1;
      passes =
          subst (λ z. Passes (state_at o at.Rest 0 z 0 None t) (b ∷ []) [] (chunk_begins (o + 1) t)) (sym one)
          (passes-step (state_at o at.Rest 0 1 0 None t) b (goes (chunk_begins (o + 1) t)) refl);
    }
rest-read b (x ∷ bs) o n t n_is =
    let more : (n - 1 == 0) ≡ false = grind (arith, nat_tests, n_is) in
    let s : FileState = state_at o at.Rest 0 n 0 None t in
    let now : FileState = state_at (o + 1) at.Rest 0 (n - 1) 0 None t in
    let rest : ChunkRead now (x ∷ bs) (at.Name 0 true) 0 t =
    rest-read x bs (o + 1) (n - 1) t (omega (arith, n_is)) in
    let step : file_step s b ≡ goes now =
    ap (λ (q : Bool). moved o (goes (record s { place = if q then a_chunk else at.Rest; left = n - 1; number = 0 })))
    more
    in
    record {
      offset = rest.offset;
      passes =
          passes-both s now (chunk_begins rest.offset t) (b ∷ []) (x ∷ bs) [] []
          (passes-step s b (goes now) step) rest.passes;
    }

-- so many, or none
passed-read : (bytes : List ℕ) (o : ℕ) (t : TrackTime) →
    ChunkRead (state_at o (passed_over (length bytes)) 0 (length bytes) 0 None t) bytes (at.Name 0 true) 0 t
passed-read [] o t = record { offset = o; passes = passes-none (chunk_begins o t) }
passed-read (b ∷ bs) o t =
    let n : ℕ = length (b ∷ bs) in
    let some : (n == 0) ≡ false = grind (arith, nat_tests) in
    let rest : ChunkRead (state_at o at.Rest 0 n 0 None t) (b ∷ bs) (at.Name 0 true) 0 t = rest-read b bs o n t refl in
    record {
      offset = rest.offset;
      passes =
          subst (λ (q : Bool). Passes (state_at o (if q then a_chunk else at.Rest) 0 n 0 None t) (b ∷ bs) []
          (chunk_begins rest.offset t)) (sym some) rest.passes;
    }

-- where so many bytes are passed over, or none, no fault is
over-step : (o m : ℕ) (t : TrackTime) →
    moved o (goes (state_at o (passed_over m) 0 m 0 None t)) ≡ goes (state_at (o + 1) (passed_over m) 0 m 0 None t)
over-step o m t = by (m == 0) where
  by : (q : Bool) → moved o (goes (state_at o (if q then a_chunk else at.Rest) 0 m 0 None t))
      ≡ goes (state_at (o + 1) (if q then a_chunk else at.Rest) 0 m 0 None t)
  by true = refl
  by false = refl

-- the header

pub header-read : (d : ℕ) (more : List ℕ) → 0 < d → d < 0x8000 → 6 + length more < 2 ^ 32 →
    ChunkRead fresh_file (header_chunk d more) (at.Name 0 true) 0 (first_time d)
header-read d more some low fits =
    let n : ℕ = 6 + length more in
    let m : ℕ = length more in
    let hi : ℕ = d / 256 % 256 in
    let lo : ℕ = d % 256 in
    let b3 : ℕ = n / 256 / 256 / 256 % 256 in
    let b2 : ℕ = n / 256 / 256 % 256 in
    let b1 : ℕ = n / 256 % 256 in
    let b0 : ℕ = n % 256 in
    let t : TrackTime = record { division = 1; tempo = first_tempo; sum = 0 } in
    let named : FileState = state_at 4 (at.HeaderLength 0) 0 0 0 None t in
    let most : FileState =
    state_at 7 (at.HeaderLength 3) (with_byte (with_byte (with_byte 0 b3) b2) b1) 0 0 None t in
    let sized : FileState = state_at 8 (at.Kind 0) 0 m 0 None t in
    let kind_read : FileState = state_at 12 (at.Division 0) 0 m 0 None t in
    let half : FileState = state_at 13 (at.Division 1) (with_byte 0 hi) m 0 None t in
    let whole : FileState = state_at 14 (passed_over m) 0 m 0 None (first_time d) in
    let enough : nat_lt n 6 ≡ false = grind (arith, nat_tests) in
    let left : n - 6 ≡ m = omega arith in
    let length_step : file_step most b0 ≡ goes sized =
    ap (λ z. moved 7 (header_length most z)) (length-value n fits)
    ∙ (ap (λ (q : Bool). moved 7 (if q then fails most why.Header
    else goes (record most { place = at.Kind 0; number = 0; left = n - 6 }))) enough
    ∙ ap (λ z. goes (state_at 8 (at.Kind 0) 0 z 0 None t)) left) in
    let not_none : (d == 0) ≡ false = grind (arith, nat_tests) in
    let not_frames : nat_le 0x8000 d ≡ false = grind (arith, nat_tests) in
    let divided : FileStep = goes (record half { place = passed_over m; number = 0; clock = first_time d }) in
    let not_faulted : file_step half lo ≡ moved 13 divided =
    ap (λ z. moved 13 (division half z)) (header-value d low)
    ∙ (ap (λ (q : Bool). moved 13 (if q || nat_le 0x8000 d then fails half why.Division else divided)) not_none
    ∙ ap (λ (q : Bool). moved 13 (if q then fails half why.Division else divided)) not_frames) in
    let division_step : file_step half lo ≡ goes whole = not_faulted ∙ over-step 13 m (first_time d) in
    let first : Passes fresh_file (0x4d ∷ 0x54 ∷ 0x68 ∷ 0x64 ∷ []) [] named =
    record { reads = λ more. refl; state = refl } in
    let second : Passes named (b3 ∷ b2 ∷ b1 ∷ []) [] most = record { reads = λ more. refl; state = refl } in
    let third : Passes sized (0 ∷ 0 ∷ 0 ∷ 1 ∷ []) [] kind_read = record { reads = λ more. refl; state = refl } in
    let rest : ChunkRead whole more (at.Name 0 true) 0 (first_time d) = passed-read more 14 (first_time d) in
    let end : FileState = chunk_begins rest.offset (first_time d) in
    record {
      offset = rest.offset;
      passes =
          passes-both fresh_file named end (0x4d ∷ 0x54 ∷ 0x68 ∷ 0x64 ∷ [])
          (b3 ∷ b2 ∷ b1 ∷ b0 ∷ 0 ∷ 0 ∷ 0 ∷ 1 ∷ hi ∷ lo ∷ more) [] [] first
          (passes-both named most end (b3 ∷ b2 ∷ b1 ∷ []) (b0 ∷ 0 ∷ 0 ∷ 0 ∷ 1 ∷ hi ∷ lo ∷ more) [] [] second
          (passes-both most sized end (b0 ∷ []) (0 ∷ 0 ∷ 0 ∷ 1 ∷ hi ∷ lo ∷ more) [] []
          (passes-step most b0 (goes sized) length_step)
          (passes-both sized kind_read end (0 ∷ 0 ∷ 0 ∷ 1 ∷ []) (hi ∷ lo ∷ more) [] [] third
          (passes-both kind_read half end (hi ∷ []) (lo ∷ more) [] [] (passes-step kind_read hi (goes half) refl)
          (passes-both half whole end (lo ∷ []) more [] [] (passes-step half lo (goes whole) division_step)
          rest.passes)))));
    }

-- a chunk's type and length

abbrev is_track_type : (a b c d : ℕ) → Bool
is_track_type a b c d = (((a == 0x4d) && (b == 0x54)) && (c == 0x72)) && (d == 0x6b)

type-read : (a b c d o : ℕ) (t : TrackTime) → Passes (chunk_begins o t) (a ∷ b ∷ c ∷ d ∷ []) []
    (state_at (o + 1 + 1 + 1 + 1) (at.ChunkLength 0 (is_track_type a b c d)) 0 0 0 None t)
type-read a b c d o t = record { reads = λ more. refl; state = refl }

same-number : (m n : ℕ) → (m == n) ≡ true → m ≡ n
same-number m n h = grind (arith, nat_tests)

no-track : (a b c d : ℕ) → (a ∷ b ∷ c ∷ d ∷ [] ≡ track_type → ⊥) → is_track_type a b c d ≡ false
no-track a b c d apart = by (is_track_type a b c d) refl where
  by : (q : Bool) → is_track_type a b c d ≡ q → q ≡ false
  by false e = refl
  by true e =
      let three : (((a == 0x4d) && (b == 0x54)) && (c == 0x72)) ≡ true = and-first _ (d == 0x6b) e in
      let two : ((a == 0x4d) && (b == 0x54)) ≡ true = and-first _ (c == 0x72) three in
      let first : a ≡ 0x4d = same-number a 0x4d (and-first (a == 0x4d) (b == 0x54) two) in
      let second : b ≡ 0x54 = same-number b 0x54 (and-second (a == 0x4d) (b == 0x54) two) in
      let third : c ≡ 0x72 = same-number c 0x72 (and-second _ (c == 0x72) three) in
      let fourth : d ≡ 0x6b = same-number d 0x6b (and-second _ (d == 0x6b) e) in
      absurd (apart (ap (λ z. z ∷ b ∷ c ∷ d ∷ []) first
      ∙ (ap (λ z. 0x4d ∷ z ∷ c ∷ d ∷ []) second
      ∙ (ap (λ z. 0x4d ∷ 0x54 ∷ z ∷ d ∷ []) third ∙ ap (λ z. 0x4d ∷ 0x54 ∷ 0x72 ∷ z ∷ []) fourth))))

-- all of a length but its last byte
abbrev length_begun : (n : ℕ) → ℕ
length_begun n =
    with_byte (with_byte (with_byte 0 (n / 256 / 256 / 256 % 256)) (n / 256 / 256 % 256)) (n / 256 % 256)

length-begins : (q : Bool) (n o : ℕ) (t : TrackTime) → Passes (state_at o (at.ChunkLength 0 q) 0 0 0 None t)
    ((n / 256 / 256 / 256 % 256) ∷ (n / 256 / 256 % 256) ∷ (n / 256 % 256) ∷ []) []
    (state_at (o + 1 + 1 + 1) (at.ChunkLength 3 q) (length_begun n) 0 0 None t)
length-begins q n o t = record { reads = λ more. refl; state = refl }

other-length : (q : Bool) → q ≡ false → (n o : ℕ) (t : TrackTime) → n < 2 ^ 32 →
    Passes (state_at o (at.ChunkLength 0 q) 0 0 0 None t) (spelled 4 n) []
    (state_at (o + 1 + 1 + 1 + 1) (passed_over n) 0 n 0 None t)
other-length q other n o t fits =
    let j : ℕ = o + 1 + 1 + 1 in
    let s : FileState = state_at o (at.ChunkLength 0 q) 0 0 0 None t in
    let most : FileState = state_at j (at.ChunkLength 3 q) (length_begun n) 0 0 None t in
    let now : FileState = state_at (j + 1) (passed_over n) 0 n 0 None t in
    let step : file_step most (n % 256) ≡ goes now =
    ap (λ z. moved j (chunk_length most q z)) (length-value n fits)
    ∙ (ap (λ (z : Bool). moved j (chunk_length most z n)) other ∙ over-step j n t) in
    passes-both s most now ((n / 256 / 256 / 256 % 256) ∷ (n / 256 / 256 % 256) ∷ (n / 256 % 256) ∷ [])
    ((n % 256) ∷ []) [] [] (length-begins q n o t) (passes-step most (n % 256) (goes now) step)

track-length : (n o : ℕ) (t : TrackTime) → 0 < n → n < 2 ^ 32 →
    Passes (state_at o (at.ChunkLength 0 true) 0 0 0 None t) (spelled 4 n) []
    (state_at (o + 1 + 1 + 1 + 1) (at.Delta 0) 0 n 0 None t)
track-length n o t some fits =
    let j : ℕ = o + 1 + 1 + 1 in
    let s : FileState = state_at o (at.ChunkLength 0 true) 0 0 0 None t in
    let most : FileState = state_at j (at.ChunkLength 3 true) (length_begun n) 0 0 None t in
    let now : FileState = state_at (j + 1) (at.Delta 0) 0 n 0 None t in
    let not_empty : (n == 0) ≡ false = grind (arith, nat_tests) in
    let step : file_step most (n % 256) ≡ goes now =
    ap (λ z. moved j (chunk_length most true z)) (length-value n fits)
    ∙ ap (λ (q : Bool). moved j (if q then fails most why.Track
    else goes (record most { place = at.Delta 0; number = 0; left = n }))) not_empty in
    passes-both s most now ((n / 256 / 256 / 256 % 256) ∷ (n / 256 / 256 % 256) ∷ (n / 256 % 256) ∷ [])
    ((n % 256) ∷ []) [] [] (length-begins true n o t) (passes-step most (n % 256) (goes now) step)

pub track-head : (o n : ℕ) (t : TrackTime) → 0 < n → n < 2 ^ 32 →
    Passes (chunk_begins o t) (track_type ++ spelled 4 n) []
    (state_at (o + 1 + 1 + 1 + 1 + 1 + 1 + 1 + 1) (at.Delta 0) 0 n 0 None t)
track-head o n t some fits =
    let j : ℕ = o + 1 + 1 + 1 + 1 in
    passes-both (chunk_begins o t) (state_at j (at.ChunkLength 0 true) 0 0 0 None t)
    (state_at (j + 1 + 1 + 1 + 1) (at.Delta 0) 0 n 0 None t) track_type (spelled 4 n) [] []
    (type-read 0x4d 0x54 0x72 0x6b o t) (track-length n j t some fits)

-- chunks of other types

other-read : (type bytes : List ℕ) (o : ℕ) (t : TrackTime) → length type ≡ 4 → (type ≡ track_type → ⊥) →
    length bytes < 2 ^ 32 →
    ChunkRead (chunk_begins o t) (type ++ (spelled 4 (length bytes) ++ bytes)) (at.Name 0 true) 0 t
other-read (a ∷ b ∷ c ∷ d ∷ []) bytes o t four apart fits =
    let n : ℕ = length bytes in
    let j : ℕ = o + 1 + 1 + 1 + 1 in
    let q : Bool = is_track_type a b c d in
    let sized : FileState = state_at (j + 1 + 1 + 1 + 1) (passed_over n) 0 n 0 None t in
    let rest : ChunkRead sized bytes (at.Name 0 true) 0 t = passed-read bytes (j + 1 + 1 + 1 + 1) t in
    let end : FileState = chunk_begins rest.offset t in
    record {
      offset = rest.offset;
      passes =
          passes-both (chunk_begins o t) (state_at j (at.ChunkLength 0 q) 0 0 0 None t) end (a ∷ b ∷ c ∷ d ∷ [])
          (spelled 4 n ++ bytes) [] [] (type-read a b c d o t)
          (passes-both (state_at j (at.ChunkLength 0 q) 0 0 0 None t) sized end (spelled 4 n) bytes [] []
          (other-length q (no-track a b c d apart) n j t fits) rest.passes);
    }
other-read [] bytes o t four apart fits = absurd (omega (arith, four))
other-read (a ∷ []) bytes o t four apart fits = absurd (omega (arith, four))
other-read (a ∷ b ∷ []) bytes o t four apart fits = absurd (omega (arith, four))
other-read (a ∷ b ∷ c ∷ []) bytes o t four apart fits = absurd (omega (arith, four))
other-read (a ∷ b ∷ c ∷ d ∷ e ∷ es) bytes o t four apart fits = absurd (omega (arith, four))

pub others-read : (cs : List OtherChunk) (o : ℕ) (t : TrackTime) → AreOthers cs →
    ChunkRead (chunk_begins o t) (flat_map chunk_bytes cs) (at.Name 0 true) 0 t
others-read [] o t are = record { offset = o; passes = passes-none (chunk_begins o t) }
others-read (c ∷ cs) o t are =
    let is : IsOther c = are.0 in
    let one : ChunkRead (chunk_begins o t) (chunk_bytes c) (at.Name 0 true) 0 t =
    other-read c.type c.bytes o t is.four is.no_track is.short in
    let rest : ChunkRead (chunk_begins one.offset t) (flat_map chunk_bytes cs) (at.Name 0 true) 0 t =
    others-read cs one.offset t are.1 in
    record {
      offset = rest.offset;
      passes =
          passes-both (chunk_begins o t) (chunk_begins one.offset t) (chunk_begins rest.offset t) (chunk_bytes c)
          (flat_map chunk_bytes cs) [] [] one.passes rest.passes;
    }
