-- A tape that marks are written as means what the marks mean.
use Rattle.std.proofs.Common.{◌≡◌, ℕ, zero, suc, ◌+◌, ◌≤◌, ◌<◌, ◌^◌, Bool, true, false, List, [], ◌∷◌, ◌++◌, map, flat_map}
use Rattle.std.proofs.Common.{refl, sym, ◌∙◌, ap, subst, arith, append_assoc, Option, Some, None}
use Rattle.std.specs.Prelude.{◌&&◌, ◌||◌, ◌==◌, nat_lt, nat_le, if◌then◌else◌}
use Rattle.std.specs.List.{filter, range_with_len}
use Rattle.std.proofs.lemmas.Bool.{false≢true}
use Rattle.std.proofs.lemmas.Bool.Decides.{nat_tests}
use Rattle.std.proofs.lemmas.List.{map-append}
use Rattle.mb_message.specs.Bytes.{is_channel, is_short, is_short_of_length}
use Rattle.mb_message.specs.Signs.{AbortSign, ByteSign, EndSign, OpenSign, RtSign, Sign, ShortSign}
use Rattle.mb_stream.specs.Denotation.{Denotation, denotation, stays_open}
use Rattle.mb_stream.specs.Puts.{At, Flush, Put, puts_at, signs_in}
use Rattle.mb_stream.specs.Standing.{AreValid, Standing, is_open, is_valid, standing, suited}
use Rattle.mb_stream.proofs.PutsLemmas.{signs_in-append, signs_in-at}
use Rattle.mb_stream.proofs.StandingLemmas.{Suited, Suited-append, Suited-from_suited, both, is_open-from, open_from}
use Rattle.mb_stream.proofs.StandingLemmas.{suited-from_Suited}
use Rattle.mb_din.specs.Written.{din_spelled, din_written}
use Rattle.mb_frames.specs.Gathered.{TimedByte}
use Rattle.mb_frames.specs.Tapes.{TapeEnd, fault_in, is_whole, tape_fault}
use Rattle.mb_guard.specs.Sounding.{Voice, off_marks, off_sign, offs, sounding, sounds, voices, with_items}
use Rattle.mb_guard.specs.Guard.{voice_at}
use Rattle.mb_guard.proofs.Followed.{offs-follow}
use Rattle.mb_guard.proofs.Heard.{voices-are}
use Rattle.mb_guard.proofs.Silence.{offs-silence}
use Rattle.mb_carrier.specs.Carrier.{den, notes_of}
use Rattle.mb_carrier.specs.declared.spec.Spec.{Spec}
use Rattle.mb_carrier.specs.declared.spec.Spec.TheVariants.{Din}
use Rattle.mb_carrier.proofs.ConversionLemmas.{laws}
use Rattle.mb_track.specs.Track.{last_record_moment, recording, track_marks, track_records, track_whole}
use Rattle.mb_track.proofs.EndLemmas.{all-closed}
use Rattle.mb_track.proofs.FrontLemmas.{all-signs, all-suit}
use Rattle.mb_rewrite.specs.Guarded.{ended, guarded, guarded_marks, guarded_tape}
use Rattle.mb_rewrite.specs.LineTape.{byte_at, line_tape, timed_behind, timed_bytes}
use Rattle.mb_rewrite.specs.Recorded.{AreMoments, recorded, track_den}
use Rattle.mb_rewrite.proofs.RecordedLemmas.{gathered-read, gathered-recording, gathered-whole}
use Rattle.mb_rewrite.proofs.RisingLemmas.{bytes-rise, track-moments}

-- the bytes of marks

timed-bytes : (m : ℕ) (bs : List ℕ) → map (λ (t : TimedByte). t.byte) (map (byte_at m) bs) ≡ bs
timed-bytes m [] = refl
timed-bytes m (b ∷ bs) = ap (λ cs. b ∷ cs) (timed-bytes m bs)

bytes-are : (before : List Sign) (puts : List Put) →
    map (λ (t : TimedByte). t.byte) (timed_behind before puts) ≡ flat_map din_spelled (standing before (signs_in puts))
bytes-are before [] = refl
bytes-are before (Flush ∷ puts) = bytes-are before puts
bytes-are before (At m s ∷ puts) =
    let here : List ℕ = din_spelled (record { before = before; mark = s }) in
    map-append (λ (t : TimedByte). t.byte) (map (byte_at m) here) (timed_behind (before ++ s ∷ []) puts)
    ∙ (ap (λ bs. bs ++ map (λ (t : TimedByte). t.byte) (timed_behind (before ++ s ∷ []) puts)) (timed-bytes m here)
    ∙ ap (λ bs. here ++ bs) (bytes-are (before ++ s ∷ []) puts))

pub bytes-carried : (puts : List Put) → AreMoments puts → recorded (track_records (line_tape puts)) ≡ timed_bytes puts
bytes-carried puts moments = gathered-read (timed_bytes puts) (bytes-rise puts moments)

pub line-carried : (puts : List Put) → AreMoments puts →
    recording 0 (track_records (line_tape puts)) ≡ din_written (signs_in puts)
line-carried puts moments = gathered-recording (timed_bytes puts) (bytes-rise puts moments) ∙ bytes-are [] puts

pub whole-carried : (puts : List Put) → AreMoments puts → track_whole Din 0 (line_tape puts) ≡ true
whole-carried puts moments =
    ap (λ (e : TapeEnd). is_whole e && true) (gathered-whole (timed_bytes puts) (bytes-rise puts moments))

pub no-fault-carried : (puts : List Put) → AreMoments puts → tape_fault (line_tape puts) ≡ None
no-fault-carried puts moments = ap fault_in (gathered-whole (timed_bytes puts) (bytes-rise puts moments))

pub clean-carried : (puts : List Put) → AreMoments puts → suited (signs_in puts) ≡ true → AreValid (signs_in puts) →
    notes_of Din (recording 0 (track_records (line_tape puts))) ≡ []
clean-carried puts moments suits valid =
    ap (notes_of Din) (line-carried puts moments) ∙ (laws Din).clean tt puts suits valid

pub meaning-carried : (puts : List Put) → AreMoments puts → suited (signs_in puts) ≡ true → AreValid (signs_in puts) →
    track_den Din 0 (line_tape puts) ≡ denotation (signs_in puts)
meaning-carried puts moments suits valid =
    ap (den Din) (line-carried puts moments) ∙ (laws Din).means tt puts suits valid

-- marks that suit leave a SysEx open exactly where one stays open

stays-open : (o : Bool) (ms : List Sign) → Suited o ms → stays_open o ms ≡ open_from o ms
stays-open o [] s = refl
stays-open false (ShortSign d a b ∷ ms) s = stays-open false ms s.1
stays-open true (ShortSign d a b ∷ ms) s = absurd (false≢true s.0)
stays-open o (RtSign b ∷ ms) s = stays-open o ms s.1
stays-open o (OpenSign ∷ ms) s = stays-open true ms s.1
stays-open true (ByteSign b ∷ ms) s = stays-open true ms s.1
stays-open false (ByteSign b ∷ ms) s = absurd (false≢true s.0)
stays-open o (EndSign ∷ ms) s = stays-open false ms s.1
stays-open o (AbortSign ∷ ms) s = stays-open false ms s.1

none-open : (ms : List Sign) → suited ms ≡ true → is_open ms ≡ false → stays_open false ms ≡ false
none-open ms suits closed =
    stays-open false ms (Suited-from_suited ms suits) ∙ (sym (is_open-from ms) ∙ closed)

-- Note Offs suit where no SysEx is open, and are valid

offs-suit : (vs : List Voice) → Suited false (map off_sign vs)
offs-suit [] = tt
offs-suit (v ∷ vs) = (refl, offs-suit vs)

followed-suits : (ms : List Sign) (vs : List Voice) → suited ms ≡ true → is_open ms ≡ false →
    suited (ms ++ map off_sign vs) ≡ true
followed-suits ms vs suits closed =
    suited-from_Suited (ms ++ map off_sign vs)
    (Suited-append false ms (map off_sign vs) (Suited-from_suited ms suits)
    (subst (λ (o : Bool). Suited o (map off_sign vs)) (sym (sym (is_open-from ms) ∙ closed)) (offs-suit vs)))

off-valid : (n k : ℕ) → n < 16 → k < 128 → is_short (0x80 + n) k 0x40 ≡ true
off-valid n k channel key =
    let s : ℕ = 0x80 + n in
    let is : is_channel s ≡ true = grind (arith, nat_tests) in
    let two : (nat_le 0xc0 s && nat_lt s 0xe0) ≡ false = grind (arith, nat_tests) in
    ap (λ (c : Bool). is_short_of_length (if c then Some (if nat_le 0xc0 s && nat_lt s 0xe0 then 1 else 2)
    else (if (s == 0xf1) || (s == 0xf3) then Some 1
    else (if s == 0xf2 then Some 2 else (if s == 0xf6 then Some 0 else None)))) k 0x40) is
    ∙ (ap (λ (t : Bool). is_short_of_length (Some (if t then 1 else 2)) k 0x40) two ∙ grind (arith, nat_tests))

and-true : (a b : Bool) → a ≡ true → b ≡ true → (a && b) ≡ true
and-true true b h i = i
and-true false b h i = h

valid-if : (t : Bool) (v : Voice) (vs : List Voice) → v.channel < 16 → v.key < 128 → AreValid (map off_sign vs) →
    AreValid (map off_sign (if t then v ∷ vs else vs))
valid-if true v vs channel key are = and-true _ _ (off-valid v.channel v.key channel key) are
valid-if false v vs channel key are = are

offs-valid-from : (p : Voice → Bool) (i n : ℕ) → i + n ≤ 2048 →
    AreValid (map off_sign (filter p (map voice_at (range_with_len i n))))
offs-valid-from p i zero within = refl
offs-valid-from p i (suc n) within =
    valid-if (p (voice_at i)) (voice_at i) (filter p (map voice_at (range_with_len (i + 1) n)))
    (omega (arith, within)) (omega arith) (offs-valid-from p (i + 1) n (omega (arith, within)))

offs-valid : (p : Voice → Bool) → AreValid (map off_sign (filter p voices))
offs-valid p =
    subst (λ (vs : List Voice). AreValid (map off_sign (filter p vs))) (sym voices-are)
    (offs-valid-from p 0 2048 (omega arith))

valid-append : (ms ns : List Sign) → AreValid ms → AreValid ns → AreValid (ms ++ ns)
valid-append [] ns a b = b
valid-append (m ∷ ms) ns a b =
    let each = both (is_valid m) _ a in
    and-true (is_valid m) _ each.0 (valid-append ms ns each.1 b)

-- the marks of a tape whose notes are ended

pub guarded-signs : (s : Spec) (tape : List ℕ) →
    signs_in (guarded_marks s tape) ≡ signs_in (track_marks s 0 tape) ++ off_marks (signs_in (track_marks s 0 tape))
guarded-signs s tape =
    let marks = track_marks s 0 tape in
    let m = last_record_moment (track_records tape) in
    signs_in-append marks (puts_at m (off_marks (signs_in marks)))
    ∙ ap (λ ms. signs_in marks ++ ms) (signs_in-at m (off_marks (signs_in marks)))

pub guarded-suits : (s : Spec) (tape : List ℕ) → suited (signs_in (guarded_marks s tape)) ≡ true
guarded-suits s tape =
    ap suited (guarded-signs s tape)
    ∙ followed-suits (signs_in (track_marks s 0 tape)) (sounding (denotation (signs_in (track_marks s 0 tape))).items)
    (all-suit s 0 tape) (all-closed s 0 tape)

pub track-valid : (s : Spec) (tape : List ℕ) → AreValid (signs_in (track_marks s 0 tape))
track-valid s tape =
    subst AreValid (sym (all-signs s 0 tape)) ((laws s).valid (recording 0 (track_records tape)))

guarded-valid : (s : Spec) (tape : List ℕ) → AreValid (signs_in (guarded_marks s tape))
guarded-valid s tape =
    let marks = signs_in (track_marks s 0 tape) in
    subst AreValid (sym (guarded-signs s tape))
    (valid-append marks (off_marks marks) (track-valid s tape)
    (offs-valid (λ v. sounds v (denotation marks).items)))

-- what they mean

pub track-means : (s : Spec) (tape : List ℕ) → denotation (signs_in (track_marks s 0 tape)) ≡ track_den s 0 tape
track-means s tape = ap denotation (all-signs s 0 tape)

pub guarded-means : (s : Spec) (tape : List ℕ) →
    denotation (signs_in (guarded_marks s tape)) ≡ ended (track_den s 0 tape)
guarded-means s tape =
    let marks = signs_in (track_marks s 0 tape) in
    ap denotation (guarded-signs s tape)
    ∙ (offs-follow marks (none-open marks (all-suit s 0 tape) (all-closed s 0 tape))
    ∙ ap ended (track-means s tape))

pub guarded-silent : (s : Spec) (tape : List ℕ) →
    sounding (denotation (signs_in (guarded_marks s tape))).items ≡ []
guarded-silent s tape =
    ap (λ (d : Denotation). sounding d.items) (guarded-means s tape) ∙ offs-silence (track_den s 0 tape).items

pub guarded-moments : (s : Spec) (tape : List ℕ) → last_record_moment (track_records tape) < 2 ^ 64 →
    AreMoments (guarded_marks s tape)
guarded-moments s tape fits = track-moments s 0 tape (off_marks (signs_in (track_marks s 0 tape))) fits

pub guarded-read : (s : Spec) (tape : List ℕ) → last_record_moment (track_records tape) < 2 ^ 64 →
    track_den Din 0 (guarded_tape s tape) ≡ ended (track_den s 0 tape)
guarded-read s tape fits =
    meaning-carried (guarded_marks s tape) (guarded-moments s tape fits) (guarded-suits s tape)
    (guarded-valid s tape) ∙ guarded-means s tape

pub guarded-read-silent : (s : Spec) (tape : List ℕ) → last_record_moment (track_records tape) < 2 ^ 64 →
    sounding (track_den Din 0 (guarded_tape s tape)).items ≡ []
guarded-read-silent s tape fits =
    ap (λ (d : Denotation). sounding d.items) (guarded-read s tape fits) ∙ offs-silence (track_den s 0 tape).items
