-- What is read of the parts of any frames suits, and is at most two marks a byte.
use Rattle.std.proofs.Common.{◌≡◌, ℕ, suc, zero, ◌+◌, ◌*◌, ◌≤◌, Bool, true, false, Option, Some, None, List, [], ◌∷◌}
use Rattle.std.proofs.Common.{length, refl, sym, ap, ◌∙◌, subst, arith, length-append}
use Rattle.std.specs.Prelude.{nat_lt, if◌then◌else◌}
use Rattle.mb_message.specs.Signs.{Sign}
use Rattle.mb_frames.specs.Frames.{FramePart, FrameBegin, FrameByte, FrameEnd, parts}
use Rattle.mb_stream.proofs.ByteKinds.{Need, Kind, DataKind, ChannelKind, CommonKind, TuneKind, StartKind, EndKind}
use Rattle.mb_stream.proofs.ByteKinds.{OtherKind, RtKind, OtherRtKind, kind}
use Rattle.mb_stream.proofs.Machine.{Reader, Rest, Waits, Ready, Begun, Inside, ends, tells, after, is_inside}
use Rattle.mb_stream.proofs.Suits.{Suit}
use Rattle.mb_stream.proofs.ReadMarks.{Good, Grows, grows, open_all, Suit-append, Suit-read}
use Rattle.mb_ble.proofs.PacketMachine.{Where, AtHeader, AtSkipped, AtStamped, AtBody, Packeted, runs_after, resumes}
use Rattle.mb_ble.proofs.PacketMachine.{cut, taken, in_stamp, between, at_byte, byte_tells, part_after, part_tells}
use Rattle.mb_ble.proofs.PacketMachine.{read_parts, ble_marks}
use Rattle.mb_frames.specs.Counting.{counted_parts, rest_parts}
use Rattle.mb_frames.proofs.Steps.{parts-counted}

abbrev GoodRuns : Option (Need × ℕ) → Type 0
GoodRuns None = Unit {0}
GoodRuns (Some q) = kind q.1 ≡ ChannelKind q.0

runs-good : (q : Option (Need × ℕ)) (k : Kind) (b : ℕ) → kind b ≡ k → GoodRuns q → GoodRuns (runs_after q k b)
runs-good q DataKind b e g = g
runs-good q (ChannelKind n) b e g = e
runs-good q (CommonKind n) b e g = g
runs-good q TuneKind b e g = g
runs-good q StartKind b e g = tt
runs-good q EndKind b e g = tt
runs-good q OtherKind b e g = tt
runs-good q RtKind b e g = g
runs-good q OtherRtKind b e g = g

resumes-good : (q : Option (Need × ℕ)) (r : Reader) → GoodRuns q → Good r → Good (resumes q r)
resumes-good None r g h = h
resumes-good (Some q) Rest g h = g
resumes-good (Some q) (Waits a n s) g h = h
resumes-good (Some q) (Ready n s) g h = h
resumes-good (Some q) (Begun a s d) g h = h
resumes-good (Some q) Inside g h = h

resumes-in : (q : Option (Need × ℕ)) (r : Reader) → is_inside (resumes q r) ≡ is_inside r
resumes-in None r = refl
resumes-in (Some q) Rest = refl
resumes-in (Some q) (Waits a n s) = refl
resumes-in (Some q) (Ready n s) = refl
resumes-in (Some q) (Begun a s d) = refl
resumes-in (Some q) Inside = refl

resumes-ends : (q : Option (Need × ℕ)) (r : Reader) → ends (resumes q r) ≡ ends r
resumes-ends None r = refl
resumes-ends (Some q) Rest = refl
resumes-ends (Some q) (Waits a n s) = refl
resumes-ends (Some q) (Ready n s) = refl
resumes-ends (Some q) (Begun a s d) = refl
resumes-ends (Some q) Inside = refl

cut-good : (r : Reader) → Good (cut r)
cut-good Rest = tt
cut-good (Waits a n s) = tt
cut-good (Ready n s) = tt
cut-good (Begun a s d) = tt
cut-good Inside = tt

cut-in : (r : Reader) → is_inside (cut r) ≡ is_inside r
cut-in Rest = refl
cut-in (Waits a n s) = refl
cut-in (Ready n s) = refl
cut-in (Begun a s d) = refl
cut-in Inside = refl

cut-ends : (r : Reader) → ends (cut r) ≡ ends r
cut-ends Rest = refl
cut-ends (Waits a n s) = refl
cut-ends (Ready n s) = refl
cut-ends (Begun a s d) = refl
cut-ends Inside = refl

-- One part, which counts so many bytes: what it tells suits and is few, and the reader behind it is good.
record Keeps (r r2 : Reader) (q2 : Option (Need × ℕ)) (ts : List Sign) (bytes : ℕ) : Type 0 where
  good : Good r2
  runs : GoodRuns q2
  suit : Suit (is_inside r) ts
  opens : open_all (is_inside r) ts ≡ is_inside r2
  few : length ts + length (ends r2) ≤ 2 * bytes + length (ends r)

keeps-same : (r : Reader) (q2 : Option (Need × ℕ)) (bytes : ℕ) → Good r → GoodRuns q2 → Keeps r r q2 [] bytes
keeps-same r q2 bytes g h = record { good = g; runs = h; suit = tt; opens = refl; few = omega arith }

keeps-taken : (r : Reader) (q : Option (Need × ℕ)) (b : ℕ) → Good r → GoodRuns q →
    Keeps r (resumes (runs_after q (kind b) b) (after r (kind b) b)) (runs_after q (kind b) b) (tells r (kind b) b) 1
keeps-taken r q b g h =
    let s : Grows r b (kind b) = grows r b (kind b) refl g in
    let q2 : Option (Need × ℕ) = runs_after q (kind b) b in
    let h2 : GoodRuns q2 = runs-good q (kind b) b refl h in
    record {
      good = resumes-good q2 (after r (kind b) b) h2 s.good;
      runs = h2;
      suit = s.suit;
      opens = s.opens ∙ sym (resumes-in q2 (after r (kind b) b));
      few = omega (arith, s.few, ap length (resumes-ends q2 (after r (kind b) b)));
    }

abbrev KeepsTo : Reader → Packeted → List Sign → ℕ → Type 0
KeepsTo r p2 ts bytes = Keeps r p2.reader p2.runs ts bytes

keeps-byte : (w : Where) (r : Reader) (q : Option (Need × ℕ)) (b : ℕ) → Good r → GoodRuns q →
    KeepsTo r (at_byte w r q b) (byte_tells w r b) 1
keeps-byte AtHeader r q b g h = keeps-same r q 1 g h
keeps-byte AtSkipped r q b g h = keeps-same r q 1 g h
keeps-byte AtStamped r q b g h = keeps-taken r q b g h
keeps-byte AtBody r q b g h = by (nat_lt b 128)
  where
    by : (c : Bool) → KeepsTo r (if c then taken r q (kind b) b else in_stamp r q) (if c then tells r (kind b) b else
        []) 1
    by true = keeps-taken r q b g h
    by false = keeps-same r q 1 g h

abbrev count : FramePart → ℕ
count (FrameBegin len) = 0
count (FrameByte b) = 1
count FrameEnd = 0

abbrev count_all : List FramePart → ℕ
count_all [] = 0
count_all (x ∷ xs) = count x + count_all xs

keeps-part : (p : Packeted) (x : FramePart) → Good p.reader → GoodRuns p.runs → KeepsTo p.reader (part_after p x)
    (part_tells p x) (count x)
keeps-part p (FrameBegin len) g h = keeps-same p.reader None 0 g tt
keeps-part p (FrameByte b) g h = keeps-byte p.place p.reader p.runs b g h
keeps-part p FrameEnd g h = record {
  good = cut-good p.reader;
  runs = tt;
  suit = tt;
  opens = sym (cut-in p.reader);
  few = omega (arith, ap length (cut-ends p.reader));
}

parts-Suit : (xs : List FramePart) (p : Packeted) → Good p.reader → GoodRuns p.runs →
    Suit (is_inside p.reader) (read_parts p xs)
parts-Suit [] p g h = Suit-read p.reader [] g
parts-Suit (x ∷ xs) p g h =
    let s : KeepsTo p.reader (part_after p x) (part_tells p x) (count x) = keeps-part p x g h in
    Suit-append (is_inside p.reader) (part_tells p x) (read_parts (part_after p x) xs) s.suit
    (subst (λ o. Suit o (read_parts (part_after p x) xs)) (sym s.opens) (parts-Suit xs (part_after p x) s.good s.runs))

parts-few : (xs : List FramePart) (p : Packeted) → Good p.reader → GoodRuns p.runs → length (read_parts p xs) ≤ 2 *
    count_all xs + length (ends p.reader)
parts-few [] p g h = omega arith
parts-few (x ∷ xs) p g h =
    let s : KeepsTo p.reader (part_after p x) (part_tells p x) (count x) = keeps-part p x g h in
    omega (
      arith,
      s.few,
      length-append (part_tells p x) (read_parts (part_after p x) xs),
      parts-few xs (part_after p x) s.good s.runs,
    )

rest-count : (left : ℕ) (bytes : List ℕ) → count_all (rest_parts left bytes) ≤ length bytes
rest-count zero [] = omega arith
rest-count zero (h ∷ []) = omega arith
rest-count zero (h ∷ l ∷ bytes) = omega (arith, rest-count (256 * h + l) bytes)
rest-count (suc left) [] = omega arith
rest-count (suc left) (b ∷ bytes) = omega (arith, rest-count left bytes)

counted-count : (bytes : List ℕ) → count_all (counted_parts bytes) ≤ length bytes
counted-count [] = omega arith
counted-count (h ∷ []) = omega arith
counted-count (h ∷ l ∷ bytes) = omega (arith, rest-count (256 * h + l) bytes)

parts-count : (bytes : List ℕ) → count_all (parts bytes) ≤ length bytes
parts-count bytes = omega (arith, ap count_all (parts-counted bytes), counted-count bytes)

pub ble-Suit : (bytes : List ℕ) → Suit false (ble_marks bytes)
ble-Suit bytes = parts-Suit (parts bytes) (between Rest) tt tt

pub ble-few : (bytes : List ℕ) → length (ble_marks bytes) ≤ 2 * length bytes
ble-few bytes = omega (arith, parts-few (parts bytes) (between Rest) tt tt, parts-count bytes)
