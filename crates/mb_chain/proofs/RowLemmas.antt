-- Rows of hops: what was written stays, and the moments that a row has looked at.
use Rattle.std.proofs.Common.{◌≡◌, ℕ, zero, suc, ◌+◌, ◌<◌, ◌≤◌, ◌^◌, true, List, [], ◌∷◌, ◌++◌, length, refl, sym, ◌∙◌}
use Rattle.std.proofs.Common.{ap, subst, arith, length-append}
use Rattle.std.proofs.lemmas.List.{append-nil}
use Rattle.mb_stream.specs.Puts.{Put, signs_in}
use Rattle.mb_stream.specs.Standing.{suited}
use Rattle.mb_message.specs.Front.{IsFront}
use Rattle.mb_stream.specs.Reading.{told_signs}
use Rattle.mb_carrier.specs.Carrier.{known, puts_so_far, puts_of, last_byte_moment, end_moment, end_told, live, written}
use Rattle.mb_carrier.specs.Conversion.{moments_of, none_set, carried, through, carried_so_far, live_through}
use Rattle.mb_carrier.specs.Hop.{HaveMoment}
use Rattle.mb_carrier.specs.Port.{reader_spec, ReaderStands, writer_spec, WriterStands}
use Rattle.mb_carrier.specs.declared.spec.Spec.{Spec}
use Rattle.mb_carrier.proofs.Fronts.{front-then}
use Rattle.mb_carrier.proofs.GrowLemmas.{moments-same, known-front}
use Rattle.mb_carrier.proofs.GrowSpecs.{grows}
use Rattle.mb_carrier.proofs.ReadingLemmas.{suited-so_far, suited-all}
use Rattle.mb_carrier.proofs.SpecLaws.{reads}
use Rattle.mb_chain.specs.Row.{Link, link_of, links_from, hands_on, moments_on, writes_all, moments_all, live_over}
use Rattle.mb_chain.specs.Row.{through_over, HopAt, RowStands, IsEarly, last_after}
use Rattle.mb_chain.specs.declared.hop.Hop.{Hop}

-- a chain's hops do what its definition says

pub live-chain : (first : Spec) (between : List Spec) (last : Spec) (m : ℕ → ℕ) (bytes : List ℕ) →
    live_over (links_from first (between ++ last ∷ [])) m bytes
    ≡ live last (carried_so_far between (puts_so_far first m bytes))
live-chain first [] last m bytes = refl
live-chain first (s ∷ between) last m bytes = live-chain s between last (moments_of s 0 (puts_so_far first m bytes))
    (live s (puts_so_far first m bytes))

pub through-chain : (first : Spec) (between : List Spec) (last : Spec) (m : ℕ → ℕ) (bytes : List ℕ) →
    through_over (links_from first (between ++ last ∷ [])) m bytes
    ≡ written last (carried between (end_moment first m bytes) (puts_of first m bytes))
through-chain first [] last m bytes = refl
through-chain first (s ∷ between) last m bytes =
    through-chain s between last (moments_of s (end_moment first m bytes) (puts_of first m bytes))
    (written s (puts_of first m bytes))

-- The same moments below the number of bytes: the same row.

abbrev pub Agree : (m n : ℕ → ℕ) (bytes : List ℕ) → Type 0
Agree m n bytes = (i : ℕ) → i < length bytes → m i ≡ n i

last-agree : (m n : ℕ → ℕ) (k : ℕ) → ((i : ℕ) → i < k → m i ≡ n i) → last_byte_moment m k ≡ last_byte_moment n k
last-agree m n zero agree = refl
last-agree m n (suc k) agree = agree k (omega arith)

puts-agree : (s : Spec) (m n : ℕ → ℕ) (bytes : List ℕ) → Agree m n bytes → puts_so_far s m bytes ≡ puts_so_far s n bytes
puts-agree s m n bytes agree = (grows s).same m n bytes agree

pub row-again : (hops : List Hop) (m n : ℕ → ℕ) (bytes : List ℕ) → Agree m n bytes → RowStands hops m bytes →
    RowStands hops n bytes
row-again [] m n bytes agree row = tt
row-again (h ∷ hs) m n bytes agree row =
    let same : puts_so_far (reader_spec h.reader) m bytes
    ≡ puts_so_far (reader_spec h.reader) n bytes = puts-agree (reader_spec h.reader) m n bytes agree in (
      record {
        offset = (row.0).offset;
        last = (row.0).last ∙ last-agree m n (length bytes) agree;
        stands = record {
          reads = ((row.0).stands).reads;
          writes = subst (WriterStands h.writer) same
              ((row.0).stands).writes;
        };
        wrote = (row.0).wrote ∙ ap (λ ps. length (live (writer_spec h.writer) ps)) same;
      },
      subst (λ (ps : List Put). RowStands hs (moments_of (writer_spec h.writer) 0 ps)
          (live (writer_spec h.writer) ps)) same row.1,
    )

pub over-again : (links : List Link) (m n : ℕ → ℕ) (bytes : List ℕ) → Agree m n bytes →
    live_over links m bytes ≡ live_over links n bytes
over-again [] m n bytes agree = refl
over-again (l ∷ ls) m n bytes agree =
    ap (λ ps. live_over ls (moments_of l.writes 0 ps) (live l.writes ps)) (puts-agree l.reads m n bytes agree)

early-again : (links : List Link) (m n : ℕ → ℕ) (bytes : List ℕ) → Agree m n bytes → IsEarly links m bytes →
    IsEarly links n bytes
early-again [] m n bytes agree early = early
early-again (l ∷ ls) m n bytes agree early = (
  early.0,
  subst (λ (ps : List Put). IsEarly ls (moments_of l.writes 0 ps) (live l.writes ps))
      (puts-agree l.reads m n bytes agree) early.1,
)

-- What was written stays, over any row, the bytes having the same moments as far as they go.

-- one hop: what it hands on, and the moments of that
pub record More (l : Link) (m : ℕ → ℕ) (xs ys : List ℕ) : Type 0 where
  pub front : IsFront (hands_on l m xs) (hands_on l m ys)
  pub agree : Agree (moments_on l m xs) (moments_on l m ys) (hands_on l m xs)

hop-more : (l : Link) (m : ℕ → ℕ) (xs ys : List ℕ) → IsFront xs ys → More l m xs ys
hop-more l m xs ys f =
    let more = known-front l.reads (grows l.reads) m xs ys f in
    let p : List Put = puts_so_far l.reads m xs in
    let suits : suited (signs_in (p ++ more.0)) ≡ true = ap (λ ps. suited (signs_in ps)) (sym more.1)
    ∙ suited-so_far l.reads m (reads l.reads) ys in
    let g = (grows l.writes).stays p more.0 suits in
    record {
      front = (g.0, ap (live l.writes) more.1 ∙ g.1);
      agree = λ i h. moments-same l.writes (grows l.writes) 0 0 p more.0 suits i h
          ∙ ap (λ ps. moments_of l.writes 0 ps i) (sym more.1);
    }

pub row-front : (links : List Link) (m : ℕ → ℕ) (xs ys : List ℕ) → IsFront xs ys →
    IsFront (live_over links m xs) (live_over links m ys)
row-front [] m xs ys f = f
row-front (l ∷ ls) m xs ys f =
    let h = hop-more l m xs ys f in
    subst (λ (zs : List ℕ). IsFront zs (live_over ls (moments_on l m ys) (hands_on l m ys)))
    (sym (over-again ls (moments_on l m xs) (moments_on l m ys) (hands_on l m xs) h.agree))
    (row-front ls (moments_on l m ys) (hands_on l m xs) (hands_on l m ys) h.front)

front-shorter : (xs ys : List ℕ) → IsFront xs ys → length ys ≤ 2 ^ 51 + 2 ^ 14 → length xs ≤ 2 ^ 51 + 2 ^ 14
front-shorter xs ys f short = omega (arith, ap length f.1, length-append xs f.0, short)

pub early-front : (links : List Link) (m : ℕ → ℕ) (xs ys : List ℕ) → IsFront xs ys → IsEarly links m ys →
    IsEarly links m xs
early-front [] m xs ys f early = front-shorter xs ys f early
early-front (l ∷ ls) m xs ys f early =
    let h = hop-more l m xs ys f in (
      front-shorter xs ys f early.0,
      early-again ls (moments_on l m ys) (moments_on l m xs) (hands_on l m xs) (λ i low. sym (h.agree i low))
          (early-front ls (moments_on l m ys) (hands_on l m xs) (hands_on l m ys) h.front early.1),
    )

pub early-short : (links : List Link) (m : ℕ → ℕ) (bytes : List ℕ) → IsEarly links m bytes →
    length bytes ≤ 2 ^ 51 + 2 ^ 14
early-short [] m bytes early = early
early-short (l ∷ ls) m bytes early = early.0

-- what the end adds stands behind it

-- one hop: all that it writes, and the moments of that
pub record Closes (l : Link) (m : ℕ → ℕ) (bytes : List ℕ) : Type 0 where
  pub front : IsFront (hands_on l m bytes) (writes_all l m bytes)
  pub agree : Agree (moments_on l m bytes) (moments_all l m bytes) (hands_on l m bytes)

pub hop-closes : (l : Link) (m : ℕ → ℕ) (bytes : List ℕ) → Closes l m bytes
hop-closes l m bytes =
    let p : List Put = puts_so_far l.reads m bytes in
    let suits = suited-all l.reads m (reads l.reads) bytes in
    let g = (grows l.writes).stays p _ suits in
    record {
      front = front-then (live l.writes p) (live l.writes (puts_of l.reads m bytes))
          (written l.writes (puts_of l.reads m bytes)) g ((grows l.writes).closes (puts_of l.reads m bytes) suits);
      agree = λ i h. moments-same l.writes (grows l.writes) 0 (end_moment l.reads m bytes) p _ suits i h;
    }

pub row-closes : (links : List Link) (m : ℕ → ℕ) (bytes : List ℕ) →
    IsFront (live_over links m bytes) (through_over links m bytes)
row-closes [] m bytes = ([], sym (append-nil bytes))
row-closes (l ∷ ls) m bytes =
    let h = hop-closes l m bytes in
    front-then _ (live_over ls (moments_all l m bytes) (writes_all l m bytes)) _
    (subst (λ (zs : List ℕ). IsFront zs (live_over ls (moments_all l m bytes) (writes_all l m bytes)))
    (sym (over-again ls (moments_on l m bytes) (moments_all l m bytes) (hands_on l m bytes) h.agree))
    (row-front ls (moments_all l m bytes) (hands_on l m bytes) (writes_all l m bytes) h.front))
    (row-closes ls (moments_all l m bytes) (writes_all l m bytes))

-- what was handed to a hop before has the moments that it will have
pub first-agree : (l : Link) (m : ℕ → ℕ) (before piece : List ℕ) →
    Agree (moments_on l m before) (moments_on l m (before ++ piece)) (hands_on l m before)
first-agree l m before piece = (hop-more l m before (before ++ piece) (piece, refl)).agree

-- the moment of the last byte
pub last-more : (m : ℕ → ℕ) (before piece : List ℕ) (moment last : ℕ) →
    HaveMoment m (length before) (length piece) moment →
    last ≡ last_byte_moment m (length before) →
    last_after last moment piece ≡ last_byte_moment m (length (before ++ piece))
last-more m before [] moment last have is = is
    ∙ ap (λ bytes. last_byte_moment m (length bytes)) (sym (append-nil before))
last-more m before (b ∷ bs) moment last have is =
    let n : ℕ = length before + length bs in
    let long : length (before ++ b ∷ bs) ≡ suc n = omega (arith, length-append before (b ∷ bs)) in
    sym (have n (omega arith) (omega arith)) ∙ ap (last_byte_moment m) (sym long)
