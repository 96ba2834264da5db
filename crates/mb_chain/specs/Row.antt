-- Rows of hops: each reads what the one before wrote, with the moments that its bytes have.
--
--   Link, link_of                   a hop's two specs
--   links_from s specs              the hops of a chain of specs: each reads by the spec that the one before writes by
--   live_over links moments bytes   what the last hop has written once the first was handed these bytes, of these
--                                   moments
--   through_over ..                 the same once they are at their end
--   HaveOne, IsApart                where a row has hops, what it is handed has one moment, and moments are kept apart
--                                   before it
--   RowStands hops moments bytes    each hop was handed what the one before wrote, the first these bytes
--   RowDone hops moments bytes      each hop wrote so many bytes, up to the end
--   IsEarly, EndsEarly              all that crosses is short enough for a reader's offsets
--   RowFed, RowEnded                a piece of one moment went through all hops, or the end; RowHalted, RowEndHalted:
--                                   the taker refused
--   last_after last m bytes         the moment of the last byte, bytes of one moment being behind others
--   LastPut ..                      the marks of a hop's end were put, all at one moment
use Rattle.std.specs.Prelude.{◌≡◌, ℕ, ◌+◌, ◌≤◌, ◌^◌, Bool, true, List, [], ◌∷◌, ◌++◌, length}
use Rattle.mb_stream.specs.Told.{Known}
use Rattle.mb_message.specs.Signs.{Sign}
use Rattle.mb_stream.specs.Puts.{Put, puts_at}
use Rattle.mb_message.specs.Front.{IsPart}
use Rattle.mb_carrier.specs.Carrier.{puts_so_far, puts_of, last_byte_moment, end_moment, live, written}
use Rattle.mb_carrier.specs.Conversion.{moments_of}
use Rattle.mb_carrier.specs.Hop.{HopStands, HaveMoment}
use Rattle.mb_carrier.specs.Port.{reader_spec, reader_offset, ReaderStands, writer_spec, WriterStands}
use Rattle.mb_carrier.specs.declared.spec.Spec.{Spec}
use Rattle.mb_chain.specs.declared.hop.Hop.{Hop}

pub record Link : Type 0 where
  pub reads : Spec
  pub writes : Spec

abbrev pub link_of : Hop → Link
link_of h = record { reads = reader_spec h.reader; writes = writer_spec h.writer }

abbrev pub links_from : Spec → List Spec → List Link
links_from s [] = []
links_from s (t ∷ ts) = record { reads = s; writes = t } ∷ links_from t ts

-- what a hop hands on while its input goes on, and the moments of these bytes
abbrev pub hands_on : Link → (moments : ℕ → ℕ) → List ℕ → List ℕ
hands_on l moments bytes = live l.writes (puts_so_far l.reads moments bytes)

abbrev pub moments_on : Link → (moments : ℕ → ℕ) → List ℕ → ℕ → ℕ
moments_on l moments bytes = moments_of l.writes 0 (puts_so_far l.reads moments bytes)

-- the same of all that it writes
abbrev pub writes_all : Link → (moments : ℕ → ℕ) → List ℕ → List ℕ
writes_all l moments bytes = written l.writes (puts_of l.reads moments bytes)

abbrev pub moments_all : Link → (moments : ℕ → ℕ) → List ℕ → ℕ → ℕ
moments_all l moments bytes = moments_of l.writes (end_moment l.reads moments bytes) (puts_of l.reads moments bytes)

abbrev pub live_over : List Link → (moments : ℕ → ℕ) → List ℕ → List ℕ
live_over [] moments bytes = bytes
live_over (l ∷ ls) moments bytes = live_over ls (moments_on l moments bytes) (hands_on l moments bytes)

abbrev pub through_over : List Link → (moments : ℕ → ℕ) → List ℕ → List ℕ
through_over [] moments bytes = bytes
through_over (l ∷ ls) moments bytes = through_over ls (moments_all l moments bytes) (writes_all l moments bytes)

abbrev pub HaveOne : List Link → (moments : ℕ → ℕ) (from count moment : ℕ) → Type 0
HaveOne [] moments from count moment = Unit {0}
HaveOne (l ∷ ls) moments from count moment = HaveMoment moments from count moment

abbrev pub IsApart : List Link → Bool → Type 0
IsApart [] apart = Unit {0}
IsApart (l ∷ ls) apart = apart ≡ true

-- `last` is the moment of the last byte that a hop was handed, `wrote` how many bytes it wrote
pub record HopAt (h : Hop) (moments : ℕ → ℕ) (bytes : List ℕ) : Type 0 where
  pub offset : reader_offset h.reader ≡ length bytes
  pub last : h.last ≡ last_byte_moment moments (length bytes)
  pub stands : HopStands (reader_spec h.reader) moments (ReaderStands h.reader) (WriterStands h.writer) bytes
  pub wrote : h.wrote ≡ length (hands_on (link_of h) moments bytes)

abbrev pub RowStands : List Hop → (moments : ℕ → ℕ) → List ℕ → Type 0
RowStands [] moments bytes = Unit {0}
RowStands (h ∷ hs) moments bytes = HopAt h moments bytes ×
    RowStands hs (moments_on (link_of h) moments bytes) (hands_on (link_of h) moments bytes)

abbrev pub RowDone : List Hop → (moments : ℕ → ℕ) → List ℕ → Type 0
RowDone [] moments bytes = Unit {0}
RowDone (h ∷ hs) moments bytes =
    (h.wrote ≡ length (writes_all (link_of h) moments bytes)) ×
    RowDone hs (moments_all (link_of h) moments bytes) (writes_all (link_of h) moments bytes)

abbrev pub IsEarly : List Link → (moments : ℕ → ℕ) → List ℕ → Type 0
IsEarly [] moments bytes = length bytes ≤ 2 ^ 51 + 2 ^ 14
IsEarly (l ∷ ls) moments bytes = (length bytes ≤ 2 ^ 51 + 2 ^ 14) ×
    IsEarly ls (moments_on l moments bytes) (hands_on l moments bytes)

abbrev pub EndsEarly : List Link → (moments : ℕ → ℕ) → List ℕ → Type 0
EndsEarly [] moments bytes = Unit {0}
EndsEarly (l ∷ ls) moments bytes =
    IsEarly ls (moments_all l moments bytes) (writes_all l moments bytes) ×
    EndsEarly ls (moments_all l moments bytes) (writes_all l moments bytes)

-- the moment of the last byte, bytes of one moment being behind others
abbrev pub last_after : (last moment : ℕ) → List ℕ → ℕ
last_after last moment [] = last
last_after last moment (b ∷ bs) = moment

pub record RowFed (links : List Link) (was now : (ℕ → ℕ) → List ℕ → Type 0) (moment : ℕ) (piece : List ℕ)
    (took : List ℕ → Type 0) : Type 0 where
  pub given : List ℕ
  pub took_it : took given
  pub stands : (moments : ℕ → ℕ) (bytes : List ℕ) → was moments bytes →
      HaveOne links moments (length bytes) (length piece) moment →
      now moments (bytes ++ piece)
  pub beyond : (moments : ℕ → ℕ) (bytes : List ℕ) → was moments bytes →
      HaveOne links moments (length bytes) (length piece) moment →
      live_over links moments (bytes ++ piece) ≡ live_over links moments bytes ++ given

pub record RowHalted (links : List Link) (was : (ℕ → ℕ) → List ℕ → Type 0) (moment : ℕ) (piece : List ℕ)
    (took : List ℕ → Type 0) : Type 0 where
  pub given : List ℕ
  pub took_it : took given
  pub front : (moments : ℕ → ℕ) (bytes : List ℕ) → was moments bytes →
      HaveOne links moments (length bytes) (length piece) moment →
      IsPart (live_over links moments bytes ++ given) (live_over links moments (bytes ++ piece))

pub record RowEnded (links : List Link) (was done : (ℕ → ℕ) → List ℕ → Type 0) (took : List ℕ → Type 0) : Type 0 where
  pub given : List ℕ
  pub took_it : took given
  pub counted : (moments : ℕ → ℕ) (bytes : List ℕ) → was moments bytes → done moments bytes
  pub beyond : (moments : ℕ → ℕ) (bytes : List ℕ) → was moments bytes →
      through_over links moments bytes ≡ live_over links moments bytes ++ given

pub record RowEndHalted (links : List Link) (was : (ℕ → ℕ) → List ℕ → Type 0) (took : List ℕ → Type 0) : Type 0 where
  pub given : List ℕ
  pub took_it : took given
  pub front : (moments : ℕ → ℕ) (bytes : List ℕ) → was moments bytes →
      IsPart (live_over links moments bytes ++ given) (through_over links moments bytes)

-- `moment` is that of the last byte, `at` that of the end
pub record LastPut (s t : Spec) (reader : List ℕ → List Known → Type 0) (writer writer_now : List Put → Type 0)
    (moment at : ℕ)
    (held : List ℕ) (moments : ℕ → ℕ) (bytes : List ℕ) : Type 0 where
  pub moment_is : end_moment s moments bytes ≡ at
  pub given : (signs : List Sign) × (puts_of s moments bytes ≡ puts_so_far s moments bytes ++ puts_at at signs)
  pub stands : writer_now (puts_of s moments bytes)
  pub wrote : live t (puts_of s moments bytes) ≡ live t (puts_so_far s moments bytes) ++ held
