-- What listing a recording does, piece by piece.
--
--   lines_told traced m ts   the lines of what is told at one moment
--   has_notes ts             whether a note is among it
--   Gathered ..              some of the lines were handed on, and the others are held
--   ListStands ..            a reader took these bytes and told all that is known of them; whether a note was among it
--   ListFed, ListEnded ..    a whole piece was listed, or the end; ListHalted, ListEndHalted: the taker refused
use Rattle.std.specs.Prelude.{◌≡◌, ℕ, Bool, false, true, List, ◌++◌, map, flat_map}
use Rattle.std.specs.List.{list_any}
use Rattle.mb_stream.specs.Told.{Known, Told, Marks, Notes}
use Rattle.mb_message.specs.Front.{IsPart}
use Rattle.mb_carrier.specs.Carrier.{known, end_told}
use Rattle.mb_carrier.specs.Lines.{told_lines, listed_so_far, listed_end}
use Rattle.mb_carrier.specs.declared.spec.Spec.{Spec}

abbrev pub lines_told : (traced : Bool) (moment : ℕ) → List Told → List ℕ
lines_told traced moment ts = flat_map (told_lines traced moment) ts

abbrev pub told_of : List Known → List Told
told_of ks = map (λ k. k.told) ks

abbrev pub is_note : Told → Bool
is_note (Marks m) = false
is_note (Notes at kind) = true

abbrev pub has_notes : List Told → Bool
has_notes ts = list_any is_note ts

pub record Gathered (took : List ℕ → Type 0) (lines held : List ℕ) : Type 0 where
  pub given : List ℕ
  pub took_it : took given
  pub all : given ++ held ≡ lines

pub record ListStands (s : Spec) (reader : List ℕ → List Known → Type 0) (noted : Bool) (bytes : List ℕ) : Type 0 where
  pub reads : reader bytes (known s bytes)
  pub notes : noted ≡ has_notes (told_of (known s bytes))

pub record ListFed (s : Spec) (traced : Bool) (reader reader_now : List ℕ → List Known → Type 0)
    (noted noted_now : Bool)
    (piece : List ℕ) (took : List ℕ → Type 0) : Type 0 where
  pub given : List ℕ
  pub took_it : took given
  pub stands : (bytes : List ℕ) → ListStands s reader noted bytes → ListStands s reader_now noted_now (bytes ++ piece)
  pub beyond : (bytes : List ℕ) → ListStands s reader noted bytes →
      listed_so_far traced s (bytes ++ piece) ≡ listed_so_far traced s bytes ++ given

pub record ListHalted (s : Spec) (traced : Bool) (reader : List ℕ → List Known → Type 0) (noted : Bool) (piece : List ℕ)
    (took : List ℕ → Type 0) : Type 0 where
  pub given : List ℕ
  pub took_it : took given
  pub front : (bytes : List ℕ) → ListStands s reader noted bytes →
      IsPart (listed_so_far traced s bytes ++ given) (listed_so_far traced s (bytes ++ piece))

pub record ListEnded (s : Spec) (traced : Bool) (reader : List ℕ → List Known → Type 0) (noted noted_now : Bool)
    (took : List ℕ → Type 0) : Type 0 where
  pub given : List ℕ
  pub took_it : took given
  pub beyond : (bytes : List ℕ) → ListStands s reader noted bytes → listed_end traced s bytes ≡ given
  pub notes : (bytes : List ℕ) → ListStands s reader noted bytes →
      noted_now ≡ has_notes (told_of (known s bytes) ++ end_told s bytes)

pub record ListEndHalted (s : Spec) (traced : Bool) (reader : List ℕ → List Known → Type 0) (noted : Bool)
    (took : List ℕ → Type 0) : Type 0 where
  pub given : List ℕ
  pub took_it : took given
  pub front : (bytes : List ℕ) → ListStands s reader noted bytes → IsPart given (listed_end traced s bytes)
