-- Lists of which one begins the other.
--
--   IsFront front whole     the one is the beginning of the other
--   IsPart front whole      the one is the beginning of the other, and not all of it
use Rattle.std.specs.Prelude.{◌≡◌, ℕ, ◌<◌, List, ◌++◌, length}

abbrev pub IsFront : {A : Type 0} → (front whole : List A) → Type 0
IsFront {A} front whole = (rest : List A) × (whole ≡ front ++ rest)

abbrev pub IsPart : {A : Type 0} → (front whole : List A) → Type 0
IsPart {A} front whole = (rest : List A) × (whole ≡ front ++ rest) × (0 < length rest)
