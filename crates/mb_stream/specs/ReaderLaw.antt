-- What the readers of all carriers promise. A reader stands for the bytes that it took and for what it told of them,
-- by a relation of its own: nobody has to believe it, since a fresh reader stands for nothing, each call keeps it, and
-- each answer is bound to what becomes known of the bytes. The words here are generic in that relation, in what becomes
-- known of bytes (of one port, or of several with their numbers), and in what an answer shows of it.
--
--   bare_told k            what is told, without its place
--   told_by, answer        what an event or a note tells, a run as its bytes; what an answer tells
--   Goes bare known ..     what a call took and told, and that the reader stands for both
--   Tells bare known ..    so it is whatever was taken and told before
--   AllTold known ..       all that is known of the input was told: what `None` says
--   breaks told            a message that was begun, or a SysEx, is broken by the next status
--   has_short told         a short message is among it
--   begins_run told        a byte of a SysEx is the first of it
--   StatusNext left        a status that isn't real-time begins the list
--   NoDataNext left        no data byte begins it
--   IsLongest left seen    a run is the longest that stands side by side in the input
use Rattle.std.specs.Prelude.{◌≡◌, ℕ, Bool, true, false, List, [], ◌∷◌, ◌++◌, map, Option, Some, None}
use Rattle.mb_message.specs.declared.note.NoteKind.TheVariants.{Truncated}
use Rattle.mb_message.specs.declared.event.Seen.{Seen}
use Rattle.mb_message.specs.declared.event.Seen.TheVariants as seen
use Rattle.mb_message.specs.declared.event.Ev.TheVariants as event
use Rattle.mb_message.specs.Bytes.{is_data, is_status}
use Rattle.mb_message.specs.Front.{IsFront}
use Rattle.mb_message.specs.Signs.{ShortSign, ByteSign, AbortSign, signs_of_event}
use Rattle.mb_stream.specs.Told.{Told, Marks, Notes, Known}

abbrev pub bare_told : Known → Told
bare_told k = k.told

abbrev pub told_by : Seen → List Told
told_by (seen.Ev e) = map Marks (signs_of_event e)
told_by (seen.Note n) = Notes n.at n.kind ∷ []

abbrev pub answer : Option Seen → List Told
answer None = []
answer (Some s) = told_by s

-- A call took the front of its input and answered what becomes known, and the reader stands for both. `known` gives
-- what becomes known of a list of bytes, `bare` what an answer shows of it, `now` says what the reader stands for
-- afterwards.
pub record Goes {K T : Type 0} (bare : K → T) (known : List ℕ → List K) (now : List ℕ → List K → Type 0)
    (input left : List ℕ) (answer : List T) (bytes : List ℕ) (told : List K) : Type 0 where
  pub taken : List ℕ
  pub front : input ≡ taken ++ left
  pub fresh : List K
  pub answer_is : map bare fresh ≡ answer
  pub stands : now (bytes ++ taken) (told ++ fresh)
  pub still : IsFront (told ++ fresh) (known (bytes ++ input))

-- whatever was taken and told before, as long as what was told is a front of what is known of it with the input
abbrev pub Tells : {K T : Type 0} (bare : K → T) (known : List ℕ → List K) (was now : List ℕ → List K → Type 0) →
    (input left : List ℕ) (answer : List T) → Type 0
Tells {K} {T} bare known was now input left answer =
    (bytes : List ℕ) (told : List K) → was bytes told → IsFront told (known (bytes ++ input)) →
    Goes bare known now input left answer bytes told

abbrev pub AllTold : {K : Type 0} (known : List ℕ → List K) (was : List ℕ → List K → Type 0) (input : List ℕ) → Type 0
AllTold {K} known was input =
    (bytes : List ℕ) (told : List K) → was bytes told → IsFront told (known (bytes ++ input)) →
    told ≡ known (bytes ++ input)

abbrev pub breaks : List Told → Bool
breaks (Marks AbortSign ∷ ts) = true
breaks (Notes at Truncated ∷ ts) = true
breaks _ = false

abbrev pub has_short : List Told → Bool
has_short [] = false
has_short (Marks (ShortSign s d1 d2) ∷ ts) = true
has_short (_ ∷ ts) = has_short ts

abbrev pub begins_run : List Told → Bool
begins_run (Marks (ByteSign b) ∷ ts) = true
begins_run _ = false

abbrev pub StatusNext : List ℕ → Type 0
StatusNext [] = ⊥
StatusNext (b ∷ bs) = is_status b ≡ true

abbrev pub NoDataNext : List ℕ → Type 0
NoDataNext [] = Unit {0}
NoDataNext (b ∷ bs) = is_data b ≡ false

abbrev pub IsLongest : (left : List ℕ) → Seen → Type 0
IsLongest left (seen.Ev (event.Run bytes)) = NoDataNext left
IsLongest left _ = Unit {0}
