-- What a DIN reader promises (MIDI 1.0 Detailed Specification 4.2): the relation between what it keeps, the entries
-- that it took, and what it told of them.
--
--   Stands now es told      the reader took these entries and told this
--   DinGoes was now ..      what a call took, what it answered, and that the reader stands for both
--   NextSays was now ..     so it is whatever was taken and told before, and whatever follows
--   DinAllTold was input    all that is known of the input was told: what `None` says
--   IsFrontTaken ..         a call takes a front of its input
--   RunNext now input       a SysEx is open, and a byte of it begins the input
--   TakesWhole was now ..   a piece was taken whole, and one thing told of it
use Rattle.std.specs.Prelude.{◌≡◌, ℕ, ◌+◌, ◌<◌, ◌≤◌, Bool, true, ◌&&◌, List, [], ◌∷◌, ◌++◌, length}
use Rattle.mb_message.specs.Bytes.{is_data, is_channel}
use Rattle.mb_message.specs.Front.{IsFront}
use Rattle.mb_stream.specs.Payload.{Entry, Heard, Silent, heard_from}
use Rattle.mb_stream.specs.Groups.{last_of}
use Rattle.mb_stream.specs.Told.{Told, Known}
use Rattle.mb_stream.specs.Reading.{so_far, told_signs}
use Rattle.mb_stream.specs.ReaderLaw.{Goes, bare_told}
use Rattle.mb_stream.specs.Working.{RisesFrom}
use Rattle.mb_din.specs.State.{State, idle, state_of, open_now}

-- offsets rise from the first number on, and all are below the second
abbrev pub RisesTo : (low high : ℕ) → List Entry → Type 0
RisesTo low high [] = low ≤ high
RisesTo low high (Silent s ∷ es) = RisesTo low high es
RisesTo low high (Heard x ∷ es) = (low ≤ x.at) × RisesTo (x.at + 1) high es

-- only channel statuses run without a byte of their own
abbrev pub OnlyChannelsRun : List Entry → Type 0
OnlyChannelsRun [] = Unit {0}
OnlyChannelsRun (Silent s ∷ es) = (is_channel s ≡ true) × OnlyChannelsRun es
OnlyChannelsRun (Heard x ∷ es) = OnlyChannelsRun es

-- What was told of the next byte before it was taken: nothing, or one truncated message or broken SysEx, and then the
-- reader keeps nothing.
abbrev pub IsAhead : (now was : State) → List Known → Type 0
IsAhead now was [] = now ≡ was
IsAhead now was (k ∷ []) = (now ≡ idle was) × (k.at ≡ was.offset) × (k.rank < 3)
IsAhead now was (k ∷ l ∷ ks) = ⊥

-- all that is known of the entries was told, and perhaps what the next byte made known of them
pub record Stands (now : State) (entries : List Entry) (told : List Known) : Type 0 where
  pub ahead : List Known
  pub told_is : told ≡ so_far entries ++ ahead
  pub rises : RisesTo 0 now.offset entries
  pub runs : OnlyChannelsRun entries
  pub state : IsAhead now (state_of now.offset (last_of entries)) ahead

-- A call took the front of its input and answered what it tells, and stands for both. `following` is what stands in the
-- payload from the input on.
abbrev pub DinGoes : (was now : State) (moment : ℕ) (input left : List ℕ) (answer : List Told) →
    (entries : List Entry) (told : List Known) (following : List Entry) → Type 0
DinGoes was now moment input left answer entries told following =
    Goes bare_told (λ _. so_far (entries ++ following))
    (λ taken. Stands now (entries ++ heard_from was.offset moment taken)) input left answer [] told

-- whatever was taken and told before, and whatever follows the input in the payload
abbrev pub NextSays : (was now : State) (input left : List ℕ) → List Told → Type 0
NextSays was now input left answer =
    (moment : ℕ) (entries : List Entry) (told : List Known) (more : List Entry) →
    Stands was entries told → RisesFrom (was.offset + length input) more →
    IsFront told (so_far (entries ++ (heard_from was.offset moment input ++ more))) →
    DinGoes was now moment input left answer entries told (heard_from was.offset moment input ++ more)

abbrev pub DinAllTold : State → List ℕ → Type 0
DinAllTold was input =
    (moment : ℕ) (entries : List Entry) (told : List Known) → Stands was entries told →
    IsFront told (so_far (entries ++ heard_from was.offset moment input)) →
    told ≡ so_far (entries ++ heard_from was.offset moment input)

-- a call takes a front of its input, and its offset rises by as much
abbrev pub IsFrontTaken : (was now : State) → (input left : List ℕ) → Type 0
IsFrontTaken was now input left =
    (taken : List ℕ) × (input ≡ taken ++ left) × (now.offset ≡ was.offset + length taken)

abbrev pub RunNext : State → List ℕ → Type 0
RunNext s [] = ⊥
RunNext s (b ∷ bs) = (is_data b ≡ true) × (open_now s ≡ true)

abbrev pub is_all_data : List ℕ → Bool
is_all_data [] = true
is_all_data (b ∷ bs) = is_data b && is_all_data bs

abbrev pub put_to : (offset : ℕ) → State → State
put_to offset s = record s { offset = offset }

-- All of a piece that stands at an offset was taken. It is what a call tells that is given the piece as its input.
pub record TakesWhole (was now : State) (at : ℕ) (piece : List ℕ) (answer : List Told) : Type 0 where
  pub offset : now.offset ≡ at + length piece
  pub stays : (entries : List Entry) → Stands was entries (so_far entries) →
      Stands (put_to at was) entries (so_far entries)
  pub goes : NextSays (put_to at was) now piece [] answer
  pub few : length (told_signs answer) ≤ length piece
