-- What a reader of packets promises: the relation between what it keeps, the bytes that it took, and what it told of
-- them.
--
--   BleStands now bytes told     the reader took these bytes and told this
--   BleTells was now ..          what a call took and told, and that the reader stands for both
--   BleAllTold was input         all that is known of the input was told: what `None` says
--   ble_answer, seen_of          what a step tells, with its moment and without
--   BrokenNext now left          what breaks a message stands next: a status in the input, or a packet's end
--   Holds, Read, Reads, Counts   the same of the content of a packet, whatever its room and whatever follows
use Rattle.std.specs.Prelude.{◌≡◌, ℕ, ◌+◌, ◌-◌, ◌<◌, ◌≤◌, ◌⊎◌, Bool, true, false, if◌then◌else◌, List, [], ◌∷◌, ◌++◌}
use Rattle.std.specs.Prelude.{map, length, Option, Some, None}
use Rattle.mb_din.specs.Reader.{Stands}
use Rattle.mb_message.specs.declared.event.Seen.{Seen}
use Rattle.mb_din.specs.State.{State}
use Rattle.mb_message.specs.Front.{IsFront}
use Rattle.mb_stream.specs.ReaderLaw.{StatusNext, Tells, AllTold, told_by}
use Rattle.mb_frames.specs.Reading.{from, Place, Between, High, Within}
use Rattle.mb_message.specs.Bytes.{is_channel}
use Rattle.mb_stream.specs.Groups.{is_sysex, last_of}
use Rattle.mb_stream.specs.Payload.{Entry}
use Rattle.mb_stream.specs.Reading.{Part, part_of, part_at, so_far}
use Rattle.mb_stream.specs.Told.{Told, Known, may_run}
use Rattle.mb_message.specs.declared.note.NoteKind.TheVariants.{LoneStamp}
use Rattle.mb_frames.specs.Counting.{rest_parts}
use Rattle.mb_ble.specs.Packets.{Token, Begins, Skipped, Stamp, Ends, byte_token, tokens, clock, running, is_full}
use Rattle.mb_ble.specs.Packets.{payload, all_tokens}
use Rattle.mb_ble.specs.Reading.{lone, noted, ble_known, onto, whole_from, ble_whole}
use Rattle.mb_ble.specs.News.{news_from}
use Rattle.mb_ble.specs.State.{Calm, is_between, ble_offset, ble_moment}
use Rattle.mb_ble.specs.declared.content.Content.{Content}
use Rattle.mb_ble.specs.declared.content.Head.{Head}
use Rattle.mb_ble.specs.declared.content.Head.TheVariants as head
use Rattle.mb_ble.specs.declared.position.Position.{Position}
use Rattle.mb_ble.specs.declared.step.BleStep.{BleStep}

-- so many bytes of a content were taken
abbrev pub passed : Place → ℕ → Place
passed Between n = Between
passed (High high) n = High high
passed (Within left) n = Within (left - n)

-- what follows a place ends no frame early
abbrev pub whole_at : Place → List ℕ → Bool
whole_at Between bytes = whole_from 0 bytes
whole_at (High high) bytes = whole_from 0 (high ∷ bytes)
whole_at (Within left) bytes = whole_from left bytes

-- the next byte is a header, or no message is read at it
abbrev pub is_heady : Head → Bool
is_heady head.Between = true
is_heady head.Header = true
is_heady head.Skip = true
is_heady head.Inside = false
is_heady (head.Stamped at) = false
is_heady head.Spent = false

-- a token behind which a byte is what it is here
abbrev pub token_behind : Head → Token
token_behind head.Between = Ends 0
token_behind head.Header = Begins 0 0
token_behind head.Skip = Skipped
token_behind head.Inside = Ends 0
token_behind (head.Stamped at) = Stamp at 0
token_behind head.Spent = Stamp 0 0

abbrev pub last : List Token → Token
last [] = Ends 0
last (t ∷ before) = t

-- A stamp that stands right before, and its note, where that was told: before a data byte or at the packet's end.
abbrev pub NoStamp : List Token → List Known → Type 0
NoStamp before told = (told ≡ []) × ((low : Bool) (rank known_at : ℕ) → lone low rank known_at before ≡ [])

abbrev pub StampIs : Head → (offset : ℕ) → List Token → List Known → Type 0
StampIs (head.Stamped at) offset before told = (told ≡ [])
    × ((low : Bool) (rank known_at : ℕ) → lone low rank known_at before
    ≡ (if low then [] else noted rank (clock before).moment known_at at LoneStamp ∷ []))
StampIs head.Spent offset before told = (at : ℕ) × ((told ≡ noted 0 (clock before).moment offset at LoneStamp ∷ [])
    ⊎ ((told ≡ noted 5 (clock before).moment (offset - 1) at LoneStamp ∷ []) × (0 < offset)))
    × ((low : Bool) (rank known_at : ℕ) → lone low rank known_at before
    ≡ (if low then [] else noted rank (clock before).moment known_at at LoneStamp ∷ []))
StampIs head.Between offset before told = NoStamp before told
StampIs head.Header offset before told = NoStamp before told
StampIs head.Skip offset before told = NoStamp before told
StampIs head.Inside offset before told = NoStamp before told

-- what the next byte made known of earlier bytes
abbrev pub Early : ℕ → Known → Type 0
Early offset k = (k.at ≡ offset) × (0 < k.rank) × (k.rank < 3)

abbrev pub AreEarly : ℕ → List Known → Type 0
AreEarly offset [] = Unit {0}
AreEarly offset (k ∷ ks) = Early offset k × AreEarly offset ks

-- The content's reader stands for these tokens, of which all is told, and for this that the next byte or the packet's
-- end made known.
pub record Holds (now : Content) (before : List Token) (told : List Known) : Type 0 where
  pub clock_is : now.clock ≡ clock before
  pub running_is : now.running ≡ running before
  pub runs : (s : ℕ) → running before ≡ Some s → (is_channel s ≡ true) × (is_full (last_of (payload before)) ≡ false)
  pub kind : (at b : ℕ) → byte_token at (last before) b ≡ byte_token at (token_behind now.head) b
  pub stamp : List Known
  pub early : List Known
  pub told_is : told ≡ stamp ++ early
  pub stamp_is : StampIs now.head now.offset before stamp
  pub din : Stands now.din (payload before) (so_far (payload before) ++ early)
  pub are_early : AreEarly now.offset early
  pub here : (early ≡ []) ⊎ (now.din.offset ≡ now.offset)
  pub low : now.din.offset ≤ now.offset
  pub rested : is_heady now.head ≡ true → early ≡ []

-- A reader of a content read the front of its input: whatever it stood for, and whatever follows in the packet and
-- behind it.
pub record Read (was now : Content) (input left : List ℕ) (seen : List Told) (before : List Token)
    (told : List Known) (room : ℕ) (following : List ℕ) : Type 0 where
  pub new : List Token
  pub taken : List ℕ
  pub front : input ≡ taken ++ left
  pub parts : (more : List ℕ) → tokens was.offset (last before) (rest_parts room (taken ++ more)) ≡
      new ++ tokens now.offset (last (onto before new)) (rest_parts (room - length taken) more)
  pub ahead : List Known
  pub holds : Holds now (onto before new) ahead
  pub fresh : List Known
  pub seen_is : map part_of fresh ≡ map (λ t. record { moment = now.clock.moment; told = t }) seen
  pub told_is : told ++ fresh ≡ news_from before new ++ ahead
  pub still : IsFront ahead (news_from (onto before new)
      (tokens now.offset (last (onto before new)) (rest_parts (room - length taken) (left ++ following))))

pub record Reads (was now : Content) (input left : List ℕ) (seen : List Told) : Type 0 where
  pub reads : (before : List Token) (told : List Known) (room : ℕ) (following : List ℕ) → Holds was before told →
      length input ≤ room →
      IsFront told (news_from before (tokens was.offset (last before) (rest_parts room (input ++ following)))) →
      Read was now input left seen before told room following

pub record Counts (was now : Content) (input left : List ℕ) : Type 0 where
  pub taken : List ℕ
  pub front : input ≡ taken ++ left
  pub offset : now.offset ≡ was.offset + length taken
  pub calm : Calm was → Calm now
  pub inside : is_between was.head ≡ false → is_between now.head ≡ false

-- what the byte stream's reader knows where all is told
abbrev pub MayRun : State → Bool → Type 0
MayRun s b = (entries : List Entry) → Stands s entries (so_far entries) → may_run (last_of entries) ≡ b

abbrev pub HasOpen : State → Bool → Type 0
HasOpen s b = (entries : List Entry) → Stands s entries (so_far entries) → is_sysex (last_of entries) ≡ b

-- The reader has taken these bytes and told this: all that their tokens tell, and perhaps what the next byte or the
-- packet's end made known.
pub record BleStands (now : Position) (bytes : List ℕ) (told : List Known) : Type 0 where
  pub taken : List Token
  pub before : List Token
  pub before_is : before ≡ onto [] taken
  pub tokens_are : (more : List ℕ) → all_tokens (bytes ++ more) ≡
      taken ++ tokens now.content.offset (last before) (from now.frames more)
  pub ahead : List Known
  pub told_is : told ≡ news_from [] taken ++ ahead
  pub holds : Holds now.content before ahead
  pub offset : ble_offset now ≡ length bytes
  pub whole_is : (more : List ℕ) → ble_whole (bytes ++ more) ≡ whole_at now.frames more

-- what a call took and told, and that the reader stands for both, whatever was taken and told before
pub record BleTells (was now : Position) (input left : List ℕ) (answer : List Part) : Type 0 where
  pub goes : Tells part_of ble_known (BleStands was) (BleStands now) input left answer

abbrev pub BleAllTold : Position → List ℕ → Type 0
BleAllTold was input = AllTold ble_known (BleStands was) input

-- what is told has the moment of the last stamp
abbrev pub at_moment : Position → List Told → List Part
at_moment now ts = map (part_at (ble_moment now)) ts

abbrev pub ble_answer : Option BleStep → List Part
ble_answer None = []
ble_answer (Some s) = map (part_at s.moment) (told_by s.seen)

abbrev pub seen_of : Option BleStep → Option Seen
seen_of None = None
seen_of (Some s) = Some s.seen

-- what was broken: a status breaks it, which still stands in the input, or the packet's end
abbrev pub BrokenNext : Position → List ℕ → Type 0
BrokenNext now left = StatusNext left ⊎ (now.frames ≡ Between)
