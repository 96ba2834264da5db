-- What the steps of a reader do in the content of a packet.
--
--   headed, headed_told     at a byte at which no message is read: a header, and what follows a bad one
--   stamped_at              at a stamp
--   advanced                over data of a SysEx
--   running_then            the packet's channel status behind a byte
--   is_common told          a System Common message was told
--   Hands ..                the byte stream's reader was put to an offset and read a piece
--   Took ..                 a byte was taken
--   EndedBy ..              the packet's end was taken
use Rattle.std.specs.Prelude.{◌≡◌, ℕ, ◌+◌, ◌%◌, Bool, true, false, ◌||◌, ◌⊎◌, nat_lt, nat_le, ◌==◌, if◌then◌else◌, List}
use Rattle.std.specs.Prelude.{[], ◌∷◌, ◌++◌, length, Option, Some, None}
use Rattle.mb_clock.specs.Clock.{begun, stamped}
use Rattle.mb_din.specs.Reader.{Stands, DinGoes}
use Rattle.mb_din.specs.State.{State}
use Rattle.mb_stream.specs.Groups.{is_sysex, last_of}
use Rattle.mb_stream.specs.Payload.{Entry, Silent, heard_from}
use Rattle.mb_stream.specs.Reading.{so_far}
use Rattle.mb_stream.specs.Told.{Told, Marks, Notes, Known, at_end}
use Rattle.mb_message.specs.Signs.{ShortSign, RtSign, OpenSign, ByteSign, EndSign, AbortSign}
use Rattle.mb_message.specs.declared.note.NoteKind.TheVariants.{BadHeader, EmptyPacket}
use Rattle.mb_ble.specs.declared.content.Content.{Content}
use Rattle.mb_ble.specs.declared.content.Head.{Head}
use Rattle.mb_ble.specs.declared.content.Head.TheVariants as head
use Rattle.mb_ble.specs.Packets.{running_after}
use Rattle.mb_message.specs.Front.{IsFront}

abbrev pub empty_told : ℕ → ℕ → List Told
empty_told at len = if len == 0 then Notes at EmptyPacket ∷ [] else []

abbrev pub headed_by : Head → Content → ℕ → Content
headed_by head.Header c b =
    if nat_lt b 128 then record c { offset = c.offset + 1; head = head.Skip }
    else record c { offset = c.offset + 1; head = head.Inside; clock = begun c.clock (b % 64) }
headed_by head.Between c b = record c { offset = c.offset + 1 }
headed_by head.Skip c b = record c { offset = c.offset + 1 }
headed_by head.Inside c b = record c { offset = c.offset + 1 }
headed_by (head.Stamped at) c b = record c { offset = c.offset + 1 }
headed_by head.Spent c b = record c { offset = c.offset + 1 }

abbrev pub headed : Content → ℕ → Content
headed c b = headed_by c.head c b

abbrev pub headed_told_by : Head → Content → ℕ → List Told
headed_told_by head.Header c b = if nat_lt b 128 then Notes c.offset BadHeader ∷ [] else []
headed_told_by head.Between c b = []
headed_told_by head.Skip c b = []
headed_told_by head.Inside c b = []
headed_told_by (head.Stamped at) c b = []
headed_told_by head.Spent c b = []

abbrev pub headed_told : Content → ℕ → List Told
headed_told c b = headed_told_by c.head c b

abbrev pub stamped_at : Content → ℕ → Content
stamped_at c b = record c { offset = c.offset + 1; head = head.Stamped c.offset; clock = stamped c.clock (b % 128) }

abbrev pub advanced : Content → ℕ → Content
advanced c count = if count == 0 then c else record c { offset = c.offset + count; head = head.Inside }

abbrev pub running_then : ℕ → Option ℕ → Option ℕ
running_then b before = if nat_lt b 128 then before else running_after b before

abbrev pub is_common : List Told → Bool
is_common [] = false
is_common (Marks (ShortSign s a b) ∷ ts) = nat_le 0xf0 s || is_common ts
is_common (Marks (RtSign b) ∷ ts) = is_common ts
is_common (Marks OpenSign ∷ ts) = is_common ts
is_common (Marks (ByteSign b) ∷ ts) = is_common ts
is_common (Marks EndSign ∷ ts) = is_common ts
is_common (Marks AbortSign ∷ ts) = is_common ts
is_common (Notes at k ∷ ts) = is_common ts

-- The byte stream's reader was put to an offset and read a piece.
pub record Hands (was now : State) (at : ℕ) (piece left : List ℕ) (seen : List Told) : Type 0 where
  pub placed : State
  pub there : placed.offset ≡ at
  pub offset : now.offset + length left ≡ at + length piece
  pub place : (entries : List Entry) (told : List Known) → (was.offset ≡ at) ⊎ (told ≡ so_far entries) →
      Stands was entries told → Stands placed entries told
  pub next : (moment : ℕ) (entries : List Entry) (told : List Known) → Stands placed entries told →
      IsFront told (so_far (entries ++ heard_from placed.offset moment piece)) →
      DinGoes placed now moment piece left seen entries told (heard_from placed.offset moment piece)

-- the byte stream's reader lets a status run, or does nothing
abbrev pub Resumes : Option ℕ → Bool → State → State → Type 0
Resumes None common was now = now ≡ was
Resumes (Some s) false was now = now ≡ was
Resumes (Some s) true was now = (now.offset ≡ was.offset)
    × ((entries : List Entry) → Stands was entries (so_far entries) →
    Stands now (entries ++ Silent s ∷ []) (so_far entries))

pub record Took (was now : Content) (b : ℕ) (common : Bool) : Type 0 where
  pub offset : now.offset ≡ was.offset + 1
  pub head : now.head ≡ head.Inside
  pub clock : now.clock ≡ was.clock
  pub running : now.running ≡ running_then b was.running
  pub din : Resumes was.running common was.din now.din

pub record EndedBy (was now : Content) (seen : List Told) : Type 0 where
  pub offset : now.offset ≡ was.offset
  pub head : now.head ≡ head.Between
  pub clock : now.clock ≡ was.clock
  pub running : now.running ≡ None
  pub low : now.din.offset ≡ was.din.offset
  pub opened : (entries : List Entry) → Stands was.din entries (so_far entries) → is_sysex (last_of entries) ≡ true →
      (seen ≡ []) × (now.din ≡ was.din)
  pub closed : (entries : List Entry) → Stands was.din entries (so_far entries) →
      is_sysex (last_of entries) ≡ false → (seen ≡ at_end (last_of entries)) × Stands now.din [] []
