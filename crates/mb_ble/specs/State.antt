-- What a reader of packets keeps.
--
--   ble_frames s       where it stands in the frames
--   ble_reader s       what its byte stream's reader keeps
--   ble_offset s       the offset of the next byte: how many bytes were taken
--   ble_to_come s      how many bytes of the packet under way are to come
--   ble_moment s       the moment of the last stamp, 0 before any
--   ble_owed s         how much may be told before a byte is taken
--   Fit s              what holds of every reader: where the byte stream's reader stands, which statuses run, that the
--                      moment is small beside the offset, and that a packet is under way where a frame is
use Rattle.std.specs.Prelude.{◌≡◌, ℕ, ◌+◌, ◌*◌, ◌<◌, ◌≤◌, Bool, true, false, IfSome}
use Rattle.mb_message.specs.Bytes.{is_channel}
use Rattle.mb_din.specs.State.{State, owed}
use Rattle.mb_frames.specs.Reading.{Place, Between, High, Within, room_of}
use Rattle.mb_ble.specs.declared.content.Content.{Content}
use Rattle.mb_ble.specs.declared.content.Head.{Head}
use Rattle.mb_ble.specs.declared.content.Head.TheVariants as head
use Rattle.mb_ble.specs.declared.position.Position.{Position}

abbrev pub ble_frames : Position → Place
ble_frames s = s.frames

abbrev pub ble_reader : Position → State
ble_reader s = s.content.din

abbrev pub ble_to_come : Position → ℕ
ble_to_come s = room_of s.frames

abbrev pub ble_moment : Position → ℕ
ble_moment s = s.content.clock.moment

-- the first byte of a length was taken, and its packet isn't begun
abbrev pub half : Place → ℕ
half Between = 0
half (High high) = 1
half (Within left) = 0

-- the offset of the next byte
abbrev pub ble_offset : Position → ℕ
ble_offset now = now.content.offset + half now.frames

-- what may be told before a byte is taken: of a stamp, and of what is begun or open
abbrev pub stamp_owed : Head → ℕ
stamp_owed head.Between = 0
stamp_owed head.Header = 0
stamp_owed head.Skip = 0
stamp_owed head.Inside = 0
stamp_owed (head.Stamped at) = 1
stamp_owed head.Spent = 0

abbrev pub content_owed : Content → ℕ
content_owed now = owed now.din + stamp_owed now.head

abbrev pub ble_owed : Position → ℕ
ble_owed now = content_owed now.content

abbrev pub is_between : Head → Bool
is_between head.Between = true
is_between head.Header = false
is_between head.Skip = false
is_between head.Inside = false
is_between (head.Stamped at) = false
is_between head.Spent = false

-- What holds without a word about the recording: the byte stream's reader isn't ahead, a status that runs is a
-- channel's, and the moment is small beside the offset, since half of the bytes at most are stamps, and each adds 8,191
-- at most.
abbrev pub slack : Head → ℕ
slack head.Between = 2
slack head.Header = 1
slack head.Skip = 1
slack head.Inside = 1
slack (head.Stamped at) = 2
slack head.Spent = 2

pub record Calm (now : Content) : Type 0 where
  pub low : now.din.offset ≤ now.offset
  pub runs : IfSome now.running (λ s. is_channel s ≡ true)
  pub moment : 2 * now.clock.moment ≤ 8191 * (now.offset + slack now.head)

-- between packets exactly where the frames are
abbrev pub Linked : Place → Content → Type 0
Linked Between c = is_between c.head ≡ true
Linked (High high) c = is_between c.head ≡ true
Linked (Within left) c = (is_between c.head ≡ false) × (0 < c.offset)

pub record Fit (now : Position) : Type 0 where
  pub calm : Calm now.content
  pub linked : Linked now.frames now.content
