-- What is done with bytes of the packet under way that its cable carries: they are handed to the cable's reader, which
-- takes a front of them.
use Rattle.std.specs.Prelude.{◌≡◌, ℕ, ◌+◌, List, ◌++◌, length, take, drop}
use Rattle.mb_stream.specs.Payload.{Entry}
use Rattle.mb_stream.specs.Told.{Told}
use Rattle.mb_stream.specs.Reading.{so_far}
use Rattle.mb_din.specs.Reader.{Stands, NextSays}
use Rattle.mb_din.specs.State.{State}
use Rattle.mb_usb.specs.declared.under.Packets.{Packets}
use Rattle.mb_usb.specs.Under.{left_of, packet_behind}

-- as many bytes of the input as the packet's cable still carries
abbrev pub piece_of : Packets → List ℕ → List ℕ
piece_of p input = take (left_of p.under) input

-- a cable's reader, put to the offset of the next byte
abbrev pub placed : Packets → State → State
placed p r = record r { offset = p.offset }

-- `kept` are those of the piece that were not taken
pub record Hands (was now : Packets) (reader reader_now : State) (input left : List ℕ)
    (answer : List Told) : Type 0 where
  pub taken : List ℕ
  pub kept : List ℕ
  pub piece : piece_of was input ≡ taken ++ kept
  pub left_is : left ≡ kept ++ drop (left_of was.under) input
  pub packet : now ≡ packet_behind was taken
  pub offset : reader_now.offset ≡ was.offset + length taken
  pub stays : (es : List Entry) → Stands reader es (so_far es) → Stands (placed was reader) es (so_far es)
  pub says : NextSays (placed was reader) reader_now (piece_of was input) kept answer
