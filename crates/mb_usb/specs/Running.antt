-- The same mark by mark: what is written at each, and which bytes of the open SysEx wait behind it. This is no second
-- definition of what is written: laws say that it is `usb_live`.
--
--   usb_at cable pending m           the bytes that are written at a mark
--   usb_from cable pending ms        those at the marks of a list
--   pending_from pending ms          what waits behind them
use Rattle.std.specs.Prelude.{ℕ, ◌+◌, ◌==◌, if◌then◌else◌, List, [], ◌∷◌, ◌++◌, length, map, flat_map}
use Rattle.mb_message.specs.Signs.{Sign, ShortSign, RtSign, OpenSign, ByteSign, EndSign, AbortSign}
use Rattle.mb_stream.specs.Spelling.{data_of}
use Rattle.mb_usb.specs.Packets.{packet, cin_of_short, single}

-- the bytes of a SysEx that fill no three yet
abbrev pub pending_after : List ℕ → Sign → List ℕ
pending_after p (ShortSign s a b) = []
pending_after p (RtSign b) = p
pending_after p OpenSign = 0xf0 ∷ []
pending_after p (ByteSign b) = if length p == 2 then [] else p ++ b ∷ []
pending_after p EndSign = []
pending_after p AbortSign = []

-- the packets that are written at a mark; where the list ends, what waits is written as at an abort
abbrev pub packets_at : (cable : ℕ) → List ℕ → Sign → List (List ℕ)
packets_at cable p (ShortSign s a b) = packet cable (cin_of_short s) (s ∷ data_of s a b) ∷ []
packets_at cable p (RtSign b) = single cable b ∷ []
packets_at cable p OpenSign = []
packets_at cable p (ByteSign b) = if length p == 2 then packet cable 4 (p ++ b ∷ []) ∷ [] else []
packets_at cable p EndSign = packet cable (5 + length p) (p ++ 0xf7 ∷ []) ∷ []
packets_at cable p AbortSign = map (single cable) p

abbrev pub usb_at : (cable : ℕ) → List ℕ → Sign → List ℕ
usb_at cable p m = flat_map (λ bytes. bytes) (packets_at cable p m)

abbrev pub usb_from : (cable : ℕ) → List ℕ → List Sign → List ℕ
usb_from cable p [] = []
usb_from cable p (m ∷ ms) = usb_at cable p m ++ usb_from cable (pending_after p m) ms

abbrev pub pending_from : List ℕ → List Sign → List ℕ
pending_from p [] = p
pending_from p (m ∷ ms) = pending_from (pending_after p m) ms
