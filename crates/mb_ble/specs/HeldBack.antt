-- What a writer holds back: of what it was given a first part is written as if it were all, and the rest is one packet,
-- or none.
--
--   IsSplit n puts shown held     what is written so far of all of it is all that is written of the first part
use Rattle.std.specs.Prelude.{◌≡◌, ℕ, ◌≤◌, List, [], ◌++◌, length, ◌⊎◌}
use Rattle.mb_stream.specs.Puts.{Put}
use Rattle.mb_frames.specs.Frames.{frame}
use Rattle.mb_ble.specs.Written.{ble_live, ble_written}

-- no packet, or one of at most so many bytes
pub record IsOnePacket (n : ℕ) (bytes : List ℕ) : Type 0 where
  pub content : List ℕ
  pub fits : length content ≤ n
  pub is : (bytes ≡ []) ⊎ (bytes ≡ frame content)

pub record IsSplit (n : ℕ) (puts shown held : List Put) : Type 0 where
  pub all : puts ≡ shown ++ held
  pub live_is : ble_live n puts ≡ ble_written n shown
  pub nothing : ble_live n held ≡ []
  pub packet : IsOnePacket n (ble_written n held)
  pub written_is : ble_written n puts ≡ ble_written n shown ++ ble_written n held

pub record HeldBack (n : ℕ) (puts : List Put) : Type 0 where
  pub shown : List Put
  pub held : List Put
  pub split : IsSplit n puts shown held
