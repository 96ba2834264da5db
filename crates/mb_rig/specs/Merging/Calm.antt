-- A run in which no link was ever stalled: its steps are taken in the order of their keys.
--
-- Calm s m links K play no link is stalled, none has a record below the greatest key, and lines are held back exactly
use Rattle.std.specs.Prelude.{◌≡◌, ℕ, false, Some}
use Rattle.mb_merge.specs.Links.{Merger}
use Rattle.mb_rig.specs.RigText.{Setup}
use Rattle.mb_rig.specs.Merging.Lines.{Key}
use Rattle.mb_rig.specs.Merging.Run.{AtMost}
use Rattle.mb_rig.specs.Merging.Routed.{open_of, keys_of}
use Rattle.mb_rig.specs.Merging.Playing.{Play, begin_of}
use Rattle.mb_rig.specs.Merging.Unstalled.{UnstalledOrder}
use Rattle.mb_rig.specs.Merging.Course.{Links}

pub record Calm (s : Setup) (m : Merger) (links : Links) (K : Key) (play : Play) : Type 0 where
  pub free : (x : ℕ) → links.stalled x ≡ false
  pub ahead : (x : ℕ) (c : Key) → links.present x ≡ Some c → AtMost K c
  pub order : UnstalledOrder s.routes play (open_of m) (keys_of m) (begin_of play) K
