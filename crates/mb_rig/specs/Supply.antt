-- What a handle to read has given.
--
--   SupplyValue                 a handle, the most that is taken off it, how much was taken, and what of it
--                               wasn't handed out
--   front_of s                  the next byte, if one is at hand
--   Drew handle old more new    these bytes were taken off a handle, and nothing else of the desk changed
--   IsLent s contents bytes     what was taken off the handle is what was handed out and what is at hand
--   IsCounted s contents        as much was taken off the handle as is counted, and no more than may be
use Rattle.std.specs.Prelude.{◌≡◌, ℕ, ◌≤◌, true, List, [], ◌++◌, length, take}
use Rattle.mb_outside.specs.Cause.{Rose}
use Rattle.mb_outside.specs.Contents.{Contents, after_read, is_readable}
use Rattle.mb_rig.specs.declared.supply.Dry.{Dry}
use Rattle.mb_rig.specs.declared.supply.Dry.TheVariants as dry

pub record SupplyValue : Type 0 where
  pub handle : ℕ
  pub limit : ℕ
  pub count : ℕ
  pub ahead : List ℕ

abbrev pub front_of : SupplyValue → List ℕ
front_of s = take 1 s.ahead

pub record Drew (handle : ℕ) (old : Contents) (more : List ℕ) (new : Contents) : Type 0 where
  pub contents : new ≡ after_read handle (length more) old
  pub bytes : more ≡ take (length more) (old.left handle)
  pub within : length more ≤ length (old.left handle)
  pub ends : more ≡ [] → old.left handle ≡ []

-- why no more was read: a call of the desk failed, or as much as may be was taken
abbrev pub DryBy : (read_faults read_faults_now count limit : ℕ) → Dry → Type 0
DryBy was now count limit dry.ReadFault = Rose was now
DryBy was now count limit dry.TooLong = (count ≡ limit) × (now ≡ was)

-- a handle that is to read has given what was handed out and what is at hand
pub record IsLent (s : SupplyValue) (c : Contents) (bytes : List ℕ) : Type 0 where
  pub readable : is_readable c s.handle ≡ true
  pub taken : c.taken s.handle ≡ bytes ++ s.ahead

pub record IsCounted (s : SupplyValue) (c : Contents) : Type 0 where
  pub count : length (c.taken s.handle) ≡ s.count
  pub within : s.count ≤ s.limit
