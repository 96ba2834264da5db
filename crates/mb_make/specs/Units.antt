-- Units on their way.
--
--   rest_of units        the bytes that are still to come
--   IsWithin units       the place in the unit that was begun is no further than its end
use Rattle.std.specs.Prelude.{ℕ, ◌≤◌, List, ◌++◌, drop}
use Rattle.arrayvec.specs.ArrayVec.{array_vec_len}
use Rattle.mb_make.specs.Generated.{units_from}
use Rattle.mb_make.specs.declared.units.Units.{Units}

abbrev pub rest_of : Units → List ℕ
rest_of u = drop u.at u.unit.items ++ units_from u.left u.running u.draws.state

abbrev pub IsWithin : Units → Type 0
IsWithin u = u.at ≤ array_vec_len u.unit
