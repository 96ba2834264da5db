use Rattle.std.proofs.Common.{◌≡◌, ◌≤◌, ◌-◌, ◌++◌, length, take, drop}
use Rattle.mb_make.specs.Units.{rest_of, IsWithin}
use Rattle.mb_make.proofs.maker.Maker.fill.Given as goal

abbrev pub invariant-bytes : goal.invariant-bytes
invariant-bytes l =
    record {
      count : l.count ≤ length l.out;
      given : rest_of l.initial.self-inside.units ≡ take l.count l.out ++ rest_of l.self-inside.units;
      behind : drop l.count l.out ≡ drop l.count l.initial.out;
      within : IsWithin l.self-inside.units;
    }

abbrev pub decreases-bytes : goal.decreases-bytes
decreases-bytes l = length l.initial.out - l.count
