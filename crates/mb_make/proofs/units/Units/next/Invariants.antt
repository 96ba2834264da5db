use Rattle.std.proofs.Common.{◌≡◌}
use Rattle.mb_make.specs.Units.{rest_of, IsWithin}
use Rattle.mb_make.proofs.units.Units.next.Given as goal

abbrev pub invariant-units : goal.invariant-units
invariant-units l =
    record {
      rest : rest_of l.self ≡ rest_of l.initial.self;
      within : IsWithin l.self;
    }

abbrev pub decreases-units : goal.decreases-units
decreases-units l = l.self.left
