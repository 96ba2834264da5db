-- A reader of one port alone: what it tells has no port. The notes on packets are among it.
--
--   one_known m bytes          all that is known of bytes
--   HoldsOne m now bs told     it took these bytes and told this
use Rattle.std.specs.Prelude.{◌≡◌, ℕ, List, map}
use Rattle.mb_stream.specs.Told.{Known}
use Rattle.mb_ports.specs.Events.{Ported, known_of}
use Rattle.mb_ports.specs.Machine.{Machine}
use Rattle.mb_ports.specs.Reader.{Whole, Holds, all_known}

abbrev pub one_known : {U : Type 0} → Machine U → List ℕ → List Known
one_known m bytes = map known_of (all_known m 1 bytes)

pub record HoldsOne {U : Type 0} (m : Machine U) (now : Whole U) (bytes : List ℕ) (told : List Known) : Type 0 where
  pub with_port : List Ported
  pub holds : Holds m 1 now bytes with_port
  pub told_is : told ≡ map known_of with_port
