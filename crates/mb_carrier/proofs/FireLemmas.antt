-- A reader of one FireWire port, by the public clauses of `FirePortReader`.
use Rattle.std.proofs.Common.{◌≡◌, ℕ, List, ◌++◌, length, ◌∙◌}
use Rattle.mb_stream.specs.Told.{Told, Known}
use Rattle.mb_message.specs.Front.{IsFront}
use Rattle.mb_fire.specs.State.{PortState}
use Rattle.mb_fire.specs.Ports.{port_so_far, PortStands, PortTells, PortAllTold, fire, only_port, whole_of}
use Rattle.mb_fire.proofs.PortsLaw.{only_low, only_law}
use Rattle.mb_carrier.specs.Hop.{ReaderGoes}
use Rattle.mb_carrier.specs.declared.spec.Spec.TheVariants.{Fire}
use Rattle.mb_carrier.proofs.PlaceLemmas.{Each-at, one-in}

pub port-goes : (was now : PortState) (input left : List ℕ) (answer : List Told) →
    PortTells was now input left answer →
    (bytes : List ℕ) (told : List Known) → PortStands was bytes told →
    IsFront told (port_so_far was.port (bytes ++ input)) →
    ReaderGoes (Fire was.port) (PortStands now) (λ m. m) input left answer bytes told
port-goes was now input left answer says bytes told h front =
    let g = says bytes told h front in
    record {
      goes = g;
      times = λ moments moment have. Each-at moments moment (length bytes) (length input) g.fresh have
          (one-in (fire (only_port was.port)) (only_low was.port)
          (whole_of was.packet (λ _. was.reader)) bytes input told g.fresh g.still.0 h
          (only_law was.port (bytes ++ input) ∙ g.still.1));
    }

pub port-all_told : (was : PortState) (input : List ℕ) → PortAllTold was input →
    (bytes : List ℕ) (told : List Known) → PortStands was bytes told →
    IsFront told (port_so_far was.port (bytes ++ input)) → told ≡ port_so_far was.port (bytes ++ input)
port-all_told was input says bytes told h front = says bytes told h front
