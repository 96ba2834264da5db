-- Of a FireWire port: what is known of it stays known, its marks suit, and what was written stays written.
use Rattle.std.proofs.Common.{◌≡◌, ℕ, true, List, [], ◌++◌, length, sym, ◌∙◌, ap, subst}
use Rattle.std.proofs.lemmas.List.{append-nil}
use Rattle.std.proofs.lemmas.List.Concat.{flat_map-append}
use Rattle.mb_message.specs.Front.{IsFront}
use Rattle.mb_message.specs.Signs.{Sign}
use Rattle.mb_stream.specs.Puts.{Put, signs_in}
use Rattle.mb_stream.proofs.PutsLemmas.{signs_in-append}
use Rattle.mb_stream.specs.Spelling.{full_bytes}
use Rattle.mb_stream.specs.Standing.{suited}
use Rattle.mb_stream.specs.Groups.{last_of}
use Rattle.mb_stream.specs.Told.{at_end}
use Rattle.mb_stream.specs.Reading.{Part, sign_in, signs_of, told_signs}
use Rattle.mb_fire.specs.Reading.{fire_payload, fire_so_far, fire_reading}
use Rattle.mb_fire.specs.Ports.{port_so_far}
use Rattle.mb_fire.specs.Running.{fire_from}
use Rattle.mb_fire.specs.Written.{dbc_of, fire_written}
use Rattle.mb_fire.proofs.PortsLaw as ports
use Rattle.mb_fire.proofs.CarrierLaws as carrier
use Rattle.mb_fire.proofs.WriterLemmas.{written-more}
use Rattle.mb_carrier.specs.Carrier.{known_signs}
use Rattle.mb_carrier.specs.DinLaws.{end_signs}

marks-stay : (port : ℕ) (marks more : List Sign) → IsFront (fire_written port marks) (fire_written port (marks ++ more))
marks-stay port marks more =
    (fire_from port (dbc_of (length (full_bytes marks))) (full_bytes more), written-more port marks more)

pub live-stays : (port : ℕ) (puts more : List Put) →
    IsFront (fire_written port (signs_in puts)) (fire_written port (signs_in (puts ++ more)))
live-stays port puts more =
    subst (λ (ms : List Sign). IsFront (fire_written port (signs_in puts)) (fire_written port ms))
    (sym (signs_in-append puts more)) (marks-stay port (signs_in puts) (signs_in more))

pub live-closes : (port : ℕ) (puts : List Put) →
    IsFront (fire_written port (signs_in puts)) (fire_written port (signs_in puts))
live-closes port puts = ([], sym (append-nil (fire_written port (signs_in puts))))

-- what is known of some bytes stays known
pub known-stays : (port : ℕ) (bytes more : List ℕ) →
    IsFront (port_so_far port bytes) (port_so_far port (bytes ++ more))
known-stays port bytes more = let f = ports.stays port bytes more in (f.0, f.1)

-- the marks of the reading are those that are known and those of its end
pub marks-end : (port : ℕ) (bytes : List ℕ) →
    signs_of (fire_reading port bytes) ≡ known_signs (port_so_far port bytes) ++ told_signs (at_end (last_of
    (fire_payload port bytes)))
marks-end port bytes =
    flat_map-append (λ (p : Part). sign_in p.told) (fire_so_far port bytes) _
    ∙ ap (λ ms. known_signs (port_so_far port bytes) ++ ms)
    (end_signs 0 (at_end (last_of (fire_payload port bytes))))

pub marks-suit : (port : ℕ) (bytes : List ℕ) → suited (signs_of (fire_reading port bytes)) ≡ true
marks-suit port bytes = carrier.suits port bytes
