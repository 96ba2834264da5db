-- What becomes known of bytes behind others stands in them, where a carrier has no stamps.
use Rattle.std.proofs.Common.{◌≡◌, ℕ, List, [], ◌++◌, map, length, sym, subst, ◌∙◌, ap, arith, zero-add}
use Rattle.std.proofs.lemmas.List.{append_cancel_left, append-nil, map-append}
use Rattle.mb_stream.specs.Order.{Each}
use Rattle.mb_stream.specs.Reading.{so_far}
use Rattle.mb_stream.specs.Told.{Known}
use Rattle.mb_din.specs.Recording.{din_payload}
use Rattle.mb_ports.specs.Events.{Event, EventsRise, known_of, ports_so_far, ports_news}
use Rattle.mb_ports.specs.Machine.{Machine, events, events_from, under_from}
use Rattle.mb_ports.specs.OnePort.{one_known}
use Rattle.mb_ports.proofs.MachineLaw.{LowPorts, events_from-append, events-rise}
use Rattle.mb_ports.proofs.PortsLaw.{last_groups, ports_so_far-append}
use Rattle.mb_usb.specs.Cables.{usb, only_cable}
use Rattle.mb_usb.proofs.CablesLaw as usb_law
use Rattle.mb_fire.specs.Ports.{fire, only_port}
use Rattle.mb_fire.proofs.PortsLaw as fire_law
use Rattle.mb_carrier.specs.Carrier.{known}
use Rattle.mb_carrier.specs.MessageMoments.{HasNoStamps}
use Rattle.mb_carrier.specs.declared.spec.Spec.{Spec}
use Rattle.mb_carrier.specs.declared.spec.Spec.TheVariants.{Din, Usb, Fire, Ble}
use Rattle.mb_carrier.proofs.PlaceLemmas.{In, line-in, events-in}

one-fresh : {U : Type 0} (m : Machine U) → LowPorts m 1 → (bytes input : List ℕ) (fresh : List Known) →
    one_known m (bytes ++ input) ≡ one_known m bytes ++ fresh → Each (In (length bytes) (length input)) fresh
one-fresh m lows bytes input fresh e =
    let o : ℕ = length bytes in
    let before : List Event = events m bytes in
    let news : List Event = events_from m (under_from m m.start bytes) o input in
    let all : events m (bytes ++ input) ≡ before ++ news =
    events_from-append m m.start 0 bytes input
    ∙ ap (λ n. before ++ events_from m (under_from m m.start bytes) n input) (zero-add o) in
    let more : one_known m (bytes ++ input) ≡ one_known m bytes ++ map known_of (ports_news (last_groups before) news) =
    ap (λ es. map known_of (ports_so_far 1 es)) all
    ∙ (ap (map known_of) (ports_so_far-append 1 0 before news (subst (EventsRise 1 0) all
    (events-rise m 1 lows m.start 0 0 (bytes ++ input) (omega arith))))
    ∙ map-append known_of (ports_so_far 1 before) (ports_news (last_groups before) news)) in
    subst (Each (In o (length input)))
    (append_cancel_left (one_known m bytes) (map known_of (ports_news (last_groups before) news)) fresh (sym more ∙ e))
    (events-in m (under_from m m.start bytes) o (length input) o input (last_groups before) (omega arith) (omega arith))

pub fresh-in : (s : Spec) → HasNoStamps s → (bytes input : List ℕ) (fresh : List Known) →
    known s (bytes ++ input) ≡ known s bytes ++ fresh → Each (In (length bytes) (length input)) fresh
fresh-in Din n bytes input fresh e =
    let so : List Known = so_far (din_payload bytes) in
    line-in bytes input so [] fresh [] (sym (append-nil so)) (e ∙ sym (append-nil (so ++ fresh)))
fresh-in (Usb cable) n bytes input fresh e =
    one-fresh (usb (only_cable cable)) (usb_law.only_low cable) bytes input fresh
    (usb_law.only_law cable (bytes ++ input) ∙ (e ∙ ap (λ z. z ++ fresh) (sym (usb_law.only_law cable bytes))))
fresh-in (Fire port) n bytes input fresh e =
    one-fresh (fire (only_port port)) (fire_law.only_low port) bytes input fresh
    (fire_law.only_law port (bytes ++ input) ∙ (e ∙ ap (λ z. z ++ fresh) (sym (fire_law.only_law port bytes))))
fresh-in (Ble size) n bytes input fresh e = absurd n
