-- What a spec has written and knows stays, by its carrier.
use Rattle.std.proofs.Common.{◌≡◌, ℕ, ◌+◌, ◌<◌, ◌≤◌, true, List, [], ◌∷◌, ◌++◌, length, refl, sym, ◌∙◌, ap, ap₂, arith}
use Rattle.std.proofs.lemmas.List.{append-nil}
use Rattle.mb_stream.specs.Told.{Known, Told, Marks, Notes}
use Rattle.mb_stream.specs.Reading.{so_far}
use Rattle.mb_stream.specs.Order.{Each}
use Rattle.mb_din.specs.Recording.{din_payload}
use Rattle.mb_din.specs.State.{State}
use Rattle.mb_din.specs.State as din_state
use Rattle.mb_din.proofs.ReaderLaw.{new_stands}
use Rattle.mb_ports.specs.OnePort.{HoldsOne}
use Rattle.mb_ports.specs.Machine.{Machine}
use Rattle.mb_ports.proofs.ReaderLaw.{whole, start-holds}
use Rattle.mb_usb.specs.Cables.{usb, only_cable, cable_so_far}
use Rattle.mb_usb.proofs.CablesLaw as usb_law
use Rattle.mb_fire.specs.Ports.{fire, only_port, port_so_far}
use Rattle.mb_fire.proofs.PortsLaw as fire_law
use Rattle.mb_carrier.specs.Carrier.{known, puts_known, put_in}
use Rattle.mb_carrier.specs.Laws.{GrowLaws}
use Rattle.mb_carrier.specs.DinLaws as din
use Rattle.mb_carrier.specs.UsbLaws as usb_laws
use Rattle.mb_carrier.specs.FireLaws as fire_laws
use Rattle.mb_carrier.specs.BleLaws as ble_laws
use Rattle.mb_carrier.specs.declared.spec.Spec.{Spec}
use Rattle.mb_carrier.specs.declared.spec.Spec.TheVariants.{Din, Usb, Fire, Ble}
use Rattle.mb_carrier.proofs.PlaceLemmas.{StandsIn, In, line-in, one-in}

one-same : (m n : ℕ → ℕ) (count at : ℕ) (t : Told) → ((i : ℕ) → i < count → m i ≡ n i) → StandsIn 0 count at t →
    put_in (m at) t ≡ put_in (n at) t
one-same m n count at (Marks s) f h = ap (λ k. put_in k (Marks s)) (f at (omega (arith, h.1)))
one-same m n count at (Notes i kind) f h = refl

din-same : (m n : ℕ → ℕ) (count : ℕ) (ks : List Known) → ((i : ℕ) → i < count → m i ≡ n i) → Each (In 0 count) ks →
    puts_known Din m ks ≡ puts_known Din n ks
din-same m n count [] f h = refl
din-same m n count (k ∷ ks) f h = ap₂ (λ a b. a ++ b) (one-same m n count k.at k.told f h.0)
    (din-same m n count ks f h.1)

usb-same : (cable : ℕ) (m n : ℕ → ℕ) (count : ℕ) (ks : List Known) → ((i : ℕ) → i < count → m i ≡ n i) →
    Each (In 0 count) ks → puts_known (Usb cable) m ks ≡ puts_known (Usb cable) n ks
usb-same cable m n count [] f h = refl
usb-same cable m n count (k ∷ ks) f h = ap₂ (λ a b. a ++ b) (one-same m n count k.at k.told f h.0)
    (usb-same cable m n count ks f h.1)

fire-same : (port : ℕ) (m n : ℕ → ℕ) (count : ℕ) (ks : List Known) → ((i : ℕ) → i < count → m i ≡ n i) →
    Each (In 0 count) ks → puts_known (Fire port) m ks ≡ puts_known (Fire port) n ks
fire-same port m n count [] f h = refl
fire-same port m n count (k ∷ ks) f h = ap₂ (λ a b. a ++ b) (one-same m n count k.at k.told f h.0)
    (fire-same port m n count ks f h.1)

-- packets have moments of their own
ble-same : (size : ℕ) (m n : ℕ → ℕ) (ks : List Known) → puts_known (Ble size) m ks ≡ puts_known (Ble size) n ks
ble-same size m n [] = refl
ble-same size m n (k ∷ ks) = ap (λ ps. put_in k.moment k.told ++ ps) (ble-same size m n ks)

din-place : (bytes : List ℕ) → Each (In 0 (length bytes)) (so_far (din_payload bytes))
din-place bytes = line-in [] bytes [] [] (so_far (din_payload bytes)) [] refl
    (sym (append-nil (so_far (din_payload bytes))))

usb-place : (cable : ℕ) (bytes : List ℕ) → Each (In 0 (length bytes)) (cable_so_far cable bytes)
usb-place cable bytes =
    let m = usb (only_cable cable) in
    one-in m (usb_law.only_low cable) (whole 0 m.start [] (λ _. din_state.fresh)) [] bytes []
    (cable_so_far cable bytes) []
    (record {
      with_port = [];
      holds = start-holds m 1 (λ _. din_state.fresh) (omega arith)
          (λ c h. new_stands din_state.fresh refl);
      told_is = refl;
    })
    (usb_law.only_law cable bytes ∙ sym (append-nil (cable_so_far cable bytes)))

fire-place : (port : ℕ) (bytes : List ℕ) → Each (In 0 (length bytes)) (port_so_far port bytes)
fire-place port bytes =
    let m = fire (only_port port) in
    one-in m (fire_law.only_low port) (whole 0 m.start [] (λ _. din_state.fresh)) [] bytes []
    (port_so_far port bytes) []
    (record {
      with_port = [];
      holds = start-holds m 1 (λ _. din_state.fresh) (omega arith)
          (λ c h. new_stands din_state.fresh refl);
      told_is = refl;
    })
    (fire_law.only_law port bytes ∙ sym (append-nil (port_so_far port bytes)))

pub grows : (s : Spec) → GrowLaws s
grows Din = record {
  stays = λ puts more suits. din.live-stays puts more;
  closes = λ puts suits. din.live-closes puts;
  known_stays = din.known-stays;
  same = λ m n bytes f. din-same m n (length bytes) (so_far (din_payload bytes)) f (din-place bytes);
  nothing = refl;
  nothing_known = refl;
}
grows (Usb cable) = record {
  stays = usb_laws.live-stays cable;
  closes = usb_laws.live-closes cable;
  known_stays = usb_laws.known-stays cable;
  same = λ m n bytes f. usb-same cable m n (length bytes) (cable_so_far cable bytes) f (usb-place cable bytes);
  nothing = refl;
  nothing_known = refl;
}
grows (Fire port) = record {
  stays = λ puts more suits. fire_laws.live-stays port puts more;
  closes = λ puts suits. fire_laws.live-closes port puts;
  known_stays = fire_laws.known-stays port;
  same = λ m n bytes f. fire-same port m n (length bytes) (port_so_far port bytes) f (fire-place port bytes);
  nothing = refl;
  nothing_known = refl;
}
grows (Ble size) = record {
  stays = λ puts more suits. ble_laws.live-stays size puts more;
  closes = λ puts suits. ble_laws.live-closes size puts;
  known_stays = ble_laws.known-stays;
  same = λ m n bytes f. ble-same size m n (known (Ble size) bytes);
  nothing = refl;
  nothing_known = refl;
}
