-- Through any chain messages keep their distances, where neighbours are close: hops without stamps keep their moments,
-- hops of BLE-MIDI packets shift all of them alike.
use Rattle.std.proofs.Common.{◌≡◌, ℕ, true, List, [], ◌∷◌, sym, subst}
use Rattle.mb_stream.specs.Puts.{Put, signs_in}
use Rattle.mb_stream.specs.Standing.{suited, AreValid}
use Rattle.mb_ble.specs.Distances.{message_moments, AreClose, KeepDistances}
use Rattle.mb_ble.proofs.DistanceLemmas as ble
use Rattle.mb_ble.proofs.RisingLemmas.{keep-same, keep-then, close-kept}
use Rattle.mb_carrier.specs.Carrier.{puts_of, end_moment, written}
use Rattle.mb_carrier.specs.Conversion.{none_set, moments_of, carried, through}
use Rattle.mb_carrier.specs.MessageMoments.{HasNoStamps, moments_read, KeepsDistances}
use Rattle.mb_carrier.specs.Word.{IsSpec, AreSpecs}
use Rattle.mb_carrier.specs.declared.spec.Spec.{Spec}
use Rattle.mb_carrier.specs.declared.spec.Spec.TheVariants.{Din, Usb, Fire, Ble}
use Rattle.mb_carrier.proofs.ConversionLemmas.{hop-suits, hop-valid}
use Rattle.mb_carrier.proofs.HopMoments.{hop-moments}
use Rattle.mb_carrier.proofs.RisingHops.{Rising, ble-read, read-rising, moments-rise, none-rise}

abbrev handed_on : Spec → ℕ → List Put → List Put
handed_on s end puts = puts_of s (moments_of s end puts) (written s puts)

same-moments : (s : Spec) → HasNoStamps s → IsSpec s → (end : ℕ) (puts : List Put) → suited (signs_in puts) ≡ true →
    AreValid (signs_in puts) →
    KeepDistances (message_moments puts) (message_moments (handed_on s end puts))
same-moments s n is end puts suits valid =
    subst (λ z. KeepDistances (message_moments puts) z) (sym (hop-moments s n is end puts suits valid))
    (keep-same (message_moments puts))

-- one hop
hop-keeps : (s : Spec) → IsSpec s → (end : ℕ) (puts : List Put) → suited (signs_in puts) ≡ true →
    AreValid (signs_in puts) → Rising puts end →
    AreClose (message_moments puts) → KeepDistances (message_moments puts) (message_moments (handed_on s end puts))
hop-keeps Din is end puts suits valid r close = same-moments Din tt is end puts suits valid
hop-keeps (Usb cable) is end puts suits valid r close = same-moments (Usb cable) tt is end puts suits valid
hop-keeps (Fire port) is end puts suits valid r close = same-moments (Fire port) tt is end puts suits valid
hop-keeps (Ble size) is end puts suits valid r close =
    subst (λ z. KeepDistances (message_moments puts) (message_moments z))
    (sym (ble-read size (moments_of (Ble size) end puts) (written (Ble size) puts)))
    (ble.distances size puts suits valid r.rises close)

-- all hops, and packets at last
carried-keeps : (specs : List Spec) (size end : ℕ) (puts : List Put) → AreSpecs specs → suited (signs_in puts) ≡ true →
    AreValid (signs_in puts) → Rising puts end →
    AreClose (message_moments puts) →
    KeepDistances (message_moments puts) (moments_read (Ble size) (written (Ble size) (carried specs end puts)))
carried-keeps [] size end puts are suits valid r close =
    subst (λ z. KeepDistances (message_moments puts) (message_moments z))
    (sym (ble-read size none_set (written (Ble size) puts)))
    (ble.distances size puts suits valid r.rises close)
carried-keeps (s ∷ specs) size end puts are suits valid r close =
    let m : ℕ → ℕ = moments_of s end puts in
    let bytes : List ℕ = written s puts in
    let next : List Put = puts_of s m bytes in
    let h : KeepDistances (message_moments puts) (message_moments next) =
    hop-keeps s are.0 end puts suits valid r close in
    keep-then (message_moments puts) (message_moments next)
    (moments_read (Ble size) (written (Ble size) (carried (s ∷ specs) end puts))) h
    (carried-keeps specs size (end_moment s m bytes) next are.1 (hop-suits s m bytes) (hop-valid s m bytes)
    (read-rising s m (moments-rise s end puts r) bytes)
    (close-kept (message_moments puts) (message_moments next) h close))

packets-keep : (first : Spec) (between : List Spec) (size : ℕ) (bytes : List ℕ) → AreSpecs between →
    AreClose (moments_read first bytes) →
    KeepDistances (moments_read first bytes) (moments_read (Ble size) (through first between (Ble size) bytes))
packets-keep first between size bytes are close =
    carried-keeps between size (end_moment first none_set bytes) (puts_of first none_set bytes) are
    (hop-suits first none_set bytes) (hop-valid first none_set bytes) (read-rising first none_set none-rise bytes) close

pub through-keeps : (first : Spec) (between : List Spec) (last : Spec) (bytes : List ℕ) → AreSpecs between →
    KeepsDistances first last bytes (through first between last bytes)
through-keeps first between Din bytes are = λ none. absurd none
through-keeps first between (Usb cable) bytes are = λ none. absurd none
through-keeps first between (Fire port) bytes are = λ none. absurd none
through-keeps first between (Ble size) bytes are = λ stamps close. packets-keep first between size bytes are close
