-- Any chain of carriers, by the record of their laws alone.
use Rattle.std.proofs.Common.{◌≡◌, ℕ, ◌+◌, ◌*◌, ◌≤◌, true, List, [], ◌∷◌, length, refl, sym, ◌∙◌, ap, subst, arith}
use Rattle.mb_stream.specs.Puts.{Put, signs_in}
use Rattle.mb_stream.specs.Denotation.{denotation}
use Rattle.mb_stream.specs.Standing.{suited, AreValid}
use Rattle.mb_carrier.specs.Carrier.{marks_of, puts_of, end_moment, notes_of, den, whole, written}
use Rattle.mb_carrier.specs.Conversion.{moments_of, none_set, carried, through}
use Rattle.mb_carrier.specs.Laws.{CarrierLaws}
use Rattle.mb_carrier.specs.declared.spec.Spec.{Spec}
use Rattle.mb_carrier.proofs.PutLemmas.{puts_of-in}
use Rattle.mb_carrier.specs.DinLaws as din_laws
use Rattle.mb_carrier.specs.UsbLaws as usb_laws
use Rattle.mb_carrier.specs.FireLaws as fire_laws
use Rattle.mb_carrier.specs.BleLaws as ble_laws
use Rattle.mb_carrier.specs.Word.{IsSpec, AreSpecs}
use Rattle.mb_carrier.specs.declared.spec.Spec.TheVariants.{Din, Usb, Fire, Ble}
use Rattle.mb_din.proofs.DinMarks as din
use Rattle.mb_din.proofs.WrittenMarks as din_law
use Rattle.mb_din.specs.Written.{din_written}
use Rattle.mb_usb.proofs.CarrierLaws as usb
use Rattle.mb_fire.proofs.CarrierLaws as fire
use Rattle.mb_ble.proofs.BleMarks as ble
use Rattle.mb_ble.proofs.WrittenLaws.{written-size, written-whole}
use Rattle.mb_ble.proofs.WrittenPackets as ble_written

pub laws : (s : Spec) → CarrierLaws s
laws Din =
    record {
      suits = din.suits;
      valid = din.valid;
      few = din.two_a_byte;
      means = λ is puts. din_law.means (signs_in puts);
      one_more = λ is puts. din_law.one_more (signs_in puts);
      size = λ is puts suits. omega (arith, din_law.size (signs_in puts));
      clean = λ is puts. din_law.clean (signs_in puts);
      whole_packets = λ puts suits. refl;
      ends = din_laws.marks-end;
    }
laws (Usb cable) =
    record {
      suits = usb.suits cable;
      valid = usb.valid cable;
      few = usb.few cable;
      means = λ is puts. usb.means cable (signs_in puts);
      one_more = λ is puts. usb.one_more cable (signs_in puts);
      size = λ is puts suits. omega (arith, usb.size cable (signs_in puts) suits);
      clean = λ is puts. usb.clean cable (signs_in puts);
      whole_packets = λ puts. usb.whole cable (signs_in puts);
      ends = usb_laws.marks-end cable;
    }
laws (Fire port) =
    record {
      suits = fire.suits port;
      valid = fire.valid port;
      few = fire.few port;
      means = λ is puts. fire.means port (signs_in puts) is;
      one_more = λ is puts. fire.one_more port (signs_in puts) is;
      size = λ is puts suits. omega (arith, fire.size port (signs_in puts) is);
      clean = λ is puts. fire.clean port (signs_in puts) is;
      whole_packets = λ puts suits. fire.whole port (signs_in puts);
      ends = fire_laws.marks-end port;
    }
laws (Ble size) =
    record {
      suits = ble.suits;
      valid = ble.valid;
      few = ble.few;
      means = λ is. ble_written.means size;
      one_more = λ is. ble_written.one_more size;
      size = λ is puts suits. omega (arith, written-size size puts);
      clean = λ is. ble_written.clean size;
      whole_packets = λ puts suits. written-whole size puts;
      ends = ble_laws.marks-end;
    }

-- what a hop hands on has the marks that it read
pub hop-in : (s : Spec) (moments : ℕ → ℕ) (bytes : List ℕ) → signs_in (puts_of s moments bytes) ≡ marks_of s bytes
hop-in s moments bytes = puts_of-in s moments bytes ((laws s).ends bytes)

pub hop-suits : (s : Spec) (moments : ℕ → ℕ) (bytes : List ℕ) → suited (signs_in (puts_of s moments bytes)) ≡ true
hop-suits s moments bytes = ap suited (hop-in s moments bytes) ∙ (laws s).suits bytes

pub hop-valid : (s : Spec) (moments : ℕ → ℕ) (bytes : List ℕ) → AreValid (signs_in (puts_of s moments bytes))
hop-valid s moments bytes = subst AreValid (sym (hop-in s moments bytes)) ((laws s).valid bytes)

carried-suits : (specs : List Spec) (end : ℕ) (puts : List Put) → suited (signs_in puts) ≡ true →
    suited (signs_in (carried specs end puts)) ≡ true
carried-suits [] end puts suits = suits
carried-suits (s ∷ specs) end puts suits =
    let m : ℕ → ℕ = moments_of s end puts in
    carried-suits specs (end_moment s m (written s puts)) (puts_of s m (written s puts))
    (hop-suits s m (written s puts))

carried-valid : (specs : List Spec) (end : ℕ) (puts : List Put) → AreValid (signs_in puts) →
    AreValid (signs_in (carried specs end puts))
carried-valid [] end puts valid = valid
carried-valid (s ∷ specs) end puts valid =
    let m : ℕ → ℕ = moments_of s end puts in
    carried-valid specs (end_moment s m (written s puts)) (puts_of s m (written s puts))
    (hop-valid s m (written s puts))

carried-means : (specs : List Spec) (end : ℕ) (puts : List Put) → AreSpecs specs → suited (signs_in puts) ≡ true →
    AreValid (signs_in puts) →
    denotation (signs_in (carried specs end puts)) ≡ denotation (signs_in puts)
carried-means [] end puts are suits valid = refl
carried-means (s ∷ specs) end puts are suits valid =
    let m : ℕ → ℕ = moments_of s end puts in
    carried-means specs (end_moment s m (written s puts)) (puts_of s m (written s puts)) are.1
    (hop-suits s m (written s puts)) (hop-valid s m (written s puts))
    ∙ (ap denotation (hop-in s m (written s puts)) ∙ (laws s).means are.0 puts suits valid)

carried-length : (specs : List Spec) (end : ℕ) (puts : List Put) → AreSpecs specs → suited (signs_in puts) ≡ true →
    AreValid (signs_in puts) →
    length (signs_in (carried specs end puts)) ≤ length (signs_in puts) + length specs
carried-length [] end puts are suits valid = omega arith
carried-length (s ∷ specs) end puts are suits valid =
    let m : ℕ → ℕ = moments_of s end puts in
    omega (
      arith,
      carried-length specs (end_moment s m (written s puts)) (puts_of s m (written s puts)) are.1
          (hop-suits s m (written s puts)) (hop-valid s m (written s puts)),
      ap length (hop-in s m (written s puts)),
      (laws s).one_more are.0 puts suits valid,
    )

abbrev read_first : Spec → List ℕ → List Put
read_first first bytes = puts_of first none_set bytes

abbrev first_end : Spec → List ℕ → ℕ
first_end first bytes = end_moment first none_set bytes

-- what is written denotes on its port what the bytes read denote on theirs
pub through-means : (first : Spec) (between : List Spec) (last : Spec) (bytes : List ℕ) → AreSpecs between →
    IsSpec last → den last (through first between last bytes) ≡ den first bytes
through-means first between last bytes are is =
    let suits = hop-suits first none_set bytes in
    let valid = hop-valid first none_set bytes in
    let end = first_end first bytes in
    (laws last).means is (carried between end (read_first first bytes))
    (carried-suits between end (read_first first bytes) suits)
    (carried-valid between end (read_first first bytes) valid)
    ∙ (carried-means between end (read_first first bytes) are suits valid ∙ ap denotation (hop-in first none_set bytes))

pub through-clean : (first : Spec) (between : List Spec) (last : Spec) (bytes : List ℕ) → IsSpec last →
    notes_of last (through first between last bytes) ≡ []
through-clean first between last bytes is =
    (laws last).clean is (carried between (first_end first bytes) (read_first first bytes))
    (carried-suits between (first_end first bytes) (read_first first bytes) (hop-suits first none_set bytes))
    (carried-valid between (first_end first bytes) (read_first first bytes) (hop-valid first none_set bytes))

-- what is written as a byte line is read and written again as it is
pub through-canonical : (first : Spec) (between : List Spec) (bytes : List ℕ) →
    through Din [] Din (through first between Din bytes) ≡ through first between Din bytes
through-canonical first between bytes =
    let handed : List Put = carried between (first_end first bytes) (read_first first bytes) in
    ap din_written (hop-in Din none_set (din_written (signs_in handed)))
    ∙ din_law.canonical (signs_in handed)
    (carried-suits between (first_end first bytes) (read_first first bytes) (hop-suits first none_set bytes))
    (carried-valid between (first_end first bytes) (read_first first bytes) (hop-valid first none_set bytes))

pub through-whole : (first : Spec) (between : List Spec) (last : Spec) (bytes : List ℕ) →
    whole last (through first between last bytes) ≡ true
through-whole first between last bytes =
    (laws last).whole_packets (carried between (first_end first bytes) (read_first first bytes))
    (carried-suits between (first_end first bytes) (read_first first bytes) (hop-suits first none_set bytes))

pub through-size : (first : Spec) (between : List Spec) (last : Spec) (bytes : List ℕ) → AreSpecs between →
    IsSpec last →
    length (through first between last bytes) ≤ 1024 * (length (marks_of first bytes) + length between) + 1024
through-size first between last bytes are is =
    let suits = hop-suits first none_set bytes in
    let valid = hop-valid first none_set bytes in
    let end = first_end first bytes in
    omega (
      arith,
      (laws last).size is (carried between end (read_first first bytes))
          (carried-suits between end (read_first first bytes) suits),
      carried-length between end (read_first first bytes) are suits valid,
      ap length (hop-in first none_set bytes),
    )

pub through-bounded : (first : Spec) (between : List Spec) (last : Spec) (bytes : List ℕ) → AreSpecs between →
    IsSpec last → length (through first between last bytes) ≤ 1024 * (2 * length bytes + length between) + 1024
through-bounded first between last bytes are is =
    omega (arith, through-size first between last bytes are is, (laws first).few bytes)
