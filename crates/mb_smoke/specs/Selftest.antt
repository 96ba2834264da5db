-- The self-test of the program: bytes that it makes are converted through every carrier and back to a byte line,
-- and told of in four lines. It is the project's own.
--
--   last_written made         what is written in the end
--   written_lengths made      how many bytes each writer wrote
--   selftest_text start n     the four lines of so many units
--   ToConvert ..              a chain was fed these bytes, and a taker of sums got what it gave
use Rattle.std.specs.Prelude.{◌≡◌, ℕ, List, [], ◌∷◌, length}
use Rattle.mb_carrier.specs.Carrier.{den}
use Rattle.mb_carrier.specs.Conversion.{none_set, through}
use Rattle.mb_carrier.specs.declared.spec.Spec.{Spec}
use Rattle.mb_carrier.specs.declared.spec.Spec.TheVariants.{Din, Usb, Fire, Ble}
use Rattle.mb_chain.specs.Chain.{links_of, chain_links, ChainStands, ChainEnded}
use Rattle.mb_chain.specs.Row.{live_over}
use Rattle.mb_chain.specs.declared.chain.Chain.{Chain}
use Rattle.mb_make.specs.Generated.{generated}
use Rattle.mb_smoke.specs.SumOut.{SumStands, SumEnded, refusals_of}
use Rattle.mb_smoke.specs.Summed.{mixed, counts_of}
use Rattle.mb_smoke.specs.Texts.{lines_text}
use Rattle.mb_smoke.specs.declared.sum_out.SumOut.{SumOut}

-- `din usb:0 ble fw:0 din`
abbrev pub selftest_specs : List Spec
selftest_specs = Din ∷ Usb 0 ∷ Ble 20 ∷ Fire 0 ∷ Din ∷ []

unfoldable pub last_written : List ℕ → List ℕ
last_written made = through Din (Usb 0 ∷ Ble 20 ∷ Fire 0 ∷ []) Din made

unfoldable pub written_lengths : List ℕ → List ℕ
written_lengths made =
    length (through Din [] (Usb 0) made)
    ∷ length (through Din (Usb 0 ∷ []) (Ble 20) made)
    ∷ length (through Din (Usb 0 ∷ Ble 20 ∷ []) (Fire 0) made)
    ∷ length (last_written made)
    ∷ []

abbrev pub text_of_made : List ℕ → List ℕ
text_of_made made = lines_text (length made) (written_lengths made) (counts_of (den Din (last_written made)))
    (mixed 0 (last_written made))

unfoldable pub selftest_text : (start count : ℕ) → List ℕ
selftest_text start count = text_of_made (generated start count)

pub record ToConvert (chain : Chain) (out : SumOut) (bytes : List ℕ) : Type 0 where
  pub links : chain_links chain ≡ links_of selftest_specs
  pub stands : ChainStands chain bytes
  pub sums : SumStands out (live_over (links_of selftest_specs) none_set bytes)
  pub never : refusals_of out ≡ 0

pub record Converted (chain : Chain) (out : SumOut) (bytes : List ℕ) : Type 0 where
  pub links : chain_links chain ≡ links_of selftest_specs
  pub ended : ChainEnded chain bytes
  pub sums : SumEnded out (last_written bytes)
