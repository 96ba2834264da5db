-- Lemmas on what is made: one data byte more, and how long a unit is.
use Rattle.std.proofs.Common.{◌≡◌, ℕ, zero, suc, ◌-◌, ◌*◌, ◌<◌, ◌≤◌, Bool, true, false, if◌then◌else◌, List, []}
use Rattle.std.proofs.Common.{◌∷◌, ◌++◌, length, Option, Some, None, refl, ap, ◌∙◌, arith}
use Rattle.std.proofs.Common.{append_assoc, length-append}
use Rattle.std.proofs.Common.{◌==◌, nat_lt, ◌%◌}
use Rattle.std.proofs.lemmas.Bool.Decides.{nat_tests}
use Rattle.mb_make.specs.Generated.{next_state, drawn, data_bytes, state_after, data_count, Made, made_by, next_unit}
use Rattle.mb_make.specs.Generated.{units_from, generated, run_on, channel_unit, common_unit}
use Rattle.mb_make.specs.Generated.{whole_sysex, broken_sysex}

-- one data byte was put, and a number fewer is to come
pub data_put : (items now : List ℕ) (n x byte state : ℕ) → 0 < n → now ≡ items ++ byte ∷ [] → byte ≡ drawn 128 x →
    state ≡ next_state x → now ++ data_bytes (n - 1) state ≡ items ++ data_bytes n x
data_put items now zero x byte state some now_is byte_is state_is = absurd (omega arith)
data_put items now (suc n) x byte state some now_is byte_is state_is =
    let e : suc n - 1 ≡ n = omega arith in
    ap (λ m. now ++ data_bytes m state) e ∙ (ap (λ s. now ++ data_bytes n s) state_is
    ∙ (ap (λ xs. xs ++ data_bytes n (next_state x)) now_is
    ∙ (append_assoc items (byte ∷ []) (data_bytes n (next_state x))
    ∙ ap (λ b. items ++ b ∷ data_bytes n (next_state x)) byte_is)))

pub state_put : (n x state : ℕ) → 0 < n → state ≡ next_state x → state_after (n - 1) state ≡ state_after n x
state_put zero x state some state_is = absurd (omega arith)
state_put (suc n) x state some state_is =
    let e : suc n - 1 ≡ n = omega arith in
    ap (λ m. state_after m state) e ∙ ap (λ s. state_after n s) state_is

pub units_step : (n : ℕ) (running : Option ℕ) (x : ℕ) → 0 < n → units_from n running x ≡ (next_unit running x).bytes
    ++ units_from (n - 1) (next_unit running x).running (next_unit running x).state
units_step zero running x some = absurd (omega arith)
units_step (suc n) running x some =
    let e : n ≡ suc n - 1 = omega arith in
    ap (λ m. (next_unit running x).bytes ++ units_from m (next_unit running x).running (next_unit running x).state) e

length-data_bytes : (n x : ℕ) → length (data_bytes n x) ≡ n
length-data_bytes zero x = refl
length-data_bytes (suc n) x = ap suc (length-data_bytes n (next_state x))

data_count-few : (status : ℕ) → data_count status ≤ 2
data_count-few status = grind (arith, nat_tests)

abbrev IsShort : Made → Type 0
IsShort u = length u.bytes ≤ 66

either-short : (b : Bool) (u v : Made) → IsShort u → IsShort v → IsShort (if b then u else v)
either-short true u v p q = p
either-short false u v p q = q

channel-short : (x : ℕ) → IsShort (channel_unit x)
channel-short x = omega (arith, length-data_bytes, data_count-few)

run_on-short : (running : Option ℕ) (x : ℕ) → IsShort (run_on running x)
run_on-short None x = channel-short x
run_on-short (Some status) x = omega (arith, length-data_bytes, data_count-few)

common-short : (x : ℕ) → IsShort (common_unit x)
common-short x = omega (arith, length-data_bytes, data_count-few)

clock-short : (b : Bool) → length {A = ℕ} (if b then 0xf8 ∷ [] else []) ≤ 1
clock-short true = omega arith
clock-short false = omega arith

whole-short : (count x : ℕ) → count < 64 → IsShort (whole_sysex count x)
whole-short count x few = omega (arith, length-data_bytes, length-append {A = ℕ}, clock-short (count % 2 == 1))

broken-short : (count x : ℕ) → count < 64 → IsShort (broken_sysex count x)
broken-short count x few = omega (arith, length-data_bytes)

made-short : (kind : ℕ) (running : Option ℕ) (x : ℕ) → IsShort (made_by kind running x)
unfolding made_by
made-short kind running x =
    either-short (nat_lt kind 8) _ _ (channel-short x) (either-short (nat_lt kind 10) _ _ (run_on-short running x)
    (either-short (nat_lt kind 12) _ _ (omega arith) (either-short (kind == 12) _ _ (common-short x)
    (either-short (nat_lt kind 15) _ _ (whole-short (drawn 64 x) (next_state x) (omega arith))
    (broken-short (drawn 64 x) (next_state x) (omega arith))))))

units-short : (n : ℕ) (running : Option ℕ) (x : ℕ) → length (units_from n running x) ≤ 66 * n
units-short zero running x = omega arith
units-short (suc n) running x =
    omega (
      arith,
      length-append (next_unit running x).bytes (units_from n (next_unit running x).running
          (next_unit running x).state),
      made-short (drawn 16 x) running (next_state x),
      units-short n (next_unit running x).running (next_unit running x).state,
    )

pub generated-short : (start count : ℕ) → length (generated start count) ≤ 66 * count
unfolding generated
generated-short start count = units-short count None start
