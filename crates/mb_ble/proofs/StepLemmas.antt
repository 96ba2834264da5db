-- What a position tells, with the moment that a reader puts to it.
use Rattle.std.proofs.Common.{◌≡◌, ℕ, List, Option, Some, None, map, sym, ap, ◌∙◌, subst, IfNone}
use Rattle.mb_message.specs.declared.event.Seen.{Seen}
use Rattle.mb_stream.specs.ReaderLaw.{Tells}
use Rattle.mb_stream.specs.Reading.{Part, part_of, part_at}
use Rattle.mb_stream.specs.Told.{Told}
use Rattle.mb_ble.specs.Reading.{ble_known}
use Rattle.mb_ble.specs.State.{ble_moment}
use Rattle.mb_ble.specs.Stands.{BleStands, BleTells, BleAllTold, at_moment, seen_of}
use Rattle.mb_ble.specs.declared.position.Position.{Position}
use Rattle.mb_ble.specs.declared.step.BleStep.{BleStep}

pub tells-step_of : (inside was now : Position) (input left : List ℕ) (ts : List Told) (moment : ℕ)
    (answer : List Part) →
    inside ≡ was → BleTells inside now input left (at_moment now ts) → moment ≡ ble_moment now →
    answer ≡ map (part_at moment) ts →
    Tells part_of ble_known (BleStands was) (BleStands now) input left answer
tells-step_of inside was now input left ts moment answer view tells at is =
    let timed : at_moment now ts ≡ answer = sym (is ∙ ap (λ m. map (part_at m) ts) at) in
    let told : BleTells was now input left answer =
    subst (λ z. BleTells z now input left answer) view (subst (λ z. BleTells inside now input left z) timed tells) in
    told.goes

pub all_told-step_of : (inside was : Position) (input : List ℕ) (step : Option BleStep) (seen : Option Seen) →
    inside ≡ was → seen_of step ≡ seen → IfNone seen (BleAllTold inside input) → IfNone step (BleAllTold was input)
all_told-step_of inside was input (Some s) seen view same h = tt
all_told-step_of inside was input None seen view same h =
    subst (λ z. BleAllTold z input) view (subst (λ z. IfNone z (BleAllTold inside input)) (sym same) h)
