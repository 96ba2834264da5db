-- What an outlet's writes come to.
use Rattle.std.proofs.Common.{◌≡◌, ℕ, Bool, List, [], ◌++◌, sym, ◌∙◌, ap, subst}
use Rattle.mb_message.specs.Front.{IsPart}
use Rattle.mb_stream.specs.Appended.{Appended}
use Rattle.mb_outside.specs.Contents.{Contents}
use Rattle.mb_outside.specs.Taking.{Wrote}
use Rattle.mb_outside.specs.TakingLaws.{part-behind}
use Rattle.mb_rig.specs.Outlet.{OutletGavePart}

-- a beginning of what a buffer has was written
pub gave_part : {S : Type 0} (tells : Bool) (contents : S → Contents) (read_faults : S → ℕ) (handle : ℕ)
    (empty items piece less more : List ℕ) (before after : S) → Appended empty items less more → empty ≡ [] →
    piece ≡ items →
    ((front : List ℕ) × IsPart front piece × Wrote tells contents read_faults handle before front after) →
    OutletGavePart tells contents read_faults handle less more before after
gave_part tells contents read_faults handle empty items piece less more before after appended none same part =
    let all : piece ≡ appended.wrote =
    same ∙ (appended.grown ∙ ap (λ xs. xs ++ appended.wrote) none) in
    record {
      given = part.0;
      part = subst (λ (xs : List ℕ). IsPart (less ++ part.0) xs)
          (ap (λ xs. less ++ xs) all ∙ sym appended.beyond) (part-behind less part.0 piece part.1);
      wrote = part.2;
    }
