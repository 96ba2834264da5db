-- What bytes give from one state to another, whatever follows.
use Rattle.std.proofs.Common.{◌≡◌, ℕ, List, [], ◌∷◌, ◌++◌, Option, refl, ◌∙◌, ap, subst}
use Rattle.std.proofs.Common.{append_assoc}
use Rattle.mb_frames.specs.Gathered.{TimedByte}
use Rattle.mb_smf.specs.TrackTime.{TrackTime}
use Rattle.mb_smf.specs.declared.file_place.FilePlace.{FilePlace}
use Rattle.mb_smf.specs.declared.file_state.FileState.{FileState}
use Rattle.mb_smf.specs.FileStep.{FileStep}
use Rattle.mb_smf.specs.Smf.{behind_given, file_behind, file_step, given_now, smf_from}
use Rattle.mb_smf.proofs.TakesLemmas.{behind-twice, file-append}

abbrev pub state_at : (o : ℕ) (p : FilePlace) (n l e : ℕ) (r : Option ℕ) (t : TrackTime) → FileState
state_at o p n l e r t = record { offset = o; place = p; number = n; left = l; event = e; running = r; clock = t }

pub record Passes (s : FileState) (bytes : List ℕ) (given : List TimedByte) (now : FileState) : Type 0 where
  pub reads : (more : List ℕ) → smf_from s (bytes ++ more) ≡ behind_given given (smf_from now more)
  pub state : file_behind s bytes ≡ now

pub passes-none : (s : FileState) → Passes s [] [] s
passes-none s = record { reads = λ more. refl; state = refl }

pub passes-step : (s : FileState) (b : ℕ) (step : FileStep) → file_step s b ≡ step →
    Passes s (b ∷ []) (given_now step) step.now
passes-step s b step is = record {
  reads = λ more. ap (λ z. behind_given (given_now z) (smf_from z.now more)) is;
  state = ap (λ (z : FileStep). z.now) is;
}

pub passes-both : (a b c : FileState) (xs ys : List ℕ) (g h : List TimedByte) → Passes a xs g b → Passes b ys h c →
    Passes a (xs ++ ys) (g ++ h) c
passes-both a b c xs ys g h first second = record {
  reads = λ more.
      ap (smf_from a) (append_assoc xs ys more)
      ∙ (first.reads (ys ++ more)
      ∙ (ap (behind_given g) (second.reads more) ∙ behind-twice g h (smf_from c more)));
  state = file-append a xs ys ∙ (ap (λ s. file_behind s ys) first.state ∙ second.state);
}

-- the same in other words
pub passes-as : (a b c : FileState) (xs ys : List ℕ) (g h : List TimedByte) → xs ≡ ys → g ≡ h → b ≡ c →
    Passes a xs g b → Passes a ys h c
passes-as a b c xs ys g h xs_are g_is b_is p =
    subst (λ (z : List ℕ). Passes a z h c) xs_are
    (subst (λ (z : List TimedByte). Passes a xs z c) g_is (subst (Passes a xs g) b_is p))
