-- A tape in the second form has the same records; and a fault of a tape stays.
use Rattle.std.proofs.Common.{◌≡◌, ℕ, ◌==◌, Bool, if◌then◌else◌, true, false, List, [], ◌∷◌, ◌++◌, length, refl}
use Rattle.std.proofs.Common.{sym, ◌∙◌, ap, subst}
use Rattle.std.specs.Prelude.{Option, Some, None}
use Rattle.mb_message.specs.Front.{IsFront}
use Rattle.mb_frames.specs.Frames.{AreBytes}
use Rattle.mb_frames.specs.Migrated.{tape2}
use Rattle.mb_frames.specs.Tapes.{Faulty, TapeEnd, Whole, Inside, fault_in, is_whole, tape_fault, tape_parts, tape_read}
use Rattle.mb_frames.specs.Tapes.{tape_whole}
use Rattle.mb_frames.specs.TapeSteps.{TapeState, after, ending_at, ending_by, fresh}
use Rattle.mb_frames.specs.declared.tape.TapeFault.{TapeFault}
use Rattle.mb_frames.specs.declared.tape.Place.{Place}
use Rattle.mb_frames.specs.declared.tape.Place.TheVariants as place
use Rattle.mb_frames.proofs.MigrateLemmas.{told-again}
use Rattle.mb_frames.proofs.MigratingLemmas.{after-split, fault-all}
use Rattle.mb_top.specs.Output.{in_tape}
use Rattle.mb_top.specs.declared.fault.Fault.{Fault}

wrong : true ≡ false → ⊥
wrong e = cc

pub same-records : (read written : List ℕ) → written ≡ tape2 read → AreBytes read → tape_parts written ≡ tape_parts read
same-records read written e bytes = ap tape_parts e ∙ told-again read bytes

-- a fault of a tape stays its fault, whatever follows

faulty : (f : TapeFault) (t : TapeState) → fault_in (ending_at t) ≡ Some f → t.place ≡ place.Broken f
faulty f t e = by_place t.place e
  where
    by_end : (b : Bool) → fault_in (if b then Whole else Inside) ≡ Some f → ⊥
    by_end true e = cc
    by_end false e = cc

    by_place : (p : Place) → fault_in (ending_by p (length t.head)) ≡ Some f → p ≡ place.Broken f
    by_place place.Magic e = cc
    by_place place.Header e = absurd (by_end (length t.head == 0) e)
    by_place (place.Within left) e = absurd (by_end (left == 0) e)
    by_place (place.Broken g) e = cc

stays-broken : (f : TapeFault) (t : TapeState) (more : List ℕ) →
    after (record t { place = place.Broken f }) more ≡ record t { place = place.Broken f }
stays-broken f t [] = refl
stays-broken f t (b ∷ bs) = stays-broken f t bs

fault-stays : (bytes more : List ℕ) (f : TapeFault) → tape_fault bytes ≡ Some f → tape_fault (bytes ++ more) ≡ Some f
fault-stays bytes more f e =
    let t = after fresh bytes in
    let broken : t.place ≡ place.Broken f = faulty f t (sym (fault-all bytes) ∙ e) in
    let stays : after t more ≡ t
    = subst (λ (p : Place). after (record t { place = p }) more ≡ record t { place = p }) (sym broken)
    (stays-broken f t more) in
    fault-all (bytes ++ more)
    ∙ (ap (λ (z : TapeState). fault_in (ending_at z)) (after-split fresh bytes more ∙ stays)
    ∙ (sym (fault-all bytes) ∙ e))

whole-sound : (e : TapeEnd) (f : TapeFault) → is_whole e ≡ true → fault_in e ≡ Some f → ⊥
whole-sound Whole f is some = cc
whole-sound Inside f is some = cc
whole-sound (Faulty g) f is some = wrong (sym is)

pub whole-no_fault : (left input : List ℕ) (f : TapeFault) → tape_whole left ≡ true → IsFront input left →
    tape_fault input ≡ Some f → ⊥
whole-no_fault left input f is front some =
    whole-sound (tape_read left).ending f is
    (ap (λ (bytes : List ℕ). tape_fault bytes) front.1 ∙ fault-stays input front.0 f some)

-- so a command that reads a whole tape meets none
pub whole-sound_tape : (left input : List ℕ) (f : Fault) → tape_whole left ≡ true → IsFront input left →
    in_tape (tape_fault input) ≡ Some f → ⊥
whole-sound_tape left input f is front told = by (tape_fault input) refl told
  where
    by : (g : Option TapeFault) → tape_fault input ≡ g → in_tape g ≡ Some f → ⊥
    by None e some = cc
    by (Some g) e some = whole-no_fault left input g is front e
