-- Guarding on its way.
--
--   guarding_spec g            the port's spec
--   guarding_cut g             tape or recording stop inside something
--   GuardingStands g bytes     it was fed these bytes, and handed on all that is known of them
--   Rewrote ..                 a piece went through, up to a fault if it has one
--   RewroteEnd ..              the end, or what is owed where it was stopped
--   RewriteHalted ..           a front of what was to be written was
use Rattle.std.specs.Prelude.{◌≡◌, ℕ, Bool, List, ◌++◌, map, Option}
use Rattle.mb_message.specs.Front.{IsPart}
use Rattle.mb_message.specs.Signs.{Sign}
use Rattle.mb_stream.specs.Puts.{Put, puts_at, signs_in}
use Rattle.mb_frames.specs.Tapes.{tape_fault}
use Rattle.mb_frames.specs.declared.tape.TapeFault.{TapeFault}
use Rattle.mb_guard.specs.Guard.{Stands}
use Rattle.mb_guard.specs.Sounding.{off_sign}
use Rattle.mb_track.specs.Track.{track_end}
use Rattle.mb_track.specs.TrackReading.{track_cut, track_moment, track_spec}
use Rattle.mb_carrier.specs.declared.spec.Spec.{Spec}
use Rattle.mb_rewrite.specs.Line.{LineHalted, LineWrote}
use Rattle.mb_rewrite.specs.Rewriting.{HasTold, Rewriting}
use Rattle.mb_rewrite.specs.declared.guarding.Guarding.{Guarding}

abbrev pub guarding_spec : Guarding → Spec
guarding_spec g = track_spec g.track

abbrev pub guarding_cut : Guarding → Bool
guarding_cut g = track_cut g.track

abbrev pub GuardingStands : (g : Guarding) (bytes : List ℕ) → Type 0
GuardingStands g bytes = Rewriting (λ puts. puts) (Stands g.guard) g.track g.line bytes

-- `live` is what was handed on of the bytes so far
pub record Rewrote (was now : List ℕ → Type 0) (live : List ℕ → List ℕ) (piece : List ℕ) (fault : Option TapeFault)
    (took : List ℕ → Type 0) : Type 0 where
  pub given : List ℕ
  pub took_it : took given
  pub stands : (bytes : List ℕ) → was bytes → now (bytes ++ piece)
  pub beyond : (bytes : List ℕ) → was bytes → live (bytes ++ piece) ≡ live bytes ++ given
  pub fault_is : (bytes : List ℕ) → was bytes → tape_fault (bytes ++ piece) ≡ fault

-- `all` is what is written in the end
pub record RewroteEnd (was : List ℕ → Type 0) (live all : List ℕ → List ℕ) (took : List ℕ → Type 0) : Type 0 where
  pub given : List ℕ
  pub took_it : took given
  pub beyond : (bytes : List ℕ) → was bytes → all bytes ≡ live bytes ++ given

pub record RewriteHalted (was : List ℕ → Type 0) (live all : List ℕ → List ℕ) (took : List ℕ → Type 0) : Type 0 where
  pub given : List ℕ
  pub took_it : took given
  pub part : (bytes : List ℕ) → was bytes → IsPart (live bytes ++ given) (all bytes)

-- for the steps of the end

abbrev pub GuardHasTold : (g : Guarding) (bytes : List ℕ) → Type 0
GuardHasTold g bytes = HasTold (λ puts. puts) (Stands g.guard) g.track g.line bytes

-- `more` is what only the end of the recording makes known
pub record EndHeard (was now : Guarding) (held kept : List ℕ) (took : List ℕ → Type 0) : Type 0 where
  pub more : List Put
  pub wrote : LineWrote was.line now.line more held kept took
  pub sounds : (marks : List Sign) → Stands was.guard marks → Stands now.guard (marks ++ signs_in more)
  pub is_end : (bytes : List ℕ) → GuardHasTold was bytes → more ≡ track_end (track_spec was.track) 0 bytes

pub record EndHalted (was : Guarding) (held : List ℕ) (took : List ℕ → Type 0) : Type 0 where
  pub more : List Put
  pub halted : LineHalted was.line more held took
  pub is_end : (bytes : List ℕ) → GuardHasTold was bytes → more ≡ track_end (track_spec was.track) 0 bytes

abbrev pub off_puts : Guarding → List Put
off_puts g = puts_at (track_moment g.track) (map off_sign g.guard)
