-- What a call for the next mark leaves of a run.
--
--   Passes s was m links K play q     a mark passed, whose tag it is, at the greatest key's moment
--   PassesOn ..                       a mark passed, or the router is drained
use Rattle.std.specs.Prelude.{◌≡◌, [], ◌∷◌, ◌++◌, Option, Some, None}
use Rattle.mb_merge.specs.declared.router.Passed.{Passed}
use Rattle.mb_merge.specs.Links.{Merger}
use Rattle.mb_rig.specs.RigText.{Setup}
use Rattle.mb_rig.specs.Merging.Lines.{Key, arrival_of}
use Rattle.mb_rig.specs.Merging.Tags.{IsTag, Tag}
use Rattle.mb_rig.specs.Merging.Playing.{IsOffered, Play}
use Rattle.mb_rig.specs.Merging.Course.{Course, Links, freed}
use Rattle.mb_rig.specs.Merging.Calm.{Calm}

pub record Passes (s : Setup) (was m : Merger) (links : Links) (K : Key) (play : Play) (q : Passed) : Type 0 where
  pub tag : Tag
  pub is_tag : IsTag tag
  pub is : IsOffered (Some q) (Some tag)
  pub after : Play
  pub taken : after.taken ≡ play.taken
  pub passed : after.passed ≡ play.passed ++ record { tag = tag; moment = arrival_of K } ∷ []
  pub course : Course s m (freed links q.source) K after
  pub calm : Calm s was links K play → Calm s m (freed links q.source) K after

abbrev pub PassesOn : Setup → (was : Merger) → Links → Key → Play → Option Passed → (m : Merger) → Type 0
PassesOn s was links K play None m = Course s m links K play × (Calm s was links K play → Calm s m links K play)
PassesOn s was links K play (Some q) m = Passes s was m links K play q
