-- What the front of a list of marks means, beside what all of it means (MIDI 1.0 Detailed Specification 4.2, "System
-- Exclusive Messages"): the items begin those of all, but that a SysEx that is open yet is a broken one.
--
--   StartsWith data item         the item is a SysEx whose data begin so
--   IsOpenYet front rest         nothing stands behind the items that both have, or the SysEx that is open yet
--   IsMeaningFront front whole   the one means what a front of the other's marks means
use Rattle.std.specs.Prelude.{◌≡◌, ℕ, List, [], ◌∷◌, ◌++◌}
use Rattle.mb_message.specs.Front.{IsFront}
use Rattle.mb_stream.specs.Denotation.{Meant, Message, Syx, Broken, Denotation}

abbrev pub StartsWith : (data_bytes : List ℕ) → Meant → Type 0
StartsWith ds (Message s a b) = ⊥
StartsWith ds (Syx es) = IsFront ds es
StartsWith ds (Broken es) = IsFront ds es

abbrev pub IsOpenYet : (front rest : List Meant) → Type 0
IsOpenYet [] rest = Unit {0}
IsOpenYet (Broken ds ∷ []) (x ∷ rest) = StartsWith ds x
IsOpenYet _ _ = ⊥

pub record IsMeaningFront (front whole : Denotation) : Type 0 where
  pub both : List Meant
  pub open_yet : List Meant
  pub rest : List Meant
  pub front_is : front.items ≡ both ++ open_yet
  pub whole_is : whole.items ≡ both ++ rest
  pub begins : IsOpenYet open_yet rest
  pub realtimes : IsFront front.realtimes whole.realtimes
