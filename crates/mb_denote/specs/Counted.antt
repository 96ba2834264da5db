-- Counts of a list of marks.
--
--   with_mark c mark       the counts with one mark more
--   number_of p marks      how many marks are such
--   Counted c marks        the counts are those of the marks
use Rattle.std.specs.Prelude.{◌≡◌, ℕ, ◌+◌, Bool, true, false, if◌then◌else◌, List, [], ◌∷◌}
use Rattle.mb_message.specs.Signs.{Sign, ShortSign, RtSign, OpenSign, ByteSign, EndSign, AbortSign}
use Rattle.mb_denote.specs.declared.counts.Counts.{Counts}

-- a start and a data byte count for nothing
abbrev pub with_mark : Counts → Sign → Counts
with_mark c (ShortSign s d1 d2) = record c { msg = c.msg + 1 }
with_mark c EndSign = record c { syx = c.syx + 1 }
with_mark c AbortSign = record c { broken = c.broken + 1 }
with_mark c (RtSign b) = record c { rt = c.rt + 1 }
with_mark c OpenSign = c
with_mark c (ByteSign b) = c

abbrev pub is_short_sign : Sign → Bool
is_short_sign (ShortSign s d1 d2) = true
is_short_sign _ = false

abbrev pub is_end : Sign → Bool
is_end EndSign = true
is_end _ = false

abbrev pub is_abort : Sign → Bool
is_abort AbortSign = true
is_abort _ = false

abbrev pub is_rt : Sign → Bool
is_rt (RtSign b) = true
is_rt _ = false

abbrev pub number_of : (Sign → Bool) → List Sign → ℕ
number_of p [] = 0
number_of p (m ∷ ms) = number_of p ms + (if p m then 1 else 0)

pub record Counted (c : Counts) (marks : List Sign) : Type 0 where
  pub messages : c.msg ≡ number_of is_short_sign marks
  pub complete : c.syx ≡ number_of is_end marks
  pub broken_off : c.broken ≡ number_of is_abort marks
  pub realtimes : c.rt ≡ number_of is_rt marks
