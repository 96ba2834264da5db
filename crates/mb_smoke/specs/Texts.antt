-- The four lines of a self-test: the project's own.
--
--   made_text n           `made N`: how many bytes were made
--   written_text ns       `written N N N N`: how many bytes the writers of the specs behind the first wrote
--   items_text counts     `items MSG SYX BROKEN RT`: what the last of them mean
--   mix_text mix          `mix HHHHHHHH`: what mixes them, in lower-case hexadecimal
--   lines_text ..         all four
use Rattle.std.specs.Prelude.{ℕ, zero, suc, ◌+◌, ◌-◌, ◌/◌, ◌%◌, nat_lt, if◌then◌else◌, List, [], ◌∷◌, ◌++◌, flat_map}
use Rattle.std.specs.Prelude.{codes}
use Rattle.std.specs.Prelude.{decimal}
use Rattle.mb_denote.specs.declared.counts.Counts.{Counts}

abbrev pub spaced_number : ℕ → List ℕ
spaced_number n = codes " " ++ decimal n

abbrev pub numbers_text : (word : List ℕ) → List ℕ → List ℕ
numbers_text word ns = word ++ flat_map spaced_number ns ++ codes "\n"

abbrev pub made_text : ℕ → List ℕ
made_text n = numbers_text (codes "made") (n ∷ [])

abbrev pub written_text : List ℕ → List ℕ
written_text ns = numbers_text (codes "written") ns

abbrev pub items_text : Counts → List ℕ
items_text c = numbers_text (codes "items") (c.msg ∷ c.syx ∷ c.broken ∷ c.rt ∷ [])

-- 48 is `0`, 97 is `a`.
abbrev pub lower_digit : ℕ → ℕ
lower_digit d = if nat_lt d 10 then 48 + d else 97 + (d - 10)

-- the last so many digits
unfoldable pub hexadecimal : (digits : ℕ) → ℕ → List ℕ
hexadecimal zero n = []
hexadecimal (suc digits) n = hexadecimal digits (n / 16) ++ lower_digit (n % 16) ∷ []

abbrev pub mix_text : ℕ → List ℕ
mix_text mix = codes "mix " ++ hexadecimal 8 mix ++ codes "\n"

abbrev pub lines_text : (made : ℕ) (written : List ℕ) → Counts → (mix : ℕ) → List ℕ
lines_text made written counts mix = made_text made ++ written_text written ++ items_text counts ++ mix_text mix
