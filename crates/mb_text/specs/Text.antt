-- Lines and words of a text: the project's own. A line ends by LF, and a CR before it is dropped; the last line may
-- lack its LF, and nothing behind the last LF is no line. Words are separated by spaces and tabs.
--
--   lines text          its lines
--   words line          the words of a line
--   is_printed line     each byte that isn't blank is 21 to 7E
use Rattle.std.specs.Prelude.{ℕ, Bool, ◌&&◌, ◌||◌, ◌==◌, not, nat_lt, nat_le, if◌then◌else◌, List, [], ◌∷◌, ◌++◌}
use Rattle.std.specs.List.{list_all}

abbrev pub is_ended : ℕ → Bool
is_ended b = b == 10

-- a line without the CR at its end
abbrev pub without_return : List ℕ → List ℕ
without_return [] = []
without_return (b ∷ []) = if b == 13 then [] else b ∷ []
without_return (b ∷ c ∷ bs) = b ∷ without_return (c ∷ bs)

abbrev pub last_line : List ℕ → List (List ℕ)
last_line [] = []
last_line (b ∷ bs) = (b ∷ bs) ∷ []

-- the front of a line is known
abbrev pub lines_from : (front : List ℕ) → List ℕ → List (List ℕ)
lines_from front [] = last_line front
lines_from front (b ∷ bs) =
    if is_ended b then without_return front ∷ lines_from [] bs else lines_from (front ++ b ∷ []) bs

abbrev pub lines : List ℕ → List (List ℕ)
lines text = lines_from [] text

abbrev pub is_blank : ℕ → Bool
is_blank b = (b == 32) || (b == 9)

abbrev pub is_written : ℕ → Bool
is_written b = not (is_blank b)

-- a word stands before others, if it isn't empty
abbrev pub and_word : List ℕ → List (List ℕ) → List (List ℕ)
and_word [] ws = ws
and_word (b ∷ bs) ws = (b ∷ bs) ∷ ws

-- the front of a word is known
abbrev pub words_from : (front : List ℕ) → List ℕ → List (List ℕ)
words_from front [] = and_word front []
words_from front (b ∷ bs) =
    if is_blank b then and_word front (words_from [] bs) else words_from (front ++ b ∷ []) bs

abbrev pub words : List ℕ → List (List ℕ)
words line = words_from [] line

abbrev pub is_printed : List ℕ → Bool
is_printed line = list_all (λ b. is_blank b || (nat_le 0x21 b && nat_lt b 0x7f)) line
