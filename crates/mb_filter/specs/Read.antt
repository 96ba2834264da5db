-- Rules that are read from a text: its lines in order, of which the first that is faulty refuses it.
--
--   rules_of text      the rules, or the line, counted from 1, and what is wrong there
use Rattle.std.specs.Prelude.{ℕ, ◌+◌, nat_lt, if◌then◌else◌, List, [], ◌∷◌, ◌++◌, length, Option, Some, None}
use Rattle.std.specs.Prelude.{Result, Ok, Err}
use Rattle.mb_filter.specs.declared.rule.Rule.{Rule}
use Rattle.mb_filter.specs.declared.rules.RulesFault.{RulesFault}
use Rattle.mb_filter.specs.declared.rules.RuleWhy.{RuleWhy}
use Rattle.mb_filter.specs.declared.rules.RuleWhy.TheVariants as why
use Rattle.mb_text.specs.Text.{lines}
use Rattle.mb_filter.specs.Parsed.{line_of}

abbrev pub fault_at : ℕ → RuleWhy → Result (List Rule) RulesFault
fault_at line why = Err (record { line = line; why = why })

-- the 65th rule is one too many
abbrev pub one_more : ℕ → List Rule → Rule → Result (List Rule) RulesFault
one_more line rules rule = if nat_lt (length rules) 64 then Ok (rules ++ rule ∷ []) else fault_at line why.Count

-- the rules behind a line
abbrev pub behind_line : ℕ → List Rule → Result (Option Rule) RuleWhy → Result (List Rule) RulesFault
behind_line line rules (Ok None) = Ok rules
behind_line line rules (Ok (Some rule)) = one_more line rules rule
behind_line line rules (Err w) = fault_at line w

-- the lines from a number on, given the rules of those before them
abbrev pub rules_from : (line : ℕ) → Result (List Rule) RulesFault → List (List ℕ) → Result (List Rule) RulesFault
rules_from line found [] = found
rules_from line (Err fault) (l ∷ ls) = Err fault
rules_from line (Ok rules) (l ∷ ls) = rules_from (line + 1) (behind_line line rules (line_of l)) ls

abbrev pub rules_of : List ℕ → Result (List Rule) RulesFault
rules_of text = if nat_lt 4096 (length text) then fault_at 0 why.Long else rules_from 1 (Ok []) (lines text)

-- an answer beside the rules that it leaves
abbrev pub added : {T : Type 0} → Result T RulesFault → List Rule → Result (List Rule) RulesFault
added (Ok done) rules = Ok rules
added (Err fault) rules = Err fault
