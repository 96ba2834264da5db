-- Rules as a text can have them: channels are 1 to 16, steps 1 to 127, of kinds that have such.
--
--   IsRule rule         the rule is such a one
--   IfRules found       what is found are such rules, or a fault
use Rattle.std.specs.Prelude.{◌≡◌, ℕ, ◌≤◌, true, List, [], ◌∷◌, Result, Ok, Err}
use Rattle.mb_filter.specs.declared.rule.Kind.{Kind}
use Rattle.mb_filter.specs.declared.rule.Action.{Action}
use Rattle.mb_filter.specs.declared.rule.Action.TheVariants.{Keep, Drop, Channel, Up, Down}
use Rattle.mb_filter.specs.declared.rule.Rule.{Rule}
use Rattle.mb_filter.specs.declared.rules.RulesFault.{RulesFault}
use Rattle.mb_filter.specs.Parsed.{is_channel_kind, is_note_kind}

abbrev pub IsCount : (most : ℕ) → ℕ → Type 0
IsCount most n = (1 ≤ n) × (n ≤ most)

abbrev pub IsAction : Kind → Action → Type 0
IsAction k Keep = Unit {0}
IsAction k Drop = Unit {0}
IsAction k (Channel n) = (is_channel_kind k ≡ true) × IsCount 16 n
IsAction k (Up n) = (is_note_kind k ≡ true) × IsCount 127 n
IsAction k (Down n) = (is_note_kind k ≡ true) × IsCount 127 n

pub record IsRule (r : Rule) : Type 0 where
  pub from_1 : 1 ≤ r.first
  pub in_order : r.first ≤ r.last
  pub to_16 : r.last ≤ 16
  pub fits : IsAction r.kind r.action

abbrev pub AreRules : List Rule → Type 0
AreRules [] = Unit {0}
AreRules (r ∷ rules) = IsRule r × AreRules rules

abbrev pub IfRules : Result (List Rule) RulesFault → Type 0
IfRules (Ok rules) = AreRules rules
IfRules (Err fault) = Unit {0}
