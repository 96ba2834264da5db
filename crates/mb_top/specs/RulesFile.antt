-- The file that a filter reads its rules from, which has the next handle: its text is read to its end, or to the byte
-- that is one too many, and judged then.
--
--   HasRules file before after rules  all of it was read, and is these rules
--   HasBadRules file before after f   the text is refused
--   NoRules file before after status  why there are no rules
--   RulesRead file before after ..    the rules were read, or there are none
use Rattle.std.specs.Prelude.{◌≡◌, ℕ, ◌⊎◌, false, List, [], ◌∷◌, ◌++◌, length, Result, Ok, Err}
use Rattle.mb_outside.specs.Contents.{Contents, next_handle}
use Rattle.mb_filter.specs.Read.{rules_of}
use Rattle.mb_filter.specs.declared.rule.Rule.{Rule}
use Rattle.mb_filter.specs.declared.rules.RulesFault.{RulesFault}
use Rattle.mb_top.specs.TextFile.{Opened, text_taken}
use Rattle.mb_top.specs.declared.fault.Fault.TheVariants as fault
use Rattle.mb_top.specs.declared.status.Status.{Status}
use Rattle.mb_top.specs.declared.status.Status.TheVariants.{Stopped}
use Rattle.mb_top.specs.declared.status.Stop.{Stop}
use Rattle.mb_top.specs.declared.status.Stop.TheVariants.{ReadFault, Faulty}

-- one byte more than a text may have
abbrev pub TOO_MANY : ℕ
TOO_MANY = 4097

pub record HasRules (file : List ℕ) (before after : Contents) (rules : List Rule) : Type 0 where
  pub given : after.given ≡ before.given ++ (file, false) ∷ []
  pub all : after.left (next_handle before) ≡ []
  pub are : rules_of (text_taken before after) ≡ Ok rules

pub record HasBadRules (file : List ℕ) (before after : Contents) (f : RulesFault) : Type 0 where
  pub given : after.given ≡ before.given ++ (file, false) ∷ []
  pub judged : (after.left (next_handle before) ≡ []) ⊎ (length (text_taken before after) ≡ TOO_MANY)
  pub are : rules_of (text_taken before after) ≡ Err f

-- reading failed, or the text is refused
abbrev pub NoRules : (file : List ℕ) (before after : Contents) → Status → Type 0
NoRules file before after (Stopped ReadFault) = Unit {0}
NoRules file before after (Stopped (Faulty (fault.Rules f))) = HasBadRules file before after f
NoRules file before after status = ⊥

-- the same of desks that tell nothing
abbrev pub IsRulesStop : Status → Type 0
IsRulesStop (Stopped ReadFault) = Unit {0}
IsRulesStop (Stopped (Faulty (fault.Rules f))) = Unit {0}
IsRulesStop status = ⊥

abbrev pub RulesRead : (file : List ℕ) (before after : Contents) → Result (List Rule) Stop → Type 0
RulesRead file before after (Ok rules) = Opened before after file × HasRules file before after rules
RulesRead file before after (Err stop) =
    ((after ≡ before) ⊎ Opened before after file) × NoRules file before after (Stopped stop)

-- for the steps

abbrev pub HasJudged : Result (List Rule) RulesFault → Result (List Rule) Stop → Type 0
HasJudged found (Ok rules) = found ≡ Ok rules
HasJudged found (Err (Faulty (fault.Rules f))) = found ≡ Err f
HasJudged found (Err stop) = ⊥
