-- A fault stays.
use Rattle.std.proofs.Common.{◌≡◌, ℕ, ◌+◌, ◌≤◌, Bool, false, nat_lt, if◌then◌else◌, List, [], ◌∷◌, length, Ok, Err}
use Rattle.std.proofs.Common.{refl, sym, ◌∙◌, ap, arith}
use Rattle.std.proofs.lemmas.Bool.Decides.{nat_tests}
use Rattle.mb_text.specs.Text.{lines}
use Rattle.mb_filter.specs.Parsed.{line_of}
use Rattle.mb_filter.specs.declared.rules.RuleWhy.TheVariants as why
use Rattle.mb_filter.specs.declared.rules.RulesFault.{RulesFault}
use Rattle.mb_filter.specs.declared.rule.Rule.{Rule}
use Rattle.mb_filter.specs.Read.{behind_line, fault_at, rules_from, rules_of}

pub rules_from-fault : (line : ℕ) (fault : RulesFault) (ls : List (List ℕ)) → rules_from line (Err fault) ls ≡ Err fault
rules_from-fault line fault [] = refl
rules_from-fault line fault (l ∷ ls) = refl

pub read-fault : (text : List ℕ) (n : ℕ) (rules : List Rule) (rest line left : List ℕ) (fault : RulesFault) →
    length text ≤ 4096 →
    rules_from n (Ok rules) (lines rest) ≡ rules_from 1 (Ok []) (lines text) → lines rest ≡ line ∷ lines left →
    behind_line n rules (line_of line) ≡ Err fault →
    Err fault ≡ rules_of text
read-fault text n rules rest line left fault short read is wrong =
    let e : nat_lt 4096 (length text) ≡ false = grind (arith, nat_tests) in
    sym (ap (λ (t : Bool). if t then fault_at 0 why.Long else rules_from 1 (Ok []) (lines text)) e ∙
    (sym read ∙ (ap (rules_from n (Ok rules)) is ∙
    (ap (λ z. rules_from (n + 1) z (lines left)) wrong ∙ rules_from-fault (n + 1) fault (lines left)))))
