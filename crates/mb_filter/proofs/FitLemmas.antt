-- Rules that are read from a text have channels and steps in range.
use Rattle.std.proofs.Common.{◌≡◌, ℕ, zero, suc, ◌+◌, ◌≤◌, Bool, true, false, ◌&&◌, ◌==◌, nat_lt, nat_le}
use Rattle.std.proofs.Common.{if◌then◌else◌}
use Rattle.std.proofs.Common.{List, [], ◌∷◌, ◌++◌, length, Option, Some, None, IfSome, Result, Ok, Err, decimal, codes}
use Rattle.std.proofs.Common.{refl, arith}
use Rattle.std.proofs.lemmas.Bool.Decides.{nat_tests}
use Rattle.std.specs.Str.{bytes_eq}
use Rattle.std.specs.List.{position}
use Rattle.mb_text.specs.Text.{words, is_printed, lines}
use Rattle.mb_stream.proofs.StandingLemmas.{both}
use Rattle.mb_filter.specs.declared.rule.Kind.{Kind}
use Rattle.mb_filter.specs.declared.rule.Action.{Action}
use Rattle.mb_filter.specs.declared.rule.Action.TheVariants as act
use Rattle.mb_filter.specs.declared.rule.Rule.{Rule}
use Rattle.mb_filter.specs.declared.rules.RuleWhy.{RuleWhy}
use Rattle.mb_filter.specs.declared.rules.RuleWhy.TheVariants as why
use Rattle.mb_filter.specs.declared.rules.RulesFault.{RulesFault}
use Rattle.mb_filter.specs.Parsed.{number_from, count_of, is_channel_kind, is_note_kind, kind_of, one_channel}
use Rattle.mb_filter.specs.Parsed.{two_channels, channels_by, channels_of, plain_action, with_count, action_of}
use Rattle.mb_filter.specs.Parsed.{with_action, with_channels, with_kind, printed_rule, is_remark, words_rule}
use Rattle.mb_filter.specs.Parsed.{line_by, line_of}
use Rattle.mb_filter.specs.Read.{fault_at, behind_line, rules_from, rules_of}
use Rattle.mb_filter.specs.InRange.{IsCount, IsAction, IsRule, AreRules, IfRules}

number-fits : (n many most : ℕ) (w : List ℕ) → 1 ≤ n → n + many ≤ most + 1 →
    IfSome (number_from n many w) (IsCount most)
unfolding number_from
number-fits n zero most w low high = tt
number-fits n (suc many) most w low high =
    by (bytes_eq w (decimal n)) (number-fits (n + 1) many most w (omega arith) (omega (arith, high))) where
      by : (t : Bool) → IfSome (number_from (n + 1) many w) (IsCount most) →
          IfSome (if t then Some n else number_from (n + 1) many w) (IsCount most)
      by true further = (low, omega (arith, high))
      by false further = further

count-fits : (most : ℕ) (w : List ℕ) → IfSome (count_of most w) (IsCount most)
count-fits most w = number-fits 1 most most w (omega arith) (omega arith)

-- channels

abbrev AreChannels : ℕ × ℕ → Type 0
AreChannels c = (1 ≤ c.0) × (c.0 ≤ c.1) × (c.1 ≤ 16)

one-fits : (n : Option ℕ) → IfSome n (IsCount 16) → IfSome (one_channel n) AreChannels
one-fits None is = tt
one-fits (Some n) is = (is.0, omega arith, is.1)

two-fit : (a b : Option ℕ) → IfSome a (IsCount 16) → IfSome b (IsCount 16) → IfSome (two_channels a b) AreChannels
two-fit None b is also = tt
two-fit (Some a) None is also = tt
two-fit (Some a) (Some b) is also = by (nat_le a b) refl where
  by : (t : Bool) → nat_le a b ≡ t → IfSome (if t then Some (a, b) else None) AreChannels
  by true h = let below : a ≤ b = grind (arith, nat_tests) in (is.0, below, also.1)
  by false h = tt

channels_by-fit : (dash : Option ℕ) (w : List ℕ) → IfSome (channels_by dash w) AreChannels
channels_by-fit None w = one-fits (count_of 16 w) (count-fits 16 w)
channels_by-fit (Some at) w = two-fit _ _ (count-fits 16 _) (count-fits 16 _)

channels-fit : (k : Kind) (w : List ℕ) → IfSome (channels_of k w) AreChannels
channels-fit k w = by (bytes_eq w (codes "*")) (is_channel_kind k) where
  by : (all some : Bool) → IfSome (if all then Some (1, 16)
      else (if some then channels_by (position (λ b. b == 45) w) w else None)) AreChannels
  by true some = (omega arith, omega arith, omega arith)
  by false true = channels_by-fit (position (λ b. b == 45) w) w
  by false false = tt

-- actions

with_count-fits : (k : Kind) (action : ℕ → Action) (most : ℕ) (w : List ℕ) →
    ((n : ℕ) → IsCount most n → IsAction k (action n)) → IfSome (with_count action (count_of most w)) (IsAction k)
with_count-fits k action most w fits = by (count_of most w) (count-fits most w) where
  by : (n : Option ℕ) → IfSome n (IsCount most) → IfSome (with_count action n) (IsAction k)
  by None is = tt
  by (Some n) is = fits n is

plain-fits : (k : Kind) (w : List ℕ) → IfSome (plain_action w) (IsAction k)
plain-fits k w = by (bytes_eq w (codes "keep")) (bytes_eq w (codes "drop")) where
  by : (keep drop : Bool) →
      IfSome (if keep then Some act.Keep else (if drop then Some act.Drop else None)) (IsAction k)
  by true drop = tt
  by false true = tt
  by false false = tt

action-fits : (k : Kind) (w number : List ℕ) → IfSome (action_of k w number) (IsAction k)
action-fits k w [] = plain-fits k w
action-fits k w (b ∷ bs) =
    by (bytes_eq w (codes "channel") && is_channel_kind k) refl (bytes_eq w (codes "up") && is_note_kind k) refl
    (bytes_eq w (codes "down") && is_note_kind k) refl where
      by : (channel : Bool) → (bytes_eq w (codes "channel") && is_channel_kind k) ≡ channel →
          (up : Bool) → (bytes_eq w (codes "up") && is_note_kind k) ≡ up →
          (down : Bool) → (bytes_eq w (codes "down") && is_note_kind k) ≡ down →
          IfSome (if channel then with_count act.Channel (count_of 16 (b ∷ bs))
          else (if up then with_count act.Up (count_of 127 (b ∷ bs))
          else (if down then with_count act.Down (count_of 127 (b ∷ bs)) else None))) (IsAction k)
      by true h up i down j =
          with_count-fits k act.Channel 16 (b ∷ bs) (λ n is. ((both (bytes_eq w (codes "channel")) _ h).1, is))
      by false h true i down j =
          with_count-fits k act.Up 127 (b ∷ bs) (λ n is. ((both (bytes_eq w (codes "up")) _ i).1, is))
      by false h false i true j =
          with_count-fits k act.Down 127 (b ∷ bs) (λ n is. ((both (bytes_eq w (codes "down")) _ j).1, is))
      by false h false i false j = tt

-- lines

abbrev IfRule : Result (Option Rule) RuleWhy → Type 0
IfRule (Ok None) = Unit {0}
IfRule (Ok (Some rule)) = IsRule rule
IfRule (Err fault) = Unit {0}

with_action-fits : (k : Kind) (c : ℕ × ℕ) (action : Option Action) → AreChannels c → IfSome action (IsAction k) →
    IfRule (with_action k c action)
with_action-fits k c None is also = tt
with_action-fits k c (Some action) is also = record { from_1 = is.0; in_order = is.1; to_16 = is.2; fits = also }

with_channels-fits : (k : Kind) (c : Option (ℕ × ℕ)) (action number : List ℕ) → IfSome c AreChannels →
    IfRule (with_channels k c action number)
with_channels-fits k None action number is = tt
with_channels-fits k (Some c) action number is =
    with_action-fits k c (action_of k action number) is (action-fits k action number)

rule-fits : (k : Option Kind) (channels action number : List ℕ) → IfRule (with_kind k channels action number)
rule-fits None channels action number = tt
rule-fits (Some k) channels action number =
    with_channels-fits k (channels_of k channels) action number (channels-fit k channels)

printed-fits : (printed : Bool) (kind channels action number : List ℕ) →
    IfRule (printed_rule printed kind channels action number)
printed-fits true kind channels action number = rule-fits (kind_of kind) channels action number
printed-fits false kind channels action number = tt

words-fit : (printed : Bool) (first : List ℕ) (others : List (List ℕ)) → IfRule (words_rule printed first others)
words-fit printed first [] = tt
words-fit printed first (a ∷ []) = tt
words-fit printed first (a ∷ b ∷ []) = printed-fits printed first a b []
words-fit printed first (a ∷ b ∷ c ∷ []) = printed-fits printed first a b c
words-fit printed first (a ∷ b ∷ c ∷ d ∷ more) = tt

line-fits : (printed : Bool) (ws : List (List ℕ)) → IfRule (line_by printed ws)
line-fits printed [] = tt
line-fits printed (first ∷ others) = by (is_remark first) where
  by : (t : Bool) → IfRule (if t then Ok None else words_rule printed first others)
  by true = tt
  by false = words-fit printed first others

-- texts

with-last : (rules : List Rule) (rule : Rule) → AreRules rules → IsRule rule → AreRules (rules ++ rule ∷ [])
with-last [] rule are is = (is, tt)
with-last (r ∷ rules) rule are is = (are.0, with-last rules rule are.1 is)

behind-fits : (n : ℕ) (rules : List Rule) (found : Result (Option Rule) RuleWhy) → AreRules rules → IfRule found →
    IfRules (behind_line n rules found)
behind-fits n rules (Ok None) are is = are
behind-fits n rules (Ok (Some rule)) are is = by (nat_lt (length rules) 64) where
  by : (t : Bool) → IfRules (if t then Ok (rules ++ rule ∷ []) else fault_at n why.Count)
  by true = with-last rules rule are is
  by false = tt
behind-fits n rules (Err fault) are is = tt

rules-fit : (n : ℕ) (found : Result (List Rule) RulesFault) (ls : List (List ℕ)) → IfRules found →
    IfRules (rules_from n found ls)
rules-fit n found [] are = are
rules-fit n (Err fault) (l ∷ ls) are = tt
rules-fit n (Ok rules) (l ∷ ls) are =
    rules-fit (n + 1) (behind_line n rules (line_of l)) ls
    (behind-fits n rules (line_of l) are (line-fits (is_printed l) (words l)))

pub read-fits : (text : List ℕ) → IfRules (rules_of text)
read-fits text = by (nat_lt 4096 (length text)) where
  by : (t : Bool) → IfRules (if t then fault_at 0 why.Long else rules_from 1 (Ok []) (lines text))
  by true = tt
  by false = rules-fit 1 (Ok []) (lines text) tt
