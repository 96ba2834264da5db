-- What a line of the rules text says: the project's own. A rule is a kind, channels and an action, which may have a
-- number.
--
--   kind_of w              the kind of a word
--   channels_of k w        `*`, or for the kinds of channel messages `N` or `N-M`, 1 to 16, N not above M
--   action_of k w n        `keep` or `drop`; for channel messages `channel N`; for notes `up N` and `down N`
--   rule_of a b c d        the rule of three or four words, or the first that is wrong
--   line_of line           that of a line: none where it has no word or is a remark
use Rattle.std.specs.Prelude.{ℕ, zero, suc, ◌+◌, Bool, true, false, ◌&&◌, ◌==◌, nat_le, if◌then◌else◌, List, []}
use Rattle.std.specs.Prelude.{◌∷◌, decimal, take, drop, Option, Some, None, Result, Ok, Err, codes}
use Rattle.std.specs.Str.{bytes_eq}
use Rattle.std.specs.List.{position}
use Rattle.mb_filter.specs.declared.rule.Kind.{Kind}
use Rattle.mb_filter.specs.declared.rule.Kind.TheVariants.{Note, Control, Program, Pressure, Bend, Common, Sysex, Clock}
use Rattle.mb_filter.specs.declared.rule.Kind.TheVariants.{Transport, Sense, Reset}
use Rattle.mb_filter.specs.declared.rule.Action.{Action}
use Rattle.mb_filter.specs.declared.rule.Action.TheVariants.{Keep, Drop, Channel, Up, Down}
use Rattle.mb_filter.specs.declared.rule.Rule.{Rule}
use Rattle.mb_filter.specs.declared.rules.RuleWhy.{RuleWhy}
use Rattle.mb_filter.specs.declared.rules.RuleWhy.TheVariants as why
use Rattle.mb_text.specs.Text.{words, is_printed}

abbrev pub system_kind_of : List ℕ → Option Kind
system_kind_of w =
    if bytes_eq w (codes "common") then Some Common
    else (if bytes_eq w (codes "sysex") then Some Sysex
    else (if bytes_eq w (codes "clock") then Some Clock
    else (if bytes_eq w (codes "transport") then Some Transport
    else (if bytes_eq w (codes "sense") then Some Sense
    else (if bytes_eq w (codes "reset") then Some Reset else None)))))

abbrev pub kind_of : List ℕ → Option Kind
kind_of w =
    if bytes_eq w (codes "note") then Some Note
    else (if bytes_eq w (codes "control") then Some Control
    else (if bytes_eq w (codes "program") then Some Program
    else (if bytes_eq w (codes "pressure") then Some Pressure
    else (if bytes_eq w (codes "bend") then Some Bend else system_kind_of w))))

abbrev pub is_channel_kind : Kind → Bool
is_channel_kind Note = true
is_channel_kind Control = true
is_channel_kind Program = true
is_channel_kind Pressure = true
is_channel_kind Bend = true
is_channel_kind _ = false

abbrev pub is_note_kind : Kind → Bool
is_note_kind Note = true
is_note_kind _ = false

-- the first number, from n on and of so many, that a word is in decimal
unfoldable pub number_from : (n many : ℕ) → List ℕ → Option ℕ
number_from n zero w = None
number_from n (suc many) w = if bytes_eq w (decimal n) then Some n else number_from (n + 1) many w

-- a number from 1 to the greatest, without a sign or leading zeros
abbrev pub count_of : (greatest : ℕ) → List ℕ → Option ℕ
count_of greatest w = number_from 1 greatest w

abbrev pub one_channel : Option ℕ → Option (ℕ × ℕ)
one_channel None = None
one_channel (Some n) = Some (n, n)

abbrev pub two_channels : Option ℕ → Option ℕ → Option (ℕ × ℕ)
two_channels None b = None
two_channels (Some a) None = None
two_channels (Some a) (Some b) = if nat_le a b then Some (a, b) else None

abbrev pub channels_by : (dash : Option ℕ) → List ℕ → Option (ℕ × ℕ)
channels_by None w = one_channel (count_of 16 w)
channels_by (Some at) w = two_channels (count_of 16 (take at w)) (count_of 16 (drop (at + 1) w))

abbrev pub channels_of : Kind → List ℕ → Option (ℕ × ℕ)
channels_of k w =
    if bytes_eq w (codes "*") then Some (1, 16)
    else (if is_channel_kind k then channels_by (position (λ b. b == 45) w) w else None)

abbrev pub plain_action : List ℕ → Option Action
plain_action w = if bytes_eq w (codes "keep") then Some Keep else
    (if bytes_eq w (codes "drop") then Some Drop else None)

abbrev pub with_count : (ℕ → Action) → Option ℕ → Option Action
with_count act None = None
with_count act (Some n) = Some (act n)

abbrev pub action_of : Kind → List ℕ → (number : List ℕ) → Option Action
action_of k w [] = plain_action w
action_of k w (b ∷ bs) =
    if bytes_eq w (codes "channel") && is_channel_kind k then with_count Channel (count_of 16 (b ∷ bs))
    else (if bytes_eq w (codes "up") && is_note_kind k then with_count Up (count_of 127 (b ∷ bs))
    else (if bytes_eq w (codes "down") && is_note_kind k then with_count Down (count_of 127 (b ∷ bs)) else None))

abbrev pub with_action : Kind → (ℕ × ℕ) → Option Action → Result (Option Rule) RuleWhy
with_action k channels None = Err why.Action
with_action k channels (Some a) = Ok (Some (record { kind = k; first = channels.0; last = channels.1; action = a }))

abbrev pub with_channels : Kind → Option (ℕ × ℕ) → (action number : List ℕ) → Result (Option Rule) RuleWhy
with_channels k None action number = Err why.Channels
with_channels k (Some channels) action number = with_action k channels (action_of k action number)

abbrev pub with_kind : Option Kind → (channels action number : List ℕ) → Result (Option Rule) RuleWhy
with_kind None channels action number = Err why.Kind
with_kind (Some k) channels action number = with_channels k (channels_of k channels) action number

-- the fourth word is of no bytes where there is none
abbrev pub rule_of : (kind channels action number : List ℕ) → Result (Option Rule) RuleWhy
rule_of kind channels action number = with_kind (kind_of kind) channels action number

abbrev pub printed_rule : (printed : Bool) → (kind channels action number : List ℕ) → Result (Option Rule) RuleWhy
printed_rule printed kind channels action number =
    if printed then rule_of kind channels action number else Err why.Words

-- `#` begins a remark
abbrev pub is_remark : List ℕ → Bool
is_remark [] = false
is_remark (b ∷ bs) = b == 35

abbrev pub words_rule : (printed : Bool) → (first : List ℕ) → List (List ℕ) → Result (Option Rule) RuleWhy
words_rule printed first (second ∷ third ∷ []) = printed_rule printed first second third []
words_rule printed first (second ∷ third ∷ fourth ∷ []) = printed_rule printed first second third fourth
words_rule printed first _ = Err why.Words

abbrev pub line_by : (printed : Bool) → List (List ℕ) → Result (Option Rule) RuleWhy
line_by printed [] = Ok None
line_by printed (first ∷ others) = if is_remark first then Ok None else words_rule printed first others

abbrev pub line_of : List ℕ → Result (Option Rule) RuleWhy
line_of line = line_by (is_printed line) (words line)
