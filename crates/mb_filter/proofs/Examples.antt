-- The definitions compute.
use Rattle.std.proofs.Common.{◌≡◌, ◌++◌, List, [], ◌∷◌, Ok, Err, refl}
use Rattle.std.specs.Prelude.{codes}
use Rattle.mb_message.specs.Signs.{Sign, ShortSign, RtSign, OpenSign, ByteSign, EndSign}
use Rattle.mb_stream.specs.Denotation.{denotation}
use Rattle.mb_filter.specs.declared.rule.Rule.{Rule}
use Rattle.mb_filter.specs.declared.rule.Kind.TheVariants.{Note, Sysex, Clock}
use Rattle.mb_filter.specs.declared.rule.Action.TheVariants.{Keep, Drop, Channel, Up}
use Rattle.mb_filter.specs.declared.rules.RuleWhy.TheVariants as why
use Rattle.std.specs.Fmt.{digits}
use Rattle.mb_filter.specs.Parsed.{number_from}
use Rattle.mb_filter.specs.Read.{rules_of}
use Rattle.mb_filter.specs.Mapped.{mapped, mapped_marks}

two_rules : rules_of (codes "note 1 up 12\nclock * drop") ≡
    Ok ((record { kind = Note; first = 1; last = 1; action = Up 12 }) ∷
    (record { kind = Clock; first = 1; last = 16; action = Drop }) ∷ [])
unfolding number_from digits
two_rules = refl

remarks_and_ranges : rules_of (codes "# all\n\n \tnote 2-10  channel 16\r\n") ≡
    Ok ((record { kind = Note; first = 2; last = 10; action = Channel 16 }) ∷ [])
unfolding number_from digits
remarks_and_ranges = refl

no_such_channel : rules_of (codes "note 17 drop") ≡ Err (record { line = 1; why = why.Channels })
unfolding number_from digits
no_such_channel = refl

range_turned : rules_of (codes "note * keep\nbend 3-2 drop") ≡ Err (record { line = 2; why = why.Channels })
unfolding number_from digits
range_turned = refl

leading_zero : rules_of (codes "note * up 012") ≡ Err (record { line = 1; why = why.Action })
unfolding number_from digits
leading_zero = refl

keep_has_no_number : rules_of (codes "note * keep 1") ≡ Err (record { line = 1; why = why.Action })
keep_has_no_number = refl

system_kinds_have_no_channel : rules_of (codes "clock 1 drop") ≡ Err (record { line = 1; why = why.Channels })
system_kinds_have_no_channel = refl

words_before_kind : rules_of (codes "nothing here") ≡ Err (record { line = 1; why = why.Words })
words_before_kind = refl

abbrev up_and_drop : List Rule
up_and_drop = (record { kind = Note; first = 1; last = 1; action = Up 12 }) ∷
    (record { kind = Clock; first = 1; last = 16; action = Drop }) ∷ []

-- a key goes up on its channel alone, and the clock is gone
first_channel_goes_up : mapped_marks up_and_drop
    (ShortSign 0x90 0x3c 0x64 ∷ RtSign 0xf8 ∷ ShortSign 0x91 0x3c 0x64 ∷ []) ≡
    ShortSign 0x90 0x48 0x64 ∷ ShortSign 0x91 0x3c 0x64 ∷ []
first_channel_goes_up = refl

abbrev no_sysex : List Rule
no_sysex = (record { kind = Sysex; first = 1; last = 16; action = Drop }) ∷ []

abbrev dump : List Sign
dump = OpenSign ∷ ByteSign 1 ∷ RtSign 0xf8 ∷ ByteSign 2 ∷ EndSign ∷ ShortSign 0x90 0x7f 1 ∷ []

sysex_dropped : mapped_marks no_sysex dump ≡ RtSign 0xf8 ∷ ShortSign 0x90 0x7f 1 ∷ []
sysex_dropped = refl

-- a real-time message counts what is kept before it
counts_of_what_is_kept : denotation (mapped_marks no_sysex (dump ++ RtSign 0xfa ∷ [])) ≡
    mapped no_sysex (denotation (dump ++ RtSign 0xfa ∷ []))
counts_of_what_is_kept = refl

-- a key that would leave its range drops its message
key_too_high : mapped_marks ((record { kind = Note; first = 1; last = 16; action = Up 1 }) ∷ [])
    (ShortSign 0x90 0x7f 1 ∷ RtSign 0xf8 ∷ []) ≡ RtSign 0xf8 ∷ []
key_too_high = refl

-- the first rule decides
first_rule_decides : mapped_marks ((record { kind = Note; first = 2; last = 2; action = Keep }) ∷
    (record { kind = Note; first = 1; last = 16; action = Drop }) ∷ [])
    (ShortSign 0x90 1 1 ∷ ShortSign 0x91 2 2 ∷ ShortSign 0xa1 3 3 ∷ []) ≡ ShortSign 0x91 2 2 ∷ ShortSign 0xa1 3 3 ∷ []
first_rule_decides = refl
