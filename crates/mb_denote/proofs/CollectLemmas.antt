-- What a collector stands for, mark by mark.
use Rattle.std.proofs.Common.{◌≡◌, ℕ, Bool, true, false, List, [], ◌∷◌, ◌++◌, Option, Some, None, is_some, refl, sym}
use Rattle.std.proofs.Common.{ap, ◌∙◌}
use mathlib.Core.List.{append_assoc}
use Rattle.std.proofs.lemmas.List.{append-nil}
use Rattle.std.proofs.lemmas.Bool.{false≢true}
use Rattle.mb_message.specs.Signs.{Sign, ShortSign, RtSign, OpenSign, ByteSign, EndSign, AbortSign, suits_sign}
use Rattle.mb_stream.specs.Denotation.{Meant, Message, Syx, Broken, Timed, items_from, realtimes_from, Denotation}
use Rattle.mb_stream.specs.Denotation.{denotation, left_open}
use Rattle.mb_stream.proofs.StandingLemmas.{is_open-push, open_after}
use Rattle.mb_denote.specs.Collected.{Collected, Stands, in_sysex}
use Rattle.mb_denote.specs.Collecting.{with_mark}

-- what a mark adds, whatever follows
items_step : (items : List Meant) (realtimes : List Timed) (ended : ℕ) (o : Option (List ℕ)) (m : Sign)
    (more : List Sign) →
    let c : Collected = record { items = items; realtimes = realtimes; ended = ended; open_data = o } in
    items ++ items_from o (m ∷ more) ≡ (with_mark c m).items ++ items_from (with_mark c m).open_data more
items_step items realtimes ended o (ShortSign s d1 d2) more =
    sym (append_assoc items (Message s d1 d2 ∷ []) (items_from o more))
items_step items realtimes ended o (RtSign b) more = refl
items_step items realtimes ended o OpenSign more = refl
items_step items realtimes ended None (ByteSign b) more = refl
items_step items realtimes ended (Some ds) (ByteSign b) more = refl
items_step items realtimes ended None EndSign more = refl
items_step items realtimes ended (Some ds) EndSign more = sym (append_assoc items (Syx ds ∷ []) (items_from None more))
items_step items realtimes ended None AbortSign more = refl
items_step items realtimes ended (Some ds) AbortSign more = sym (append_assoc items (Broken ds ∷ [])
    (items_from None more))

realtimes_step : (items : List Meant) (realtimes : List Timed) (ended : ℕ) (o : Option (List ℕ)) (m : Sign)
    (more : List Sign) →
    let c : Collected = record { items = items; realtimes = realtimes; ended = ended; open_data = o } in
    realtimes ++ realtimes_from (in_sysex c) ended (m ∷ more) ≡
    (with_mark c m).realtimes ++ realtimes_from (in_sysex (with_mark c m)) (with_mark c m).ended more
realtimes_step items realtimes ended o (ShortSign s d1 d2) more = refl
realtimes_step items realtimes ended o (RtSign b) more =
    sym (append_assoc realtimes (record { byte = b; after = ended } ∷ []) (realtimes_from (is_some o) ended more))
realtimes_step items realtimes ended o OpenSign more = refl
realtimes_step items realtimes ended None (ByteSign b) more = refl
realtimes_step items realtimes ended (Some ds) (ByteSign b) more = refl
realtimes_step items realtimes ended None EndSign more = refl
realtimes_step items realtimes ended (Some ds) EndSign more = refl
realtimes_step items realtimes ended o AbortSign more = refl

-- whether a SysEx is open behind it
open_step : (items : List Meant) (realtimes : List Timed) (ended : ℕ) (o : Option (List ℕ)) (m : Sign) →
    suits_sign (is_some o) m ≡ true →
    let c : Collected = record { items = items; realtimes = realtimes; ended = ended; open_data = o } in
    in_sysex (with_mark c m) ≡ open_after (is_some o) m
open_step items realtimes ended None (ShortSign s d1 d2) suits = refl
open_step items realtimes ended (Some ds) (ShortSign s d1 d2) suits = absurd (false≢true suits)
open_step items realtimes ended o (RtSign b) suits = refl
open_step items realtimes ended o OpenSign suits = refl
open_step items realtimes ended None (ByteSign b) suits = absurd (false≢true suits)
open_step items realtimes ended (Some ds) (ByteSign b) suits = refl
open_step items realtimes ended o EndSign suits = refl
open_step items realtimes ended o AbortSign suits = refl

pub Stands_put : (c : Collected) (m : Sign) (ms : List Sign) → suits_sign (in_sysex c) m ≡ true → Stands c ms →
    Stands (with_mark c m) (ms ++ m ∷ [])
Stands_put c m ms suits h = record {
  open_too = open_step c.items c.realtimes c.ended c.open_data m suits ∙ ap (λ (o : Bool). open_after o m) h.open_too ∙
      sym (is_open-push ms m);
  items_hold = λ more.
      ap (items_from None) (append_assoc ms (m ∷ []) more) ∙ h.items_hold (m ∷ more) ∙ items_step c.items c.realtimes
      c.ended c.open_data m more;
  realtimes_hold = λ more.
      ap (realtimes_from false 0) (append_assoc ms (m ∷ []) more) ∙ h.realtimes_hold (m ∷ more) ∙
      realtimes_step c.items c.realtimes c.ended c.open_data m more;
}

-- the end of the marks
items_finished : (c : Collected) (ms : List Sign) → Stands c ms → items_from None ms ≡ c.items ++ left_open c.open_data
items_finished c ms h = ap (items_from None) (sym (append-nil ms)) ∙ h.items_hold []

realtimes_finished : (c : Collected) (ms : List Sign) → Stands c ms → realtimes_from false 0 ms ≡ c.realtimes
realtimes_finished c ms h = ap (realtimes_from false 0) (sym (append-nil ms)) ∙ h.realtimes_hold [] ∙
    append-nil c.realtimes

pub Stands_finish : (c : Collected) (ms : List Sign) (d : Denotation) → Stands c ms →
    d.items ≡ c.items ++ left_open c.open_data → d.realtimes ≡ c.realtimes → d ≡ denotation ms
Stands_finish c ms d h items realtimes =
    let same_items : d.items ≡ items_from None ms = items ∙ sym (items_finished c ms h) in
    let same_realtimes : d.realtimes ≡ realtimes_from false 0 ms = realtimes ∙ sym (realtimes_finished c ms h) in
    let with_items : List Meant → Denotation = λ xs. record { items = xs; realtimes = d.realtimes } in
    let with_realtimes : List Timed → Denotation = λ ts. record { items = items_from None ms; realtimes = ts } in
    ap with_items same_items ∙ ap with_realtimes same_realtimes
