-- How many messages marks have is how many they mean, so what a live part means says how many messages are known of it.
use Rattle.std.proofs.Common.{◌≡◌, ℕ, suc, ◌+◌, Bool, true, false, Option, Some, None, List, [], ◌∷◌, ◌++◌, map, length}
use Rattle.std.proofs.Common.{refl, sym, ◌∙◌, ap, ap₂, arith}
use Rattle.mb_message.specs.Signs.{Sign, ShortSign, RtSign, OpenSign, ByteSign, EndSign, AbortSign}
use Rattle.mb_stream.specs.Denotation.{Meant, Message, Syx, Broken, Denotation, items_from, realtimes_from, denotation}
use Rattle.mb_stream.specs.Lacking.{Lacks}
use Rattle.mb_stream.specs.Puts.{Put, At, Flush, signs_in}
use Rattle.mb_stream.specs.Standing.{suited, AreValid}
use Rattle.mb_stream.proofs.Suits.{Suit, Suit-suited}
use Rattle.mb_ble.specs.Distances.{message_moments}
use Rattle.mb_carrier.specs.Carrier.{den, marks_so_far, live, written}
use Rattle.mb_carrier.specs.Live.{HoldsBack}
use Rattle.mb_carrier.specs.MessageMoments.{HasNoStamps}
use Rattle.mb_carrier.specs.Word.{IsSpec}
use Rattle.mb_carrier.specs.declared.spec.Spec.{Spec}
use Rattle.mb_carrier.specs.declared.spec.Spec.TheVariants.{Din, Usb, Fire, Ble}
use Rattle.mb_carrier.proofs.ConversionLemmas.{laws}
use Rattle.mb_carrier.proofs.LiveLemmas.{holds-back, den-so_far, so_far-suits, so_far-valid}

-- the messages among marks
abbrev pub messages : List Sign → ℕ
messages [] = 0
messages (ShortSign s a b ∷ ms) = suc (messages ms)
messages (RtSign b ∷ ms) = suc (messages ms)
messages (OpenSign ∷ ms) = messages ms
messages (ByteSign b ∷ ms) = messages ms
messages (EndSign ∷ ms) = suc (messages ms)
messages (AbortSign ∷ ms) = messages ms

pub messages-append : (xs ys : List Sign) → messages (xs ++ ys) ≡ messages xs + messages ys
messages-append [] ys = omega arith
messages-append (ShortSign s a b ∷ xs) ys = omega (arith, messages-append xs ys)
messages-append (RtSign b ∷ xs) ys = omega (arith, messages-append xs ys)
messages-append (OpenSign ∷ xs) ys = messages-append xs ys
messages-append (ByteSign b ∷ xs) ys = messages-append xs ys
messages-append (EndSign ∷ xs) ys = omega (arith, messages-append xs ys)
messages-append (AbortSign ∷ xs) ys = messages-append xs ys

pub moments-messages : (puts : List Put) → length (message_moments puts) ≡ messages (signs_in puts)
moments-messages [] = refl
moments-messages (Flush ∷ puts) = moments-messages puts
moments-messages (At m (ShortSign s a b) ∷ puts) = ap suc (moments-messages puts)
moments-messages (At m (RtSign b) ∷ puts) = ap suc (moments-messages puts)
moments-messages (At m OpenSign ∷ puts) = moments-messages puts
moments-messages (At m (ByteSign b) ∷ puts) = moments-messages puts
moments-messages (At m EndSign ∷ puts) = ap suc (moments-messages puts)
moments-messages (At m AbortSign ∷ puts) = moments-messages puts

-- the messages among what is meant
abbrev completed : List Meant → ℕ
completed [] = 0
completed (Message s a b ∷ is) = suc (completed is)
completed (Syx ds ∷ is) = suc (completed is)
completed (Broken ds ∷ is) = completed is

abbrev total : Denotation → ℕ
total d = completed d.items + length d.realtimes

abbrev is_open : Option (List ℕ) → Bool
is_open None = false
is_open (Some ds) = true

count : (ms : List Sign) (o : Option (List ℕ)) (n : ℕ) → Suit (is_open o) ms →
    messages ms ≡ completed (items_from o ms) + length (realtimes_from (is_open o) n ms)
count [] None n su = refl
count [] (Some ds) n su = refl
count (ShortSign s a b ∷ ms) None n su = omega (arith, count ms None (suc n) su.1)
count (ShortSign s a b ∷ ms) (Some ds) n su = absurd su.0
count (RtSign b ∷ ms) None n su = omega (arith, count ms None n su.1)
count (RtSign b ∷ ms) (Some ds) n su = omega (arith, count ms (Some ds) n su.1)
count (OpenSign ∷ ms) None n su = count ms (Some []) n su.1
count (OpenSign ∷ ms) (Some ds) n su = absurd su.0
count (ByteSign b ∷ ms) None n su = absurd su.0
count (ByteSign b ∷ ms) (Some ds) n su = count ms (Some (ds ++ b ∷ [])) n su.1
count (EndSign ∷ ms) None n su = absurd su.0
count (EndSign ∷ ms) (Some ds) n su = omega (arith, count ms None (suc n) su.1)
count (AbortSign ∷ ms) None n su = absurd su.0
count (AbortSign ∷ ms) (Some ds) n su = count ms None n su.1

meant-count : (ms : List Sign) → suited ms ≡ true → AreValid ms → messages ms ≡ total (denotation ms)
meant-count ms s v = count ms None 0 (Suit-suited ms s v)

-- broken System Exclusive messages are none
broken-none : (items : List Meant) (broken : List (List ℕ)) → completed (items ++ map Broken broken) ≡ completed items
broken-none [] [] = refl
broken-none [] (d ∷ ds) = broken-none [] ds
broken-none (Message s a b ∷ is) ds = ap suc (broken-none is ds)
broken-none (Syx d ∷ is) ds = ap suc (broken-none is ds)
broken-none (Broken d ∷ is) ds = broken-none is ds

lacks-total : (n : ℕ) (less full : Denotation) → Lacks n less full → total less ≡ total full
lacks-total n less full h =
    ap₂ (λ (c : ℕ) rs. c + length rs)
    (ap completed h.less_is ∙ (broken-none h.items h.broken_less
    ∙ (sym (broken-none h.items h.broken_full) ∙ ap completed (sym h.full_is)))) h.realtimes

held-total : (s : Spec) (full less : Denotation) → HasNoStamps s → HoldsBack s full less → total less ≡ total full
held-total Din full less n h = ap total h
held-total (Usb cable) full less n h = lacks-total 2 less full h
held-total (Fire port) full less n h = ap total h
held-total (Ble size) full less n h = absurd n

known-count : (s : Spec) (bytes : List ℕ) → messages (marks_so_far s bytes) ≡ total (den s bytes)
known-count s bytes =
    meant-count (marks_so_far s bytes) (so_far-suits s bytes) (so_far-valid s bytes)
    ∙ ap total (sym (den-so_far s bytes))

-- each message that was put is known of the live part
pub live-count : (s : Spec) → HasNoStamps s → IsSpec s → (puts : List Put) → suited (signs_in puts) ≡ true →
    AreValid (signs_in puts) → messages (marks_so_far s (live s puts)) ≡ messages (signs_in puts)
live-count s n is puts suits valid =
    known-count s (live s puts)
    ∙ (held-total s (denotation (signs_in puts)) (den s (live s puts)) n (holds-back s puts is suits valid)
    ∙ sym (meant-count (signs_in puts) suits valid))

pub written-count : (s : Spec) → IsSpec s → (puts : List Put) → suited (signs_in puts) ≡ true →
    AreValid (signs_in puts) → messages (marks_so_far s (written s puts)) ≡ messages (signs_in puts)
written-count s is puts suits valid =
    known-count s (written s puts)
    ∙ (ap total ((laws s).means is puts suits valid) ∙ sym (meant-count (signs_in puts) suits valid))
