-- The marks of a byte line's reading, counted kind by kind, are the items that they mean.
use Rattle.std.proofs.Common.{◌≡◌, ℕ, suc, Bool, true, false, List, [], ◌∷◌, ◌++◌, Option, Some, None, length, refl}
use Rattle.std.proofs.Common.{sym}
use Rattle.std.proofs.Common.{ap, ◌∙◌, subst, arith}
use Rattle.std.specs.Prelude.{is_some}
use Rattle.mb_message.specs.Signs.{Sign, ShortSign, RtSign, OpenSign, ByteSign, EndSign, AbortSign}
use Rattle.mb_stream.specs.Denotation.{denotation, items_from, realtimes_from}
use Rattle.mb_stream.specs.Reading.{signs_of}
use Rattle.mb_stream.proofs.ByteKinds.{kind}
use Rattle.mb_stream.proofs.Machine.{Reader, Rest, Waits, Ready, Begun, Inside, ends, tells, after, read, is_inside}
use Rattle.mb_stream.proofs.ReadMarks.{Good, Grows, grows, open_all, Suit-read}
use Rattle.mb_stream.proofs.StandingLemmas.{open_after}
use Rattle.mb_stream.proofs.Suits.{Suit}
use Rattle.mb_din.specs.Recording.{din_reading}
use Rattle.mb_din.proofs.DinMarks.{din-signs}
use Rattle.mb_denote.specs.Counted.{Counted, number_of, is_short_sign, is_end, is_abort, is_rt}
use Rattle.mb_denote.specs.declared.counts.Counts.{Counts}
use Rattle.mb_smoke.specs.Summed.{is_message, is_whole_sysex, is_broken_sysex, how_many, counts_of}

open_all-append : (o : Bool) (xs ys : List Sign) → open_all o (xs ++ ys) ≡ open_all (open_all o xs) ys
open_all-append o [] ys = refl
open_all-append o (x ∷ xs) ys = open_all-append (open_after o x) xs ys

ends-closed : (r : Reader) → open_all (is_inside r) (ends r) ≡ false
ends-closed Inside = refl
ends-closed Rest = refl
ends-closed (Waits runs n s) = refl
ends-closed (Ready n s) = refl
ends-closed (Begun runs s d) = refl

-- no SysEx is open behind a reading
read-closed : (r : Reader) (bs : List ℕ) → Good r → open_all (is_inside r) (read r bs) ≡ false
read-closed r [] g = ends-closed r
read-closed r (b ∷ bs) g =
    let s : Grows r b (kind b) = grows r b (kind b) refl g in
    open_all-append (is_inside r) (tells r (kind b) b) (read (after r (kind b) b) bs)
    ∙ (ap (λ o. open_all o (read (after r (kind b) b) bs)) s.opens ∙ read-closed (after r (kind b) b) bs s.good)

-- the items of marks that suit, and behind which no SysEx is open
record Items (o : Option (List ℕ)) (ms : List Sign) : Type 0 where
  messages : how_many is_message (items_from o ms) ≡ number_of is_short_sign ms
  complete : how_many is_whole_sysex (items_from o ms) ≡ number_of is_end ms
  broken : how_many is_broken_sysex (items_from o ms) ≡ number_of is_abort ms

items-counted : (o : Option (List ℕ)) (ms : List Sign) → Suit (is_some o) ms → open_all (is_some o) ms ≡ false →
    Items o ms
items-counted None [] s c = record { messages = refl; complete = refl; broken = refl }
items-counted (Some ds) [] s c = cc
items-counted None (ShortSign st a b ∷ ms) s c =
    let i = items-counted None ms s.1 c in
    record { messages = omega (arith, i.messages); complete = omega (arith, i.complete); broken = omega (arith, i.broken) }
items-counted (Some ds) (ShortSign st a b ∷ ms) s c = absurd s.0
items-counted None (RtSign b ∷ ms) s c =
    let i = items-counted None ms s.1 c in
    record { messages = omega (arith, i.messages); complete = omega (arith, i.complete); broken = omega (arith, i.broken) }
items-counted (Some ds) (RtSign b ∷ ms) s c =
    let i = items-counted (Some ds) ms s.1 c in
    record { messages = omega (arith, i.messages); complete = omega (arith, i.complete); broken = omega (arith, i.broken) }
items-counted None (OpenSign ∷ ms) s c =
    let i = items-counted (Some []) ms s.1 c in
    record { messages = omega (arith, i.messages); complete = omega (arith, i.complete); broken = omega (arith, i.broken) }
items-counted (Some ds) (OpenSign ∷ ms) s c = absurd s.0
items-counted None (ByteSign b ∷ ms) s c = absurd s.0
items-counted (Some ds) (ByteSign b ∷ ms) s c =
    let i = items-counted (Some (ds ++ b ∷ [])) ms s.1 c in
    record { messages = omega (arith, i.messages); complete = omega (arith, i.complete); broken = omega (arith, i.broken) }
items-counted None (EndSign ∷ ms) s c = absurd s.0
items-counted (Some ds) (EndSign ∷ ms) s c =
    let i = items-counted None ms s.1 c in
    record { messages = omega (arith, i.messages); complete = omega (arith, i.complete); broken = omega (arith, i.broken) }
items-counted None (AbortSign ∷ ms) s c = absurd s.0
items-counted (Some ds) (AbortSign ∷ ms) s c =
    let i = items-counted None ms s.1 c in
    record { messages = omega (arith, i.messages); complete = omega (arith, i.complete); broken = omega (arith, i.broken) }

realtimes-counted : (o : Bool) (n : ℕ) (ms : List Sign) → length (realtimes_from o n ms) ≡ number_of is_rt ms
realtimes-counted o n [] = refl
realtimes-counted o n (ShortSign s a b ∷ ms) = omega (arith, realtimes-counted o (suc n) ms)
realtimes-counted o n (RtSign b ∷ ms) = omega (arith, realtimes-counted o n ms)
realtimes-counted o n (OpenSign ∷ ms) = omega (arith, realtimes-counted true n ms)
realtimes-counted o n (ByteSign b ∷ ms) = omega (arith, realtimes-counted o n ms)
realtimes-counted false n (EndSign ∷ ms) = omega (arith, realtimes-counted false n ms)
realtimes-counted true n (EndSign ∷ ms) = omega (arith, realtimes-counted false (suc n) ms)
realtimes-counted o n (AbortSign ∷ ms) = omega (arith, realtimes-counted false n ms)

abbrev counts_with : (msg syx broken rt : ℕ) → Counts
counts_with msg syx broken rt = record { msg = msg; syx = syx; broken = broken; rt = rt }

counts-equal : (c : Counts) (ms : List Sign) → Counted c ms → Items None ms →
    length (realtimes_from false 0 ms) ≡ number_of is_rt ms → c ≡ counts_of (denotation ms)
counts-equal c ms k i r =
    ap (λ n. counts_with n c.syx c.broken c.rt) (k.messages ∙ sym i.messages)
    ∙ (ap (λ n. counts_with (how_many is_message (items_from None ms)) n c.broken c.rt) (k.complete ∙ sym i.complete)
    ∙ (ap (λ n. counts_with (how_many is_message (items_from None ms)) (how_many is_whole_sysex (items_from None ms))
    n c.rt)
    (k.broken_off ∙ sym i.broken)
    ∙ ap (λ n. counts_with (how_many is_message (items_from None ms)) (how_many is_whole_sysex (items_from None ms))
    (how_many is_broken_sysex (items_from None ms)) n) (k.realtimes ∙ sym r)))

-- the counts of a reading's marks are those of what it means
pub meant-counted : (c : Counts) (bytes : List ℕ) → Counted c (signs_of (din_reading bytes)) →
    c ≡ counts_of (denotation (signs_of (din_reading bytes)))
meant-counted c bytes h =
    let ms : List Sign = read Rest bytes in
    let e : signs_of (din_reading bytes) ≡ read Rest bytes = din-signs bytes in
    let i : Items None (read Rest bytes) = items-counted None (read Rest bytes) (Suit-read Rest bytes tt)
    (read-closed Rest bytes tt) in
    let k : Counted c (read Rest bytes) = subst (λ (xs : List Sign). Counted c xs) e h in
    let same : c ≡ counts_of (denotation (read Rest bytes)) = counts-equal c (read Rest bytes) k i
    (realtimes-counted false 0 (read Rest bytes)) in
    same ∙ ap (λ xs. counts_of (denotation xs)) (sym e)
