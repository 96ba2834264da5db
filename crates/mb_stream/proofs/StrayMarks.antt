-- An end, an abort or a data byte where no SysEx is open counts for nothing in what a list means. The three are `m`
-- here: a mark whose step at a closed place is no step.
use Rattle.std.proofs.Common.{◌≡◌, ℕ, suc, Bool, true, false, List, [], ◌∷◌, ◌++◌, Option, Some, None, is_some, refl}
use Rattle.std.proofs.Common.{sym, ap, ap₂}
use Rattle.std.proofs.lemmas.Bool.{false≢true}
use Rattle.mb_message.specs.Signs.{Sign, ShortSign, RtSign, OpenSign, ByteSign, EndSign, AbortSign}
use Rattle.mb_stream.specs.Denotation.{Message, Syx, Broken, items_from, realtimes_from, denotation, stays_open}

items-stray : (m : Sign) (more : List Sign) → items_from None (m ∷ more) ≡ items_from None more →
    (o : Option (List ℕ)) (ms : List Sign) → stays_open (is_some o) ms ≡ false →
    items_from o (ms ++ m ∷ more) ≡ items_from o (ms ++ more)
items-stray m more e None [] h = e
items-stray m more e (Some ds) [] h = absurd (false≢true (sym h))
items-stray m more e o (ShortSign s a b ∷ ms) h = ap (λ is. Message s a b ∷ is) (items-stray m more e o ms h)
items-stray m more e o (RtSign b ∷ ms) h = items-stray m more e o ms h
items-stray m more e o (OpenSign ∷ ms) h = items-stray m more e (Some []) ms h
items-stray m more e None (ByteSign b ∷ ms) h = items-stray m more e None ms h
items-stray m more e (Some ds) (ByteSign b ∷ ms) h = items-stray m more e (Some (ds ++ b ∷ [])) ms h
items-stray m more e None (EndSign ∷ ms) h = items-stray m more e None ms h
items-stray m more e (Some ds) (EndSign ∷ ms) h = ap (λ is. Syx ds ∷ is) (items-stray m more e None ms h)
items-stray m more e None (AbortSign ∷ ms) h = items-stray m more e None ms h
items-stray m more e (Some ds) (AbortSign ∷ ms) h = ap (λ is. Broken ds ∷ is) (items-stray m more e None ms h)

realtimes-stray : (m : Sign) (more : List Sign) →
    ((n : ℕ) → realtimes_from false n (m ∷ more) ≡ realtimes_from false n more) →
    (o : Bool) (n : ℕ) (ms : List Sign) → stays_open o ms ≡ false →
    realtimes_from o n (ms ++ m ∷ more) ≡ realtimes_from o n (ms ++ more)
realtimes-stray m more e false n [] h = e n
realtimes-stray m more e true n [] h = absurd (false≢true (sym h))
realtimes-stray m more e o n (ShortSign s a b ∷ ms) h = realtimes-stray m more e o (suc n) ms h
realtimes-stray m more e o n (RtSign b ∷ ms) h =
    ap (λ rs. record { byte = b; after = n } ∷ rs) (realtimes-stray m more e o n ms h)
realtimes-stray m more e o n (OpenSign ∷ ms) h = realtimes-stray m more e true n ms h
realtimes-stray m more e o n (ByteSign b ∷ ms) h = realtimes-stray m more e o n ms h
realtimes-stray m more e false n (EndSign ∷ ms) h = realtimes-stray m more e false n ms h
realtimes-stray m more e true n (EndSign ∷ ms) h = realtimes-stray m more e false (suc n) ms h
realtimes-stray m more e o n (AbortSign ∷ ms) h = realtimes-stray m more e false n ms h

stray : (m : Sign) (marks more : List Sign) → items_from None (m ∷ more) ≡ items_from None more →
    ((n : ℕ) → realtimes_from false n (m ∷ more) ≡ realtimes_from false n more) → stays_open false marks ≡ false →
    denotation (marks ++ m ∷ more) ≡ denotation (marks ++ more)
stray m marks more items realtimes h =
    ap₂ (λ is rs. record { items = is; realtimes = rs }) (items-stray m more items None marks h)
    (realtimes-stray m more realtimes false 0 marks h)

pub stray-end : (marks more : List Sign) → stays_open false marks ≡ false →
    denotation (marks ++ EndSign ∷ more) ≡ denotation (marks ++ more)
stray-end marks more h = stray EndSign marks more refl (λ n. refl) h

pub stray-abort : (marks more : List Sign) → stays_open false marks ≡ false →
    denotation (marks ++ AbortSign ∷ more) ≡ denotation (marks ++ more)
stray-abort marks more h = stray AbortSign marks more refl (λ n. refl) h

pub stray-byte : (marks more : List Sign) (byte : ℕ) → stays_open false marks ≡ false →
    denotation (marks ++ ByteSign byte ∷ more) ≡ denotation (marks ++ more)
stray-byte marks more byte h = stray (ByteSign byte) marks more refl (λ n. refl) h
