-- Note Offs behind marks that leave no SysEx open.
use Rattle.std.proofs.Common.{◌≡◌, ℕ, suc, Bool, true, false, List, [], ◌∷◌, ◌++◌, map, Option, Some, None, is_some}
use Rattle.std.proofs.Common.{refl}
use Rattle.std.proofs.Common.{sym, ap, ap₂}
use Rattle.std.proofs.lemmas.Bool.{false≢true}
use Rattle.mb_message.specs.Signs.{Sign, ShortSign, RtSign, OpenSign, ByteSign, EndSign, AbortSign}
use Rattle.mb_stream.specs.Denotation.{Meant, Message, Syx, Broken, Timed, Denotation}
use Rattle.mb_stream.specs.Denotation.{items_from, realtimes_from, denotation, stays_open}
use Rattle.mb_guard.specs.Sounding.{Voice, sounding, off_of, offs, off_sign, off_marks, with_items}

offs-items : (vs : List Voice) → items_from None (map off_sign vs) ≡ map off_of vs
offs-items [] = refl
offs-items (v ∷ vs) = ap (λ is. off_of v ∷ is) (offs-items vs)

items-followed : (vs : List Voice) (o : Option (List ℕ)) (ms : List Sign) → stays_open (is_some o) ms ≡ false →
    items_from o (ms ++ map off_sign vs) ≡ items_from o ms ++ map off_of vs
items-followed vs None [] h = offs-items vs
items-followed vs (Some ds) [] h = absurd (false≢true (sym h))
items-followed vs o (ShortSign s a b ∷ ms) h = ap (λ is. Message s a b ∷ is) (items-followed vs o ms h)
items-followed vs o (RtSign b ∷ ms) h = items-followed vs o ms h
items-followed vs o (OpenSign ∷ ms) h = items-followed vs (Some []) ms h
items-followed vs None (ByteSign b ∷ ms) h = items-followed vs None ms h
items-followed vs (Some ds) (ByteSign b ∷ ms) h = items-followed vs (Some (ds ++ b ∷ [])) ms h
items-followed vs None (EndSign ∷ ms) h = items-followed vs None ms h
items-followed vs (Some ds) (EndSign ∷ ms) h = ap (λ is. Syx ds ∷ is) (items-followed vs None ms h)
items-followed vs None (AbortSign ∷ ms) h = items-followed vs None ms h
items-followed vs (Some ds) (AbortSign ∷ ms) h = ap (λ is. Broken ds ∷ is) (items-followed vs None ms h)

offs-silent : (vs : List Voice) (o : Bool) (n : ℕ) → realtimes_from o n (map off_sign vs) ≡ []
offs-silent [] o n = refl
offs-silent (v ∷ vs) o n = offs-silent vs o (suc n)

realtimes-followed : (vs : List Voice) (o : Bool) (n : ℕ) (ms : List Sign) →
    realtimes_from o n (ms ++ map off_sign vs) ≡ realtimes_from o n ms
realtimes-followed vs o n [] = offs-silent vs o n
realtimes-followed vs o n (ShortSign s a b ∷ ms) = realtimes-followed vs o (suc n) ms
realtimes-followed vs o n (RtSign b ∷ ms) =
    ap (λ rs. record { byte = b; after = n } ∷ rs) (realtimes-followed vs o n ms)
realtimes-followed vs o n (OpenSign ∷ ms) = realtimes-followed vs true n ms
realtimes-followed vs o n (ByteSign b ∷ ms) = realtimes-followed vs o n ms
realtimes-followed vs false n (EndSign ∷ ms) = realtimes-followed vs false n ms
realtimes-followed vs true n (EndSign ∷ ms) = realtimes-followed vs false (suc n) ms
realtimes-followed vs o n (AbortSign ∷ ms) = realtimes-followed vs false n ms

pub offs-follow : (marks : List Sign) → stays_open false marks ≡ false →
    denotation (marks ++ off_marks marks) ≡ with_items (denotation marks) (offs (denotation marks).items)
offs-follow marks h =
    let vs : List Voice = sounding (denotation marks).items in
    let with_both : List Meant → List Timed → Denotation = λ is rs. record { items = is; realtimes = rs } in
    ap₂ with_both (items-followed vs None marks h) (realtimes-followed vs false 0 marks)
