-- What a cable carries of written marks: bytes of a SysEx wait for a packet, and a real-time byte passes them. It means
-- what the marks' bytes mean at once, since a real-time message may stand anywhere in a SysEx.
use Rattle.std.proofs.Common.{◌≡◌, ℕ, suc, ◌+◌, Bool, true, false, ◌==◌, if◌then◌else◌, List, [], ◌∷◌, ◌++◌, length}
use Rattle.std.proofs.Common.{Option, Some, None, ◌≤◌, refl, sym, ap, ap₂, ◌∙◌, subst, subst₂, append_assoc, append-nil}
use Rattle.std.proofs.Common.{arith}
use Rattle.mb_message.specs.Signs.{Sign, ShortSign, RtSign, OpenSign, ByteSign, EndSign, AbortSign}
use Rattle.mb_stream.specs.Denotation.{Message, Syx, Broken, items_from, realtimes_from, denotation}
use Rattle.mb_stream.specs.Spelling.{data_of, full_bytes}
use Rattle.mb_stream.proofs.ByteKinds.{DataKind, RtKind, kind}
use Rattle.mb_stream.proofs.Machine.{Reader, Rest, Waits, Ready, Begun, Inside, tells, after, tell, read, behind}
use Rattle.mb_stream.proofs.Machine.{read-append, tell-append, behind-append}
use Rattle.mb_stream.proofs.Late.{Closed, late, denotation-late, length-late}
use Rattle.mb_stream.proofs.Passable.{Passable, Passable-append}
use Rattle.mb_stream.proofs.Suits.{Suit}
use Rattle.mb_stream.proofs.SpelledMarks.{read-spelled, full_bytes-spelled}

-- the bytes that are carried of marks, behind bytes of a SysEx that wait; at the end all that waits
abbrev pub held_back : List ℕ → List Sign → List ℕ
held_back p [] = p
held_back p (ShortSign s a b ∷ ms) = (s ∷ data_of s a b) ++ held_back [] ms
held_back p (RtSign b ∷ ms) = b ∷ held_back p ms
held_back p (OpenSign ∷ ms) = held_back (0xf0 ∷ []) ms
held_back p (ByteSign b ∷ ms) = if length p == 2 then p ++ b ∷ held_back [] ms else held_back (p ++ b ∷ []) ms
held_back p (EndSign ∷ ms) = p ++ 0xf7 ∷ held_back [] ms
held_back p (AbortSign ∷ ms) = p ++ held_back [] ms

-- the same meaning behind whatever stands before, and as many marks
pub record Same (xs ys : List Sign) : Type 0 where
  pub items : (o : Option (List ℕ)) → items_from o xs ≡ items_from o ys
  pub realtimes : (o : Bool) (n : ℕ) → realtimes_from o n xs ≡ realtimes_from o n ys
  pub lengths : length xs ≡ length ys

Same-refl : (xs : List Sign) → Same xs xs
Same-refl xs = record { items = λ o. refl; realtimes = λ o n. refl; lengths = refl }

Same-equal : (xs ys : List Sign) → xs ≡ ys → Same xs ys
Same-equal xs ys e = subst (λ zs. Same xs zs) e (Same-refl xs)

Same-trans : (xs ys zs : List Sign) → Same xs ys → Same ys zs → Same xs zs
Same-trans xs ys zs h k = record {
  items = λ o. h.items o ∙ k.items o;
  realtimes = λ o n. h.realtimes o n ∙ k.realtimes o n;
  lengths = h.lengths ∙ k.lengths;
}

items-cons : (z : Sign) (xs ys : List Sign) → ((o : Option (List ℕ)) → items_from o xs ≡ items_from o ys) →
    (o : Option (List ℕ)) → items_from o (z ∷ xs) ≡ items_from o (z ∷ ys)
items-cons (ShortSign s a b) xs ys h None = ap (λ is. Message s a b ∷ is) (h None)
items-cons (ShortSign s a b) xs ys h (Some ds) = ap (λ is. Message s a b ∷ is) (h (Some ds))
items-cons (RtSign b) xs ys h o = h o
items-cons OpenSign xs ys h o = h (Some [])
items-cons (ByteSign b) xs ys h None = h None
items-cons (ByteSign b) xs ys h (Some ds) = h (Some (ds ++ b ∷ []))
items-cons EndSign xs ys h None = h None
items-cons EndSign xs ys h (Some ds) = ap (λ is. Syx ds ∷ is) (h None)
items-cons AbortSign xs ys h None = h None
items-cons AbortSign xs ys h (Some ds) = ap (λ is. Broken ds ∷ is) (h None)

realtimes-cons : (z : Sign) (xs ys : List Sign) → ((o : Bool) (n : ℕ) → realtimes_from o n xs ≡ realtimes_from o n ys) →
    (o : Bool) (n : ℕ) → realtimes_from o n (z ∷ xs) ≡ realtimes_from o n (z ∷ ys)
realtimes-cons (ShortSign s a b) xs ys h o n = h o (suc n)
realtimes-cons (RtSign b) xs ys h o n = ap (λ rs. record { byte = b; after = n } ∷ rs) (h o n)
realtimes-cons OpenSign xs ys h o n = h true n
realtimes-cons (ByteSign b) xs ys h o n = h o n
realtimes-cons EndSign xs ys h false n = h false n
realtimes-cons EndSign xs ys h true n = h false (suc n)
realtimes-cons AbortSign xs ys h o n = h false n

Same-cons : (z : Sign) (xs ys : List Sign) → Same xs ys → Same (z ∷ xs) (z ∷ ys)
Same-cons z xs ys h = record {
  items = items-cons z xs ys h.items;
  realtimes = realtimes-cons z xs ys h.realtimes;
  lengths = ap suc h.lengths;
}

Same-behind : (zs xs ys : List Sign) → Same xs ys → Same (zs ++ xs) (zs ++ ys)
Same-behind [] xs ys h = h
Same-behind (z ∷ zs) xs ys h = Same-cons z (zs ++ xs) (zs ++ ys) (Same-behind zs xs ys h)

early-byte_items : (o : Option (List ℕ)) (b d : ℕ) (xs : List Sign) → items_from o (RtSign b ∷ ByteSign d ∷ xs) ≡
    items_from o (ByteSign d ∷ RtSign b ∷ xs)
early-byte_items None b d xs = refl
early-byte_items (Some ds) b d xs = refl

early-abort_items : (o : Option (List ℕ)) (b : ℕ) (xs : List Sign) → items_from o (RtSign b ∷ AbortSign ∷ xs) ≡
    items_from o (AbortSign ∷ RtSign b ∷ xs)
early-abort_items None b xs = refl
early-abort_items (Some ds) b xs = refl

early : (b : ℕ) (zs xs : List Sign) → Passable zs → Same (RtSign b ∷ (zs ++ xs)) (zs ++ RtSign b ∷ xs)
early b [] xs h = Same-refl (RtSign b ∷ xs)
early b (OpenSign ∷ zs) xs h =
    Same-trans (RtSign b ∷ OpenSign ∷ (zs ++ xs)) (OpenSign ∷ RtSign b ∷ (zs ++ xs)) (OpenSign ∷ (zs ++ RtSign b ∷ xs))
    (record { items = λ o. refl; realtimes = λ o n. refl; lengths = refl })
    (Same-cons OpenSign (RtSign b ∷ (zs ++ xs)) (zs ++ RtSign b ∷ xs) (early b zs xs h))
early b (ByteSign d ∷ zs) xs h =
    Same-trans (RtSign b ∷ ByteSign d ∷ (zs ++ xs)) (ByteSign d ∷ RtSign b ∷ (zs ++ xs)) (ByteSign d ∷
    (zs ++ RtSign b ∷ xs))
    (record { items = λ o. early-byte_items o b d (zs ++ xs); realtimes = λ o n. refl; lengths = refl })
    (Same-cons (ByteSign d) (RtSign b ∷ (zs ++ xs)) (zs ++ RtSign b ∷ xs) (early b zs xs h))
early b (AbortSign ∷ zs) xs h =
    Same-trans (RtSign b ∷ AbortSign ∷ (zs ++ xs)) (AbortSign ∷ RtSign b ∷ (zs ++ xs))
    (AbortSign ∷ (zs ++ RtSign b ∷ xs))
    (record { items = λ o. early-abort_items o b (zs ++ xs); realtimes = λ o n. refl; lengths = refl })
    (Same-cons AbortSign (RtSign b ∷ (zs ++ xs)) (zs ++ RtSign b ∷ xs) (early b zs xs h))
early b (ShortSign s a c ∷ zs) xs h = absurd h
early b (RtSign c ∷ zs) xs h = absurd h
early b (EndSign ∷ zs) xs h = absurd h

-- Bytes of an open SysEx that wait, and the reader before them: behind them it is inside.
pub record Waiting (r : Reader) (p : List ℕ) : Type 0 where
  pub passes : Passable (tell r p)
  pub inside : behind r p ≡ Inside

-- nothing waits where no SysEx is open
abbrev pub HoldsBytes : Bool → Reader → List ℕ → Type 0
HoldsBytes false r [] = Unit {0}
HoldsBytes false r (x ∷ p) = ⊥
HoldsBytes true r p = Waiting r p

pub Waiting-push : (r : Reader) (p : List ℕ) (b : ℕ) → Waiting r p → kind b ≡ DataKind → Waiting r (p ++ b ∷ [])
Waiting-push r p b h e = record {
  passes =
      subst (λ xs. Passable xs) (sym (tell-append r p (b ∷ [])))
      (Passable-append (tell r p) (tell (behind r p) (b ∷ [])) h.passes
      (subst₂ (λ x k. Passable (tells x k b ++ [])) (sym h.inside) (sym e) tt));
  inside = behind-append r p (b ∷ []) ∙ ap₂ (λ x k. after x k b) h.inside e;
}

inside-data : (r : Reader) (b : ℕ) → r ≡ Inside → kind b ≡ DataKind → behind r (b ∷ []) ≡ Inside
inside-data r b h e = ap₂ (λ x k. after x k b) h e

pub Waiting-start : (r : Reader) → Waiting r (0xf0 ∷ [])
Waiting-start r = record { passes = start_passes r; inside = refl }
  where
    start_passes : (r : Reader) → Passable (tell r (0xf0 ∷ []))
    start_passes Rest = tt
    start_passes (Waits runs n s) = tt
    start_passes (Ready n s) = tt
    start_passes (Begun runs s d) = tt
    start_passes Inside = tt

-- the same bytes before both
same_after : (r : Reader) (bs xs ys : List ℕ) → Same (read (behind r bs) xs) (read (behind r bs) ys) →
    Same (read r (bs ++ xs)) (read r (bs ++ ys))
same_after r bs xs ys h =
    subst₂ (λ x y. Same x y) (sym (read-append r bs xs)) (sym (read-append r bs ys))
    (Same-behind (tell r bs) (read (behind r bs) xs) (read (behind r bs) ys) h)

rt_first : (r : Reader) (b : ℕ) (xs : List ℕ) → kind b ≡ RtKind → read r (b ∷ xs) ≡ RtSign b ∷ read r xs
rt_first r b xs e = ap (λ k. tells r k b ++ read (after r k b) xs) e

-- a real-time byte that comes before the bytes that wait
rt_passes : (r : Reader) (b : ℕ) (p xs ys : List ℕ) → kind b ≡ RtKind → Waiting r p →
    Same (read r xs) (read r (p ++ ys)) →
    Same (read r (b ∷ xs)) (read r (p ++ b ∷ ys))
rt_passes r b p xs ys e h same =
    subst₂ (λ x y. Same x y) (sym (rt_first r b xs e))
    (sym (read-append r p (b ∷ ys) ∙ ap (λ zs. tell r p ++ zs) (rt_first (behind r p) b ys e)))
    (Same-trans (RtSign b ∷ read r xs) (RtSign b ∷ (tell r p ++ read (behind r p) ys)) (tell r p ++
    RtSign b ∷ read (behind r p) ys)
    (Same-cons (RtSign b) (read r xs) (tell r p ++ read (behind r p) ys) (subst (λ y. Same (read r xs) y)
    (read-append r p ys) same))
    (early b (tell r p) (read (behind r p) ys) h.passes))

held-full : (ms : List Sign) (o : Bool) (r : Reader) (p : List ℕ) → HoldsBytes o r p → Suit o ms →
    Same (read r (held_back p ms)) (read r (p ++ full_bytes ms))
held-full [] false r [] h su = Same-refl (read r [])
held-full [] true r p h su = Same-equal (read r p) (read r (p ++ [])) (ap (λ bs. read r bs) (sym (append-nil p)))
held-full (ShortSign s a b ∷ ms) false r [] h su =
    same_after r (s ∷ data_of s a b) (held_back [] ms) (full_bytes ms)
    (held-full ms false (behind r (s ∷ data_of s a b)) [] tt su.1)
held-full (ShortSign s a b ∷ ms) true r p h su = absurd su.0
held-full (RtSign b ∷ ms) false r [] h su =
    same_after r (b ∷ []) (held_back [] ms) (full_bytes ms) (held-full ms false (behind r (b ∷ [])) [] tt su.1)
held-full (RtSign b ∷ ms) true r p h su = rt_passes r b p (held_back p ms) (full_bytes ms) su.0 h
    (held-full ms true r p h su.1)
held-full (OpenSign ∷ ms) false r [] h su = held-full ms true r (0xf0 ∷ []) (Waiting-start r) su.1
held-full (OpenSign ∷ ms) true r p h su = absurd su.0
held-full (ByteSign b ∷ ms) false r p h su = absurd su.0
held-full (ByteSign b ∷ ms) true r p h su =
    let Goal : Bool → Type 0 = λ c. Same (read r (if c then p ++ b ∷ held_back [] ms else held_back (p ++ b ∷ []) ms))
    (read r (p ++ b ∷ full_bytes ms)) in
    let later : Same (read (behind (behind r p) (b ∷ [])) (held_back [] ms)) (read (behind (behind r p) (b ∷ []))
    (full_bytes ms)) =
    held-full ms true (behind (behind r p) (b ∷ [])) []
    (record { passes = tt; inside = inside-data (behind r p) b h.inside su.0 }) su.1 in
    let kept : Same (read r (held_back (p ++ b ∷ []) ms)) (read r ((p ++ b ∷ []) ++ full_bytes ms)) =
    held-full ms true r (p ++ b ∷ []) (Waiting-push r p b h su.0) su.1 in
    elim (length p == 2) as Goal [
      | true ↦
          same_after r p (b ∷ held_back [] ms) (b ∷ full_bytes ms)
          (same_after (behind r p) (b ∷ []) (held_back [] ms) (full_bytes ms) later)
      | false ↦ subst (λ bs. Same (read r (held_back (p ++ b ∷ []) ms)) (read r bs))
          (append_assoc p (b ∷ []) (full_bytes ms)) kept
    ]
held-full (EndSign ∷ ms) false r p h su = absurd su.0
held-full (EndSign ∷ ms) true r p h su =
    same_after r p (0xf7 ∷ held_back [] ms) (0xf7 ∷ full_bytes ms)
    (same_after (behind r p) (0xf7 ∷ []) (held_back [] ms) (full_bytes ms)
    (held-full ms false (behind (behind r p) (0xf7 ∷ [])) [] tt su.1))
held-full (AbortSign ∷ ms) false r p h su = absurd su.0
held-full (AbortSign ∷ ms) true r p h su =
    same_after r p (held_back [] ms) (full_bytes ms) (held-full ms false (behind r p) [] tt su.1)
held-full [] false r (x ∷ p) h su = absurd h
held-full (ShortSign s a b ∷ ms) false r (x ∷ p) h su = absurd h
held-full (RtSign b ∷ ms) false r (x ∷ p) h su = absurd h
held-full (OpenSign ∷ ms) false r (x ∷ p) h su = absurd h

pub read-held : (ms : List Sign) → Suit false ms → Same (read Rest (held_back [] ms)) (late Closed ms)
read-held ms su =
    subst (λ xs. Same (read Rest (held_back [] ms)) xs)
    (ap (λ bs. read Rest bs) (full_bytes-spelled None ms) ∙ read-spelled false None Rest Closed ms tt su)
    (held-full ms false Rest [] tt su)

pub denotation-held : (ms : List Sign) → Suit false ms → denotation (read Rest (held_back [] ms)) ≡ denotation ms
denotation-held ms su =
    let s : Same (read Rest (held_back [] ms)) (late Closed ms) = read-held ms su in
    ap₂ (λ is rs. record { items = is; realtimes = rs }) (s.items None) (s.realtimes false 0) ∙ denotation-late ms su

pub length-held : (ms : List Sign) → Suit false ms → length (read Rest (held_back [] ms)) ≤ length ms + 1
length-held ms su = let s : Same (read Rest (held_back [] ms)) (late Closed ms) = read-held ms su in
    omega (arith, length-late ms su, s.lengths)
