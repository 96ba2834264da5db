-- What a call broke, and how long its run is.
use Rattle.std.proofs.Common.{append_assoc, append-nil, length-append, ◌≡◌, ℕ, ◌+◌, ◌-◌, ◌<◌, ◌≤◌, List, [], ◌∷◌, ◌++◌}
use Rattle.std.proofs.Common.{length, map, suc, zero, true, false, Option, Some, None, OnSome, IfSome, refl, arith, ◌∙◌}
use Rattle.std.proofs.Common.{ap, sym, subst, inl, inr, take, drop}
use Rattle.std.specs.Prelude.{◌⊎◌, nat_lt}
use Rattle.mb_din.specs.Reader.{RunNext}
use Rattle.mb_din.specs.State.{State, open_now, fresh, Rests}
use Rattle.mb_stream.specs.ReaderLaw.{IsLongest, NoDataNext, StatusNext, breaks, begins_run, answer}
use Rattle.mb_message.specs.declared.event.Seen.{Seen}
use Rattle.mb_message.specs.declared.event.Seen.TheVariants as seen
use Rattle.mb_message.specs.declared.event.Ev.TheVariants as ev
use Rattle.mb_stream.specs.Told.{Told, Marks}
use Rattle.mb_message.specs.Signs.{ByteSign}
use Rattle.mb_ble.proofs.Bytes.{one_is}
use Rattle.mb_ble.proofs.Groups.{one-taken}
use Rattle.mb_frames.specs.Reading.{room_of, Place, Between, High, Within}
use Rattle.mb_ble.specs.Stands.{passed}

pub rests_of : (now : State) (o : ℕ) → now ≡ record fresh { offset = o } → Rests now
rests_of now o e = subst Rests (sym e) refl

pub runs_of : (was p : State) (at : ℕ) (piece : List ℕ) → p ≡ record was { offset = at } → RunNext p piece →
    RunNext was piece
runs_of was p at piece e r = at_old piece (subst (λ z. RunNext z piece) e r)
  where
    at_old : (xs : List ℕ) → RunNext (record was { offset = at }) xs → RunNext was xs
    at_old [] r = r
    at_old (b ∷ bs) r = r

pub taken_before : {R G : Type 0} (left : List ℕ) (ts : List Told) → left ≡ [] →
    (breaks ts ≡ true → StatusNext left × R) → breaks ts ≡ true → G
taken_before left ts e f b = absurd (subst StatusNext e (f b).0)

pub kept_before : {R : Type 0} (input one left rest taken : List ℕ) (b : ℕ) (ts : List Told) → input ≡ b ∷ rest →
    one ≡ take 1 input → one ≡ taken ++ left →
    (breaks ts ≡ true → StatusNext left × R) → breaks ts ≡ true → StatusNext input × R
kept_before {R} input one left rest taken b ts e f g h t = by
    (one-taken b taken left (sym (one_is input one rest b e f) ∙ g))
  where
    by : ((taken ≡ []) × (left ≡ b ∷ [])) ⊎ ((taken ≡ b ∷ []) × (left ≡ [])) → StatusNext input × R
    by (inr k) = absurd (subst StatusNext k.1 (h t).0)
    by (inl k) = (subst StatusNext (sym e) (subst StatusNext k.1 (h t).0), (h t).1)

false≢true : false ≡ true → ⊥
false≢true e = cc

pub byte_longest : (r : Option Seen) (s : State) (input one final rest : List ℕ) (b : ℕ) → input ≡ b ∷ rest →
    one ≡ take 1 input → OnSome r (answer r ≡ [] → ⊥) → (begins_run (answer r) ≡ true → RunNext s one) →
    ((b : ℕ) (bs : List ℕ) → input ≡ b ∷ bs → nat_lt b 128 ≡ true → open_now s ≡ false) → IfSome r (IsLongest final)
byte_longest None s input one final rest b e f some runs shut = tt
byte_longest (Some (seen.Note x)) s input one final rest b e f some runs shut = tt
byte_longest (Some (seen.Ev (ev.Short x))) s input one final rest b e f some runs shut = tt
byte_longest (Some (seen.Ev (ev.Rt x))) s input one final rest b e f some runs shut = tt
byte_longest (Some (seen.Ev ev.Open)) s input one final rest b e f some runs shut = tt
byte_longest (Some (seen.Ev ev.End)) s input one final rest b e f some runs shut = tt
byte_longest (Some (seen.Ev ev.Abort)) s input one final rest b e f some runs shut = tt
byte_longest (Some (seen.Ev (ev.Run x))) s input one final rest b e f some runs shut = by x.now some runs
  where
    by : (ys : List ℕ) → (map Marks (map ByteSign ys) ≡ [] → ⊥) → (begins_run (map Marks (map ByteSign ys)) ≡ true →
        RunNext s one) → NoDataNext final
    by [] some runs = absurd (some refl)
    by (y ∷ ys) some runs =
        let n = subst (RunNext s) (one_is input one rest b e f) (runs refl) in
        absurd (false≢true (sym (shut b rest e n.0) ∙ n.1))

pub some_rests : {R : Type 0} (r : Option Seen) → OnSome r R → breaks (answer r) ≡ true → R
some_rests None o e = absurd (false≢true e)
some_rests (Some x) o e = o

-- the end of a piece
longest-nil : (r : Option Seen) → IfSome r (IsLongest [])
longest-nil None = tt
longest-nil (Some (seen.Note x)) = tt
longest-nil (Some (seen.Ev (ev.Short x))) = tt
longest-nil (Some (seen.Ev (ev.Rt x))) = tt
longest-nil (Some (seen.Ev ev.Open)) = tt
longest-nil (Some (seen.Ev ev.End)) = tt
longest-nil (Some (seen.Ev ev.Abort)) = tt
longest-nil (Some (seen.Ev (ev.Run x))) = tt

pub room_longest : (r : Option Seen) (n : ℕ) (input : List ℕ) → n ≡ 0 → IfSome r (IsLongest (take n input))
room_longest r n input e = subst (λ z. IfSome r (IsLongest z)) (sym (ap (λ k. take k input) e)) (longest-nil r)

-- What is left of a piece is what is left of the input, as far as the piece may go.
drop-piece : (taken left back : List ℕ) → drop (length taken) (taken ++ (left ++ back)) ≡ left ++ back
drop-piece [] left back = refl
drop-piece (x ∷ xs) left back = drop-piece xs left back

take-front : (left back : List ℕ) → take (length left) (left ++ back) ≡ left
take-front [] back = refl
take-front (x ∷ xs) back = ap (λ z. x ∷ z) (take-front xs back)

take-long : (n : ℕ) (xs : List ℕ) → length xs ≤ n → take n xs ≡ xs
take-long zero [] h = refl
take-long (suc n) [] h = refl
take-long zero (x ∷ xs) h = absurd (omega (arith, h))
take-long (suc n) (x ∷ xs) h = ap (λ z. x ∷ z) (take-long n xs (omega (arith, h)))

drop-long : (n : ℕ) (xs : List ℕ) → length xs ≤ n → drop n xs ≡ []
drop-long zero [] h = refl
drop-long (suc n) [] h = refl
drop-long zero (x ∷ xs) h = absurd (omega (arith, h))
drop-long (suc n) (x ∷ xs) h = drop-long n xs (omega (arith, h))

take-and-drop : (n : ℕ) (xs : List ℕ) → xs ≡ take n xs ++ drop n xs
take-and-drop zero xs = refl
take-and-drop (suc n) [] = refl
take-and-drop (suc n) (x ∷ xs) = ap (λ z. x ∷ z) (take-and-drop n xs)

take-length : (n : ℕ) (xs : List ℕ) → n ≤ length xs → length (take n xs) ≡ n
take-length zero xs h = refl
take-length (suc n) [] h = absurd (omega (arith, h))
take-length (suc n) (x ∷ xs) h = ap suc (take-length n xs (omega (arith, h)))

used-is : (input piece left taken : List ℕ) (len used : ℕ) → len ≤ length input → piece ≡ take len input →
    piece ≡ taken ++ left → used ≡ len - length left → length taken + length left ≡ len
used-is input piece left taken len used short p f u = sym (length-append taken left) ∙
    (ap length (sym f ∙ p) ∙ take-length len input short)

final-is : (input piece left final taken : List ℕ) (len used : ℕ) → len ≤ length input → piece ≡ take len input →
    piece ≡ taken ++ left → used ≡ len - length left → final ≡ drop used input → final ≡ left ++ drop len input
final-is input piece left final taken len used short p f u e =
    let n : used ≡ length taken = omega (arith, u, used-is input piece left taken len used short p f u) in
    let cut : input ≡ taken ++ (left ++ drop len input) = take-and-drop len input ∙
    (ap (λ z. z ++ drop len input) (sym p ∙ f) ∙ append_assoc taken left (drop len input)) in
    e ∙ (ap (λ k. drop k input) n ∙ (ap (drop (length taken)) cut ∙ drop-piece taken left (drop len input)))

status-more : (xs ys : List ℕ) → StatusNext xs → StatusNext (xs ++ ys)
status-more [] ys s = absurd s
status-more (x ∷ xs) ys s = s

pub content_before : {R : Type 0} (input piece left final taken : List ℕ) (len used : ℕ) (ts : List Told) →
    len ≤ length input → piece ≡ take len input → piece ≡ taken ++ left → used ≡ len - length left →
    final ≡ drop used input →
    (breaks ts ≡ true → StatusNext left × R) → breaks ts ≡ true → StatusNext final × R
content_before input piece left final taken len used ts short p f u e h b = (
  subst StatusNext (sym (final-is input piece left final taken len used short p f u e))
      (status-more left (drop len input) (h b).0),
  (h b).1,
)

room-passed : (p : Place) (used : ℕ) → room_of (passed p used) ≡ room_of p - used
room-passed Between used = omega arith
room-passed (High h) used = omega arith
room-passed (Within left) used = refl

left-is : (input piece left final taken : List ℕ) (len used room : ℕ) → len ≤ length input → len ≤ room →
    (len ≡ length input) ⊎ (len ≡ room) → piece ≡ take len input → piece ≡ taken ++ left → used ≡ len - length left →
    final ≡ drop used input → take (room - used) final ≡ left
left-is input piece left final taken len used room short fits which p f u e = by which
  where
    n : length taken + length left ≡ len
    n = used-is input piece left taken len used short p f u

    fin : final ≡ left ++ drop len input
    fin = final-is input piece left final taken len used short p f u e

    by : (len ≡ length input) ⊎ (len ≡ room) → take (room - used) final ≡ left
    by (inl all) =
        let none : drop len input ≡ [] = drop-long len input (omega (arith, all)) in
        ap (take (room - used)) (fin ∙ (ap (λ z. left ++ z) none ∙ append-nil left)) ∙
        take-long (room - used) left (omega (arith, n, u, fits))
    by (inr full) =
        let k : room - used ≡ length left = omega (arith, n, u, full) in
        ap (λ z. take z final) k ∙ (ap (take (length left)) fin ∙ take-front left (drop len input))

full-or-less : (m n : ℕ) → m ≤ n → (m < n) ⊎ (m ≡ n)
full-or-less zero zero h = inr refl
full-or-less zero (suc n) h = inl (omega arith)
full-or-less (suc m) zero h = absurd (omega (arith, h))
full-or-less (suc m) (suc n) h = up (full-or-less m n (omega (arith, h)))
  where
    up : (m < n) ⊎ (m ≡ n) → (suc m < suc n) ⊎ (suc m ≡ suc n)
    up (inl l) = inl (omega (arith, l))
    up (inr e) = inr (ap suc e)

which-is : (len room n : ℕ) → len ≤ room → len ≤ n → (len < room → n ≤ len) → (len ≡ n) ⊎ (len ≡ room)
which-is len room n fits short more = by (full-or-less len room fits)
  where
    by : (len < room) ⊎ (len ≡ room) → (len ≡ n) ⊎ (len ≡ room)
    by (inl l) = inl (omega (arith, short, more l))
    by (inr e) = inr e

pub content_longest : (r : Option Seen) (was now : Place) (input piece left final taken : List ℕ) (len used : ℕ) →
    len ≤ length input → len ≤ room_of was → (len < room_of was → length input ≤ len) → piece ≡ take len input →
    piece ≡ taken ++ left → used ≡ len - length left → final ≡ drop used input →
    now ≡ passed was used → IfSome r (IsLongest left) → IfSome r (IsLongest (take (room_of now) final))
content_longest r was now input piece left final taken len used short fits which p f u e moves l =
    subst (λ z. IfSome r (IsLongest z)) (sym (ap (λ z. take z final) (ap room_of moves ∙ room-passed was used) ∙
    left-is input piece left final taken len used (room_of was) short fits (which-is len (room_of was)
    (length input) fits short which) p f u e)) l
