-- What was written while the recording goes on stays, and has the moments that it will have: by the laws of the specs
-- alone.
use Rattle.std.proofs.Common.{◌≡◌, ℕ, zero, suc, ◌+◌, ◌-◌, ◌<◌, ◌≤◌, true, List, [], ◌∷◌, ◌++◌, length, refl, sym}
use Rattle.std.proofs.Common.{subst, ◌∙◌, ap, arith, append_assoc, length-append}
use Rattle.std.specs.Prelude.{get_or}
use Rattle.std.proofs.lemmas.List.{append-nil}
use Rattle.mb_message.specs.Signs.{Sign}
use Rattle.mb_stream.specs.Puts.{Put, At, Flush, signs_in, puts_at, last_put}
use Rattle.mb_stream.specs.Standing.{suited}
use Rattle.mb_stream.specs.Order.{Each}
use Rattle.mb_message.specs.Front.{IsFront}
use Rattle.mb_stream.specs.Reading.{told_signs}
use Rattle.mb_carrier.specs.Carrier.{known, puts_known, puts_so_far, puts_of, end_moment, end_told, live, written}
use Rattle.mb_carrier.specs.Conversion.{repeated, live_moments, moments_of, none_set, carried, through, carried_so_far}
use Rattle.mb_carrier.specs.Conversion.{live_through}
use Rattle.mb_carrier.specs.Hop.{HaveMoment}
use Rattle.mb_carrier.specs.Laws.{CarrierLaws, GrowLaws}
use Rattle.mb_carrier.specs.declared.spec.Spec.{Spec}
use Rattle.mb_carrier.proofs.PutLemmas.{puts_known-append, puts_of-in}
use Rattle.mb_carrier.proofs.ReadingLemmas.{puts-front}
use Rattle.mb_carrier.proofs.Fronts.{front-then}

-- Moments: of a front of the puts they are the same, as far as its live part goes.

repeated-length : (n m : ℕ) → length (repeated n m) ≡ n
repeated-length zero m = refl
repeated-length (suc n) m = ap suc (repeated-length n m)

one-more : (before : List Put) (p : Put) (puts : List Put) → (before ++ p ∷ []) ++ puts ≡ before ++ p ∷ puts
one-more before p puts = append_assoc before (p ∷ []) puts

moments-append : (s : Spec) (before puts more : List Put) →
    live_moments s before (puts ++ more) ≡ live_moments s before puts ++ live_moments s (before ++ puts) more
moments-append s before [] more = ap (λ b. live_moments s b more) (sym (append-nil before))
moments-append s before (p ∷ puts) more =
    let r : List ℕ = repeated (length (live s (before ++ p ∷ [])) - length (live s before))
    (last_put 0 (before ++ p ∷ [])) in
    ap (λ z. r ++ z) (moments-append s (before ++ p ∷ []) puts more
    ∙ ap (λ b. live_moments s (before ++ p ∷ []) puts ++ live_moments s b more) (one-more before p puts))
    ∙ sym (append_assoc r (live_moments s (before ++ p ∷ []) puts) (live_moments s (before ++ p ∷ puts) more))

moments-length : (s : Spec) → GrowLaws s → (before puts : List Put) → suited (signs_in (before ++ puts)) ≡ true →
    length (live_moments s before puts) + length (live s before) ≡ length (live s (before ++ puts))
moments-length s g before [] suits = omega (arith, ap (λ b. length (live s b)) (append-nil before))
moments-length s g before (p ∷ puts) suits =
    let next : List Put = before ++ p ∷ [] in
    let all : suited (signs_in (next ++ puts)) ≡ true = ap (λ b. suited (signs_in b)) (one-more before p puts)
    ∙ suits in
    let f = g.stays before (p ∷ []) (puts-front next puts all) in
    let grown : length (live s next) ≡ length (live s before) + length f.0 = ap length f.1
    ∙ length-append (live s before) f.0 in
    let r : List ℕ = repeated (length (live s next) - length (live s before)) (last_put 0 next) in
    let rest = moments-length s g next puts all in
    let same : length (live s (next ++ puts))
    ≡ length (live s (before ++ p ∷ puts)) = ap (λ b. length (live s b)) (one-more before p puts) in
    omega (
      arith,
      grown,
      length-append r (live_moments s next puts),
      repeated-length (length (live s next) - length (live s before)) (last_put 0 next),
      rest,
      same,
    )

-- each live byte has a moment
live-length : (s : Spec) → GrowLaws s → (puts : List Put) → suited (signs_in puts) ≡ true →
    length (live_moments s [] puts) ≡ length (live s puts)
live-length s g puts suits = omega (
  arith,
  moments-length s g [] puts suits,
  ap (λ
      (bytes : List ℕ). length bytes) g.nothing,
)

get-front : (xs zs : List ℕ) (i d e : ℕ) → i < length xs → get_or xs i d ≡ get_or (xs ++ zs) i e
get-front [] zs i d e h = absurd (omega (arith, h))
get-front (x ∷ xs) zs zero d e h = refl
get-front (x ∷ xs) zs (suc i) d e h = get-front xs zs i d e (omega (arith, h))

get-past : (xs : List ℕ) (i d : ℕ) → length xs ≤ i → get_or xs i d ≡ d
get-past [] i d h = refl
get-past (x ∷ xs) zero d h = absurd (omega (arith, h))
get-past (x ∷ xs) (suc i) d h = get-past xs i d (omega (arith, h))

pub moments-same : (s : Spec) → GrowLaws s → (d e : ℕ) (puts more : List Put) →
    suited (signs_in (puts ++ more)) ≡ true →
    (i : ℕ) → i < length (live s puts) → moments_of s d puts i ≡ moments_of s e (puts ++ more) i
moments-same s g d e puts more suits i h =
    get-front (live_moments s [] puts) (live_moments s puts more) i d e
    (omega (arith, h, live-length s g puts (puts-front puts more suits)))
    ∙ ap (λ z. get_or z i e) (sym (moments-append s [] puts more))

-- Bytes that puts of one moment gave have that moment, and what the finish adds has the end's.

pub last_put-at : (m k : ℕ) (x : Sign) (before : List Put) → last_put m (before ++ At k x ∷ []) ≡ k
last_put-at m k x [] = refl
last_put-at m k x (At n y ∷ ps) = last_put-at n k x ps
last_put-at m k x (Flush ∷ ps) = last_put-at m k x ps

each-repeated : (n m k : ℕ) → m ≡ k → Each (λ i. i ≡ k) (repeated n m)
each-repeated zero m k e = tt
each-repeated (suc n) m k e = (e, each-repeated n m k e)

each-both : (k : ℕ) (xs ys : List ℕ) → Each (λ i. i ≡ k) xs → Each (λ i. i ≡ k) ys → Each (λ i. i ≡ k) (xs ++ ys)
each-both k [] ys e f = f
each-both k (x ∷ xs) ys e f = (e.0, each-both k xs ys e.1 f)

moments-at : (s : Spec) (k : ℕ) (before : List Put) (done : List Sign) →
    Each (λ i. i ≡ k) (live_moments s before (puts_at k done))
moments-at s k before [] = tt
moments-at s k before (x ∷ xs) =
    each-both k _ (live_moments s (before ++ At k x ∷ []) (puts_at k xs))
    (each-repeated _ (last_put 0 (before ++ At k x ∷ [])) k (last_put-at 0 k x before))
    (moments-at s k (before ++ At k x ∷ []) xs)

get-each : (k : ℕ) (ys zs : List ℕ) (i d : ℕ) → i < length ys → Each (λ j. j ≡ k) ys → get_or (ys ++ zs) i d ≡ k
get-each k [] zs i d h e = absurd (omega (arith, h))
get-each k (y ∷ ys) zs zero d h e = e.0
get-each k (y ∷ ys) zs (suc i) d h e = get-each k ys zs i d (omega (arith, h)) e.1

get-middle : (k : ℕ) (xs ys zs : List ℕ) (i d : ℕ) → length xs ≤ i → i < length xs + length ys →
    Each (λ j. j ≡ k) ys → get_or (xs ++ (ys ++ zs)) i d ≡ k
get-middle k [] ys zs i d low high e = get-each k ys zs i d (omega (arith, high)) e
get-middle k (x ∷ xs) ys zs zero d low high e = absurd (omega (arith, low))
get-middle k (x ∷ xs) ys zs (suc i) d low high e = get-middle k xs ys zs i d (omega (arith, low))
    (omega (arith, high)) e

pub held-moment : (t : Spec) → GrowLaws t →
    (end : ℕ) (puts : List Put) (at : ℕ) (done : List Sign) (more : List Put) (base held : List ℕ) →
    suited (signs_in ((puts ++ puts_at at done) ++ more)) ≡ true → live t puts ≡ base →
    live t (puts ++ puts_at at done) ≡ base ++ held →
    HaveMoment (moments_of t end ((puts ++ puts_at at done) ++ more)) (length base) (length held) at
held-moment t g end puts at done more base held suits was now = λ i low high.
    let new : List Put = puts_at at done in
    let both : suited (signs_in (puts ++ new)) ≡ true = puts-front (puts ++ new) more suits in
    let cut : live_moments t [] ((puts ++ new) ++ more)
    ≡ live_moments t [] puts ++ (live_moments t puts new ++ live_moments t (puts ++ new) more) =
    ap (live_moments t []) (append_assoc puts new more)
    ∙ (moments-append t [] puts (new ++ more)
    ∙ ap (λ z. live_moments t [] puts ++ z) (moments-append t puts new more)) in
    let first = live-length t g puts (puts-front puts new both) in
    let second = moments-length t g puts new both in
    let a : length (live t puts) ≡ length base = ap length was in
    let b : length (live t (puts ++ new)) ≡ length base + length held = ap length now ∙ length-append base held in
    ap (λ z. get_or z i end) cut
    ∙ get-middle at (live_moments t [] puts) (live_moments t puts new) (live_moments t (puts ++ new) more) i end
    (omega (arith, first, a, low)) (omega (arith, first, second, a, b, high)) (moments-at t at puts done)

-- what is behind the live part has the end's moment
pub end-moment : (t : Spec) → GrowLaws t → (end : ℕ) (puts : List Put) (from count : ℕ) →
    suited (signs_in puts) ≡ true → length (live t puts) ≤ from →
    HaveMoment (moments_of t end puts) from count end
end-moment t g end puts from count suits long = λ i low high. get-past (live_moments t [] puts) i end
    (omega (arith, live-length t g puts suits, long, low))

-- One hop: of a front of the puts it hands on a front.

pub known-front : (s : Spec) → GrowLaws s → (m : ℕ → ℕ) (bytes all : List ℕ) → IsFront bytes all →
    IsFront (puts_known s m (known s bytes)) (puts_known s m (known s all))
known-front s g m bytes all f =
    let k = g.known_stays bytes f.0 in (
      puts_known s m k.0,
      ap (λ b. puts_known s m (known s b)) f.1
          ∙ (ap (puts_known s m) k.1 ∙ puts_known-append s m (known s bytes) k.0),
    )

hop-front : (s : Spec) → GrowLaws s → (d e : ℕ) (puts more : List Put) (all : List ℕ) →
    suited (signs_in (puts ++ more)) ≡ true → IsFront (live s puts) all →
    IsFront (puts_so_far s (moments_of s d puts) (live s puts))
    (puts_known s (moments_of s e (puts ++ more)) (known s all))
hop-front s g d e puts more all suits f =
    subst (λ (ps : List Put). IsFront ps (puts_known s (moments_of s e (puts ++ more)) (known s all)))
    (sym (g.same (moments_of s d puts) (moments_of s e (puts ++ more)) (live s puts)
    (λ i h. moments-same s g d e puts more suits i h)))
    (known-front s g (moments_of s e (puts ++ more)) (live s puts) all f)

-- Over hops. `q` is behind `p`.

so_far-suits : (s : Spec) → CarrierLaws s → (m : ℕ → ℕ) (bytes : List ℕ) →
    suited (signs_in (puts_so_far s m bytes)) ≡ true
so_far-suits s laws m bytes =
    puts-front (puts_so_far s m bytes) (puts_at (end_moment s m bytes) (told_signs (end_told s bytes)))
    (ap suited (puts_of-in s m bytes (laws.ends bytes)) ∙ laws.suits bytes)

all-suits : (s : Spec) → CarrierLaws s → (m : ℕ → ℕ) (bytes : List ℕ) → suited (signs_in (puts_of s m bytes)) ≡ true
all-suits s laws m bytes = ap suited (puts_of-in s m bytes (laws.ends bytes)) ∙ laws.suits bytes

carried-grows : ((s : Spec) → CarrierLaws s) → ((s : Spec) → GrowLaws s) → (specs : List Spec) (p q : List Put) →
    suited (signs_in q) ≡ true →
    IsFront p q → IsFront (carried_so_far specs p) (carried_so_far specs q)
carried-grows laws grows [] p q suits f = f
carried-grows laws grows (s ∷ specs) p q suits f =
    let g = grows s in
    let both : suited (signs_in (p ++ f.0)) ≡ true = ap (λ z. suited (signs_in z)) (sym f.1) ∙ suits in
    let h = hop-front s g 0 0 p f.0 (live s (p ++ f.0)) both (g.stays p f.0 both) in
    carried-grows laws grows specs (puts_so_far s (moments_of s 0 p) (live s p))
    (puts_so_far s (moments_of s 0 q) (live s q)) (so_far-suits s (laws s) (moments_of s 0 q) (live s q))
    (subst (λ (z : List Put). IsFront (puts_so_far s (moments_of s 0 p) (live s p))
    (puts_so_far s (moments_of s 0 z) (live s z))) (sym f.1) h)

carried-ends : ((s : Spec) → CarrierLaws s) → ((s : Spec) → GrowLaws s) →
    (specs : List Spec) (end : ℕ) (p q : List Put) → suited (signs_in q) ≡ true →
    IsFront p q → IsFront (carried_so_far specs p) (carried specs end q)
carried-ends laws grows [] end p q suits f = f
carried-ends laws grows (s ∷ specs) end p q suits f =
    let g = grows s in
    let m : ℕ → ℕ = moments_of s end q in
    let both : suited (signs_in (p ++ f.0)) ≡ true = ap (λ z. suited (signs_in z)) (sym f.1) ∙ suits in
    let l = front-then (live s p) (live s (p ++ f.0)) (written s (p ++ f.0)) (g.stays p f.0 both)
    (g.closes (p ++ f.0) both) in
    let h = hop-front s g 0 end p f.0 (written s (p ++ f.0)) both l in
    let t : IsFront (puts_so_far s m (written s q)) (puts_of s m (written s q)) =
    (puts_at (end_moment s m (written s q)) (told_signs (end_told s (written s q))), refl) in
    carried-ends laws grows specs (end_moment s m (written s q)) (puts_so_far s (moments_of s 0 p) (live s p))
    (puts_of s m (written s q)) (all-suits s (laws s) m (written s q))
    (front-then (puts_so_far s (moments_of s 0 p) (live s p)) (puts_so_far s m (written s q))
    (puts_of s m (written s q))
    (subst (λ (z : List Put). IsFront (puts_so_far s (moments_of s 0 p) (live s p))
    (puts_so_far s (moments_of s end z) (written s z))) (sym f.1) h) t)

carried-suits : ((s : Spec) → CarrierLaws s) → (specs : List Spec) (end : ℕ) (p : List Put) →
    suited (signs_in p) ≡ true → suited (signs_in (carried specs end p)) ≡ true
carried-suits laws [] end p suits = suits
carried-suits laws (s ∷ specs) end p suits =
    let m : ℕ → ℕ = moments_of s end p in
    carried-suits laws specs (end_moment s m (written s p)) (puts_of s m (written s p))
    (all-suits s (laws s) m (written s p))

so_far-carried : ((s : Spec) → CarrierLaws s) → (specs : List Spec) (p : List Put) → suited (signs_in p) ≡ true →
    suited (signs_in (carried_so_far specs p)) ≡ true
so_far-carried laws [] p suits = suits
so_far-carried laws (s ∷ specs) p suits = so_far-carried laws specs (puts_so_far s (moments_of s 0 p) (live s p))
    (so_far-suits s (laws s) (moments_of s 0 p) (live s p))

-- what was written stays written
pub live-grows : ((s : Spec) → CarrierLaws s) → ((s : Spec) → GrowLaws s) →
    (first : Spec) (between : List Spec) (last : Spec) (bytes more : List ℕ) →
    IsFront (live_through first between last bytes) (live_through first between last (bytes ++ more))
live-grows laws grows first between last bytes more =
    let p : List Put = puts_so_far first none_set bytes in
    let q : List Put = puts_so_far first none_set (bytes ++ more) in
    let suits = so_far-suits first (laws first) none_set (bytes ++ more) in
    let f : IsFront p q = known-front first (grows first) none_set bytes (bytes ++ more) (more, refl) in
    let c = carried-grows laws grows between p q suits f in
    let good = so_far-carried laws between q suits in
    subst (λ (z : List Put). IsFront (live last (carried_so_far between p)) (live last z)) (sym c.1)
    ((grows last).stays (carried_so_far between p) c.0 (ap (λ z. suited (signs_in z)) (sym c.1) ∙ good))

-- and stands at the front of all that is written
pub live-ends : ((s : Spec) → CarrierLaws s) → ((s : Spec) → GrowLaws s) →
    (first : Spec) (between : List Spec) (last : Spec) (bytes more : List ℕ) →
    IsFront (live_through first between last bytes) (through first between last (bytes ++ more))
live-ends laws grows first between last bytes more =
    let all : List ℕ = bytes ++ more in
    let end : ℕ = end_moment first none_set all in
    let p : List Put = puts_so_far first none_set bytes in
    let q : List Put = puts_of first none_set all in
    let suits : suited (signs_in q) ≡ true = all-suits first (laws first) none_set all in
    let f : IsFront p q = front-then p (puts_so_far first none_set all) q
    (known-front first (grows first) none_set bytes all (more, refl))
    (puts_at end (told_signs (end_told first all)), refl) in
    let c = carried-ends laws grows between end p q suits f in
    let good : suited (signs_in (carried_so_far between p ++ c.0)) ≡ true = ap (λ z. suited (signs_in z)) (sym c.1)
    ∙ carried-suits laws between end q suits in
    subst (λ (z : List Put). IsFront (live last (carried_so_far between p)) (written last z)) (sym c.1)
    (front-then (live last (carried_so_far between p)) (live last (carried_so_far between p ++ c.0))
    (written last (carried_so_far between p ++ c.0))
    ((grows last).stays (carried_so_far between p) c.0 good)
    ((grows last).closes (carried_so_far between p ++ c.0) good))
