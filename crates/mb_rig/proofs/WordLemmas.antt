-- A word names at most one spec, and one track.
use Rattle.std.proofs.Common.{◌≡◌, ◌⊎◌, inl, inr, ⊎_elim, ℕ, zero, suc, ◌+◌, ◌<◌, ◌≤◌, Bool, true, false, Option}
use Rattle.std.proofs.Common.{Some, None, List, [], ◌∷◌, ◌++◌, map, refl, ap, sym, subst, ◌∙◌, arith, codes, decimal}
use Rattle.std.specs.Prelude.{if◌then◌else◌, bytes_eq, IfSome}
use Rattle.std.specs.List.{range_with_len}
use Rattle.std.proofs.lemmas.Bool.{false≢true}
use Rattle.std.proofs.lemmas.Slice.Eq.{bytes_eq-Decides}
use Rattle.mb_carrier.specs.Word.{IsSpec, IsWordOf, word_of}
use Rattle.mb_carrier.specs.declared.spec.Spec.{Spec}
use Rattle.mb_carrier.specs.declared.spec.Spec.TheVariants.{Din, Usb, Fire, Ble}
use Rattle.mb_carrier.proofs.WordLemmas.{one_spec, word-is_spec, word_of-names}
use Rattle.mb_rig.specs.RigText.{named, cables, fire_ports, sizes, all_specs, long_word, spec_of}
use Rattle.mb_rig.specs.RigText.{track_of}

abbrev Stands : {A : Type 0} → List A → A → Type 0
Stands [] y = ⊥
Stands (x ∷ xs) y = (y ≡ x) ⊎ Stands xs y

stands-left : {A : Type 0} (xs ys : List A) (z : A) → Stands xs z → Stands (xs ++ ys) z
stands-left [] ys z s = absurd s
stands-left (x ∷ xs) ys z (inl e) = inl e
stands-left (x ∷ xs) ys z (inr s) = inr (stands-left xs ys z s)

stands-right : {A : Type 0} (xs ys : List A) (z : A) → Stands ys z → Stands (xs ++ ys) z
stands-right [] ys z s = s
stands-right (x ∷ xs) ys z s = inr (stands-right xs ys z s)

stands-either : {A : Type 0} (xs ys : List A) (z : A) → Stands (xs ++ ys) z → Stands xs z ⊎ Stands ys z
stands-either [] ys z s = inr s
stands-either (x ∷ xs) ys z (inl e) = inl (inl e)
stands-either (x ∷ xs) ys z (inr s) =
    ⊎_elim (λ (l : Stands xs z). inl (inr l)) (λ (r : Stands ys z). inr r) (stands-either xs ys z s)

same_or_above : (n c : ℕ) → n ≤ c → (c ≡ n) ⊎ (n + 1 ≤ c)
same_or_above zero zero h = inl refl
same_or_above zero (suc c) h = inr (omega arith)
same_or_above (suc n) zero h = absurd (omega (arith, h))
same_or_above (suc n) (suc c) h = ⊎_elim (λ (e : c ≡ n). inl (ap suc e)) (λ (l : n + 1 ≤ c). inr (omega (arith, l)))
    (same_or_above n c (omega (arith, h)))

stands-range : {A : Type 0} (f : ℕ → A) (n count c : ℕ) → n ≤ c → c < n + count →
    Stands (map f (range_with_len n count)) (f c)
stands-range f n zero c low high = absurd (omega (arith, low, high))
stands-range f n (suc count) c low high = ⊎_elim (λ (e : c ≡ n). inl (ap f e))
    (λ (l : n + 1 ≤ c). inr (stands-range f (n + 1) count c l (omega (arith, high)))) (same_or_above n c low)

range-stands : {A : Type 0} (f : ℕ → A) (n count : ℕ) (y : A) → Stands (map f (range_with_len n count)) y →
    (c : ℕ) × (y ≡ f c) × (n ≤ c) × (c < n + count)
range-stands f n zero y s = absurd s
range-stands f n (suc count) y (inl e) = (n, e, omega arith, omega arith)
range-stands f n (suc count) y (inr s) =
    let r = range-stands f (n + 1) count y s in
    (r.0, r.1, (let l : n + 1 ≤ r.0 = r.2 in omega (arith, l)), (let h : r.0 < n + 1 + count = r.3 in omega (arith, h)))

-- what is found, and nothing else, is the first of this word
named-is : {A : Type 0} (word_by : A → List ℕ) (xs : List A) (word : List ℕ) (r : Option A) →
    ((x : A) → Stands xs x → word ≡ word_by x → r ≡ Some x) →
    (r ≡ None) ⊎ ((x : A) × (r ≡ Some x) × (word ≡ word_by x) × Stands xs x) → r ≡ named word_by xs word
named-is word_by [] word r only (inl e) = e
named-is word_by [] word r only (inr f) = absurd f.3
named-is {A} word_by (x ∷ xs) word r only found =
    by (bytes_eq (word_by x) word) refl (λ f. named-is word_by xs word r (λ y s e. only y (inr s) e) f)
  where
    Found : List A → Type 0
    Found ys = (r ≡ None) ⊎ ((y : A) × (r ≡ Some y) × (word ≡ word_by y) × Stands ys y)

    behind : (bytes_eq (word_by x) word ≡ false) → Found (x ∷ xs) → Found xs
    behind e (inl n) = inl n
    behind e (inr f) = ⊎_elim
        (λ (s : f.0 ≡ x). absurd (false≢true
        (sym e ∙ (bytes_eq-Decides (word_by x) word).1 (ap word_by (sym s) ∙ sym f.2))))
        (λ (s : Stands xs f.0). inr (f.0, f.1, f.2, s)) f.3

    by : (t : Bool) → bytes_eq (word_by x) word ≡ t → (Found xs → r ≡ named word_by xs word) →
        r ≡ named word_by (x ∷ xs) word
    by true e rest = only x (inl refl) (sym ((bytes_eq-Decides (word_by x) word).0 e)) ∙
        ap (λ (t : Bool). if t then Some x else named word_by xs word) (sym e)
    by false e rest = rest (behind e found) ∙ ap (λ (t : Bool). if t then Some x else named word_by xs word) (sym e)

-- specs

spec-stands : (s : Spec) → IsSpec s → Stands all_specs s
spec-stands Din is = inl refl
spec-stands (Usb c) is = inr (stands-left cables (fire_ports ++ sizes) (Usb c)
    (stands-range Usb 0 16 c (omega arith) (omega (arith, is))))
spec-stands (Fire p) is = inr (stands-right cables (fire_ports ++ sizes) (Fire p)
    (stands-left fire_ports sizes (Fire p) (stands-range Fire 0 64 p (omega arith) (omega (arith, is)))))
spec-stands (Ble n) is = inr (stands-right cables (fire_ports ++ sizes) (Ble n)
    (stands-right fire_ports sizes (Ble n) (stands-range Ble 5 508 n (omega (arith, is.0)) (omega (arith, is.1)))))

usb-is : (s : Spec) → ((c : ℕ) × (s ≡ Usb c) × (0 ≤ c) × (c < 0 + 16)) → IsSpec s
usb-is s f = subst IsSpec (sym f.1) (let h : f.0 < 0 + 16 = f.3 in omega (arith, h))

fire-is : (s : Spec) → ((c : ℕ) × (s ≡ Fire c) × (0 ≤ c) × (c < 0 + 64)) → IsSpec s
fire-is s f = subst IsSpec (sym f.1) (let h : f.0 < 0 + 64 = f.3 in omega (arith, h))

ble-is : (s : Spec) → ((c : ℕ) × (s ≡ Ble c) × (5 ≤ c) × (c < 5 + 508)) → IsSpec s
ble-is s f = subst IsSpec (sym f.1) (f.2, (let h : f.0 < 5 + 508 = f.3 in omega (arith, h)))

stands-spec : (s : Spec) → Stands all_specs s → IsSpec s
stands-spec s (inl e) = subst IsSpec (sym e) tt
stands-spec s (inr f) = ⊎_elim (λ (u : Stands cables s). usb-is s (range-stands Usb 0 16 s u))
    (λ (g : Stands (fire_ports ++ sizes) s). ⊎_elim
    (λ (p : Stands fire_ports s). fire-is s (range-stands Fire 0 64 s p))
    (λ (b : Stands sizes s). ble-is s (range-stands Ble 5 508 s b))
    (stands-either fire_ports sizes s g))
    (stands-either cables (fire_ports ++ sizes) s f)

-- a word and its long form
long-same : (word : List ℕ) → bytes_eq word (codes "ble") ≡ false → long_word word ≡ word
long-same word e = ap (λ (t : Bool). if t then word_of (Ble 20) else word) e

long-ble : (word : List ℕ) → word ≡ codes "ble" → long_word word ≡ word_of (Ble 20)
long-ble word e = ap (λ (t : Bool). if t then word_of (Ble 20) else word) ((bytes_eq-Decides word (codes "ble")).1 e)

word-long : (word : List ℕ) (s : Spec) → IsSpec s → long_word word ≡ word_of s → IsWordOf word s
word-long word s is e = by (bytes_eq word (codes "ble")) refl
  where
    by : (t : Bool) → bytes_eq word (codes "ble") ≡ t → IsWordOf word s
    by true h =
        let same : word ≡ codes "ble" = (bytes_eq-Decides word (codes "ble")).0 h in
        let long : word_of s ≡ word_of (Ble 20) = sym e ∙ long-ble word same in
        let one : s ≡ Ble 20 = one_spec (word_of s) s (Ble 20) (word_of-names s is)
        (subst (λ w. IsWordOf w (Ble 20)) (sym long) (word_of-names (Ble 20) (omega arith, omega arith))) in
        subst (λ t. IsWordOf word t) (sym one) (inr (same, refl))
    by false h = subst (λ w. IsWordOf w s) (sym e ∙ long-same word h) (word_of-names s is)

long-word : (word : List ℕ) (s : Spec) → IsWordOf word s → long_word word ≡ word_of s
long-word word Din e = ap long_word e
long-word word (Usb c) e = ap long_word e.1
long-word word (Fire p) e = ap long_word e.1
long-word word (Ble n) (inl e) = ap long_word e.2
long-word word (Ble n) (inr e) = long-ble word e.0 ∙ ap (λ n. word_of (Ble n)) (sym e.1)

pub spec-read : (word : List ℕ) (r : Option Spec) → IfSome r (IsWordOf word) →
    ((s : Spec) → IsWordOf word s → r ≡ Some s) → r ≡ spec_of word
unfolding spec_of
spec-read word r found only = named-is word_of all_specs (long_word word) r
    (λ s st e. only s (word-long word s (stands-spec s st) e)) (by r refl found)
  where
    by : (q : Option Spec) → r ≡ q → IfSome q (IsWordOf word) →
        (r ≡ None) ⊎ ((s : Spec) × (r ≡ Some s) × (long_word word ≡ word_of s) × Stands all_specs s)
    by None e f = inl e
    by (Some s) e f = inr (s, e, long-word word s f, spec-stands s (word-is_spec word s f))

named-stands : {A : Type 0} (word_by : A → List ℕ) (xs : List A) (word : List ℕ) (y : A) →
    named word_by xs word ≡ Some y → Stands xs y
named-stands word_by [] word y e = absurd (none-some y e)
  where
    none-some : {A : Type 0} (y : A) → None ≡ Some y → ⊥
    none-some y e = cc
named-stands {A} word_by (x ∷ xs) word y e =
    by (bytes_eq (word_by x) word) e (λ f. named-stands word_by xs word y f)
  where
    same : {x y : A} → Some x ≡ Some y → y ≡ x
    same e = cc

    by : (t : Bool) → (if t then Some x else named word_by xs word) ≡ Some y →
        (named word_by xs word ≡ Some y → Stands xs y) → (y ≡ x) ⊎ Stands xs y
    by true f rest = inl (same f)
    by false f rest = inr (rest f)

pub spec_of-is : (word : List ℕ) (s : Spec) → spec_of word ≡ Some s → IsSpec s
unfolding spec_of
spec_of-is word s e = stands-spec s (named-stands word_of all_specs (long_word word) s e)

-- tracks

map-id : (xs : List ℕ) → map (λ n. n) xs ≡ xs
map-id [] = refl
map-id (x ∷ xs) = ap (λ ys. x ∷ ys) (map-id xs)

pub track-read : (word : List ℕ) (r : Option ℕ) → IfSome r (λ n. n ≤ 255) → IfSome r (λ n. word ≡ decimal n) →
    ((n : ℕ) → n ≤ 255 → word ≡ decimal n → r ≡ Some n) → r ≡ track_of word
unfolding track_of
track-read word r within digits only = named-is decimal (range_with_len 0 256) word r
    (λ n st e. only n (low n st) e) (by r refl within digits)
  where
    Tracks : ℕ → Type 0
    Tracks n = Stands (range_with_len 0 256) n

    low : (n : ℕ) → Tracks n → n ≤ 255
    low n st =
        let f = range-stands (λ n. n) 0 256 n (subst (λ xs. Stands xs n) (sym (map-id (range_with_len 0 256))) st) in
        let e : n ≡ f.0 = f.1 in
        let h : f.0 < 0 + 256 = f.3 in
        omega (arith, e, h)

    by : (q : Option ℕ) → r ≡ q → IfSome q (λ n. n ≤ 255) → IfSome q (λ n. word ≡ decimal n) →
        (r ≡ None) ⊎ ((n : ℕ) × (r ≡ Some n) × (word ≡ decimal n) × Tracks n)
    by None e w d = inl e
    by (Some n) e w d = inr (
      n,
      e,
      d,
      subst (λ xs. Stands xs n) (map-id (range_with_len 0 256))
          (stands-range (λ n. n) 0 256 n (omega arith) (omega (arith, w))),
    )
