-- Blocks without a byte, and a byte that is put into one of them.
use Rattle.std.proofs.Common.{◌≡◌, ℕ, zero, suc, ◌+◌, ◌-◌, ◌*◌, ◌<◌, Option, Some, None, List, [], ◌∷◌, ◌++◌, length}
use Rattle.std.proofs.Common.{flat_map, get_or, refl, sym, ◌∙◌, ap, arith, append_assoc, append-nil, ap₂, length-append, ◌/◌, ◌%◌}
use Rattle.std.proofs.Math.ListN.{set}
use Rattle.std.proofs.lemmas.List.{set-append_right}
use Rattle.mb_fire.specs.Written.{quadlet, block, no_bytes, alone, packet_of}
use Rattle.mb_fire.specs.Running.{next_dbc, fire_from}
use Rattle.mb_fire.proofs.WrittenPackets.{length-block}

-- so many quadlets without a byte
abbrev pub empty : ℕ → List ℕ
empty zero = []
empty (suc n) = 0x80 ∷ 0 ∷ 0 ∷ 0 ∷ empty n

empty-append : (m n : ℕ) → empty (m + n) ≡ empty m ++ empty n
empty-append zero n = let same : 0 + n ≡ n = omega arith in ap empty same
empty-append (suc m) n =
    let same : suc m + n ≡ suc (m + n) = omega arith in
    ap empty same ∙ ap (λ z. 0x80 ∷ 0 ∷ 0 ∷ 0 ∷ z) (empty-append m n)

empty-block : (k : ℕ) → block k None ≡ empty (k + 1)
empty-block zero = refl
empty-block (suc k) =
    let same : suc k + 1 ≡ suc (k + 1) = omega arith in
    ap (λ z. 0x80 ∷ 0 ∷ 0 ∷ 0 ∷ z) (empty-block k) ∙ ap empty (sym same)

none : ℕ → List (Option ℕ)
none zero = []
none (suc n) = None ∷ none n

empty-many : (k n : ℕ) → flat_map (block k) (none n) ≡ empty (n * (k + 1))
unfolding none
empty-many k zero = let same : 0 * (k + 1) ≡ 0 = omega arith in ap empty (sym same)
empty-many k (suc n) =
    let same : suc n * (k + 1) ≡ (k + 1) + n * (k + 1) = grind (arith) in
    ap (λ z. z ++ flat_map (block k) (none n)) (empty-block k) ∙
    (ap (λ z. empty (k + 1) ++ z) (empty-many k n) ∙ (sym (empty-append (k + 1) (n * (k + 1))) ∙ ap empty (sym same)))

pub empty-blocks : (k : ℕ) → flat_map (block k) no_bytes ≡ empty (8 * (k + 1))
unfolding none
empty-blocks k = empty-many k 8

-- eight more
pub eight-more : (i : ℕ) (before now next : List ℕ) → now ≡ before ++ empty (8 * i) → next ≡ now ++ empty 8 →
    next ≡ before ++ empty (8 * (i + 1))
eight-more i before now next e f =
    let same : 8 * i + 8 ≡ 8 * (i + 1) = omega arith in
    f ∙ (ap (λ z. z ++ empty 8) e ∙
    (append_assoc before (empty (8 * i)) (empty 8)
    ∙ ap (λ z. before ++ z) (sym (empty-append (8 * i) 8) ∙ ap empty same)))

-- A byte in the last quadlet of a block.

abbrev pub filled : List ℕ → (at byte : ℕ) → List ℕ
filled xs at b = set (set xs at 0x81) (at + 1) b

filled-behind : (xs ys : List ℕ) (n at b : ℕ) → length xs ≡ n → filled (xs ++ ys) (n + at) b ≡ xs ++ filled ys at b
filled-behind xs ys n at b e =
    let first : n + at - n ≡ at = omega arith in
    let second : n + at + 1 - n ≡ at + 1 = omega arith in
    ap (λ z. set z (n + at + 1) b) (set-append_right xs ys n (n + at) 0x81 e (omega arith)
    ∙ ap (λ i. xs ++ set ys i 0x81) first) ∙
    (set-append_right xs (set ys at 0x81) n (n + at + 1) b e (omega arith)
    ∙ ap (λ i. xs ++ set (set ys at 0x81) i b) second)

filled-block : (k b : ℕ) (more : List ℕ) → filled (block k None ++ more) (4 * k) b ≡ block k (Some b) ++ more
filled-block zero b more = refl
filled-block (suc k) b more =
    let same : 4 * suc k ≡ 4 + 4 * k = omega arith in
    ap (λ i. filled (quadlet None ++ (block k None ++ more)) i b) same ∙
    (filled-behind (quadlet None) (block k None ++ more) 4 (4 * k) b refl
    ∙ ap (λ z. quadlet None ++ z) (filled-block k b more))

-- the place of a stream's quadlet in eight blocks
abbrev pub quadlet_at : (place stream : ℕ) → ℕ
quadlet_at k m = 4 * ((k + 1) * m + k)

pub filled-blocks : (k m b : ℕ) (ws : List (Option ℕ)) → m < length ws → get_or ws m (Some 0) ≡ None →
    filled (flat_map (block k) ws) (quadlet_at k m) b ≡ flat_map (block k) (set ws m (Some b))
filled-blocks k m b [] low none = absurd (omega arith)
filled-blocks k zero b (w ∷ ws) low none =
    let same : 4 * ((k + 1) * 0 + k) ≡ 4 * k = omega arith in
    ap (λ i. filled (block k w ++ flat_map (block k) ws) i b) same
    ∙ (ap (λ v. filled (block k v ++ flat_map (block k) ws) (4 * k) b) none
    ∙ filled-block k b (flat_map (block k) ws))
filled-blocks k (suc m) b (w ∷ ws) low none =
    let more : (k + 1) * suc m ≡ (k + 1) + (k + 1) * m = grind (arith) in
    let same : 4 * ((k + 1) * suc m + k) ≡ 4 * (k + 1) + 4 * ((k + 1) * m + k) = omega (arith, more) in
    ap (λ i. filled (block k w ++ flat_map (block k) ws) i b) same ∙
    (filled-behind (block k w) (flat_map (block k) ws) (4 * (k + 1)) (4 * ((k + 1) * m + k)) b (length-block k w) ∙
    ap (λ z. block k w ++ z) (filled-blocks k m b ws (omega arith) none))

alone-is : (m b : ℕ) → m < 8 → set no_bytes m (Some b) ≡ alone m b
alone-is zero b low = refl
alone-is (suc zero) b low = refl
alone-is (suc (suc zero)) b low = refl
alone-is (suc (suc (suc zero))) b low = refl
alone-is (suc (suc (suc (suc zero)))) b low = refl
alone-is (suc (suc (suc (suc (suc zero))))) b low = refl
alone-is (suc (suc (suc (suc (suc (suc zero)))))) b low = refl
alone-is (suc (suc (suc (suc (suc (suc (suc zero))))))) b low = refl
alone-is (suc (suc (suc (suc (suc (suc (suc (suc m)))))))) b low = absurd (omega arith)

none-at : (m : ℕ) → m < 8 → get_or no_bytes m (Some 0) ≡ None
none-at zero low = refl
none-at (suc zero) low = refl
none-at (suc (suc zero)) low = refl
none-at (suc (suc (suc zero))) low = refl
none-at (suc (suc (suc (suc zero)))) low = refl
none-at (suc (suc (suc (suc (suc zero))))) low = refl
none-at (suc (suc (suc (suc (suc (suc zero)))))) low = refl
none-at (suc (suc (suc (suc (suc (suc (suc zero))))))) low = refl
none-at (suc (suc (suc (suc (suc (suc (suc (suc m)))))))) low = absurd (omega arith)

-- what a byte behind other bytes makes of the blocks without one
pub blocks-filled : (k m b n : ℕ) (out between behind : List ℕ) → m < 8 → length out ≡ n →
    between ≡ out ++ flat_map (block k) no_bytes → behind ≡ filled between (n + quadlet_at k m) b →
    behind ≡ out ++ flat_map (block k) (alone m b)
blocks-filled k m b n out between behind low len e f =
    f ∙ (ap (λ z. filled z (n + quadlet_at k m) b) e
    ∙ (filled-behind out (flat_map (block k) no_bytes) n (quadlet_at k m) b len ∙
    ap (λ z. out ++ z) (filled-blocks k m b no_bytes low (none-at m low) ∙ ap (flat_map (block k)) (alone-is m b low))))

-- A whole packet of the first eight ports.

abbrev pub first_empty : List ℕ
first_empty = 0 ∷ 40 ∷ 0 ∷ 1 ∷ 0 ∷ 0 ∷ 0x90 ∷ 0x02 ∷ 0xff ∷ 0xff ∷ empty 8

first-by : (m b d : ℕ) (more : List ℕ) → m < 8 →
    filled (set (first_empty ++ more) 5 d) (10 + 4 * m) b ≡ packet_of 0 d (alone m b) ++ more
first-by zero b d more low = refl
first-by (suc zero) b d more low = refl
first-by (suc (suc zero)) b d more low = refl
first-by (suc (suc (suc zero))) b d more low = refl
first-by (suc (suc (suc (suc zero)))) b d more low = refl
first-by (suc (suc (suc (suc (suc zero))))) b d more low = refl
first-by (suc (suc (suc (suc (suc (suc zero)))))) b d more low = refl
first-by (suc (suc (suc (suc (suc (suc (suc zero))))))) b d more low = refl
first-by (suc (suc (suc (suc (suc (suc (suc (suc m)))))))) b d more low = absurd (omega arith)

-- of the first eight ports, with packets behind it
pub first-filled : (m b d n : ℕ) (out more appended behind : List ℕ) → m < 8 → length out ≡ n →
    appended ≡ out ++ (first_empty ++ more) → behind ≡ filled (set appended (n + 5) d) (n + (10 + 4 * m)) b →
    behind ≡ (out ++ packet_of 0 d (alone m b)) ++ more
first-filled m b d n out more appended behind low len e g =
    let place : n + 5 - n ≡ 5 = omega arith in
    let count : set appended (n + 5) d ≡ out ++ set (first_empty ++ more) 5 d =
    ap (λ z. set z (n + 5) d) e ∙ (set-append_right out (first_empty ++ more) n (n + 5) d len (omega arith)
    ∙ ap (λ i. out ++ set (first_empty ++ more) i d) place) in
    g ∙ (ap (λ z. filled z (n + (10 + 4 * m)) b) count
    ∙ (filled-behind out (set (first_empty ++ more) 5 d) n (10 + 4 * m) b len
    ∙ (ap (λ z. out ++ z) (first-by m b d more low) ∙ sym (append_assoc out (packet_of 0 d (alone m b)) more))))

-- one alone
pub one-filled : (m b d n : ℕ) (out appended behind : List ℕ) → m < 8 → length out ≡ n →
    appended ≡ out ++ first_empty → behind ≡ filled (set appended (n + 5) d) (n + (10 + 4 * m)) b →
    behind ≡ out ++ packet_of 0 d (alone m b)
one-filled m b d n out appended behind low len e g =
    first-filled m b d n out [] appended behind low len (e ∙ ap (λ z. out ++ z) (sym (append-nil first_empty))) g
    ∙ append-nil (out ++ packet_of 0 d (alone m b))

-- three behind one another

length-first : (m b d : ℕ) → m < 8 → length (packet_of 0 d (alone m b)) ≡ 42
length-first zero b d low = refl
length-first (suc zero) b d low = refl
length-first (suc (suc zero)) b d low = refl
length-first (suc (suc (suc zero))) b d low = refl
length-first (suc (suc (suc (suc zero)))) b d low = refl
length-first (suc (suc (suc (suc (suc zero))))) b d low = refl
length-first (suc (suc (suc (suc (suc (suc zero)))))) b d low = refl
length-first (suc (suc (suc (suc (suc (suc (suc zero))))))) b d low = refl
length-first (suc (suc (suc (suc (suc (suc (suc (suc m)))))))) b d low = absurd (omega arith)

length-behind : (m b d n : ℕ) (out : List ℕ) → m < 8 → length out ≡ n →
    length (out ++ packet_of 0 d (alone m b)) ≡ n + 42
length-behind m b d n out low len =
    length-append out (packet_of 0 d (alone m b)) ∙ ap₂ (λ i j. i + j) len (length-first m b d low)

pub three-filled : (p d b1 b2 b3 n : ℕ) (out appended x y z : List ℕ) → p < 8 → length out ≡ n →
    appended ≡ out ++ (first_empty ++ (first_empty ++ first_empty)) →
    x ≡ filled (set appended (n + 5) d) (n + (10 + 4 * p)) b1 →
    y ≡ filled (set x (n + 42 + 5) (next_dbc d)) (n + 42 + (10 + 4 * p)) b2 →
    z ≡ filled (set y (n + 84 + 5) (next_dbc (next_dbc d))) (n + 84 + (10 + 4 * p)) b3 →
    z ≡ out ++ fire_from p d (b1 ∷ b2 ∷ b3 ∷ [])
three-filled p d b1 b2 b3 n out appended x y z low len e f g h =
    let second = next_dbc d in
    let third = next_dbc second in
    let p1 = packet_of 0 d (alone p b1) in
    let p2 = packet_of 0 second (alone p b2) in
    let p3 = packet_of 0 third (alone p b3) in
    let one : x ≡ (out ++ p1) ++ (first_empty ++ first_empty) =
    first-filled p b1 d n out (first_empty ++ first_empty) appended x low len e f in
    let behind_one : length (out ++ p1) ≡ n + 42 = length-behind p b1 d n out low len in
    let two : y ≡ ((out ++ p1) ++ p2) ++ first_empty =
    first-filled p b2 second (n + 42) (out ++ p1) first_empty x y low behind_one one g in
    let place : n + 84 ≡ n + 42 + 42 = omega arith in
    let three : z ≡ ((out ++ p1) ++ p2) ++ p3 =
    one-filled p b3 third (n + 42 + 42) ((out ++ p1) ++ p2) y z low
    (length-behind p b2 second (n + 42) (out ++ p1) low behind_one) two
    (h ∙ ap (λ k. filled (set y (k + 5) third) (k + (10 + 4 * p)) b3) place) in
    let quotient : 0 ≡ p / 8 = omega arith in
    let remainder : p ≡ p % 8 = omega arith in
    three ∙ (append_assoc (out ++ p1) p2 p3 ∙ (append_assoc out p1 (p2 ++ p3)
    ∙ (ap (λ r. out ++ (p1 ++ (p2 ++ r))) (sym (append-nil p3))
    ∙ ap₂ (λ k m. out ++ (packet_of k d (alone m b1) ++ (packet_of k second (alone m b2) ++
    (packet_of k third (alone m b3) ++ [])))) quotient remainder)))
