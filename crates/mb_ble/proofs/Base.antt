-- Lemmas on lists, on the order of what becomes known, and on byte streams, in the forms that the proofs here use.
use Rattle.std.proofs.Common.{◌≡◌, ℕ, ◌+◌, ◌<◌, ◌≤◌, ◌⊎◌, inl, inr, Bool, true, false, if◌then◌else◌, List, [], ◌∷◌}
use Rattle.std.proofs.Common.{◌++◌, length, Option, Some, None, refl, sym, subst, ◌∙◌, ap, arith, append-nil}
use Rattle.std.specs.Prelude.{◌==◌, ◌||◌, ◌&&◌, nat_lt, nat_le}
use Rattle.std.proofs.lemmas.Bool.Decides.{nat_tests}
use Rattle.mb_message.specs.Bytes.{is_channel, data_length}
use Rattle.mb_message.specs.Signs.{ShortSign, OpenSign, EndSign, AbortSign}
use Rattle.mb_message.specs.declared.note.NoteKind.TheVariants.{StrayEnd, Undefined}
use Rattle.mb_stream.specs.Payload.{Spot, Entry, Heard, Silent, heard_from}
use Rattle.mb_stream.specs.Groups.{Group, is_sysex, last_of}
use Rattle.mb_stream.specs.Told.{Known, known_at, Marks, Notes, stray, sysex_byte, one_of, odd_one, status_told}
use Rattle.mb_stream.specs.Told.{begun_at, truncated_at, sysex_ended, ended}
use Rattle.mb_stream.specs.Order.{not_after, put_in, in_order}
use Rattle.mb_stream.specs.Reading.{so_far}
use Rattle.mb_stream.specs.Working.{pair_news, first_one_news, first_two_news, data_news_by, data_news, news_from}
use Rattle.mb_stream.specs.Working.{group_after, RisesFrom}
use Rattle.mb_stream.specs.Order.{Each}
use Rattle.mb_stream.proofs.OrderLemmas.{Each-in_order, put_in-first}
use Rattle.mb_stream.proofs.NewsLaw as law
use Rattle.mb_din.specs.Reader.{Stands, RisesTo}
use Rattle.mb_din.specs.State.{State}
use Rattle.mb_message.specs.Front.{IsFront}
use Rattle.mb_din.proofs.Rises as rises

-- before, and not at the same place
pub record Before (x y : Known) : Type 0 where
  pub first : not_after x y ≡ true
  pub second : not_after y x ≡ false

put_middle : (y x : Known) (zs : List Known) → not_after x y ≡ false → put_in (λ k. k) x (y ∷ zs) ≡ y ∷ put_in (λ k.
    k) x zs
put_middle y x zs e = ap (λ t. if t then x ∷ y ∷ zs else y ∷ put_in (λ k. k) x zs) e

pub in_order-middle : (key : Known → Known) (xs : List Known) (y : Known) (ys : List Known) →
    Each (λ x. Before y x) xs → Each (λ x. Before y x) ys →
    in_order (λ k. k) (xs ++ y ∷ ys) ≡ y ∷ in_order (λ k. k) (xs ++ ys)
in_order-middle key [] y ys a b = put_in-first (λ k. k) y (in_order (λ k. k) ys) (Each-in_order (λ k. k) (λ z.
    not_after y z ≡ true) ys (firsts ys b))
  where
    firsts : (zs : List Known) → Each (λ x. Before y x) zs → Each (λ z. not_after y z ≡ true) zs
    firsts [] a = tt
    firsts (z ∷ zs) a = (a.0.first, firsts zs a.1)
in_order-middle key (x ∷ xs) y ys a b =
    ap (put_in (λ k. k) x) (in_order-middle key xs y ys a.1 b) ∙ put_middle y x (in_order (λ k. k) (xs ++ ys))
    a.0.second

-- all at one offset, with rising ranks, none above 3
abbrev pub Climb : ℕ → ℕ → List Known → Type 0
Climb at low [] = low ≤ 3
Climb at low (k ∷ ks) = (k.at ≡ at) × (low < k.rank) × Climb at k.rank ks

climb-pair : (s : ℕ) (ds : List Spot) (x : Spot) → Climb x.at 2 (pair_news s ds x)
climb-pair s [] x = omega arith
climb-pair s (a ∷ ds) x = (refl, omega arith, omega arith)

climb-first_one : (s : ℕ) (ds : List Spot) (x : Spot) → Climb x.at 2 (first_one_news s ds x)
climb-first_one s [] x = (refl, omega arith, omega arith)
climb-first_one s (a ∷ ds) x = (refl, omega arith, omega arith)

climb-first_two : (s : ℕ) (ds : List Spot) (x : Spot) → Climb x.at 2 (first_two_news s ds x)
climb-first_two s [] x = omega arith
climb-first_two s (a ∷ []) x = (refl, omega arith, omega arith)
climb-first_two s (a ∷ b ∷ ds) x = (refl, omega arith, omega arith)

climb-common : (none one : Bool) (s : ℕ) (ds : List Spot) (x : Spot) → Climb x.at 2 (if none then stray x ∷ [] else
    (if one then first_one_news s ds x else first_two_news s ds x))
climb-common true one s ds x = (refl, omega arith, omega arith)
climb-common false true s ds x = climb-first_one s ds x
climb-common false false s ds x = climb-first_two s ds x

climb-channel : (one : Bool) (s : ℕ) (ds : List Spot) (x : Spot) → Climb x.at 2 (if one then one_of s x ∷ [] else
    pair_news s (odd_one ds) x)
climb-channel true s ds x = (refl, omega arith, omega arith)
climb-channel false s ds x = climb-pair s (odd_one ds) x

climb-by : (count : Option ℕ) (c : Bool) (s : ℕ) (ds : List Spot) (x : Spot) →
    Climb x.at 2 (data_news_by count c s ds x)
climb-by None c s ds x = (refl, omega arith, omega arith)
climb-by (Some k) true s ds x = climb-channel (k == 1) s ds x
climb-by (Some k) false s ds x = climb-common (k == 0) (k == 1) s ds x

pub climb-data : (status : Option ℕ) (ds : List Spot) (x : Spot) → Climb x.at 2 (data_news status ds x)
climb-data None ds x = (refl, omega arith, omega arith)
climb-data (Some s) ds x = by (s == 0xf0)
  where
    by : (sysex : Bool) → Climb x.at 2 (if sysex then sysex_byte x ∷ [] else data_news_by (data_length s) (is_channel s)
        s ds x)
    by true = (refl, omega arith, omega arith)
    by false = climb-by (data_length s) (is_channel s) s ds x

pub Climb-lower : (at low high : ℕ) (ks : List Known) → low ≤ high → Climb at high ks → Climb at low ks
Climb-lower at low high [] h c = omega arith
Climb-lower at low high (k ∷ ks) h c = (c.0, omega arith, c.2)

climb-told : (x : Spot) → Climb x.at 2 (status_told x)
climb-told x = by (x.byte == 0xf0) (x.byte == 0xf6) ((x.byte == 0xf4) || (x.byte == 0xf5))
  where
    by : (sysex tune undefined : Bool) →
        Climb x.at 2 (if sysex then known_at 3 x (Marks OpenSign) ∷ [] else
        (if tune then known_at 3 x (Marks (ShortSign 0xf6 0 0)) ∷ [] else
        (if undefined then known_at 3 x (Notes x.at Undefined) ∷ [] else [])))
    by true tune undefined = (refl, omega arith, omega arith)
    by false true undefined = (refl, omega arith, omega arith)
    by false false true = (refl, omega arith, omega arith)
    by false false false = omega arith

end_tells_nothing : (x : Spot) → (x.byte == 0xf7) ≡ true → status_told x ≡ []
end_tells_nothing x e =
    let same : x.byte ≡ 0xf7 = grind (arith, nat_tests) in
    subst (λ b. status_told (record { at = x.at; byte = b; moment = x.moment }) ≡ []) (sym same) refl

climb-ended : (e7 op : Bool) (x : Spot) → (x.byte == 0xf7) ≡ e7 →
    Climb x.at 1 ((if e7 then (if op then known_at 3 x (Marks EndSign) ∷ [] else known_at 3 x (Notes x.at StrayEnd) ∷
    []) else (if op then known_at 2 x (Marks AbortSign) ∷ [] else [])) ++ status_told x)
climb-ended true true x e = rw (end_tells_nothing x e) (refl, omega arith, omega arith)
climb-ended true false x e = rw (end_tells_nothing x e) (refl, omega arith, omega arith)
climb-ended false true x e = (refl, omega arith, climb-told x)
climb-ended false false x e = Climb-lower x.at 1 2 (status_told x) (omega arith) (climb-told x)

climb-begun : (t : Option ℕ) (x : Spot) (ks : List Known) → Climb x.at 1 (ks ++ status_told x) →
    Climb x.at 0 ((truncated_at t x ++ ks) ++ status_told x)
climb-begun None x ks c = Climb-lower x.at 0 1 (ks ++ status_told x) (omega arith) c
climb-begun (Some at) x ks c = (refl, omega arith, c)

pub climb-at_status : (g : Group) (x : Spot) → Climb x.at 0 (ended g x ++ status_told x)
climb-at_status g x = climb-begun (begun_at g) x (sysex_ended (is_sysex g) x) (climb-ended (x.byte == 0xf7) (is_sysex g)
    x refl)

-- offsets rise
pub rises-to : (low high : ℕ) (es fs : List Entry) → RisesTo low high es → RisesFrom high fs → RisesFrom low (es ++ fs)
rises-to low high es fs a b = rises.RisesFrom-append es fs low high a b

pub rises-from : (low high : ℕ) (es : List Entry) → RisesTo low high es → RisesFrom low es
rises-from low high [] a = tt
rises-from low high (Silent s ∷ es) a = rises-from low high es a
rises-from low high (Heard x ∷ es) a = (a.0, rises-from (x.at + 1) high es a.1)

pub heard-append : (o m : ℕ) (xs ys : List ℕ) (p : ℕ) → o + length xs ≡ p → heard_from o m (xs ++ ys) ≡ heard_from o m
    xs ++ heard_from p m ys
heard-append o m xs ys p e = rises.heard_from-append xs ys o m ∙ ap (λ n. heard_from o m xs ++ heard_from n m ys) e

pub so_far-append : (es fs : List Entry) → RisesFrom 0 (es ++ fs) → RisesFrom 0 es → so_far (es ++ fs) ≡ so_far es ++
    news_from (last_of es) fs
so_far-append es fs r q = law.so_far-append 0 es fs r

pub last_of-append : (es fs : List Entry) → last_of (es ++ fs) ≡ group_after (last_of es) fs
last_of-append es fs = law.last_of-append es fs

pub cancel : (xs ys zs : List Known) → xs ++ ys ≡ xs ++ zs → ys ≡ zs
cancel [] ys zs e = e
cancel (x ∷ xs) ys zs e = cancel xs ys zs (inner (xs ++ ys) (xs ++ zs) e)
  where
    inner : (a b : List Known) → x ∷ a ≡ x ∷ b → a ≡ b
    inner a b e = cc

pub nothing-behind : (xs ys rest : List Known) → xs ≡ (xs ++ ys) ++ rest → ys ≡ []
nothing-behind xs [] rest e = refl
nothing-behind xs (y ∷ ys) rest e = absurd (longer xs y ys rest e)
  where
    longer : (xs : List Known) (y : Known) (ys rest : List Known) → xs ≡ (xs ++ y ∷ ys) ++ rest → ⊥
    longer [] y ys rest e = cc
    longer (x ∷ xs) y ys rest e = longer xs y ys rest (inner xs ((xs ++ y ∷ ys) ++ rest) e)
      where
        inner : (a b : List Known) → x ∷ a ≡ x ∷ b → a ≡ b
        inner a b e = cc

-- what stands for entries of which the rest is told has told all
pub told-all : (s : State) (es : List Entry) (told : List Known) → Stands s es told → IsFront told (so_far es) →
    told ≡ so_far es
told-all s es told st still =
    st.told_is ∙ ap (λ z. so_far es ++ z) (nothing-behind (so_far es) st.ahead still.0 (still.1 ∙
    ap (λ z. z ++ still.0) st.told_is)) ∙ append-nil (so_far es)

-- how many data bytes a status has
abbrev pub IsLen : Bool → ℕ → Type 0
IsLen true k = (k ≡ 1) ⊎ (k ≡ 2)
IsLen false k = (k ≡ 0) ⊎ ((k ≡ 1) ⊎ (k ≡ 2))

len_by : (c o a b d : Bool) (k : ℕ) →
    (if c then Some (if o then 1 else 2) else (if a then Some 1 else
    (if b then Some 2 else (if d then Some 0 else None)))) ≡ Some k → IsLen c k
len_by true true a b d k is = inl cc
len_by true false a b d k is = inr cc
len_by false o true b d k is = inr (inl cc)
len_by false o false true d k is = inr (inr cc)
len_by false o false false true k is = inl cc
len_by false o false false false k is = absurd (none_some k is)
  where
    none_some : (k : ℕ) → None ≡ Some k → ⊥
    none_some k is = cc

pub len_lem : (s k : ℕ) → data_length s ≡ Some k → IsLen (is_channel s) k
len_lem s k is = len_by (is_channel s) (nat_le 0xc0 s && nat_lt s 0xe0) ((s == 0xf1) || (s == 0xf3)) (s == 0xf2)
    (s == 0xf6) k is
