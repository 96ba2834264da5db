-- `==` of the parts of a denotation answers true exactly where they are equal, and they are equal where they mean the
-- same.
use Rattle.std.proofs.Common.{◌≡◌, ℕ, Bool, true, List, [], ◌∷◌, map, refl, ap, subst, ◌∙◌}
use Rattle.std.proofs.Math.Bool.{Bool-set}
use Rattle.std.proofs.lemmas.Bool.{false≢true}
use Rattle.std.proofs.lemmas.Bool.Decides.{Decides-eqb, Decides-and, Decides-like}
use Rattle.std.proofs.lemmas.Slice.Eq.{bytes_eq-Decides}
use Rattle.std.specs.Bool.{Decides}
use Rattle.mb_message.specs.Bytes.{is_short, is_realtime_message}
use Rattle.mb_message.specs.declared.short.Short.{Short}
use Rattle.mb_message.specs.declared.real_time.Rt.{Rt}
use Rattle.mb_stream.specs.Denotation.{Timed}
use Rattle.mb_denote.specs.Denoted.{meant, timed}
use Rattle.mb_denote.specs.declared.item.Item.{Item}
use Rattle.mb_denote.specs.declared.item.Item.TheVariants as item
use Rattle.mb_denote.specs.declared.item.RtAt.{RtAt}
use Rattle.mb_denote.specs.contracts.item.ItemPartialEq.TheImpl as items
use Rattle.mb_denote.specs.contracts.item.RtAtPartialEq.TheImpl as realtimes

abbrev short_of : (p : ℕ × ℕ × ℕ) → is_short p.0 p.1 p.2 ≡ true → Short
short_of p v = record { status = p.0; data1 = p.1; data2 = p.2; valid = v }

short_equal : (s t : Short) → s.status ≡ t.status → s.data1 ≡ t.data1 → s.data2 ≡ t.data2 → s ≡ t
short_equal s t e f g =
    let same : (p q : ℕ × ℕ × ℕ) → p ≡ q → (v : is_short p.0 p.1 p.2 ≡ true) (w : is_short q.0 q.1 q.2 ≡ true) →
    short_of p v ≡ short_of q w =
    λ p q h. subst (λ (r : ℕ × ℕ × ℕ). (v : is_short p.0 p.1 p.2 ≡ true) (w : is_short r.0 r.1 r.2 ≡ true) →
    short_of p v ≡ short_of r w) h
    (λ v w. ap (short_of p) (Bool-set _ _ v w)) in
    same (s.status, s.data1, s.data2) (t.status, t.data1, t.data2)
    (ap (λ (n : ℕ). (n, s.data1, s.data2)) e ∙ ap (λ (n : ℕ). (t.status, n, s.data2)) f ∙
    ap (λ (n : ℕ). (t.status, t.data1, n)) g)
    s.valid t.valid

abbrev rt_of : (b : ℕ) → is_realtime_message b ≡ true → Rt
rt_of b v = record { byte = b; valid = v }

rt_equal : (r s : Rt) → r.byte ≡ s.byte → r ≡ s
rt_equal r s e =
    let same : (b c : ℕ) → b ≡ c → (v : is_realtime_message b ≡ true) (w : is_realtime_message c ≡ true) →
    rt_of b v ≡ rt_of c w =
    λ b c h. subst (λ (d : ℕ). (v : is_realtime_message b ≡ true) (w : is_realtime_message d ≡ true) →
    rt_of b v ≡ rt_of d w) h
    (λ v w. ap (rt_of b) (Bool-set _ _ v w)) in
    same r.byte s.byte e r.valid s.valid

pub item_decides : (x y : Item) → Decides (items.eq-value.it x y) (x ≡ y)
item_decides (item.Msg s) (item.Msg t) =
    Decides-like _ (λ h. ap item.Msg (short_equal s t h.0 h.1.0 h.1.1))
    (λ e. let same : s ≡ t = cc in (
      ap (λ (u : Short). u.status) same,
      (
        ap (λ (u : Short). u.data1) same,
        ap (λ (u : Short). u.data2) same,
      ),
    ))
    (Decides-and _ _ (Decides-eqb s.status t.status) (Decides-and _ _ (Decides-eqb s.data1 t.data1)
    (Decides-eqb s.data2 t.data2)))
item_decides (item.Msg s) (item.Syx ys) = (λ h. absurd (false≢true h), λ e. cc)
item_decides (item.Msg s) (item.Broken ys) = (λ h. absurd (false≢true h), λ e. cc)
item_decides (item.Syx xs) (item.Msg s) = (λ h. absurd (false≢true h), λ e. cc)
item_decides (item.Syx xs) (item.Syx ys) = Decides-like _ (ap item.Syx) (λ e. cc) (bytes_eq-Decides xs ys)
item_decides (item.Syx xs) (item.Broken ys) = (λ h. absurd (false≢true h), λ e. cc)
item_decides (item.Broken xs) (item.Msg s) = (λ h. absurd (false≢true h), λ e. cc)
item_decides (item.Broken xs) (item.Syx ys) = (λ h. absurd (false≢true h), λ e. cc)
item_decides (item.Broken xs) (item.Broken ys) = Decides-like _ (ap item.Broken) (λ e. cc) (bytes_eq-Decides xs ys)

realtime_equal : (x y : RtAt) → x.rt.byte ≡ y.rt.byte → x.after ≡ y.after → x ≡ y
realtime_equal x y e f =
    ap (λ (r : Rt). record { rt = r; after = x.after }) (rt_equal x.rt y.rt e) ∙
    ap (λ (n : ℕ). record { rt = y.rt; after = n }) f

pub realtime_decides : (x y : RtAt) → Decides (realtimes.eq-value.it x y) (x ≡ y)
realtime_decides x y =
    Decides-like _ (λ h. realtime_equal x y h.0 h.1) (λ e. (
      ap (λ (r : RtAt). r.rt.byte) e,
      ap (λ (r : RtAt). r.after) e,
    ))
    (Decides-and _ _ (Decides-eqb x.rt.byte y.rt.byte) (Decides-eqb x.after y.after))

meant_injective : (x y : Item) → meant x ≡ meant y → x ≡ y
meant_injective (item.Msg s) (item.Msg t) e = ap item.Msg (short_equal s t (cc) (cc) (cc))
meant_injective (item.Msg s) (item.Syx ys) e = cc
meant_injective (item.Msg s) (item.Broken ys) e = cc
meant_injective (item.Syx xs) (item.Msg s) e = cc
meant_injective (item.Syx xs) (item.Syx ys) e = let same : xs ≡ ys = cc in ap item.Syx same
meant_injective (item.Syx xs) (item.Broken ys) e = cc
meant_injective (item.Broken xs) (item.Msg s) e = cc
meant_injective (item.Broken xs) (item.Syx ys) e = cc
meant_injective (item.Broken xs) (item.Broken ys) e = let same : xs ≡ ys = cc in ap item.Broken same

timed_injective : (x y : RtAt) → timed x ≡ timed y → x ≡ y
timed_injective x y e = realtime_equal x y (ap (λ (t : Timed). t.byte) e) (ap (λ (t : Timed). t.after) e)

map_injective : {A B : Type 0} (f : A → B) → ((x y : A) → f x ≡ f y → x ≡ y) → (xs ys : List A) → map f xs ≡ map f ys →
    xs ≡ ys
map_injective f each [] [] e = refl
map_injective f each [] (y ∷ ys) e = cc
map_injective f each (x ∷ xs) [] e = cc
map_injective f each (x ∷ xs) (y ∷ ys) e =
    let heads : f x ≡ f y = cc in
    let tails : map f xs ≡ map f ys = cc in
    let first : x ≡ y = each x y heads in
    let rest : xs ≡ ys = map_injective f each xs ys tails in
    cc

pub meant_same : (r : Bool) (xs ys : List Item) → Decides r (xs ≡ ys) → Decides r (map meant xs ≡ map meant ys)
meant_same r xs ys d = Decides-like r (ap (map meant)) (map_injective meant meant_injective xs ys) d

pub timed_same : (r : Bool) (xs ys : List RtAt) → Decides r (xs ≡ ys) → Decides r (map timed xs ≡ map timed ys)
timed_same r xs ys d = Decides-like r (ap (map timed)) (map_injective timed timed_injective xs ys) d
