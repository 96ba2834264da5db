-- What lacks bytes of a row at its end: one lack behind another, and marks that are left off.
use Rattle.std.proofs.Common.{◌≡◌, ℕ, suc, ◌+◌, ◌≤◌, Bool, true, false, List, [], ◌∷◌, ◌++◌, map, length}
use Rattle.std.proofs.Common.{Option, Some, None, refl, sym, ◌∙◌, ap, ap₂, arith, append_assoc, length-append}
use Rattle.std.proofs.lemmas.Bool.{false≢true}
use Rattle.std.proofs.lemmas.List.{append-nil}
use Rattle.std.proofs.lemmas.List.Concat.{flat_map-append}
use Rattle.mb_message.specs.Signs.{Sign, ShortSign, RtSign, OpenSign, ByteSign, EndSign, AbortSign}
use Rattle.mb_stream.specs.Denotation.{Meant, Message, Syx, Broken, Denotation, items_from, realtimes_from}
use Rattle.mb_stream.specs.Denotation.{denotation}
use Rattle.mb_stream.specs.Lacking.{row, Lacks}
use Rattle.mb_stream.specs.Spelling.{full_bytes}
use Rattle.mb_stream.specs.Standing.{suited}
use Rattle.mb_stream.proofs.StandingLemmas.{Suited, Suited-from_suited}
use Rattle.mb_stream.proofs.Passable.{Passable}

pub lacks-nothing : (d : Denotation) → Lacks 0 d d
lacks-nothing d = record {
  realtimes = refl;
  items = d.items;
  broken_less = [];
  broken_full = [];
  less_is = sym (append-nil d.items);
  full_is = sym (append-nil d.items);
  missing = [];
  row_is = refl;
  few = omega arith;
}

-- One lack behind another. The meaning between them is cut into items and a row in two ways.

heads : (x y : Meant) (xs ys : List Meant) → x ∷ xs ≡ y ∷ ys → x ≡ y
heads x y xs ys e = cc

tails : (x y : Meant) (xs ys : List Meant) → x ∷ xs ≡ y ∷ ys → xs ≡ ys
tails x y xs ys e = cc

no_items : (x : Meant) (xs : List Meant) → [] ≡ x ∷ xs → ⊥
no_items x xs e = cc

same_data : (ds es : List ℕ) → Broken ds ≡ Broken es → ds ≡ es
same_data ds es e = cc

same_broken : (xs ys : List (List ℕ)) → map Broken xs ≡ map Broken ys → xs ≡ ys
same_broken [] [] e = refl
same_broken [] (y ∷ ys) e = absurd (no_items (Broken y) (map Broken ys) e)
same_broken (x ∷ xs) [] e = absurd (no_items (Broken x) (map Broken xs) (sym e))
same_broken (x ∷ xs) (y ∷ ys) e =
    ap₂ (λ d ds. d ∷ ds) (same_data x y (heads (Broken x) (Broken y) (map Broken xs) (map Broken ys) e))
    (same_broken xs ys (tails (Broken x) (Broken y) (map Broken xs) (map Broken ys) e))

-- the items of the one, and the broken SysEx behind them in the other
record Longer (xs ys : List Meant) (us bs : List (List ℕ)) : Type 0 where
  pub between : List (List ℕ)
  pub longer : ys ≡ xs ++ map Broken between
  pub broken : us ≡ between ++ bs

data Compared (xs ys : List Meant) (us bs : List (List ℕ)) : Type 0 where
  first_shorter : Longer xs ys us bs → Compared xs ys us bs
  second_shorter : Longer ys xs bs us → Compared xs ys us bs

all_broken : (ys : List Meant) (us bs : List (List ℕ)) → map Broken us ≡ ys ++ map Broken bs → Longer [] ys us bs
all_broken [] us bs e = record { between = []; longer = refl; broken = same_broken us bs e }
all_broken (y ∷ ys) [] bs e = absurd (no_items y (ys ++ map Broken bs) e)
all_broken (y ∷ ys) (a ∷ us) bs e =
    let rest = all_broken ys us bs (tails (Broken a) y (map Broken us) (ys ++ map Broken bs) e) in
    record {
      between = a ∷ rest.between;
      longer =
          ap₂ (λ z zs. z ∷ zs) (sym (heads (Broken a) y (map Broken us) (ys ++ map Broken bs) e)) rest.longer;
      broken = ap (λ z. a ∷ z) rest.broken;
    }

longer-item : (x y : Meant) (xs ys : List Meant) (us bs : List (List ℕ)) → x ≡ y → Longer xs ys us bs →
    Longer (x ∷ xs) (y ∷ ys) us bs
longer-item x y xs ys us bs e l =
    record { between = l.between; longer = ap₂ (λ z zs. z ∷ zs) (sym e) l.longer; broken = l.broken }

compared-item : (x y : Meant) (xs ys : List Meant) (us bs : List (List ℕ)) → x ≡ y → Compared xs ys us bs →
    Compared (x ∷ xs) (y ∷ ys) us bs
compared-item x y xs ys us bs e (first_shorter l) = first_shorter (longer-item x y xs ys us bs e l)
compared-item x y xs ys us bs e (second_shorter l) = second_shorter (longer-item y x ys xs bs us (sym e) l)

compare : (xs ys : List Meant) (us bs : List (List ℕ)) → xs ++ map Broken us ≡ ys ++ map Broken bs →
    Compared xs ys us bs
compare [] ys us bs e = first_shorter (all_broken ys us bs e)
compare (x ∷ xs) [] us bs e = second_shorter (all_broken (x ∷ xs) bs us (sym e))
compare (x ∷ xs) (y ∷ ys) us bs e =
    compared-item x y xs ys us bs (heads x y (xs ++ map Broken us) (ys ++ map Broken bs) e)
    (compare xs ys us bs (tails x y (xs ++ map Broken us) (ys ++ map Broken bs) e))

broken-append : (items : List Meant) (us bs : List (List ℕ)) →
    (items ++ map Broken us) ++ map Broken bs ≡ items ++ map Broken (us ++ bs)
broken-append items us bs =
    append_assoc items (map Broken us) (map Broken bs) ∙ ap (λ z. items ++ z) (sym (map_both us bs))
  where
    map_both : (us bs : List (List ℕ)) → map Broken (us ++ bs) ≡ map Broken us ++ map Broken bs
    map_both [] bs = refl
    map_both (a ∷ us) bs = ap (λ z. Broken a ∷ z) (map_both us bs)

row-append : (us bs : List (List ℕ)) → row (us ++ bs) ≡ row us ++ row bs
row-append us bs = flat_map-append (λ data_bytes. 0xf0 ∷ data_bytes) us bs

pub lacks-then : (m n : ℕ) (a b c : Denotation) → Lacks m a b → Lacks n b c → Lacks (m + n) a c
lacks-then m n a b c one two = by (compare one.items two.items one.broken_full two.broken_less
    (sym one.full_is ∙ two.less_is))
  where
    few : length (one.missing ++ two.missing) ≤ m + n
    few = omega (arith, length-append one.missing two.missing, one.few, two.few)

    -- the row of the last, behind what the shorter cut has before it
    rows : (us fs gs hs : List (List ℕ)) → row hs ≡ row gs ++ two.missing → row gs ≡ row us ++ row fs →
        row us ++ row fs ≡ row us ++ (row one.broken_less ++ one.missing) →
        row hs ≡ row (us ++ one.broken_less) ++ (one.missing ++ two.missing)
    rows us fs gs hs e f g =
        e ∙ (ap (λ z. z ++ two.missing) (f ∙ g)
        ∙ (ap (λ z. z ++ two.missing) (sym (append_assoc (row us) (row one.broken_less) one.missing)
        ∙ ap (λ z. z ++ one.missing) (sym (row-append us one.broken_less)))
        ∙ append_assoc (row (us ++ one.broken_less)) one.missing two.missing))

    by : Compared one.items two.items one.broken_full two.broken_less → Lacks (m + n) a c
    by (first_shorter l) = record {
      realtimes = one.realtimes ∙ two.realtimes;
      items = one.items;
      broken_less = one.broken_less;
      broken_full = l.between ++ two.broken_full;
      less_is = one.less_is;
      full_is =
          two.full_is ∙ (ap (λ z. z ++ map Broken two.broken_full) l.longer
          ∙ broken-append one.items l.between two.broken_full);
      missing = one.missing ++ two.missing;
      row_is =
          row-append l.between two.broken_full
          ∙ (ap (λ z. row l.between ++ z) two.row_is
          ∙ (sym (append_assoc (row l.between) (row two.broken_less) two.missing)
          ∙ (ap (λ z. z ++ two.missing) (sym (row-append l.between two.broken_less) ∙ ap row (sym l.broken))
          ∙ (ap (λ z. z ++ two.missing) one.row_is
          ∙ append_assoc (row one.broken_less) one.missing two.missing))));
      few = few;
    }
    by (second_shorter l) = record {
      realtimes = one.realtimes ∙ two.realtimes;
      items = two.items;
      broken_less = l.between ++ one.broken_less;
      broken_full = two.broken_full;
      less_is =
          one.less_is ∙ (ap (λ z. z ++ map Broken one.broken_less) l.longer
          ∙ broken-append two.items l.between one.broken_less);
      full_is = two.full_is;
      missing = one.missing ++ two.missing;
      row_is =
          rows l.between one.broken_full two.broken_less two.broken_full two.row_is
          (ap row l.broken ∙ row-append l.between one.broken_full) (ap (λ z. row l.between ++ z) one.row_is);
      few = few;
    }

pub lacks-weaken : (m n : ℕ) (a b : Denotation) → m ≤ n → Lacks m a b → Lacks n a b
lacks-weaken m n a b h l = record {
  realtimes = l.realtimes;
  items = l.items;
  broken_less = l.broken_less;
  broken_full = l.broken_full;
  less_is = l.less_is;
  full_is = l.full_is;
  missing = l.missing;
  row_is = l.row_is;
  few = omega (arith, h, l.few);
}

-- Marks that are left off, where these are the start and data of SysEx, or the break of one.

-- the SysEx that is open
abbrev open_row : Option (List ℕ) → List (List ℕ)
open_row None = []
open_row (Some ds) = ds ∷ []

abbrev opened : Option (List ℕ) → Bool
opened None = false
opened (Some ds) = true

-- they mean broken SysEx, which go on the row of what is open
record Tail (o : Option (List ℕ)) (ms : List Sign) : Type 0 where
  pub broken : List (List ℕ)
  pub means : items_from o ms ≡ map Broken broken
  pub row_is : row broken ≡ row (open_row o) ++ full_bytes ms

tail : (o : Option (List ℕ)) (ms : List Sign) → Suited (opened o) ms → Passable ms → Tail o ms
tail None [] s h = record { broken = []; means = refl; row_is = refl }
tail (Some ds) [] s h = record { broken = ds ∷ []; means = refl; row_is = sym (append-nil (row (ds ∷ []))) }
tail None (OpenSign ∷ ms) s h =
    let t = tail (Some []) ms s.1 h in
    record { broken = t.broken; means = t.means; row_is = t.row_is }
tail (Some ds) (OpenSign ∷ ms) s h = absurd (false≢true s.0)
tail None (ByteSign b ∷ ms) s h = absurd (false≢true s.0)
tail (Some ds) (ByteSign b ∷ ms) s h =
    let t = tail (Some (ds ++ b ∷ [])) ms s.1 h in
    record { broken = t.broken; means = t.means; row_is = t.row_is ∙ one_byte ds b (full_bytes ms) }
  where
    one_byte : (ds : List ℕ) (b : ℕ) (bs : List ℕ) → row ((ds ++ b ∷ []) ∷ []) ++ bs ≡ row (ds ∷ []) ++ b ∷ bs
    one_byte ds b bs =
        ap (λ z. z ++ bs) (append-nil (0xf0 ∷ (ds ++ b ∷ [])))
        ∙ (append_assoc (0xf0 ∷ ds) (b ∷ []) bs ∙ ap (λ z. z ++ b ∷ bs) (sym (append-nil (0xf0 ∷ ds))))
tail None (AbortSign ∷ ms) s h = absurd (false≢true s.0)
tail (Some ds) (AbortSign ∷ ms) s h =
    let t = tail None ms s.1 h in
    record {
      broken = ds ∷ t.broken;
      means = ap (λ z. Broken ds ∷ z) t.means;
      row_is = ap (λ z. (0xf0 ∷ ds) ++ z) t.row_is ∙ ap (λ z. z ++ full_bytes ms) (sym (append-nil (0xf0 ∷ ds)));
    }
tail o (ShortSign t a b ∷ ms) s h = absurd h
tail o (RtSign b ∷ ms) s h = absurd h
tail o (EndSign ∷ ms) s h = absurd h

record ItemsLack (less full : List Meant) (missing : List ℕ) : Type 0 where
  pub items : List Meant
  pub broken_less : List (List ℕ)
  pub broken_full : List (List ℕ)
  pub less_is : less ≡ items ++ map Broken broken_less
  pub full_is : full ≡ items ++ map Broken broken_full
  pub row_is : row broken_full ≡ row broken_less ++ missing

one-item : (x : Meant) (less full : List Meant) (missing : List ℕ) → ItemsLack less full missing →
    ItemsLack (x ∷ less) (x ∷ full) missing
one-item x less full missing l = record {
  items = x ∷ l.items;
  broken_less = l.broken_less;
  broken_full = l.broken_full;
  less_is = ap (λ z. x ∷ z) l.less_is;
  full_is = ap (λ z. x ∷ z) l.full_is;
  row_is = l.row_is;
}

items-lack : (o : Option (List ℕ)) (xs ys : List Sign) → Suited (opened o) (xs ++ ys) → Passable ys →
    ItemsLack (items_from o xs) (items_from o (xs ++ ys)) (full_bytes ys)
items-lack None [] ys s h =
    let t = tail None ys s h in
    record {
      items = [];
      broken_less = [];
      broken_full = t.broken;
      less_is = refl;
      full_is = t.means;
      row_is = t.row_is;
    }
items-lack (Some ds) [] ys s h =
    let t = tail (Some ds) ys s h in
    record {
      items = [];
      broken_less = ds ∷ [];
      broken_full = t.broken;
      less_is = refl;
      full_is = t.means;
      row_is = t.row_is;
    }
items-lack None (ShortSign t a b ∷ xs) ys s h =
    one-item (Message t a b) (items_from None xs) (items_from None (xs ++ ys)) (full_bytes ys)
    (items-lack None xs ys s.1 h)
items-lack (Some ds) (ShortSign t a b ∷ xs) ys s h = absurd (false≢true s.0)
items-lack None (RtSign b ∷ xs) ys s h = items-lack None xs ys s.1 h
items-lack (Some ds) (RtSign b ∷ xs) ys s h = items-lack (Some ds) xs ys s.1 h
items-lack None (OpenSign ∷ xs) ys s h = items-lack (Some []) xs ys s.1 h
items-lack (Some ds) (OpenSign ∷ xs) ys s h = absurd (false≢true s.0)
items-lack None (ByteSign b ∷ xs) ys s h = absurd (false≢true s.0)
items-lack (Some ds) (ByteSign b ∷ xs) ys s h = items-lack (Some (ds ++ b ∷ [])) xs ys s.1 h
items-lack None (EndSign ∷ xs) ys s h = absurd (false≢true s.0)
items-lack (Some ds) (EndSign ∷ xs) ys s h =
    one-item (Syx ds) (items_from None xs) (items_from None (xs ++ ys)) (full_bytes ys) (items-lack None xs ys s.1 h)
items-lack None (AbortSign ∷ xs) ys s h = absurd (false≢true s.0)
items-lack (Some ds) (AbortSign ∷ xs) ys s h =
    one-item (Broken ds) (items_from None xs) (items_from None (xs ++ ys)) (full_bytes ys) (items-lack None xs ys s.1 h)

no-realtimes : (o : Bool) (n : ℕ) (ms : List Sign) → Passable ms → realtimes_from o n ms ≡ []
no-realtimes o n [] h = refl
no-realtimes o n (OpenSign ∷ ms) h = no-realtimes true n ms h
no-realtimes o n (ByteSign b ∷ ms) h = no-realtimes o n ms h
no-realtimes o n (AbortSign ∷ ms) h = no-realtimes false n ms h
no-realtimes o n (ShortSign s a b ∷ ms) h = absurd h
no-realtimes o n (RtSign b ∷ ms) h = absurd h
no-realtimes o n (EndSign ∷ ms) h = absurd h

realtimes-same : (o : Bool) (n : ℕ) (xs ys : List Sign) → Passable ys →
    realtimes_from o n xs ≡ realtimes_from o n (xs ++ ys)
realtimes-same o n [] ys h = sym (no-realtimes o n ys h)
realtimes-same o n (ShortSign s a b ∷ xs) ys h = realtimes-same o (suc n) xs ys h
realtimes-same false n (EndSign ∷ xs) ys h = realtimes-same false n xs ys h
realtimes-same true n (EndSign ∷ xs) ys h = realtimes-same false (suc n) xs ys h
realtimes-same o n (RtSign b ∷ xs) ys h = ap (λ z. record { byte = b; after = n } ∷ z) (realtimes-same o n xs ys h)
realtimes-same o n (OpenSign ∷ xs) ys h = realtimes-same true n xs ys h
realtimes-same o n (ByteSign b ∷ xs) ys h = realtimes-same o n xs ys h
realtimes-same o n (AbortSign ∷ xs) ys h = realtimes-same false n xs ys h

pub lacks-marks : (n : ℕ) (xs ys : List Sign) → suited (xs ++ ys) ≡ true → Passable ys →
    length (full_bytes ys) ≤ n → Lacks n (denotation xs) (denotation (xs ++ ys))
lacks-marks n xs ys s h few =
    let l = items-lack None xs ys (Suited-from_suited (xs ++ ys) s) h in
    record {
      realtimes = realtimes-same false 0 xs ys h;
      items = l.items;
      broken_less = l.broken_less;
      broken_full = l.broken_full;
      less_is = l.less_is;
      full_is = l.full_is;
      missing = full_bytes ys;
      row_is = l.row_is;
      few = few;
    }
