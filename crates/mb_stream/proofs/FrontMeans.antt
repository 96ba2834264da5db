-- What a front of a list of marks means, and that an end means nothing new.
use Rattle.std.proofs.Common.{◌≡◌, ℕ, suc, Bool, true, false, Option, Some, None, List, [], ◌∷◌, ◌++◌, refl, sym}
use Rattle.std.proofs.Common.{◌∙◌, ap, ap₂, append_assoc}
use Rattle.std.proofs.lemmas.Bool.{false≢true}
use Rattle.std.proofs.lemmas.List.{append-nil}
use Rattle.mb_message.specs.Front.{IsFront}
use Rattle.mb_message.specs.Signs.{Sign, ShortSign, RtSign, OpenSign, ByteSign, EndSign, AbortSign}
use Rattle.mb_stream.specs.Groups.{Group, is_sysex}
use Rattle.mb_stream.specs.Told.{begun_at, truncated_end, broken_end, at_end}
use Rattle.mb_stream.specs.Reading.{told_signs}
use Rattle.mb_stream.specs.Denotation.{Meant, Message, Syx, Broken, items_from, realtimes_from}
use Rattle.mb_stream.specs.Denotation.{denotation}
use Rattle.mb_stream.specs.MeaningFront.{StartsWith, IsOpenYet, IsMeaningFront}
use Rattle.mb_stream.specs.Standing.{suited}
use Rattle.mb_stream.proofs.StandingLemmas.{Suited, Suited-from_suited}

starts-less : (ds : List ℕ) (b : ℕ) (x : Meant) → StartsWith (ds ++ b ∷ []) x → StartsWith ds x
starts-less ds b (Message s a c) h = h
starts-less ds b (Syx es) h = less h
  where
    less : IsFront (ds ++ b ∷ []) es → IsFront ds es
    less f = (b ∷ f.0, f.1 ∙ append_assoc ds (b ∷ []) f.0)
starts-less ds b (Broken es) h = less h
  where
    less : IsFront (ds ++ b ∷ []) es → IsFront ds es
    less f = (b ∷ f.0, f.1 ∙ append_assoc ds (b ∷ []) f.0)

-- the item that an open SysEx becomes
record First (ds : List ℕ) (items : List Meant) : Type 0 where
  pub item : Meant
  pub rest : List Meant
  pub is : items ≡ item ∷ rest
  pub starts : StartsWith ds item

first-item : (ds : List ℕ) (ys : List Sign) → Suited true ys → First ds (items_from (Some ds) ys)
first-item ds [] s = record { item = Broken ds; rest = []; is = refl; starts = ([], sym (append-nil ds)) }
first-item ds (ShortSign t a b ∷ ys) s = absurd (false≢true s.0)
first-item ds (RtSign b ∷ ys) s = first-item ds ys s.1
first-item ds (OpenSign ∷ ys) s = absurd (false≢true s.0)
first-item ds (ByteSign b ∷ ys) s =
    let f = first-item (ds ++ b ∷ []) ys s.1 in
    record { item = f.item; rest = f.rest; is = f.is; starts = starts-less ds b f.item f.starts }
first-item ds (EndSign ∷ ys) s =
    record { item = Syx ds; rest = items_from None ys; is = refl; starts = ([], sym (append-nil ds)) }
first-item ds (AbortSign ∷ ys) s =
    record { item = Broken ds; rest = items_from None ys; is = refl; starts = ([], sym (append-nil ds)) }

record ItemsFront (front whole : List Meant) : Type 0 where
  pub both : List Meant
  pub open_yet : List Meant
  pub rest : List Meant
  pub front_is : front ≡ both ++ open_yet
  pub whole_is : whole ≡ both ++ rest
  pub begins : IsOpenYet open_yet rest

one-item : (x : Meant) (front whole : List Meant) → ItemsFront front whole → ItemsFront (x ∷ front) (x ∷ whole)
one-item x front whole f = record {
  both = x ∷ f.both;
  open_yet = f.open_yet;
  rest = f.rest;
  front_is = ap (λ z. x ∷ z) f.front_is;
  whole_is = ap (λ z. x ∷ z) f.whole_is;
  begins = f.begins;
}

-- whether a SysEx is open
abbrev opened : Option (List ℕ) → Bool
opened None = false
opened (Some ds) = true

items-front : (o : Option (List ℕ)) (xs ys : List Sign) → Suited (opened o) (xs ++ ys) →
    ItemsFront (items_from o xs) (items_from o (xs ++ ys))
items-front None [] ys s = record {
  both = [];
  open_yet = [];
  rest = items_from None ys;
  front_is = refl;
  whole_is = refl;
  begins = tt;
}
items-front (Some ds) [] ys s =
    let f = first-item ds ys s in
    record {
      both = [];
      open_yet = Broken ds ∷ [];
      rest = f.item ∷ f.rest;
      front_is = refl;
      whole_is = f.is;
      begins = f.starts;
    }
items-front None (ShortSign t a b ∷ xs) ys s =
    one-item (Message t a b) (items_from None xs) (items_from None (xs ++ ys)) (items-front None xs ys s.1)
items-front (Some ds) (ShortSign t a b ∷ xs) ys s = absurd (false≢true s.0)
items-front None (RtSign b ∷ xs) ys s = items-front None xs ys s.1
items-front (Some ds) (RtSign b ∷ xs) ys s = items-front (Some ds) xs ys s.1
items-front None (OpenSign ∷ xs) ys s = items-front (Some []) xs ys s.1
items-front (Some ds) (OpenSign ∷ xs) ys s = absurd (false≢true s.0)
items-front None (ByteSign b ∷ xs) ys s = absurd (false≢true s.0)
items-front (Some ds) (ByteSign b ∷ xs) ys s = items-front (Some (ds ++ b ∷ [])) xs ys s.1
items-front None (EndSign ∷ xs) ys s = absurd (false≢true s.0)
items-front (Some ds) (EndSign ∷ xs) ys s =
    one-item (Syx ds) (items_from None xs) (items_from None (xs ++ ys)) (items-front None xs ys s.1)
items-front None (AbortSign ∷ xs) ys s = absurd (false≢true s.0)
items-front (Some ds) (AbortSign ∷ xs) ys s =
    one-item (Broken ds) (items_from None xs) (items_from None (xs ++ ys)) (items-front None xs ys s.1)

realtimes-front : (o : Bool) (n : ℕ) (xs ys : List Sign) →
    IsFront (realtimes_from o n xs) (realtimes_from o n (xs ++ ys))
realtimes-front o n [] ys = (realtimes_from o n ys, refl)
realtimes-front o n (ShortSign t a b ∷ xs) ys = realtimes-front o (suc n) xs ys
realtimes-front false n (EndSign ∷ xs) ys = realtimes-front false n xs ys
realtimes-front true n (EndSign ∷ xs) ys = realtimes-front false (suc n) xs ys
realtimes-front o n (RtSign b ∷ xs) ys =
    let f = realtimes-front o n xs ys in (f.0, ap (λ z. record { byte = b; after = n } ∷ z) f.1)
realtimes-front o n (OpenSign ∷ xs) ys = realtimes-front true n xs ys
realtimes-front o n (ByteSign b ∷ xs) ys = realtimes-front o n xs ys
realtimes-front o n (AbortSign ∷ xs) ys = realtimes-front false n xs ys

pub front-means : (xs ys : List Sign) → suited (xs ++ ys) ≡ true →
    IsMeaningFront (denotation xs) (denotation (xs ++ ys))
front-means xs ys s =
    let f = items-front None xs ys (Suited-from_suited (xs ++ ys) s) in
    record {
      both = f.both;
      open_yet = f.open_yet;
      rest = f.rest;
      front_is = f.front_is;
      whole_is = f.whole_is;
      begins = f.begins;
      realtimes = realtimes-front false 0 xs ys;
    }

-- The end tells of a broken SysEx, which means nothing new.

items-abort : (o : Option (List ℕ)) (ms : List Sign) → items_from o (ms ++ AbortSign ∷ []) ≡ items_from o ms
items-abort None [] = refl
items-abort (Some ds) [] = refl
items-abort o (ShortSign s a b ∷ ms) = ap (λ z. Message s a b ∷ z) (items-abort o ms)
items-abort o (RtSign b ∷ ms) = items-abort o ms
items-abort o (OpenSign ∷ ms) = items-abort (Some []) ms
items-abort None (ByteSign b ∷ ms) = items-abort None ms
items-abort (Some ds) (ByteSign b ∷ ms) = items-abort (Some (ds ++ b ∷ [])) ms
items-abort None (EndSign ∷ ms) = items-abort None ms
items-abort (Some ds) (EndSign ∷ ms) = ap (λ z. Syx ds ∷ z) (items-abort None ms)
items-abort None (AbortSign ∷ ms) = items-abort None ms
items-abort (Some ds) (AbortSign ∷ ms) = ap (λ z. Broken ds ∷ z) (items-abort None ms)

realtimes-abort : (o : Bool) (n : ℕ) (ms : List Sign) → realtimes_from o n (ms ++ AbortSign ∷ []) ≡ realtimes_from o n
    ms
realtimes-abort o n [] = refl
realtimes-abort o n (ShortSign s a b ∷ ms) = realtimes-abort o (suc n) ms
realtimes-abort false n (EndSign ∷ ms) = realtimes-abort false n ms
realtimes-abort true n (EndSign ∷ ms) = realtimes-abort false (suc n) ms
realtimes-abort o n (RtSign b ∷ ms) = ap (λ z. record { byte = b; after = n } ∷ z) (realtimes-abort o n ms)
realtimes-abort o n (OpenSign ∷ ms) = realtimes-abort true n ms
realtimes-abort o n (ByteSign b ∷ ms) = realtimes-abort o n ms
realtimes-abort o n (AbortSign ∷ ms) = realtimes-abort false n ms

means-abort : (ms : List Sign) → denotation (ms ++ AbortSign ∷ []) ≡ denotation ms
means-abort ms = ap₂ (λ i r. record { items = i; realtimes = r }) (items-abort None ms) (realtimes-abort false 0 ms)

pub means-end : (ms : List Sign) (g : Group) → denotation (ms ++ told_signs (at_end g)) ≡ denotation ms
means-end ms g = by (begun_at g) (is_sysex g)
  where
    by : (b : Option ℕ) (o : Bool) → denotation (ms ++ told_signs (truncated_end b ++ broken_end o)) ≡ denotation ms
    by None true = means-abort ms
    by None false = ap denotation (append-nil ms)
    by (Some at) true = means-abort ms
    by (Some at) false = ap denotation (append-nil ms)
