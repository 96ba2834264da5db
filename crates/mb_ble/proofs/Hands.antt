-- A reader of groups that was placed and read a piece.
use Rattle.std.proofs.Common.{◌≡◌, ℕ, ◌+◌, List, [], ◌∷◌, ◌++◌, length, map, suc, Bool, true, false, refl, arith, ◌∙◌}
use Rattle.std.proofs.Common.{ap, sym, subst, inl, inr}
use Rattle.std.specs.Prelude.{◌⊎◌, ◌==◌}
use Rattle.std.proofs.lemmas.Bool.Decides.{nat_tests}
use Rattle.std.proofs.lemmas.List.{append-nil}
use Rattle.mb_din.specs.Reader.{Stands, DinGoes, NextSays}
use Rattle.mb_din.specs.State.{State}
use Rattle.mb_stream.specs.Payload.{Entry, heard_from}
use Rattle.mb_stream.specs.Reading.{so_far}
use Rattle.mb_stream.specs.Told.{Told, Known, Marks, Notes}
use Rattle.mb_message.specs.Signs.{ShortSign, RtSign, OpenSign, ByteSign, EndSign, AbortSign}
use Rattle.mb_ble.specs.Content.{Hands, is_common}
use Rattle.mb_message.specs.Front.{IsFront}
use Rattle.mb_stream.specs.ReaderLaw.{has_short}

pub hands_lem : (was p now : State) (at : ℕ) (piece left : List ℕ) (seen : List Told) → p.offset ≡ at →
    now.offset + length left ≡ p.offset + length piece → p ≡ record was { offset = at } → ((entries : List Entry) →
    Stands was entries (so_far entries) → Stands p entries (so_far entries)) →
    NextSays p now piece left seen →
    Hands was now at piece left seen
hands_lem was p now at piece left seen there end same stands next = record {
  placed = p;
  there = there;
  offset = end ∙ ap (λ n. n + length piece) there;
  place = λ entries told how st. by_how entries told how st;
  next = λ moment entries told st front. subst (λ z. DinGoes p now moment piece left seen entries told z)
      (append-nil (heard_from p.offset moment piece))
      (next moment entries told [] st tt (subst (λ z. IsFront told (so_far (entries ++ z)))
      (sym (append-nil (heard_from p.offset moment piece))) front));
}
  where
    by_how : (entries : List Entry) (told : List Known) → (was.offset ≡ at) ⊎ (told ≡ so_far entries) →
        Stands was entries told → Stands p entries told
    by_how entries told (inl e) st = subst (λ z. Stands z entries told)
        (sym (same ∙ ap (λ (n : ℕ). record was { offset = n }) (sym e))) st
    by_how entries told (inr e) st = subst (λ z. Stands p entries z) (sym e)
        (stands entries (subst (λ z. Stands was entries z) e st))

pub run_common : (bs : List ℕ) → is_common (map Marks (map ByteSign bs)) ≡ false
run_common [] = refl
run_common (b ∷ bs) = run_common bs

pub empty_nil : (xs : List ℕ) (r : Bool) → r ≡ (length xs == 0) → r ≡ true → xs ≡ []
empty_nil [] r e t = refl
empty_nil (x ∷ xs) r e t = absurd (no (length xs) (sym t ∙ e))
  where
    no : (n : ℕ) → true ≡ (suc n == 0) → ⊥
    no n e = grind (arith, nat_tests)

pub some_not : (xs : List ℕ) (r : Bool) → r ≡ (length xs == 0) → r ≡ false → xs ≡ [] → ⊥
some_not xs r e t n = false≢true (sym t ∙ e ∙ ap (λ z. length z == 0) n)
  where
    false≢true : false ≡ true → ⊥
    false≢true e = cc

-- a System Common message is a short one
pub common_short : (ts : List Told) → is_common ts ≡ true → has_short ts ≡ true
common_short [] e = e
common_short (Marks (ShortSign s a b) ∷ ts) e = refl
common_short (Marks (RtSign b) ∷ ts) e = common_short ts e
common_short (Marks OpenSign ∷ ts) e = common_short ts e
common_short (Marks (ByteSign b) ∷ ts) e = common_short ts e
common_short (Marks EndSign ∷ ts) e = common_short ts e
common_short (Marks AbortSign ∷ ts) e = common_short ts e
common_short (Notes at kind ∷ ts) e = common_short ts e
