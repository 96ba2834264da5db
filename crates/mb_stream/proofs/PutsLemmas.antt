-- The marks of a list of puts.
use Rattle.std.proofs.Common.{◌≡◌, ℕ, List, [], ◌∷◌, ◌++◌, refl, ◌∙◌, ap}
use Rattle.mb_message.specs.Signs.{Sign}
use Rattle.mb_stream.specs.Puts.{Put, At, Flush, signs_in, puts_at}

pub signs_in-append : (xs ys : List Put) → signs_in (xs ++ ys) ≡ signs_in xs ++ signs_in ys
signs_in-append [] ys = refl
signs_in-append (At m s ∷ xs) ys = ap (λ z. s ∷ z) (signs_in-append xs ys)
signs_in-append (Flush ∷ xs) ys = signs_in-append xs ys

pub signs_in-at : (m : ℕ) (signs : List Sign) → signs_in (puts_at m signs) ≡ signs
signs_in-at m [] = refl
signs_in-at m (s ∷ signs) = ap (λ z. s ∷ z) (signs_in-at m signs)

pub signs_in-more : (puts : List Put) (m : ℕ) (signs : List Sign) → signs_in (puts ++ puts_at m signs) ≡
    signs_in puts ++ signs
signs_in-more puts m signs = signs_in-append puts (puts_at m signs) ∙ ap (λ z. signs_in puts ++ z) (signs_in-at m signs)

pub signs_in-flush : (puts : List Put) → signs_in (puts ++ Flush ∷ []) ≡ signs_in puts
signs_in-flush [] = refl
signs_in-flush (At m s ∷ puts) = ap (λ z. s ∷ z) (signs_in-flush puts)
signs_in-flush (Flush ∷ puts) = signs_in-flush puts
