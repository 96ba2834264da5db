-- What readers tell composes, and can be said by another list of what is known.
use Rattle.std.proofs.Common.{◌≡◌, ℕ, List, [], ◌∷◌, ◌++◌, map, refl, sym, ◌∙◌, ap, ap₂, subst, append_assoc}
use Rattle.std.proofs.Common.{append-nil}
use Rattle.mb_stream.specs.ReaderLaw.{Goes, Tells, AllTold}

map-append : {A B : Type 0} (f : A → B) (xs ys : List A) → map f (xs ++ ys) ≡ map f xs ++ map f ys
map-append f [] ys = refl
map-append f (x ∷ xs) ys = ap (λ z. f x ∷ z) (map-append f xs ys)

pub tells-refl : {K T : Type 0} (bare : K → T) (known : List ℕ → List K) (now : List ℕ → List K → Type 0)
    (input : List ℕ) →
    Tells bare known now now input input []
tells-refl bare known now input bytes told h front = record {
  taken = [];
  front = refl;
  fresh = [];
  answer_is = refl;
  stands = subst (λ bs. now bs (told ++ [])) (sym (append-nil bytes)) (subst (now bytes) (sym (append-nil told)) h);
  still = (front.0, front.1 ∙ ap (λ z. z ++ front.0) (sym (append-nil told)));
}

pub tells-trans : {K T : Type 0} (bare : K → T) (known : List ℕ → List K) (was mid now : List ℕ → List K → Type 0)
    (input between left : List ℕ) (seen more : List T) →
    Tells bare known was mid input between seen → Tells bare known mid now between left more →
    Tells bare known was now input left (seen ++ more)
tells-trans bare known was mid now input between left seen more f g bytes told h front =
    let a : Goes bare known mid input between seen bytes told = f bytes told h front in
    let here : bytes ++ input ≡ (bytes ++ a.taken) ++ between = ap (λ z. bytes ++ z) a.front ∙
    sym (append_assoc bytes a.taken between) in
    let b : Goes bare known now between left more (bytes ++ a.taken) (told ++ a.fresh) =
    g (bytes ++ a.taken) (told ++ a.fresh) a.stands (a.still.0, ap known (sym here) ∙ a.still.1) in
    record {
      taken = a.taken ++ b.taken;
      front = a.front ∙ (ap (λ z. a.taken ++ z) b.front ∙ sym (append_assoc a.taken b.taken left));
      fresh = a.fresh ++ b.fresh;
      answer_is = map-append bare a.fresh b.fresh ∙ ap₂ (λ xs ys. xs ++ ys) a.answer_is b.answer_is;
      stands = subst (λ bs. now bs (told ++ (a.fresh ++ b.fresh))) (append_assoc bytes a.taken b.taken)
          (subst (now ((bytes ++ a.taken) ++ b.taken)) (append_assoc told a.fresh b.fresh) b.stands);
      still = (b.still.0, ap known here ∙ (b.still.1 ∙ ap (λ z. z ++ b.still.0) (append_assoc told a.fresh b.fresh)));
    }

-- what is known, said by another list
pub tells-as : {K T : Type 0} (bare : K → T) (known also : List ℕ → List K) (was now : List ℕ → List K → Type 0)
    (input left : List ℕ) (seen : List T) → ((bs : List ℕ) → known bs ≡ also bs) →
    Tells bare known was now input left seen → Tells bare also was now input left seen
tells-as bare known also was now input left seen same tells bytes told h front =
    let g : Goes bare known now input left seen bytes told = tells bytes told h (
      front.0,
      same (bytes ++ input) ∙
          front.1,
    ) in
    record {
      taken = g.taken;
      front = g.front;
      fresh = g.fresh;
      answer_is = g.answer_is;
      stands = g.stands;
      still = (g.still.0, sym (same (bytes ++ input)) ∙ g.still.1);
    }

pub all_told-as : {K : Type 0} (known also : List ℕ → List K) (was : List ℕ → List K → Type 0) (input : List ℕ) →
    ((bs : List ℕ) → known bs ≡ also bs) → AllTold known was input → AllTold also was input
all_told-as known also was input same all bytes told h front =
    all bytes told h (front.0, same (bytes ++ input) ∙ front.1) ∙ same (bytes ++ input)
