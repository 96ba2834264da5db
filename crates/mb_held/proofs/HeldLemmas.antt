-- What is held, and what was handed on before it.
use Rattle.std.proofs.Common.{◌≡◌, ℕ, List, [], ◌∷◌, ◌++◌, refl, sym, ◌∙◌, ap, subst}
use Rattle.std.proofs.Common.{append_assoc, append-nil}
use Rattle.mb_message.specs.Front.{IsFront, IsPart}
use Rattle.mb_outside.specs.TakingLaws.{part-within, part-behind}
use Rattle.mb_held.specs.Held.{Holds}

-- a front of some bytes was handed on, and not all
abbrev pub Fronted : (took : List ℕ → Type 0) (bytes : List ℕ) → Type 0
Fronted took bytes = (front : List ℕ) × IsPart front bytes × took front

-- nothing was handed on
pub holds-start : (took : List ℕ → Type 0) (held : List ℕ) → took [] → Holds took held held
holds-start took held none = record { given = []; took_it = none; all = refl }

-- all was handed on
pub holds-none : (took : List ℕ → Type 0) (bytes held : List ℕ) → held ≡ [] → took bytes → Holds took bytes held
holds-none took bytes held none took_it = record {
  given = bytes;
  took_it = took_it;
  all = ap (λ xs. bytes ++ xs) none ∙ append-nil bytes;
}

-- bytes are held behind what is
pub holds-more : (took : List ℕ → Type 0) (bytes more held now : List ℕ) → Holds took bytes held →
    now ≡ held ++ more → Holds took (bytes ++ more) now
holds-more took bytes more held now h e = record {
  given = h.given;
  took_it = h.took_it;
  all = ap (λ xs. h.given ++ xs) e ∙ (sym (append_assoc h.given held more) ∙ ap (λ xs. xs ++ more) h.all);
}

-- two steps, of which the first held what the second began with
pub holds-then : (first second both : List ℕ → Type 0) (bytes more held now : List ℕ) →
    ((x y : List ℕ) → first x → second y → both (x ++ y)) →
    Holds first bytes held → Holds second (held ++ more) now → Holds both (bytes ++ more) now
holds-then first second both bytes more held now joined h g = record {
  given = h.given ++ g.given;
  took_it = joined h.given g.given h.took_it g.took_it;
  all =
      append_assoc h.given g.given now
      ∙ (ap (λ xs. h.given ++ xs) g.all
      ∙ (sym (append_assoc h.given held more) ∙ ap (λ xs. xs ++ more) h.all));
}

pub fronted-then : (first second both : List ℕ → Type 0) (bytes more held : List ℕ) →
    ((x y : List ℕ) → first x → second y → both (x ++ y)) →
    Holds first bytes held → Fronted second (held ++ more) → Fronted both (bytes ++ more)
fronted-then first second both bytes more held joined h f = (
  h.given ++ f.0,
  subst (IsPart (h.given ++ f.0)) (sym (append_assoc h.given held more) ∙ ap (λ xs. xs ++ more) h.all)
      (part-behind h.given f.0 (held ++ more) f.1),
  joined h.given f.0 h.took_it f.2,
)

-- all that is held, and the rest of it, handed on
pub given-then : (first second both : List ℕ → Type 0) (bytes held : List ℕ) →
    ((x y : List ℕ) → first x → second y → both (x ++ y)) → Holds first bytes held → second held → both bytes
given-then first second both bytes held joined h g = subst both h.all (joined h.given held h.took_it g)

pub refused-then : (first second both : List ℕ → Type 0) (bytes held : List ℕ) →
    ((x y : List ℕ) → first x → second y → both (x ++ y)) → Holds first bytes held → Fronted second held →
    Fronted both bytes
refused-then first second both bytes held joined h f =
    subst (Fronted both) (append-nil bytes)
    (fronted-then first second both bytes [] held joined h (subst (Fronted second) (sym (append-nil held)) f))

-- a front of a front
pub fronted-within : (took : List ℕ → Type 0) (bytes all : List ℕ) → Fronted took bytes → IsFront bytes all →
    Fronted took all
fronted-within took bytes all f front = (f.0, part-within f.0 bytes all f.1 front, f.2)
