-- What a reader tells, as marks with their moments: they suit, at the bytes and at the end.
use Rattle.std.proofs.Common.{◌≡◌, ℕ, Bool, true, false, Option, Some, None, List, [], ◌∷◌, ◌++◌, map, length, refl}
use Rattle.std.proofs.Common.{sym, ◌∙◌, ap, subst}
use Rattle.mb_message.specs.Signs.{Sign, signs_of_event}
use Rattle.mb_message.specs.declared.event.Seen.{Seen}
use Rattle.mb_message.specs.declared.event.Seen.TheVariants as seen
use Rattle.mb_stream.specs.Standing.{suited, is_open}
use Rattle.mb_stream.specs.Told.{Known, Told, Marks}
use Rattle.mb_stream.specs.Puts.{Put, signs_in, puts_at}
use Rattle.mb_stream.proofs.PutsLemmas.{signs_in-append}
use Rattle.mb_stream.proofs.StandingLemmas.{apart, Suited-front, Suited-from_suited, suited-from_Suited}
use Rattle.mb_stream.specs.ReaderLaw.{told_by, answer}
use Rattle.mb_message.specs.Front.{IsFront}
use Rattle.mb_stream.specs.Reading.{told_signs}
use Rattle.mb_carrier.specs.Carrier.{known, end_told, marks_of, marks_so_far, puts_so_far, puts_of, end_moment}
use Rattle.mb_carrier.specs.Hop.{ReaderGoes, MayCome, seen_signs}
use Rattle.mb_carrier.specs.declared.spec.Spec.{Spec}
use Rattle.mb_carrier.proofs.PutLemmas.{so_far-in, puts_of-in}

told_signs-marks : (ms : List Sign) → told_signs (map Marks ms) ≡ ms
told_signs-marks [] = refl
told_signs-marks (m ∷ ms) = ap (λ xs. m ∷ xs) (told_signs-marks ms)

pub told_signs-seen : (x : Seen) → told_signs (told_by x) ≡ seen_signs x
told_signs-seen (seen.Ev e) = told_signs-marks (signs_of_event e)
told_signs-seen (seen.Note n) = refl

-- what a call of the reader's `next` says, its specs being equal
abbrev pub Goes : Spec → (was now : List ℕ → List Known → Type 0) → (at : ℕ → ℕ) → (input left : List ℕ) → List Told →
    Type 0
Goes s was now at input left answer =
    (bytes : List ℕ) (told : List Known) → was bytes told → IsFront told (known s (bytes ++ input)) →
    ReaderGoes s now at input left answer bytes told

pub goes-spec : (s other : Spec) (was now : List ℕ → List Known → Type 0) (at : ℕ → ℕ) (input left : List ℕ)
    (answer : List Told) →
    other ≡ s → Goes other was now at input left answer → Goes s was now at input left answer
goes-spec s other was now at input left answer same g = subst (λ (t : Spec). Goes t was now at input left answer) same g

-- nothing was told
pub no_told : (ks : List Known) → map (λ k. k.told) ks ≡ [] → ks ≡ []
no_told [] e = refl
no_told (k ∷ ks) e = cc

pub suited-front : (ms ns : List Sign) → suited (ms ++ ns) ≡ true → suited ms ≡ true
suited-front ms ns e = suited-from_Suited ms (Suited-front false ms ns (Suited-from_suited (ms ++ ns) e))

pub puts-front : (ps qs : List Put) → suited (signs_in (ps ++ qs)) ≡ true → suited (signs_in ps) ≡ true
puts-front ps qs e = suited-front (signs_in ps) (signs_in qs) (ap suited (sym (signs_in-append ps qs)) ∙ e)

-- a mark that suits may come
pub may_come : (in_sysex : Bool) (marks : List Sign) (x : Seen) → in_sysex ≡ is_open marks →
    suited (marks ++ seen_signs x) ≡ true → MayCome in_sysex (seen_signs x)
may_come in_sysex marks (seen.Ev e) same e1 = subst (λ (o : Bool). MayCome o (signs_of_event e)) (sym same)
    (apart marks e e1)
may_come in_sysex marks (seen.Note n) same e1 = refl

pub may_come-last : (in_sysex : Bool) (marks : List Sign) (last : Option Seen) → in_sysex ≡ is_open marks →
    suited (marks ++ told_signs (answer last)) ≡ true → MayCome in_sysex (told_signs (answer last))
may_come-last in_sysex marks None same e = refl
may_come-last in_sysex marks (Some x) same e =
    subst (λ (ms : List Sign). MayCome in_sysex ms) (sym (told_signs-seen x))
    (may_come in_sysex marks x same (ap (λ ms. suited (marks ++ ms)) (sym (told_signs-seen x)) ∙ e))

-- the laws of a spec that is read
pub record Reads (s : Spec) : Type 0 where
  pub stays : (bytes more : List ℕ) → IsFront (known s bytes) (known s (bytes ++ more))
  pub ends : (bytes : List ℕ) → marks_of s bytes ≡ marks_so_far s bytes ++ told_signs (end_told s bytes)
  pub suits : (bytes : List ℕ) → suited (marks_of s bytes) ≡ true

pub suited-so_far : (s : Spec) (moments : ℕ → ℕ) → Reads s → (bytes : List ℕ) →
    suited (signs_in (puts_so_far s moments bytes)) ≡ true
suited-so_far s moments laws bytes =
    ap suited (so_far-in s moments bytes) ∙ suited-front (marks_so_far s bytes) (told_signs (end_told s bytes))
    (ap suited (sym (laws.ends bytes)) ∙ laws.suits bytes)

pub suited-all : (s : Spec) (moments : ℕ → ℕ) → Reads s → (bytes : List ℕ) →
    suited (signs_in (puts_of s moments bytes)) ≡ true
suited-all s moments laws bytes = ap suited (puts_of-in s moments bytes (laws.ends bytes)) ∙ laws.suits bytes

-- the marks of the whole reading, those of the end at this moment
pub puts-end : (s : Spec) (moments : ℕ → ℕ) (m : ℕ) (bytes : List ℕ) (told : List Told) → told ≡ end_told s bytes →
    end_moment s moments bytes ≡ m →
    puts_of s moments bytes ≡ puts_so_far s moments bytes ++ puts_at m (told_signs told)
puts-end s moments m bytes told e f =
    ap (λ n. puts_so_far s moments bytes ++ puts_at n (told_signs (end_told s bytes))) f
    ∙ ap (λ ts. puts_so_far s moments bytes ++ puts_at m (told_signs ts)) (sym e)
