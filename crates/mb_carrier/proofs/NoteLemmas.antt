-- A reading's notes are those of what is told.
use Rattle.std.proofs.Common.{◌≡◌, ℕ, Bool, true, false, List, [], ◌∷◌, ◌++◌, map, refl, sym, ◌∙◌, ap}
use Rattle.std.specs.Prelude.{flat_map}
use Rattle.std.proofs.lemmas.List.Concat.{flat_map-append}
use Rattle.mb_stream.specs.Payload.{last_moment}
use Rattle.mb_stream.specs.Told.{Known, Told, Marks, Notes}
use Rattle.mb_stream.specs.Reading.{Part, Remark, part_of, part_at, note_in}
use Rattle.mb_stream.specs.Reading as stream
use Rattle.mb_carrier.specs.Carrier.{known, payload_of, end_told, end_moment, reading_of, notes_of}
use Rattle.mb_carrier.specs.Conversion.{none_set}
use Rattle.mb_carrier.specs.ListSteps.{told_of, has_notes}
use Rattle.mb_carrier.specs.declared.spec.Spec.{Spec}
use Rattle.mb_carrier.specs.declared.spec.Spec.TheVariants.{Din, Usb, Fire, Ble}

-- a reading is what is known and what its end tells, at some moment
read-ends : (s : Spec) (bytes : List ℕ) → (m : ℕ) ×
    (reading_of s bytes ≡ map part_of (known s bytes) ++ map (part_at m) (end_told s bytes))
read-ends Din bytes = (last_moment 0 (payload_of Din bytes), refl)
read-ends (Usb cable) bytes = (0, refl)
read-ends (Fire port) bytes = (0, refl)
read-ends (Ble size) bytes = (end_moment (Ble size) none_set bytes, refl)

abbrev remarks : List Told → List Remark
remarks ts = flat_map note_in ts

known-remarks : (ks : List Known) → stream.notes_of (map part_of ks) ≡ remarks (told_of ks)
known-remarks [] = refl
known-remarks (k ∷ ks) = ap (λ xs. note_in k.told ++ xs) (known-remarks ks)

end-remarks : (m : ℕ) (ts : List Told) → stream.notes_of (map (part_at m) ts) ≡ remarks ts
end-remarks m [] = refl
end-remarks m (t ∷ ts) = ap (λ xs. note_in t ++ xs) (end-remarks m ts)

all-remarks : (s : Spec) (bytes : List ℕ) → notes_of s bytes ≡ remarks (told_of (known s bytes) ++ end_told s bytes)
all-remarks s bytes =
    let read = read-ends s bytes in
    ap stream.notes_of read.1
    ∙ (flat_map-append (λ (p : Part). note_in p.told) (map part_of (known s bytes))
    (map (part_at read.0) (end_told s bytes))
    ∙ (ap (λ xs. xs ++ stream.notes_of (map (part_at read.0) (end_told s bytes))) (known-remarks (known s bytes))
    ∙ (ap (λ xs. remarks (told_of (known s bytes)) ++ xs) (end-remarks read.0 (end_told s bytes))
    ∙ sym (flat_map-append note_in (told_of (known s bytes)) (end_told s bytes)))))

none-noted : (ts : List Told) → has_notes ts ≡ false → remarks ts ≡ []
none-noted [] e = refl
none-noted (Marks m ∷ ts) e = none-noted ts e
none-noted (Notes at kind ∷ ts) e = cc

some-noted : (ts : List Told) → has_notes ts ≡ true → remarks ts ≡ [] → ⊥
some-noted [] e n = cc
some-noted (Marks m ∷ ts) e n = some-noted ts e n
some-noted (Notes at kind ∷ ts) e n = cc

pub not-noted : (s : Spec) (bytes : List ℕ) → has_notes (told_of (known s bytes) ++ end_told s bytes) ≡ false →
    notes_of s bytes ≡ []
not-noted s bytes e = all-remarks s bytes ∙ none-noted (told_of (known s bytes) ++ end_told s bytes) e

pub is-noted : (s : Spec) (bytes : List ℕ) → has_notes (told_of (known s bytes) ++ end_told s bytes) ≡ true →
    notes_of s bytes ≡ [] → ⊥
is-noted s bytes e n = some-noted (told_of (known s bytes) ++ end_told s bytes) e (sym (all-remarks s bytes) ∙ n)
