-- The marks of records behind a recording.
use Rattle.std.proofs.Common.{◌≡◌, ℕ, List, [], ◌∷◌, ◌++◌, length, drop, sym, ◌∙◌, ap, append_assoc}
use Rattle.std.proofs.Common.{append-nil}
use Rattle.std.proofs.Math.Seq.{drop-append_seam}
use Rattle.mb_message.specs.Front.{IsFront}
use Rattle.mb_message.specs.Signs.{Sign}
use Rattle.mb_stream.specs.Puts.{puts_at, signs_in}
use Rattle.mb_stream.specs.Told.{Known}
use Rattle.mb_stream.proofs.PutsLemmas.{signs_in-append, signs_in-at}
use Rattle.mb_frames.specs.Tapes.{Record}
use Rattle.mb_carrier.specs.Carrier.{known, known_signs, marks_so_far}
use Rattle.mb_carrier.specs.SpecLaws.{known-stays}
use Rattle.mb_carrier.specs.declared.spec.Spec.{Spec}
use Rattle.mb_carrier.proofs.PutLemmas.{known_signs-append}
use Rattle.mb_track.specs.Track.{bytes_on, marks_from, new_marks, recording}

pub signs-front : (ks ls : List Known) → IsFront ks ls → IsFront (known_signs ks) (known_signs ls)
signs-front ks ls f = (known_signs f.0, ap known_signs f.1 ∙ known_signs-append ks f.0)

-- the marks of more bytes are those of the bytes before and the new ones
pub marks-more : (s : Spec) (before more : List ℕ) →
    marks_so_far s (before ++ more) ≡ marks_so_far s before ++ new_marks s before more
marks-more s before more =
    let f = signs-front (known s before) (known s (before ++ more)) (known-stays s before more) in
    f.1 ∙ ap (λ ms. marks_so_far s before ++ ms)
    (sym (ap (drop (length (marks_so_far s before))) f.1 ∙ drop-append_seam (marks_so_far s before) f.0))

pub new-are : (s : Spec) (before more : List ℕ) (fresh : List Sign) →
    marks_so_far s (before ++ more) ≡ marks_so_far s before ++ fresh → new_marks s before more ≡ fresh
new-are s before more fresh e =
    ap (drop (length (marks_so_far s before))) e ∙ drop-append_seam (marks_so_far s before) fresh

pub none-new : (s : Spec) (before : List ℕ) → new_marks s before [] ≡ []
none-new s before =
    new-are s before [] [] (ap (marks_so_far s) (append-nil before) ∙ sym (append-nil (marks_so_far s before)))

pub marks-append : (s : Spec) (track : ℕ) (before : List ℕ) (rs qs : List Record) →
    marks_from s track before (rs ++ qs) ≡
    marks_from s track before rs ++ marks_from s track (before ++ recording track rs) qs
marks-append s track before [] qs = ap (λ xs. marks_from s track xs qs) (sym (append-nil before))
marks-append s track before (r ∷ rs) qs =
    let head = puts_at r.moment (new_marks s before (bytes_on track r)) in
    ap (λ ps. head ++ ps) (marks-append s track (before ++ bytes_on track r) rs qs
    ∙ ap (λ xs. marks_from s track (before ++ bytes_on track r) rs ++ marks_from s track xs qs)
    (append_assoc before (bytes_on track r) (recording track rs)))
    ∙ sym (append_assoc head (marks_from s track (before ++ bytes_on track r) rs)
    (marks_from s track (before ++ recording track (r ∷ rs)) qs))

-- however a recording is cut into records, its marks are the same
pub marks-signs : (s : Spec) (track : ℕ) (before : List ℕ) (rs : List Record) →
    marks_so_far s (before ++ recording track rs) ≡ marks_so_far s before ++ signs_in (marks_from s track before rs)
marks-signs s track before [] = ap (marks_so_far s) (append-nil before) ∙ sym (append-nil (marks_so_far s before))
marks-signs s track before (r ∷ rs) =
    let news = new_marks s before (bytes_on track r) in
    let others = marks_from s track (before ++ bytes_on track r) rs in
    ap (marks_so_far s) (sym (append_assoc before (bytes_on track r) (recording track rs)))
    ∙ (marks-signs s track (before ++ bytes_on track r) rs
    ∙ (ap (λ ms. ms ++ signs_in others) (marks-more s before (bytes_on track r))
    ∙ (append_assoc (marks_so_far s before) news (signs_in others)
    ∙ ap (λ ms. marks_so_far s before ++ ms)
    (sym (signs_in-append (puts_at r.moment news) others
    ∙ ap (λ ms. ms ++ signs_in others) (signs_in-at r.moment news))))))

nothing-first : (s : Spec) → marks_so_far s [] ≡ [] → (ms : List Sign) → marks_so_far s [] ++ ms ≡ ms
nothing-first s none ms = ap (λ xs. xs ++ ms) none
