-- What a line says, by its words; and that its words are printed.
use Rattle.std.proofs.Common.{◌≡◌, ℕ, zero, suc, ◌<◌, Bool, true, false, Option, Some, None, List, [], ◌∷◌, ◌++◌}
use Rattle.std.proofs.Common.{refl, ap, sym}
use Rattle.std.proofs.Common.{◌∙◌, arith, codes}
use Rattle.std.specs.Prelude.{if◌then◌else◌, ◌&&◌, ◌||◌, nat_le, nat_lt, bytes_eq}
use Rattle.std.specs.List.{list_all}
use Rattle.std.specs.Str.{IsAscii, IsUtf8}
use Rattle.std.proofs.lemmas.Str.{IsUtf8-from_ascii}
use Rattle.std.proofs.lemmas.Bool.{false≢true}
use Rattle.std.proofs.lemmas.Bool.Decides.{nat_tests}
use Rattle.mb_text.specs.Text.{is_blank, is_printed, and_word, words_from, words}
use Rattle.mb_rig.specs.RigText.{Statement, Remark, Link, Outlet, Route, Unfit, begins_hash, is_file, link_by, track_of}
use Rattle.mb_rig.specs.RigText.{statement_by, statement_of, statement}
use Rattle.mb_rig.specs.RigAnswer.{are_printed, has_printed}

pub says : (line first : List ℕ) (ws : List (List ℕ)) (p : Bool) → words line ≡ first ∷ ws →
    begins_hash first ≡ false → is_printed line ≡ p → statement line ≡ (if p then statement_by first ws else Unfit)
says line first ws p is h e =
    ap (statement_of (is_printed line)) is ∙
    (ap (λ (t : Bool). if t then Remark else (if is_printed line then statement_by first ws else Unfit)) h ∙
    ap (λ (t : Bool). if t then statement_by first ws else Unfit) e)

pub cons : (w : List ℕ) {xs ys : List (List ℕ)} → xs ≡ ys → w ∷ xs ≡ w ∷ ys
cons w e = ap (λ zs. w ∷ zs) e

-- printed words

and_left : (a b : Bool) → (a && b) ≡ true → a ≡ true
and_left true b e = refl
and_left false b e = absurd (false≢true e)

and_right : (a b : Bool) → (a && b) ≡ true → b ≡ true
and_right true b e = e
and_right false b e = absurd (false≢true e)

and_both : (a b : Bool) → a ≡ true → b ≡ true → (a && b) ≡ true
and_both true b e f = f
and_both false b e f = absurd (false≢true e)

char-of : (b : ℕ) → is_blank b ≡ false → (is_blank b || (nat_le 0x21 b && nat_lt b 0x7f)) ≡ true →
    (nat_le 0x21 b && nat_le b 0x7e) ≡ true
char-of b blank e = same (ap (λ (t : Bool). t || (nat_le 0x21 b && nat_lt b 0x7f)) (sym blank) ∙ e)
  where
    same : (nat_le 0x21 b && nat_lt b 0x7f) ≡ true → (nat_le 0x21 b && nat_le b 0x7e) ≡ true
    same h = grind (arith, nat_tests)

printed-push : (front : List ℕ) (b : ℕ) → are_printed front ≡ true → (nat_le 0x21 b && nat_le b 0x7e) ≡ true →
    are_printed (front ++ b ∷ []) ≡ true
printed-push [] b e h = and_both (nat_le 0x21 b && nat_le b 0x7e) true h refl
printed-push (x ∷ xs) b e h = and_both (nat_le 0x21 x && nat_le x 0x7e) (are_printed (xs ++ b ∷ []))
    (and_left _ _ e) (printed-push xs b (and_right (nat_le 0x21 x && nat_le x 0x7e) _ e) h)

printed-and : (w : List ℕ) (ws : List (List ℕ)) → are_printed w ≡ true → list_all are_printed ws ≡ true →
    list_all are_printed (and_word w ws) ≡ true
printed-and [] ws e f = f
printed-and (b ∷ bs) ws e f = and_both (are_printed (b ∷ bs)) (list_all are_printed ws) e f

printed-from : (front bs : List ℕ) → are_printed front ≡ true → is_printed bs ≡ true →
    list_all are_printed (words_from front bs) ≡ true
printed-from front [] e h = printed-and front [] e refl
printed-from front (b ∷ bs) e h =
    by (is_blank b) refl (printed-from [] bs refl rest)
    (λ g. printed-from (front ++ b ∷ []) bs (printed-push front b e g) rest)
  where
    here : (is_blank b || (nat_le 0x21 b && nat_lt b 0x7f)) ≡ true
    here = and_left _ (is_printed bs) h

    rest : is_printed bs ≡ true
    rest = and_right (is_blank b || (nat_le 0x21 b && nat_lt b 0x7f)) (is_printed bs) h

    by : (t : Bool) → is_blank b ≡ t → list_all are_printed (words_from [] bs) ≡ true →
        ((nat_le 0x21 b && nat_le b 0x7e) ≡ true → list_all are_printed (words_from (front ++ b ∷ []) bs) ≡ true) →
        list_all are_printed (words_from front (b ∷ bs)) ≡ true
    by true c ended more =
        ap (λ (t : Bool). list_all are_printed (if t then and_word front (words_from [] bs) else words_from (front ++
        b ∷ []) bs)) c ∙ printed-and front (words_from [] bs) e ended
    by false c ended more =
        ap (λ (t : Bool). list_all are_printed (if t then and_word front (words_from [] bs) else words_from (front ++
        b ∷ []) bs)) c ∙ more (char-of b c here)

-- what a line says has a printed name and file

if-printed : (t : Bool) (a b : Statement) → has_printed a ≡ true → has_printed b ≡ true →
    has_printed (if t then a else b) ≡ true
if-printed true a b e f = e
if-printed false a b e f = f

link-printed : (a b c : List ℕ) (track : Option ℕ) → are_printed a ≡ true → are_printed c ≡ true →
    has_printed (link_by a b c track) ≡ true
link-printed a b c None e f = refl
link-printed a b c (Some track) e f = if-printed (is_file c) (Link a b c track) Unfit (and_both _ _ e f) refl

by-printed : (first : List ℕ) (ws : List (List ℕ)) → list_all are_printed ws ≡ true →
    has_printed (statement_by first ws) ≡ true
by-printed first [] e = refl
by-printed first (a ∷ []) e = refl
by-printed first (a ∷ b ∷ []) e = if-printed (bytes_eq first (codes "route")) (Route a b) Unfit refl refl
by-printed first (a ∷ b ∷ c ∷ []) e =
    let name : are_printed a ≡ true = and_left _ _ e in
    let file : are_printed c ≡ true = and_left _ _ (and_right (are_printed b) _ (and_right (are_printed a) _ e)) in
    if-printed (bytes_eq first (codes "in")) (link_by a b c (Some 0)) _ (link-printed a b c (Some 0) name file)
    (if-printed (bytes_eq first (codes "out") && is_file c) (Outlet a b c) Unfit (and_both _ _ name file) refl)
by-printed first (a ∷ b ∷ c ∷ d ∷ []) e =
    let name : are_printed a ≡ true = and_left _ _ e in
    let file : are_printed c ≡ true = and_left _ _ (and_right (are_printed b) _ (and_right (are_printed a) _ e)) in
    if-printed (bytes_eq first (codes "in")) (link_by a b c (track_of d)) Unfit
    (link-printed a b c (track_of d) name file) refl
by-printed first (a ∷ b ∷ c ∷ d ∷ f ∷ ws) e = refl

of-printed : (printed : Bool) (ws : List (List ℕ)) → (printed ≡ true → list_all are_printed ws ≡ true) →
    has_printed (statement_of printed ws) ≡ true
of-printed printed [] e = refl
of-printed true (w ∷ ws) e =
    if-printed (begins_hash w) Remark _ refl (by-printed w ws (and_right (are_printed w) _ (e refl)))
of-printed false (w ∷ ws) e = if-printed (begins_hash w) Remark Unfit refl refl

pub statement-printed : (line : List ℕ) (s : Statement) → s ≡ statement line → has_printed s ≡ true
statement-printed line s e = ap has_printed e ∙
    of-printed (is_printed line) (words line) (λ h. printed-from [] line refl h)

-- printed bytes are text

printed-ascii : (bs : List ℕ) → are_printed bs ≡ true → IsAscii bs
printed-ascii [] e i = omega arith
printed-ascii (b ∷ bs) e zero = low b (and_left (nat_le 0x21 b && nat_le b 0x7e) (are_printed bs) e)
  where
    low : (b : ℕ) → (nat_le 0x21 b && nat_le b 0x7e) ≡ true → b < 128
    low b e = grind (arith, nat_tests)
printed-ascii (b ∷ bs) e (suc i) = printed-ascii bs (and_right (nat_le 0x21 b && nat_le b 0x7e) (are_printed bs) e) i

pub printed-text : (bs : List ℕ) → are_printed bs ≡ true → IsUtf8 bs
printed-text bs e = IsUtf8-from_ascii bs (printed-ascii bs e)
