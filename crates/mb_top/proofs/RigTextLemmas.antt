-- The files that a rig's text names have names of at most 255 bytes.
use Rattle.std.proofs.Common.{◌≡◌, ℕ, zero, suc, ◌+◌, ◌≤◌, ◌||◌, ◌&&◌, ◌==◌, Bool, true, false, if◌then◌else◌, List}
use Rattle.std.proofs.Common.{[], ◌∷◌, ◌++◌, length, refl, sym, ◌∙◌, ap, subst, codes, arith}
use Rattle.std.specs.Prelude.{Option, Some, None, bytes_eq, nat_lt, slice_get}
use Rattle.std.proofs.lemmas.Bool.Decides.{nat_tests}
use Rattle.mb_text.specs.Text.{is_printed, lines, words}
use Rattle.mb_carrier.specs.declared.spec.Spec.{Spec}
use Rattle.mb_rig.specs.RigText.{Faulty, Link, Outcome, Outlet, Remark, RigPort, Right, Route, Setup, Statement, Unfit}
use Rattle.mb_rig.specs.RigText.{begins_hash, is_file, line_then, link_by, no_setup, rig_from, rig_of, spec_of}
use Rattle.mb_rig.specs.RigText.{statement, statement_by, statement_of, track_of, why_not, with_line, with_port}
use Rattle.mb_rig.specs.declared.fault.Why.{Why}
use Rattle.mb_rig.specs.declared.fault.Why.TheVariants as why
use Rattle.mb_top.specs.RigFile.{FilesFit}

-- of each of these ports
abbrev AllFit : List RigPort → Type 0
AllFit [] = Unit {0}
AllFit (p ∷ ps) = (length p.file ≤ 255) × AllFit ps

fit-more : (ps : List RigPort) (p : RigPort) → AllFit ps → length p.file ≤ 255 → AllFit (ps ++ p ∷ [])
fit-more [] p all fits = (fits, tt)
fit-more (q ∷ ps) p all fits = (all.0, fit-more ps p all.1 fits)

same-port : (p q : RigPort) → Some p ≡ Some q → p ≡ q
same-port p q e = cc

fit-at : (ps : List RigPort) (at : ℕ) (p : RigPort) → AllFit ps → slice_get ps at ≡ Some p → length p.file ≤ 255
fit-at [] at p all e = cc
fit-at (q ∷ ps) zero p all e = subst (λ (r : RigPort). length r.file ≤ 255) (same-port q p e) all.0
fit-at (q ∷ ps) (suc at) p all e = fit-at ps at p all.1 e

-- of the link that a line names
abbrev LinkFits : Statement → Type 0
LinkFits Remark = Unit {0}
LinkFits (Link name word file track) = length file ≤ 255
LinkFits (Outlet name word file) = Unit {0}
LinkFits (Route from to) = Unit {0}
LinkFits Unfit = Unit {0}

fits-if : (t : Bool) (s r : Statement) → (t ≡ true → LinkFits s) → LinkFits r → LinkFits (if t then s else r)
fits-if true s r here there = here refl
fits-if false s r here there = there

short-file : (file : List ℕ) → is_file file ≡ true → length file ≤ 255
short-file file e = grind (arith, nat_tests)

link-fits : (name word file : List ℕ) (track : Option ℕ) → LinkFits (link_by name word file track)
link-fits name word file None = tt
link-fits name word file (Some track) =
    fits-if (is_file file) (Link name word file track) Unfit (short-file file) tt

by-fits : (first : List ℕ) (ws : List (List ℕ)) → LinkFits (statement_by first ws)
by-fits first [] = tt
by-fits first (a ∷ []) = tt
by-fits first (a ∷ b ∷ []) = fits-if (bytes_eq first (codes "route")) (Route a b) Unfit (λ e. tt) tt
by-fits first (a ∷ b ∷ c ∷ []) =
    fits-if (bytes_eq first (codes "in")) (link_by a b c (Some 0))
    (if bytes_eq first (codes "out") && is_file c then Outlet a b c else Unfit) (λ e. link-fits a b c (Some 0))
    (fits-if (bytes_eq first (codes "out") && is_file c) (Outlet a b c) Unfit (λ e. tt) tt)
by-fits first (a ∷ b ∷ c ∷ d ∷ []) =
    fits-if (bytes_eq first (codes "in")) (link_by a b c (track_of d)) Unfit (λ e. link-fits a b c (track_of d)) tt
by-fits first (a ∷ b ∷ c ∷ d ∷ e ∷ ws) = tt

of-fits : (printed : Bool) (ws : List (List ℕ)) → LinkFits (statement_of printed ws)
of-fits printed [] = tt
of-fits printed (w ∷ ws) =
    fits-if (begins_hash w) Remark (if printed then statement_by w ws else Unfit) (λ e. tt)
    (fits-if printed (statement_by w ws) Unfit (λ e. by-fits w ws) tt)

port-fits : (ps : List RigPort) (name : List ℕ) (s : Option Spec) (file : List ℕ) (track : ℕ) → AllFit ps →
    length file ≤ 255 → AllFit (with_port ps name s file track)
port-fits ps name None file track all fits = all
port-fits ps name (Some s) file track all fits =
    fit-more ps (record { name = name; spec = s; file = file; track = track }) all fits

line-fits : (s : Setup) (l : Statement) → AllFit s.ins → LinkFits l → AllFit (with_line s l).ins
line-fits s Remark all fits = all
line-fits s (Link name word file track) all fits = port-fits s.ins name (spec_of word) file track all fits
line-fits s (Outlet name word file) all fits = all
line-fits s (Route from to) all fits = all
line-fits s Unfit all fits = all

no-rig : (n : ℕ) (cause : Why) (t : Setup) → Faulty n cause ≡ Right t → ⊥
no-rig n cause t e = cc

same-rig : (s t : Setup) → Right s ≡ Right t → s ≡ t
same-rig s t e = cc

right-by : (t : Bool) (n : ℕ) (cause : Why) (o : Outcome) (s : Setup) →
    (if t then Faulty n cause else o) ≡ Right s → o ≡ Right s
right-by true n cause o s e = absurd (no-rig n cause s e)
right-by false n cause o s e = e

right-then : (w : Option Why) (n : ℕ) (behind : Outcome) (t : Setup) → line_then n w behind ≡ Right t → behind ≡ Right t
right-then None n behind t e = e
right-then (Some cause) n behind t e = absurd (no-rig n cause t e)

from-fits : (n : ℕ) (s : Setup) (ls : List (List ℕ)) (t : Setup) → AllFit s.ins → rig_from n s ls ≡ Right t → AllFit t.ins
from-fits n s [] t all e =
    subst (λ (u : Setup). AllFit u.ins) (same-rig s t
    (right-by ((length s.ins == 0) || (length s.outs == 0)) n why.Count (Right s) t e)) all
from-fits n s (l ∷ ls) t all e =
    from-fits (n + 1) (with_line s (statement l)) ls t (line-fits s (statement l) all (of-fits (is_printed l) (words l)))
    (right-then (why_not s (statement l)) n (rig_from (n + 1) (with_line s (statement l)) ls) t e)

pub files-fit : (text : List ℕ) (s : Setup) → rig_of text ≡ Right s → FilesFit s
files-fit text s e = λ link port at.
    fit-at s.ins link port
    (from-fits 1 no_setup (lines text) s tt
    (right-by (nat_lt 65536 (length text)) 0 why.Long (rig_from 1 no_setup (lines text)) s e)) at

-- a text that is too long is no rig
pub not-long : (text : List ℕ) (s : Setup) → length text ≡ 65537 → rig_of text ≡ Right s → ⊥
not-long text s long e =
    no-rig 0 why.Long s (sym (ap (λ (b : Bool). if b then Faulty 0 why.Long else rig_from 1 no_setup (lines text))
    (ap (nat_lt 65536) long)) ∙ e)

pub one-rig : (text : List ℕ) (s t : Setup) → rig_of text ≡ Right s → rig_of text ≡ Right t → s ≡ t
one-rig text s t e f = same-rig s t (sym e ∙ f)

pub not-both : (text : List ℕ) (s : Setup) (n : ℕ) (cause : Why) → rig_of text ≡ Right s →
    rig_of text ≡ Faulty n cause → ⊥
not-both text s n cause e f = no-rig n cause s (sym f ∙ e)
