-- The lines of a text one by one.
use Rattle.std.proofs.Common.{◌≡◌, inl, inr, ℕ, ◌+◌, ◌≤◌, Bool, true, false, None, List, ◌∷◌}
use Rattle.std.proofs.Common.{ap, sym, ◌∙◌, arith, length, Result, Ok, Err, IfErr}
use Rattle.std.specs.Prelude.{if◌then◌else◌, nat_lt, nat_le, ◌&&◌}
use Rattle.std.proofs.lemmas.Bool.Decides.{nat_tests}
use Rattle.mb_text.specs.Text.{lines}
use Rattle.mb_rig.specs.declared.fault.Why.TheVariants as why
use Rattle.mb_rig.specs.declared.fault.RigFault.{RigFault}
use Rattle.mb_rig.specs.declared.fault.RigFault.TheVariants as fault
use Rattle.mb_rig.specs.RigText.{Setup, no_setup, Statement, Remark, Link, Outlet, Route, Unfit, statement, why_not}
use Rattle.mb_rig.specs.RigText.{with_line, Outcome, Faulty, line_then, rig_from, rig_of, most_text, is_remark}
use Rattle.mb_rig.specs.RigText.{is_right}
use Rattle.mb_rig.specs.RigText.{begins_right}
use Rattle.mb_rig.specs.RigAnswer.{Refuses, IsRefused, IsFaulty, Begun}

pub line-added : (n : ℕ) (s now : Setup) (ls rest : List (List ℕ)) (line : List ℕ) (says : Statement) →
    ls ≡ line ∷ rest → says ≡ statement line → why_not s says ≡ None → now ≡ with_line s says →
    rig_from n s ls ≡ rig_from (n + 1) now rest
line-added n s now ls rest line says is e fits added =
    ap (rig_from n s) is ∙
    (ap (λ a. line_then n (why_not s a) (rig_from (n + 1) (with_line s a) rest)) (sym e) ∙
    (ap (λ w. line_then n w (rig_from (n + 1) (with_line s says) rest)) fits ∙
    ap (λ t. rig_from (n + 1) t rest) (sym added)))

pub begun-added : (all ls rest : List (List ℕ)) (s now : Setup) (line : List ℕ) (says : Statement) →
    ls ≡ line ∷ rest → says ≡ statement line → why_not s says ≡ None → now ≡ with_line s says →
    Begun all ls s → Begun all rest now
begun-added all ls rest s now line says is e fits added (inr b) = inr b
begun-added all ls rest s now line says is e fits added (inl b) = by says (sym e) fits added
  where
    begins : (a : Statement) → statement line ≡ a →
        begins_right all ≡ (if is_remark a then begins_right rest else is_right (why_not no_setup a))
    begins a h = b.1 ∙ (ap begins_right is ∙
        ap (λ z. if is_remark z then begins_right rest else is_right (why_not no_setup z)) h)

    right : (a : Statement) → why_not s a ≡ None → is_right (why_not no_setup a) ≡ true
    right a f = ap (λ z. is_right (why_not z a)) (sym b.0) ∙ ap is_right f

    by : (a : Statement) → statement line ≡ a → why_not s a ≡ None → now ≡ with_line s a → Begun all rest now
    by Remark h f g = inl (g ∙ b.0, begins Remark h)
    by Unfit h f g = inr (begins Unfit h ∙ right Unfit f)
    by (Link name word file track) h f g =
        inr (begins (Link name word file track) h ∙ right (Link name word file track) f)
    by (Outlet name word file) h f g = inr (begins (Outlet name word file) h ∙ right (Outlet name word file) f)
    by (Route from to) h f g = inr (begins (Route from to) h ∙ right (Route from to) f)

begun-wants : (all ls rest : List (List ℕ)) (s : Setup) (line : List ℕ) (says : Statement) →
    ls ≡ line ∷ rest → says ≡ statement line → why_not s says ≡ None → is_remark says ≡ false →
    Begun all ls s → begins_right all ≡ true
begun-wants all ls rest s line says is e fits some (inr b) = b
begun-wants all ls rest s line says is e fits some (inl b) =
    b.1 ∙ (ap begins_right is ∙
    (ap (λ a. if is_remark a then begins_right rest else is_right (why_not no_setup a)) (sym e) ∙
    (ap (λ (t : Bool). if t then begins_right rest else is_right (why_not no_setup says)) some ∙
    (ap (λ z. is_right (why_not z says)) (sym b.0) ∙ ap is_right fits))))

pub line-refused : (text : List ℕ) (n : ℕ) (s : Setup) (ls rest : List (List ℕ)) (line : List ℕ) (says : Statement)
    (f : RigFault) → length text ≤ 65536 → rig_of text ≡ rig_from n s ls → Begun (lines text) ls s →
    ls ≡ line ∷ rest → says ≡ statement line → IsRefused n s says f → Refuses text f
line-refused text n s ls rest line says (fault.Line m cause) few whole begun is e refused =
    whole ∙ (ap (rig_from n s) is ∙
    (ap (λ a. line_then n (why_not s a) (rig_from (n + 1) (with_line s a) rest)) (sym e) ∙
    (ap (λ w. line_then n w (rig_from (n + 1) (with_line s says) rest)) refused.1 ∙
    ap (λ k. Faulty k cause) (sym refused.0))))
line-refused text n s ls rest line says (fault.Memory memory) few whole begun is e refused =
    ap (λ t. nat_le (length text) most_text && t)
    (begun-wants (lines text) ls rest s line says is e refused.0 refused.1 begun) ∙ fits (length text) few
  where
    fits : (n : ℕ) → n ≤ 65536 → (nat_le n most_text && true) ≡ true
    fits n h = grind (arith, nat_tests)

pub rig-begins : (text : List ℕ) → length text ≤ 65536 → rig_of text ≡ rig_from 1 no_setup (lines text)
rig-begins text few =
    ap (λ (t : Bool). if t then Faulty 0 why.Long else rig_from 1 no_setup (lines text)) (short (length text) few)
  where
    short : (n : ℕ) → n ≤ 65536 → nat_lt most_text n ≡ false
    short n h = grind (arith, nat_tests)

faulty-refused : (text : List ℕ) (o : Outcome) (f : RigFault) → o ≡ rig_of text → IsFaulty o f → Refuses text f
faulty-refused text o (fault.Line n cause) e h = sym e ∙ h
faulty-refused text o (fault.Memory memory) e h = absurd h

pub ended-refused : {A : Type 0} (text : List ℕ) (o : Outcome) (r : Result A RigFault) → o ≡ rig_of text →
    IfErr r (IsFaulty o) → IfErr r (Refuses text)
ended-refused text o (Ok a) e h = h
ended-refused text o (Err f) e h = faulty-refused text o f e h
