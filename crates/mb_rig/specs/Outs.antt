-- The outs of a rig, whose handles are one behind the other.
--
--   pass_puts goes put putss    what each out was put behind one that goes to some of them
--   flush_puts putss           what each out was put, and a flush behind it
--   SuitsWhere, AllSuit         a mark suits each out that it goes to
--   OutsStand ..                the first out has this handle, if the desk tells, and each was put its list
--   OutsEnded ..                each handle has all that its out's list is written as
--   WroteAmong first count ..   some of these handles were written to, and nothing else of the desk changed
use Rattle.std.specs.Prelude.{◌≡◌, ℕ, ◌+◌, ◌<◌, ◌≤◌, Bool, true, false, List, [], ◌∷◌, ◌++◌, IsTrue}
use Rattle.mb_message.specs.Signs.{sign_of, suits_sign}
use Rattle.mb_message.specs.declared.mark.Mark.{Mark}
use Rattle.mb_stream.specs.Puts.{Put, Flush}
use Rattle.mb_outside.specs.Contents.{Contents}
use Rattle.mb_carrier.specs.Carrier.{written}
use Rattle.mb_carrier.specs.Port.{writer_in_sysex}
use Rattle.mb_rig.specs.Outlet.{OutletStands, outlet_spec}
use Rattle.mb_rig.specs.Merging.Ended.{put_where}
use Rattle.mb_rig.specs.declared.outlet.Outlet.{Outlet}

abbrev pub pass_puts : (goes : List Bool) → Put → List (List Put) → List (List Put)
pass_puts goes put [] = []
pass_puts [] put (ps ∷ pss) = ps ∷ pss
pass_puts (g ∷ gs) put (ps ∷ pss) = put_where g put ps ∷ pass_puts gs put pss

abbrev pub flush_puts : List (List Put) → List (List Put)
flush_puts [] = []
flush_puts (ps ∷ pss) = (ps ++ Flush ∷ []) ∷ flush_puts pss

abbrev pub SuitsWhere : Bool → Mark → Outlet → Type 0
SuitsWhere true m o = suits_sign (writer_in_sysex o.writer) (sign_of m) ≡ true
SuitsWhere false m o = Unit {0}

abbrev pub AllSuit : (goes : List Bool) → Mark → List Outlet → Type 0
AllSuit goes m [] = Unit {0}
AllSuit [] m (o ∷ os) = Unit {0}
AllSuit (g ∷ gs) m (o ∷ os) = SuitsWhere g m o × AllSuit gs m os

abbrev pub OutsStand : {S : Type 0} → Bool → (S → Contents) → (first : ℕ) → List Outlet → S → List (List Put) → Type 0
OutsStand tells contents first [] at [] = Unit {0}
OutsStand tells contents first [] at (ps ∷ pss) = ⊥
OutsStand tells contents first (o ∷ os) at [] = ⊥
OutsStand tells contents first (o ∷ os) at (ps ∷ pss) =
    (IsTrue tells → o.handle ≡ first) × OutletStands tells contents o at ps
    × OutsStand tells contents (first + 1) os at pss

-- each out's handle has all that its list is written as
abbrev pub OutsEnded : {S : Type 0} → Bool → (S → Contents) → (first : ℕ) → List Outlet → S → List (List Put) → Type 0
OutsEnded tells contents first [] at [] = Unit {0}
OutsEnded tells contents first [] at (ps ∷ pss) = ⊥
OutsEnded tells contents first (o ∷ os) at [] = ⊥
OutsEnded tells contents first (o ∷ os) at (ps ∷ pss) =
    (IsTrue tells → (contents at).written first ≡ written (outlet_spec o) ps)
    × OutsEnded tells contents (first + 1) os at pss

pub record WroteAmong {S : Type 0} (tells : Bool) (contents : S → Contents) (read_faults : S → ℕ) (first count : ℕ)
    (before after : S) : Type 0 where
  pub left : IsTrue tells → (contents after).left ≡ (contents before).left
  pub taken : IsTrue tells → (contents after).taken ≡ (contents before).taken
  pub given : IsTrue tells → (contents after).given ≡ (contents before).given
  pub others : IsTrue tells → (h : ℕ) → (first ≤ h → h < first + count → ⊥) →
      (contents after).written h ≡ (contents before).written h
  pub reads_same : read_faults after ≡ read_faults before
