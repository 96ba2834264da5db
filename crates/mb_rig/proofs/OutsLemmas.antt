-- The outs of a rig, one behind the other.
use Rattle.std.proofs.Common.{◌≡◌, ◌≢◌, ◌<◌, ◌≤◌, ◌+◌, ℕ, Bool, List, [], ◌∷◌, ◌++◌, length, IsTrue, refl, sym, ◌∙◌}
use Rattle.std.proofs.Common.{ap, subst, arith}
use Rattle.std.proofs.lemmas.Bool.Decides.{nat_tests}
use Rattle.mb_message.specs.declared.mark.Mark.{Mark}
use Rattle.mb_stream.specs.Puts.{Put, Flush}
use Rattle.mb_outside.specs.Contents.{Contents, is_writable, with_entry}
use Rattle.mb_outside.specs.Taking.{Wrote}
use Rattle.mb_carrier.specs.Carrier.{written}
use Rattle.mb_rig.specs.Outlet.{OutletStands, outlet_spec}
use Rattle.mb_rig.specs.Outs.{AllSuit, OutsEnded, OutsStand, WroteAmong, flush_puts, pass_puts}
use Rattle.mb_rig.specs.Merging.Ended.{put_where}
use Rattle.mb_rig.specs.declared.outlet.Outlet.{Outlet}

pub entry-other : (entries : ℕ → List ℕ) (handle : ℕ) (bytes : List ℕ) (other : ℕ) → other ≢ handle →
    with_entry entries handle bytes other ≡ entries other
entry-other entries handle bytes other apart = grind (arith, nat_tests)

pub among-none : {S : Type 0} (tells : Bool) (contents : S → Contents) (read_faults : S → ℕ) (first : ℕ) (at : S) →
    WroteAmong tells contents read_faults first 0 at at
among-none tells contents read_faults first at = record {
  left = λ _. refl;
  taken = λ _. refl;
  given = λ _. refl;
  others = λ _ h apart. refl;
  reads_same = refl;
}

pub among-one : {S : Type 0} (tells : Bool) (contents : S → Contents) (read_faults : S → ℕ) (handle : ℕ)
    (bytes : List ℕ) (before after : S) → Wrote tells contents read_faults handle before bytes after →
    WroteAmong tells contents read_faults handle 1 before after
among-one tells contents read_faults handle bytes before after wrote = record {
  left = λ t. ap (λ (z : Contents). z.left) (wrote.contents_are t);
  taken = λ t. ap (λ (z : Contents). z.taken) (wrote.contents_are t);
  given = λ t. ap (λ (z : Contents). z.given) (wrote.contents_are t);
  others = λ t h apart.
      ap (λ (z : Contents). z.written h) (wrote.contents_are t)
      ∙ entry-other (contents before).written handle _ h (λ e. apart (omega (arith, e)) (omega (arith, e)));
  reads_same = wrote.reads_same;
}

pub among-one_none : {S : Type 0} (tells : Bool) (contents : S → Contents) (read_faults : S → ℕ) (first : ℕ) (at : S) →
    WroteAmong tells contents read_faults first 1 at at
among-one_none tells contents read_faults first at = record {
  left = λ _. refl;
  taken = λ _. refl;
  given = λ _. refl;
  others = λ _ h apart. refl;
  reads_same = refl;
}

pub among-both : {S : Type 0} (tells : Bool) (contents : S → Contents) (read_faults : S → ℕ) (first count all : ℕ)
    (a b c : S) → all ≡ count + 1 → WroteAmong tells contents read_faults first 1 a b →
    WroteAmong tells contents read_faults (first + 1) count b c → WroteAmong tells contents read_faults first all a c
among-both tells contents read_faults first count all a b c more x y = record {
  left = λ t. y.left t ∙ x.left t;
  taken = λ t. y.taken t ∙ x.taken t;
  given = λ t. y.given t ∙ x.given t;
  others = λ t h apart.
      y.others t h (λ low high. apart (omega (arith, low)) (omega (arith, high, more)))
      ∙ x.others t h (λ low high. apart low (omega (arith, high, more)));
  reads_same = y.reads_same ∙ x.reads_same;
}

-- what others were written leaves an out as it was
pub outlet-kept : {S : Type 0} (tells : Bool) (contents : S → Contents) (read_faults : S → ℕ) (first count : ℕ)
    (o : Outlet) (puts : List Put) (before after : S) →
    (IsTrue tells → first ≤ o.handle → o.handle < first + count → ⊥) → WroteAmong tells contents read_faults first count before after → OutletStands tells contents o before puts →
    OutletStands tells contents o after puts
outlet-kept tells contents read_faults first count o puts before after apart wrote st = record {
  stands = st.stands;
  writable = λ t.
      ap (λ given. is_writable (record (contents before) { given = given }) o.handle) (wrote.given t) ∙ st.writable t;
  has = λ t. wrote.others t o.handle (apart t) ∙ st.has t;
}

pub outs-kept : {S : Type 0} (tells : Bool) (contents : S → Contents) (read_faults : S → ℕ) (low count first : ℕ)
    (outs : List Outlet) (putss : List (List Put)) (before after : S) → (IsTrue tells → low + count ≤ first) →
    WroteAmong tells contents read_faults low count before after → OutsStand tells contents first outs before putss →
    OutsStand tells contents first outs after putss
outs-kept tells contents read_faults low count first [] [] before after apart wrote st = tt
outs-kept tells contents read_faults low count first [] (ps ∷ pss) before after apart wrote st = st
outs-kept tells contents read_faults low count first (o ∷ os) [] before after apart wrote st = st
outs-kept tells contents read_faults low count first (o ∷ os) (ps ∷ pss) before after apart wrote st = (
  st.0,
  outlet-kept tells contents read_faults low count o ps before after
      (λ t lower higher. omega (arith, st.0 t, higher, apart t)) wrote st.1,
  outs-kept tells contents read_faults low count (first + 1) os pss before after (λ t. omega (arith, apart t)) wrote
      st.2,
)

-- the first out and those behind it
pub record OutsSplit {S : Type 0} (tells : Bool) (contents : S → Contents) (first : ℕ) (o : Outlet)
    (os : List Outlet) (at : S) (putss : List (List Put)) : Type 0 where
  pub ps : List Put
  pub pss : List (List Put)
  pub whole : putss ≡ ps ∷ pss
  pub handle : IsTrue tells → o.handle ≡ first
  pub stands : OutletStands tells contents o at ps
  pub behind : OutsStand tells contents (first + 1) os at pss

split-by : {S : Type 0} (tells : Bool) (contents : S → Contents) (first : ℕ) (o : Outlet) (os : List Outlet) (at : S)
    (putss : List (List Put)) → OutsStand tells contents first (o ∷ os) at putss →
    OutsSplit tells contents first o os at putss
split-by tells contents first o os at [] st = absurd st
split-by tells contents first o os at (ps ∷ pss) st =
    record { ps = ps; pss = pss; whole = refl; handle = st.0; stands = st.1; behind = st.2 }

pub outs-split : {S : Type 0} (tells : Bool) (contents : S → Contents) (first : ℕ) (outs : List Outlet) (o : Outlet)
    (os : List Outlet) (at : S) (putss : List (List Put)) → outs ≡ o ∷ os →
    OutsStand tells contents first outs at putss → OutsSplit tells contents first o os at putss
outs-split tells contents first outs o os at putss e st =
    split-by tells contents first o os at putss
    (subst (λ (xs : List Outlet). OutsStand tells contents first xs at putss) e st)

-- those behind stand yet when the first was written to
pub outs-behind : {S : Type 0} (tells : Bool) (contents : S → Contents) (read_faults : S → ℕ) (first : ℕ)
    (o : Outlet) (os : List Outlet) (at mid : S) (putss : List (List Put)) →
    ((puts : List Put) → OutletStands tells contents o at puts →
    WroteAmong tells contents read_faults o.handle 1 at mid) →
    (split : OutsSplit tells contents first o os at putss) → OutsStand tells contents (first + 1) os mid split.pss
outs-behind tells contents read_faults first o os at mid putss among split =
    outs-kept tells contents read_faults o.handle 1 (first + 1) os split.pss at mid (λ t. omega (arith, split.handle t))
    (among split.ps split.stands) split.behind

among-at : {S : Type 0} (tells : Bool) (contents : S → Contents) (read_faults : S → ℕ) (handle first : ℕ)
    (before after : S) → (IsTrue tells → handle ≡ first) → WroteAmong tells contents read_faults handle 1 before after →
    WroteAmong tells contents read_faults first 1 before after
among-at tells contents read_faults handle first before after same wrote = record {
  left = wrote.left;
  taken = wrote.taken;
  given = wrote.given;
  others = λ t h apart.
      wrote.others t h (λ low high. apart (omega (arith, low, same t)) (omega (arith, high, same t)));
  reads_same = wrote.reads_same;
}

-- what all got is what the first got and what those behind it got
pub outs-among : {S : Type 0} (tells : Bool) (contents : S → Contents) (read_faults : S → ℕ) (outs : List Outlet)
    (o : Outlet) (os : List Outlet) (at mid next : S) → outs ≡ o ∷ os →
    ((puts : List Put) → OutletStands tells contents o at puts →
    WroteAmong tells contents read_faults o.handle 1 at mid) →
    ((first : ℕ) (putss : List (List Put)) → OutsStand tells contents first os mid putss →
    WroteAmong tells contents read_faults first (length os) mid next) →
    (first : ℕ) (putss : List (List Put)) → OutsStand tells contents first outs at putss →
    WroteAmong tells contents read_faults first (length outs) at next
outs-among tells contents read_faults outs o os at mid next e among behind first putss st =
    let split = outs-split tells contents first outs o os at putss e st in
    among-both tells contents read_faults first (length os) (length outs) at mid next (omega (arith, ap length e))
    (among-at tells contents read_faults o.handle first at mid split.handle (among split.ps split.stands))
    (behind (first + 1) split.pss (outs-behind tells contents read_faults first o os at mid putss among split))

-- the first was put something, and then those behind it
pub outs-step : {S : Type 0} (tells : Bool) (contents : S → Contents) (read_faults : S → ℕ) (first count : ℕ)
    (o new : Outlet) (news : List Outlet) (more : List Put) (mores : List (List Put)) (mid next : S) →
    new.handle ≡ o.handle → (IsTrue tells → o.handle ≡ first) → OutletStands tells contents new mid more →
    OutsStand tells contents (first + 1) news next mores →
    WroteAmong tells contents read_faults (first + 1) count mid next →
    OutsStand tells contents first (new ∷ news) next (more ∷ mores)
outs-step tells contents read_faults first count o new news more mores mid next same handle stands behind among = (
  λ t. same ∙ handle t,
  outlet-kept tells contents read_faults (first + 1) count new more mid next
      (λ t low high. omega (arith, low, same, handle t)) among stands,
  behind,
)

-- a mark passes to the first, and then to those behind it

suit-tail : (goes gs : List Bool) (g : Bool) (m : Mark) (outs os : List Outlet) (o : Outlet) → goes ≡ g ∷ gs →
    outs ≡ o ∷ os → AllSuit goes m outs → AllSuit (g ∷ gs) m (o ∷ os)
suit-tail goes gs g m outs os o e f all =
    subst (λ (xs : List Outlet). AllSuit (g ∷ gs) m xs) f (subst (λ (bs : List Bool). AllSuit bs m outs) e all)

pub pass-behind : {S : Type 0} (tells : Bool) (contents : S → Contents) (read_faults : S → ℕ) (goes gs : List Bool)
    (g : Bool) (m : Mark) (outs os : List Outlet) (o : Outlet) (at mid : S) → outs ≡ o ∷ os → goes ≡ g ∷ gs →
    ((puts : List Put) → OutletStands tells contents o at puts →
    WroteAmong tells contents read_faults o.handle 1 at mid) →
    ((first : ℕ) × (putss : List (List Put)) × OutsStand tells contents first outs at putss) →
    AllSuit goes m outs →
    ((first : ℕ) × (putss : List (List Put)) × OutsStand tells contents first os mid putss) × AllSuit gs m os
pass-behind tells contents read_faults goes gs g m outs os o at mid e f among st all =
    let split = outs-split tells contents st.0 outs o os at st.1 e st.2 in (
      (st.0 + 1, split.pss, outs-behind tells contents read_faults st.0 o os at mid st.1 among split),
      (suit-tail goes gs g m outs os o f e all).1,
    )

pub pass-step : {S : Type 0} (tells : Bool) (contents : S → Contents) (read_faults : S → ℕ) (goes gs : List Bool)
    (g : Bool) (put : Put) (outs os news : List Outlet) (o new : Outlet) (at mid next : S) → outs ≡ o ∷ os →
    goes ≡ g ∷ gs → new.handle ≡ o.handle →
    ((puts : List Put) → OutletStands tells contents o at puts →
    OutletStands tells contents new mid (put_where g put puts)) →
    ((puts : List Put) → OutletStands tells contents o at puts →
    WroteAmong tells contents read_faults o.handle 1 at mid) →
    ((first : ℕ) (putss : List (List Put)) → OutsStand tells contents first os mid putss →
    WroteAmong tells contents read_faults first (length os) mid next) →
    ((first : ℕ) (putss : List (List Put)) → OutsStand tells contents first os mid putss →
    OutsStand tells contents first news next (pass_puts gs put putss)) →
    (first : ℕ) (putss : List (List Put)) → OutsStand tells contents first outs at putss →
    OutsStand tells contents first (new ∷ news) next (pass_puts goes put putss)
pass-step tells contents read_faults goes gs g put outs os news o new at mid next e f same step among behind rest
    first putss st =
    let split = outs-split tells contents first outs o os at putss e st in
    let tail = outs-behind tells contents read_faults first o os at mid putss among split in
    let puts_are : pass_puts goes put putss ≡ put_where g put split.ps ∷ pass_puts gs put split.pss =
    ap (λ (bs : List Bool). pass_puts bs put putss) f ∙ ap (pass_puts (g ∷ gs) put) split.whole in
    subst (λ (pss : List (List Put)). OutsStand tells contents first (new ∷ news) next pss) (sym puts_are)
    (outs-step tells contents read_faults first (length os) o new news (put_where g put split.ps)
    (pass_puts gs put split.pss) mid next same split.handle (step split.ps split.stands)
    (rest (first + 1) split.pss tail) (behind (first + 1) split.pss tail))

-- all are flushed, and ended

pub flush-behind : {S : Type 0} (tells : Bool) (contents : S → Contents) (read_faults : S → ℕ) (outs os : List Outlet)
    (o : Outlet) (at mid : S) → outs ≡ o ∷ os →
    ((puts : List Put) → OutletStands tells contents o at puts →
    WroteAmong tells contents read_faults o.handle 1 at mid) →
    ((first : ℕ) × (putss : List (List Put)) × OutsStand tells contents first outs at putss) →
    (first : ℕ) × (putss : List (List Put)) × OutsStand tells contents first os mid putss
flush-behind tells contents read_faults outs os o at mid e among st =
    let split = outs-split tells contents st.0 outs o os at st.1 e st.2 in
    (st.0 + 1, split.pss, outs-behind tells contents read_faults st.0 o os at mid st.1 among split)

pub flush-step : {S : Type 0} (tells : Bool) (contents : S → Contents) (read_faults : S → ℕ)
    (outs os news : List Outlet) (o new : Outlet) (at mid next : S) → outs ≡ o ∷ os → new.handle ≡ o.handle →
    ((puts : List Put) → OutletStands tells contents o at puts →
    OutletStands tells contents new mid (puts ++ Flush ∷ [])) →
    ((puts : List Put) → OutletStands tells contents o at puts →
    WroteAmong tells contents read_faults o.handle 1 at mid) →
    ((first : ℕ) (putss : List (List Put)) → OutsStand tells contents first os mid putss →
    WroteAmong tells contents read_faults first (length os) mid next) →
    ((first : ℕ) (putss : List (List Put)) → OutsStand tells contents first os mid putss →
    OutsStand tells contents first news next (flush_puts putss)) →
    (first : ℕ) (putss : List (List Put)) → OutsStand tells contents first outs at putss →
    OutsStand tells contents first (new ∷ news) next (flush_puts putss)
flush-step tells contents read_faults outs os news o new at mid next e same step among behind rest first putss st =
    let split = outs-split tells contents first outs o os at putss e st in
    let tail = outs-behind tells contents read_faults first o os at mid putss among split in
    subst (λ (pss : List (List Put)). OutsStand tells contents first (new ∷ news) next pss)
    (sym (ap flush_puts split.whole))
    (outs-step tells contents read_faults first (length os) o new news (split.ps ++ Flush ∷ [])
    (flush_puts split.pss) mid next same split.handle (step split.ps split.stands)
    (rest (first + 1) split.pss tail) (behind (first + 1) split.pss tail))

pub finish-step : {S : Type 0} (tells : Bool) (contents : S → Contents) (read_faults : S → ℕ)
    (outs os : List Outlet) (o : Outlet) (at mid next : S) → outs ≡ o ∷ os →
    ((puts : List Put) → OutletStands tells contents o at puts → IsTrue tells →
    (contents mid).written o.handle ≡ written (outlet_spec o) puts) →
    ((puts : List Put) → OutletStands tells contents o at puts →
    WroteAmong tells contents read_faults o.handle 1 at mid) →
    ((first : ℕ) (putss : List (List Put)) → OutsStand tells contents first os mid putss →
    WroteAmong tells contents read_faults first (length os) mid next) →
    ((first : ℕ) (putss : List (List Put)) → OutsStand tells contents first os mid putss →
    OutsEnded tells contents first os next putss) →
    (first : ℕ) (putss : List (List Put)) → OutsStand tells contents first outs at putss →
    OutsEnded tells contents first outs next putss
finish-step tells contents read_faults outs os o at mid next e step among behind rest first putss st =
    let split = outs-split tells contents first outs o os at putss e st in
    let tail = outs-behind tells contents read_faults first o os at mid putss among split in
    let later = behind (first + 1) split.pss tail in
    let ended : OutsEnded tells contents first (o ∷ os) next (split.ps ∷ split.pss) = (
      λ t.
          later.others t first (λ low high. omega (arith, low))
          ∙ (ap (contents mid).written (sym (split.handle t)) ∙ step split.ps split.stands t),
      rest (first + 1) split.pss tail,
    ) in
    subst (λ (pss : List (List Put)). OutsEnded tells contents first outs next pss) (sym split.whole)
    (subst (λ (xs : List Outlet). OutsEnded tells contents first xs next (split.ps ∷ split.pss)) (sym e) ended)
