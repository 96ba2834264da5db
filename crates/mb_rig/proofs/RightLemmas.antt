-- A rig that was read is right.
use Rattle.std.proofs.Common.{◌≡◌, ℕ, ◌+◌, ◌<◌, ◌≤◌, Bool, true, false, Option, Some, None, List, [], ◌∷◌, ◌++◌}
use Rattle.std.proofs.Common.{refl, ap, sym, subst, ◌∙◌, arith, length, append_assoc, append-nil}
use Rattle.std.proofs.Common.{Result, Ok, Err, IfOk}
use Rattle.std.specs.Prelude.{if◌then◌else◌, not, nat_lt, ◌==◌, ◌||◌}
use Rattle.std.proofs.lemmas.Bool.Decides.{nat_tests}
use Rattle.std.proofs.lemmas.List.Quantifiers.{position-Some}
use Rattle.mb_text.specs.Text.{lines}
use Rattle.mb_carrier.specs.Word.{IsSpec, AreSpecs}
use Rattle.mb_carrier.specs.declared.spec.Spec.{Spec}
use Rattle.mb_merge.specs.Opening.{AreRoutes, stands_in}
use Rattle.mb_rig.specs.declared.fault.Why.{Why}
use Rattle.mb_rig.specs.declared.fault.Why.TheVariants as why
use Rattle.mb_rig.specs.declared.fault.RigFault.{RigFault}
use Rattle.mb_rig.specs.RigText.{spec_of, RigPort, Setup, no_setup, Statement, Remark, Link}
use Rattle.mb_rig.specs.RigText.{Outlet, Route, Unfit, statement, is_name, is_named, link_stands, out_stands, port_why}
use Rattle.mb_rig.specs.RigText.{place_of, route_why, why_not, with_port, with_route, with_line, Right, Faulty}
use Rattle.mb_rig.specs.RigText.{ended_rig, line_then, rig_from, rig_of, most_text}
use Rattle.mb_rig.specs.Right.{specs_of, IsRig}
use Rattle.mb_rig.proofs.WordLemmas.{spec_of-is}

-- so far
pub record Fits (s : Setup) : Type 0 where
  pub ins : length s.ins ≤ 16
  pub outs : length s.outs ≤ 16
  pub links : AreSpecs (specs_of s.ins)
  pub out_specs : AreSpecs (specs_of s.outs)
  pub routes : AreRoutes (length s.ins) (length s.outs) [] s.routes

some-none : {A : Type 0} (a : A) → Some a ≡ None → ⊥
some-none a e = cc

routes-push : (ins outs : ℕ) (before rs : List (ℕ × ℕ)) (r : ℕ × ℕ) → AreRoutes ins outs before rs → r.0 < ins →
    r.1 < outs → stands_in r (before ++ rs) ≡ false → AreRoutes ins outs before (rs ++ r ∷ [])
routes-push ins outs before [] r are low high apart =
    ((low, high, ap (stands_in r) (sym (append-nil before)) ∙ apart), tt)
routes-push ins outs before (q ∷ qs) r are low high apart = (
  are.0,
  routes-push ins outs (before ++ q ∷ []) qs r are.1 low high
      (ap (stands_in r) (append_assoc before (q ∷ []) qs) ∙ apart),
)

routes-grow : (ins outs more most : ℕ) (before rs : List (ℕ × ℕ)) → ins ≤ more → outs ≤ most →
    AreRoutes ins outs before rs → AreRoutes more most before rs
routes-grow ins outs more most before [] i o are = tt
routes-grow ins outs more most before (r ∷ rs) i o are = (
  (
    (let low : r.0 < ins = are.0.0 in omega (arith, low, i)),
    (let low : r.1 < outs = are.0.1 in
        omega (arith, low, o)),
    are.0.2,
  ),
  routes-grow ins outs more most (before ++ r ∷ []) rs i o are.1,
)

specs-push : (ps : List RigPort) (p : RigPort) → AreSpecs (specs_of ps) → IsSpec p.spec →
    AreSpecs (specs_of (ps ++ p ∷ []))
specs-push [] p are is = (is, tt)
specs-push (q ∷ qs) p are is = (are.0, specs-push qs p are.1 is)

length-push : (ps : List RigPort) (p : RigPort) → length (ps ++ p ∷ []) ≡ length ps + 1
length-push [] p = refl
length-push (q ∷ qs) p = omega (arith, length-push qs p)

port-fits : (o : Option Spec) (name : List ℕ) (stands : Bool) (count : ℕ) → port_why o name stands count ≡ None →
    (s : Spec) × (o ≡ Some s) × (count < 16)
port-fits None name stands count e = absurd (some-none why.Carrier e)
port-fits (Some s) name stands count e = by (is_name name) stands (nat_lt count 16) refl e
  where
    by : (n t l : Bool) → nat_lt count 16 ≡ l →
        (if not n then Some why.Name else (if t then Some why.NameTwice
        else (if l then None else Some why.Count))) ≡ None →
        (s' : Spec) × (Some s ≡ Some s') × (count < 16)
    by false t l h f = absurd (some-none why.Name f)
    by true true l h f = absurd (some-none why.NameTwice f)
    by true false false h f = absurd (some-none why.Count f)
    by true false true h f = (s, refl, grind (arith, nat_tests))

place-low : (name : List ℕ) (ps : List RigPort) (at : ℕ) → place_of name ps ≡ Some at → at < length ps
place-low name [] at e = absurd (none-some at e)
  where
    none-some : (at : ℕ) → place_of name [] ≡ Some at → ⊥
    none-some at e = cc
place-low name (p ∷ ps) at e = (position-Some (is_named name) (p ∷ ps) at p e).0

route-fits : (routes : List (ℕ × ℕ)) (from to : Option ℕ) → route_why routes from to ≡ None →
    (f : ℕ) × (t : ℕ) × (from ≡ Some f) × (to ≡ Some t) × (stands_in (f, t) routes ≡ false)
route-fits routes None to e = absurd (some-none why.Port e)
route-fits routes (Some f) None e = absurd (some-none why.Port e)
route-fits routes (Some f) (Some t) e = by (stands_in (f, t) routes) refl e
  where
    by : (b : Bool) → stands_in (f, t) routes ≡ b → (if b then Some why.RouteTwice else None) ≡ None →
        (f' : ℕ) × (t' : ℕ) × (Some f ≡ Some f') × (Some t ≡ Some t') × (stands_in (f', t') routes ≡ false)
    by true h g = absurd (some-none why.RouteTwice g)
    by false h g = (f, t, refl, refl, h)

grown : (n : ℕ) → n ≤ n + 1
grown n = omega arith

fits-line : (s : Setup) (a : Statement) → Fits s → why_not s a ≡ None → Fits (with_line s a)
fits-line s Remark f e = f
fits-line s Unfit f e = absurd (some-none why.Words e)
fits-line s (Link name word file track) f e =
    let p = port-fits (spec_of word) name (link_stands s name file track) (length s.ins) e in
    let port : RigPort = record { name = name; spec = p.0; file = file; track = track } in
    let few : length s.ins < 16 = p.2 in
    subst (λ (ps : List RigPort). Fits (record s { ins = ps })) (sym (ap (λ o. with_port s.ins name o file track) p.1))
    (record {
      ins = omega (arith, few, length-push s.ins port);
      outs = f.outs;
      links = specs-push s.ins port f.links (spec_of-is word p.0 p.1);
      out_specs = f.out_specs;
      routes = routes-grow (length s.ins) (length s.outs) (length (s.ins ++ port ∷ [])) (length s.outs) [] s.routes
          (omega (arith, length-push s.ins port)) (omega arith) f.routes;
    })
fits-line s (Outlet name word file) f e =
    let p = port-fits (spec_of word) name (out_stands s name file) (length s.outs) e in
    let port : RigPort = record { name = name; spec = p.0; file = file; track = 0 } in
    let few : length s.outs < 16 = p.2 in
    subst (λ (ps : List RigPort). Fits (record s { outs = ps })) (sym (ap (λ o. with_port s.outs name o file 0) p.1))
    (record {
      ins = f.ins;
      outs = omega (arith, few, length-push s.outs port);
      links = f.links;
      out_specs = specs-push s.outs port f.out_specs (spec_of-is word p.0 p.1);
      routes = routes-grow (length s.ins) (length s.outs) (length s.ins) (length (s.outs ++ port ∷ [])) [] s.routes
          (omega arith) (omega (arith, length-push s.outs port)) f.routes;
    })
fits-line s (Route from to) f e =
    let r = route-fits s.routes (place_of from s.ins) (place_of to s.outs) e in
    subst (λ (rs : List (ℕ × ℕ)). Fits (record s { routes = rs }))
    (sym (ap (λ o. with_route s.routes o (place_of to s.outs)) r.2 ∙ ap (with_route s.routes (Some r.0)) r.3))
    (record {
      ins = f.ins;
      outs = f.outs;
      links = f.links;
      out_specs = f.out_specs;
      routes = routes-push (length s.ins) (length s.outs) [] s.routes (r.0, r.1) f.routes
          (place-low from s.ins r.0 r.2) (place-low to s.outs r.1 r.3) r.4;
    })

faulty-right : (n : ℕ) (cause : Why) (s : Setup) → Faulty n cause ≡ Right s → ⊥
faulty-right n cause s e = cc

right-same : {s t : Setup} → Right s ≡ Right t → s ≡ t
right-same e = cc

ended-right : (n : ℕ) (s t : Setup) → Fits s → ended_rig n s ≡ Right t → IsRig t
ended-right n s t f e = by ((length s.ins == 0) || (length s.outs == 0)) refl e
  where
    some : (i o : ℕ) → ((i == 0) || (o == 0)) ≡ false → (1 ≤ i) × (1 ≤ o)
    some i o h = (grind (arith, nat_tests), grind (arith, nat_tests))

    by : (b : Bool) → ((length s.ins == 0) || (length s.outs == 0)) ≡ b →
        (if b then Faulty n why.Count else Right s) ≡ Right t → IsRig t
    by true h g = absurd (faulty-right n why.Count t g)
    by false h g =
        let least = some (length s.ins) (length s.outs) h in
        subst IsRig (right-same g) (record {
          counts = (least.0, f.ins, least.1, f.outs);
          links = f.links;
          outs = f.out_specs;
          routes = f.routes;
        })

from-right : (n : ℕ) (s t : Setup) (ls : List (List ℕ)) → Fits s → rig_from n s ls ≡ Right t → IsRig t
from-right n s t [] f e = ended-right n s t f e
from-right n s t (line ∷ rest) f e =
    by (why_not s (statement line)) refl e
    (λ h g. from-right (n + 1) (with_line s (statement line)) t rest (fits-line s (statement line) f h) g)
  where
    by : (w : Option Why) → why_not s (statement line) ≡ w →
        line_then n w (rig_from (n + 1) (with_line s (statement line)) rest) ≡ Right t →
        (why_not s (statement line) ≡ None → rig_from (n + 1) (with_line s (statement line)) rest ≡ Right t → IsRig t) →
        IsRig t
    by (Some cause) h g more = absurd (faulty-right n cause t g)
    by None h g more = more h g

text-right : (text : List ℕ) (t : Setup) → rig_of text ≡ Right t → IsRig t
text-right text t e = by (nat_lt most_text (length text)) e
  where
    begins : Fits no_setup
    begins = record { ins = omega arith; outs = omega arith; links = tt; out_specs = tt; routes = tt }

    by : (b : Bool) → (if b then Faulty 0 why.Long else rig_from 1 no_setup (lines text)) ≡ Right t → IsRig t
    by true g = absurd (faulty-right 0 why.Long t g)
    by false g = from-right 1 no_setup t (lines text) begins g

pub read-right : (text : List ℕ) (r : Result Setup RigFault) → IfOk r (λ s. rig_of text ≡ Right s) → IfOk r IsRig
read-right text (Ok s) e = text-right text s e
read-right text (Err f) e = e
