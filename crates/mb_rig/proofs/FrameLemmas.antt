-- What else a bay's writing leaves as it was.
use Rattle.std.proofs.Common.{◌≡◌, ◌≢◌, ℕ, ◌+◌, ◌<◌, ◌≤◌, Bool, List, ◌++◌, IsTrue, refl, ap, ◌∙◌, arith}
use Rattle.std.specs.Prelude.{Result, Ok, Err, OnOk, OnErr}
use Rattle.mb_message.specs.Front.{IsPart}
use Rattle.std.proofs.lemmas.Bool.Decides.{nat_tests}
use Rattle.mb_outside.specs.Contents.{Contents, with_entry}
use Rattle.mb_outside.specs.Taking.{Wrote}
use Rattle.mb_rig.specs.Outs.{WroteAmong}
use Rattle.mb_rig.specs.Bay.{BayWrote}
use Rattle.mb_rig.proofs.OutsLemmas.{entry-other}

pub bay-none : {S : Type 0} (tells : Bool) (contents : S → Contents) (first count : ℕ) (at : S) →
    BayWrote tells contents first count at at
bay-none tells contents first count at = record {
  left = λ _. refl;
  taken = λ _. refl;
  given = λ _. refl;
  others = λ _ h not_report apart. refl;
}

pub bay-among : {S : Type 0} (tells : Bool) (contents : S → Contents) (read_faults : S → ℕ) (first count : ℕ)
    (before after : S) → WroteAmong tells contents read_faults first count before after →
    BayWrote tells contents first count before after
bay-among tells contents read_faults first count before after wrote = record {
  left = wrote.left;
  taken = wrote.taken;
  given = wrote.given;
  others = λ t h not_report apart. wrote.others t h apart;
}

pub bay-report : {S : Type 0} (tells : Bool) (contents : S → Contents) (read_faults : S → ℕ) (first count : ℕ)
    (bytes : List ℕ) (before after : S) → Wrote tells contents read_faults 1 before bytes after →
    BayWrote tells contents first count before after
bay-report tells contents read_faults first count bytes before after wrote = record {
  left = λ t. ap (λ (z : Contents). z.left) (wrote.contents_are t);
  taken = λ t. ap (λ (z : Contents). z.taken) (wrote.contents_are t);
  given = λ t. ap (λ (z : Contents). z.given) (wrote.contents_are t);
  others = λ t h not_report apart.
      ap (λ (z : Contents). z.written h) (wrote.contents_are t)
      ∙ entry-other (contents before).written 1 _ h not_report;
}

pub bay-then : {S : Type 0} (tells : Bool) (contents : S → Contents) (first count : ℕ) (a b c : S) →
    BayWrote tells contents first count a b → BayWrote tells contents first count b c →
    BayWrote tells contents first count a c
bay-then tells contents first count a b c x y = record {
  left = λ t. y.left t ∙ x.left t;
  taken = λ t. y.taken t ∙ x.taken t;
  given = λ t. y.given t ∙ x.given t;
  others = λ t h not_report apart. y.others t h not_report apart ∙ x.others t h not_report apart;
}

-- whatever was told of a line, a beginning of it or all of it was written
pub wrote-some : {S A E : Type 0} (tells : Bool) (contents : S → Contents) (read_faults : S → ℕ) (before after : S)
    (text : List ℕ) (result : Result A E) → OnOk result (Wrote tells contents read_faults 1 before text after) →
    OnErr result ((front : List ℕ) × IsPart front text × Wrote tells contents read_faults 1 before front after) →
    (bytes : List ℕ) × Wrote tells contents read_faults 1 before bytes after
wrote-some tells contents read_faults before after text (Ok a) ok err = (text, ok)
wrote-some tells contents read_faults before after text (Err e) ok err = (err.0, err.2)

pub line-wrote : {S : Type 0} (tells : Bool) (contents : S → Contents) (read_faults : S → ℕ) (before after : S)
    (bytes : List ℕ) → Wrote tells contents read_faults 1 before bytes after → IsTrue tells →
    (contents after).written 1 ≡ (contents before).written 1 ++ bytes
line-wrote tells contents read_faults before after bytes wrote t = ap (λ (z : Contents). z.written 1) (wrote.contents_are t)
