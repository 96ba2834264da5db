-- Taking in steps is taking.
use Rattle.std.proofs.Common.{ℕ, List, [], ◌++◌, refl, sym, ◌∙◌, subst, arith, append_assoc, length-append}
use Rattle.std.proofs.lemmas.List.{append-nil}
use Rattle.mb_smoke.specs.SumOut.{SumStands, SumTook}
use Rattle.mb_smoke.specs.declared.sum_out.SumOut.{SumOut}

pub took-nothing : (out : SumOut) → SumTook out [] out
took-nothing out =
    record {
      stands = λ bytes h. subst (λ (bs : List ℕ). SumStands out bs) (sym (append-nil bytes)) h;
      never = λ bytes h small. refl;
    }

pub took-both : (a b c : SumOut) (x y : List ℕ) → SumTook a x b → SumTook b y c → SumTook a (x ++ y) c
took-both a b c x y first second =
    record {
      stands = λ bytes h. subst (λ (bs : List ℕ). SumStands c bs) (append_assoc bytes x y)
          (second.stands (bytes ++ x) (first.stands bytes h));
      never = λ bytes h small.
          second.never (bytes ++ x) (first.stands bytes h)
          (omega (
            arith,
            small,
            length-append bytes (x ++ y),
            length-append x y,
            length-append (bytes ++ x) y,
            length-append bytes x,
          ))
          ∙ first.never bytes h (omega (
            arith,
            small,
            length-append bytes (x ++ y),
            length-append x y,
            length-append bytes x,
          ));
    }
