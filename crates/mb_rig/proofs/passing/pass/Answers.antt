use Rattle.std.proofs.Common.{ℕ, List, [], ◌++◌, refl, sym, ◌∙◌, ap, append-nil, arith}
use Rattle.std.proofs.lemmas.Result.{on_err_weaker, on_ok_weaker}
use Rattle.mb_rig.proofs.OutsLemmas.{among-one, outs-kept}
use Rattle.mb_rig.proofs.FrameLemmas.{bay-among, bay-report, bay-then, line-wrote, wrote-some}
use Rattle.mb_rig.specs.PassingLine.{passing_text}
use Rattle.mb_rig.proofs.passing.pass.Goals as goal

pub returns-clause-stand : goal.returns-clause-stand
returns-clause-stand g c =
    let D = g.D.Desk in
    on_ok_weaker c.tell_passing.result (λ wrote first putss low st.
    outs-kept D.tells D.contents D.read_faults 1 1 first _ _ c.pass_on.new.desk c.tell_passing.new.desk
    (λ t. omega (arith, low)) (among-one D.tells D.contents D.read_faults 1 _ _ _ wrote)
    (c.in_default.ensures.stand first putss st)) c.tell_passing.ensures.told

pub returns-clause-passed : goal.returns-clause-passed
returns-clause-passed g c = on_ok_weaker c.tell_passing.result (λ wrote first putss st. record {
  between = c.pass_on.new.desk;
  outs = c.pass_on.ensures.among first putss st;
  line = wrote;
}) c.tell_passing.ensures.told

pub returns-in-Err-clause-wrote : goal.returns-in-Err-clause-wrote
returns-in-Err-clause-wrote g c = λ first putss low st.
    let D = g.D.Desk in
    bay-among D.tells D.contents D.read_faults first _ c.args.desk.now c.pass_on.new.desk
    (c.pass_on.ensures.among first putss st)

pub returns-clause-wrote : goal.returns-clause-wrote
returns-clause-wrote g c = λ first putss low st.
    let D = g.D.Desk in
    let some = wrote-some D.tells D.contents D.read_faults c.pass_on.new.desk c.tell_passing.new.desk
    (passing_text c.args.moment c.args.passed) c.tell_passing.result c.tell_passing.ensures.told
    c.tell_passing.ensures.part in
    bay-then D.tells D.contents first _ c.args.desk.now c.pass_on.new.desk c.tell_passing.new.desk
    (bay-among D.tells D.contents D.read_faults first _ c.args.desk.now c.pass_on.new.desk
    (c.pass_on.ensures.among first putss st))
    (bay-report D.tells D.contents D.read_faults first _ some.0 c.pass_on.new.desk c.tell_passing.new.desk some.1)

pub returns-in-Err-clause-part : goal.returns-in-Err-clause-part
returns-in-Err-clause-part g c = λ first putss low st t. (
  [],
  (passing_text c.args.moment c.args.passed, refl),
  (c.pass_on.ensures.among first putss st).others t 1 (λ lower higher. omega (arith, low, lower))
      ∙ sym (append-nil ((g.D.Desk.contents c.args.desk.now).written 1)),
)

pub returns-clause-part : goal.returns-clause-part
returns-clause-part g c =
    let D = g.D.Desk in
    on_err_weaker c.tell_passing.result (λ part first putss low st t. (
      part.0,
      (part.1.0, part.1.1),
      line-wrote D.tells D.contents D.read_faults c.pass_on.new.desk c.tell_passing.new.desk part.0 part.2 t
          ∙ ap (λ (xs : List ℕ). xs ++ part.0)
          ((c.pass_on.ensures.among first putss st).others t 1 (λ lower higher. omega (arith, low, lower))),
    )) c.tell_passing.ensures.part
