use Rattle.std.proofs.Common.{◌≡◌, [], IfNone, sym, ◌∙◌, subst, arith}
use Rattle.mb_text.specs.Text.{words}
use Rattle.mb_text.proofs.TextLemmas.{word-none, word-last, word-next}
use Rattle.mb_text.proofs.words.next_word.Goals as goal

pub returns-in_err-first-clause-none : goal.returns-in_err-first-clause-none
returns-in_err-first-clause-none c =
    subst (λ z. IfNone z (words c.args.line.now.now ≡ [])) (sym c.from_residual.ensures)
    (word-none c.args.line.now.now (sym c.start_of.ensures.place ∙ c.in_err-first.was))

pub returns-in-None-clause-some : goal.returns-in-None-clause-some
returns-in-None-clause-some c =
    (word-last c.args.line.now.now c.split_at.result.1.now c.in_ok-first.first (sym c.start_of.ensures.place ∙
    c.in_ok-first.was)
    c.split_at.ensures.back (sym c.end_of.ensures.place ∙ c.in-None.is)).0

pub returns-in-None-clause-filled : goal.returns-in-None-clause-filled
returns-in-None-clause-filled c =
    (word-last c.args.line.now.now c.split_at.result.1.now c.in_ok-first.first (sym c.start_of.ensures.place ∙
    c.in_ok-first.was)
    c.split_at.ensures.back (sym c.end_of.ensures.place ∙ c.in-None.is)).1

pub returns-in-Some-clause-some : goal.returns-in-Some-clause-some
returns-in-Some-clause-some c =
    (word-next c.args.line.now.now c.split_at.result.1.now c.split_at-in-Some.result.0.now
    c.split_at-in-Some.result.1.now c.in_ok-first.first c.in-Some.len
    (sym c.start_of.ensures.place ∙ c.in_ok-first.was) c.split_at.ensures.back (sym c.end_of.ensures.place ∙
    c.in-Some.is)
    c.split_at-in-Some.ensures.front c.split_at-in-Some.ensures.back).0

pub returns-in-Some-clause-filled : goal.returns-in-Some-clause-filled
returns-in-Some-clause-filled c =
    (word-next c.args.line.now.now c.split_at.result.1.now c.split_at-in-Some.result.0.now
    c.split_at-in-Some.result.1.now c.in_ok-first.first c.in-Some.len
    (sym c.start_of.ensures.place ∙ c.in_ok-first.was) c.split_at.ensures.back (sym c.end_of.ensures.place ∙
    c.in-Some.is)
    c.split_at-in-Some.ensures.front c.split_at-in-Some.ensures.back).1

pub returns-in-Some-clause-fewer : goal.returns-in-Some-clause-fewer
returns-in-Some-clause-fewer c =
    let some = returns-in-Some-clause-filled c in
    omega (
      arith,
      some,
      c.split_at.ensures.front_len,
      c.split_at.ensures.back_len,
      c.split_at-in-Some.ensures.front_len,
      c.split_at-in-Some.ensures.back_len,
    )
