use Rattle.std.proofs.Common.{◌≡◌, ◌<◌, length, ◌++◌, sym, ◌∙◌, ap₂, arith, rules}
use Rattle.std.proofs.lemmas.List.{take-append-drop}
use Rattle.mb_fire.proofs.PassedLemmas.{rest-passed}
use Rattle.mb_fire.proofs.passed.pass_rest.Goals as goal

pub returns-clause-passed : goal.returns-clause-passed
returns-clause-passed c port =
    let place = c.in-Nothing-Within.place in
    let skip : c.from-rest.result ≡ place.skip = search rules in
    let long : length c.split_at.result.0.now ≡ place.skip =
    omega (arith, skip, c.split_at.ensures.front_len, c.if-input-rest.false) in
    let some : 0 < place.skip = omega (arith, skip, c.if-rest-eq0.false) in
    rest-passed port c.args.packet.now c.pass_rest.new.self place c.split_at.result.0.now c.split_at.result.1.now
    c.args.input.now c.in-Nothing-Within.is-0 c.in-Nothing-Within.is-1 (omega arith) some long
    (sym (ap₂ (λ xs ys. xs ++ ys) c.split_at.ensures.front c.split_at.ensures.back
    ∙ take-append-drop c.from-rest.result c.args.input.now)) c.pass_rest.ensures
