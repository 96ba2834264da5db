use Rattle.std.proofs.Common.{◌≡◌, ◌+◌, ◌*◌, ◌/◌, ◌%◌, ◌^◌}
use Rattle.mb_smf.proofs.ClockLemmas.{pass-moment, pass-state, lower, not-lower}
use Rattle.mb_smf.proofs.track_clock.TrackClock.pass.Goals as goal

pub returns-in-Some-clause-far : goal.returns-in-Some-clause-far
returns-in-Some-clause-far c =
    let q_is : (c.product.result + c.from.result) / c.from-division.result ≡ (c.args.ticks * c.self.inside.tempo +
    c.self.inside.rest) / c.self.inside.division =
    cc (c.product.ensures.value, c.from.ensures, c.from-division.ensures) in
    lower _ _ (2 ^ 64) (pass-moment c.args.self.now c.self.inside.division c.self.inside.tempo c.self.inside.moment
    c.self.inside.rest c.args.ticks
    ((c.product.result + c.from.result) / c.from-division.result) c.self.view_is c.self.invariant q_is)
    c.in-Some.ensures.0

pub returns-in-None-clause-far : goal.returns-in-None-clause-far
returns-in-None-clause-far c =
    let q_is : (c.product.result + c.from.result) / c.from-division.result ≡ (c.args.ticks * c.self.inside.tempo +
    c.self.inside.rest) / c.self.inside.division =
    cc (c.product.ensures.value, c.from.ensures, c.from-division.ensures) in
    not-lower _ _ (2 ^ 64) (pass-moment c.args.self.now c.self.inside.division c.self.inside.tempo c.self.inside.moment
    c.self.inside.rest c.args.ticks
    ((c.product.result + c.from.result) / c.from-division.result) c.self.view_is c.self.invariant q_is)
    c.in-None.ensures

pub returns-in-Some-clause-passed : goal.returns-in-Some-clause-passed
returns-in-Some-clause-passed c =
    let q_is : (c.product.result + c.from.result) / c.from-division.result ≡ (c.args.ticks * c.self.inside.tempo +
    c.self.inside.rest) / c.self.inside.division =
    cc (c.product.ensures.value, c.from.ensures, c.from-division.ensures) in
    let r_is : (c.product.result + c.from.result) % c.from-division.result ≡ (c.args.ticks * c.self.inside.tempo +
    c.self.inside.rest) % c.self.inside.division =
    cc (c.product.ensures.value, c.from.ensures, c.from-division.ensures) in
    pass-state c.args.self.now c.self.inside.division c.self.inside.tempo c.self.inside.moment c.self.inside.rest
    c.args.ticks
    ((c.product.result + c.from.result) / c.from-division.result) c.self.view_is q_is ((c.product.result +
    c.from.result) % c.from-division.result) c.in-Some.moment r_is c.in-Some.ensures.1
