use Rattle.std.proofs.Common.{Some, ◌∙◌, ap, refl, subst, map}
use Rattle.mb_stream.specs.ReaderLaw.{answer}
use Rattle.mb_frames.specs.Reading.{room_of, is_at_end}
use Rattle.mb_ble.specs.Content.{EndedBy}
use Rattle.mb_ble.specs.declared.content.Content.{Content}
use Rattle.mb_ble.proofs.Ends.{end_stamp_tells, end_groups_tells}
use Rattle.mb_ble.proofs.Halts.{room_longest, some_rests}
use Rattle.mb_ble.proofs.position.Position.end.Goals as goal

pub returns-clause-tells : goal.returns-clause-tells
returns-clause-tells c = λ input.
    end_groups_tells c.args.self.now _ input _ _ c.requires.fit (ap is_at_end c.requires.end)
    c.in_default.ensures.none.1 (subst (λ z. EndedBy z c.end_groups.new.self (answer c.end_groups.result))
    c.in_default.ensures.none.0 c.end_groups.ensures.ended) c.leave.ensures.place
    (ap (λ z. z.moment) c.end_groups.ensures.clock ∙ ap (λ (k : Content). k.clock.moment) c.in_default.ensures.none.0)

pub returns-in-Some-clause-tells : goal.returns-in-Some-clause-tells
returns-in-Some-clause-tells c = λ input. end_stamp_tells c.args.self.now _ input c.in-Some.ensures.some.0 _ _
    c.requires.fit (ap is_at_end c.requires.end) c.in-Some.ensures.some.1 c.in-Some.ensures.some.3 refl
    (ap (λ (k : Content). k.clock.moment) c.in-Some.ensures.some.3)
    (ap (map (λ t. record { moment = c.end_stamp.new.self.clock.moment; told = t })) c.in-Some.ensures.some.2)

pub returns-in-Some-clause-longest : goal.returns-in-Some-clause-longest
returns-in-Some-clause-longest c = λ input. room_longest (Some c.in-Some.seen) _ input (ap room_of c.requires.end)

pub returns-clause-longest : goal.returns-clause-longest
returns-clause-longest c = λ input. room_longest _ _ input (ap room_of c.leave.ensures.place)

pub returns-clause-before : goal.returns-clause-before
returns-clause-before c = λ e. (c.leave.ensures.place, some_rests c.end_groups.result c.end_groups.ensures.rests e)
