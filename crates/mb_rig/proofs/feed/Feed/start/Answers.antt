use Rattle.std.proofs.Common.{[], refl}
use Rattle.mb_rig.proofs.feed.Feed.start.Goals as goal

pub returns-in-Record-clause-front : goal.returns-in-Record-clause-front
returns-in-Record-clause-front g c =
    record { front = λ t. (_, refl); counted = c.next.ensures.counted [] c.requires.stands }

pub returns-in-Mark-clause-front : goal.returns-in-Mark-clause-front
returns-in-Mark-clause-front g c =
    record { front = λ t. (_, refl); counted = c.next.ensures.counted [] c.requires.stands }

pub returns-in-Ok-None-clause-front : goal.returns-in-Ok-None-clause-front
returns-in-Ok-None-clause-front g c =
    record { front = λ t. (_, refl); counted = c.next.ensures.counted [] c.requires.stands }

pub returns-in-Err-clause-front : goal.returns-in-Err-clause-front
returns-in-Err-clause-front g c =
    record { front = λ t. (_, refl); counted = c.next.ensures.counted [] c.requires.stands }

pub returns-in-Err-clause-stops : goal.returns-in-Err-clause-stops
returns-in-Err-clause-stops g c = λ t. c.in-Err.ensures.stops [] c.requires.stands t
