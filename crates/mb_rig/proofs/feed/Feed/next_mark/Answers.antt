use Rattle.std.proofs.Common.{◌≡◌, ◌++◌, Option, Some, Ok, refl, ◌∙◌, ap, subst}
use Rattle.mb_stream.specs.Puts.{puts_at}
use Rattle.mb_track.specs.TrackReading.{track_moment}
use Rattle.mb_rig.specs.Heard.{HeardAt, MomentKept, signs_heard}
use Rattle.mb_rig.specs.declared.heard.Heard.{Heard}
use Rattle.mb_rig.specs.declared.heard.Heard.TheVariants as heard
use Rattle.mb_rig.specs.Link.{LinkStands}
use Rattle.mb_rig.proofs.LinkLemmas.{took-none}
use Rattle.mb_rig.proofs.FeedLemmas.{feed-front, gave-next, gave-waiting, turned-next, turned-over}
use Rattle.mb_rig.proofs.feed.Feed.next_mark.Goals as goal

pub returns-in-Some-clause-goes : goal.returns-in-Some-clause-goes
returns-in-Some-clause-goes g c = λ x moment present given st here.
    let f = c.args.self.now in
    gave-waiting g.D.Desk.tells g.D.Desk.contents x f.link f.record f.waiting c.args.desk.now present given moment
    c.in-Some.mark c.in-Some.is here st

pub returns-in-Some-clause-front : goal.returns-in-Some-clause-front
returns-in-Some-clause-front g c = λ x present given st.
    feed-front g.D.Desk.tells g.D.Desk.contents x c.args.self.now _ c.args.desk.now c.args.desk.now present given
    (record { handle = refl; limit = refl; spec = refl; track = refl }) (λ t. took-none _ _ _ refl)
    st.stands.counted st

pub returns-in-Some-clause-took : goal.returns-in-Some-clause-took
returns-in-Some-clause-took g c = λ t. took-none _ _ _ refl

pub returns-in-Mark-clause-goes : goal.returns-in-Mark-clause-goes
returns-in-Mark-clause-goes g c = λ x moment present given st here.
    let D = g.D.Desk in
    let was = c.args.self.now.link in
    let now = c.next.new.self in
    let e : c.in-Ok-Some.field-0 ≡ Some (heard.Mark c.in-Mark.mark) = c.in-Ok-Some.field-0-is ∙ ap Some c.in-Mark.is in
    gave-next D.tells D.contents x c.args.self.now _ c.args.desk.now c.next.new.desk present given moment
    c.in-Mark.mark c.in_default.is here refl c.in_default.is
    (subst (λ (h : Option Heard). MomentKept (track_moment was.reader) (track_moment now.reader) h) e
    c.in-Ok-Some.ensures.moment)
    (λ told stands. subst (λ (h : Option Heard). LinkStands D.tells D.contents now c.next.new.desk
    (told ++ puts_at (track_moment now.reader) (signs_heard h))) e (c.in-Ok-Some.ensures.told told stands)) st

pub returns-in-Mark-clause-front : goal.returns-in-Mark-clause-front
returns-in-Mark-clause-front g c = λ x present given st.
    feed-front g.D.Desk.tells g.D.Desk.contents x c.args.self.now _ c.args.desk.now c.next.new.desk present given
    (record {
      handle = c.next.ensures.handle;
      limit = c.next.ensures.limit;
      spec = c.next.ensures.spec;
      track = c.next.ensures.track;
    }) c.next.ensures.took (c.next.ensures.counted st.told st.stands) st

pub returns-in-Record-clause-goes : goal.returns-in-Record-clause-goes
returns-in-Record-clause-goes g c = λ x moment present given st here.
    let D = g.D.Desk in
    let now = c.next.new.self in
    let e : c.in-Ok-Some.field-0 ≡ Some (heard.Record c.in-Record.moment) =
    c.in-Ok-Some.field-0-is ∙ ap Some c.in-Record.is in
    turned-next D.tells D.contents x c.args.self.now _ c.args.desk.now c.next.new.desk present given moment
    c.in-Record.moment c.in_default.is here refl c.in_default.is
    (subst (λ (h : Option Heard). HeardAt (track_moment now.reader) h) e c.in-Ok-Some.ensures.begins)
    c.next.ensures.rises
    (λ told stands. subst (λ (h : Option Heard). LinkStands D.tells D.contents now c.next.new.desk
    (told ++ puts_at (track_moment now.reader) (signs_heard h))) e (c.in-Ok-Some.ensures.told told stands)) st

pub returns-in-Record-clause-front : goal.returns-in-Record-clause-front
returns-in-Record-clause-front g c = λ x present given st.
    feed-front g.D.Desk.tells g.D.Desk.contents x c.args.self.now _ c.args.desk.now c.next.new.desk present given
    (record {
      handle = c.next.ensures.handle;
      limit = c.next.ensures.limit;
      spec = c.next.ensures.spec;
      track = c.next.ensures.track;
    }) c.next.ensures.took (c.next.ensures.counted st.told st.stands) st

pub returns-in-Ok-None-clause-goes : goal.returns-in-Ok-None-clause-goes
returns-in-Ok-None-clause-goes g c = λ x moment present given st here.
    let D = g.D.Desk in
    let now = c.next.new.self in
    turned-over D.tells D.contents x c.args.self.now _ c.args.desk.now c.next.new.desk present given moment
    c.in_default.is refl c.in_default.is (c.next.ensures.over (c.in-Ok-None.is ∙ ap Ok c.in-Ok-None.field-0-is))
    (λ told stands. subst (λ (h : Option Heard). LinkStands D.tells D.contents now c.next.new.desk
    (told ++ puts_at (track_moment now.reader) (signs_heard h))) c.in-Ok-None.field-0-is
    (c.in-Ok-None.ensures.told told stands)) st

pub returns-in-Ok-None-clause-front : goal.returns-in-Ok-None-clause-front
returns-in-Ok-None-clause-front g c = λ x present given st.
    feed-front g.D.Desk.tells g.D.Desk.contents x c.args.self.now _ c.args.desk.now c.next.new.desk present given
    (record {
      handle = c.next.ensures.handle;
      limit = c.next.ensures.limit;
      spec = c.next.ensures.spec;
      track = c.next.ensures.track;
    }) c.next.ensures.took (c.next.ensures.counted st.told st.stands) st

pub returns-in-Err-clause-stops : goal.returns-in-Err-clause-stops
returns-in-Err-clause-stops g c = λ x present given st t. c.in-Err.ensures.stops st.told st.stands t

pub returns-in-Err-clause-front : goal.returns-in-Err-clause-front
returns-in-Err-clause-front g c = λ x present given st.
    feed-front g.D.Desk.tells g.D.Desk.contents x c.args.self.now _ c.args.desk.now c.next.new.desk present given
    (record {
      handle = c.next.ensures.handle;
      limit = c.next.ensures.limit;
      spec = c.next.ensures.spec;
      track = c.next.ensures.track;
    }) c.next.ensures.took (c.next.ensures.counted st.told st.stands) st
