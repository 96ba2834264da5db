use Rattle.std.proofs.Common.{◌≡◌, ◌++◌, List, [], ℕ, Ok, Some, None, refl, sym, ◌∙◌, ap, subst, length}
use Rattle.std.proofs.Common.{arith}
use Rattle.std.proofs.lemmas.Bool.{true≢false}
use Rattle.mb_message.specs.Signs.{Sign}
use Rattle.mb_message.specs.Front.{IsFront}
use Rattle.mb_stream.specs.Puts.{puts_at}
use Rattle.mb_outside.specs.Contents.{Contents}
use Rattle.mb_frames.specs.Tapes.{tape_fault}
use Rattle.mb_track.specs.TrackReading.{track_moment}
use Rattle.mb_rig.specs.Heard.{heard_signs, signs_heard}
use Rattle.mb_rig.specs.Supply.{IsCounted, SupplyValue}
use Rattle.mb_rig.specs.Link.{LinkStands}
use Rattle.mb_rig.proofs.LinkLemmas.{drew-by, drew-took, link-ends, link-faulty, link-heard, link-quiet, link-read}
use Rattle.mb_rig.proofs.LinkLemmas.{link-too_long, owed-ended, owed-heard, rests-none, took-none, took-then}
use Rattle.mb_rig.proofs.LinkLemmas.{counted-read, counted-same}
use Rattle.mb_rig.proofs.LinkLemmas.{work-heard, work-passed, work-read}
use Rattle.mb_rig.proofs.HeardLemmas.{moment-by, moment-still, on-some, some-falls}
use Rattle.mb_rig.proofs.link.Link.next.Goals as goal

pub bytes-init : goal.bytes-init
bytes-init g c = record {
  reading = c.if-self.false;
  handle = refl;
  limit = refl;
  spec = refl;
  track = refl;
  moment = refl;
  less = omega arith;
  told = λ told st. st;
  took = λ t. took-none _ _ _ refl;
  reads = refl;
  writes = refl;
}

pub hear-requires : goal.hear-requires
hear-requires g c =
    let st = c.bytes.invariant.told c.requires.stands.0 c.requires.stands.1 in
    (st.bytes, c.requires.stands.0, st.reads c.bytes.invariant.reading)

pub returns-in-Ok-Some-clause-told : goal.returns-in-Ok-Some-clause-told
returns-in-Ok-Some-clause-told g c = λ told st.
    let D = g.D.Desk in
    let m = c.hear.new.self in
    subst (λ (signs : List Sign). LinkStands D.tells D.contents m c.bytes.desk
    (told ++ puts_at (track_moment m.reader) signs))
    (ap heard_signs (c.in-Ok-Some.is ∙ ap Ok c.in-Ok-Some.field-0-is))
    (link-heard D.tells D.contents c.bytes.self m c.bytes.desk told _ c.bytes.invariant.reading c.hear.ensures.still
    c.hear.ensures.handle c.hear.ensures.limit c.hear.ensures.goes (c.bytes.invariant.told told st))

pub returns-in-Err-clause-stops : goal.returns-in-Err-clause-stops
returns-in-Err-clause-stops g c = λ told st t.
    let D = g.D.Desk in
    subst (λ (h : ℕ). (bytes : List ℕ) × IsFront bytes ((D.contents c.bytes.desk).taken h)
    × (tape_fault bytes ≡ Some c.in-Err.fault)) c.bytes.invariant.handle
    (link-faulty D.tells D.contents c.bytes.self c.hear.new.self c.bytes.desk told c.in-Err.fault
    c.bytes.invariant.reading c.in-Err.ensures.rests (c.bytes.invariant.told told st) t)

pub bytes-preserved-in-Ok-true : goal.bytes-preserved-in-Ok-true
bytes-preserved-in-Ok-true g c =
    let D = g.D.Desk in
    let i = c.bytes.invariant in
    let e = c.in-Ok-None.is ∙ ap Ok c.in-Ok-None.field-0-is in
    let more = c.in-Ok-true.ensures.more in
    record {
      reading = c.hear.ensures.still ∙ i.reading;
      handle = c.read_on.ensures.handle ∙ (c.hear.ensures.handle ∙ i.handle);
      limit = c.read_on.ensures.limit ∙ (c.hear.ensures.limit ∙ i.limit);
      spec = c.hear.ensures.spec ∙ i.spec;
      track = c.hear.ensures.track ∙ i.track;
      moment =
          moment-by _ (track_moment c.bytes.self.reader) (track_moment c.hear.new.self.reader) c.hear.result None e
          i.moment c.hear.ensures.moment;
      less =
          omega (
            arith,
            i.less,
            work-read c.bytes.self c.hear.new.self c.read_on.new.self c.hear.ensures.limit c.hear.ensures.count
                c.read_on.ensures.limit c.read_on.ensures.count c.read_on.ensures.within (more.0 c.in-Ok-true.field-0-test),
          );
      told = λ told st.
          link-read D.tells D.contents c.hear.new.self _ c.bytes.desk c.read_on.new.desk told
          (c.hear.ensures.still ∙ i.reading) refl refl c.read_on.ensures.handle c.read_on.ensures.limit
          (c.is_used.ensures.0 c.if-is_used.true) c.read_on.ensures.count c.read_on.ensures.within
          c.in-Ok-true.ensures.drew
          (link-quiet D.tells D.contents c.bytes.self c.hear.new.self c.bytes.desk told c.hear.result _
          (ap heard_signs e) i.reading c.hear.ensures.still c.hear.ensures.handle c.hear.ensures.limit
          c.hear.ensures.goes (i.told told st));
      took = λ t.
          took-then _ _ _ _ _ (c.hear.ensures.handle ∙ i.handle) (i.took t)
          (drew-took _ _ _ _ (c.in-Ok-true.ensures.drew t));
      reads = c.in-Ok-true.ensures.sound ∙ i.reads;
      writes = c.read_on.ensures.write_faults ∙ i.writes;
    }

pub bytes-preserved : goal.bytes-preserved
bytes-preserved g c =
    let D = g.D.Desk in
    let i = c.bytes.invariant in
    let e = c.in-Ok-None.is ∙ ap Ok c.in-Ok-None.field-0-is in
    record {
      reading = c.hear.ensures.still ∙ i.reading;
      handle = c.hear.ensures.handle ∙ i.handle;
      limit = c.hear.ensures.limit ∙ i.limit;
      spec = c.hear.ensures.spec ∙ i.spec;
      track = c.hear.ensures.track ∙ i.track;
      moment =
          moment-by _ (track_moment c.bytes.self.reader) (track_moment c.hear.new.self.reader) c.hear.result None e
          i.moment c.hear.ensures.moment;
      less =
          omega (
            arith,
            i.less,
            work-passed c.bytes.self c.hear.new.self c.hear.ensures.limit c.hear.ensures.count (c.hear.ensures.used e)
                (λ none. true≢false (sym (c.is_used.ensures.1 none) ∙ c.if-is_used.false)),
          );
      told = λ told st.
          link-quiet D.tells D.contents c.bytes.self c.hear.new.self c.bytes.desk told c.hear.result _
          (ap heard_signs e) i.reading c.hear.ensures.still c.hear.ensures.handle c.hear.ensures.limit
          c.hear.ensures.goes (i.told told st);
      took = i.took;
      reads = i.reads;
      writes = i.writes;
    }

pub end-requires : goal.end-requires
end-requires g c =
    let st = c.bytes.invariant.told c.requires.stands.0 c.requires.stands.1 in
    let r = rests-none c.bytes.self c.hear.new.self c.hear.result (c.in-Ok-None.is ∙ ap Ok c.in-Ok-None.field-0-is)
    c.hear.ensures.rests st.bytes c.requires.stands.0 (st.reads c.bytes.invariant.reading) in
    (_, r.tells_all)

pub returns-in-Ok-false-clause-told : goal.returns-in-Ok-false-clause-told
returns-in-Ok-false-clause-told g c = λ told st.
    let D = g.D.Desk in
    let i = c.bytes.invariant in
    let e = c.in-Ok-None.is ∙ ap Ok c.in-Ok-None.field-0-is in
    let none : c.read_on.new.self.ahead ≡ [] =
    c.read_on.ensures.none (c.in-Ok-false.is ∙ ap Ok c.in-Ok-false.field-0-test) in
    link-ends D.tells D.contents c.bytes.self c.hear.new.self c.end.new.self c.bytes.desk c.read_on.new.desk told _
    i.reading c.end.ensures.over
    (ap (λ (s : SupplyValue). s.handle) c.end.ensures.supply ∙ (c.read_on.ensures.handle ∙ c.hear.ensures.handle))
    (ap (λ (s : SupplyValue). s.limit) c.end.ensures.supply ∙ (c.read_on.ensures.limit ∙ c.hear.ensures.limit))
    (omega (
      arith,
      ap (λ (s : SupplyValue). s.count) c.end.ensures.supply,
      c.read_on.ensures.count,
      ap length none,
      c.hear.ensures.count,
    ))
    (omega (arith, c.in-Ok-false.ensures.below, c.hear.ensures.count, c.hear.ensures.limit))
    (ap (λ (s : SupplyValue). s.ahead) c.end.ensures.supply ∙ none)
    (c.is_used.ensures.0 c.if-is_used.true) (c.hear.ensures.used e) c.end.ensures.spec c.end.ensures.track
    (rests-none c.bytes.self c.hear.new.self c.hear.result e c.hear.ensures.rests) c.end.ensures.cut
    (λ bytes t. ap (λ m. puts_at m (signs_heard c.end.result)) c.end.ensures.moment ∙ c.end.ensures.told bytes t)
    (λ t. drew-by _ _ _ _ _ _ c.hear.ensures.handle none (c.in-Ok-false.ensures.drew t))
    (i.told told st)

pub returns-in-Err-TooLong-clause-stops : goal.returns-in-Err-TooLong-clause-stops
returns-in-Err-TooLong-clause-stops g c = λ told st t.
    let D = g.D.Desk in
    let i = c.bytes.invariant in
    let e = c.in-Ok-None.is ∙ ap Ok c.in-Ok-None.field-0-is in
    let dry = rw c.in-Err-TooLong.field-0-is at c.in-Err-TooLong.ensures.dry in
    let same = c.in-Err-TooLong.ensures.err.1 t in
    let handle = c.args.self.now.supply.handle in
    let p = link-too_long D.tells D.contents c.bytes.self c.hear.new.self c.bytes.desk told i.reading
    (c.is_used.ensures.0 c.if-is_used.true) (c.hear.ensures.used e) c.hear.ensures.count dry.0
    c.hear.ensures.limit (rests-none c.bytes.self c.hear.new.self c.hear.result e c.hear.ensures.rests)
    (i.told told st) t in (
      ap (λ (z : Contents). length (z.taken handle)) same
          ∙ (ap (λ (h : ℕ). length ((D.contents c.bytes.desk).taken h)) (sym i.handle) ∙ (p.0 ∙ i.limit)),
      ap (λ (z : Contents). tape_fault (z.taken handle)) same
          ∙ (ap (λ (h : ℕ). tape_fault ((D.contents c.bytes.desk).taken h)) (sym i.handle) ∙ p.1),
    )

pub returns-in-Ok-Some-clause-moment : goal.returns-in-Ok-Some-clause-moment
returns-in-Ok-Some-clause-moment g c =
    moment-by _ (track_moment c.bytes.self.reader) (track_moment c.hear.new.self.reader) c.hear.result _
    (c.in-Ok-Some.is ∙ ap Ok c.in-Ok-Some.field-0-is) c.bytes.invariant.moment c.hear.ensures.moment

pub returns-in-Ok-Some-clause-rises : goal.returns-in-Ok-Some-clause-rises
returns-in-Ok-Some-clause-rises g c = λ told st.
    let now = c.bytes.invariant.told told st in
    omega (
      arith,
      c.bytes.invariant.moment,
      c.hear.ensures.rises now.bytes told (now.reads c.bytes.invariant.reading),
    )

pub returns-in-Ok-Some-clause-progress : goal.returns-in-Ok-Some-clause-progress
returns-in-Ok-Some-clause-progress g c =
    let i = c.bytes.invariant in
    let l = c.bytes.self in
    let m = c.hear.new.self in
    let less = some-falls c.hear.result _ _ (c.in-Ok-Some.is ∙ ap Ok c.in-Ok-Some.field-0-is)
    c.hear.ensures.progress in
    owed-heard c.args.self.now m c.if-self.false (c.hear.ensures.still ∙ i.reading)
    (omega (arith, i.less, work-heard l m c.hear.ensures.limit c.hear.ensures.count less))

pub returns-in-Err-clause-rises : goal.returns-in-Err-clause-rises
returns-in-Err-clause-rises g c = λ told st.
    let now = c.bytes.invariant.told told st in
    omega (
      arith,
      c.bytes.invariant.moment,
      c.hear.ensures.rises now.bytes told (now.reads c.bytes.invariant.reading),
    )

pub returns-in-Ok-false-clause-moment : goal.returns-in-Ok-false-clause-moment
returns-in-Ok-false-clause-moment g c =
    moment-still _ _ c.end.result
    (c.end.ensures.moment
    ∙ moment-by _ (track_moment c.bytes.self.reader) (track_moment c.hear.new.self.reader) c.hear.result None
    (c.in-Ok-None.is ∙ ap Ok c.in-Ok-None.field-0-is) c.bytes.invariant.moment c.hear.ensures.moment)

pub returns-in-Ok-false-clause-rises : goal.returns-in-Ok-false-clause-rises
returns-in-Ok-false-clause-rises g c = λ told st.
    omega (
      arith,
      c.end.ensures.moment,
      moment-by _ (track_moment c.bytes.self.reader) (track_moment c.hear.new.self.reader) c.hear.result None
          (c.in-Ok-None.is ∙ ap Ok c.in-Ok-None.field-0-is) c.bytes.invariant.moment c.hear.ensures.moment,
    )

pub returns-in-Ok-false-clause-progress : goal.returns-in-Ok-false-clause-progress
returns-in-Ok-false-clause-progress g c =
    on-some c.end.result _ (owed-ended c.args.self.now c.end.new.self c.if-self.false c.end.ensures.over)

pub returns-in-Err-ReadFault-clause-rises : goal.returns-in-Err-ReadFault-clause-rises
returns-in-Err-ReadFault-clause-rises g c = λ told st.
    omega (
      arith,
      moment-by _ (track_moment c.bytes.self.reader) (track_moment c.hear.new.self.reader) c.hear.result None
          (c.in-Ok-None.is ∙ ap Ok c.in-Ok-None.field-0-is) c.bytes.invariant.moment c.hear.ensures.moment,
    )

pub returns-in-Err-TooLong-clause-rises : goal.returns-in-Err-TooLong-clause-rises
returns-in-Err-TooLong-clause-rises g c = λ told st.
    omega (
      arith,
      moment-by _ (track_moment c.bytes.self.reader) (track_moment c.hear.new.self.reader) c.hear.result None
          (c.in-Ok-None.is ∙ ap Ok c.in-Ok-None.field-0-is) c.bytes.invariant.moment c.hear.ensures.moment,
    )

pub returns-in-Ok-Some-clause-counted : goal.returns-in-Ok-Some-clause-counted
returns-in-Ok-Some-clause-counted g c = λ told st t.
    counted-same c.bytes.self.supply c.hear.new.self.supply _ c.hear.ensures.handle c.hear.ensures.limit
    c.hear.ensures.count ((c.bytes.invariant.told told st).counted t)

pub returns-in-Err-clause-counted : goal.returns-in-Err-clause-counted
returns-in-Err-clause-counted g c = λ told st t.
    counted-same c.bytes.self.supply c.hear.new.self.supply _ c.hear.ensures.handle c.hear.ensures.limit
    c.hear.ensures.count ((c.bytes.invariant.told told st).counted t)

pub returns-in-Ok-false-clause-counted : goal.returns-in-Ok-false-clause-counted
returns-in-Ok-false-clause-counted g c = λ told st t.
    let i = c.bytes.invariant in
    let none : c.read_on.new.self.ahead ≡ [] =
    c.read_on.ensures.none (c.in-Ok-false.is ∙ ap Ok c.in-Ok-false.field-0-test) in
    subst (λ (s : SupplyValue). IsCounted s (g.D.Desk.contents c.read_on.new.desk)) (sym c.end.ensures.supply)
    (counted-read c.hear.new.self.supply c.read_on.new.self _ _ c.read_on.new.self.ahead c.read_on.ensures.handle
    c.read_on.ensures.count c.read_on.ensures.within (c.in-Ok-false.ensures.drew t)
    (counted-same c.bytes.self.supply c.hear.new.self.supply _ c.hear.ensures.handle c.hear.ensures.limit
    c.hear.ensures.count ((i.told told st).counted t)))

pub returns-in-Err-ReadFault-clause-counted : goal.returns-in-Err-ReadFault-clause-counted
returns-in-Err-ReadFault-clause-counted g c = λ told st t.
    let err = c.in-Err-ReadFault.ensures.err in
    subst (λ (z : Contents). IsCounted c.read_on.new.self z) (sym (err.1 t))
    (counted-same c.bytes.self.supply c.read_on.new.self _ (c.read_on.ensures.handle ∙ c.hear.ensures.handle)
    (c.read_on.ensures.limit ∙ c.hear.ensures.limit)
    (omega (arith, c.read_on.ensures.count, ap length err.0, c.hear.ensures.count))
    ((c.bytes.invariant.told told st).counted t))

pub returns-in-Err-TooLong-clause-counted : goal.returns-in-Err-TooLong-clause-counted
returns-in-Err-TooLong-clause-counted g c = λ told st t.
    let err = c.in-Err-TooLong.ensures.err in
    subst (λ (z : Contents). IsCounted c.read_on.new.self z) (sym (err.1 t))
    (counted-same c.bytes.self.supply c.read_on.new.self _ (c.read_on.ensures.handle ∙ c.hear.ensures.handle)
    (c.read_on.ensures.limit ∙ c.hear.ensures.limit)
    (omega (arith, c.read_on.ensures.count, ap length err.0, c.hear.ensures.count))
    ((c.bytes.invariant.told told st).counted t))
