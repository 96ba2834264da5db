use Rattle.std.proofs.Common.{◌+◌, ◌≤◌, ◌∙◌, refl, sym, ap, subst, arith}
use Rattle.arrayvec.specs.ArrayVec.{array_vec_len}
use Rattle.mb_carrier.specs.Carrier.{hop_room_of}
use Rattle.mb_carrier.specs.declared.spec.Spec.{Spec}
use Rattle.mb_stream.specs.Puts.{puts_at}
use Rattle.mb_carrier.proofs.FillLemmas.{flows-empty, flows-owes, flows-seen, flows-step, flows-may_come, flows-done}
use Rattle.mb_carrier.proofs.fill.read_on.Goals as goal

pub returns-then-not-may_stand-clause-left : goal.returns-then-not-may_stand-clause-left
returns-then-not-may_stand-clause-left g c = λ moments bytes puts base f.
    flows-owes _ _ moments _ c.args.apart c.args.at _ _ bytes _ _ _ puts base _
    (ap (puts_at (g.R.EventReader.moment c.next.new.self c.args.moment)) (sym c.event_of.ensures.signs))
    (flows-seen _ _ _ moments _ c.args.apart c.args.at _ _ _ _ bytes _ _ puts base _ c.in-Some.seen
    c.events.invariant.reads c.in-Some.ensures.goes (c.events.invariant.flows moments bytes puts base f))

pub put_seen-requires-clause-suits : goal.put_seen-requires-clause-suits
put_seen-requires-clause-suits g c =
    let w = c.requires.flows in
    let more = flows-seen _ _ _ w.0 _ c.args.apart c.args.at _ _ _ _ w.1 _ _ w.2 w.3 _ c.in-Some.seen
    c.events.invariant.reads c.in-Some.ensures.goes (c.events.invariant.flows w.0 w.1 w.2 w.3 w.4) in
    flows-may_come _ _ _ _ _ _ _ _ _ _ _ _ _ c.in-Some.seen
    (record {
      stays = g.met.R.EventReader.stays c.args.reader.now;
      ends = g.met.R.EventReader.ends c.args.reader.now;
      suits = g.met.R.EventReader.suits c.args.reader.now;
    })
    (λ puts stands. g.met.W.EventWriter.open_now c.events.writer puts stands) more.2

pub returns-then-not-put_seen-clause-left : goal.returns-then-not-put_seen-clause-left
returns-then-not-put_seen-clause-left g c = λ moments bytes puts base f.
    flows-step _ _ _ _ moments _ c.args.apart c.args.at _ _ _ _ _ _ bytes _ _ _ puts base _ _ c.in-Some.seen
    c.events.invariant.reads c.events.invariant.writes c.moment-now.ensures (c.if-not-may_stand.ensures refl)
    c.in-Some.ensures.goes c.put_seen.ensures.put (c.events.invariant.flows moments bytes puts base f)

pub events-preserved : goal.events-preserved
events-preserved g c =
    record {
      reads = c.next.ensures.spec ∙ c.events.invariant.reads;
      writes = c.put_seen.ensures.spec ∙ c.events.invariant.writes;
      offset = c.next.ensures.end ∙ c.events.invariant.offset;
      room = subst (λ (s : Spec). array_vec_len c.put_seen.new.held + hop_room_of s ≤ 1024) c.events.invariant.writes
          (c.if-not-put_seen.ensures.room refl);
      later = omega (arith, c.in-Some.ensures.progress, c.events.invariant.later);
      flows = λ moments bytes puts base f.
          flows-empty _ _ moments _ c.args.apart c.args.at _ _ bytes _
          (g.R.EventReader.moment c.next.new.self c.args.moment) c.put_seen.new.run.now puts base _
          (c.if-not-put_seen.ensures.empty refl)
          (flows-step _ _ _ _ moments _ c.args.apart c.args.at _ _ _ _ _ _ bytes _ _ _ puts base _ _ c.in-Some.seen
          c.events.invariant.reads c.events.invariant.writes c.moment-now.ensures (c.if-not-may_stand.ensures refl)
          c.in-Some.ensures.goes c.put_seen.ensures.put (c.events.invariant.flows moments bytes puts base f));
    }

pub returns-clause-done : goal.returns-clause-done
returns-clause-done g c = λ moments bytes puts base f.
    flows-done _ _ _ moments _ c.args.apart c.args.at _ _ _ _ bytes _ _ puts base _ c.events.invariant.reads
    c.in_default.ensures.goes c.in_default.ensures.all_told c.in_default.ensures.none
    (c.events.invariant.flows moments bytes puts base f)
