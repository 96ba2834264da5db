use Rattle.std.proofs.Common.{refl, sym, ◌∙◌, arith}
use Rattle.mb_rig.proofs.BayLemmas.{bay-breaks, bay-drained, bay-starts, comes-wrote, items-many, slice-passes, slice-suits}
use Rattle.mb_rig.proofs.BayLemmas.{told-by, told-low}
use Rattle.mb_rig.proofs.FrameLemmas.{bay-none, bay-then}
use Rattle.mb_rig.proofs.Merging.RoomLemmas.{offers-some}
use Rattle.mb_rig.proofs.bay.Bay.drain.Goals as goal

pub marks-init : goal.marks-init
marks-init g c =
    let D = g.D.Desk in
    record {
      comes = λ s before first links play x st offers.
          bay-starts D.tells D.contents s before first c.args.self.now c.args.desk.now links play x st offers;
      wrote = λ s before first links play st. bay-none D.tells D.contents first _ c.args.desk.now;
      greatest = refl;
      outs = refl;
      reads = refl;
      writes = refl;
    }

pub bounds-self-from : goal.bounds-self-from
bounds-self-from g c =
    let D = g.D.Desk in
    let r = c.requires.stands in
    let x = offers-some c.args.self.now.router in
    let comes = c.marks.invariant.comes r.0 r.1 r.2 r.3 r.4 x.0 r.5 x.1 in
    let low = told-low D.tells D.contents r.0 r.1 r.2 c.marks.self _ c.marks.desk comes.links_now comes.play
    c.in-Some.passed comes.stands (told-by c.marks.self c.in-Some.passed c.next_passed.new.self c.from.result
    (sym c.in-Some.ensures.passed) c.in-Some.ensures.state c.from.ensures) c.in-Some.ensures.source in
    let same = c.from.ensures in omega (arith, low, same)

pub pass-requires-clause-stand : goal.pass-requires-clause-stand
pass-requires-clause-stand g c =
    let D = g.D.Desk in
    let r = c.requires.stands in
    let x = offers-some c.args.self.now.router in
    let comes = c.marks.invariant.comes r.0 r.1 r.2 r.3 r.4 x.0 r.5 x.1 in
    (slice-suits D.tells D.contents r.0 r.1 r.2 c.marks.self _ c.marks.desk comes.links_now comes.play
    c.in-Some.passed c.outs_of-goes.result.now c.as_mut_slice.result.now comes.stands
    (told-by c.marks.self c.in-Some.passed c.next_passed.new.self c.from.result (sym c.in-Some.ensures.passed)
    c.in-Some.ensures.state c.from.ensures) c.in-Some.ensures.source c.outs_of-goes.ensures
    c.as_mut_slice.ensures.value).0

pub pass-requires-clause-suits : goal.pass-requires-clause-suits
pass-requires-clause-suits g c =
    let D = g.D.Desk in
    let r = c.requires.stands in
    let x = offers-some c.args.self.now.router in
    let comes = c.marks.invariant.comes r.0 r.1 r.2 r.3 r.4 x.0 r.5 x.1 in
    (slice-suits D.tells D.contents r.0 r.1 r.2 c.marks.self _ c.marks.desk comes.links_now comes.play
    c.in-Some.passed c.outs_of-goes.result.now c.as_mut_slice.result.now comes.stands
    (told-by c.marks.self c.in-Some.passed c.next_passed.new.self c.from.result (sym c.in-Some.ensures.passed)
    c.in-Some.ensures.state c.from.ensures) c.in-Some.ensures.source c.outs_of-goes.ensures
    c.as_mut_slice.ensures.value).1

pub returns-in-Err-clause-wrote : goal.returns-in-Err-clause-wrote
returns-in-Err-clause-wrote g c = λ s before first links play st.
    let D = g.D.Desk in
    let x = offers-some c.args.self.now.router in
    let comes = c.marks.invariant.comes s before first links play x.0 st x.1 in
    bay-then D.tells D.contents first _ c.args.desk.now c.marks.desk c.pass.new.desk
    (c.marks.invariant.wrote s before first links play st)
    (comes-wrote D.tells D.contents s before first c.args.self.now c.marks.self c.marks.desk c.pass.new.desk links x.0
    c.as_mut_slice.result.now comes c.as_mut_slice.ensures.value c.marks.invariant.outs c.pass.ensures.wrote)

pub marks-preserved : goal.marks-preserved
marks-preserved g c =
    let D = g.D.Desk in
    let told = told-by c.marks.self c.in-Some.passed c.next_passed.new.self c.from.result
    (sym c.in-Some.ensures.passed) c.in-Some.ensures.state c.from.ensures in
    let specs = c.pass.ensures.specs in
    record {
      comes = λ s before first links play x st offers.
          slice-passes D.tells D.contents D.read_faults s before first c.args.self.now c.marks.self _ _ c.marks.desk
          c.pass.new.desk links x c.in-Some.passed c.outs_of-goes.result.now c.as_mut_slice.result.now
          c.pass.new.outs (c.marks.invariant.comes s before first links play x st offers) told
          c.in-Some.ensures.source c.outs_of-goes.ensures refl refl refl c.as_mut_slice.ensures.value refl specs
          (λ f putss low outs. c.in_default-pass.ensures.stand f putss low outs)
          (λ f putss outs. c.in_default-pass.ensures.passed f putss outs);
      wrote = λ s before first links play st.
          let x = offers-some c.args.self.now.router in
          bay-then D.tells D.contents first _ c.args.desk.now c.marks.desk c.pass.new.desk
          (c.marks.invariant.wrote s before first links play st)
          (comes-wrote D.tells D.contents s before first c.args.self.now c.marks.self c.marks.desk c.pass.new.desk
          links x.0 c.as_mut_slice.result.now
          (c.marks.invariant.comes s before first links play x.0 st x.1) c.as_mut_slice.ensures.value
          c.marks.invariant.outs c.pass.ensures.wrote);
      greatest = c.marks.invariant.greatest;
      outs = items-many c.marks.self.outs c.pass.new.outs c.as_mut_slice.result.now specs
          c.as_mut_slice.ensures.value ∙ c.marks.invariant.outs;
      reads = c.pass.ensures.read_faults ∙ c.marks.invariant.reads;
      writes = c.in_default-pass.ensures.sound ∙ c.marks.invariant.writes;
    }

pub returns-clause-goes : goal.returns-clause-goes
returns-clause-goes g c = λ s before first links play x st offers.
    let D = g.D.Desk in
    bay-drained D.tells D.contents s before first c.args.self.now c.marks.self _ c.marks.desk links x
    (c.marks.invariant.comes s before first links play x st offers) (sym c.in_default.ensures.passed)
    c.in_default.ensures.state refl refl refl

pub returns-in-Err-clause-broke : goal.returns-in-Err-clause-broke
returns-in-Err-clause-broke g c = λ s before first links play x st offers.
    let D = g.D.Desk in
    let told = told-by c.marks.self c.in-Some.passed c.next_passed.new.self c.from.result
    (sym c.in-Some.ensures.passed) c.in-Some.ensures.state c.from.ensures in
    bay-breaks D.tells D.contents s before first c.args.self.now c.marks.self _ c.marks.desk c.pass.new.desk links x
    c.in-Some.passed c.as_mut_slice.result.now (c.marks.invariant.comes s before first links play x st offers) told
    c.as_mut_slice.ensures.value (λ f putss low outs. c.in-Err.ensures.part f putss low outs)
