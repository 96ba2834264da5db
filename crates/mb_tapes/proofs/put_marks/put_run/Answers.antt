use Rattle.std.proofs.Common.{◌≡◌, ◌∷◌, rules}
use Rattle.mb_tapes.proofs.RecordingLemmas.{run-put-follows, run-put-refused, run-put-step}
use Rattle.mb_tapes.proofs.put_marks.put_run.Goals as goal

pub put_mark-requires-clause-follows : goal.put_mark-requires-clause-follows
put_mark-requires-clause-follows c =
    let e : c.bytes.rest.now ≡ c.in-Some.byte.now ∷ c.in-Some.others.now = search (rules, c.in-Some.ensures.cases) in
    run-put-follows c.args.file.now c.bytes.file c.args.moment c.in-Some.byte.now c.args.bytes.now c.bytes.rest.now
    c.in-Some.others.now e c.bytes.invariant.run c.requires.follows

pub returns-in-Err-clause-full : goal.returns-in-Err-clause-full
returns-in-Err-clause-full c =
    let e : c.bytes.rest.now ≡ c.in-Some.byte.now ∷ c.in-Some.others.now = search (rules, c.in-Some.ensures.cases) in
    run-put-refused c.args.file.now c.bytes.file c.args.moment c.in-Some.byte.now c.args.bytes.now c.bytes.rest.now
    c.in-Some.others.now c.in-Err.full e c.bytes.invariant.run c.in-Err.ensures.full

pub bytes-preserved : goal.bytes-preserved
bytes-preserved c =
    let e : c.bytes.rest.now ≡ c.in-Some.byte.now ∷ c.in-Some.others.now = search (rules, c.in-Some.ensures.cases) in
    record {
      run =
          run-put-step c.args.file.now c.bytes.file c.put_mark.new.file c.args.moment c.in-Some.byte.now
          c.args.bytes.now c.bytes.rest.now c.in-Some.others.now e c.bytes.invariant.run
          c.in_default-put_mark.ensures.writes;
      order = c.in_default-put_mark.ensures.moment;
      short = c.in_default-put_mark.ensures.short;
    }
