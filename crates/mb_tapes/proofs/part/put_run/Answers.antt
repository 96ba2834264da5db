use Rattle.std.proofs.Common.{◌≡◌, ◌∷◌, ◌∙◌, rules}
use Rattle.mb_tapes.proofs.PlayingLemmas.{run-refused, run-step}
use Rattle.mb_tapes.proofs.part.put_run.Goals as goal

pub returns-in-Err-clause-err : goal.returns-in-Err-clause-err
returns-in-Err-clause-err g c =
    let e : c.bytes.rest.now ≡ c.in-Some.byte.now ∷ c.in-Some.others.now = search (rules, c.in-Some.ensures.cases) in
    run-refused c.args.gather.now c.bytes.gather c.args.moment c.in-Some.byte.now c.args.bytes.now c.bytes.rest.now
    c.in-Some.others.now c.args.held.now.items c.bytes.held.items (λ x. g.K.Out.took c.args.out.now x c.bytes.out)
    (λ x. g.K.Out.took c.bytes.out x c.put_byte.new.out) (λ x. g.K.Out.took c.args.out.now x c.put_byte.new.out)
    (λ x y. g.met.K.Out.both _ _ _ x y) e c.bytes.invariant.gone c.in-Err.ensures.err

pub bytes-preserved : goal.bytes-preserved
bytes-preserved g c =
    let e : c.bytes.rest.now ≡ c.in-Some.byte.now ∷ c.in-Some.others.now = search (rules, c.in-Some.ensures.cases) in
    record {
      ready = c.put_byte.ensures.ready;
      sound = c.in_default-put_byte.ensures.sound ∙ c.bytes.invariant.sound;
      gone =
          run-step c.args.gather.now c.bytes.gather c.put_byte.new.gather c.args.moment c.in-Some.byte.now
          c.args.bytes.now c.bytes.rest.now c.in-Some.others.now c.args.held.now.items c.bytes.held.items
          c.put_byte.new.held.items (λ x. g.K.Out.took c.args.out.now x c.bytes.out)
          (λ x. g.K.Out.took c.bytes.out x c.put_byte.new.out)
          (λ x. g.K.Out.took c.args.out.now x c.put_byte.new.out) (λ x y. g.met.K.Out.both _ _ _ x y) e
          c.bytes.invariant.gone c.in_default-put_byte.ensures.ok;
    }
