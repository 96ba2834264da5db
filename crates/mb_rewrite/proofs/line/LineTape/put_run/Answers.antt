use Rattle.std.proofs.Common.{◌≡◌, ◌++◌, Bool, List, drop, map, refl, sym, ap, ◌∙◌, subst, take}
use Rattle.std.proofs.lemmas.List.{take-append-drop}
use Rattle.mb_message.specs.Signs.{ByteSign, suits_sign}
use Rattle.mb_rewrite.proofs.LineLemmas.{run-halted, run-none, run-then, suits-behind}
use Rattle.mb_rewrite.proofs.line.LineTape.put_run.Goals as goal

pub runs-init : goal.runs-init
runs-init g c = record {
  ready = c.requires.ready;
  sound = refl;
  in_sysex = refl;
  suits = c.requires.suits;
  wrote =
      run-none c.args.self.now c.args.moment c.args.bytes.now c.args.held.now.items
      (λ x. g.K.Out.took c.args.out.now x c.args.out.now) (g.met.K.Out.nothing c.args.out.now);
}

pub returns-in-Err-clause-err : goal.returns-in-Err-clause-err
returns-in-Err-clause-err g c =
    run-halted c.args.self.now c.runs.self c.args.moment c.args.bytes.now c.runs.rest.now c.split_at.result.0.now
    c.split_at.result.1.now c.args.held.now.items c.runs.held.items (λ x. g.K.Out.took c.args.out.now x c.runs.out)
    (λ x. g.K.Out.took c.runs.out x c.put_one.new.out) (λ x. g.K.Out.took c.args.out.now x c.put_one.new.out)
    (λ x y. g.met.K.Out.both _ _ _ x y) c.runs.invariant.wrote
    (sym (take-append-drop c.min.result c.runs.rest.now)
    ∙ (ap (λ xs. xs ++ drop c.min.result c.runs.rest.now) (sym c.split_at.ensures.front)
    ∙ ap (λ xs. c.split_at.result.0.now ++ xs) (sym c.split_at.ensures.back))) c.in-Err.ensures.err

pub runs-preserved : goal.runs-preserved
runs-preserved g c =
    let split : c.runs.rest.now ≡ c.split_at.result.0.now ++ c.split_at.result.1.now
    = sym (take-append-drop c.min.result c.runs.rest.now)
    ∙ (ap (λ xs. xs ++ drop c.min.result c.runs.rest.now) (sym c.split_at.ensures.front)
    ∙ ap (λ xs. c.split_at.result.0.now ++ xs) (sym c.split_at.ensures.back)) in
    record {
      ready = c.put_one.ensures.ready;
      sound = c.in_default.ensures.sound ∙ c.runs.invariant.sound;
      in_sysex = c.put_one.ensures.in_sysex ∙ c.runs.invariant.in_sysex;
      suits =
          suits-behind c.put_one.new.self.writer.in_sysex c.runs.self.writer.in_sysex c.runs.rest.now
          c.split_at.result.0.now c.split_at.result.1.now c.put_one.ensures.in_sysex split c.runs.invariant.suits;
      wrote =
          run-then c.args.self.now c.runs.self c.put_one.new.self c.args.moment c.args.bytes.now c.runs.rest.now
          c.split_at.result.0.now c.split_at.result.1.now c.args.held.now.items c.runs.held.items
          c.put_one.new.held.items (λ x. g.K.Out.took c.args.out.now x c.runs.out)
          (λ x. g.K.Out.took c.runs.out x c.put_one.new.out)
          (λ x. g.K.Out.took c.args.out.now x c.put_one.new.out) (λ x y. g.met.K.Out.both _ _ _ x y)
          c.runs.invariant.wrote split c.in_default.ensures.ok;
    }
