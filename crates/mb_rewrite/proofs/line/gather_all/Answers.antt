use Rattle.std.proofs.Common.{◌≡◌, ◌∷◌, List, map, ap, subst, sym, ◌∙◌}
use Rattle.mb_frames.specs.Gathered.{TimedByte}
use Rattle.mb_rewrite.specs.LineTape.{byte_at}
use Rattle.mb_rewrite.proofs.LineLemmas.{Gathering, gathering-byte, gathering-refused}
use Rattle.mb_rewrite.proofs.line.gather_all.Goals as goal

pub returns-in-Err-clause-err : goal.returns-in-Err-clause-err
returns-in-Err-clause-err g c =
    gathering-refused c.args.gather.now c.bytes.gather (map (byte_at c.args.moment) c.args.bytes.now)
    (map (byte_at c.args.moment) c.bytes.rest.now) c.args.held.now.items c.bytes.held.items
    (λ x. g.K.Out.took c.args.out.now x c.bytes.out) (λ x. g.K.Out.took c.bytes.out x c.make_place.new.out)
    (λ x. g.K.Out.took c.args.out.now x c.make_place.new.out) (λ x y. g.met.K.Out.both _ _ _ x y)
    c.bytes.invariant.gathers c.in-Err.ensures.err

pub bytes-preserved : goal.bytes-preserved
bytes-preserved g c = record {
  ready = c.make_place.ensures.ready;
  sound = c.in_default-make_place.ensures.sound ∙ c.bytes.invariant.sound;
  gathers =
      subst (λ p. Gathering c.args.gather.now p (map (byte_at c.args.moment) c.args.bytes.now)
      (map (byte_at c.args.moment) c.take_byte.new.rest.now) c.args.held.now.items c.put.new.out.items
      (λ x. g.K.Out.took c.args.out.now x c.make_place.new.out)) (sym c.put.ensures.piece)
      (gathering-byte c.args.gather.now c.bytes.gather (map (byte_at c.args.moment) c.args.bytes.now)
      (map (byte_at c.args.moment) c.take_byte.new.rest.now) (byte_at c.args.moment c.in-Some.byte)
      c.args.held.now.items c.bytes.held.items c.make_place.new.held.items c.put.new.out.items
      (λ x. g.K.Out.took c.args.out.now x c.bytes.out) (λ x. g.K.Out.took c.bytes.out x c.make_place.new.out)
      (λ x. g.K.Out.took c.args.out.now x c.make_place.new.out) (λ x y. g.met.K.Out.both _ _ _ x y)
      (subst (λ (ts : List TimedByte). Gathering c.args.gather.now c.bytes.gather
      (map (byte_at c.args.moment) c.args.bytes.now) ts c.args.held.now.items c.bytes.held.items
      (λ x. g.K.Out.took c.args.out.now x c.bytes.out)) (ap (map (byte_at c.args.moment)) c.in-Some.ensures.some)
      c.bytes.invariant.gathers) c.in_default-make_place.ensures.ok c.put.ensures.written);
}
