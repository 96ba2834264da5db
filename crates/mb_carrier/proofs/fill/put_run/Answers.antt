use Rattle.std.proofs.Common.{ℕ, ◌+◌, ◌≤◌, List, ◌∙◌, map, refl, subst, arith}
use Rattle.arrayvec.specs.ArrayVec.{array_vec_len}
use Rattle.mb_message.specs.Signs.{ByteSign}
use Rattle.mb_carrier.specs.Carrier.{hop_room_of}
use Rattle.mb_carrier.specs.Hop.{MayCome}
use Rattle.mb_carrier.specs.declared.spec.Spec.{Spec}
use Rattle.mb_carrier.proofs.FillLemmas.{put_some-more, may_come-back, cut_at}
use Rattle.mb_carrier.proofs.fill.put_run.Goals as goal

pub returns-then-not-put_one-clause-put : goal.returns-then-not-put_one-clause-put
returns-then-not-put_one-clause-put g c =
    put_some-more _ _ _ _ _ _ _ _ c.split_at.result.0.now _ _ _ _ c.pieces.invariant.spec c.pieces.invariant.put
    (cut_at c.min.result _ _ _ c.split_at.ensures.front c.split_at.ensures.back) c.put_one.ensures.put

pub pieces-preserved : goal.pieces-preserved
pieces-preserved g c =
    record {
      spec = c.put_one.ensures.spec ∙ c.pieces.invariant.spec;
      in_sysex = c.put_one.ensures.in_sysex ∙ c.pieces.invariant.in_sysex;
      room = subst (λ (s : Spec). array_vec_len c.put_one.new.held + hop_room_of s ≤ 1024) c.pieces.invariant.spec
          (c.if-not-put_one.ensures.room refl);
      suits =
          may_come-back (g.W.EventWriter.in_sysex c.args.writer.now) c.split_at.result.0.now c.split_at.result.1.now
          (subst (λ (xs : List ℕ). MayCome (g.W.EventWriter.in_sysex c.args.writer.now) (map ByteSign xs))
          (cut_at c.min.result _ _ _ c.split_at.ensures.front c.split_at.ensures.back) c.pieces.invariant.suits);
      put =
          put_some-more _ _ _ _ _ _ _ _ c.split_at.result.0.now _ _ _ _ c.pieces.invariant.spec c.pieces.invariant.put
          (cut_at c.min.result _ _ _ c.split_at.ensures.front c.split_at.ensures.back) c.put_one.ensures.put;
      fewer = omega (arith, c.split_at.ensures.back_len, c.pieces.invariant.fewer);
    }
