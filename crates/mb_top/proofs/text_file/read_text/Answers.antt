use Rattle.std.proofs.Common.{◌∙◌, refl, arith}
use Rattle.std.proofs.lemmas.Grind.{common_steps}
use Rattle.mb_top.proofs.StreamLemmas.{piece-is}
use Rattle.mb_top.proofs.TextFileLemmas.{text-next, text-none}
use Rattle.mb_top.proofs.text_file.read_text.Goals as goal

pub pieces-init : goal.pieces-init
pieces-init g c =
    record {
      reads_same = refl;
      writes_same = refl;
      told = λ tells. text-none _ _ _ c.requires.empty;
    }

pub pieces-preserved : goal.pieces-preserved
pieces-preserved g c =
    let inv = c.pieces.invariant in
    let extend = c.try_extend_from_slice-fits in
    record {
      reads_same = c.in-Ok.ensures.sound ∙ inv.reads_same;
      writes_same = c.read.ensures.write_faults ∙ inv.writes_same;
      told = λ tells.
          text-next extend.result _ _ _ _ _ _ _ _ _ c.in-Ok.count g.row.N extend.ensures.variant extend.ensures.ok
          (grind (arith, common_steps)) (inv.told tells) (c.in-Ok.ensures.contents tells)
          (piece-is _ _ c.in-Ok.count c.in-Ok.ensures.bound);
    }
