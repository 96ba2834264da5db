use Rattle.std.proofs.Common.{◌≡◌, ◌+◌, ◌*◌, length}
use Rattle.mb_frames.specs.TapeReading.{tape_owed}
use Rattle.mb_migrate.proofs.PieceLemmas.{Going}
use Rattle.mb_migrate.proofs.migrate.migrate_piece.Given as goal

abbrev pub invariant-parts : goal.invariant-parts
invariant-parts g l =
    let K = g.K.Out in
    record {
      ready : K.ready l.out;
      sound : K.refusals l.out ≡ K.refusals l.initial.out;
      going : Going l.initial.tape l.tape l.piece l.rest l.held.items (λ given. K.took l.initial.out given l.out);
    }

abbrev pub decreases-parts : goal.decreases-parts
decreases-parts g l = 2 * length l.rest + tape_owed l.tape
