use Rattle.std.proofs.Common.{◌≡◌, ◌+◌, ◌*◌, ◌≤◌, length}
use Rattle.mb_smf.specs.SmfReading.{smf_owed}
use Rattle.mb_tapes.proofs.PlayingLemmas.{Going}
use Rattle.mb_tapes.proofs.playing.Playing.read.Given as goal

abbrev pub invariant-parts : goal.invariant-parts
invariant-parts g l =
    let K = g.K.Out in
    record {
      ready : K.ready l.out;
      sound : K.refusals l.out ≡ K.refusals l.initial.out;
      end : l.self.file.file.offset + length l.rest ≤ l.initial.self.file.file.offset + length l.piece;
      begun : l.self.begun ≡ l.initial.self.begun;
      going : Going l.initial.self.file l.self.file l.initial.self.gather l.self.gather l.piece l.rest
          l.initial.held.items l.held.items (λ given. K.took l.initial.out given l.out);
    }

abbrev pub decreases-parts : goal.decreases-parts
decreases-parts g l = 2 * length l.rest + smf_owed l.self.file.owed
