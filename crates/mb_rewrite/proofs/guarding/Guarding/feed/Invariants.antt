use Rattle.std.proofs.Common.{◌≡◌, ◌+◌, ◌*◌, length}
use Rattle.mb_guard.specs.Guard.{Stands}
use Rattle.mb_track.specs.TrackReading.{track_owed}
use Rattle.mb_rewrite.proofs.FeedLemmas.{Feeding}
use Rattle.mb_rewrite.proofs.GuardLemmas.{before_of}
use Rattle.mb_rewrite.proofs.guarding.Guarding.feed.Given as goal

abbrev pub invariant-steps : goal.invariant-steps
invariant-steps g l =
    let K = g.K.Out in
    record {
      ready : K.ready l.out;
      sound : K.refusals l.out ≡ K.refusals l.fn.out;
      feeding : Feeding (before_of l.fn.self) (Stands l.self.guard) l.self.track l.self.line l.piece l.rest
          l.held.items (λ given. K.took l.fn.out given l.out);
    }

abbrev pub decreases-steps : goal.decreases-steps
decreases-steps g l = 8 * length l.rest + track_owed l.self.track
