use Rattle.std.proofs.Common.{◌≡◌, ◌+◌, ◌*◌, length}
use Rattle.mb_track.specs.TrackReading.{track_owed}
use Rattle.mb_rewrite.specs.Filtering.{MapsBehind, filtering_rules}
use Rattle.mb_rewrite.proofs.FeedLemmas.{Feeding}
use Rattle.mb_rewrite.proofs.FilterLemmas.{before_of}
use Rattle.mb_rewrite.proofs.filtering.Filtering.feed.Given as goal

abbrev pub invariant-steps : goal.invariant-steps
invariant-steps g l =
    let K = g.K.Out in
    record {
      ready : K.ready l.out;
      sound : K.refusals l.out ≡ K.refusals l.fn.out;
      rules : filtering_rules l.self ≡ filtering_rules l.fn.self;
      feeding : Feeding (before_of l.fn.self) (MapsBehind l.self.mapper) l.self.track l.self.line l.piece l.rest
          l.held.items (λ given. K.took l.fn.out given l.out);
    }

abbrev pub decreases-steps : goal.decreases-steps
decreases-steps g l = 8 * length l.rest + track_owed l.self.track
