use Rattle.std.proofs.Common.{◌≡◌, ◌+◌, ◌*◌, length}
use Rattle.mb_carrier.proofs.ListLemmas.{Listing}
use Rattle.mb_carrier.proofs.list_steps.list_piece.Given as goal

abbrev pub invariant-events : goal.invariant-events
invariant-events g l =
    let R = g.R.EventReader in
    let K = g.K.Out in
    record {
      reads : R.spec l.reader ≡ R.spec l.initial.reader;
      offset : R.offset l.reader + length l.rest ≡ R.offset l.initial.reader + length l.piece;
      ready : K.ready l.out;
      sound : K.refusals l.out ≡ K.refusals l.initial.out;
      listing : Listing (R.spec l.initial.reader) l.traced (R.stands l.initial.reader)
          (R.stands l.reader) l.initial.noted l.noted l.piece l.rest l.held.items
          (λ given. K.took l.initial.out given l.out);
    }

abbrev pub decreases-events : goal.decreases-events
decreases-events g l = 2 * length l.rest + g.R.EventReader.owed l.reader
