use Rattle.std.proofs.Common.{◌≡◌, ℕ, ◌+◌, ◌*◌, ◌≤◌, List, [], length}
use Rattle.arrayvec.specs.ArrayVec.{array_vec_len}
use Rattle.mb_stream.specs.Puts.{Put}
use Rattle.mb_carrier.specs.Carrier.{hop_room_of}
use Rattle.mb_carrier.specs.Fill.{Flows}
use Rattle.mb_carrier.proofs.FillLemmas.{FlowsMore}
use Rattle.mb_carrier.proofs.fill.read_on.Given as goal

-- what was read so far was put
abbrev pub invariant-events : goal.invariant-events
invariant-events g l =
    let R = g.R.EventReader in
    let W = g.W.EventWriter in
    record {
      reads : R.spec l.reader ≡ R.spec l.initial.reader;
      writes : W.spec l.writer ≡ W.spec l.initial.writer;
      offset : R.offset l.reader + length l.rest.now ≡ R.offset l.initial.reader + length l.initial.rest.now;
      room : array_vec_len l.held + hop_room_of (W.spec l.initial.writer) ≤ 1024;
      later : 2 * length l.rest.now + R.owed l.reader ≤ 2 * length l.initial.rest.now + R.owed l.initial.reader;
      flows : (moments : ℕ → ℕ) (bytes : List ℕ) (puts : List Put) (base : List ℕ) →
          Flows (R.spec l.initial.reader) (W.spec l.initial.writer) moments l.moment (R.stands l.initial.reader)
          (W.stands l.initial.writer) bytes l.initial.rest.now [] puts base l.initial.held.items →
          FlowsMore (R.spec l.initial.reader) (W.spec l.initial.writer) moments l.moment l.apart l.at
          (R.stands l.reader) (W.stands l.writer) bytes l.rest.now [] puts base l.held.items;
    }

abbrev pub decreases-events : goal.decreases-events
decreases-events g l = 2 * length l.rest.now + g.R.EventReader.owed l.reader
