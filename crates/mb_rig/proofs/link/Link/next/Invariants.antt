use Rattle.std.proofs.Common.{◌≡◌, ◌≤◌, ◌+◌, ◌-◌, ◌*◌, false, List, length, IsTrue}
use Rattle.mb_stream.specs.Puts.{Put}
use Rattle.mb_track.specs.TrackReading.{track_moment, track_of, track_spec}
use Rattle.mb_rig.specs.Link.{LinkStands, TookFrom, link_work}
use Rattle.mb_rig.proofs.link.Link.next.Given as goal

abbrev pub invariant-bytes : goal.invariant-bytes
invariant-bytes g l =
    let D = g.D.Desk in
    record {
      reading : l.self.over ≡ false;
      handle : l.self.supply.handle ≡ l.fn.self.supply.handle;
      limit : l.self.supply.limit ≡ l.fn.self.supply.limit;
      spec : track_spec l.self.reader ≡ track_spec l.fn.self.reader;
      track : track_of l.self.reader ≡ track_of l.fn.self.reader;
      moment : track_moment l.self.reader ≡ track_moment l.fn.self.reader;
      less : link_work l.self ≤ link_work l.fn.self;
      told : (told : List Put) → LinkStands D.tells D.contents l.fn.self l.fn.desk told →
          LinkStands D.tells D.contents l.self l.desk told;
      took : IsTrue D.tells → TookFrom l.fn.self.supply.handle (D.contents l.fn.desk) (D.contents l.desk);
      reads : D.read_faults l.desk ≡ D.read_faults l.fn.desk;
      writes : D.write_faults l.desk ≡ D.write_faults l.fn.desk;
    }

abbrev pub decreases-bytes : goal.decreases-bytes
decreases-bytes g l = 2 * (l.self.supply.limit - l.self.supply.count) + length l.self.supply.ahead
