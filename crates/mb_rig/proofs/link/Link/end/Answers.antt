use Rattle.std.proofs.Common.{ap, arith, length}
use Rattle.std.proofs.lemmas.List.{length-map}
use Rattle.mb_message.specs.Signs.{signs_of_event}
use Rattle.mb_stream.specs.Puts.{At}
use Rattle.mb_track.specs.TrackReading.{track_moment, track_of, track_spec}
use Rattle.mb_rig.proofs.LinkLemmas.{few-track_end}
use Rattle.mb_rig.proofs.link.Link.end.Goals as goal

pub mark_of-requires : goal.mark_of-requires
mark_of-requires c =
    let r = c.args.self.now.reader in
    omega (
      arith,
      length-map (signs_of_event c.in-Some.ev) (At (track_moment r)),
      ap length (c.in-Some.ensures.told c.requires.0 c.requires.1),
      few-track_end (track_spec r) (track_of r) c.requires.0,
    )
