-- What a tape's records hold, and what a track of it denotes: the words in which a tape that was written is compared
-- with marks.
--
--   recorded records          the bytes of records, each at its record's moment
--   AreMoments puts           the marks' moments don't fall, and eight bytes hold them
--   track_den s track tape    what a tape denotes on a port of its track
use Rattle.std.specs.Prelude.{ℕ, ◌^◌, ◌<◌, List, map, flat_map}
use Rattle.mb_stream.specs.Denotation.{Denotation}
use Rattle.mb_stream.specs.Puts.{Put, last_put}
use Rattle.mb_frames.specs.Gathered.{TimedByte}
use Rattle.mb_frames.specs.Tapes.{Record}
use Rattle.mb_ble.specs.Distances.{IsRising}
use Rattle.mb_carrier.specs.Carrier.{den}
use Rattle.mb_carrier.specs.declared.spec.Spec.{Spec}
use Rattle.mb_track.specs.Track.{recording, track_records}
use Rattle.mb_rewrite.specs.LineTape.{byte_at}

abbrev pub recorded : List Record → List TimedByte
recorded rs = flat_map (λ r. map (byte_at r.moment) r.bytes) rs

abbrev pub AreMoments : List Put → Type 0
AreMoments puts = IsRising 0 puts × (last_put 0 puts < 2 ^ 64)

abbrev pub track_den : Spec → (track : ℕ) → (tape : List ℕ) → Denotation
track_den s track tape = den s (recording track (track_records tape))
