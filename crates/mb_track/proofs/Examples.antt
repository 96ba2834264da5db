-- One track of small tapes, computed.
use Rattle.std.proofs.Common.{◌≡◌, ℕ, true, false, List, [], ◌∷◌, ◌++◌, take, refl}
use Rattle.mb_message.specs.Signs.{AbortSign, ByteSign, OpenSign, RtSign, ShortSign}
use Rattle.mb_stream.specs.Puts.{At}
use Rattle.mb_frames.specs.Tapes.{header, tape}
use Rattle.mb_carrier.specs.declared.spec.Spec.TheVariants.{Din, Usb}
use Rattle.mb_track.specs.Track.{last_record_moment, recording, track_marks, track_marks_so_far, track_records}
use Rattle.mb_track.specs.Track.{track_whole}

-- a message that a record's end cuts, a record of another track between its halves, and an open SysEx at the end
abbrev two_tracks : List ℕ
two_tracks = tape true (
    (record { moment = 5; track = 0; bytes = 0x90 ∷ 0x3c ∷ [] })
    ∷ (record { moment = 7; track = 1; bytes = 0xf8 ∷ [] })
    ∷ (record { moment = 9; track = 0; bytes = 0x64 ∷ 0xf0 ∷ 0x01 ∷ [] })
    ∷ [])

first_track : track_marks Din 0 two_tracks ≡
    At 9 (ShortSign 0x90 0x3c 0x64) ∷ At 9 OpenSign ∷ At 9 (ByteSign 0x01) ∷ At 9 AbortSign ∷ []
first_track = refl

first_so_far : track_marks_so_far Din 0 two_tracks ≡
    At 9 (ShortSign 0x90 0x3c 0x64) ∷ At 9 OpenSign ∷ At 9 (ByteSign 0x01) ∷ []
first_so_far = refl

second_track : track_marks Din 1 two_tracks ≡ At 7 (RtSign 0xf8) ∷ []
second_track = refl

its_recording : recording 0 (track_records two_tracks) ≡ 0x90 ∷ 0x3c ∷ 0x64 ∷ 0xf0 ∷ 0x01 ∷ []
its_recording = refl

-- the end part has the moment of the last header that stands whole, of whatever track; of the last record two bytes
-- stand, and behind it nothing
abbrev unfinished : List ℕ
unfinished = tape true ((record { moment = 5; track = 0; bytes = 0xf0 ∷ 0x01 ∷ [] }) ∷ [])
    ++ (header true 8 1 3 ++ 0xf8 ∷ [])

its_marks : track_marks Din 0 unfinished ≡ At 5 OpenSign ∷ At 5 (ByteSign 0x01) ∷ At 8 AbortSign ∷ []
its_marks = refl

its_end : track_whole Din 0 unfinished ≡ false
its_end = refl

-- a header that stands in part counts for nothing
abbrev part_of_a_header : List ℕ
part_of_a_header = tape true ((record { moment = 5; track = 0; bytes = 0xf0 ∷ [] }) ∷ []) ++ take 10 (header true 8 0 3)

its_last_moment : last_record_moment (track_records part_of_a_header) ≡ 5
its_last_moment = refl

-- milliseconds as microseconds
milliseconds : track_marks Din 0 (tape false ((record { moment = 5; track = 0; bytes = 0xf8 ∷ [] }) ∷ [])) ≡
    At 5000 (RtSign 0xf8) ∷ []
milliseconds = refl

-- a packet that stops half way, though each record is whole
abbrev half_a_packet : List ℕ
half_a_packet = tape true ((record { moment = 0; track = 0; bytes = 0x09 ∷ 0x90 ∷ [] }) ∷ [])

half_is_not_whole : track_whole (Usb 0) 0 half_a_packet ≡ false
half_is_not_whole = refl

-- behind a fault nothing is read
behind_a_fault : track_marks Din 0 (tape true (
    (record { moment = 5; track = 0; bytes = 0xf8 ∷ [] })
    ∷ (record { moment = 4; track = 0; bytes = 0xfa ∷ [] })
    ∷ [])) ≡ At 5 (RtSign 0xf8) ∷ []
behind_a_fault = refl
