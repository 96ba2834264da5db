-- The definitions compute.
use Rattle.std.proofs.Common.{◌≡◌, ℕ, true, false, List, [], ◌∷◌, ◌++◌, Some, None, refl}
use Rattle.mb_message.specs.Signs.{ShortSign, RtSign, OpenSign, ByteSign, EndSign}
use Rattle.mb_stream.specs.Puts.{Put, At, Flush}
use Rattle.mb_frames.specs.Gathered.{gathered}
use Rattle.mb_smf.specs.declared.fault.SmfWhy.TheVariants as why
use Rattle.mb_smf.specs.Smf.{given_at, smf, smf_ended}
use Rattle.mb_smf.specs.SmfEvents.{ChannelEvent, RunningEvent, midi_file, plain_file, quantity}
use Rattle.mb_smf.specs.SmfWritten.{comes_late, smf_written}

abbrev a_header : (high low : ℕ) → List ℕ
a_header high low = 0x4d ∷ 0x54 ∷ 0x68 ∷ 0x64 ∷ 0 ∷ 0 ∷ 0 ∷ 6 ∷ 0 ∷ 0 ∷ 0 ∷ 1 ∷ high ∷ low ∷ []

abbrev a_chunk : ℕ → List ℕ
a_chunk len = 0x4d ∷ 0x54 ∷ 0x72 ∷ 0x6b ∷ 0 ∷ 0 ∷ 0 ∷ len ∷ []

abbrev an_end : List ℕ
an_end = 0 ∷ 0xff ∷ 0x2f ∷ 0 ∷ []

abbrev a_note : List ℕ
a_note = 0x90 ∷ 0x3c ∷ 0x64 ∷ []

-- 96 ticks a quarter note and the tempo at first: running status is filled in
quarter_note_at_first : smf (a_header 0 0x60 ++ (a_chunk 11 ++ (0 ∷ a_note ++ (0x60 ∷ 0x3c ∷ 0 ∷ an_end)))) ≡
    record { given = given_at 0 a_note ++ given_at 500000 (0x90 ∷ 0x3c ∷ 0 ∷ []); fault = None }
quarter_note_at_first = refl

-- the same, as it is meant
file_as_meant : midi_file (plain_file 0x60 ((record { delta = 0; event = ChannelEvent 0x90 0x3c 0x64 }) ∷
    (record { delta = 0x60; event = RunningEvent 0x90 0x3c 0 }) ∷ []) 0) ≡
    a_header 0 0x60 ++ (a_chunk 11 ++ (0 ∷ a_note ++ (0x60 ∷ 0x3c ∷ 0 ∷ an_end)))
file_as_meant = refl

-- two tracks
another_format : smf (0x4d ∷ 0x54 ∷ 0x68 ∷ 0x64 ∷ 0 ∷ 0 ∷ 0 ∷ 6 ∷ 0 ∷ 1 ∷ 0 ∷ 2 ∷ []) ≡
    record { given = []; fault = Some (record { at = 11; why = why.Format }) }
another_format = refl

-- a header of five bytes: its length's last byte shows it
header_too_short : smf (0x4d ∷ 0x54 ∷ 0x68 ∷ 0x64 ∷ 0 ∷ 0 ∷ 0 ∷ 5 ∷ []) ≡
    record { given = []; fault = Some (record { at = 7; why = why.Header }) }
header_too_short = refl

-- frames of a second
division_in_frames : smf (a_header 0xe7 0x28) ≡
    record { given = []; fault = Some (record { at = 13; why = why.Division }) }
division_in_frames = refl

-- rounded down once over the sum: a third, two thirds and a whole microsecond
rounded_once : smf (a_header 0 3 ++ (a_chunk 23 ++ (0 ∷ 0xff ∷ 0x51 ∷ 3 ∷ 0 ∷ 0 ∷ 1 ∷
    1 ∷ 0xc0 ∷ 5 ∷ 1 ∷ 0xc0 ∷ 6 ∷ 1 ∷ 0xc0 ∷ 7 ∷ an_end))) ≡ record {
      given = given_at 0 (0xc0 ∷ 5 ∷ 0xc0 ∷ 6 ∷ []) ++ given_at 1 (0xc0 ∷ 7 ∷ []);
      fault = None;
    }
rounded_once = refl

-- a tempo counts for the deltas behind it
tempo_from_there_on : smf (a_header 0 1 ++ (a_chunk 19 ++ (0 ∷ 0xc0 ∷ 5 ∷ 1 ∷ 0xff ∷ 0x51 ∷ 3 ∷ 0 ∷ 0 ∷ 1 ∷
    1 ∷ 0xc0 ∷ 6 ∷ an_end))) ≡
    record { given = given_at 0 (0xc0 ∷ 5 ∷ []) ++ given_at 500001 (0xc0 ∷ 6 ∷ []); fault = None }
tempo_from_there_on = refl

-- a tempo of two bytes
tempo_too_short : smf (a_header 0 1 ++ (a_chunk 19 ++ (0 ∷ 0xff ∷ 0x51 ∷ 2 ∷ []))) ≡
    record { given = []; fault = Some (record { at = 25; why = why.Tempo }) }
tempo_too_short = refl

-- the chunk's last byte gives nothing where the end event is missing, though it would end an event
track_ends_early : smf (a_header 0 0x60 ++ (a_chunk 4 ++ (0 ∷ a_note))) ≡
    record { given = given_at 0 (0x90 ∷ 0x3c ∷ []); fault = Some (record { at = 25; why = why.Track }) }
track_ends_early = refl

-- a chunk of another type is passed over, and so is what a longer header has
others_passed_over : smf (0x4d ∷ 0x54 ∷ 0x68 ∷ 0x64 ∷ 0 ∷ 0 ∷ 0 ∷ 7 ∷ 0 ∷ 0 ∷ 0 ∷ 1 ∷ 0 ∷ 1 ∷ 0xf8 ∷
    0x58 ∷ 0x54 ∷ 0x72 ∷ 0x6b ∷ 0 ∷ 0 ∷ 0 ∷ 1 ∷ 0x4d ∷ (a_chunk 5 ++ 0 ∷ 0xf7 ∷ 1 ∷ 0xf8 ∷ 0 ∷ [])) ≡
    record { given = given_at 0 (0xf8 ∷ []); fault = Some (record { at = 36; why = why.Track }) }
others_passed_over = refl

-- no status runs behind a system exclusive event
no_status_runs : smf (a_header 0 0x60 ++ (a_chunk 20 ++ (0 ∷ a_note ++ (0 ∷ 0xf0 ∷ 1 ∷ 0xf7 ∷ 0 ∷ 0x3c ∷ [])))) ≡
    record {
      given = given_at 0 (0x90 ∷ 0x3c ∷ 0x64 ∷ 0xf0 ∷ 0xf7 ∷ []);
      fault = Some (record { at = 31; why = why.Event });
    }
no_status_runs = refl

-- a velocity of 132
data_of_a_status : smf (a_header 0 0x60 ++ (a_chunk 20 ++ (0 ∷ 0x90 ∷ 0x3c ∷ 0x84 ∷ []))) ≡
    record { given = given_at 0 (0x90 ∷ 0x3c ∷ []); fault = Some (record { at = 25; why = why.Event }) }
data_of_a_status = refl

-- a number of five bytes
number_too_long : smf (a_header 0 0x60 ++ (a_chunk 20 ++ (0x81 ∷ 0x80 ∷ 0x80 ∷ 0x80 ∷ 0 ∷ []))) ≡
    record { given = []; fault = Some (record { at = 25; why = why.Number }) }
number_too_long = refl

-- what follows the track is passed over, and an event that a length cuts off gives what stands
behind_the_end : smf (a_header 0 0x60 ++ (a_chunk 8 ++ (0 ∷ 0xf7 ∷ 1 ∷ 0xf8 ∷ an_end ++ (0x90 ∷ 0x3c ∷ [])))) ≡
    record { given = given_at 0 (0xf8 ∷ []); fault = None }
behind_the_end = refl

unfinished : smf (a_header 0 0x60 ++ (a_chunk 9 ++ (0 ∷ 0xf0 ∷ 3 ∷ 1 ∷ []))) ≡
    record { given = given_at 0 (0xf0 ∷ 1 ∷ []); fault = None }
unfinished = refl

not_ended : smf_ended (a_header 0 0x60 ++ (a_chunk 4 ++ (0 ∷ 0xff ∷ 0x2f ∷ []))) ≡ false
not_ended = refl

ended : smf_ended (a_header 0 0x60 ++ (a_chunk 4 ++ (0 ∷ 0xff ∷ 0x2f ∷ 0 ∷ []))) ≡ true
ended = refl

-- written files

abbrev a_dump : List Put
a_dump = At 5000 (ShortSign 0x90 0x3c 0x64) ∷ At 5000 (RtSign 0xf8) ∷ At 7000 OpenSign ∷ At 7000 (ByteSign 1) ∷
    Flush ∷ At 7000 EndSign ∷ []

file_of_a_dump : smf_written a_dump ≡
    a_header 3 0xe8 ++ (a_chunk 24 ++ (0 ∷ 0xff ∷ 0x51 ∷ 3 ∷ 0x0f ∷ 0x42 ∷ 0x40 ∷ 0 ∷ 0x90 ∷ 0x3c ∷ 0x64 ∷
    0 ∷ 0xf7 ∷ 1 ∷ 0xf8 ∷ 2 ∷ 0xf0 ∷ 2 ∷ 1 ∷ 0xf7 ∷ an_end))
file_of_a_dump = refl

-- what is written is read
dump_comes_back : smf (smf_written a_dump) ≡ record {
  given = given_at 0 (0x90 ∷ 0x3c ∷ 0x64 ∷ 0xf8 ∷ []) ++ given_at 2000 (0xf0 ∷ 1 ∷ 0xf7 ∷ []);
  fault = None;
}
dump_comes_back = refl

-- as a tape
dump_as_a_tape : gathered (smf (smf_written a_dump)).given ≡
    0x4d ∷ 0x42 ∷ 0x54 ∷ 0x32 ∷ 0 ∷ 0 ∷ 0 ∷ 0 ∷ 0 ∷ 0 ∷ 0 ∷ 0 ∷ 0 ∷ 0 ∷ 4 ∷ 0x90 ∷ 0x3c ∷ 0x64 ∷ 0xf8 ∷
    0 ∷ 0 ∷ 0 ∷ 0 ∷ 0 ∷ 0 ∷ 7 ∷ 0xd0 ∷ 0 ∷ 0 ∷ 3 ∷ 0xf0 ∷ 1 ∷ 0xf7 ∷ []
dump_as_a_tape = refl

-- a real-time message of a SysEx comes before it; an open one is broken off at the last moment
broken_off_at_the_end : smf (smf_written (At 0 OpenSign ∷ At 1500 (ByteSign 5) ∷ At 2999 (RtSign 0xf8) ∷
    At 4000 (ByteSign 6) ∷ [])) ≡
    record { given = given_at 0 (0xf8 ∷ []) ++ given_at 2000 (0xf0 ∷ 5 ∷ 6 ∷ []); fault = None }
broken_off_at_the_end = refl

-- milliseconds are rounded down before they are subtracted
rounded_before : smf (smf_written (At 999 (RtSign 0xf8) ∷ At 1000 (RtSign 0xf8) ∷ [])) ≡
    record { given = given_at 0 (0xf8 ∷ []) ++ given_at 1000 (0xf8 ∷ []); fault = None }
rounded_before = refl

-- a Tune Request is no channel message
common_as_an_escape : smf_written (At 0 (ShortSign 0xf6 0 0) ∷ []) ≡
    a_header 3 0xe8 ++ (a_chunk 15 ++ (0 ∷ 0xff ∷ 0x51 ∷ 3 ∷ 0x0f ∷ 0x42 ∷ 0x40 ∷ 0 ∷ 0xf7 ∷ 1 ∷ 0xf6 ∷ an_end))
common_as_an_escape = refl

quantities : quantity 127 ++ quantity 128 ++ quantity 16383 ++ quantity 16384 ++ quantity 2097152
    ++ quantity 268435455 ≡
    127 ∷ 129 ∷ 0 ∷ 255 ∷ 127 ∷ 129 ∷ 128 ∷ 0 ∷ 129 ∷ 128 ∷ 128 ∷ 0 ∷ 255 ∷ 255 ∷ 255 ∷ 127 ∷ []
quantities = refl

-- the greatest delta, and one more
no_gap_at_the_most : comes_late (At 0 (RtSign 0xf8) ∷ []) 268435455999 ≡ false
no_gap_at_the_most = refl

gap_of_one_more : comes_late (At 0 (RtSign 0xf8) ∷ []) 268435456000 ≡ true
gap_of_one_more = refl
