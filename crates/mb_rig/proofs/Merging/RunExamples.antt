-- The definitions compute: two tapes whose links share an out, and three reports that aren't theirs.
use Rattle.std.proofs.Common.{◌≡◌, ℕ, true, false, List, [], ◌∷◌, refl}
use Rattle.mb_message.specs.Signs.{ShortSign, RtSign, OpenSign, ByteSign, EndSign}
use Rattle.mb_stream.specs.Denotation.{Message, Syx, denotation}
use Rattle.mb_stream.specs.Puts.{Put, At}
use Rattle.mb_carrier.specs.declared.spec.Spec.TheVariants as spec
use Rattle.mb_rig.specs.Merging.Lines.{Line, Ends, Realtime, Source, key_at, line_by, lines_of, marks_of}
use Rattle.mb_rig.specs.Merging.Report.{Passing, lines_to}
use Rattle.mb_rig.specs.Merging.Merged.{AreOfSources, meant_by, realtimes_merged}
use Rattle.mb_rig.specs.Merging.Orderly.{is_orderly, is_orderly_unstalled}

-- in the first form, at 0 ms `F0 01`, at 2 ms `F7`
keys : Source
keys = record {
  spec = spec.Din;
  track = 0;
  tape = 0x4d ∷ 0x42 ∷ 0x54 ∷ 0x31
      ∷ 0 ∷ 0 ∷ 0 ∷ 0 ∷ 0 ∷ 0 ∷ 0 ∷ 0 ∷ 0 ∷ 2 ∷ 0xf0 ∷ 1
      ∷ 0 ∷ 0 ∷ 0 ∷ 0 ∷ 0 ∷ 0 ∷ 0 ∷ 2 ∷ 0 ∷ 1 ∷ 0xf7 ∷ [];
}

-- at 1 ms `90 3C 64 F8`
pad : Source
pad = record {
  spec = spec.Din;
  track = 0;
  tape = 0x4d ∷ 0x42 ∷ 0x54 ∷ 0x31
      ∷ 0 ∷ 0 ∷ 0 ∷ 0 ∷ 0 ∷ 0 ∷ 0 ∷ 1 ∷ 0 ∷ 4 ∷ 0x90 ∷ 0x3c ∷ 0x64 ∷ 0xf8 ∷ [];
}

abbrev keys_marks : List Put
keys_marks = At 0 OpenSign ∷ At 0 (ByteSign 1) ∷ At 2000 EndSign ∷ []

abbrev pad_marks : List Put
pad_marks = At 1000 (ShortSign 0x90 0x3c 0x64) ∷ At 1000 (RtSign 0xf8) ∷ []

marks_of_keys : marks_of keys ≡ keys_marks
unfolding keys
marks_of_keys = refl

marks_of_pad : marks_of pad ≡ pad_marks
unfolding pad
marks_of_pad = refl

abbrev dump : Line
dump = line_by 0 2 (Ends (Syx (1 ∷ []))) (key_at 2000 0) (key_at 0 0)

abbrev note : Line
note = line_by 1 0 (Ends (Message 0x90 0x3c 0x64)) (key_at 1000 1) (key_at 1000 1)

abbrev clock : Line
clock = line_by 1 1 (Realtime 0xf8) (key_at 1000 1) (key_at 1000 1)

lines_of_keys : lines_of 0 keys_marks ≡ dump ∷ []
lines_of_keys = refl

lines_of_pad : lines_of 1 pad_marks ≡ note ∷ clock ∷ []
lines_of_pad = refl

abbrev passing : Line → ℕ → Passing
passing x moment = record { line = x; moment = moment }

-- the note waits for the dump's end, the clock doesn't
abbrev report : List Passing
report = passing clock 1 ∷ passing dump 2 ∷ passing note 2 ∷ []

abbrev routes : List (ℕ × ℕ)
routes = (0, 0) ∷ (1, 0) ∷ []

of_both : AreOfSources 0 (keys ∷ pad ∷ []) report
unfolding keys pad
of_both = (record { turns = refl; realtimes = refl }, (record { turns = refl; realtimes = refl }, tt))

-- at the out `F0 01 F8 F7 90 3C 64`
heard : denotation (OpenSign ∷ ByteSign 1 ∷ RtSign 0xf8 ∷ EndSign ∷ ShortSign 0x90 0x3c 0x64 ∷ [])
    ≡ meant_by (lines_to routes 0 report)
heard = refl

clock_in_time : realtimes_merged routes report ≡ true
clock_in_time = refl

in_order : is_orderly routes report ≡ true
in_order = refl

held_back : is_orderly_unstalled routes report ≡ true
held_back = refl

-- all of one source, then all of the other
abbrev in_turns : List Passing
in_turns = passing dump 2 ∷ passing note 2 ∷ passing clock 2 ∷ []

-- where no link was stalled a real-time line doesn't wait
late_clock : is_orderly_unstalled routes in_turns ≡ false
late_clock = refl

-- where the sources share no out nothing passes late
late_for_nothing : is_orderly ((0, 0) ∷ (1, 1) ∷ []) in_turns ≡ false
late_for_nothing = refl

-- a clock behind which no dump held the note
early_clock : realtimes_merged routes (passing clock 1 ∷ passing note 1 ∷ passing dump 2 ∷ []) ≡ false
early_clock = refl
