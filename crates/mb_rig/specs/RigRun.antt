-- What a run of a rig does to a desk.
--
--   to_read ports, to_write ports   files as they are given
--   files_of s                   those of a rig in the order in which they are given: the links' and then the outs'
--   link_handle, out_handle      the handle of a link's file, and of an out's
--   tapes_of before after        what was taken off each link's file
--   IsOut s report ..            what an out has at a run's end
--   IsRun s before after         the tapes merged into the report and the outs
--   IsOutFront s report ..       what an out has where a run stopped
--   IsRunFront s before after    the same where the run stopped
--   IsRunPart s before after     the same where a write failed: the report may end inside a line
--   ReadThrough ..               each tape was read to its end, below the limit, and has no fault
--   all_whole s tapes            each tape is whole, and so is the recording of the link's track
--   WentThrough ..               all files were given, and each tape was read through, and merged
--   FewRead ..                   no more than the limit was taken off any tape
--   AllGiven ..                  all files were given, and no more than the limit was taken off any tape
--   NotGiven files ..            one of these files couldn't be given: nothing was read, and nothing written
--   RunEnds s limit b a end      what each answer says
--   RunKeeps s before after      nothing else of the desk changed
--   EndLink s end                an answer's link is one of the rig's
--   Merges s limit b a end       what a run comes to whose files were given
use Rattle.std.specs.Prelude.{◌≡◌, ◌≢◌, ◌⊎◌, ℕ, ◌+◌, ◌<◌, ◌≤◌, Bool, true, false, not, ◌&&◌, List, [], ◌∷◌, ◌++◌}
use Rattle.std.specs.Prelude.{length, map, Option, Some, None, slice_get}
use Rattle.mb_message.specs.Front.{IsFront, IsPart}
use Rattle.mb_outside.specs.Contents.{Contents, next_handle}
use Rattle.mb_frames.specs.Tapes.{tape_fault}
use Rattle.mb_message.specs.Signs.{Sign}
use Rattle.mb_stream.specs.Denotation.{denotation}
use Rattle.mb_stream.specs.Puts.{Put}
use Rattle.mb_carrier.specs.Carrier.{den, notes_of, whole, written}
use Rattle.mb_carrier.specs.Live.{HoldsBack}
use Rattle.mb_carrier.specs.MessageMoments.{HasStamps, moments_read}
use Rattle.mb_ble.specs.Distances.{KeepStamps}
use Rattle.mb_track.specs.Track.{track_whole}
use Rattle.mb_rig.specs.RigText.{RigPort, Setup}
use Rattle.mb_rig.specs.Merging.Report.{Passing, lines_to, moments_to, text_of}
use Rattle.mb_rig.specs.Merging.Merged.{meant_by}
use Rattle.mb_rig.specs.Merging.Ended.{IsMerged, IsMergedFront, MeansSoFar, sources_of}
use Rattle.mb_rig.specs.declared.ending.RigEnd.{RigEnd}
use Rattle.mb_rig.specs.declared.ending.RigEnd.TheVariants as end

abbrev pub to_read : List RigPort → List (List ℕ × Bool)
to_read ports = map (λ (p : RigPort). (p.file, false)) ports

abbrev pub to_write : List RigPort → List (List ℕ × Bool)
to_write ports = map (λ (p : RigPort). (p.file, true)) ports

abbrev pub files_of : Setup → List (List ℕ × Bool)
files_of s = to_read s.ins ++ to_write s.outs

abbrev pub link_handle : Contents → (link : ℕ) → ℕ
link_handle before link = next_handle before + link

abbrev pub out_handle : Setup → Contents → (out : ℕ) → ℕ
out_handle s before out = next_handle before + length s.ins + out

abbrev pub tapes_of : (before after : Contents) → (link : ℕ) → List ℕ
tapes_of before after link = after.taken (link_handle before link)

-- What an out has at a run's end: what its spec's writer makes of marks that mean what the lines to it mean. So it has
-- no note and ends behind a whole packet. Its stamps, where it has any, are those of the moments of passing.
pub record IsOut (s : Setup) (report : List Passing) (out : ℕ) (port : RigPort) (bytes : List ℕ) : Type 0 where
  pub puts : List Put
  pub exact : bytes ≡ written port.spec puts
  pub means : den port.spec bytes ≡ meant_by (lines_to s.routes out report)
  pub clean : notes_of port.spec bytes ≡ []
  pub ended : whole port.spec bytes ≡ true
  pub stamps : HasStamps port.spec → KeepStamps (moments_to s.routes out report) (moments_read port.spec bytes)

pub record IsRun (s : Setup) (before after : Contents) : Type 0 where
  pub report : List Passing
  pub text : after.written 1 ≡ before.written 1 ++ text_of report
  pub merged : IsMerged s (sources_of s (tapes_of before after)) report
  pub outs : (out : ℕ) (port : RigPort) → slice_get s.outs out ≡ Some port →
      IsOut s report out port (after.written (out_handle s before out))

-- What an out has where a run stopped: marks that mean what the lines to it mean, and at most one last broken SysEx
-- that has no line; of these what its writer holds back may be missing.
pub record IsOutFront (s : Setup) (report : List Passing) (out : ℕ) (port : RigPort) (bytes : List ℕ) : Type 0 where
  pub marks : List Sign
  pub so_far : MeansSoFar marks (lines_to s.routes out report)
  pub held : HoldsBack port.spec (denotation marks) (den port.spec bytes)

pub record IsRunFront (s : Setup) (before after : Contents) : Type 0 where
  pub report : List Passing
  pub text : after.written 1 ≡ before.written 1 ++ text_of report
  pub merged : IsMergedFront s (sources_of s (tapes_of before after)) report
  pub outs : (out : ℕ) (port : RigPort) → slice_get s.outs out ≡ Some port →
      IsOutFront s report out port (after.written (out_handle s before out))

-- a part of the report was written
pub record IsRunPart (s : Setup) (before after : Contents) : Type 0 where
  pub report : List Passing
  pub told : List ℕ
  pub text : after.written 1 ≡ before.written 1 ++ told
  pub begins : IsFront told (text_of report)
  pub merged : IsMergedFront s (sources_of s (tapes_of before after)) report

pub record ReadThrough (s : Setup) (limit : ℕ) (before after : Contents) : Type 0 where
  pub all : (link : ℕ) → link < length s.ins → after.left (link_handle before link) ≡ []
  pub below : (link : ℕ) → link < length s.ins → length (tapes_of before after link) < limit
  pub right : (link : ℕ) → link < length s.ins → tape_fault (tapes_of before after link) ≡ None

abbrev pub whole_from : (at : ℕ) → List RigPort → (tapes : ℕ → List ℕ) → Bool
whole_from at [] tapes = true
whole_from at (p ∷ ps) tapes = track_whole p.spec p.track (tapes at) && whole_from (at + 1) ps tapes

abbrev pub all_whole : Setup → (tapes : ℕ → List ℕ) → Bool
all_whole s tapes = whole_from 0 s.ins tapes

pub record WentThrough (s : Setup) (limit : ℕ) (before after : Contents) (whole : Bool) : Type 0 where
  pub given : after.given ≡ before.given ++ files_of s
  pub through : ReadThrough s limit before after
  pub run : IsRun s before after
  pub whole_is : all_whole s (tapes_of before after) ≡ whole

abbrev pub FewRead : Setup → (limit : ℕ) → (before after : Contents) → Type 0
FewRead s limit before after = (link : ℕ) → link < length s.ins → length (tapes_of before after link) ≤ limit

pub record AllGiven (s : Setup) (limit : ℕ) (before after : Contents) : Type 0 where
  pub given : after.given ≡ before.given ++ files_of s
  pub few : FewRead s limit before after

-- those before it were given: nothing was taken off those to read, and nothing was written
pub record NotGiven (s : Setup) (files : List (List ℕ × Bool)) (before after : Contents) : Type 0 where
  pub front : List (List ℕ × Bool)
  pub part : IsPart front files
  pub given : after.given ≡ before.given ++ front
  pub unread : (link : ℕ) → link < length front → link < length s.ins → tapes_of before after link ≡ []
  pub unwritten : after.written 1 ≡ before.written 1
  pub empty : (out : ℕ) → length s.ins + out < length front → after.written (out_handle s before out) ≡ []

abbrev pub Merges : Setup → (limit : ℕ) → (before after : Contents) → RigEnd → Type 0
Merges s limit before after end.Done = ReadThrough s limit before after × IsRun s before after
    × (all_whole s (tapes_of before after) ≡ true)
Merges s limit before after end.Cut = ReadThrough s limit before after × IsRun s before after
    × (all_whole s (tapes_of before after) ≡ false)
Merges s limit before after end.ReadFault = FewRead s limit before after × IsRunFront s before after
Merges s limit before after end.WriteFault = FewRead s limit before after × IsRunPart s before after
Merges s limit before after (end.BadTape link fault) = FewRead s limit before after × IsRunFront s before after
    × ((bytes : List ℕ) × IsFront bytes (tapes_of before after link) × (tape_fault bytes ≡ Some fault))
Merges s limit before after (end.TooLong link) = FewRead s limit before after × IsRunFront s before after
    × (length (tapes_of before after link) ≡ limit) × (tape_fault (tapes_of before after link) ≡ None)
Merges s limit before after (end.Memory memory) = ⊥

abbrev pub RunEnds : Setup → (limit : ℕ) → (before after : Contents) → RigEnd → Type 0
RunEnds s limit before after end.Done = WentThrough s limit before after true
RunEnds s limit before after end.Cut = WentThrough s limit before after false
RunEnds s limit before after end.ReadFault =
    NotGiven s (to_read s.ins) before after ⊎ (AllGiven s limit before after × IsRunFront s before after)
RunEnds s limit before after end.WriteFault =
    (NotGiven s (files_of s) before after × (length before.given + length s.ins ≤ length after.given))
    ⊎ (AllGiven s limit before after × IsRunPart s before after)
RunEnds s limit before after (end.BadTape link fault) = AllGiven s limit before after × IsRunFront s before after
    × ((bytes : List ℕ) × IsFront bytes (tapes_of before after link) × (tape_fault bytes ≡ Some fault))
RunEnds s limit before after (end.TooLong link) = AllGiven s limit before after × IsRunFront s before after
    × (length (tapes_of before after link) ≡ limit) × (tape_fault (tapes_of before after link) ≡ None)
RunEnds s limit before after (end.Memory memory) = after ≡ before

-- The tapes alone were read, standard output and the outs alone were written.
pub record RunKeeps (s : Setup) (before after : Contents) : Type 0 where
  pub left : (h : ℕ) → (next_handle before ≤ h → h < next_handle before + length s.ins → ⊥) →
      after.left h ≡ before.left h
  pub taken : (h : ℕ) → (next_handle before ≤ h → h < next_handle before + length s.ins → ⊥) →
      after.taken h ≡ before.taken h
  pub written : (h : ℕ) → h ≢ 1 → (out_handle s before 0 ≤ h → h < out_handle s before (length s.outs) → ⊥) →
      after.written h ≡ before.written h

abbrev pub EndLink : Setup → RigEnd → Type 0
EndLink s end.Done = Unit {0}
EndLink s end.Cut = Unit {0}
EndLink s end.ReadFault = Unit {0}
EndLink s end.WriteFault = Unit {0}
EndLink s (end.BadTape link fault) = link < length s.ins
EndLink s (end.TooLong link) = link < length s.ins
EndLink s (end.Memory memory) = Unit {0}
