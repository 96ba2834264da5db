-- The rig that `run` reads from a file, which has the next handle, and its run.
--
--   HasText file before after           all of the file was read, or as much as may be and a byte more
--   HasRig file before after s          all of it was read, and is this rig
--   HasBadRig file before after n why   its text is refused: the first faulty line, and why
--   FilesFit s                          each link's file has a name of at most 255 bytes
--   NoRig file before after status      why there is no rig
--   RigRead file before after ..        the rig was read, or there is none
--   EndsIn s end status                 the answer to an end of a run
--   RigRan file limit before after ..   the rig was read, and then run
--   RigDid file limit before after ..   that, or there was none
--   behind file before                  a desk that a rig's file was opened at, whatever that has
--   ReadRig file before after claim     the rig was read: a claim of it, and of the desk behind its file
--   RunGave file before after           no file was given but the rig's, and a front of those that it names
--   AllGave file before after           all of them were
--   NotMerged file before after         not all files to read were given, and nothing was written
--   NotCreated s before after           all files to read were given, and not all to write
--   BadLink, LongLink                   why a run was stopped at a link
--   tape_at before after link           all bytes of a link's tape
use Rattle.std.specs.Prelude.{◌≡◌, ℕ, ◌+◌, ◌<◌, ◌≤◌, ◌==◌, ◌⊎◌, Bool, false, true, List, [], ◌∷◌, ◌++◌, length}
use Rattle.std.specs.Prelude.{None, Some, Result, Ok, Err, slice_get}
use Rattle.arrayvec.specs.ArrayVec.{ArrayVec}
use Rattle.mb_message.specs.Front.{IsFront}
use Rattle.mb_outside.specs.Contents.{Contents, after_open, next_handle}
use Rattle.std.specs.List.{list_any}
use Rattle.mb_frames.specs.Tapes.{tape_fault}
use Rattle.mb_frames.specs.declared.tape.TapeFault.{TapeFault}
use Rattle.mb_rig.specs.RigText.{RigPort, Setup, Right, Faulty, rig_of, wants_memory}
use Rattle.mb_rig.specs.RigRun.{EndLink, NotGiven, RunEnds, RunKeeps, files_of, link_handle, tapes_of, to_read}
use Rattle.mb_rig.specs.declared.ending.RigEnd.{RigEnd}
use Rattle.mb_rig.specs.declared.ending.RigEnd.TheVariants as end
use Rattle.mb_rig.specs.declared.fault.Why.{Why}
use Rattle.mb_top.specs.TextFile.{Opened, text_taken}
use Rattle.mb_top.specs.declared.fault.Fault.TheVariants as fault
use Rattle.mb_top.specs.declared.status.Status.{Status}
use Rattle.mb_top.specs.declared.status.Status.TheVariants.{Done, Cut, Stopped, BadTape}
use Rattle.mb_top.specs.declared.status.Stop.{Stop}
use Rattle.mb_top.specs.declared.status.Stop.TheVariants.{ReadFault, Refused, TooLong, Faulty}

-- one byte more than a text may have
abbrev pub TOO_MANY : ℕ
TOO_MANY = 65537

abbrev pub files_behind : (file : List ℕ) → Contents → List (List ℕ × Bool)
files_behind file before = before.given ++ (file, false) ∷ []

pub record HasText (file : List ℕ) (before after : Contents) : Type 0 where
  pub given : after.given ≡ files_behind file before
  pub all : (after.left (next_handle before) ≡ []) ⊎ (length (text_taken before after) ≡ TOO_MANY)

pub record HasRig (file : List ℕ) (before after : Contents) (s : Setup) : Type 0 where
  pub given : IsFront (files_behind file before) after.given
  pub all : after.left (next_handle before) ≡ []
  pub is : rig_of (text_taken before after) ≡ Right s

pub record HasBadRig (file : List ℕ) (before after : Contents) (line : ℕ) (cause : Why) : Type 0 where
  pub text : HasText file before after
  pub is : rig_of (text_taken before after) ≡ Faulty line cause

abbrev pub FilesFit : Setup → Type 0
FilesFit s = (link : ℕ) (port : RigPort) → slice_get s.ins link ≡ Some port → length port.file ≤ 255

-- reading failed, the text is refused, or there was no memory for it
abbrev pub NoRig : (file : List ℕ) (before after : Contents) → Status → Type 0
NoRig file before after (Stopped ReadFault) = Unit {0}
NoRig file before after (Stopped (Faulty (fault.Rig line cause))) = HasBadRig file before after line cause
NoRig file before after (Stopped (Faulty fault.Memory)) =
    HasText file before after × (wants_memory (text_taken before after) ≡ true)
NoRig file before after status = ⊥

-- the same of desks that tell nothing
abbrev pub IsRigStop : Status → Type 0
IsRigStop (Stopped ReadFault) = Unit {0}
IsRigStop (Stopped (Faulty (fault.Rig line cause))) = Unit {0}
IsRigStop (Stopped (Faulty fault.Memory)) = Unit {0}
IsRigStop status = ⊥

abbrev pub RigRead : (file : List ℕ) (before after : Contents) → Result Setup Stop → Type 0
RigRead file before after (Ok rig) = Opened before after file × HasRig file before after rig
RigRead file before after (Err stop) =
    ((after ≡ before) ⊎ Opened before after file) × NoRig file before after (Stopped stop)

-- a tape's fault is told with the name of its link's file
abbrev pub EndsIn : Setup → RigEnd → Status → Type 0
EndsIn s end.Done status = status ≡ Done
EndsIn s end.Cut status = status ≡ Cut
EndsIn s end.ReadFault status = status ≡ Stopped ReadFault
EndsIn s end.WriteFault status = status ≡ Stopped Refused
EndsIn s (end.BadTape link f) status =
    (name : ArrayVec ℕ) × (port : RigPort) × (status ≡ BadTape name f) × (slice_get s.ins link ≡ Some port)
    × (name.items ≡ port.file)
EndsIn s (end.TooLong link) status = status ≡ Stopped TooLong
EndsIn s (end.Memory memory) status = status ≡ Stopped (Faulty fault.Memory)

pub record RigRan (file : List ℕ) (limit : ℕ) (before after : Contents) (status : Status) : Type 0 where
  pub start : Contents
  pub rig : Setup
  pub opened : Opened before start file
  pub read : HasRig file before start rig
  pub ending : RigEnd
  pub ends : RunEnds rig limit start after ending
  pub keeps : RunKeeps rig start after
  pub link : EndLink rig ending
  pub answer : EndsIn rig ending status

abbrev pub RigDid : (file : List ℕ) (limit : ℕ) (before after : Contents) → Status → Type 0
RigDid file limit before after status =
    (((after ≡ before) ⊎ Opened before after file) × NoRig file before after status)
    ⊎ RigRan file limit before after status

-- what is claimed of it

abbrev pub behind : (file : List ℕ) → Contents → Contents
behind file before = after_open file [] before

abbrev pub ReadRig : (file : List ℕ) (before after : Contents) (claim : Setup → (start : Contents) → Type 0) → Type 0
ReadRig file before after claim = (s : Setup) × HasRig file before after s × claim s (behind file before)

pub record RunGave (file : List ℕ) (before after : Contents) : Type 0 where
  pub front : List (List ℕ × Bool)
  pub given : after.given ≡ before.given ++ front
  pub of_rig : IsFront front ((file, false) ∷ [])
      ⊎ ((s : Setup) × HasRig file before after s × IsFront front ((file, false) ∷ files_of s))

abbrev pub AllGave : (file : List ℕ) (before after : Contents) → Type 0
AllGave file before after = ReadRig file before after (λ s start. after.given ≡ start.given ++ files_of s)

abbrev pub NotMerged : (file : List ℕ) (before after : Contents) → Type 0
NotMerged file before after =
    (after.written 1 ≡ before.written 1)
    × ((after.given ≡ before.given)
    ⊎ ((after.given ≡ files_behind file before)
    ⊎ ReadRig file before after (λ s start. NotGiven s (to_read s.ins) start after)))

abbrev pub NotCreated : Setup → (before after : Contents) → Type 0
NotCreated s before after =
    NotGiven s (files_of s) before after × (length before.given + length s.ins ≤ length after.given)

-- the answers at which all files were given
abbrev pub gives_all : ℕ → Bool
gives_all n = list_any (λ code. code == n) (0 ∷ 5 ∷ 7 ∷ 8 ∷ [])

-- the bytes taken off a link's tape show its fault; as many were taken as may be, which show none
abbrev pub BadLink : Setup → (before after : Contents) → Type 0
BadLink s before after = (link : ℕ) × (f : TapeFault) × (link < length s.ins)
    × ((bytes : List ℕ) × IsFront bytes (tapes_of before after link) × (tape_fault bytes ≡ Some f))

abbrev pub LongLink : Setup → (limit : ℕ) → (before after : Contents) → Type 0
LongLink s limit before after = (link : ℕ) × (link < length s.ins)
    × (length (tapes_of before after link) ≡ limit) × (tape_fault (tapes_of before after link) ≡ None)

-- all bytes of a link's tape
abbrev pub tape_at : (before after : Contents) (link : ℕ) → List ℕ
tape_at before after link = after.taken (link_handle before link) ++ after.left (link_handle before link)

-- for the steps

abbrev pub HasRigStop : (text : List ℕ) → Stop → Type 0
HasRigStop text (Faulty (fault.Rig line cause)) = rig_of text ≡ Faulty line cause
HasRigStop text (Faulty fault.Memory) = wants_memory text ≡ true
HasRigStop text stop = ⊥
