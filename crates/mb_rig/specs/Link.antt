-- A link: a tape, and what its port hears on a track of it.
--
--   LinkReads l bytes told     it handed these bytes to its reader, which told these marks, and the tape isn't over
--   LinkEnds l bytes told      the tape is over, below the limit: these are its bytes and its marks
--   LinkStands ..              either of the two, these bytes having come off its handle
--   LinkHeard ..               what one step of hearing did
--   LinkRests ..               all that the bytes make known was told
--   TookFrom handle c d        bytes were taken off a handle, and nothing else of the desk changed
--   StopsAt ..                 why it gives no more
--   link_work l, link_owed l   more than what it may yet hear, for loops to end: unless its tape is over, and of any
use Rattle.std.specs.Prelude.{◌≡◌, ℕ, ◌+◌, ◌*◌, ◌-◌, ◌^◌, ◌<◌, ◌≤◌, Bool, true, false, not, if◌then◌else◌, List, []}
use Rattle.std.specs.Prelude.{◌++◌, length, Option, Some, None, IsTrue}
use Rattle.mb_message.specs.Front.{IsFront}
use Rattle.mb_stream.specs.Puts.{Put}
use Rattle.mb_outside.specs.Contents.{Contents, after_read}
use Rattle.mb_frames.specs.Tapes.{tape_fault}
use Rattle.mb_frames.specs.declared.tape.TapeFault.{TapeFault}
use Rattle.mb_track.specs.Track.{track_marks, track_marks_so_far, track_whole}
use Rattle.mb_track.specs.TrackReading.{TrackStands, TrackTold, track_of, track_offset, track_owed, track_spec}
use Rattle.mb_rig.specs.Supply.{IsCounted, IsLent, front_of}
use Rattle.mb_rig.specs.declared.link.Link.{Link}
use Rattle.mb_rig.specs.declared.link.LinkStop.{LinkStop}
use Rattle.mb_rig.specs.declared.link.LinkStop.TheVariants as stop

pub record LinkReads (l : Link) (bytes : List ℕ) (told : List Put) : Type 0 where
  pub count : l.supply.count ≡ length bytes + length l.supply.ahead
  pub few : l.supply.count ≤ 2 ^ 40
  pub offset : track_offset l.reader ≤ length bytes
  pub stands : TrackStands l.reader bytes (front_of l.supply) told

pub record LinkEnds (l : Link) (bytes : List ℕ) (told : List Put) : Type 0 where
  pub all : told ≡ track_marks (track_spec l.reader) (track_of l.reader) bytes
  pub right : tape_fault bytes ≡ None
  pub cut : l.cut ≡ not (track_whole (track_spec l.reader) (track_of l.reader) bytes)
  pub used : l.supply.ahead ≡ []
  pub below : l.supply.count < l.supply.limit

pub record LinkStands {S : Type 0} (tells : Bool) (contents : S → Contents) (l : Link) (at : S)
    (told : List Put) : Type 0 where
  pub bytes : List ℕ
  pub lent : IsTrue tells → IsLent l.supply (contents at) bytes
  pub counted : IsTrue tells → IsCounted l.supply (contents at)
  pub most : l.supply.limit ≤ 2 ^ 40
  pub reads : l.over ≡ false → LinkReads l bytes told
  pub ends : l.over ≡ true → LinkEnds l bytes told
  pub nothing_left : l.over ≡ true → IsTrue tells → (contents at).left l.supply.handle ≡ []

pub record LinkHeard (old new : Link) (bytes : List ℕ) (told : List Put) : Type 0 where
  pub more : List ℕ
  pub front : old.supply.ahead ≡ more ++ new.supply.ahead
  pub reads : LinkReads new (bytes ++ more) told

pub record LinkRests (l : Link) (bytes : List ℕ) (told : List Put) (fault : Option TapeFault) : Type 0 where
  pub tells_all : TrackTold l.reader bytes
  pub so_far : told ≡ track_marks_so_far (track_spec l.reader) (track_of l.reader) bytes
  pub fault_is : tape_fault bytes ≡ fault

pub record TookFrom (handle : ℕ) (c d : Contents) : Type 0 where
  pub many : ℕ
  pub contents : d ≡ after_read handle many c

-- the tape's bytes so far are as many as may be taken, or begin with a faulty tape
abbrev pub StopsAt : (limit : ℕ) → (tape : List ℕ) → LinkStop → Type 0
StopsAt limit tape stop.ReadFault = Unit {0}
StopsAt limit tape stop.TooLong = (length tape ≡ limit) × (tape_fault tape ≡ None)
StopsAt limit tape (stop.BadTape f) = (bytes : List ℕ) × IsFront bytes tape × (tape_fault bytes ≡ Some f)

abbrev pub link_work : Link → ℕ
link_work l = 16 * (l.supply.limit - l.supply.count) + (8 * length l.supply.ahead + track_owed l.reader)

abbrev pub link_owed : Link → ℕ
link_owed l = if l.over then 0 else 1 + link_work l
