-- A step of a link: its marks are handed on until its record is used up or it is stalled.
--
--   OthersKeep m links now links_now x    the other links gave no more, have the same keys, are no more stalled, and
--                                have the room that they had
--   StepMay ..                   what a run knows as a link steps: it isn't stalled, and its key is the least of those
--                                that aren't
--   StepUnder ..                 a step under way, within the link's record
--   StepEnds ..                  where it ends
--   StepStops ..                 where the link stops it: what was given is a front of its marks
--   StepBroke ..                 where a write failed
--   ByStop stop P Q              P of a stop that a link makes, Q of a write fault
--   StopsBy stop ..              what a stop says of the tape
use Rattle.std.specs.Prelude.{◌≡◌, ◌≢◌, ℕ, ◌<◌, Bool, false, List, length, Some, None, IsTrue}
use Rattle.mb_stream.specs.Puts.{Put}
use Rattle.mb_outside.specs.Contents.{Contents}
use Rattle.mb_merge.specs.Links.{Merger}
use Rattle.mb_rig.specs.RigText.{Setup}
use Rattle.mb_rig.specs.Link.{StopsAt}
use Rattle.mb_rig.specs.Feed.{FeedFront, FeedStands}
use Rattle.mb_rig.specs.Bay.{BayBroke, BayStands, HasRoom, KeepRoom, turn_key}
use Rattle.mb_rig.specs.Merging.Lines.{key_at}
use Rattle.mb_rig.specs.Merging.Run.{AtMost}
use Rattle.mb_rig.specs.Merging.Playing.{Play}
use Rattle.mb_rig.specs.Merging.Course.{IsLeastKey, Links}
use Rattle.mb_rig.specs.declared.bay.Bay.{Bay}
use Rattle.mb_rig.specs.declared.feed.Feed.{Feed}
use Rattle.mb_rig.specs.declared.feed.RunStop.{RunStop}
use Rattle.mb_rig.specs.declared.feed.RunStop.TheVariants as stop

pub record OthersKeep (m : Merger) (links : Links) (now : Merger) (links_now : Links) (x : ℕ) : Type 0 where
  pub present : (y : ℕ) → y ≢ x → links_now.present y ≡ links.present y
  pub given : (y : ℕ) → y ≢ x → links_now.given y ≡ links.given y
  pub free : (y : ℕ) → y ≢ x → links.stalled y ≡ false → links_now.stalled y ≡ false
  pub room : KeepRoom m links now links_now x

pub record StepMay {S : Type 0} (tells : Bool) (contents : S → Contents) (s : Setup) (before : List ℕ) (first : ℕ)
    (x moment : ℕ) (f : Feed) (b : Bay) (at : S) (links : Links) (play : Play) : Type 0 where
  pub stands : BayStands tells contents s before first b at links play
  pub drained : b.router.draining ≡ false
  pub feed : FeedStands tells contents x f at (links.present x) (links.given x)
  pub source : x < length s.ins
  pub here : f.record ≡ Some moment
  pub free : links.stalled x ≡ false
  pub least : IsLeastKey links (key_at moment x)
  pub room : f.waiting ≢ None → HasRoom b.router links x

pub record StepUnder {S : Type 0} (tells : Bool) (contents : S → Contents) (s : Setup) (before : List ℕ) (first : ℕ)
    (x moment : ℕ) (f : Feed) (b : Bay) (at : S) (links : Links) (play : Play) : Type 0 where
  pub stands : BayStands tells contents s before first b at links play
  pub drained : b.router.draining ≡ false
  pub feed : FeedStands tells contents x f at (links.present x) (links.given x)
  pub source : x < length s.ins
  pub here : f.record ≡ Some moment
  pub free : links.stalled x ≡ false
  pub within : AtMost (key_at moment x) (turn_key b.greatest)
  pub room : f.waiting ≢ None → HasRoom b.router links x

pub record StepEnds {S : Type 0} (tells : Bool) (contents : S → Contents) (s : Setup) (before : List ℕ) (first : ℕ)
    (x : ℕ) (m : Merger) (f : Feed) (b : Bay) (at : S) (links : Links) : Type 0 where
  pub links_now : Links
  pub play : Play
  pub stands : BayStands tells contents s before first b at links_now play
  pub drained : b.router.draining ≡ false
  pub feed : FeedStands tells contents x f at (links_now.present x) (links_now.given x)
  pub room : f.waiting ≢ None → HasRoom b.router links_now x
  pub others : OthersKeep m links b.router links_now x

pub record StepStops {S : Type 0} (tells : Bool) (contents : S → Contents) (s : Setup) (before : List ℕ) (first : ℕ)
    (x : ℕ) (m : Merger) (f : Feed) (b : Bay) (at : S) (links : Links) : Type 0 where
  pub links_now : Links
  pub play : Play
  pub stands : BayStands tells contents s before first b at links_now play
  pub drained : b.router.draining ≡ false
  pub front : FeedFront tells contents f at (links_now.given x)
  pub others : OthersKeep m links b.router links_now x

pub record StepBroke {S : Type 0} (tells : Bool) (contents : S → Contents) (s : Setup) (before : List ℕ) (x : ℕ)
    (f : Feed) (at : S) (links : Links) : Type 0 where
  pub given : ℕ → List Put
  pub broke : BayBroke tells contents s before at given
  pub front : FeedFront tells contents f at (given x)
  pub others : (y : ℕ) → y ≢ x → given y ≡ links.given y

abbrev pub ByStop : RunStop → Type 0 → Type 0 → Type 0
ByStop stop.WriteFault P Q = Q
ByStop (stop.Link why) P Q = P

abbrev pub StopsBy : (tells : Bool) (limit : ℕ) (tape : List ℕ) → RunStop → Type 0
StopsBy tells limit tape stop.WriteFault = Unit {0}
StopsBy tells limit tape (stop.Link why) = IsTrue tells → StopsAt limit tape why
