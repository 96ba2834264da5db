-- A run of a rig between two steps.
--
--   turn_at stalled record     the moment of a link's record, if it may step
--   FeedsStand base ..         the links, whose handles begin at `base`, and what the router has of each
--   RunStands ..               links, bay and desk of a run that has come so far
--   feeds_owed feeds           more than what may yet come of them, for loops to end
--   RunOver ..                 no link has a record
--   RunStopped ..              where a link stopped it
--   RunBroken ..               where a write failed
--   HaltsBy ..                 what an end says of the tapes
--   ByEnd end P Q              P of an end that a link makes, Q of a write fault
--   RunTouched ..              tapes of the links were read, standard output and outs written, and nothing else changed
use Rattle.std.specs.Prelude.{◌≡◌, ◌≢◌, ℕ, ◌+◌, ◌<◌, ◌≤◌, Bool, true, false, List, length, Option, Some, None, IsTrue}
use Rattle.std.specs.Prelude.{[], ◌∷◌, slice_get}
use Rattle.mb_outside.specs.Contents.{Contents}
use Rattle.mb_message.specs.Front.{IsFront}
use Rattle.mb_stream.specs.Puts.{Put}
use Rattle.mb_frames.specs.Tapes.{tape_fault}
use Rattle.mb_frames.specs.declared.tape.TapeFault.{TapeFault}
use Rattle.mb_rig.specs.RigText.{RigPort, Setup}
use Rattle.mb_rig.specs.Bay.{BayBroke, BayStands, HasRoom}
use Rattle.mb_rig.specs.Feed.{FeedFront, FeedStands, IsFeed, feed_owed}
use Rattle.mb_rig.specs.Merging.Course.{Links}
use Rattle.mb_rig.specs.Merging.Playing.{Play}
use Rattle.mb_rig.specs.declared.bay.Bay.{Bay}
use Rattle.mb_rig.specs.declared.feed.Feed.{Feed}
use Rattle.mb_rig.specs.declared.ending.RigEnd.{RigEnd}
use Rattle.mb_rig.specs.declared.ending.RigEnd.TheVariants as end

abbrev pub turn_at : (stalled : Bool) → (record_moment : Option ℕ) → Option ℕ
turn_at true moment = None
turn_at false moment = moment

-- each link is that of its port
pub record AreFeeds (tells : Bool) (s : Setup) (base limit : ℕ) (feeds : List Feed) : Type 0 where
  pub many : length feeds ≡ length s.ins
  pub here : (x : ℕ) (f : Feed) → slice_get feeds x ≡ Some f → IsTrue tells → f.link.supply.handle ≡ base + x
  pub own : (x : ℕ) (f : Feed) (port : RigPort) → slice_get feeds x ≡ Some f → slice_get s.ins x ≡ Some port →
      IsFeed port limit f.link.supply.handle f

pub record RunStands {S : Type 0} (tells : Bool) (contents : S → Contents) (s : Setup) (before : List ℕ)
    (base first limit : ℕ) (feeds : List Feed) (b : Bay) (at : S) (links : Links) (play : Play) : Type 0 where
  pub bay : BayStands tells contents s before first b at links play
  pub drained : b.router.draining ≡ false
  pub are : AreFeeds tells s base limit feeds
  pub each : (x : ℕ) (f : Feed) → slice_get feeds x ≡ Some f →
      FeedStands tells contents x f at (links.present x) (links.given x)
  pub none : (x : ℕ) → length s.ins ≤ x → links.present x ≡ None
  pub room : (x : ℕ) (f : Feed) → slice_get feeds x ≡ Some f → f.waiting ≢ None → HasRoom b.router links x

pub record RunOver {S : Type 0} (tells : Bool) (contents : S → Contents) (s : Setup) (before : List ℕ)
    (base first limit : ℕ) (feeds : List Feed) (b : Bay) (at : S) : Type 0 where
  pub links : Links
  pub play : Play
  pub stands : RunStands tells contents s before base first limit feeds b at links play
  pub over : (x : ℕ) → links.present x ≡ None

pub record RunStopped {S : Type 0} (tells : Bool) (contents : S → Contents) (s : Setup) (before : List ℕ)
    (base first limit : ℕ) (feeds : List Feed) (b : Bay) (at : S) : Type 0 where
  pub links : Links
  pub play : Play
  pub bay : BayStands tells contents s before first b at links play
  pub idle : play.offered ≡ None
  pub are : AreFeeds tells s base limit feeds
  pub fronts : (x : ℕ) (f : Feed) → slice_get feeds x ≡ Some f → FeedFront tells contents f at (links.given x)

pub record RunBroken {S : Type 0} (tells : Bool) (contents : S → Contents) (s : Setup) (before : List ℕ)
    (base limit : ℕ) (feeds : List Feed) (at : S) : Type 0 where
  pub given : ℕ → List Put
  pub broke : BayBroke tells contents s before at given
  pub are : AreFeeds tells s base limit feeds
  pub fronts : (x : ℕ) (f : Feed) → slice_get feeds x ≡ Some f → FeedFront tells contents f at (given x)

pub record RunTouched {S : Type 0} (tells : Bool) (contents : S → Contents) (base count first outs : ℕ)
    (before after : S) : Type 0 where
  pub given : IsTrue tells → (contents after).given ≡ (contents before).given
  pub left : IsTrue tells → (h : ℕ) → (base ≤ h → h < base + count → ⊥) →
      (contents after).left h ≡ (contents before).left h
  pub taken : IsTrue tells → (h : ℕ) → (base ≤ h → h < base + count → ⊥) →
      (contents after).taken h ≡ (contents before).taken h
  pub written : IsTrue tells → (h : ℕ) → h ≢ 1 → (first ≤ h → h < first + outs → ⊥) →
      (contents after).written h ≡ (contents before).written h

abbrev pub feeds_owed : List Feed → ℕ
feeds_owed [] = 0
feeds_owed (f ∷ fs) = feed_owed f + feeds_owed fs

abbrev pub ByEnd : RigEnd → Type 0 → Type 0 → Type 0
ByEnd end.Done P Q = Unit {0}
ByEnd end.Cut P Q = Unit {0}
ByEnd end.ReadFault P Q = P
ByEnd end.WriteFault P Q = Q
ByEnd (end.BadTape link fault) P Q = P
ByEnd (end.TooLong link) P Q = P
ByEnd (end.Memory memory) P Q = Unit {0}

-- the tapes' bytes are what was taken off the links' handles, which begin at `base`
abbrev pub HaltsBy : (tells : Bool) → Setup → (base limit : ℕ) → Contents → RigEnd → Type 0
HaltsBy tells s base limit now end.Done = ⊥
HaltsBy tells s base limit now end.Cut = ⊥
HaltsBy tells s base limit now end.ReadFault = Unit {0}
HaltsBy tells s base limit now end.WriteFault = Unit {0}
HaltsBy tells s base limit now (end.BadTape link fault) = (link < length s.ins) × (IsTrue tells →
    (bytes : List ℕ) × IsFront bytes (now.taken (base + link)) × (tape_fault bytes ≡ Some fault))
HaltsBy tells s base limit now (end.TooLong link) = (link < length s.ins) × (IsTrue tells →
    (length (now.taken (base + link)) ≡ limit) × (tape_fault (now.taken (base + link)) ≡ None))
HaltsBy tells s base limit now (end.Memory memory) = ⊥
