-- Where a run begins.
--
--   BayBegins s b         the router of a rig: no link is stalled, and no out is there yet
--   FeedsOpened ..        the links' files are open, and nothing of them was read
--   OutsCreated ..        the outs' files were created, and nothing was written to them
--   FeedsReady ..         each link's tape stands at its start; FeedsStarted, at its first record
--   FeedsHalted ..        a link stops the run before its first step
--   RunBegins ..          all files were given, and nothing was read or written
use Rattle.std.specs.Prelude.{◌≡◌, ℕ, ◌+◌, ◌<◌, ◌≤◌, Bool, true, false, List, [], ◌∷◌, ◌++◌, length, map, None, Some}
use Rattle.std.specs.Prelude.{IsTrue, slice_get}
use Rattle.mb_message.specs.Front.{IsPart}
use Rattle.mb_stream.specs.Puts.{Put}
use Rattle.mb_outside.specs.Contents.{Contents, next_handle}
use Rattle.mb_rig.specs.RigText.{RigPort, Setup}
use Rattle.mb_rig.specs.Right.{IsRig, specs_of}
use Rattle.mb_rig.specs.RigRun.{to_read, to_write}
use Rattle.mb_rig.specs.Link.{LinkStands}
use Rattle.mb_rig.specs.Feed.{FeedFront, FeedStands, IsFeed, key_by}
use Rattle.mb_rig.specs.Outlet.{outlet_spec}
use Rattle.mb_rig.specs.Outs.{OutsStand}
use Rattle.mb_rig.specs.Given.{CreatedMore, OpenedMore}
use Rattle.mb_rig.specs.Bay.{is_stalled, turn_key}
use Rattle.mb_rig.specs.Running.{AreFeeds}
use Rattle.mb_rig.specs.Merging.Lines.{no_key}
use Rattle.mb_rig.specs.Merging.Course.{start_of}
use Rattle.mb_rig.specs.declared.bay.Bay.{Bay}
use Rattle.mb_rig.specs.declared.feed.Feed.{Feed}
use Rattle.mb_rig.specs.declared.outlet.Outlet.{Outlet}

pub record BayBegins (s : Setup) (b : Bay) : Type 0 where
  pub router : b.router ≡ start_of s
  pub none : b.outs.items ≡ []
  pub flags : length b.stalled ≡ 16
  pub free : (x : ℕ) → is_stalled b x ≡ false
  pub first_key : turn_key b.greatest ≡ no_key 0

-- the links' handles begin at the next one of `start`
pub record FeedsOpened {S : Type 0} (tells : Bool) (contents : S → Contents) (ports : List RigPort) (limit : ℕ)
    (feeds : List Feed) (start : Contents) (at : S) : Type 0 where
  pub many : length feeds ≡ length ports
  pub here : (x : ℕ) (f : Feed) → slice_get feeds x ≡ Some f → IsTrue tells →
      f.link.supply.handle ≡ next_handle start + x
  pub own : (x : ℕ) (f : Feed) (port : RigPort) → slice_get feeds x ≡ Some f → slice_get ports x ≡ Some port →
      IsFeed port limit f.link.supply.handle f
  pub each : (x : ℕ) (f : Feed) → slice_get feeds x ≡ Some f → LinkStands tells contents f.link at []
  pub more : IsTrue tells → OpenedMore start (contents at) (to_read ports)

abbrev pub nothing_put : List Outlet → List (List Put)
nothing_put outs = map (λ (o : Outlet). []) outs

-- the outs' handles begin at the next one of `start`
pub record OutsCreated {S : Type 0} (tells : Bool) (contents : S → Contents) (ports : List RigPort)
    (outs : List Outlet) (start : Contents) (at : S) : Type 0 where
  pub specs : map outlet_spec outs ≡ specs_of ports
  pub stand : OutsStand tells contents (next_handle start) outs at (nothing_put outs)
  pub more : IsTrue tells → CreatedMore start (contents at) (to_write ports)

pub record FeedsReady {S : Type 0} (tells : Bool) (contents : S → Contents) (s : Setup) (base limit : ℕ)
    (feeds : List Feed) (at : S) : Type 0 where
  pub are : AreFeeds tells s base limit feeds
  pub each : (x : ℕ) (f : Feed) → slice_get feeds x ≡ Some f → LinkStands tells contents f.link at []

pub record FeedsStarted {S : Type 0} (tells : Bool) (contents : S → Contents) (s : Setup) (base limit : ℕ)
    (feeds : List Feed) (at : S) : Type 0 where
  pub are : AreFeeds tells s base limit feeds
  pub each : (x : ℕ) (f : Feed) → slice_get feeds x ≡ Some f →
      FeedStands tells contents x f at (key_by x f.record) []

pub record FeedsHalted {S : Type 0} (tells : Bool) (contents : S → Contents) (s : Setup) (base limit : ℕ)
    (feeds : List Feed) (at : S) : Type 0 where
  pub are : AreFeeds tells s base limit feeds
  pub fronts : (x : ℕ) (f : Feed) → slice_get feeds x ≡ Some f → FeedFront tells contents f at []

-- the outs' handles begin at `first`
pub record RunBegins {S : Type 0} (tells : Bool) (contents : S → Contents) (s : Setup) (before : List ℕ)
    (base first limit : ℕ) (feeds : List Feed) (b : Bay) (at : S) : Type 0 where
  pub right : IsRig s
  pub router : b.router ≡ start_of s
  pub flags : length b.stalled ≡ 16
  pub free : (x : ℕ) → is_stalled b x ≡ false
  pub first_key : turn_key b.greatest ≡ no_key 0
  pub ready : FeedsReady tells contents s base limit feeds at
  pub specs : map outlet_spec b.outs.items ≡ specs_of s.outs
  pub outs : OutsStand tells contents first b.outs.items at (nothing_put b.outs.items)
  pub report : IsTrue tells → (contents at).written 1 ≡ before
  pub behind : 3 ≤ first
