-- Where marks pass: the router, the outs, which links are stalled, and the greatest key of any step so far.
--
--   turn_key turn               the key of a turn
--   is_stalled b link           whether a link is stalled
--   marks_put puts              the marks alone, with their moments: flushes left out
--   AreHanded routes out ps p   each out, from this one on, was put the marks that passed to it, with flushes between
--   BayStands ..                the bay of a run that has come so far
--   BayWrote first count ..     standard output and some of these handles were written to, and nothing else changed
--   HasRoom m links x           a link that isn't stalled has room for a mark more
--   KeepRoom m links ..         no other link has lost its room
--   BayGoes ..                  where a call left it: links go on with the same keys
--   OffersOf m x                the mark just offered, if it is to pass, is of this source
--   MayHand ..                  what a step knows as it hands on a mark of a link
--   HandedOn taken links x ..   the mark was taken, or the link was stalled
--   BayBroke ..                 a write failed: of the report of what passed, also as it failed, a front was written
--   BayEnds ..                  each out has all that what passed to it is written as
use Rattle.std.specs.Prelude.{◌≡◌, ◌≢◌, ℕ, ◌+◌, ◌<◌, ◌≤◌, Bool, true, false, List, [], ◌∷◌, ◌++◌, length, map}
use Rattle.std.specs.Prelude.{Some, None, IsTrue, slice_get, slice_index_or}
use Rattle.mb_message.specs.declared.mark.Mark.{Mark}
use Rattle.mb_message.specs.Front.{IsFront}
use Rattle.mb_message.specs.Signs.{Sign, sign_of, suits_sign}
use Rattle.mb_stream.specs.Puts.{Put, At, Flush, signs_in}
use Rattle.mb_stream.specs.Standing.{is_open}
use Rattle.mb_outside.specs.Contents.{Contents}
use Rattle.mb_merge.specs.declared.router.Passed.{Passed}
use Rattle.mb_merge.specs.Links.{Merger, link_of}
use Rattle.mb_carrier.specs.Carrier.{written}
use Rattle.mb_rig.specs.RigText.{RigPort, Setup}
use Rattle.mb_rig.specs.Right.{specs_of}
use Rattle.mb_rig.specs.Outlet.{outlet_spec}
use Rattle.mb_rig.specs.Outs.{OutsStand}
use Rattle.mb_rig.specs.Merging.Lines.{Key, key_at}
use Rattle.mb_rig.specs.Merging.Run.{AtMost}
use Rattle.mb_rig.specs.Merging.Report.{text_of}
use Rattle.mb_rig.specs.Merging.Playing.{PassedTag, Play, report_of}
use Rattle.mb_rig.specs.Merging.Ended.{puts_to}
use Rattle.mb_rig.specs.Merging.Course.{Course, Links, gives, stalls}
use Rattle.mb_rig.specs.declared.bay.Bay.{Bay}
use Rattle.mb_rig.specs.declared.turn.Turn.{Turn}

abbrev pub turn_key : Turn → Key
turn_key turn = key_at turn.moment turn.link

abbrev pub is_stalled : Bay → (link : ℕ) → Bool
is_stalled b link = slice_index_or b.stalled link false

abbrev pub marks_put : List Put → List Put
marks_put [] = []
marks_put (At moment sign ∷ puts) = At moment sign ∷ marks_put puts
marks_put (Flush ∷ puts) = marks_put puts

abbrev pub AreHanded : (routes : List (ℕ × ℕ)) → (out : ℕ) → List (List Put) → List PassedTag → Type 0
AreHanded routes out [] passed = Unit {0}
AreHanded routes out (ps ∷ pss) passed =
    (marks_put ps ≡ puts_to routes out passed) × AreHanded routes (out + 1) pss passed

-- The outs' handles begin at `first`; standard output had these bytes before the run.
pub record BayStands {S : Type 0} (tells : Bool) (contents : S → Contents) (s : Setup) (before : List ℕ) (first : ℕ)
    (b : Bay) (at : S) (links : Links) (play : Play) : Type 0 where
  pub course : Course s b.router links (turn_key b.greatest) play
  pub stalled : (x : ℕ) → links.stalled x ≡ is_stalled b x
  pub putss : List (List Put)
  pub outs : OutsStand tells contents first b.outs.items at putss
  pub handed : AreHanded s.routes 0 putss play.passed
  pub many : length b.outs.items ≡ length s.outs
  pub few : length s.outs ≤ 16
  pub few_links : length s.ins ≤ 16
  pub flags : length b.stalled ≡ 16
  pub specs : map outlet_spec b.outs.items ≡ specs_of s.outs
  pub report : IsTrue tells → (contents at).written 1 ≡ before ++ text_of (report_of play.passed)
  pub behind : 3 ≤ first

pub record BayWrote {S : Type 0} (tells : Bool) (contents : S → Contents) (first count : ℕ) (before after : S)
    : Type 0 where
  pub left : IsTrue tells → (contents after).left ≡ (contents before).left
  pub taken : IsTrue tells → (contents after).taken ≡ (contents before).taken
  pub given : IsTrue tells → (contents after).given ≡ (contents before).given
  pub others : IsTrue tells → (h : ℕ) → h ≢ 1 → (first ≤ h → h < first + count → ⊥) →
      (contents after).written h ≡ (contents before).written h

abbrev pub HasRoom : Merger → Links → (x : ℕ) → Type 0
HasRoom m links x = links.stalled x ≡ false → length (link_of m x).held < 1024

-- a link other than `x` that had room has it still
abbrev pub KeepRoom : (m : Merger) → Links → (now : Merger) → Links → (x : ℕ) → Type 0
KeepRoom m links now links_now x = (y : ℕ) → y ≢ x → HasRoom m links y → HasRoom now links_now y

-- A mark of link `x` was handed on, or none was: the keys stay, what was given is this, no link is stalled but this
-- one.
pub record BayGoes {S : Type 0} (tells : Bool) (contents : S → Contents) (s : Setup) (before : List ℕ) (first : ℕ)
    (old new : Bay) (at : S) (links : Links) (x : ℕ) (given : ℕ → List Put) : Type 0 where
  pub links_now : Links
  pub play : Play
  pub stands : BayStands tells contents s before first new at links_now play
  pub drained : new.router.draining ≡ false
  pub present : (y : ℕ) → links_now.present y ≡ links.present y
  pub given_is : (y : ℕ) → links_now.given y ≡ given y
  pub free : (y : ℕ) → links.stalled y ≡ false → links_now.stalled y ≡ false
  pub room : KeepRoom old.router links new.router links_now x

abbrev pub OffersOf : Merger → (x : ℕ) → Type 0
OffersOf m x = (p : Passed) → m.offered ≡ Some p → p.source ≡ x

-- what a step knows as it hands on a mark of a link
pub record MayHand (s : Setup) (b : Bay) (links : Links) (x moment : ℕ) (mark : Mark) : Type 0 where
  pub source : x < length s.ins
  pub free : links.stalled x ≡ false
  pub here : links.present x ≡ Some (key_at moment x)
  pub within : AtMost (key_at moment x) (turn_key b.greatest)
  pub suits : suits_sign (is_open (signs_in (links.given x))) (sign_of mark) ≡ true
  pub drained : b.router.draining ≡ false

-- it was taken, and all that may pass has passed; or its link's ring is full, and the link is stalled
abbrev pub HandedOn : {S : Type 0} → Bool → (S → Contents) → Setup → List ℕ → ℕ → (old new : Bay) → (at : S) →
    Links → (x moment : ℕ) → Mark → Play → (taken : Bool) → Type 0
HandedOn tells contents s before first old new at links x moment mark play true =
    BayGoes tells contents s before first old new at links x (gives links x moment (sign_of mark)).given
HandedOn tells contents s before first old new at links x moment mark play false =
    BayStands tells contents s before first new at (stalls links x) play × (new.router ≡ old.router)
    × (HasRoom old.router links x → ⊥)

-- The marks of each link that were given are these.
pub record BayBroke {S : Type 0} (tells : Bool) (contents : S → Contents) (s : Setup) (before : List ℕ) (at : S)
    (given : ℕ → List Put) : Type 0 where
  pub router : Merger
  pub greatest : Key
  pub links : Links
  pub play : Play
  pub course : Course s router links greatest play
  pub idle : play.offered ≡ None
  pub given_is : (y : ℕ) → links.given y ≡ given y
  pub part : IsTrue tells → (front : List ℕ) × IsFront front (text_of (report_of play.passed))
      × ((contents at).written 1 ≡ before ++ front)

-- what an out was put, and what its handle has of it
pub record OutHas {S : Type 0} (tells : Bool) (contents : S → Contents) (s : Setup) (first out : ℕ) (port : RigPort)
    (at : S) (play : Play) : Type 0 where
  pub puts : List Put
  pub are : marks_put puts ≡ puts_to s.routes out play.passed
  pub has : IsTrue tells → (contents at).written (first + out) ≡ written port.spec puts

pub record BayEnds {S : Type 0} (tells : Bool) (contents : S → Contents) (s : Setup) (before : List ℕ) (first : ℕ)
    (at : S) (play : Play) : Type 0 where
  pub outs : (out : ℕ) (port : RigPort) → slice_get s.outs out ≡ Some port →
      OutHas tells contents s first out port at play
  pub report : IsTrue tells → (contents at).written 1 ≡ before ++ text_of (report_of play.passed)
