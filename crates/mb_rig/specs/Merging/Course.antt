-- What a run of a rig keeps true, event by event.
--
--   Links                    of each link: the key of its record under way or else of its next, whether it is stalled,
--                            and the marks of it that the router took
--   greater K k              the greatest key behind a step at this one
--   gives links x moment m   a mark more was taken of a link
--   renews links x next      a link's record is used up, and this key is that of its next record, if it has one
--   stalls links x           a link is stalled
--   freed links x            a held mark of it passed: no link of which fewer than 1,024 marks are held is stalled
--   IsReached start m        some calls of a router lead there
--   MayOffer ..              what a step knows as it offers a mark
--   Offering ..              what is known of the mark just offered, until it passes
--   Course s m links K play  the router plays the tags; the report is merged and in order so far; what went to each out
--                            may stand there; the tags that were taken are those of the marks given
use Rattle.std.specs.Prelude.{◌≡◌, ◌≢◌, ℕ, ◌<◌, ◌≤◌, Bool, true, false, ◌==◌, if◌then◌else◌, List, [], ◌∷◌, ◌++◌}
use Rattle.std.specs.Prelude.{length, filter, Option, Some, None}
use Rattle.mb_message.specs.declared.mark.Mark.{Mark}
use Rattle.mb_message.specs.Signs.{Sign, sign_of, suits_sign}
use Rattle.mb_stream.specs.Puts.{Put, At, signs_in}
use Rattle.mb_stream.specs.Standing.{is_open}
use Rattle.mb_merge.specs.declared.source.Held.{Held}
use Rattle.mb_merge.specs.Links.{Merger, link_of}
use Rattle.mb_merge.specs.Opening.{opened}
use Rattle.mb_merge.specs.Passing.{has_room}
use Rattle.mb_merge.specs.Calls.{Call, after_calls, begins, goes_to}
use Rattle.mb_rig.specs.RigText.{Setup}
use Rattle.mb_rig.specs.Merging.Lines.{Key, Line, arrival_of, is_below, is_sysex, key_at}
use Rattle.mb_rig.specs.Merging.Run.{AtMost}
use Rattle.mb_rig.specs.Merging.Unbroken.{HasOwner}
use Rattle.mb_rig.specs.Merging.Routed.{open_of, keys_of}
use Rattle.mb_rig.specs.Merging.Tags.{Tag, AreTags, IsTag, is_realtime_sign, is_tag_of, tags_of}
use Rattle.mb_rig.specs.Merging.Playing.{Play, tags_passed}
use Rattle.mb_rig.specs.Merging.Tags.{tag_at, under_of}
use Rattle.mb_rig.specs.Merging.Playing.{RisesFrom, begin_of}
use Rattle.mb_rig.specs.Merging.Order.{Order, sharing}
use Rattle.mb_rig.specs.Merging.Realtimes.{RealtimesFit, IsLatest, places_of, stands}
use Rattle.mb_rig.specs.Merging.Places.{AreBelow, Places}
use Rattle.mb_rig.specs.Merging.Heard.{MayGo, OutsKnown, opens_sign}

pub record Links : Type 0 where
  pub present : ℕ → Option Key
  pub stalled : ℕ → Bool
  pub given : ℕ → List Put

abbrev pub at_link : {A : Type 0} → (ℕ → A) → (x : ℕ) → A → ℕ → A
at_link f x a other = if other == x then a else f other

abbrev pub gives : Links → (x moment : ℕ) → Sign → Links
gives links x moment sign = record {
  present = links.present;
  stalled = links.stalled;
  given = at_link links.given x (links.given x ++ At moment sign ∷ []);
}

abbrev pub renews : Links → (x : ℕ) → Option Key → Links
renews links x next = record {
  present = at_link links.present x next;
  stalled = links.stalled;
  given = links.given;
}

abbrev pub stalls : Links → (x : ℕ) → Links
stalls links x = record {
  present = links.present;
  stalled = at_link links.stalled x true;
  given = links.given;
}

abbrev pub freed : Links → (x : ℕ) → Links
freed links x = record {
  present = links.present;
  stalled = at_link links.stalled x false;
  given = links.given;
}

abbrev pub greater : Key → Key → Key
greater K k = if is_below K k then k else K

abbrev pub start_of : Setup → Merger
start_of s = opened (length s.ins) (length s.outs) s.routes

pub record IsReached (start m : Merger) : Type 0 where
  pub calls : List Call
  pub now : (after_calls (begins start) calls).now ≡ m

abbrev pub goes_out : Setup → (out source : ℕ) → Bool
goes_out s out source = goes_to (start_of s) out source

-- held marks come in the order of their moments, and none is later than the last one taken
abbrev pub IsNotAfter : ℕ → List Held → Type 0
IsNotAfter n [] = Unit {0}
IsNotAfter n (h ∷ hs) = n ≤ h.arrival

abbrev pub AreSorted : List Held → (last : ℕ) → Type 0
AreSorted [] last = Unit {0}
AreSorted (h ∷ hs) last = IsNotAfter h.arrival hs × (h.arrival ≤ last) × AreSorted hs last

pub record Offering (s : Setup) (m : Merger) (links : Links) (K : Key) (play : Play) (t : Tag) : Type 0 where
  pub is_tag : IsTag t
  pub free : links.stalled t.source ≡ false
  pub here : links.present t.source ≡ Some t.key
  pub within : AtMost t.key K
  -- no line of its source has passed, and none is held, that stands behind it
  pub place : t.place < (under_of t.source (links.given t.source)).place
  pub fresh : AreBelow (places_of play t.source) t.place
  pub latest : IsLatest play t
  pub opening : opens_sign (open_of m t.source) t.sign ≡ true → (link_of m t.source).held ≡ []
  -- a mark that keeps its turn passes behind all of its source
  pub alone : is_realtime_sign t.sign ≡ false → (link_of m t.source).held ≡ []
  pub begun : (l : Line) → t.line ≡ Some l → is_sysex l.event ≡ true → l.begin ≡ begin_of play t.source
  pub may_go : MayGo (goes_out s) (open_of m) t
  pub waits : is_realtime_sign t.sign ≡ true → play.held t.source ≢ [] →
      HasOwner (sharing s.routes) (stands play (open_of m) (keys_of m)) t.source (λ o. Unit {0})

-- of sources that there are
abbrev pub AreWithin : (count : ℕ) → List Tag → Type 0
AreWithin count [] = Unit {0}
AreWithin count (t ∷ ts) = (t.source < count) × AreWithin count ts

-- what a step knows as it offers a mark of a link
pub record MayOffer (s : Setup) (m : Merger) (links : Links) (K : Key) (x moment : ℕ) (mark : Mark) : Type 0 where
  pub source : x < length s.ins
  pub free : links.stalled x ≡ false
  pub here : links.present x ≡ Some (key_at moment x)
  pub within : AtMost (key_at moment x) K
  pub suits : suits_sign (is_open (signs_in (links.given x))) (sign_of mark) ≡ true
  pub drained : m.draining ≡ false
  pub room : has_room m x mark ≡ true

abbrev pub next_tag : Links → (x moment : ℕ) → Sign → Tag
next_tag links x moment sign = tag_at x (under_of x (links.given x)) (key_at moment x) sign

pub record Course (s : Setup) (m : Merger) (links : Links) (K : Key) (play : Play) : Type 0 where
  pub reached : IsReached (start_of s) m
  pub order : Order s.routes m play links.present links.stalled K
  pub realtimes : RealtimesFit s.routes play (open_of m) (keys_of m)
  pub places : Places play (λ x. (under_of x (links.given x)).place)
  pub outs : OutsKnown (goes_out s) (open_of m) (tags_passed play)
  pub rises : RisesFrom 0 play.passed (arrival_of K)
  pub held_tags : (x : ℕ) → AreTags (play.held x)
  pub passed_tags : AreTags (tags_passed play)
  pub sources : AreWithin (length s.ins) (tags_passed play)
  pub taken : (x : ℕ) → filter (is_tag_of x) play.taken ≡ tags_of x (links.given x)
  pub sorted : (x : ℕ) → AreSorted (link_of m x).held (link_of m x).last
  pub full : (x : ℕ) → links.stalled x ≡ true → 1024 ≤ length (link_of m x).held
  pub sysex : (x : ℕ) → (link_of m x).in_sysex ≡ is_open (signs_in (links.given x))
  -- a link without a record has given all its marks, behind which no SysEx is open
  pub over : (x : ℕ) → links.present x ≡ None → is_open (signs_in (links.given x)) ≡ false
  -- where it has one, the router may take marks of its moment
  pub in_time : (x : ℕ) (k : Key) → links.present x ≡ Some k → ((link_of m x).last ≤ k.moment) × (k.link ≡ x)
  pub offering : (t : Tag) → play.offered ≡ Some t → Offering s m links K play t

-- a run that has read nothing; the links' first keys are known
abbrev pub first_links : (ℕ → Option Key) → Links
first_links present = record { present = present; stalled = λ x. false; given = λ x. [] }

abbrev pub AreOfLinks : (ℕ → Option Key) → Type 0
AreOfLinks present = (x : ℕ) (k : Key) → present x ≡ Some k → k.link ≡ x

-- no link that may step has a lower key
abbrev pub IsLeastKey : Links → Key → Type 0
IsLeastKey links k = (x : ℕ) (c : Key) → links.stalled x ≡ false → links.present x ≡ Some c → AtMost k c

-- The next record of a link isn't earlier; where there is none, no SysEx is open behind its marks.
pub record IsNextKey (links : Links) (x : ℕ) (k : Key) (next : Option Key) : Type 0 where
  pub later : (c : Key) → next ≡ Some c → AtMost k c × (c.link ≡ x)
  pub closed : next ≡ None → is_open (signs_in (links.given x)) ≡ false
