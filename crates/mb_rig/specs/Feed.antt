-- A link in a run: what it hears, the moment of its record under way or else of its next, and the mark that waits where
-- its ring was full.
--
--   key_by x moment            the key of a link's record, if it has one
--   waiting_by moment mark     the mark that waits, at its record's moment
--   feed_owed f                more than what may yet come of it, for loops to end
--   FeedStands .. x f at ..    link x, of whose marks these were given to the router, its record having this key
--   FeedFront ..               where it stopped: what was given is a front of the marks of what was taken off its tape,
--                              which is no more than may be
--   IsFeed port limit h f      it reads this port, from this handle, at most so many bytes
--   IsSameLink was now         the same tape, and the same track of it
--   FeedGave ..                a mark was given, which suits what was given before
--   FeedTurned ..              its record is used up: its next one isn't earlier, or no SysEx is open behind its marks
--   FeedGoes answer ..         the one or the other
use Rattle.std.specs.Prelude.{◌≡◌, ℕ, ◌+◌, ◌*◌, ◌≤◌, Bool, true, false, List, [], ◌∷◌, ◌++◌}
use Rattle.std.specs.Prelude.{Option, Some, None, IsTrue}
use Rattle.mb_message.specs.declared.mark.Mark.{Mark}
use Rattle.mb_message.specs.Front.{IsFront}
use Rattle.mb_message.specs.Signs.{sign_of, suits_sign}
use Rattle.mb_stream.specs.Puts.{Put, At, signs_in}
use Rattle.mb_stream.specs.Standing.{is_open}
use Rattle.mb_outside.specs.Contents.{Contents}
use Rattle.mb_track.specs.Track.{track_marks}
use Rattle.mb_track.specs.TrackReading.{track_moment, track_of, track_spec}
use Rattle.mb_rig.specs.RigText.{RigPort}
use Rattle.mb_rig.specs.Link.{LinkStands, link_owed}
use Rattle.mb_rig.specs.Supply.{IsCounted}
use Rattle.mb_rig.specs.Merging.Lines.{Key, key_at}
use Rattle.mb_rig.specs.declared.feed.Feed.{Feed}
use Rattle.mb_rig.specs.declared.link.Link.{Link}

abbrev pub key_by : (x : ℕ) → Option ℕ → Option Key
key_by x None = None
key_by x (Some moment) = Some (key_at moment x)

abbrev pub waiting_by : Option ℕ → Option Mark → List Put
waiting_by None waiting = []
waiting_by (Some moment) None = []
waiting_by (Some moment) (Some mark) = At moment (sign_of mark) ∷ []

abbrev pub count_waiting : Option Mark → ℕ
count_waiting None = 0
count_waiting (Some mark) = 1

abbrev pub count_record : Option ℕ → ℕ
count_record None = 0
count_record (Some moment) = 1

abbrev pub feed_owed : Feed → ℕ
feed_owed f = 2 * link_owed f.link + (count_record f.record + count_waiting f.waiting)

pub record FeedStands {S : Type 0} (tells : Bool) (contents : S → Contents) (x : ℕ) (f : Feed) (at : S)
    (present : Option Key) (given : List Put) : Type 0 where
  pub told : List Put
  pub stands : LinkStands tells contents f.link at told
  pub given_is : told ≡ given ++ waiting_by f.record f.waiting
  pub present_is : present ≡ key_by x f.record
  pub moment : (m : ℕ) → f.record ≡ Some m → track_moment f.link.reader ≡ m
  pub over : f.record ≡ None → f.link.over ≡ true

pub record FeedFront {S : Type 0} (tells : Bool) (contents : S → Contents) (f : Feed) (at : S) (given : List Put)
    : Type 0 where
  pub front : IsTrue tells → IsFront given (track_marks (track_spec f.link.reader) (track_of f.link.reader)
      ((contents at).taken f.link.supply.handle))
  pub counted : IsTrue tells → IsCounted f.link.supply (contents at)

pub record IsFeed (port : RigPort) (limit handle : ℕ) (f : Feed) : Type 0 where
  pub handle_is : f.link.supply.handle ≡ handle
  pub limit_is : f.link.supply.limit ≡ limit
  pub spec : track_spec f.link.reader ≡ port.spec
  pub track : track_of f.link.reader ≡ port.track

pub record IsSameLink (was now : Link) : Type 0 where
  pub handle : now.supply.handle ≡ was.supply.handle
  pub limit : now.supply.limit ≡ was.supply.limit
  pub spec : track_spec now.reader ≡ track_spec was.reader
  pub track : track_of now.reader ≡ track_of was.reader

pub record FeedGave {S : Type 0} (tells : Bool) (contents : S → Contents) (x : ℕ) (old new : Feed) (at : S)
    (present : Option Key) (given : List Put) (moment : ℕ) (mark : Mark) : Type 0 where
  pub stands : FeedStands tells contents x new at present (given ++ At moment (sign_of mark) ∷ [])
  pub record_is : new.record ≡ old.record
  pub none : new.waiting ≡ None
  pub suits : suits_sign (is_open (signs_in given)) (sign_of mark) ≡ true

pub record FeedTurned {S : Type 0} (tells : Bool) (contents : S → Contents) (x : ℕ) (new : Feed) (at : S)
    (given : List Put) (moment : ℕ) : Type 0 where
  pub stands : FeedStands tells contents x new at (key_by x new.record) given
  pub none : new.waiting ≡ None
  pub later : (next : ℕ) → new.record ≡ Some next → moment ≤ next
  pub closed : new.record ≡ None → is_open (signs_in given) ≡ false

abbrev pub FeedGoes : {S : Type 0} → Bool → (S → Contents) → (x : ℕ) → (old new : Feed) → (at : S) →
    (present : Option Key) → (given : List Put) → (moment : ℕ) → Option Mark → Type 0
FeedGoes tells contents x old new at present given moment None = FeedTurned tells contents x new at given moment
FeedGoes tells contents x old new at present given moment (Some mark) =
    FeedGave tells contents x old new at present given moment mark
