-- What holds of a router over any list of calls.
--
--   Call                  an offer, or a call for the next mark
--   History               what was taken and what has passed, in order, and the router now
--   after_calls h calls   the history behind calls
--   waiting m s           the marks of a source that were taken and haven't passed, but for real-time ones
--   open_by s marks       whether a SysEx of a source is open behind marks
--   IsFresh m             nothing was taken
--   IsOrderly h           no mark passes twice and none is lost, each source's order is kept, no two dumps mix, and a
--                         drained router holds a mark only where it waits for another source
--   IsTracked start h     what is kept of each source is what the marks taken and passed say; its outs stay
--   to_out m out marks    those of a source that goes to an out
--   NoneMayPass m         no first held mark may pass now
--   AreSuiting open ms    the marks may stand one after another, a SysEx being open before them or not
--   IsUnmixed start ms    what passed to an out may stand there, and no mark but a real-time one stands inside another
--                         source's SysEx there
use Rattle.std.specs.Prelude.{slice_index_or, ◌≡◌, ◌≢◌, ℕ, ◌<◌, ◌≤◌, ◌⊎◌, Bool, true, false, not, ◌&&◌, ◌==◌, nat_lt}
use Rattle.std.specs.Prelude.{nat_le, if◌then◌else◌, List, [], ◌∷◌, ◌++◌, length, map, filter, Option, Some, None}
use Rattle.mb_message.specs.declared.mark.Mark.{Mark}
use Rattle.mb_message.specs.Signs.{sign_of, suits_sign}
use Rattle.mb_merge.specs.declared.source.Held.{Held}
use Rattle.mb_merge.specs.declared.router.Passed.{Passed}
use Rattle.mb_merge.specs.declared.waiting.Head.{Head}
use Rattle.mb_merge.specs.Links.{Link, Merger, link_at, link_of, share, is_owned}
use Rattle.mb_merge.specs.Passing.{has_room, is_realtime_mark, may_pass, next_of, offered_in, opens, ready_head}

pub data Call : Type 0 where
  Offer : (source moment : ℕ) → Mark → Call
  Next : Call

pub record History : Type 0 where
  pub taken : List Passed
  pub passed : List Passed
  pub now : Merger

abbrev pub begins : Merger → History
begins m = record { taken = []; passed = []; now = m }

-- what `offer` asks for, and room
abbrev pub may_offer : Merger → (source moment : ℕ) → Mark → Bool
may_offer m source moment mark =
    nat_lt source (length m.links) && (suits_sign (link_of m source).in_sysex (sign_of mark)
    && (nat_le (link_of m source).last moment && (not m.draining && has_room m source mark)))

abbrev pub one : {X : Type 0} → Option X → List X
one None = []
one (Some x) = x ∷ []

abbrev pub taken_in : History → (source moment : ℕ) → Mark → History
taken_in h source moment mark = record {
  taken = h.taken ++ (record { source = source; arrival = moment; mark = mark }) ∷ [];
  passed = h.passed;
  now = offered_in h.now source moment mark;
}

abbrev pub passed_in : History → Option Passed × Merger → History
passed_in h next = record { taken = h.taken; passed = h.passed ++ one next.0; now = next.1 }

-- An offer that may not be made, or that finds no room, changes nothing.
abbrev pub after_call : History → Call → History
after_call h (Offer source moment mark) =
    if may_offer h.now source moment mark then taken_in h source moment mark else h
after_call h Next = passed_in h (next_of h.now)

abbrev pub after_calls : History → List Call → History
after_calls h [] = h
after_calls h (call ∷ calls) = after_calls (after_call h call) calls

-- a mark of a source that keeps its turn, and one that doesn't
abbrev pub in_turn : (source : ℕ) → Passed → Bool
in_turn source p = (p.source == source) && not (is_realtime_mark p.mark)

abbrev pub at_once : (source : ℕ) → Passed → Bool
at_once source p = (p.source == source) && is_realtime_mark p.mark

abbrev pub waits : (source : ℕ) → Held → Passed
waits source h = record { source = source; arrival = h.arrival; mark = h.mark }

-- the mark just offered, where it is to pass, and those held
abbrev pub waiting : Merger → (source : ℕ) → List Passed
waiting m source = filter (in_turn source) (one m.offered) ++ map (waits source) (link_of m source).held

pub record IsClosed (link : Link) : Type 0 where
  pub not_open : link.is_open ≡ false
  pub outside : link.in_sysex ≡ false
  pub nothing : link.held ≡ []

pub record IsFresh (m : Merger) : Type 0 where
  pub drained : m.draining ≡ false
  pub nothing : m.offered ≡ None
  pub closed : (source : ℕ) → IsClosed (link_of m source)

-- Two sources with an open SysEx have no out in common.
pub record IsExclusive (links : List Link) : Type 0 where
  pub apart : (i j : ℕ) → i < length links → j < length links → i ≢ j →
      (link_at links i).is_open ≡ true → (link_at links j).is_open ≡ true →
      share (link_at links i).outs (link_at links j).outs ≡ false

-- A source that owns its outs holds nothing; a first held mark waits for an out that another source owns.
pub record IsSettled (m : Merger) : Type 0 where
  pub owners : (source : ℕ) → source < length m.links → (link_of m source).is_open ≡ true → (link_of m source).held ≡ []
  pub waits_for : (source : ℕ) (h : Held) (hs : List Held) → source < length m.links →
      (link_of m source).held ≡ h ∷ hs → is_owned m.links source ≡ true

pub record IsOrderly (h : History) : Type 0 where
  -- what was taken of a source is what has passed, and behind it what waits: none twice, none lost, in its order
  pub turns : (source : ℕ) → filter (in_turn source) h.taken ≡ filter (in_turn source) h.passed ++ waiting h.now source
  -- a real-time mark has passed, or is the one just offered
  pub realtimes : (source : ℕ) →
      filter (at_once source) h.taken ≡ filter (at_once source) h.passed ++ filter (at_once source) (one h.now.offered)
  pub exclusive : IsExclusive h.now.links
  -- a mark just offered is still to pass only while the router is draining
  pub idle : h.now.draining ≡ false → h.now.offered ≡ None
  pub settled : h.now.draining ≡ false → IsSettled h.now
  -- a first held mark is one that may come next, by what has passed of its source
  pub heads_suit : h.now.offered ≡ None → (source : ℕ) (held : Held) (more : List Held) → source < length h.now.links →
      (link_of h.now source).held ≡ held ∷ more → suits_sign (link_of h.now source).is_open (sign_of held.mark) ≡ true

-- what it means to be first
abbrev pub IsLeast : List Link → Option Head → Type 0
IsLeast links None = (source : ℕ) → source < length links → ready_head links source ≡ None
IsLeast links (Some best) =
    (ready_head links best.source ≡ Some best)
    × (best.source < length links)
    × ((source : ℕ) (other : Head) → source < length links → ready_head links source ≡ Some other →
    (best.arrival < other.arrival) ⊎ ((best.arrival ≡ other.arrival) × (best.source ≤ source)))

abbrev pub NoneMayPass : Merger → Type 0
NoneMayPass m =
    (source : ℕ) (held : Held) (more : List Held) → source < length m.links →
    (link_of m source).held ≡ held ∷ more → may_pass m.links source held.mark ≡ false

abbrev pub open_step : (source : ℕ) → Bool → Passed → Bool
open_step source before p = if p.source == source then opens before p.mark else before

abbrev pub open_from : (source : ℕ) → (before : Bool) → List Passed → Bool
open_from source before [] = before
open_from source before (p ∷ ps) = open_from source (open_step source before p) ps

-- From a SysEx's start to its end or break.
abbrev pub open_by : (source : ℕ) → List Passed → Bool
open_by source marks = open_from source false marks

pub record IsTracked (start : Merger) (h : History) : Type 0 where
  pub sources : length h.now.links ≡ length start.links
  pub outs : h.now.outs ≡ start.outs
  pub routes : (source : ℕ) → (link_of h.now source).outs ≡ (link_of start source).outs
  -- a source owns from the passing of its SysEx's start to the passing of its end or break
  pub opened : (source : ℕ) → (link_of h.now source).is_open ≡ open_by source h.passed
  -- and its next mark suits by what was taken
  pub sysex : (source : ℕ) → (link_of h.now source).in_sysex ≡ open_by source h.taken

abbrev pub goes_to : Merger → (out source : ℕ) → Bool
goes_to m out source = slice_index_or (link_of m source).outs out false

abbrev pub to_out : Merger → (out : ℕ) → List Passed → List Passed
to_out m out marks = filter (λ p. goes_to m out p.source) marks

abbrev pub AreSuiting : (open_now : Bool) → List Passed → Type 0
AreSuiting open_now [] = Unit {0}
AreSuiting open_now (p ∷ ps) = (suits_sign open_now (sign_of p.mark) ≡ true) × AreSuiting (opens open_now p.mark) ps

pub record IsUnmixed (start : Merger) (passed : List Passed) : Type 0 where
  -- whatever sources go to it
  pub suits : (out : ℕ) → AreSuiting false (to_out start out passed)
  -- where another source's SysEx is open, a mark passes only if they have no out in common
  pub alone : (before after : List Passed) (p : Passed) → passed ≡ before ++ p ∷ after →
      is_realtime_mark p.mark ≡ false →
      (other : ℕ) → other < length start.links → other ≢ p.source → open_by other before ≡ true →
      share (link_of start other).outs (link_of start p.source).outs ≡ false
