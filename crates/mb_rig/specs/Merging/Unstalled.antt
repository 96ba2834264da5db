-- What is kept of the order of a run in which no link was ever stalled, call by call of the router.
--
--   stands_at p .. K         the run that a play is, of what its router tells, K being the greatest key
--   IsOwn line               the keys of a line are of its source's link
--   UnstalledOrder ..        the third part of orderly holds of the report, and what its next lines need
use Rattle.std.specs.Prelude.{◌≡◌, ℕ, Bool, true, false, List, Some, None, slice_get}
use Rattle.mb_rig.specs.Merging.Lines.{Key, Line}
use Rattle.mb_rig.specs.Merging.Report.{Passing}
use Rattle.mb_rig.specs.Merging.Orderly.{is_orderly_unstalled}
use Rattle.mb_rig.specs.Merging.Run.{Run}
use Rattle.mb_rig.specs.Merging.Unbroken.{Unbroken}
use Rattle.mb_rig.specs.Merging.Tags.{Tag}
use Rattle.mb_rig.specs.Merging.Playing.{Play, report_of}
use Rattle.mb_rig.specs.Merging.Order.{Bounded, newest, sharing}

abbrev pub stands_at : Play → (ℕ → Bool) → (ℕ → List Key) → Key → Run
stands_at p is_open held K = record {
  is_open = is_open;
  held = held;
  present = λ x. None;
  stalled = λ x. false;
  greatest = K;
  report = newest p;
}

abbrev pub IsOwn : Line → Type 0
IsOwn line = (line.key.link ≡ line.source) × (line.begin.link ≡ line.source)

abbrev pub OwnFits : Tag → Type 0
OwnFits t = (line : Line) → t.line ≡ Some line → IsOwn line

-- `begin_of` is the key of an open source's Open.
pub record UnstalledOrder (routes : List (ℕ × ℕ)) (p : Play) (is_open : ℕ → Bool) (held : ℕ → List Key)
    (begin_of : ℕ → Key) (K : Key) : Type 0 where
  pub unbroken : Unbroken (sharing routes) begin_of (stands_at p is_open held K)
  pub bounded : Bounded K (newest p)
  pub own : (i : ℕ) (z : Passing) → slice_get (newest p) i ≡ Some z → IsOwn z.line
  pub exact : is_orderly_unstalled routes (report_of p.passed) ≡ true
