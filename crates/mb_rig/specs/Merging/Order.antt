-- What is kept of the order of a run, call by call of the router.
--
--   newest p                 the report, newest first
--   sharing routes o x       two sources share, by the routes
--   Bounded greatest before  no line has a key, or a moment, above the greatest key's
--   LineFits t               a tag's line is its source's and has its key
--   Order routes m p ..      the router plays the tags, and the report stands in order
use Rattle.std.specs.Prelude.{◌≡◌, ◌≤◌, ℕ, Bool, true, not, ◌&&◌, ◌==◌, List, reverse, map, Option, Some, slice_get}
use Rattle.mb_merge.specs.Links.{Merger, link_of}
use Rattle.mb_rig.specs.Merging.Lines.{Key, arrival_of, Line}
use Rattle.mb_rig.specs.Merging.Report.{Passing, share}
use Rattle.mb_rig.specs.Merging.Orderly.{is_orderly}
use Rattle.mb_rig.specs.Merging.Run.{AtMost, Lateness}
use Rattle.mb_rig.specs.Merging.Routed.{key_of, run_of}
use Rattle.mb_rig.specs.Merging.Tags.{Tag}
use Rattle.mb_rig.specs.Merging.Playing.{Play, Plays, InTurn, report_of}

abbrev pub newest : Play → List Passing
newest p = reverse (report_of p.passed)

-- which sources share, by the routes
abbrev pub sharing : List (ℕ × ℕ) → ℕ → ℕ → Bool
sharing routes o x = not (o == x) && share routes o x

-- nothing that has passed has a key, or a moment, above these
pub record Bounded (greatest : Key) (before : List Passing) : Type 0 where
  pub keys : (i : ℕ) (z : Passing) → slice_get before i ≡ Some z → AtMost z.line.key greatest
  pub moments : (i : ℕ) (z : Passing) → slice_get before i ≡ Some z → z.moment ≤ arrival_of greatest

-- a tag's line, if it completes one, is its source's and has its key
abbrev pub LineFits : Tag → Type 0
LineFits t = (line : Line) → t.line ≡ Some line → (line.source ≡ t.source) × (line.key ≡ t.key)

pub record Order (routes : List (ℕ × ℕ)) (m : Merger) (p : Play) (present : ℕ → Option Key) (stalled : ℕ → Bool)
    (greatest : Key) : Type 0 where
  pub plays : Plays m p
  pub turns : InTurn p
  pub late : Lateness (sharing routes) (run_of m present stalled greatest (newest p))
  -- keys of held marks aren't above the greatest
  pub within : (x i : ℕ) (k : Key) → slice_get (map (key_of x) (link_of m x).held) i ≡ Some k → AtMost k greatest
  pub bounded : Bounded greatest (newest p)
  pub orderly : is_orderly routes (report_of p.passed) ≡ true
