-- What is kept of real-time lines, call by call of the router.
--
--   stands p is_open held    the run that a play is, of what its router tells
--   places_of p x            the places of the held tags of a source
--   PlaceFits t              a tag's line has its place, and is real-time where its sign is
--   IsLatest p t             each line of the tag's source in the report has a lower place
--   RealtimesFit routes p .. the third part of merged holds of the report, and what its next lines need
use Rattle.std.specs.Prelude.{◌≡◌, ℕ, ◌<◌, Bool, true, false, List, map, Some, None, slice_get}
use Rattle.mb_rig.specs.Merging.Lines.{Key, no_key, is_realtime, Line}
use Rattle.mb_rig.specs.Merging.Report.{Passing}
use Rattle.mb_rig.specs.Merging.Merged.{realtimes_merged}
use Rattle.mb_rig.specs.Merging.Run.{Run}
use Rattle.mb_rig.specs.Merging.Unbroken.{Overtaken}
use Rattle.mb_rig.specs.Merging.Tags.{Tag, is_realtime_sign}
use Rattle.mb_rig.specs.Merging.Playing.{Play, report_of}
use Rattle.mb_rig.specs.Merging.Order.{newest, sharing}

abbrev pub stands : Play → (ℕ → Bool) → (ℕ → List Key) → Run
stands p is_open held = record {
  is_open = is_open;
  held = held;
  present = λ x. None;
  stalled = λ x. false;
  greatest = no_key 0;
  report = newest p;
}

abbrev pub places_of : Play → ℕ → List ℕ
places_of p x = map (λ (t : Tag). t.place) (p.held x)

abbrev pub PlaceFits : Tag → Type 0
PlaceFits t = (line : Line) → t.line ≡ Some line → (line.place ≡ t.place) ×
    (is_realtime line.event ≡ is_realtime_sign t.sign)

abbrev pub IsLatest : Play → Tag → Type 0
IsLatest p t = (k : ℕ) (z : Passing) → slice_get (newest p) k ≡ Some z → z.line.source ≡ t.source →
    z.line.place < t.place

pub record RealtimesFit (routes : List (ℕ × ℕ)) (p : Play) (is_open : ℕ → Bool) (held : ℕ → List Key) : Type 0 where
  pub overtaken : Overtaken (sharing routes) (places_of p) (stands p is_open held)
  pub merged : realtimes_merged routes (report_of p.passed) ≡ true
