-- A run by its router.
--
--   key_of source held       the key of a held mark
--   run_of m ..              what a run tells of its router
--   open_of m, keys_of m     which sources are open, and the keys of what each holds
--   Shares shares m          which sources share, by their outs
use Rattle.std.specs.Prelude.{◌≡◌, ℕ, ◌<◌, Bool, not, ◌&&◌, ◌==◌, List, length, map, Option}
use Rattle.mb_merge.specs.declared.source.Held.{Held}
use Rattle.mb_merge.specs.Links.{Merger, link_of, share}
use Rattle.mb_rig.specs.Merging.Lines.{Key}
use Rattle.mb_rig.specs.Merging.Report.{Passing}
use Rattle.mb_rig.specs.Merging.Run.{Run}

abbrev pub key_of : ℕ → Held → Key
key_of source h = record { moment = h.arrival; link = source }

abbrev pub open_of : Merger → ℕ → Bool
open_of m x = (link_of m x).is_open

abbrev pub keys_of : Merger → ℕ → List Key
keys_of m x = map (key_of x) (link_of m x).held

abbrev pub run_of : Merger → (ℕ → Option Key) → (ℕ → Bool) → Key → List Passing → Run
run_of m present stalled greatest report = record {
  is_open = λ x. (link_of m x).is_open;
  held = λ x. map (key_of x) (link_of m x).held;
  present = present;
  stalled = stalled;
  greatest = greatest;
  report = report;
}

abbrev pub Shares : (ℕ → ℕ → Bool) → Merger → Type 0
Shares shares m = (o x : ℕ) → o < length m.links → x < length m.links →
    shares o x ≡ (not (o == x) && share (link_of m o).outs (link_of m x).outs)
