-- A report in order. The project's own. Of a line x, `before` are the lines before it, the newest first.
--
--   is_in_order routes x before   where a line z of a greater key stands before x, a SysEx line of another source that
--                                 shares stands before x, whose key isn't below z's
--   is_on_time routes x before    moments of passing don't fall; x passes at its arrival, or at the arrival of a SysEx
--                                 line before it of another source that shares
--   is_held_back routes x before  more exactly, where no link was ever stalled
--   is_orderly, is_orderly_unstalled      so of each line
use Rattle.std.specs.Prelude.{ℕ, Bool, not, ◌&&◌, ◌||◌, ◌==◌, nat_le, List}
use Rattle.std.specs.List.{list_any, list_all}
use Rattle.mb_rig.specs.Merging.Lines.{is_below, arrival_of, is_realtime, Line}
use Rattle.mb_rig.specs.Merging.Report.{Passing, may_hold, each_fits}

-- first part; y may be z
abbrev pub is_in_order : List (ℕ × ℕ) → Line → List Passing → Bool
is_in_order routes x before = list_all (λ (z : Passing).
    not (is_below x.key z.line.key)
    || list_any (λ (y : Passing). may_hold routes y.line x && not (is_below y.line.key z.line.key)) before) before

-- second part
abbrev pub is_on_time : List (ℕ × ℕ) → Passing → List Passing → Bool
is_on_time routes x before =
    list_all (λ (z : Passing). nat_le z.moment x.moment) before
    && (nat_le (arrival_of x.line.key) x.moment
    && ((arrival_of x.line.key == x.moment)
    || list_any (λ (y : Passing). may_hold routes y.line x.line && (arrival_of y.line.key == x.moment)) before))

-- Third part: where a line z of a greater key stands before x, x isn't real-time, a line that may hold it was under way
-- at z's key, and one at its own.
abbrev pub is_held_back : List (ℕ × ℕ) → Line → List Passing → Bool
is_held_back routes x before = list_all (λ (z : Passing).
    not (is_below x.key z.line.key)
    || (not (is_realtime x.event)
    && (list_any (λ (y : Passing). may_hold routes y.line x
    && (not (is_below y.line.key z.line.key) && not (is_below z.line.key y.line.begin))) before
    && list_any (λ (y : Passing). may_hold routes y.line x
    && (is_below y.line.begin x.key && is_below x.key y.line.key)) before))) before

abbrev pub is_orderly : List (ℕ × ℕ) → List Passing → Bool
is_orderly routes report =
    each_fits (λ p before. is_in_order routes p.line before && is_on_time routes p before) report

abbrev pub is_orderly_unstalled : List (ℕ × ℕ) → List Passing → Bool
is_orderly_unstalled routes report = each_fits (λ p before. is_held_back routes p.line before) report
