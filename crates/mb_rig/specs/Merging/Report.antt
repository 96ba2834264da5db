-- The report of a run: the lines that passed, in their order. The project's own.
--
--   Passing                  a line, and the moment of its passing in milliseconds
--   lines_in source report   the lines of a source
--   goes routes source out   there is a route from the source to the out
--   share routes s t         some out has routes from both sources
--   may_hold routes y x      y is a SysEx line of another source that shares with x's
--   lines_to routes out r    the lines to an out
--   text_of report           its text
--   kind_of_sign m           what a mark completes, if it does
--   moments_to routes out r  the moments of passing of the lines to an out that aren't broken
--   each_fits fits report    each line fits behind those before it, the newest first
use Rattle.std.specs.Prelude.{ℕ, Bool, true, false, not, ◌&&◌, ◌==◌, List, [], ◌∷◌, map, flat_map, filter, Option, Some}
use Rattle.std.specs.Prelude.{None}
use Rattle.std.specs.List.{list_any, range_with_len}
use Rattle.mb_merge.specs.Opening.{stands_in}
use Rattle.mb_message.specs.Signs.{Sign, ShortSign, RtSign, OpenSign, ByteSign, EndSign, AbortSign}
use Rattle.mb_stream.specs.Denotation.{Meant, Message, Syx, Broken}
use Rattle.mb_print.specs.Lines.{report_text}
use Rattle.mb_print.specs.declared.lines.Kind.{Kind}
use Rattle.mb_print.specs.declared.lines.Kind.TheVariants as kind
use Rattle.mb_rig.specs.Merging.Lines.{Ends, Event, Line, Realtime, arrival_of, is_sysex}

pub record Passing : Type 0 where
  pub line : Line
  pub moment : ℕ

abbrev pub is_of : ℕ → Passing → Bool
is_of source p = p.line.source == source

abbrev pub lines_in : ℕ → List Passing → List Line
lines_in source report = map (λ (p : Passing). p.line) (filter (is_of source) report)

abbrev pub goes : List (ℕ × ℕ) → (source out : ℕ) → Bool
goes routes source out = stands_in (source, out) routes

-- A rig has 16 outs at most.
abbrev pub share : List (ℕ × ℕ) → ℕ → ℕ → Bool
share routes s t = list_any (λ (out : ℕ). goes routes s out && goes routes t out) (range_with_len 0 16)

abbrev pub may_hold : List (ℕ × ℕ) → Line → Line → Bool
may_hold routes y x = is_sysex y.event && (not (y.source == x.source) && share routes y.source x.source)

abbrev pub lines_to : List (ℕ × ℕ) → ℕ → List Passing → List Line
lines_to routes out report =
    map (λ (p : Passing). p.line) (filter (λ (p : Passing). goes routes p.line.source out) report)

abbrev pub fits_behind : (Passing → List Passing → Bool) → (before : List Passing) → List Passing → Bool
fits_behind fits before [] = true
fits_behind fits before (p ∷ ps) = fits p before && fits_behind fits (p ∷ before) ps

abbrev pub each_fits : (Passing → List Passing → Bool) → List Passing → Bool
each_fits fits report = fits_behind fits [] report

-- The text of the report: a line of text for each.
abbrev pub kind_of_item : Meant → Kind
kind_of_item (Message s a b) = kind.M
kind_of_item (Syx bytes) = kind.S
kind_of_item (Broken bytes) = kind.B

abbrev pub kind_of_event : Event → Kind
kind_of_event (Ends item) = kind_of_item item
kind_of_event (Realtime b) = kind.R

abbrev pub line_text : Passing → List ℕ
line_text p = report_text (arrival_of p.line.key) p.moment p.line.source (kind_of_event p.line.event)

abbrev pub text_of : List Passing → List ℕ
text_of report = flat_map line_text report

-- and of a mark, where it completes something
abbrev pub kind_of_sign : Sign → Option Kind
kind_of_sign (ShortSign s a b) = Some kind.M
kind_of_sign (RtSign b) = Some kind.R
kind_of_sign OpenSign = None
kind_of_sign (ByteSign b) = None
kind_of_sign EndSign = Some kind.S
kind_of_sign AbortSign = Some kind.B

abbrev pub text_by : (arrival moment source : ℕ) → Option Kind → List ℕ
text_by arrival moment source None = []
text_by arrival moment source (Some k) = report_text arrival moment source k

abbrev pub is_broken : Event → Bool
is_broken (Ends (Message s a b)) = false
is_broken (Ends (Syx bytes)) = false
is_broken (Ends (Broken bytes)) = true
is_broken (Realtime b) = false

-- The moments of passing of the lines to an out, broken ones left out.
abbrev pub moments_to : List (ℕ × ℕ) → ℕ → List Passing → List ℕ
moments_to routes out report =
    map (λ (p : Passing). p.moment) (filter (λ (p : Passing). not (is_broken p.line.event))
    (filter (λ (p : Passing). goes routes p.line.source out) report))
