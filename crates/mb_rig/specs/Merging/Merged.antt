-- A report that is merged from its sources. The project's own.
--
--   IsOfSource puts x report     the lines of a source are those of its marks, in their order, the real-time ones apart
--   AreOfSources sources report  so are those of all sources
--   meant_by lines               what the lines to an out denote
--   realtimes_merged routes r    a real-time line stands before an earlier line of its source only behind a SysEx line
--                                of another that shares, and never behind a later one
use Rattle.std.specs.Prelude.{◌≡◌, ℕ, ◌+◌, Bool, true, not, ◌&&◌, ◌||◌, nat_lt, ◌==◌, if◌then◌else◌, List, [], ◌∷◌}
use Rattle.std.specs.Prelude.{filter}
use Rattle.std.specs.List.{list_any}
use Rattle.mb_stream.specs.Denotation.{Meant, Message, Syx, Broken, Timed, Denotation}
use Rattle.mb_stream.specs.Puts.{Put}
use Rattle.mb_message.specs.Front.{IsFront}
use Rattle.mb_rig.specs.Merging.Lines.{Ends, Realtime, is_realtime, Line, lines_of, Source, marks_of}
use Rattle.mb_rig.specs.Merging.Report.{Passing, lines_in, may_hold, each_fits}

abbrev pub in_turn : Line → Bool
in_turn x = not (is_realtime x.event)

abbrev pub is_at_once : Line → Bool
is_at_once x = is_realtime x.event

-- First part: the lines that aren't real-time are the source's in order, and so are those that are.
pub record IsOfSource (puts : List Put) (source : ℕ) (report : List Passing) : Type 0 where
  pub turns : filter in_turn (lines_in source report) ≡ filter in_turn (lines_of source puts)
  pub realtimes : filter is_at_once (lines_in source report) ≡ filter is_at_once (lines_of source puts)

-- where a run stopped
pub record IsFrontOfSource (puts : List Put) (source : ℕ) (report : List Passing) : Type 0 where
  pub turns : IsFront (filter in_turn (lines_in source report)) (filter in_turn (lines_of source puts))
  pub realtimes : IsFront (filter is_at_once (lines_in source report)) (filter is_at_once (lines_of source puts))

abbrev pub AreOfSources : (at : ℕ) → List Source → List Passing → Type 0
AreOfSources at [] report = Unit {0}
AreOfSources at (s ∷ ss) report = IsOfSource (marks_of s) at report × AreOfSources (at + 1) ss report

abbrev pub AreFrontsOfSources : (at : ℕ) → List Source → List Passing → Type 0
AreFrontsOfSources at [] report = Unit {0}
AreFrontsOfSources at (s ∷ ss) report = IsFrontOfSource (marks_of s) at report × AreFrontsOfSources (at + 1) ss report

-- Second part: the items, and each real-time message with the number of messages and whole SysEx before it.
abbrev pub items_of : List Line → List Meant
items_of [] = []
items_of (x ∷ xs) = elim x.event [ Ends item ↦ item ∷ items_of xs | Realtime byte ↦ items_of xs ]

abbrev pub counts_one : Meant → ℕ
counts_one (Message s a b) = 1
counts_one (Syx bytes) = 1
counts_one (Broken bytes) = 0

abbrev pub realtimes_of : ℕ → List Line → List Timed
realtimes_of n [] = []
realtimes_of n (x ∷ xs) = elim x.event [
  | Ends item ↦ realtimes_of (n + counts_one item) xs
  | Realtime b ↦ record { byte = b; after = n } ∷ realtimes_of n xs
]

abbrev pub meant_by : List Line → Denotation
meant_by xs = record { items = items_of xs; realtimes = realtimes_of 0 xs }

-- Third part, going back from x: `between` are the lines passed over so far.
abbrev pub overtakes : List (ℕ × ℕ) → (between : List Passing) → Line → Bool
overtakes routes between x = list_any (λ (y : Passing). may_hold routes y.line x) between

abbrev pub realtimes_fit : List (ℕ × ℕ) → Line → (between before : List Passing) → Bool
realtimes_fit routes x between [] = true
realtimes_fit routes x between (p ∷ before) =
    (not (p.line.source == x.source)
    || (if is_realtime x.event
    then is_realtime p.line.event || nat_lt p.line.place x.place
    else not (is_realtime p.line.event) || (nat_lt p.line.place x.place || overtakes routes between x)))
    && realtimes_fit routes x (p ∷ between) before

abbrev pub realtimes_merged : List (ℕ × ℕ) → List Passing → Bool
realtimes_merged routes report = each_fits (λ p before. realtimes_fit routes p.line [] before) report
