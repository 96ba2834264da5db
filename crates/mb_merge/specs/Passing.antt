-- Which mark passes next: the project's own. A real-time mark always may. The data and the end of a SysEx may where its
-- start has passed. A short message or a start may where no other source owns an out of its source. A mark that isn't
-- real-time also waits for all marks of its own source that are held before it. A mark passes to all outs of its source
-- at once.
--
--   may_pass ls s mark        whether a mark of a source may pass, whatever else of it is held
--   passes_now m s mark       whether it passes at once when it is offered
--   offered_in m s t mark     the router after an offer
--   next_of m                 the mark that passes next, and the router then
--   to_pass m                 how many marks were taken and haven't passed
use Rattle.std.specs.Prelude.{ℕ, zero, suc, ◌+◌, Bool, true, false, not, ◌&&◌, ◌||◌, ◌==◌, nat_lt, if◌then◌else◌, List}
use Rattle.std.specs.Prelude.{[], ◌∷◌, ◌++◌, length, drop, Option, Some, None, slice_get, sum_by}
use Rattle.mb_message.specs.declared.mark.Mark.{Mark}
use Rattle.mb_message.specs.declared.mark.Mark.TheVariants as mark
use Rattle.mb_merge.specs.declared.source.Held.{Held}
use Rattle.mb_merge.specs.declared.router.Passed.{Passed}
use Rattle.mb_merge.specs.declared.waiting.Head.{Head}
use Rattle.mb_merge.specs.Links.{Link, Merger, link_at, link_of, with_link, is_owned}

abbrev pub is_realtime_mark : Mark → Bool
is_realtime_mark (mark.Rt r) = true
is_realtime_mark (mark.Short s) = false
is_realtime_mark mark.Open = false
is_realtime_mark (mark.Byte b) = false
is_realtime_mark mark.End = false
is_realtime_mark mark.Abort = false

abbrev pub may_pass : List Link → (source : ℕ) → Mark → Bool
may_pass links source (mark.Rt r) = true
may_pass links source (mark.Short s) = not (is_owned links source)
may_pass links source mark.Open = not (is_owned links source)
may_pass links source (mark.Byte b) = (link_at links source).is_open
may_pass links source mark.End = (link_at links source).is_open
may_pass links source mark.Abort = (link_at links source).is_open

-- whether a SysEx is open behind a mark
abbrev pub opens : Bool → Mark → Bool
opens before (mark.Rt r) = before
opens before (mark.Short s) = before
opens before mark.Open = true
opens before (mark.Byte b) = before
opens before mark.End = false
opens before mark.Abort = false

-- the first held mark of a source, if it may pass
abbrev pub ready_by : List Link → (source : ℕ) → Option Held → Option Head
ready_by links source None = None
ready_by links source (Some h) =
    if may_pass links source h.mark then Some (record { arrival = h.arrival; source = source }) else None

abbrev pub ready_head : List Link → (source : ℕ) → Option Head
ready_head links source = ready_by links source (slice_get (link_at links source).held 0)

-- the one that arrived earlier, and of one arrival the first
abbrev pub better : (best next : Option Head) → Option Head
better None next = next
better (Some best) None = Some best
better (Some best) (Some next) = if nat_lt next.arrival best.arrival then Some next else Some best

abbrev pub least_below : List Link → (count : ℕ) → Option Head
least_below links zero = None
least_below links (suc n) = better (least_below links n) (ready_head links n)

abbrev pub least : List Link → Option Head
least links = least_below links (length links)

abbrev pub passes_now : Merger → (source : ℕ) → Mark → Bool
passes_now m source mark =
    is_realtime_mark mark || ((length (link_of m source).held == 0) && may_pass m.links source mark)

-- Held are 1,024 marks of a source at most.
abbrev pub has_room_in : Link → (passes : Bool) → Bool
has_room_in link passes = passes || nat_lt (length link.held) 1024

abbrev pub has_room : Merger → (source : ℕ) → Mark → Bool
has_room m source mark = has_room_in (link_of m source) (passes_now m source mark)

abbrev pub taken : Link → (passes : Bool) → (moment : ℕ) → Mark → Link
taken link passes moment mark = record {
  outs = link.outs;
  is_open = link.is_open;
  in_sysex = opens link.in_sysex mark;
  last = moment;
  held = if passes then link.held else link.held ++ (record { arrival = moment; mark = mark }) ∷ [];
}

abbrev pub offered_mark : (passes : Bool) → (source moment : ℕ) → Mark → Option Passed
offered_mark true source moment mark = Some (record { source = source; arrival = moment; mark = mark })
offered_mark false source moment mark = None

-- after a mark is taken: it is to pass now, or is held
abbrev pub offered_in : Merger → (source moment : ℕ) → Mark → Merger
offered_in m source moment mark = record {
  links = (with_link m source (taken (link_of m source) (passes_now m source mark) moment mark)).links;
  outs = m.outs;
  offered = offered_mark (passes_now m source mark) source moment mark;
  draining = true;
}

abbrev pub after_pass : Link → Mark → Link
after_pass link mark = record link { is_open = opens link.is_open mark }

abbrev pub after_head : Link → Mark → Link
after_head link mark = record link { is_open = opens link.is_open mark; held = drop 1 link.held }

abbrev pub drained : Merger → Merger
drained m = record m { draining = false }

-- the first held mark of a source passes
abbrev pub head_passes : Merger → (source : ℕ) → Option Held → Option Passed × Merger
head_passes m source None = (None, drained m)
head_passes m source (Some h) = (
  Some (record { source = source; arrival = h.arrival; mark = h.mark }),
  with_link m source (after_head (link_of m source) h.mark),
)

abbrev pub held_passes : Merger → Option Head → Option Passed × Merger
held_passes m None = (None, drained m)
held_passes m (Some best) = head_passes m best.source (slice_get (link_of m best.source).held 0)

abbrev pub offered_passes : Merger → Option Passed → Option Passed × Merger
offered_passes m None = held_passes m (least m.links)
offered_passes m (Some p) = (
  Some p,
  record {
    links = (with_link m p.source (after_pass (link_of m p.source) p.mark)).links;
    outs = m.outs;
    offered = None;
    draining = m.draining;
  },
)

-- First the mark just offered, if it may pass; then of the held first marks that may pass the one that arrived first,
-- and of one arrival that of the lowest source. Where none may, the router is drained.
abbrev pub next_of : Merger → Option Passed × Merger
next_of m = offered_passes m m.offered

abbrev pub count_offered : Option Passed → ℕ
count_offered None = 0
count_offered (Some p) = 1

abbrev pub to_pass : Merger → ℕ
to_pass m = count_offered m.offered + sum_by (λ link. length link.held) m.links
