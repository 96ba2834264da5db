-- Filtering on its way.
--
--   filtering_spec f            the port's spec
--   filtering_rules f           the rules
--   filtering_cut f             tape or recording stop inside something
--   FilteringStands f bytes     it was fed these bytes, and handed on all that is known of them
use Rattle.std.specs.Prelude.{◌≡◌, ℕ, Bool, true, List}
use Rattle.mb_message.specs.Signs.{Sign, signs_of_event, suits_event}
use Rattle.mb_message.specs.declared.event.Ev.{Ev}
use Rattle.mb_stream.specs.Puts.{Put}
use Rattle.mb_stream.specs.Standing.{is_open}
use Rattle.mb_filter.specs.Mapped.{mapped_marks}
use Rattle.mb_filter.specs.Mapper.{Mapping, mapping}
use Rattle.mb_filter.specs.declared.rule.Rule.{Rule}
use Rattle.mb_track.specs.Track.{track_end}
use Rattle.mb_track.specs.TrackReading.{track_cut, track_spec}
use Rattle.mb_carrier.specs.declared.spec.Spec.{Spec}
use Rattle.mb_rewrite.specs.Filtered.{mapped_puts}
use Rattle.mb_rewrite.specs.Line.{LineHalted, LineWrote}
use Rattle.mb_rewrite.specs.Rewriting.{HasTold, Rewriting}
use Rattle.mb_rewrite.specs.declared.filtering.Filtering.{Filtering}
use Rattle.mb_rewrite.specs.declared.line.LineTape.{LineTape}

abbrev pub filtering_spec : Filtering → Spec
filtering_spec f = track_spec f.track

abbrev pub filtering_rules : Filtering → List Rule
filtering_rules f = (f.mapper).rules

abbrev pub filtering_cut : Filtering → Bool
filtering_cut f = track_cut f.track

-- the mapper knows whether these marks leave a SysEx open
abbrev pub MapsBehind : Mapping → (marks : List Sign) → Type 0
MapsBehind m marks = m ≡ mapping m.rules (is_open marks)

abbrev pub FilteringStands : (f : Filtering) (bytes : List ℕ) → Type 0
FilteringStands f bytes = Rewriting (mapped_puts (filtering_rules f)) (MapsBehind f.mapper) f.track f.line bytes

-- for the steps

-- the mapper may be handed an event, and the line what the rules leave of it
pub record MaySuit (m : Mapping) (line : LineTape) (e : Ev) : Type 0 where
  pub event : suits_event m.in_sysex e ≡ true
  pub left : (x : Ev) → signs_of_event x ≡ mapped_marks m.rules (signs_of_event e) →
      suits_event line.writer.in_sysex x ≡ true

abbrev pub FilterHasTold : (f : Filtering) (bytes : List ℕ) → Type 0
FilterHasTold f bytes = HasTold (mapped_puts (filtering_rules f)) (MapsBehind f.mapper) f.track f.line bytes

-- `more` is what the rules leave of what only the end of the recording makes known
pub record FilterEndHeard (was now : Filtering) (held kept : List ℕ) (took : List ℕ → Type 0) : Type 0 where
  pub more : List Put
  pub wrote : LineWrote was.line now.line more held kept took
  pub is_end : (bytes : List ℕ) → FilterHasTold was bytes →
      more ≡ mapped_puts (filtering_rules was) (track_end (track_spec was.track) 0 bytes)

pub record FilterEndHalted (was : Filtering) (held : List ℕ) (took : List ℕ → Type 0) : Type 0 where
  pub more : List Put
  pub halted : LineHalted was.line more held took
  pub is_end : (bytes : List ℕ) → FilterHasTold was bytes →
      more ≡ mapped_puts (filtering_rules was) (track_end (track_spec was.track) 0 bytes)
