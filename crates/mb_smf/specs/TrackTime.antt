-- The time in a track (Standard MIDI Files 1.0, "Header Chunks", "Set Tempo").
--
--   TrackTime            the division, in ticks a quarter note; the tempo, in microseconds a quarter note; and the sum
--                        of each delta times the tempo at it
--   track_moment t       the moment in microseconds
--   ticks_later t n      so many ticks later
use Rattle.std.specs.Prelude.{ℕ, ◌+◌, ◌*◌, ◌/◌}

pub record TrackTime : Type 0 where
  pub division : ℕ
  pub tempo : ℕ
  pub sum : ℕ

-- The sum is divided, and rounded down, once.
abbrev pub track_moment : TrackTime → ℕ
track_moment t = t.sum / t.division

abbrev pub ticks_later : TrackTime → (ticks : ℕ) → TrackTime
ticks_later t ticks = record t { sum = t.sum + ticks * t.tempo }

-- a quarter note of half a second, where no tempo is set
abbrev pub first_tempo : ℕ
first_tempo = 500000
