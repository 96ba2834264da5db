-- A taker of bytes that keeps sums of them.
--
--   HasRoom counts          no count is at its last value
--   ReadStands ..           a byte line's reader took these bytes, and the marks that it told were counted
--   SumStands out bytes     it took these bytes since it was new
--   SumTook ..              it took bytes between two of its states; it doesn't refuse below 2^62 of them
--   SumEnded out bytes      the same at their end
use Rattle.std.specs.Prelude.{◌≡◌, ℕ, ◌-◌, ◌^◌, ◌<◌, ◌≤◌, List, ◌++◌, length}
use Rattle.mb_din.specs.State.{State}
use Rattle.mb_denote.specs.Counted.{Counted}
use Rattle.mb_denote.specs.declared.counts.Counts.{Counts}
use Rattle.mb_carrier.specs.Carrier.{known, marks_so_far, den}
use Rattle.mb_carrier.specs.Line.{LineStands}
use Rattle.mb_carrier.specs.declared.spec.Spec.TheVariants.{Din}
use Rattle.mb_smoke.specs.Summed.{mixed, counts_of}
use Rattle.mb_smoke.specs.declared.sum_out.SumOut.{SumOut}

pub record HasRoom (counts : Counts) : Type 0 where
  pub msg : counts.msg < 2 ^ 64 - 1
  pub syx : counts.syx < 2 ^ 64 - 1
  pub broken : counts.broken < 2 ^ 64 - 1
  pub rt : counts.rt < 2 ^ 64 - 1

pub record ReadStands (reader : State) (counts : Counts) (bytes : List ℕ) : Type 0 where
  pub reads : LineStands reader bytes (known Din bytes)
  pub counted : Counted counts (marks_so_far Din bytes)

pub record SumStands (out : SumOut) (bytes : List ℕ) : Type 0 where
  pub count : out.bytes ≡ length bytes
  pub within : length bytes ≤ 2 ^ 62
  pub read : ReadStands out.reader out.counts bytes
  pub mix : out.mix ≡ mixed 0 bytes

abbrev pub refusals_of : SumOut → ℕ
refusals_of out = out.refusals

pub record SumTook (before : SumOut) (taken : List ℕ) (after : SumOut) : Type 0 where
  pub stands : (bytes : List ℕ) → SumStands before bytes → SumStands after (bytes ++ taken)
  pub never : (bytes : List ℕ) → SumStands before bytes → length (bytes ++ taken) < 2 ^ 62 →
      refusals_of after ≡ refusals_of before

pub record SumEnded (out : SumOut) (bytes : List ℕ) : Type 0 where
  pub counts : out.counts ≡ counts_of (den Din bytes)
  pub mix : out.mix ≡ mixed 0 bytes
