-- What the passing of a mark writes.
--
--   PassedOn ..     the outs whose handles begin here were written to, and then the mark's line to standard output
use Rattle.std.specs.Prelude.{ℕ, Bool}
use Rattle.mb_merge.specs.declared.router.Passed.{Passed}
use Rattle.mb_outside.specs.Contents.{Contents}
use Rattle.mb_outside.specs.Taking.{Wrote}
use Rattle.mb_rig.specs.Outs.{WroteAmong}
use Rattle.mb_rig.specs.PassingLine.{passing_text}

pub record PassedOn {S : Type 0} (tells : Bool) (contents : S → Contents) (read_faults : S → ℕ) (first count : ℕ)
    (moment : ℕ) (passed : Passed) (before after : S) : Type 0 where
  pub between : S
  pub outs : WroteAmong tells contents read_faults first count before between
  pub line : Wrote tells contents read_faults 1 between (passing_text moment passed) after
