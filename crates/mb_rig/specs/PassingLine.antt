-- The line of a mark that passes. Moments are kept in microseconds and told in milliseconds.
--
--   passing_text moment p      the line of a mark that passes at a moment, or nothing where it completes nothing
use Rattle.std.specs.Prelude.{ℕ, ◌/◌, List}
use Rattle.mb_message.specs.Signs.{sign_of}
use Rattle.mb_merge.specs.declared.router.Passed.{Passed}
use Rattle.mb_rig.specs.Merging.Report.{kind_of_sign, text_by}

abbrev pub passing_text : (moment : ℕ) → Passed → List ℕ
passing_text moment p = text_by (p.arrival / 1000) (moment / 1000) p.source (kind_of_sign (sign_of p.mark))
