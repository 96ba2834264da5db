use Rattle.std.proofs.Common.{◌≡◌, ◌-◌, length, IsTrue}
use Rattle.mb_top.specs.TextFile.{TextRead}
use Rattle.mb_top.proofs.text_file.read_text.Given as goal

abbrev pub invariant-pieces : goal.invariant-pieces
invariant-pieces g l =
    let D = g.D.Desk in
    record {
      reads_same : D.read_faults l.desk ≡ D.read_faults l.initial.desk;
      writes_same : D.write_faults l.desk ≡ D.write_faults l.initial.desk;
      told : IsTrue D.tells →
          TextRead l.handle (D.contents l.initial.desk) (D.contents l.desk) l.text.items;
    }

abbrev pub decreases-pieces : goal.decreases-pieces
decreases-pieces g l = g.row.N - length l.text.items
