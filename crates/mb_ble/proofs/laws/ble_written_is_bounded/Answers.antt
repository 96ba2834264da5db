use Rattle.mb_ble.proofs.WrittenLaws.{written-size, written-whole, live-whole}
use Rattle.mb_ble.proofs.laws.ble_written_is_bounded.Goals as goal

pub returns : goal.returns
returns c = record { size = written-size; whole = written-whole; live = live-whole }
