use Rattle.mb_ble.proofs.WrittenLaws.{known-stays}
use Rattle.mb_ble.proofs.laws.ble_reading_grows.Goals as goal

pub returns : goal.returns
returns c = known-stays
