-- The packet under way behind data bytes of a SysEx that fit into it.
use Rattle.std.specs.Prelude.{ℕ, None, List, ◌++◌}
use Rattle.mb_ble.specs.UnderWay.{OpenPacket}

abbrev pub with_data : OpenPacket → ℕ → List ℕ → OpenPacket
with_data w moment bytes = record w { content = w.content ++ bytes; moment = moment; running = None }
