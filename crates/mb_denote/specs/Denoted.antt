-- Denotations as values of the program, and as the definition has them: `Short` and `Rt` carry a proof that they are
-- valid, which the definition leaves out.
--
--   meant item      what an item is
--   timed at        a real-time message, and how many messages and whole SysEx ended before it
--   denoted den     both lists
use Rattle.std.specs.Prelude.{map}
use Rattle.mb_stream.specs.Denotation.{Meant, Message, Syx, Broken, Timed, Denotation}
use Rattle.mb_denote.specs.declared.item.Item.{Item}
use Rattle.mb_denote.specs.declared.item.Item.TheVariants as item
use Rattle.mb_denote.specs.declared.item.RtAt.{RtAt}
use Rattle.mb_denote.specs.declared.denotation.Den.{Den}

abbrev pub meant : Item → Meant
meant (item.Msg s) = Message s.status s.data1 s.data2
meant (item.Syx ds) = Syx ds
meant (item.Broken ds) = Broken ds

abbrev pub timed : RtAt → Timed
timed r = record { byte = r.rt.byte; after = r.after }

abbrev pub denoted : Den → Denotation
denoted den = record { items = map meant den.items; realtimes = map timed den.rts }
