use Rattle.std.proofs.Common.{refl}
use Rattle.mb_fire.proofs.RingLaw.{written_lem}
use Rattle.mb_fire.proofs.writer.FireWriter.drain.Goals as goal

pub returns-clause-written : goal.returns-clause-written
returns-clause-written c =
    λ e marks sent number st. written_lem c.args.self.now c.self.inside.place c.self.inside.dbc c.self.inside.place
    number c.self.inside.rings c.args.out.now.items c.put_header.new.out.items c.put_blocks.new.out.items
    c.self.view_is c.put_blocks.ensures.eight st.count refl c.put_header.ensures.written c.put_blocks.ensures.out
