use Rattle.std.proofs.Common.{List, ◌++◌, ◌∙◌, ap, arith, length, subst}
use Rattle.std.proofs.lemmas.Result.{on_err_weaker}
use Rattle.mb_message.specs.Signs.{Sign}
use Rattle.mb_stream.specs.Appended.{Appended}
use Rattle.mb_stream.specs.Puts.{puts_at}
use Rattle.mb_carrier.specs.Carrier.{live}
use Rattle.mb_rig.specs.Outlet.{outlet_spec}
use Rattle.mb_rig.proofs.OutletLemmas.{gave_part}
use Rattle.mb_rig.proofs.outlet.Outlet.put.Goals as goal

pub put-requires-clause-room : goal.put-requires-clause-room
put-requires-clause-room g c =
    omega (arith, ap length c.new-written.ensures, c.room-room.ensures.room, c.room-room.ensures.fits)

pub returns-clause-part : goal.returns-clause-part
returns-clause-part g c = on_err_weaker c.write_all.result (λ part puts st.
    let spec = outlet_spec c.args.self.now in
    gave_part _ _ _ _ _ _ _ _ _ _ _
    (subst (λ (signs : List Sign). Appended c.new-written.result.items c.put.new.out.items (live spec puts)
    (live spec (puts ++ puts_at c.args.moment signs))) c.event_of.ensures.signs (c.put.ensures.written puts st.stands))
    c.new-written.ensures c.as_slice.ensures.value part) c.write_all.ensures.part

pub returns-clause-in_sysex : goal.returns-clause-in_sysex
returns-clause-in_sysex g c = c.put.ensures.in_sysex ∙ c.event_of.ensures.behind _ c.requires.suits
