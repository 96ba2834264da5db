use Rattle.std.proofs.Common.{ap, arith, length}
use Rattle.std.proofs.lemmas.Result.{on_err_weaker}
use Rattle.mb_rig.proofs.OutletLemmas.{gave_part}
use Rattle.mb_rig.proofs.outlet.Outlet.flush.Goals as goal

pub flush-requires : goal.flush-requires
flush-requires g c =
    record { room = omega (arith, ap length c.new-written.ensures, c.room-room.ensures.room, c.room-room.ensures.fits) }

pub returns-clause-part : goal.returns-clause-part
returns-clause-part g c = on_err_weaker c.write_all.result (λ part puts st.
    gave_part _ _ _ _ _ _ _ _ _ _ _ (c.flush.ensures.written puts st.stands) c.new-written.ensures
    c.as_slice.ensures.value part) c.write_all.ensures.part
