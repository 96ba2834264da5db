use Rattle.std.proofs.Common.{sym, subst}
use Rattle.mb_rewrite.proofs.GuardLemmas.{IsNoShort, sounds-other}
use Rattle.mb_rewrite.proofs.guarding.sound.Goals as goal

pub returns-in-Run : goal.returns-in-Run
returns-in-Run c = λ marks st.
    sounds-other c.args.guard.now marks c.args.ev (subst IsNoShort (sym c.in-Run.is) tt) st

pub returns-in-Rt : goal.returns-in-Rt
returns-in-Rt c = λ marks st.
    sounds-other c.args.guard.now marks c.args.ev (subst IsNoShort (sym c.in-Rt.is) tt) st

pub returns-in-Open : goal.returns-in-Open
returns-in-Open c = λ marks st.
    sounds-other c.args.guard.now marks c.args.ev (subst IsNoShort (sym c.in-Open.is) tt) st

pub returns-in-End : goal.returns-in-End
returns-in-End c = λ marks st.
    sounds-other c.args.guard.now marks c.args.ev (subst IsNoShort (sym c.in-End.is) tt) st

pub returns-in-Abort : goal.returns-in-Abort
returns-in-Abort c = λ marks st.
    sounds-other c.args.guard.now marks c.args.ev (subst IsNoShort (sym c.in-Abort.is) tt) st
