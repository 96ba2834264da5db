use Rattle.std.proofs.Common.{◌≡◌, None, sym, subst, IfErr, OnOk}
use Rattle.mb_rig.specs.RigText.{why_not, with_line}
use Rattle.mb_rig.specs.RigAnswer.{line_seen, IsRefused}
use Rattle.mb_rig.proofs.draft.Draft.add.Goals as goal

pub returns-in-Link-clause-fits : goal.returns-in-Link-clause-fits
returns-in-Link-clause-fits c =
    subst (λ line. OnOk c.add_link.result (why_not c.args.self.now (line_seen line) ≡ None)) (sym c.in-Link.is)
    c.add_link.ensures.fits

pub returns-in-Link-clause-added : goal.returns-in-Link-clause-added
returns-in-Link-clause-added c =
    subst (λ line. OnOk c.add_link.result (c.add_link.new.self ≡ with_line c.args.self.now (line_seen line)))
    (sym c.in-Link.is) c.add_link.ensures.added

pub returns-in-Link-clause-refused : goal.returns-in-Link-clause-refused
returns-in-Link-clause-refused c =
    subst (λ line. IfErr c.add_link.result (IsRefused c.args.number c.args.self.now (line_seen line)))
    (sym c.in-Link.is) c.add_link.ensures.refused

pub returns-in-Outlet-clause-fits : goal.returns-in-Outlet-clause-fits
returns-in-Outlet-clause-fits c =
    subst (λ line. OnOk c.add_out.result (why_not c.args.self.now (line_seen line) ≡ None)) (sym c.in-Outlet.is)
    c.add_out.ensures.fits

pub returns-in-Outlet-clause-added : goal.returns-in-Outlet-clause-added
returns-in-Outlet-clause-added c =
    subst (λ line. OnOk c.add_out.result (c.add_out.new.self ≡ with_line c.args.self.now (line_seen line)))
    (sym c.in-Outlet.is) c.add_out.ensures.added

pub returns-in-Outlet-clause-refused : goal.returns-in-Outlet-clause-refused
returns-in-Outlet-clause-refused c =
    subst (λ line. IfErr c.add_out.result (IsRefused c.args.number c.args.self.now (line_seen line)))
    (sym c.in-Outlet.is) c.add_out.ensures.refused

pub returns-in-Route-clause-fits : goal.returns-in-Route-clause-fits
returns-in-Route-clause-fits c =
    subst (λ line. OnOk c.add_route.result (why_not c.args.self.now (line_seen line) ≡ None)) (sym c.in-Route.is)
    c.add_route.ensures.fits

pub returns-in-Route-clause-added : goal.returns-in-Route-clause-added
returns-in-Route-clause-added c =
    subst (λ line. OnOk c.add_route.result (c.add_route.new.self ≡ with_line c.args.self.now (line_seen line)))
    (sym c.in-Route.is) c.add_route.ensures.added

pub returns-in-Route-clause-refused : goal.returns-in-Route-clause-refused
returns-in-Route-clause-refused c =
    subst (λ line. IfErr c.add_route.result (IsRefused c.args.number c.args.self.now (line_seen line)))
    (sym c.in-Route.is) c.add_route.ensures.refused
