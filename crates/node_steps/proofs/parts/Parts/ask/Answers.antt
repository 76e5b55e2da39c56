use Rattle.std.proofs.Common.{subst}
use Rattle.node_steps.specs.Asked.{CallsFor}
use Rattle.node_steps.proofs.Asking.{pinged}
use Rattle.node_steps.proofs.parts.Parts.ask.Goals as goal

pub returns-in-None-clause-ok : goal.returns-in-None-clause-ok
returns-in-None-clause-ok c =
    pinged c.args.self.now.sites.items c.args.self.now.routes.items c.args.self.now.epochs.items c.args.self.now.workers.items c.args.worker c.args.index c.args.request
    (subst (λ call. CallsFor c.args.request call) c.in-None.is c.in_ok-call.ensures)
