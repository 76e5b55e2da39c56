use Rattle.std.proofs.Common.{subst}
use Rattle.vnode_core.specs.Plans.{Plans}
use Rattle.vnode_core.proofs.Events.{loggable}
use Rattle.vnode_core.proofs.kept.VnodeOverKept.prepare.Goals as goal

pub returns-in-Ok-Change-clause-change : goal.returns-in-Ok-Change-clause-change
returns-in-Ok-Change-clause-change g c =
    loggable c.prepare.new.self c.args.ask _ _ _ (subst (Plans c.prepare.new.self c.args.ask) c.in-Ok-Change.field-0-is c.in-Ok-Change.ensures.ok)
    c.logged.ensures.change c.logged.ensures.before
