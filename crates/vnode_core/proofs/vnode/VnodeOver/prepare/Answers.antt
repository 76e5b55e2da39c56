use Rattle.std.proofs.Common.{rules}
use Rattle.vnode_core.proofs.Sound.{registers-plan}
use Rattle.vnode_core.proofs.Registers.{registers-refused}
use Rattle.vnode_core.proofs.vnode.VnodeOver.prepare.Goals as goal

pub returns-in-Ok-clause-register : goal.returns-in-Ok-clause-register
returns-in-Ok-clause-register g c =
    registers-plan c.args.self.now.state c.drop_prepared.ensures.sound _ c.args.ask _

pub returns-in-Err-clause-register : goal.returns-in-Err-clause-register
returns-in-Err-clause-register g c =
    registers-refused _ c.args.self.now.state c.drop_prepared.ensures.sound c.args.ask c.refuse.result (search rules)

pub returns-then-is_some-clause-register : goal.returns-then-is_some-clause-register
returns-then-is_some-clause-register g c =
    registers-plan c.args.self.now.state c.drop_prepared.ensures.sound _ c.args.ask _

pub returns-in-Ok-Ready-clause-register : goal.returns-in-Ok-Ready-clause-register
returns-in-Ok-Ready-clause-register g c =
    registers-plan c.args.self.now.state c.drop_prepared.ensures.sound _ c.args.ask _
