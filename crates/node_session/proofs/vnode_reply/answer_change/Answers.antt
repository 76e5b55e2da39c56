use Rattle.std.proofs.Common.{sym, subst}
use Rattle.riak_msgs.specs.declared.Reply.TheVariants.{Error}
use Rattle.node_session.specs.PlainStep.{StepsByWrite}
use Rattle.vnode_core.specs.Plans.{Plans, Steps}
use Rattle.node_session.proofs.Refusing.{refused, stays-open}
use Rattle.node_session.proofs.vnode_reply.answer_change.Goals as goal

pub returns-in-Err-clause-steps : goal.returns-in-Err-clause-steps
returns-in-Err-clause-steps c =
    let old = c.args.vnode.now.state in
    let new = c.prepare.new.self.state in
    subst (λ text. StepsByWrite old c.args.ask (Error text) new) (sym c.from-in-Err.ensures)
    (refused old new c.args.ask c.requires.write c.prepare.ensures.same c.in-Err.refusal c.in-Err.ensures.err)

pub returns-in-Ok-Change-clause-opened : goal.returns-in-Ok-Change-clause-opened
returns-in-Ok-Change-clause-opened c =
    let prepared = subst (Plans c.prepare.new.self c.args.ask) c.in-Ok-Change.field-0-is c.in-Ok-Change.ensures.ok in
    stays-open c.prepare.new.self.state c.finish.new.self.state c.args.ask c.requires.write c.finish.result
    (subst (λ change. Steps c.prepare.new.self.state change c.finish.result c.finish.new.self.state) prepared.is c.finish.ensures.step)
