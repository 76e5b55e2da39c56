use Rattle.std.proofs.Common.{◌∙◌, sym, ap, subst}
use Rattle.std.specs.Prelude.{Some, None, IfSome}
use Rattle.riak_msgs.specs.Contents.{Content}
use Rattle.vnode_machine.specs.Machine.{State}
use Rattle.vnode_machine.specs.Step.{outcome}
use Rattle.vnode_core.specs.Plans.{Plans}
use Rattle.node_steps.specs.Hands.{HandView, command_of, plan_of, PlansAsk}
use Rattle.node_steps.proofs.Planning.{ComesTo, plans_change, answers_command, plans_answer}
use Rattle.node_steps.proofs.hand.Hand.plan.Goals as goal

pub returns-in-Ok-Change-clause-ok : goal.returns-in-Ok-Change-clause-ok
returns-in-Ok-Change-clause-ok c =
    subst (λ change. PlansAsk c.args.self.now.state c.args.ask (plan_of c.prepare.new.self.state change) None) (sym c.replace-in-Ok-Change.ensures)
    (subst (λ s. PlansAsk s c.args.ask (plan_of c.prepare.new.self.state (Some c.in-Ok-Change.change)) None)
    (c.prepare.ensures.same ∙ ap (λ (h : HandView). h.state) c.self.view_is)
    (plans_change c.prepare.new.self c.args.ask c.in-Ok-Change.change
    (subst (λ plan. Plans c.prepare.new.self c.args.ask plan) c.in-Ok-Change.field-0-is c.in-Ok-Change.ensures.ok)))

pub returns-in-Ok-Nothing-clause-ok : goal.returns-in-Ok-Nothing-clause-ok
returns-in-Ok-Nothing-clause-ok c =
    let same = c.prepare.ensures.same in
    let comes = answers_command c.prepare.new.self.state c.args.ask c.in-Ok-Nothing.answer (ap (λ (s : State Content). s.closed) same ∙ ap (λ (h : HandView). h.state.closed) c.self.view_is ∙ c.requires.opened)
    (subst (λ plan. Plans c.prepare.new.self c.args.ask plan) c.in-Ok-Nothing.field-0-is c.in-Ok-Nothing.ensures.ok).answered in
    plans_answer c.in-Ok-Nothing.answer c.args.self.now.state _ c.answered.result (command_of c.args.ask)
    (subst (λ s. IfSome (command_of c.args.ask) (λ command. ComesTo (outcome s command) c.in-Ok-Nothing.answer)) (same ∙ ap (λ (h : HandView). h.state) c.self.view_is) comes)
    c.answered.ensures
