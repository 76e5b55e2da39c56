use Rattle.std.proofs.Common.{◌∙◌, ap}
use Rattle.std.specs.Prelude.{is_some}
use Rattle.node_steps.specs.Hands.{HandView}
use Rattle.node_steps.proofs.Preparing.{plan-there}
use Rattle.node_steps.proofs.hand.Hand.has_plan.Goals as goal

pub returns : goal.returns
returns c = c.is_some.ensures ∙ plan-there c.self.inside.vnode c.self.inside.change c.self.invariant.planned ∙ ap (λ (h : HandView). is_some h.plan) c.self.view_is
