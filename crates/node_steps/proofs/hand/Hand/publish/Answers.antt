use Rattle.std.proofs.Common.{◌≡◌, ◌∙◌, sym, subst}
use Rattle.std.specs.Prelude.{Some, IsSome, IfSome}
use Rattle.vnode_core.specs.Plans.{IsPrepared}
use Rattle.node_steps.specs.Hands.{command_of}
use Rattle.node_steps.proofs.Planning.{finishes, still_named}
use Rattle.node_steps.proofs.Preparing.{still_sound}
use Rattle.node_steps.proofs.hand.Hand.publish.Goals as goal

pub invariant_of-self : goal.invariant_of-self
invariant_of-self c =
    let old = c.self.inside.vnode in
    let change = c.in-Some.change in
    let is : c.self.inside.change ≡ Some change = sym c.take.ensures.value ∙ c.in-Some.is in
    let planned = subst (λ o. IfSome o (λ ask. IsSome (command_of ask) × IsPrepared old ask ask)) is c.self.invariant.planned in
    let now = finishes old.state change c.finish.result c.finish.new.self.state c.finish.ensures.step.1 in
    record {
      named = still_named old.state c.finish.result c.finish.new.self.state (command_of change) planned.0 now ∙ c.self.invariant.named;
      sound = still_sound old.state c.finish.result c.finish.new.self.state (command_of change) planned.0 now c.self.invariant.sound;
      planned = subst (λ o. IfSome o (λ ask. IsSome (command_of ask) × IsPrepared c.finish.new.self ask ask)) (sym c.take.ensures.after) tt;
    }
