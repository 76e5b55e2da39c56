use Rattle.std.proofs.Common.{◌∙◌, sym, ap, subst}
use Rattle.std.specs.Prelude.{IsSome, IfSome}
use Rattle.riak_msgs.specs.Contents.{Content}
use Rattle.vnode_machine.specs.Machine.{State}
use Rattle.vnode_core.specs.Plans.{IsPrepared}
use Rattle.node_steps.specs.Hands.{command_of}
use Rattle.node_steps.proofs.Preparing.{makes_copy, keeps_named, keeps_sound}
use Rattle.node_steps.proofs.hand.Hand.finish_copy.Goals as goal

pub invariant_of-self : goal.invariant_of-self
invariant_of-self c =
    let old = c.self.inside.vnode.state in
    let change = c.args.change in
    let steps = c.finish-answer.ensures.step.1 in
    let makes = makes_copy old change c.finish-answer.result c.finish-answer.new.self.state c.requires.copy steps in
    record {
      named = ap (λ (s : State Content). s.vnode) makes ∙ keeps_named old change ∙ c.self.invariant.named;
      sound = keeps_sound old change c.finish-answer.result c.finish-answer.new.self.state c.requires.copy steps c.self.invariant.sound;
      planned = subst (λ o. IfSome o (λ ask. IsSome (command_of ask) × IsPrepared c.finish-answer.new.self ask ask)) (sym c.replace.ensures) tt;
    }
