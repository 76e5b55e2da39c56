use Rattle.std.proofs.Common.{sym, subst}
use Rattle.rw_gate.specs.Histories.{RunFrom}
use Rattle.rw_gate.specs.Views.{GateId}
use Rattle.vnode_core.specs.declared.ask.Ask.TheVariants.{Put}
use Rattle.vnode_core.specs.Events.{Makes}
use Rattle.vnode_core.specs.Plans.{View}
use Rattle.gate_node.specs.Asked.{ComesUnchanged, state_of}
use Rattle.gate_node.proofs.Unchanged.{comes_unchanged, under_unchanged}
use Rattle.gate_node.proofs.gated_vnode.refuse_put.Goals as goal

pub returns-in-Ok-clause-outcome : goal.returns-in-Ok-clause-outcome
returns-in-Ok-clause-outcome c =
    let right = c.args.right.now in
    let pass = c.args.pass.now in
    let leads = subst (λ (g : GateId View). RunFrom state_of Makes g.opening right.history right.state.state) (sym c.requires) c.look.ensures.replay in
    let here = subst (λ es. RunFrom state_of Makes pass.gate.opening es right.state.state) (sym c.in-Ok.ensures.seen) leads in
    let is = subst (λ (v : View). ComesUnchanged v.state (Put c.args.put.now) c.outcome_without_memory.result) c.in-Ok.ensures.shown c.outcome_without_memory.ensures in
    comes_unchanged (Put c.args.put.now) pass c.look.new.pass right.state.state c.outcome_without_memory.result here c.look.ensures.own is

pub returns-in-Ok-clause-under : goal.returns-in-Ok-clause-under
returns-in-Ok-clause-under c =
    under_unchanged (Put c.args.put.now) c.look.new.pass c.args.right.now.history c.in-Ok.vnode.now.state c.outcome_without_memory.result c.in-Ok.ensures.seen c.outcome_without_memory.ensures
