use Rattle.std.proofs.Common.{◌∙◌, subst}
use Rattle.gate_node.proofs.Keeping.{step-keeps}
use Rattle.worker_pool.specs.Resuming.{RunNodeView, RunNodeStep, gates_in, standing}
use Rattle.worker_pool.proofs.Resuming.{later_to, node_steps}
use Rattle.worker_pool.proofs.Shifting.{more}
use Rattle.worker_pool.proofs.run_node.RunNodeNode.answer.Goals as goal

pub invariant_of-self : goal.invariant_of-self
invariant_of-self g c = (step-keeps _ _ _ _ c.answer-reply.ensures ∙ c.self.invariant.0, later_to _ _ c.gates_seen.ensures)

pub returns : goal.returns
returns g c =
    let node = c.self.inside in
    let before = node.rest.count.counted in
    let now = node_steps before (gates_in node.at) node.shared.now (gates_in c.gates_seen.result) node.node c.args.request c.answer-reply.result c.answer-reply.new.self c.self.invariant.0 c.gates_seen.ensures c.self.invariant.1 c.answer-reply.ensures in
    subst (λ (old : RunNodeView). RunNodeStep old c.args.request c.answer-reply.result (standing node.shared.now before (record (more before c.answer-reply.new.self) { shared = gates_in c.gates_seen.result }))) c.self.view_is now
