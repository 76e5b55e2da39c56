use Rattle.std.proofs.Common.{◌∙◌, subst}
use Rattle.gate_node.proofs.Keeping.{step-keeps}
use Rattle.worker_pool.specs.Resuming.{RunNodeView, RunNodeStep, gates_in, standing}
use Rattle.worker_pool.proofs.Resuming.{later_to, node_steps}
use Rattle.worker_pool.proofs.Shifting.{more}
use Rattle.worker_pool.proofs.run_node.RunNodeNode.answer_into.Goals as goal

pub invariant_of-self : goal.invariant_of-self
invariant_of-self g c = (step-keeps _ _ _ _ c.answer_into-framed.ensures.step ∙ c.self.invariant.0, later_to _ _ c.gates_seen.ensures)

pub returns-clause-step : goal.returns-clause-step
returns-clause-step g c =
    let node = c.self.inside in
    let before = node.rest.count.counted in
    let now = node_steps before (gates_in node.at) node.shared.now (gates_in c.gates_seen.result) node.node c.args.request c.answer_into-framed.result.reply c.answer_into-framed.new.self c.self.invariant.0 c.gates_seen.ensures c.self.invariant.1 c.answer_into-framed.ensures.step in
    subst (λ (old : RunNodeView). RunNodeStep old c.args.request c.answer_into-framed.result.reply (standing node.shared.now before (record (more before c.answer_into-framed.new.self) { shared = gates_in c.gates_seen.result }))) c.self.view_is now
