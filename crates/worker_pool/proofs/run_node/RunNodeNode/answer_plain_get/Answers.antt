use Rattle.std.proofs.Common.{subst}
use Rattle.riak_msgs.specs.declared.request.Request.TheVariants.{Get}
use Rattle.riak_msgs.specs.Requests.{plain_get}
use Rattle.worker_pool.specs.Resuming.{RunNodeView, RunNodeStep, gates_in, standing}
use Rattle.worker_pool.proofs.Resuming.{node_steps}
use Rattle.worker_pool.proofs.Shifting.{more}
use Rattle.worker_pool.proofs.run_node.RunNodeNode.answer_plain_get.Goals as goal

pub returns-clause-step : goal.returns-clause-step
returns-clause-step g c =
    let node = c.self.inside in
    let before = node.rest.count.counted in
    let request = Get (plain_get c.args.bucket.now c.args.key.now) in
    let now = node_steps before (gates_in node.at) node.shared.now (gates_in c.gates_seen.result) node.node request c.in_ok-framed.framed.reply c.answer_plain_get.new.self c.self.invariant.0 c.gates_seen.ensures c.self.invariant.1 c.in_ok-framed.ensures.step in
    subst (λ (old : RunNodeView). RunNodeStep old request c.in_ok-framed.framed.reply (standing node.shared.now before (record (more before c.answer_plain_get.new.self) { shared = gates_in c.gates_seen.result }))) c.self.view_is now
