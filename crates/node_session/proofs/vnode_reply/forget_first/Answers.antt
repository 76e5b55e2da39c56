use Rattle.std.proofs.Common.{◌∙◌, ap}
use Rattle.std.specs.Prelude.{None}
use Rattle.riak_msgs.specs.Contents.{Content}
use Rattle.vnode_machine.specs.Machine.{State}
use Rattle.node_session.proofs.Opens.{closed-swept}
use Rattle.node_session.proofs.vnode_reply.forget_first.Goals as goal

pub returns-then-budget-gt0-clause-closed : goal.returns-then-budget-gt0-clause-closed
returns-then-budget-gt0-clause-closed c =
    ap (λ (s : State Content). s.closed) c.sweep.ensures.state ∙ closed-swept c.args.vnode.now.state None c.args.budget
