-- The positions of a gate's history are legal histories.
use Rattle.std.proofs.Common.{ℕ, List, subst}
use Rattle.riak_msgs.specs.Contents.{Content}
use Rattle.vnode_machine.specs.Machine.{State}
use Rattle.rw_gate.specs.Machines.{MachineRun}
use Rattle.rw_gate.specs.Views.{GateId}
use Rattle.rw_gate.specs.Histories.{RunFrom}
use Rattle.vnode_core.specs.declared.event.VnodeEvent.{VnodeEvent}
use Rattle.vnode_core.specs.Plans.{View}
use Rattle.vnode_core.specs.Events.{all_commands, Makes}
use Rattle.vnode_core.proofs.Events.{run-is-legal}
use Rattle.gate_node.specs.Asked.{state_of}
use Rattle.gate_node.specs.Legal.{PositionIsLegal}

pub position-is-legal : (vnode last_epoch : ℕ) (gate : GateId View) (events : List VnodeEvent) (state : State Content) → PositionIsLegal vnode last_epoch gate events state
position-is-legal vnode last_epoch gate events state limits made leads =
    run-is-legal vnode last_epoch events state limits (subst (λ s. MachineRun Makes s (all_commands events) state) made.new
    (subst (λ opened. RunFrom state_of Makes opened (all_commands events) state) made.made leads))
