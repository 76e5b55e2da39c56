-- Where a node over gates answers, as a history of the register.
use Rattle.std.specs.Prelude.{ℕ, List, []}
use Rattle.riak_msgs.specs.Contents.{Content}
use Rattle.vnode_machine.specs.Machine.{State}
use Rattle.vnode_machine.specs.Replay.{IsWithinLimits}
use Rattle.rw_gate.specs.Views.{GateId}
use Rattle.rw_gate.specs.Histories.{RunFrom}
use Rattle.vnode_core.specs.declared.event.VnodeEvent.{VnodeEvent}
use Rattle.vnode_core.specs.Plans.{View}
use Rattle.vnode_core.specs.Events.{all_commands, Makes, IsMadeNew, GoesOnTo}
use Rattle.gate_node.specs.Asked.{state_of}

-- at a position to which the history of a gate leads that was made round this new vnode, and before which there are commands
-- alone, these are a legal history of the register, each answered as the register answers it there, and the state is their replay
abbrev pub PositionIsLegal : (vnode last_epoch : ℕ) → GateId View → List VnodeEvent → State Content → Type 0
PositionIsLegal vnode last_epoch gate events state =
    IsWithinLimits vnode last_epoch → IsMadeNew vnode last_epoch gate → RunFrom state_of Makes gate.opening (all_commands events) state
    → GoesOnTo vnode last_epoch [] events state
