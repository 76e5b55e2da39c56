-- What the passes of a vnode's gate have seen.
use Rattle.std.specs.Prelude.{◌≡◌, ℕ, List, IsSome}
use Rattle.riak_msgs.specs.Contents.{Content}
use Rattle.vnode_machine.specs.Machine.{State}
use Rattle.vnode_machine.specs.Replay.{IsWithinLimits}
use Rattle.rw_gate.specs.Views.{GateId, PassView}
use Rattle.rw_gate.specs.Histories.{RunFrom}
pub use Rattle.vnode_core.specs.declared.entry.Entry.{Entry}
use Rattle.vnode_core.specs.Events.{IsMadeNew, Makes}
use Rattle.vnode_core.specs.Plans.{View}

-- what a caller has seen of a vnode's history, and at which positions of it the caller published
abbrev pub Sight : Type 0
Sight = PassView View Entry

-- the machine's state of a vnode
abbrev pub state_of : View → State Content
state_of vnode = vnode.state

-- a history of the gate leads its vnode to this state
abbrev pub LeadsVnodeTo : GateId View → List Entry → State Content → Type 0
LeadsVnodeTo gate history state = RunFrom state_of Makes gate.opening history state

-- so does what a pass has seen
abbrev pub ShowsState : Sight → State Content → Type 0
ShowsState pass state = LeadsVnodeTo pass.gate pass.prefix state

-- at the end of what a pass has seen its vnode is closed
pub record ShowsClosed (pass : Sight) : Type 0 where
  pub state : State Content
  pub shows : ShowsState pass state
  pub closed : IsSome state.closed

-- it had given this epoch last then
abbrev pub ClosedBehind : Sight → (last_epoch : ℕ) → Type 0
ClosedBehind pass last_epoch = (shown : ShowsClosed pass) × (last_epoch ≡ shown.state.last_epoch)

-- the gate was made round a new vnode, of an id and behind a last epoch that a vnode can have
pub record IsOfVnode (gate : GateId View) : Type 0 where
  pub id : ℕ
  pub last_epoch : ℕ
  pub made_new : IsMadeNew id last_epoch gate
  pub limits : IsWithinLimits id last_epoch
