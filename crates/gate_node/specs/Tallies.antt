-- What a tally says of a vnode.
use Rattle.std.specs.Prelude.{◌≡◌, ◌+◌, ℕ, List, length}
use Rattle.riak_msgs.specs.Contents.{Content}
use Rattle.vnode_machine.specs.Machine.{State}
use Rattle.rw_gate.specs.Views.{GateId}
use Rattle.rw_gate.specs.Histories.{RunFrom}
use Rattle.vnode_core.specs.declared.entry.Entry.{Entry}
pub use Rattle.vnode_core.specs.declared.vnode.tally.Tally.{Tally}
use Rattle.vnode_core.specs.Events.{AreCommands, Makes}
use Rattle.vnode_core.specs.Plans.{View}
use Rattle.gate_node.specs.Asked.{state_of}

-- a gate, and a history of the vnode behind it
pub record GateHistory : Type 0 where
  pub gate : GateId View
  pub events : List Entry

-- how many commands a tally counts
abbrev pub commands_in : Tally → ℕ
commands_in tally = tally.writes + tally.tombstones + tally.reaps

-- it counts as many as the history has entries
abbrev pub CountsAll : GateHistory → Tally → Type 0
CountsAll history tally = commands_in tally ≡ length history.events

-- the history is legal: the machine accepts its events, from the state that the gate was made with; and the tally counts those of
-- each kind. Copies and a close aren't counted, so where it counts all, the history is one of commands alone.
pub record IsTally (history : GateHistory) (tally : Tally) : Type 0 where
  pub state : State Content
  pub legal : RunFrom state_of Makes history.gate.opening history.events state
  pub writes : tally.writes ≡ state.writes
  pub tombstones : tally.tombstones ≡ state.tombstones
  pub reaps : tally.reaps ≡ state.reaps
  pub commands : CountsAll history tally → AreCommands history.events
