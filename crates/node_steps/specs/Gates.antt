-- The history of a vnode behind a gate, as one of the theorem's world.
use Rattle.std.specs.Prelude.{◌≡◌, ◌<◌, ◌≤◌, ℕ, List, []}
use Rattle.riak_msgs.specs.Contents.{Content}
use Rattle.vnode_machine.specs.Machine.{State, opening}
use Rattle.vnode_core.specs.declared.event.VnodeEvent.{VnodeEvent}
use Rattle.vnode_core.specs.Events.{MachineRun, all_commands, Makes, history_after}
use Rattle.node_steps.specs.World.{history_at, id_of}
use Rattle.node_steps.specs.Steps.{Step}
use Rattle.node_steps.specs.Schedules.{Start, world_after}

-- after some schedule the vnode at an index has the history of these events
abbrev pub IsScheduled : Start → (index : ℕ) → List VnodeEvent → Type 0
IsScheduled start index events =
    (schedule : List Step) × (history_at (world_after start schedule) index ≡ history_after (id_of start.run index) 0 [] events)

-- each run of commands from the opening state of a vnode, as a gate round it keeps one, is scheduled
abbrev pub RunsAreScheduled : Type 0
RunsAreScheduled =
    (start : Start) (index : ℕ) (events : List VnodeEvent) (state : State Content) → 1 ≤ start.workers → index < start.vnodes
    → MachineRun Makes (opening (id_of start.run index) 0) (all_commands events) state → IsScheduled start index events
