-- What a node answers where the histories of the primaries are of commands alone: at positions of legal histories of the sibling register.
use Rattle.std.specs.Prelude.{◌≡◌, ℕ, [], List, Some, slice_get}
use Rattle.std.specs.Option.{option_map_or}
use Rattle.std.specs.List.{AllZip}
use mathlib.Core.List.{IsPrefix}
use Rattle.riak_msgs.specs.declared.Request.{Request}
use Rattle.riak_msgs.specs.declared.Reply.{Reply}
use Rattle.vnode_core.specs.declared.vnode.tally.Tally.{Tally}
use Rattle.vnode_core.specs.Events.{AreCommands, commands_of}
use Rattle.handoff.specs.Partitions.{AreNone, AreOfNewRun}
use Rattle.gate_node.specs.Gates.{Gates}
use Rattle.gate_node.specs.GateStep.{NodeOverGates}
use Rattle.gate_node.specs.OneHistory.{AreOfGates, StepIn}
use Rattle.gate_node.specs.Registers.{Commands, IsLegalHistory, SharedRegister, seen_by, vnode_at}
use Rattle.gate_node.specs.Tallies.{GateHistory, IsTally, CountsAll}

-- each of these is of commands alone
abbrev pub AreOfCommands : List GateHistory → Type 0
AreOfCommands histories = (index : ℕ) (history : GateHistory) → slice_get histories index ≡ Some history → AreCommands history.events

-- the commands of the history at an index
abbrev pub commands_at : List GateHistory → (index : ℕ) → Commands
commands_at histories index = option_map_or (λ (history : GateHistory). commands_of history.events) (slice_get histories index) []

-- each is a legal history of the register, at the vnode of its index
abbrev pub AreLegal : Gates → List GateHistory → Type 0
AreLegal shared histories =
    (index : ℕ) (history : GateHistory) → slice_get histories index ≡ Some history → IsLegalHistory (vnode_at shared index) (commands_at histories index)

-- The register among others answers the request so, and so at a position that has all that the node had seen; and what the node has seen
-- then begins these histories.
pub record AnswersAsRegister (shared : Gates) (histories : List GateHistory) (old : NodeOverGates) (request : Request) (reply : Reply) (new : NodeOverGates) : Type 0 where
  pub register : SharedRegister shared (seen_by old) request reply (seen_by new)
  pub begins : (index : ℕ) → IsPrefix (seen_by new index) (commands_at histories index)

-- where no partition has a fallback, and the histories are of commands alone, each step in them answers so
abbrev pub PlainStepIsRegister : Gates → List GateHistory → NodeOverGates → Request → Reply → NodeOverGates → Type 0
PlainStepIsRegister shared histories old request reply new =
    AreNone shared.fallbacks → AreOfCommands histories → old.shared ≡ shared → StepIn histories old request reply new → AnswersAsRegister shared histories old request reply new

-- and where tallies count all of the histories of a new run, the histories are of commands alone, and legal
pub record ArePlain (shared : Gates) (histories : List GateHistory) : Type 0 where
  pub commands : AreOfCommands histories
  pub legal : AreLegal shared histories

abbrev pub TalliesArePlain : Gates → List GateHistory → List Tally → Type 0
TalliesArePlain shared histories tallies =
    AreOfNewRun shared.run shared.gates → AreNone shared.fallbacks → AreOfGates shared.gates histories → AllZip IsTally histories tallies → AllZip CountsAll histories tallies → ArePlain shared histories
