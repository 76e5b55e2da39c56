-- The sibling register as one caller of several sees it: between two of its requests others' commands may have been accepted.
use Rattle.std.specs.Prelude.{◌≡◌, ◌≢◌, ◌⊎◌, if◌then◌else◌, ℕ, List, [], Option, Some, None, Result, MatchOption, slice_get, unwrap_or}
use Rattle.std.specs.Option.{option_map_or}
use mathlib.Core.List.{IsPrefix}
use Rattle.node_session.specs.SessionLaws.{CodedMessage}
use Rattle.ring_map.specs.Ring.{id_of}
use Rattle.riak_msgs.specs.declared.Key.{Key}
use Rattle.riak_msgs.specs.Contents.{Content}
use Rattle.riak_msgs.specs.declared.Request.{Request}
use Rattle.riak_msgs.specs.declared.Reply.{Reply}
use Rattle.riak_msgs.specs.declared.Reply.TheVariants as replies
use Rattle.riak_msgs.specs.declared.Text.TheVariants as texts
use Rattle.sibling_register.specs.Answers.{RegisterAsk}
use Rattle.vnode_machine.specs.Asks.{Context, request_ask}
use Rattle.vnode_machine.specs.Machine.{State}
use Rattle.vnode_machine.specs.Replay.{History}
use Rattle.vnode_machine.specs.Step.{Response}
use Rattle.vnode_machine.specs.Registers.{key_of}
use Rattle.vnode_machine.specs.Runs.{AnswersTurn}
use Rattle.vnode_core.specs.declared.event.VnodeEvent.{VnodeEvent}
use Rattle.vnode_core.specs.declared.entry.Entry.{Entry}
use Rattle.vnode_core.specs.Events.{AreCommands, GoesOnTo, commands_of, history_after}
use Rattle.node_session.specs.declared.fault.SessionFault.{SessionFault}
use Rattle.node_session.specs.Answers.{AnswersInTurn}
use Rattle.node_session.specs.Answered.{AnsweredInput}
use Rattle.node_session.specs.PlainNodes.{partition_of}
use Rattle.node_session.specs.PlainStep.{reply_of}
use Rattle.node_session.specs.Session.{IsInputEnd, Stops}
use Rattle.vnode_core.specs.Plans.{View}
use Rattle.rw_gate.specs.Views.{GateId}
use Rattle.handoff.specs.declared.gates.Fallback.{Fallback}
use Rattle.handoff.specs.Partitions.{fallback_id}
use Rattle.gate_node.specs.declared.passes.FallbackPass.{FallbackPass}
use Rattle.gate_node.specs.Asked.{Sight}
use Rattle.gate_node.specs.Gates.{Gates}
use Rattle.gate_node.specs.Passes.{is_pass_of}
use Rattle.gate_node.specs.GateStep.{NodeOverGates, GateNodeStep}

-- the commands that a vnode accepted, oldest first, each with its answer
abbrev pub Commands : Type 0
Commands = List VnodeEvent

-- what a caller has seen of them, by the partition's index
abbrev pub Seen : Type 0
Seen = ℕ → Commands

-- what a pass of this fallback has seen that is kept; nothing, where none is
abbrev pub seen_at_fallback : Fallback → Option FallbackPass → List Entry
seen_at_fallback fallback kept = if is_pass_of fallback kept then option_map_or (λ (pass : FallbackPass). pass.pass.prefix) kept [] else []

-- what is seen of a partition by a pass of its primary, or of its fallback where one stands
abbrev pub seen_at : Option (Option Fallback) → Option Sight → Option (Option FallbackPass) → List Entry
seen_at (Some (Some fallback)) primary kept = seen_at_fallback fallback (unwrap_or kept None)
seen_at (Some None) primary kept = option_map_or (λ (pass : Sight). pass.prefix) primary []
seen_at None primary kept = option_map_or (λ (pass : Sight). pass.prefix) primary []

-- what a node's passes have seen at an index, of the vnode that the calls of the partition are for
abbrev pub entries_by : NodeOverGates → ℕ → List Entry
entries_by node index = seen_at (slice_get node.shared.fallbacks index) (slice_get node.passes.primaries index) (slice_get node.passes.fallbacks index)

-- and the commands among that
abbrev pub seen_by : NodeOverGates → Seen
seen_by node index = commands_of (entries_by node index)

-- they have seen commands alone, at each index
abbrev pub HasSeenCommands : NodeOverGates → Type 0
HasSeenCommands node = (index : ℕ) → AreCommands (entries_by node index)

-- a vnode: its id, and the last epoch that it had given before its history began
pub record VnodeId : Type 0 where
  pub vnode : ℕ
  pub last_epoch : ℕ

-- the last epoch that a vnode had given round which a gate was made
abbrev pub first_epoch : GateId View → ℕ
first_epoch gate = option_map_or (λ (first : View). first.state.last_epoch) gate.opening 0

abbrev pub id_at : (run index : ℕ) → Option (Option Fallback) → VnodeId
id_at run index (Some (Some fallback)) = record { vnode = fallback_id run index; last_epoch = first_epoch fallback.gate }
id_at run index (Some None) = record { vnode = id_of run index; last_epoch = 0 }
id_at run index None = record { vnode = id_of run index; last_epoch = 0 }

-- the vnode that the calls of the partition of an index are for: its primary, or its fallback where one stands
abbrev pub vnode_at : Gates → (index : ℕ) → VnodeId
vnode_at shared index = id_at shared.run index (slice_get shared.fallbacks index)

module _ (id : VnodeId) where
  -- the register's history that these commands of the vnode are
  abbrev pub history_of : Commands → History
  history_of commands = history_after id.vnode id.last_epoch [] commands

  -- it is legal, and each of them was answered as the register answers it at its place
  abbrev pub IsLegalHistory : Commands → Type 0
  IsLegalHistory commands = (state : State Content) × GoesOnTo id.vnode id.last_epoch [] commands state

  -- the register answers an ask at a position that has all that its caller had seen; what it accepts is the next command; and then
  -- more may have been accepted
  pub record AnswersAmongOthers (ask : RegisterAsk Content Context) (old : Commands) (reply : Reply) (new : Commands) : Type 0 where
    pub position : Commands
    pub after : Commands
    pub result : Result Response ℕ
    pub begins : IsPrefix old position
    pub legal : IsLegalHistory after
    pub answers : AnswersTurn id.vnode id.last_epoch (history_of position) (record { ask = ask; reply = result }) (history_of after)
    pub replied : reply ≡ reply_of result
    pub more : IsPrefix after new

-- the errors by which a gate answers in the place of the register: other commands came between, or its vnode is closed, or there is no
-- room for one more
abbrev pub IsGateError : Reply → Type 0
IsGateError reply = (reply ≡ replies.Error texts.Moved) ⊎ (reply ≡ replies.Error texts.HistoryFull)

-- memory is refused before the register is asked, and nothing more is seen
abbrev pub GivesUpBefore : Commands → Reply → Commands → Type 0
GivesUpBefore old reply new = (reply ≡ replies.Error texts.NoMemory) × (new ≡ old)

-- an ask is answered at this vnode of the partition of this index: by the register, or by the gate or for want of memory, and then it is no
-- command; what was seen of other partitions stays
pub record AnswersAskAt (id : VnodeId) (index : ℕ) (ask : RegisterAsk Content Context) (old : Seen) (reply : Reply) (new : Seen) : Type 0 where
  pub answers : (AnswersAmongOthers id ask (old index) reply (new index) ⊎ (IsGateError reply × IsPrefix (old index) (new index)))
      ⊎ GivesUpBefore (old index) reply (new index)
  pub others : (other : ℕ) → other ≢ index → new other ≡ old other

-- a ping is answered by a ping and shows nothing, any other request at the partition that its key lies in
abbrev pub RegisterAmongOthers : (vnode_of : ℕ → VnodeId) (index_of : Key → ℕ) → Seen → Request → Reply → Seen → Type 0
RegisterAmongOthers vnode_of index_of old request reply new =
    MatchOption (request_ask request) ((reply ≡ replies.Ping) × (new ≡ old))
    (λ ask. AnswersAskAt (vnode_of (index_of (key_of ask))) (index_of (key_of ask)) ask old reply new)

-- that of the gates of a run
abbrev pub SharedRegister : Gates → Seen → Request → Reply → Seen → Type 0
SharedRegister shared = RegisterAmongOthers (vnode_at shared) (partition_of shared.index_bits)

-- what a node over gates answers to messages, one after another, the register among others does, where the node has seen commands
-- alone in the end
abbrev pub RunIsRegister : (old new : NodeOverGates) → List CodedMessage → List Reply → Type 0
RunIsRegister old new messages replies =
    HasSeenCommands new → AnswersInTurn GateNodeStep old messages replies new
    → AnswersInTurn (SharedRegister old.shared) (seen_by old) messages replies (seen_by new)

-- a session that comes to the end is one over the register among others
abbrev pub EndIsRegister : (old new : NodeOverGates) (input : List ℕ) (held held' : Option (List ℕ)) (count len : ℕ) → Type 0
EndIsRegister old new input held held' count len =
    HasSeenCommands new → AnsweredInput GateNodeStep old input held held' count (IsInputEnd new len)
    → AnsweredInput (SharedRegister old.shared) (seen_by old) input held held' count (IsInputEnd (seen_by new) len)

-- and so is one that stops at a fault
abbrev pub StopIsRegister : (old new : NodeOverGates) (input : List ℕ) (held held' : Option (List ℕ)) → SessionFault → Type 0
StopIsRegister old new input held held' fault =
    HasSeenCommands new → Stops GateNodeStep old new input held held' fault
    → Stops (SharedRegister old.shared) (seen_by old) (seen_by new) input held held' fault
