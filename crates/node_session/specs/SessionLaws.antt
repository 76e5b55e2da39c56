-- The law of sessions: what is answered by a plain node is what the sibling register answers.
use Rattle.std.specs.Prelude.{◌<◌, ◌≤◌, ◌^◌, List, ℕ, Option}
pub use Rattle.pb_frame.specs.Message.{CodedMessage}
use Rattle.riak_msgs.specs.declared.Request.{Request}
use Rattle.riak_msgs.specs.declared.Reply.{Reply}
use Rattle.node_session.specs.declared.fault.SessionFault.{SessionFault}
use Rattle.node_session.specs.Answers.{AnswersInTurn}
use Rattle.node_session.specs.Answered.{AnsweredInput}
use Rattle.node_session.specs.Session.{IsInputEnd, Stops}
use Rattle.node_session.specs.PlainNodes.{NodeState, PlainStep, IsNewNode, partition_of, vnode_at}
use Rattle.node_session.specs.Registers.{Histories, no_events, AreAfter, RegisterStep}

-- the numbers of runs
abbrev pub IsRunNumber : ℕ → Type 0
IsRunNumber run = (1 ≤ run) × (run < 2 ^ 32)

-- of a run's node on a ring of so many index bits, whose sweeps forget so many keys at most
module _ (run index_bits budget : ℕ) where
  -- the register of that node: a history for each partition
  abbrev pub RingRegister : Histories → Request → Reply → Histories → Type 0
  RingRegister = RegisterStep run (partition_of index_bits) budget

  -- this holds of legal histories, after which the node's vnodes are in these states
  pub record OfHistories (node : NodeState) (Holds : Histories → Type 0) : Type 0 where
    pub histories : Histories
    pub are : AreAfter run histories (vnode_at run node)
    pub holds : Holds histories

  -- a session over the register, from no event on, wrote this for its input and came to the end
  abbrev pub RegisterEnds : NodeState → (input : List ℕ) (held held' : Option (List ℕ)) (count len : ℕ) → Type 0
  RegisterEnds node input held held' count len =
      OfHistories node (λ histories. AnsweredInput RingRegister no_events input held held' count (IsInputEnd histories len))

  -- and this, and stopped at a fault
  abbrev pub RegisterStops : NodeState → (input : List ℕ) (held held' : Option (List ℕ)) → SessionFault → Type 0
  RegisterStops node input held held' fault =
      OfHistories node (λ histories. Stops RingRegister no_events histories input held held' fault)

  -- what a new node answers to messages, one after another, is what the register answers to them
  abbrev pub RunsAreRegisters : Type 0
  RunsAreRegisters =
      (first node : NodeState) → IsNewNode run index_bits budget first → (messages : List CodedMessage) (replies : List Reply)
      → AnswersInTurn PlainStep first messages replies node
      → OfHistories node (λ histories. AnswersInTurn RingRegister no_events messages replies histories)

  -- a session over a new node that comes to the end is one over the register
  abbrev pub EndsAreRegisters : Type 0
  EndsAreRegisters =
      (first node : NodeState) → IsNewNode run index_bits budget first → (input : List ℕ) (held held' : Option (List ℕ)) (count len : ℕ)
      → AnsweredInput PlainStep first input held held' count (IsInputEnd node len)
      → RegisterEnds node input held held' count len

  -- and so is one that stops at a fault
  abbrev pub StopsAreRegisters : Type 0
  StopsAreRegisters =
      (first node : NodeState) → IsNewNode run index_bits budget first → (input : List ℕ) (held held' : Option (List ℕ)) (fault : SessionFault)
      → Stops PlainStep first node input held held' fault
      → RegisterStops node input held held' fault
