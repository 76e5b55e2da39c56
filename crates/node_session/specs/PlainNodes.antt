-- A node of vnodes on a ring: what it keeps, a new one, and its step.
use Rattle.std.specs.Prelude.{◌≡◌, ◌≤◌, ◌^◌, set, List, [], ◌∷◌, ℕ, Some, None, MatchOption, map, length, get_or, slice_get}
use Rattle.ring_map.specs.Ring.{digest_of, id_of, index_of}
use Rattle.riak_msgs.specs.declared.Key.{Key}
use Rattle.riak_msgs.specs.Contents.{Content}
use Rattle.riak_msgs.specs.declared.Request.{Request}
use Rattle.riak_msgs.specs.declared.Reply.{Reply}
use Rattle.riak_msgs.specs.declared.Reply.TheVariants as replies
use Rattle.sibling_register.specs.Answers.{RegisterAsk}
use Rattle.vnode_machine.specs.Asks.{Context, request_ask}
use Rattle.vnode_machine.specs.Machine.{State, opening}
use Rattle.vnode_machine.specs.Step.{MachineOutcome, outcome}
use Rattle.vnode_machine.specs.Dead.{swept}
use Rattle.vnode_machine.specs.Registers.{key_of}
use Rattle.vnode_core.specs.Plans.{View}
use Rattle.vnode_core.specs.declared.ask.Ask.{Ask as AskOfVnode}
use Rattle.node_session.specs.PlainStep.{StepsBy, StepsByWrite}

-- how many bits number the partitions, how many dead keys a sweep forgets at most, and the state of the vnode of each
-- partition
pub record NodeState : Type 0 where
  pub index_bits : ℕ
  pub budget : ℕ
  pub vnodes : List (State Content)

-- the states of vnodes
abbrev pub states_of : List View → List (State Content)
states_of vnodes = map (λ (vnode : View). vnode.state) vnodes

-- no vnode of a plain node is ever closed
abbrev pub AreOpen : List View → Type 0
AreOpen [] = Unit {0}
AreOpen (vnode ∷ vnodes) = (vnode.state.closed ≡ None) × AreOpen vnodes

-- the vnode at an index in a run; beyond the ring there has been no event
abbrev pub vnode_at : (run : ℕ) → NodeState → (index : ℕ) → State Content
vnode_at run node index = get_or node.vnodes index (opening (id_of run index) 0)

-- the index of the partition that a key lies in
abbrev pub partition_of : (index_bits : ℕ) → Key → ℕ
partition_of index_bits key = index_of index_bits (digest_of key)

-- so many vnodes of a run, before any event
pub record AreNew (run size : ℕ) (vnodes : List (State Content)) : Type 0 where
  pub count : length vnodes ≡ size
  pub each : (index : ℕ) → get_or vnodes index (opening (id_of run index) 0) ≡ opening (id_of run index) 0

-- a node of a run, with a new vnode for each partition of the ring, and with this budget
pub record IsNewNode (run index_bits budget : ℕ) (node : NodeState) : Type 0 where
  pub bits : node.index_bits ≡ index_bits
  pub sweeps : node.budget ≡ budget
  pub vnodes : AreNew run (2 ^ index_bits) node.vnodes
  pub bound : 2 ^ index_bits ≤ 1024

-- what comes of an ask in a state is replied, and of the state after it the first dead keys are forgotten
pub record AnswersAndSweeps (budget : ℕ) (before : State Content) (came : MachineOutcome) (reply : Reply) (after : State Content) : Type 0 where
  pub answered : State Content
  pub steps : StepsBy before came reply answered
  pub sweeps : after ≡ swept answered None budget

-- a put or a delete is answered, and then the first dead keys are forgotten
pub record WritesAndSweeps (budget : ℕ) (before : State Content) (ask : AskOfVnode) (reply : Reply) (after : State Content) : Type 0 where
  pub answered : State Content
  pub steps : StepsByWrite before ask reply answered
  pub sweeps : after ≡ swept answered None budget

-- an ask is answered by the vnode at this index, which is swept then, and the others stay
pub record AnswersAt (index : ℕ) (node : NodeState) (ask : RegisterAsk Content Context) (reply : Reply) (node' : NodeState) : Type 0 where
  pub before : State Content
  pub after : State Content
  pub stands : slice_get node.vnodes index ≡ Some before
  pub steps : AnswersAndSweeps node.budget before (outcome before ask) reply after
  pub new : node' ≡ record node { vnodes = set node.vnodes index after }

-- an ask is answered by the vnode that its key lies in
abbrev pub AnswersByKey : NodeState → RegisterAsk Content Context → Reply → NodeState → Type 0
AnswersByKey node ask reply node' = AnswersAt (partition_of node.index_bits (key_of ask)) node ask reply node'

-- the step of a plain node: a ping is answered by a ping and changes nothing, any other request by the vnode that its
-- key lies in, as its ask is
abbrev pub PlainStep : NodeState → Request → Reply → NodeState → Type 0
PlainStep node request reply node' =
    MatchOption (request_ask request) ((reply ≡ replies.Ping) × (node' ≡ node)) (λ ask. AnswersByKey node ask reply node')
