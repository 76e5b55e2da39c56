-- One history of the primary of each partition of a run, of which every caller has seen a beginning.
use Rattle.std.specs.Prelude.{◌≡◌, ℕ, Bool, true, List, [], ◌∷◌, Option, Some, IfSome, map, slice_get}
use mathlib.Core.Logic.{inl, inr}
use mathlib.Core.List.{IsPrefix}
use Rattle.std.specs.List.{All, AllZip}
use Rattle.rw_gate.specs.Views.{GateId}
use Rattle.vnode_core.specs.declared.vnode.tally.Tally.{Tally}
use Rattle.vnode_core.specs.declared.entry.Entry.{Entry}
use Rattle.vnode_core.specs.Plans.{View}
use Rattle.riak_msgs.specs.declared.Request.{Request}
use Rattle.riak_msgs.specs.declared.Request.TheVariants as requests
use Rattle.riak_msgs.specs.declared.Reply.{Reply}
use Rattle.vnode_core.specs.declared.ask.Ask.TheVariants as asks
use Rattle.node_session.specs.PlainNodes.{partition_of}
use Rattle.gate_node.specs.Asked.{Sight, Gets, GetsOpen, Changes, ChangesOpen}
use Rattle.gate_node.specs.Gates.{Gates}
use Rattle.gate_node.specs.GateStep.{NodeOverGates, GateNodeStep, AnswersFrom, AnswersAtPartition}
use Rattle.gate_node.specs.Passes.{Sights, ArePassesOf}
use Rattle.stats_book.specs.declared.quantity.Quantity.{Quantity}
use Rattle.gate_node.specs.Tallies.{GateHistory, IsTally, CountsAll}

-- a pass of this history's gate, and what it has seen is a beginning of the history
pub record IsSeen (history : GateHistory) (pass : Sight) : Type 0 where
  pub of_gate : pass.gate ≡ history.gate
  pub begins : IsPrefix pass.prefix history.events

-- a step of a node over gates, after which each of its passes of a primary has seen a beginning of the history in its place
abbrev pub StepIn : List GateHistory → NodeOverGates → Request → Reply → NodeOverGates → Type 0
StepIn histories old request reply new = GateNodeStep old request reply new × AllZip IsSeen histories new.passes.primaries

-- at this vnode a request was answered from all that a pass had then seen, with the event that the request made: these events are a
-- beginning of the vnode's history, and so their end is a position of it
pub record IsAnsweredIn (histories : List GateHistory) (index : ℕ) (before answered : Sight) : Type 0 where
  pub history : GateHistory
  pub stands : slice_get histories index ≡ Some history
  pub of_gate : before.gate ≡ history.gate
  pub position : IsPrefix answered.prefix history.events

-- where a request is answered at a primary since the diversion of its partition has ended, that is so of it
abbrev pub IsAnsweredFrom : (histories : List GateHistory) (index number : ℕ) (looked : NodeOverGates) (reply : Reply) (new : NodeOverGates) (Answers : Sight → Sight → Reply → Option Quantity → Type 0)
    → AnswersFrom index number looked reply new Answers → Type 0
IsAnsweredFrom histories index number looked reply new Answers (inl (far, at)) = IsAnsweredIn histories index at.before at.steps.answered
IsAnsweredFrom histories index number looked reply new Answers (inr short) = Unit {0}

-- where a request is answered at a partition, that is so of its primary; one that is answered at a fallback is no position of these
-- histories
abbrev pub IsAnsweredAt : (histories : List GateHistory) (index : ℕ) (old : NodeOverGates) (reply : Reply) (new : NodeOverGates) (Answers AnswersOpen : Sight → Sight → Reply → Option Quantity → Type 0)
    → AnswersAtPartition index old reply new Answers AnswersOpen → Type 0
IsAnsweredAt histories index old reply new Answers AnswersOpen (inl (none, at)) = IsAnsweredIn histories index at.before at.steps.answered
IsAnsweredAt histories index old reply new Answers AnswersOpen (inr (inl asks)) = Unit {0}
IsAnsweredAt histories index old reply new Answers AnswersOpen (inr (inr at)) =
    IsAnsweredFrom histories index at.number at.answers.looked reply new Answers at.answers.answers

-- so is each request that a step in these histories answers, at the partition that its key lies in
abbrev pub AnswersIn : (histories : List GateHistory) (old : NodeOverGates) (request : Request) (reply : Reply) (new : NodeOverGates) → StepIn histories old request reply new → Type 0
AnswersIn histories old requests.Ping reply new step = Unit {0}
AnswersIn histories old (requests.Get get) reply new step = IsAnsweredAt histories (partition_of old.shared.index_bits get.key) old reply new (Gets get) (GetsOpen get) step.0
AnswersIn histories old (requests.Put put) reply new step =
    IsAnsweredAt histories (partition_of old.shared.index_bits put.key) old reply new (Changes (asks.Put put)) (ChangesOpen (asks.Put put)) step.0
AnswersIn histories old (requests.Del del) reply new step =
    IsAnsweredAt histories (partition_of old.shared.index_bits del.key) old reply new (Changes (asks.Del del)) (ChangesOpen (asks.Del del)) step.0

-- these are histories of the vnodes behind these gates
abbrev pub AreOfGates : List (GateId View) → List GateHistory → Type 0
AreOfGates gates histories = map (λ (history : GateHistory). history.gate) histories ≡ gates

-- the pass at this index, where there is one, is of this gate
abbrev pub PassIsOfGate : ℕ → GateId View → List Sight → Type 0
PassIsOfGate index gate passes = IfSome (slice_get passes index) (λ (pass : Sight). pass.gate ≡ gate)

-- what the pass at this index, where there is one, has seen is a beginning of these events
abbrev pub HasSeen : ℕ → List Entry → List Sight → Type 0
HasSeen index events passes = IfSome (slice_get passes index) (λ (pass : Sight). IsPrefix pass.prefix events)

-- so it is with each of these histories and the pass in its place, where there is one
abbrev pub HaveSeen : List GateHistory → List Sight → Type 0
HaveSeen [] passes = Unit {0}
HaveSeen (history ∷ histories) [] = Unit {0}
HaveSeen (history ∷ histories) (pass ∷ passes) = IsPrefix pass.prefix history.events × HaveSeen histories passes

module _ {T : Type 0} (sights : T → Sights) where
  -- the passes of each of these callers are of the gates of this run
  abbrev pub CallersAreOfRun : Gates → List T → Type 0
  CallersAreOfRun shared callers = All (λ (caller : T). ArePassesOf shared (sights caller)) callers

  abbrev pub CallersAreOfGate : ℕ → GateId View → List T → Type 0
  CallersAreOfGate index gate callers = All (λ (caller : T). PassIsOfGate index gate (sights caller).primaries) callers

  abbrev pub AllHaveSeen : ℕ → List Entry → List T → Type 0
  AllHaveSeen index events callers = All (λ (caller : T). HasSeen index events (sights caller).primaries) callers

  -- the tally is of one history of the vnode behind this gate, and what each of these callers' passes of it has seen is a beginning of that;
  -- whether it counts all of it was looked at
  pub record SharesHistory (index : ℕ) (gate : GateId View) (callers : List T) (tally : Tally) (counts_all : Bool) : Type 0 where
    pub events : List Entry
    pub tallied : IsTally (record { gate = gate; events = events }) tally
    pub counted : counts_all ≡ true → CountsAll (record { gate = gate; events = events }) tally
    pub seen : AllHaveSeen index events callers

  -- and so for each of these gates
  pub record ShareHistories (gates : List (GateId View)) (callers : List T) (tallies : List Tally) (count_all : Bool) : Type 0 where
    pub histories : List GateHistory
    pub of_gates : AreOfGates gates histories
    pub tallied : AllZip IsTally histories tallies
    pub counted : count_all ≡ true → AllZip CountsAll histories tallies
    pub seen : All (λ (caller : T). HaveSeen histories (sights caller).primaries) callers
