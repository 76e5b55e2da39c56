-- A node over gates keeps them.
use Rattle.std.proofs.Common.{◌≡◌, ◌∙◌, ℕ, List, [], ◌∷◌, ap, inl, inr}
use Rattle.std.specs.Prelude.{Option, Result, Ok, Err}
use Rattle.node_session.specs.SessionLaws.{CodedMessage}
use Rattle.riak_msgs.specs.declared.fault.MsgFault.{MsgFault}
use Rattle.riak_msgs.specs.declared.Request.{Request}
use Rattle.riak_msgs.specs.declared.Request.TheVariants as requests
use Rattle.riak_msgs.specs.declared.Reply.{Reply}
use Rattle.vnode_core.specs.declared.ask.Ask.TheVariants as asks
use Rattle.node_session.specs.Answers.{AnswersRead, AnswersInTurn}
use Rattle.stats_book.specs.declared.quantity.Quantity.{Quantity}
use Rattle.gate_node.specs.Asked.{Sight, Gets, GetsOpen, Changes, ChangesOpen}
use Rattle.gate_node.specs.GateStep.{NodeOverGates, GateNodeStep, AtIndexFrom, AnswersAtPartition}

from-keeps : (index number : ℕ) (old : NodeOverGates) (reply : Reply) (new : NodeOverGates) (Answers : Sight → Sight → Reply → Option Quantity → Type 0) → AtIndexFrom index number old reply new Answers
    → new.shared ≡ old.shared
from-keeps index number old reply new Answers at =
    let looked = ap (λ (n : NodeOverGates). n.shared) at.looks.node in
    elim at.answers [
      | inl far ↦ ap (λ (n : NodeOverGates). n.shared) far.1.node ∙ looked
      | inr short ↦ ap (λ (n : NodeOverGates). n.shared) short.1.node ∙ looked
    ]

partition-keeps : (index : ℕ) (old : NodeOverGates) (reply : Reply) (new : NodeOverGates) (Answers AnswersOpen : Sight → Sight → Reply → Option Quantity → Type 0)
    → AnswersAtPartition index old reply new Answers AnswersOpen → new.shared ≡ old.shared
partition-keeps index old reply new Answers AnswersOpen (inl (none, at)) = ap (λ (n : NodeOverGates). n.shared) at.node
partition-keeps index old reply new Answers AnswersOpen (inr (inl (inl at))) = ap (λ (n : NodeOverGates). n.shared) at.node
partition-keeps index old reply new Answers AnswersOpen (inr (inl (inr short))) = ap (λ (n : NodeOverGates). n.shared) short.node
partition-keeps index old reply new Answers AnswersOpen (inr (inr at)) =
    from-keeps index at.number at.found reply new Answers at.answers ∙ ap (λ (n : NodeOverGates). n.shared) at.closed.node

pub step-keeps : (old : NodeOverGates) (request : Request) (reply : Reply) (new : NodeOverGates) → GateNodeStep old request reply new → new.shared ≡ old.shared
step-keeps old requests.Ping reply new step = ap (λ (n : NodeOverGates). n.shared) step.1
step-keeps old (requests.Get get) reply new step = partition-keeps _ old reply new (Gets get) (GetsOpen get) step
step-keeps old (requests.Put put) reply new step = partition-keeps _ old reply new (Changes (asks.Put put)) (ChangesOpen (asks.Put put)) step
step-keeps old (requests.Del del) reply new step = partition-keeps _ old reply new (Changes (asks.Del del)) (ChangesOpen (asks.Del del)) step

pub read-keeps : (old : NodeOverGates) (said : Result Request MsgFault) (reply : Reply) (new : NodeOverGates) → AnswersRead GateNodeStep old said reply new → new.shared ≡ old.shared
read-keeps old (Ok request) reply new (inl step) = step-keeps old request reply new step
read-keeps old (Ok request) reply new (inr stays) = ap (λ (n : NodeOverGates). n.shared) stays.1
read-keeps old (Err fault) reply new stays = ap (λ (n : NodeOverGates). n.shared) stays.1

pub run-keeps : (old : NodeOverGates) (messages : List CodedMessage) (replies : List Reply) (new : NodeOverGates) → AnswersInTurn GateNodeStep old messages replies new → new.shared ≡ old.shared
run-keeps old [] [] new run = ap (λ (n : NodeOverGates). n.shared) run
run-keeps old [] (reply ∷ replies) new run = absurd run
run-keeps old (message ∷ messages) [] new run = absurd run
run-keeps old (message ∷ messages) (reply ∷ replies) new run =
    run-keeps run.0 messages replies new run.2 ∙ read-keeps old run.1.said reply run.0 run.1.answers
