-- A node that has seen beginnings of some histories after a step had seen beginnings of them before it, and where a step in histories answers.
use Rattle.std.proofs.Common.{◌≡◌, ◌∙◌, ℕ, zero, suc, List, [], ◌∷◌, refl, sym, subst, inl, inr}
use Rattle.std.specs.Prelude.{Option, Some, slice_get, slice_set}
use mathlib.Core.List.{IsPrefix}
use Rattle.riak_msgs.specs.declared.Request.{Request}
use Rattle.riak_msgs.specs.declared.Request.TheVariants as requests
use Rattle.riak_msgs.specs.declared.Reply.{Reply}
use Rattle.vnode_core.specs.declared.ask.Ask.TheVariants as asks
use Rattle.stats_book.specs.declared.quantity.Quantity.{Quantity}
use Rattle.std.specs.List.{AllZip}
use Rattle.rw_gate.proofs.Prefixes.{prefix_trans}
use Rattle.gate_node.specs.Asked.{Sight, Gets, GetsOpen, Changes, ChangesOpen, AnswersAndReaps}
use Rattle.gate_node.specs.GateStep.{NodeOverGates, GateNodeStep, AnswersFrom, AtIndex, AtIndexFrom, AnswersAtPartition}
use Rattle.gate_node.proofs.Seeing.{all_reaps_more}
use Rattle.gate_node.specs.Tallies.{GateHistory}
use Rattle.gate_node.specs.OneHistory.{IsSeen, StepIn, IsAnsweredIn, IsAnsweredFrom, IsAnsweredAt, AnswersIn}
use Rattle.handoff.proofs.Opened.{none_some}

-- what was answered stands at a position of what is then seen
answer_seen : (budget count : ℕ) (Says : Sight → Sight → Type 0) (old new : Sight) (h : AnswersAndReaps budget count Says old new) → IsPrefix h.answered.prefix new.prefix
answer_seen budget count Says old new h = all_reaps_more budget count h.answered new h.reaps

answers_grow : (budget count : ℕ) (Says : Sight → Sight → Type 0) (old new : Sight) → AnswersAndReaps budget count Says old new → IsPrefix old.prefix new.prefix
answers_grow budget count Says old new h = prefix_trans old.prefix h.answered.prefix new.prefix h.more (answer_seen budget count Says old new h)

-- where a pass has seen more, it had seen less of the same history
seen_before : (histories : List GateHistory) (passes : List Sight) (index : ℕ) (before after : Sight) → slice_get passes index ≡ Some before → after.gate ≡ before.gate → IsPrefix before.prefix after.prefix → AllZip IsSeen histories (slice_set passes index after) → AllZip IsSeen histories passes
seen_before histories [] index before after at gate more h = absurd (none_some before at)
seen_before [] (pass ∷ passes) zero before after at gate more h = absurd h
seen_before [] (pass ∷ passes) (suc index) before after at gate more h = absurd h
seen_before (history ∷ histories) (pass ∷ passes) zero before after at gate more h =
    let same : pass ≡ before = cc in
    let seen : IsSeen history before = record { of_gate = sym gate ∙ h.0.of_gate; begins = prefix_trans before.prefix after.prefix history.events more h.0.begins } in
    (subst (λ (s : Sight). IsSeen history s) (sym same) seen, h.1)
seen_before (history ∷ histories) (pass ∷ passes) (suc index) before after at gate more h = (h.0, seen_before histories passes index before after at gate more h.1)

-- the history of a pass that has seen more
seen_at : (histories : List GateHistory) (passes : List Sight) (index : ℕ) (before after : Sight) → slice_get passes index ≡ Some before → AllZip IsSeen histories (slice_set passes index after) → (history : GateHistory) × (slice_get histories index ≡ Some history) × IsSeen history after
seen_at histories [] index before after at h = absurd (none_some before at)
seen_at [] (pass ∷ passes) zero before after at h = absurd h
seen_at [] (pass ∷ passes) (suc index) before after at h = absurd h
seen_at (history ∷ histories) (pass ∷ passes) zero before after at h = (history, refl, h.0)
seen_at (history ∷ histories) (pass ∷ passes) (suc index) before after at h = seen_at histories passes index before after at h.1

-- where a step in histories answers a request
index_answered : (histories : List GateHistory) (index : ℕ) (old new : NodeOverGates) (Says : Sight → Sight → Option Quantity → Type 0) (h : AtIndex index old new Says) → AllZip IsSeen histories new.passes.primaries
    → IsAnsweredIn histories index h.before h.steps.answered
index_answered histories index old new Says h seen =
    let found = seen_at histories old.passes.primaries index h.before h.after h.stands (subst (λ (node : NodeOverGates). AllZip IsSeen histories node.passes.primaries) h.node seen) in
    record {
      history = found.0;
      stands = found.1;
      of_gate = sym h.gate ∙ found.2.of_gate;
      position = prefix_trans h.steps.answered.prefix h.after.prefix found.0.events (answer_seen old.shared.budget h.reaps (λ p q. Says p q h.quantity) h.before h.after h.steps) found.2.begins;
    }

from_answered : (histories : List GateHistory) (index number : ℕ) (looked : NodeOverGates) (reply : Reply) (new : NodeOverGates) (Answers : Sight → Sight → Reply → Option Quantity → Type 0) (h : AnswersFrom index number looked reply new Answers)
    → AllZip IsSeen histories new.passes.primaries → IsAnsweredFrom histories index number looked reply new Answers h
from_answered histories index number looked reply new Answers (inl (far, h)) seen = index_answered histories index looked new (λ p q. Answers p q reply) h seen
from_answered histories index number looked reply new Answers (inr short) seen = tt

at_answered : (histories : List GateHistory) (index : ℕ) (old : NodeOverGates) (reply : Reply) (new : NodeOverGates) (Answers AnswersOpen : Sight → Sight → Reply → Option Quantity → Type 0) (h : AnswersAtPartition index old reply new Answers AnswersOpen)
    → AllZip IsSeen histories new.passes.primaries → IsAnsweredAt histories index old reply new Answers AnswersOpen h
at_answered histories index old reply new Answers AnswersOpen (inl (none, h)) seen = index_answered histories index old new (λ p q. Answers p q reply) h seen
at_answered histories index old reply new Answers AnswersOpen (inr (inl asks)) seen = tt
at_answered histories index old reply new Answers AnswersOpen (inr (inr h)) seen = from_answered histories index h.number h.answers.looked reply new Answers h.answers.answers seen

pub step_answers : (histories : List GateHistory) (old : NodeOverGates) (request : Request) (reply : Reply) (new : NodeOverGates) (step : StepIn histories old request reply new) → AnswersIn histories old request reply new step
step_answers histories old requests.Ping reply new step = tt
step_answers histories old (requests.Get get) reply new step = at_answered histories _ old reply new (Gets get) (GetsOpen get) step.0 step.1
step_answers histories old (requests.Put put) reply new step = at_answered histories _ old reply new (Changes (asks.Put put)) (ChangesOpen (asks.Put put)) step.0 step.1
step_answers histories old (requests.Del del) reply new step = at_answered histories _ old reply new (Changes (asks.Del del)) (ChangesOpen (asks.Del del)) step.0 step.1

module _ (histories : List GateHistory) where
  -- each pass of a primary has seen a beginning of the history in its place
  abbrev pub AreSeen : NodeOverGates → Type 0
  AreSeen node = AllZip IsSeen histories node.passes.primaries

  index_seen : (index : ℕ) (old new : NodeOverGates) (Says : Sight → Sight → Option Quantity → Type 0) → AtIndex index old new Says → AreSeen new → AreSeen old
  index_seen index old new Says h seen =
      let more = answers_grow old.shared.budget h.reaps (λ p q. Says p q h.quantity) h.before h.after h.steps in
      seen_before histories old.passes.primaries index h.before h.after h.stands h.gate more (subst AreSeen h.node seen)

  from_seen : (index number : ℕ) (old : NodeOverGates) (reply : Reply) (new : NodeOverGates) (Answers : Sight → Sight → Reply → Option Quantity → Type 0) → AtIndexFrom index number old reply new Answers → AreSeen new → AreSeen old
  from_seen index number old reply new Answers h seen =
      let looked : AreSeen h.looked = elim h.answers [
        | inl far ↦ index_seen index h.looked new (λ p q. Answers p q reply) far.1 seen
        | inr short ↦ subst AreSeen short.1.node seen
      ] in
      seen_before histories old.passes.primaries index h.looks.before h.looks.after h.looks.stands h.looks.gate h.looks.more (subst AreSeen h.looks.node looked)

  partition_seen : (index : ℕ) (old : NodeOverGates) (reply : Reply) (new : NodeOverGates) (Answers AnswersOpen : Sight → Sight → Reply → Option Quantity → Type 0) → AnswersAtPartition index old reply new Answers AnswersOpen → AreSeen new
      → AreSeen old
  partition_seen index old reply new Answers AnswersOpen (inl (none, h)) seen = index_seen index old new (λ p q. Answers p q reply) h seen
  partition_seen index old reply new Answers AnswersOpen (inr (inl (inl h))) seen = subst AreSeen h.node seen
  partition_seen index old reply new Answers AnswersOpen (inr (inl (inr short))) seen = subst AreSeen short.node seen
  partition_seen index old reply new Answers AnswersOpen (inr (inr h)) seen =
      subst AreSeen h.closed.node (from_seen index h.number h.found reply new Answers h.answers seen)

  pub seen_before_step : (old : NodeOverGates) (request : Request) (reply : Reply) (new : NodeOverGates) → GateNodeStep old request reply new → AreSeen new → AreSeen old
  seen_before_step old requests.Ping reply new h seen = subst AreSeen h.1 seen
  seen_before_step old (requests.Get get) reply new h seen = partition_seen _ old reply new (Gets get) (GetsOpen get) h seen
  seen_before_step old (requests.Put put) reply new h seen = partition_seen _ old reply new (Changes (asks.Put put)) (ChangesOpen (asks.Put put)) h seen
  seen_before_step old (requests.Del del) reply new h seen = partition_seen _ old reply new (Changes (asks.Del del)) (ChangesOpen (asks.Del del)) h seen
