-- The step of a node over gates.
use Rattle.std.specs.Prelude.{◌≡◌, ◌<◌, ◌≤◌, ◌⊎◌, ℕ, length, Option, Some, None, IsSome, slice_get, slice_set}
use Rattle.std.specs.Option.{option_map_or}
use mathlib.Core.List.{IsPrefix}
use Rattle.ring_map.specs.Ring.{id_of}
pub use Rattle.riak_msgs.specs.declared.Request.{Request}
use Rattle.riak_msgs.specs.declared.Request.TheVariants as requests
pub use Rattle.riak_msgs.specs.declared.Reply.{Reply}
use Rattle.riak_msgs.specs.declared.Reply.TheVariants as replies
use Rattle.vnode_core.specs.declared.ask.Ask.TheVariants as asks
use Rattle.riak_msgs.specs.declared.Text.{Text}
use Rattle.riak_msgs.specs.declared.Text.TheVariants as texts
use Rattle.stats_book.specs.declared.quantity.Quantity.{Quantity}
use Rattle.stats_book.specs.declared.quantity.Quantity.TheVariants as quantities
use Rattle.vnode_machine.specs.Replay.{IsWithinLimits}
use Rattle.vnode_core.specs.Events.{IsMadeNew}
use Rattle.handoff.specs.declared.gates.Fallback.{Fallback}
use Rattle.handoff.specs.Partitions.{IsFallback}
use Rattle.node_session.specs.PlainNodes.{partition_of}
use Rattle.stats_book.specs.Counter.{Count, CountsAnswer}
use Rattle.gate_node.specs.declared.passes.FallbackPass.{FallbackPass}
use Rattle.gate_node.specs.Asked.{Sight, Gets, GetsOpen, Changes, ChangesOpen, AnswersAndReaps, IsClosedWith}
use Rattle.gate_node.specs.Gates.{Gates}
use Rattle.gate_node.specs.Passes.{Sights, Resumes, kept_of}

-- a node: the gates of its run, what its passes of them have seen and published, and what it has counted
pub record NodeOverGates : Type 0 where
  pub shared : Gates
  pub passes : Sights
  pub count : Count

-- A request is answered at the vnode of this index, of which dead keys are forgotten then, and all of that is counted. The gate was made
-- round that vnode when it was new, its id is one that a vnode can have, and what was seen of any other vnode stays.
pub record AtIndex (index : ℕ) (old new : NodeOverGates) (Answers : Sight → Sight → Option Quantity → Type 0) : Type 0 where
  pub before : Sight
  pub after : Sight
  pub quantity : Option Quantity
  pub reaps : ℕ
  pub count : Count
  pub stands : slice_get old.passes.primaries index ≡ Some before
  pub made_new : IsMadeNew (id_of old.shared.run index) 0 before.gate
  pub limits : IsWithinLimits (id_of old.shared.run index) 0
  pub gate : after.gate ≡ before.gate
  pub steps : AnswersAndReaps old.shared.budget reaps (λ p q. Answers p q quantity) before after
  pub counts : CountsAnswer quantity reaps old.count count
  pub node : new ≡ record old {
    passes = record old.passes { primaries = slice_set old.passes.primaries index after };
    count = count;
  }

-- A request is answered at the fallback of the partition of this index, over the fallback's history alone, and that is counted; no
-- dead key is forgotten. The pass is the one that was kept of this fallback, or else a new one, and is kept from then on. The
-- fallback's gate was made round a new vnode with an id of its own, and what was seen of any other vnode stays, the primary's too.
pub record AtFallback (index : ℕ) (old new : NodeOverGates) (Answers : Sight → Sight → Option Quantity → Type 0) : Type 0 where
  pub fallback : Fallback
  pub diverted : slice_get old.shared.fallbacks index ≡ Some (Some fallback)
  pub is_new : IsFallback old.shared.run index fallback
  pub kept : Option FallbackPass
  pub stood : slice_get old.passes.fallbacks index ≡ Some kept
  pub before : Sight
  pub after : Sight
  pub quantity : Option Quantity
  pub count : Count
  pub resumes : Resumes fallback kept before None
  pub of_gate : before.gate ≡ fallback.gate
  pub gate : after.gate ≡ before.gate
  pub more : IsPrefix before.prefix after.prefix
  pub answers : Answers before after quantity
  pub counts : CountsAnswer quantity 0 old.count count
  pub node : new ≡ record old {
    passes = record old.passes { fallbacks = slice_set old.passes.fallbacks index (kept_of fallback after None) };
    count = count;
  }

-- The fallback of the partition of this index is closed with this number, at the end of what the pass of it has then seen. The pass is
-- resumed and kept as where it answers; where it had seen the close before, it stays as it was, since the fallback isn't asked again.
-- Nothing else changes.
pub record AtClosed (index number : ℕ) (old new : NodeOverGates) : Type 0 where
  pub fallback : Fallback
  pub diverted : slice_get old.shared.fallbacks index ≡ Some (Some fallback)
  pub is_new : IsFallback old.shared.run index fallback
  pub kept : Option FallbackPass
  pub stood : slice_get old.passes.fallbacks index ≡ Some kept
  pub before : Sight
  pub after : Sight
  pub known : Option ℕ
  pub resumes : Resumes fallback kept before known
  pub of_gate : before.gate ≡ fallback.gate
  pub closed : IsClosedWith number before after
  pub stays : IsSome known → after ≡ before
  pub node : new ≡ record old {
    passes = record old.passes { fallbacks = slice_set old.passes.fallbacks index (kept_of fallback after (Some number)) };
  }

-- the pass of the primary of this index goes on by a look, or stays; nothing is published, and nothing else changes
pub record LooksAtPrimary (index : ℕ) (old new : NodeOverGates) : Type 0 where
  pub before : Sight
  pub after : Sight
  pub stands : slice_get old.passes.primaries index ≡ Some before
  pub gate : after.gate ≡ before.gate
  pub more : IsPrefix before.prefix after.prefix
  pub own : after.own ≡ before.own
  pub node : new ≡ record old { passes = record old.passes { primaries = slice_set old.passes.primaries index after } }

-- how many events of the primary of this index the node has seen
abbrev pub events_seen : NodeOverGates → (index : ℕ) → ℕ
events_seen node index = option_map_or (λ (pass : Sight). length pass.prefix) (slice_get node.passes.primaries index) 0

-- a request is answered by this error, which is counted, and nothing else changes
pub record AnswersError (text : Text) (old : NodeOverGates) (reply : Reply) (new : NodeOverGates) : Type 0 where
  pub count : Count
  pub replied : reply ≡ replies.Error text
  pub counts : CountsAnswer (Some quantities.Refusals) 0 old.count count
  pub node : new ≡ record old { count = count }

-- A request is answered at the primary of this index by a node that has seen at least so many events of it, and so at a position behind
-- these. Where it hasn't seen so many, the answer is `moved`.
abbrev pub AnswersFrom : (index number : ℕ) (old : NodeOverGates) (reply : Reply) (new : NodeOverGates) → (Sight → Sight → Reply → Option Quantity → Type 0) → Type 0
AnswersFrom index number old reply new Answers =
    ((number ≤ events_seen old index) × AtIndex index old new (λ p q. Answers p q reply))
    ⊎ ((events_seen old index < number) × AnswersError texts.Moved old reply new)

-- so it is once the node has looked at the primary
pub record AtIndexFrom (index number : ℕ) (old : NodeOverGates) (reply : Reply) (new : NodeOverGates) (Answers : Sight → Sight → Reply → Option Quantity → Type 0) : Type 0 where
  pub looked : NodeOverGates
  pub looks : LooksAtPrimary index old looked
  pub answers : AnswersFrom index number looked reply new Answers

-- A request is answered at the primary of this index since the diversion of its partition has ended: the fallback is closed with some
-- number, and the request is answered behind so many events of the primary.
pub record AtReturned (index : ℕ) (old : NodeOverGates) (reply : Reply) (new : NodeOverGates) (Answers : Sight → Sight → Reply → Option Quantity → Type 0) : Type 0 where
  pub number : ℕ
  pub found : NodeOverGates
  pub closed : AtClosed index number old found
  pub answers : AtIndexFrom index number found reply new Answers

-- a request is answered at a fallback by a pass of it, or memory is refused for the pass
abbrev pub AsksFallback : (index : ℕ) (old : NodeOverGates) (reply : Reply) (new : NodeOverGates) → (AnswersOpen : Sight → Sight → Reply → Option Quantity → Type 0) → Type 0
AsksFallback index old reply new AnswersOpen = AtFallback index old new (λ p q. AnswersOpen p q reply) ⊎ AnswersError texts.NoMemory old reply new

-- a request is answered at a partition with a fallback: at that, while it isn't closed, and then at the primary
abbrev pub AtDiverted : (index : ℕ) (old : NodeOverGates) (reply : Reply) (new : NodeOverGates) → (Answers AnswersOpen : Sight → Sight → Reply → Option Quantity → Type 0) → Type 0
AtDiverted index old reply new Answers AnswersOpen = AsksFallback index old reply new AnswersOpen ⊎ AtReturned index old reply new Answers

-- a request is answered at a partition: at its primary, where it has no fallback
abbrev pub AnswersAtPartition : (index : ℕ) (old : NodeOverGates) (reply : Reply) (new : NodeOverGates) → (Answers AnswersOpen : Sight → Sight → Reply → Option Quantity → Type 0) → Type 0
AnswersAtPartition index old reply new Answers AnswersOpen =
    ((slice_get old.shared.fallbacks index ≡ Some None) × AtIndex index old new (λ p q. Answers p q reply))
    ⊎ AtDiverted index old reply new Answers AnswersOpen

-- a ping is answered by a ping and changes and counts nothing; any other request is answered at the partition that its key lies in
abbrev pub GateNodeStep : NodeOverGates → Request → Reply → NodeOverGates → Type 0
GateNodeStep old requests.Ping reply new = (reply ≡ replies.Ping) × (new ≡ old)
GateNodeStep old (requests.Get get) reply new = AnswersAtPartition (partition_of old.shared.index_bits get.key) old reply new (Gets get) (GetsOpen get)
GateNodeStep old (requests.Put put) reply new =
    AnswersAtPartition (partition_of old.shared.index_bits put.key) old reply new (Changes (asks.Put put)) (ChangesOpen (asks.Put put))
GateNodeStep old (requests.Del del) reply new =
    AnswersAtPartition (partition_of old.shared.index_bits del.key) old reply new (Changes (asks.Del del)) (ChangesOpen (asks.Del del))
