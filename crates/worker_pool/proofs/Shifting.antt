-- A node's step is the same with more counted before it.
use Rattle.std.proofs.Common.{◌≡◌, ◌≤◌, ◌∙◌, ◌+◌, ℕ, arith, ap, inl, inr}
use Rattle.std.specs.Prelude.{◌^◌, Option, Some, None}
use Rattle.riak_msgs.specs.declared.Request.{Request}
use Rattle.riak_msgs.specs.declared.Request.TheVariants as requests
use Rattle.riak_msgs.specs.declared.Reply.{Reply}
use Rattle.riak_msgs.specs.declared.Text.{Text}
use Rattle.stats_book.specs.Counter.{Count, Counts, CountsReply, CountsAnswer}
use Rattle.stats_book.specs.Counting.{both, raised, IsFull}
use Rattle.stats_book.specs.declared.totals.Totals.{Totals}
use Rattle.stats_book.specs.declared.quantity.Quantity.{Quantity}
use Rattle.stats_book.specs.declared.quantity.Quantity.TheVariants.{Gets, Puts, Deletes, Refusals, Reaps}
use Rattle.gate_node.specs.Asked.{Sight, GetsOpen, ChangesOpen}
use Rattle.gate_node.specs.Asked as asked
use Rattle.gate_node.specs.GateStep.{NodeOverGates, GateNodeStep, AtIndex, AtFallback, AtClosed, LooksAtPrimary, AnswersError, AnswersFrom, AtIndexFrom, AtReturned, AnswersAtPartition}
use Rattle.worker_pool.specs.Resuming.{on_top}

raised_on : (before : Totals) (quantity : Quantity) (n : ℕ) (t : Totals) → both before (raised quantity n t) ≡ raised quantity n (both before t)
raised_on before Gets n t = let more : before.gets + (t.gets + n) ≡ (before.gets + t.gets) + n = omega arith in ap (λ (m : ℕ). record (both before t) { gets = m }) more
raised_on before Puts n t = let more : before.puts + (t.puts + n) ≡ (before.puts + t.puts) + n = omega arith in ap (λ (m : ℕ). record (both before t) { puts = m }) more
raised_on before Deletes n t = let more : before.deletes + (t.deletes + n) ≡ (before.deletes + t.deletes) + n = omega arith in ap (λ (m : ℕ). record (both before t) { deletes = m }) more
raised_on before Refusals n t = let more : before.refusals + (t.refusals + n) ≡ (before.refusals + t.refusals) + n = omega arith in ap (λ (m : ℕ). record (both before t) { refusals = m }) more
raised_on before Reaps n t = let more : before.reaps + (t.reaps + n) ≡ (before.reaps + t.reaps) + n = omega arith in ap (λ (m : ℕ). record (both before t) { reaps = m }) more

full_by : (limit a b n : ℕ) → limit ≤ b + n → limit ≤ (a + b) + n
full_by limit a b n h = omega (arith, h)

full_on : (before : Totals) (quantity : Quantity) (n : ℕ) (t : Totals) → IsFull quantity t n → IsFull quantity (both before t) n
full_on before Gets n t h = full_by (2 ^ 64) before.gets t.gets n h
full_on before Puts n t h = full_by (2 ^ 64) before.puts t.puts n h
full_on before Deletes n t h = full_by (2 ^ 64) before.deletes t.deletes n h
full_on before Refusals n t h = full_by (2 ^ 64) before.refusals t.refusals n h
full_on before Reaps n t h = full_by (2 ^ 64) before.reaps t.reaps n h

module _ (before : Totals) where
  counts_on : (quantity : Quantity) (n : ℕ) (old new : Count) → Counts quantity n old new → Counts quantity n (on_top before old) (on_top before new)
  counts_on quantity n old new (inl raises) = inl (ap (on_top before) raises ∙ ap (λ (t : Totals). record { counted = t; book_full = old.book_full }) (raised_on before quantity n old.counted))
  counts_on quantity n old new (inr full) = inr (full_on before quantity n old.counted full.0, ap (on_top before) full.1)

  reply_on : (quantity : Option Quantity) (old new : Count) → CountsReply quantity old new → CountsReply quantity (on_top before old) (on_top before new)
  reply_on None old new h = ap (on_top before) h
  reply_on (Some quantity) old new h = counts_on quantity 1 old new h

  answer_on : (quantity : Option Quantity) (reaps : ℕ) (old new : Count) → CountsAnswer quantity reaps old new → CountsAnswer quantity reaps (on_top before old) (on_top before new)
  answer_on quantity reaps old new h = record {
    replied = on_top before h.replied;
    reply = reply_on quantity old h.replied h.reply;
    forgotten = counts_on Reaps reaps h.replied new h.forgotten;
  }

  -- the node with more counted before
  abbrev pub more : NodeOverGates → NodeOverGates
  more node = record node { count = on_top before node.count }

  index_on : (index : ℕ) (old new : NodeOverGates) (Answers : Sight → Sight → Option Quantity → Type 0) → AtIndex index old new Answers → AtIndex index (more old) (more new) Answers
  index_on index old new Answers h = record {
    before = h.before;
    after = h.after;
    quantity = h.quantity;
    reaps = h.reaps;
    count = on_top before h.count;
    stands = h.stands;
    made_new = h.made_new;
    limits = h.limits;
    gate = h.gate;
    steps = h.steps;
    counts = answer_on h.quantity h.reaps old.count h.count h.counts;
    node = ap more h.node;
  }

  fallback_on : (index : ℕ) (old new : NodeOverGates) (Answers : Sight → Sight → Option Quantity → Type 0) → AtFallback index old new Answers → AtFallback index (more old) (more new) Answers
  fallback_on index old new Answers h = record {
    fallback = h.fallback;
    diverted = h.diverted;
    is_new = h.is_new;
    kept = h.kept;
    stood = h.stood;
    before = h.before;
    after = h.after;
    quantity = h.quantity;
    count = on_top before h.count;
    resumes = h.resumes;
    of_gate = h.of_gate;
    gate = h.gate;
    more = h.more;
    answers = h.answers;
    counts = answer_on h.quantity 0 old.count h.count h.counts;
    node = ap more h.node;
  }

  closed_on : (index number : ℕ) (old new : NodeOverGates) → AtClosed index number old new → AtClosed index number (more old) (more new)
  closed_on index number old new h = record {
    fallback = h.fallback;
    diverted = h.diverted;
    is_new = h.is_new;
    kept = h.kept;
    stood = h.stood;
    before = h.before;
    after = h.after;
    known = h.known;
    resumes = h.resumes;
    of_gate = h.of_gate;
    closed = h.closed;
    stays = h.stays;
    node = ap more h.node;
  }

  looks_on : (index : ℕ) (old new : NodeOverGates) → LooksAtPrimary index old new → LooksAtPrimary index (more old) (more new)
  looks_on index old new h = record {
    before = h.before;
    after = h.after;
    stands = h.stands;
    gate = h.gate;
    more = h.more;
    own = h.own;
    node = ap more h.node;
  }

  error_on : (text : Text) (old : NodeOverGates) (reply : Reply) (new : NodeOverGates) → AnswersError text old reply new → AnswersError text (more old) reply (more new)
  error_on text old reply new h = record {
    count = on_top before h.count;
    replied = h.replied;
    counts = answer_on _ 0 old.count h.count h.counts;
    node = ap more h.node;
  }

  module _ (index : ℕ) (reply : Reply) (Answers : Sight → Sight → Reply → Option Quantity → Type 0) where
    from_on : (number : ℕ) (old new : NodeOverGates) → AnswersFrom index number old reply new Answers → AnswersFrom index number (more old) reply (more new) Answers
    from_on number old new (inl far) = inl (far.0, index_on index old new (λ p q. Answers p q reply) far.1)
    from_on number old new (inr short) = inr (short.0, error_on _ old reply new short.1)

    index_from_on : (number : ℕ) (old new : NodeOverGates) → AtIndexFrom index number old reply new Answers → AtIndexFrom index number (more old) reply (more new) Answers
    index_from_on number old new h = record {
      looked = more h.looked;
      looks = looks_on index old h.looked h.looks;
      answers = from_on number h.looked new h.answers;
    }

    returned_on : (old new : NodeOverGates) → AtReturned index old reply new Answers → AtReturned index (more old) reply (more new) Answers
    returned_on old new h = record {
      number = h.number;
      found = more h.found;
      closed = closed_on index h.number old h.found h.closed;
      answers = index_from_on h.number h.found new h.answers;
    }

    partition_on : (AnswersOpen : Sight → Sight → Reply → Option Quantity → Type 0) (old new : NodeOverGates) → AnswersAtPartition index old reply new Answers AnswersOpen → AnswersAtPartition index (more old) reply (more new) Answers AnswersOpen
    partition_on AnswersOpen old new (inl (none, at)) = inl (none, index_on index old new (λ p q. Answers p q reply) at)
    partition_on AnswersOpen old new (inr (inl (inl at))) = inr (inl (inl (fallback_on index old new (λ p q. AnswersOpen p q reply) at)))
    partition_on AnswersOpen old new (inr (inl (inr short))) = inr (inl (inr (error_on _ old reply new short)))
    partition_on AnswersOpen old new (inr (inr at)) = inr (inr (returned_on old new at))

  pub step_on : (old : NodeOverGates) (request : Request) (reply : Reply) (new : NodeOverGates) → GateNodeStep old request reply new → GateNodeStep (more old) request reply (more new)
  step_on old requests.Ping reply new h = (h.0, ap more h.1)
  step_on old (requests.Get get) reply new h = partition_on _ reply (asked.Gets get) (GetsOpen get) old new h
  step_on old (requests.Put put) reply new h = partition_on _ reply (asked.Changes _) (ChangesOpen _) old new h
  step_on old (requests.Del del) reply new h = partition_on _ reply (asked.Changes _) (ChangesOpen _) old new h
