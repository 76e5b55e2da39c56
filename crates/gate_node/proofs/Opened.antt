-- Gates that were made round new vnodes, and what is answered at them.
use Rattle.std.proofs.Common.{◌≡◌, ◌∙◌, ◌<◌, ℕ, List, length, map, refl, sym, ap, arith}
use Rattle.std.specs.Prelude.{Option, Some, slice_get, slice_set, get_or}
use Rattle.std.proofs.Math.Seq.{map-set_same}
use Rattle.std.specs.Option.{option_map, option_map_or}
use mathlib.Core.List.{IsPrefix}
use Rattle.std.proofs.lemmas.List.{length-map}
use Rattle.std.proofs.lemmas.Option.{slice_get-map}
use Rattle.ring_map.specs.Ring.{id_of}
use Rattle.rw_gate.specs.Views.{GateId}
use Rattle.vnode_machine.specs.Replay.{IsWithinLimits}
use Rattle.vnode_core.specs.Plans.{View}
use Rattle.vnode_core.specs.Events.{IsMadeNew}
use Rattle.handoff.proofs.Returns.{set-here}
use Rattle.stats_book.specs.declared.quantity.Quantity.{Quantity}
use Rattle.stats_book.specs.Counter.{Count, CountsAnswer}
use Rattle.handoff.specs.declared.gates.Fallback.{Fallback}
use Rattle.handoff.specs.Partitions.{AreOfNewRun, IsFallback}
use Rattle.handoff.proofs.Opened.{got, new_at}
use Rattle.gate_node.specs.declared.passes.FallbackPass.{FallbackPass}
use Rattle.gate_node.specs.Asked.{Sight, AnswersAndReaps}
use Rattle.gate_node.specs.GateStep.{NodeOverGates, AtIndex, AtFallback, AtClosed, LooksAtPrimary, events_seen}
use Rattle.gate_node.specs.Passes.{AnswersAtFallback, FindsClosed}

abbrev gate_of : Sight → GateId View
gate_of pass = pass.gate

-- each gate has its pass
pub within_passes : (passes : List Sight) (gates : List (GateId View)) (size i : ℕ) → map (λ (s : Sight). s.gate) passes ≡ gates → length gates ≡ size → i < size → i < length passes
within_passes passes gates size i of all inside =
    let many : length passes ≡ length gates = sym (length-map passes gate_of) ∙ ap length of in omega (arith, many, all, inside)

-- a pass that goes on is of its gate still
pub same_gates : (passes : List Sight) (i : ℕ) (p q : Sight) → p ≡ get_or passes i p → q.gate ≡ p.gate → map (λ (s : Sight). s.gate) (slice_set passes i q) ≡ map (λ (s : Sight). s.gate) passes
same_gates passes i p q at same = map-set_same (λ (s : Sight). s.gate) passes i q p (same ∙ ap (λ (s : Sight). s.gate) at)

-- the gate of the pass at an index was made round the new vnode of that index
new_there : (run i : ℕ) (gates : List (GateId View)) (passes : List Sight) (p : Sight) → AreOfNewRun run gates → map gate_of passes ≡ gates → slice_get passes i ≡ Some p → IsMadeNew (id_of run i) 0 p.gate × IsWithinLimits (id_of run i) 0
new_there run i gates passes p new of at =
    let gate : slice_get gates i ≡ Some p.gate = ap (λ gs. slice_get gs i) (sym of) ∙ (slice_get-map gate_of passes i ∙ ap (λ o. option_map gate_of o) at) in
    new_at run gates new i p.gate gate

-- what is answered by the pass at an index is answered at that index
pub at_index : (node : NodeOverGates) (i : ℕ) (p q : Sight) (Answers : Sight → Sight → Option Quantity → Type 0) (quantity : Option Quantity) (reaps : ℕ) (count : Count)
    → AreOfNewRun node.shared.run node.shared.gates → map (λ (s : Sight). s.gate) node.passes.primaries ≡ node.shared.gates → i < length node.passes.primaries
    → p ≡ get_or node.passes.primaries i p → q.gate ≡ p.gate → AnswersAndReaps node.shared.budget reaps (λ x y. Answers x y quantity) p q → CountsAnswer quantity reaps node.count count
    → AtIndex i node (record node { passes = record node.passes { primaries = slice_set node.passes.primaries i q }; count = count }) Answers
at_index node i p q Answers quantity reaps count all of within is gate steps counts =
    let at = got node.passes.primaries i p within is in
    let new = new_there node.shared.run i node.shared.gates node.passes.primaries p all of at in
    record { before = p; after = q; quantity = quantity; reaps = reaps; count = count; stands = at; made_new = new.0; limits = new.1; gate = gate; steps = steps; counts = counts; node = refl }

-- and what is answered by the pass that is kept of a fallback, at that
pub at_fallback : (node : NodeOverGates) (i : ℕ) (fallback : Fallback) (kept new : Option FallbackPass) (Answers : Sight → Sight → Option Quantity → Type 0) (quantity : Option Quantity) (count : Count)
    → slice_get node.shared.fallbacks i ≡ Some (Some fallback) → IsFallback node.shared.run i fallback → i < length node.passes.fallbacks → kept ≡ get_or node.passes.fallbacks i kept
    → AnswersAtFallback fallback kept new (λ x y. Answers x y quantity) → CountsAnswer quantity 0 node.count count
    → AtFallback i node (record node { passes = record node.passes { fallbacks = slice_set node.passes.fallbacks i new }; count = count }) Answers
at_fallback node i fallback kept new Answers quantity count some is_new within is answers counts = record {
  fallback = fallback;
  diverted = some;
  is_new = is_new;
  kept = kept;
  stood = got node.passes.fallbacks i kept within is;
  before = answers.before;
  after = answers.after;
  quantity = quantity;
  count = count;
  resumes = answers.resumes;
  of_gate = answers.of_gate;
  gate = answers.gate;
  more = answers.more;
  answers = answers.answers;
  counts = counts;
  node = ap (λ k. record node { passes = record node.passes { fallbacks = slice_set node.passes.fallbacks i k }; count = count }) answers.kept;
}

-- or finds that closed
pub at_closed : (node : NodeOverGates) (i : ℕ) (fallback : Fallback) (kept new : Option FallbackPass) (number : ℕ)
    → slice_get node.shared.fallbacks i ≡ Some (Some fallback) → IsFallback node.shared.run i fallback → i < length node.passes.fallbacks → kept ≡ get_or node.passes.fallbacks i kept
    → FindsClosed fallback kept new number → AtClosed i number node (record node { passes = record node.passes { fallbacks = slice_set node.passes.fallbacks i new } })
at_closed node i fallback kept new number some is_new within is finds = record {
  fallback = fallback;
  diverted = some;
  is_new = is_new;
  kept = kept;
  stood = got node.passes.fallbacks i kept within is;
  before = finds.before;
  after = finds.after;
  known = finds.known;
  resumes = finds.resumes;
  of_gate = finds.of_gate;
  closed = finds.closed;
  stays = finds.stays;
  node = ap (λ k. record node { passes = record node.passes { fallbacks = slice_set node.passes.fallbacks i k } }) finds.kept;
}

-- a pass of a primary is shown what stands there
pub looks_at : (node : NodeOverGates) (i : ℕ) (p q : Sight) → i < length node.passes.primaries → p ≡ get_or node.passes.primaries i p → q.gate ≡ p.gate → IsPrefix p.prefix q.prefix → q.own ≡ p.own
    → LooksAtPrimary i node (record node { passes = record node.passes { primaries = slice_set node.passes.primaries i q } })
looks_at node i p q within is gate more own =
    record { before = p; after = q; stands = got node.passes.primaries i p within is; gate = gate; more = more; own = own; node = refl }

-- and so many events were seen of it then
pub seen_there : (node : NodeOverGates) (i : ℕ) (p q : Sight) → i < length node.passes.primaries → p ≡ get_or node.passes.primaries i p
    → length q.prefix ≡ events_seen (record node { passes = record node.passes { primaries = slice_set node.passes.primaries i q } }) i
seen_there node i p q within is =
    ap (λ (o : Option Sight). option_map_or (λ (pass : Sight). length pass.prefix) o 0) (sym (set-here node.passes.primaries i p q (got node.passes.primaries i p within is)))
