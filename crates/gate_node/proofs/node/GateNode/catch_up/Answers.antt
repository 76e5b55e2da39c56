use Rattle.std.proofs.Common.{◌≡◌, ◌<◌, ◌^◌, ◌∙◌, ap, sym, subst, length}
use Rattle.std.specs.Prelude.{nat_le}
use Rattle.gate_node.specs.Gates.{Gates}
use Rattle.gate_node.specs.GateStep.{NodeOverGates}
use Rattle.gate_node.specs.Passes.{places_of}
use Rattle.gate_node.proofs.Opened.{looks_at, same_gates, seen_there, within_passes}
use Rattle.gate_node.proofs.Resuming.{node_of}
use Rattle.gate_node.proofs.node.GateNode.catch_up.Goals as goal

pub invariant_of-self : goal.invariant_of-self
invariant_of-self g c = record {
  primaries = same_gates c.self.inside.primaries.items c.args.index c.index_mut-pass.result.now c.catch_up.new.pass c.index_mut-pass.ensures.value c.catch_up.ensures.gate ∙ c.self.invariant.primaries;
  fallbacks = c.self.invariant.fallbacks;
}

pub returns-clause-looks : goal.returns-clause-looks
returns-clause-looks g c =
    let shared = c.self.inside.shared.now in
    let primaries = c.self.inside.primaries.items in
    let size : length shared.gates ≡ 2 ^ shared.index_bits
    = subst (λ (s : Gates). length s.gates ≡ 2 ^ s.index_bits) c.shared.view_is (ap length (sym c.gates-gates.ensures.gates) ∙ c.gates-gates.ensures.size) in
    let asked = subst (λ (n : NodeOverGates). c.args.index < 2 ^ n.shared.index_bits) (sym c.self.view_is) c.requires in
    let within = within_passes primaries shared.gates (2 ^ shared.index_bits) c.args.index c.self.invariant.primaries size asked in
    rw (← c.self.view_is)
    (looks_at (node_of shared primaries (places_of c.self.inside.size c.self.inside.fallbacks.items) (g.C.CountReplies.count c.self.inside.counter)) c.args.index c.index_mut-pass.result.now c.catch_up.new.pass within c.index_mut-pass.ensures.value c.catch_up.ensures.gate
    c.catch_up.ensures.more c.catch_up.ensures.own)

pub returns-clause-far : goal.returns-clause-far
returns-clause-far g c =
    let shared = c.self.inside.shared.now in
    let primaries = c.self.inside.primaries.items in
    let size : length shared.gates ≡ 2 ^ shared.index_bits
    = subst (λ (s : Gates). length s.gates ≡ 2 ^ s.index_bits) c.shared.view_is (ap length (sym c.gates-gates.ensures.gates) ∙ c.gates-gates.ensures.size) in
    let asked = subst (λ (n : NodeOverGates). c.args.index < 2 ^ n.shared.index_bits) (sym c.self.view_is) c.requires in
    let within = within_passes primaries shared.gates (2 ^ shared.index_bits) c.args.index c.self.invariant.primaries size asked in
    c.catch_up.ensures.far
    ∙ ap (λ n. nat_le c.args.number n) (seen_there (node_of shared primaries (places_of c.self.inside.size c.self.inside.fallbacks.items) (g.C.CountReplies.count c.self.inside.counter)) c.args.index c.index_mut-pass.result.now c.catch_up.new.pass within c.index_mut-pass.ensures.value)
