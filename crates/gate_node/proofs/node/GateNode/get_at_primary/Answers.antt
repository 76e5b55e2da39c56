use Rattle.std.proofs.Common.{◌≡◌, ◌<◌, ◌^◌, ◌∙◌, ap, sym, subst, length}
use Rattle.handoff.specs.Partitions.{AreOfNewRun}
use Rattle.gate_node.specs.Asked.{AnswersAndReaps, Gets}
use Rattle.gate_node.specs.Gates.{Gates}
use Rattle.gate_node.specs.GateStep.{NodeOverGates}
use Rattle.gate_node.specs.Passes.{places_of}
use Rattle.gate_node.proofs.Opened.{same_gates, at_index, within_passes}
use Rattle.gate_node.proofs.node.GateNode.get_at_primary.Goals as goal

pub invariant_of-self : goal.invariant_of-self
invariant_of-self g c = record {
  primaries = same_gates c.self.inside.primaries.items c.args.index c.index_mut-pass.result.now c.get_and_reap-answered.new.pass c.index_mut-pass.ensures.value c.get_and_reap-answered.ensures.gate ∙ c.self.invariant.primaries;
  fallbacks = c.self.invariant.fallbacks;
}

pub returns-clause-answers : goal.returns-clause-answers
returns-clause-answers g c =
    let shared = c.self.inside.shared.now in
    let primaries = c.self.inside.primaries.items in
    let size : length shared.gates ≡ 2 ^ shared.index_bits
    = subst (λ (s : Gates). length s.gates ≡ 2 ^ s.index_bits) c.shared.view_is (ap length (sym c.gates-gates.ensures.gates) ∙ c.gates-gates.ensures.size) in
    let all = subst (λ (s : Gates). AreOfNewRun s.run s.gates) c.shared.view_is c.gates-gates.ensures.new_run in
    let asked = subst (λ (n : NodeOverGates). c.args.index < 2 ^ n.shared.index_bits) (sym c.self.view_is) c.requires.within in
    let within = within_passes primaries shared.gates (2 ^ shared.index_bits) c.args.index c.self.invariant.primaries size asked in
    let is = c.call-call.ensures.shared ∙ ap (λ (n : NodeOverGates). n.shared) (sym c.self.view_is) in
    let steps = subst (λ (s : Gates). AnswersAndReaps s.budget c.get_and_reap-answered.result.reaps (λ p q. Gets (g.A.GetAnswer.get c.args.get.now) p q (g.A.GetAnswer.reply c.get_and_reap-answered.result.reply) c.get_and_reap-answered.result.quantity) c.index_mut-pass.result.now c.get_and_reap-answered.new.pass) is c.get_and_reap-answered.ensures.steps in
    rw (← c.self.view_is)
    (at_index (record { shared = shared; passes = record { primaries = primaries; fallbacks = places_of c.self.inside.size c.self.inside.fallbacks.items }; count = g.C.CountReplies.count c.self.inside.counter }) c.args.index c.index_mut-pass.result.now c.get_and_reap-answered.new.pass
    (λ p q quantity. Gets (g.A.GetAnswer.get c.args.get.now) p q (g.A.GetAnswer.reply c.get_and_reap-answered.result.reply) quantity) c.get_and_reap-answered.result.quantity c.get_and_reap-answered.result.reaps (g.C.CountReplies.count c.count_answer.new.self) all c.self.invariant.primaries within c.index_mut-pass.ensures.value
    c.get_and_reap-answered.ensures.gate steps c.count_answer.ensures)
