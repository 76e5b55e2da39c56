use Rattle.std.proofs.Common.{◌≡◌, ◌∙◌, ap, sym, subst, length, replicate}
use Rattle.std.proofs.lemmas.List.{length-replicate}
use Rattle.std.specs.Prelude.{Option, None}
use Rattle.gate_node.specs.declared.passes.FallbackPass.{FallbackPass}
use Rattle.gate_node.specs.Gates.{Gates}
use Rattle.gate_node.specs.Passes.{AreUnused, ArePassesOf, places_of}
use Rattle.gate_node.proofs.Fitting.{none_fit, unmade_none}
use Rattle.gate_node.proofs.passes.Passes.new.Goals as goal

pub returns-clause-gates : goal.returns-clause-gates
returns-clause-gates c =
    let size = length c.gates-gates.result.now in
    let places : length (replicate {A = Option FallbackPass} size None) ≡ length c.args.shared.now.fallbacks
    = length-replicate size None ∙ c.gates-gates.ensures.size ∙ sym c.gates-gates.ensures.places ∙ ap (λ (s : Gates). length s.fallbacks) c.shared.view_is in
    subst (λ made. ArePassesOf c.args.shared.now (record { primaries = c.in_ok-primaries.primaries.items; fallbacks = places_of size made })) (sym c.new.ensures.items)
    (record {
      primaries = c.in_ok-primaries.ensures.gates ∙ c.gates-gates.ensures.gates ∙ ap (λ (s : Gates). s.gates) c.shared.view_is;
      fallbacks = none_fit c.args.shared.now.fallbacks (replicate size None) places (unmade_none size);
    })

pub returns-clause-new : goal.returns-clause-new
returns-clause-new c =
    let size = length c.gates-gates.result.now in
    subst (λ made. AreUnused (record { primaries = c.in_ok-primaries.primaries.items; fallbacks = places_of size made })) (sym c.new.ensures.items)
    (record { primaries = c.in_ok-primaries.ensures.new; fallbacks = unmade_none size })
