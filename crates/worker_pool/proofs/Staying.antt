-- A session by the steps of a run, whose gates are the same in the end, is by the steps of a node over them.
use Rattle.std.proofs.Common.{◌≡◌, ◌∙◌, ℕ, Option, refl, sym, subst}
use Rattle.std.specs.Prelude.{List, Result, Ok, Err}
use Rattle.node_session.specs.Answered.{AnsweredInput}
use Rattle.node_session.specs.Stages.{IsOverBy}
use Rattle.node_session.specs.Session.{IsInputEnd, Stops}
use Rattle.node_session.specs.Streams.{SourceView, TargetView, input_of}
use Rattle.node_session.specs.declared.ended.Ended.{Ended}
use Rattle.node_session.specs.declared.fault.SessionFault.{SessionFault}
use Rattle.node_session.proofs.HandingBack.{Held, end_in, stops_in}
use Rattle.node_session.proofs.Simulating.{end_like, stops_like}
use Rattle.node_session.proofs.Streaming.{given_as}
use Rattle.gate_node.specs.Gates.{Gates}
use Rattle.gate_node.specs.GateStep.{NodeOverGates, GateNodeStep, Request, Reply}
use Rattle.gate_node.proofs.Keeping.{step-keeps}
use Rattle.worker_pool.specs.Resuming.{IsLater, RunStep}
use Rattle.worker_pool.proofs.Resuming.{later_on}
use Rattle.worker_pool.proofs.SameGates.{later_both}

module _ (shared : Gates) where
  -- its gates became these
  abbrev Reaches : NodeOverGates → Type 0
  Reaches node = IsLater node.shared shared

  reached_before : (old : NodeOverGates) (request : Request) (reply : Reply) (new : NodeOverGates) → RunStep old request reply new → Reaches new → Reaches old
  reached_before old request reply new h reaches =
      let on = h.0 in
      later_on old.shared on.shared shared h.1.later (subst (λ (gates : Gates). IsLater gates shared) (step-keeps on request reply new h.2) reaches)

  abbrev HeldStep : NodeOverGates → Request → Reply → NodeOverGates → Type 0
  HeldStep = Held RunStep Reaches reached_before

  -- the same node, over these gates
  abbrev Same : NodeOverGates → NodeOverGates → Type 0
  Same s t = (t ≡ s) × (s.shared ≡ shared)

  goes : (s s' t : NodeOverGates) (request : Request) (reply : Reply) → Same s t → HeldStep s request reply s' → (t' : NodeOverGates) × Same s' t' × GateNodeStep t request reply t'
  goes s s' t request reply same step =
      let on = step.0.0 in
      let goes_on = step.0.1 in
      let made = step.0.2 in
      let kept = step-keeps on request reply s' made in
      let behind : IsLater shared on.shared = subst (λ (gates : Gates). IsLater gates on.shared) same.1 goes_on.later in
      let ahead : IsLater on.shared shared = subst (λ (gates : Gates). IsLater gates shared) kept step.1 in
      let here : on.shared ≡ shared = later_both shared on.shared behind ahead in
      let there : on.shared ≡ s.shared = here ∙ sym same.1 in
      let is : on ≡ s = λ i. record { shared = there i; passes = goes_on.passes i; count = goes_on.count i } in
      (s', (refl, kept ∙ here), subst (λ (node : NodeOverGates). GateNodeStep node request reply s') (is ∙ sym same.0) made)

  pub over_same : (first last : NodeOverGates) (source source' : SourceView) (target target' : TargetView) (most : ℕ) (result : Result Ended SessionFault) → first.shared ≡ shared → IsLater last.shared shared
      → IsOverBy RunStep first last source source' target target' most result → IsOverBy GateNodeStep first last source source' target target' most result
  over_same first last source source' target target' most (Ok e) here reaches p = (
    given_as source source' most _ _ (λ noted served. (
      (let held = end_in RunStep Reaches reached_before first last (input_of noted) target.contents target'.contents e.replies e.rest served.0 reaches in
          let made = end_like HeldStep GateNodeStep Same goes first last first (input_of noted) target.contents target'.contents e.replies e.rest (refl, here) held in
          subst (λ (node : NodeOverGates). AnsweredInput GateNodeStep first (input_of noted) target.contents target'.contents e.replies (IsInputEnd node e.rest)) made.1.0 made.2),
      served.1,
    )) p.0,
    p.1,
    p.2,
    p.3,
  )
  over_same first last source source' target target' most (Err fault) here reaches p = (
    given_as source source' most _ _ (λ noted served. (
      (let held = stops_in RunStep Reaches reached_before first last (input_of noted) target.contents target'.contents fault served.0 reaches in
          let made = stops_like HeldStep GateNodeStep Same goes first last first (input_of noted) target.contents target'.contents fault (refl, here) held in
          subst (λ (node : NodeOverGates). Stops GateNodeStep first node (input_of noted) target.contents target'.contents fault) made.1.0 made.2),
      served.1,
    )) p.0,
    p.1,
  )
