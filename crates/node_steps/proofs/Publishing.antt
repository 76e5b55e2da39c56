-- What a publish comes to where nothing was planned.
use Rattle.std.proofs.Common.{◌≡◌, ◌∙◌, refl, sym}
use Rattle.std.proofs.lemmas.Option.{none-some}
use Rattle.std.specs.Prelude.{Option, Some, None, MatchOption}
use Rattle.node_steps.specs.declared.outcome.Outcome.{Outcome}
use Rattle.node_steps.specs.Hands.{HandView, PublishesPlan}
use Rattle.node_steps.specs.Returned.{returned_response}
use Rattle.node_steps.specs.World.{PlannedCommand}

nothing_by : {A : Type 0} (reply : PlannedCommand → Outcome) (Then : PlannedCommand → Type 0) (answer : Option Outcome) (plan : Option PlannedCommand) → answer ≡ None → MatchOption plan (A × (answer ≡ None)) (λ p. Then p × (answer ≡ Some (reply p))) → (plan ≡ None) × A
nothing_by reply Then answer None silent said = (refl, said.0)
nothing_by reply Then answer (Some plan) silent said = absurd (none-some (reply plan) (sym silent ∙ said.1))

pub nothing_planned : (old new : HandView) → PublishesPlan old new None → (old.plan ≡ None) × (new ≡ old)
nothing_planned old new = nothing_by (λ plan. returned_response plan.response) (λ plan. new.state ≡ plan.next) None old.plan refl
