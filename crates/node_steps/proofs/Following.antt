-- A step of what is kept of a world is the world's.
use Rattle.std.proofs.Common.{◌≡◌, ◌∷◌, sym, ◌∙◌, ap, subst}
use Rattle.std.specs.Prelude.{Result as OkOrErr, Ok, Err, IfOk, OnErr}
use Rattle.node_steps.specs.declared.parts.Parts.{Parts}
use Rattle.node_steps.specs.declared.outcome.Outcome.{Outcome as Returned}
use Rattle.node_steps.specs.World.{World}
use Rattle.node_steps.specs.Steps.{Step, after, outcome}
use Rattle.node_steps.specs.Schedules.{world_after}
use Rattle.node_steps.specs.Erased.{erase}
use Rattle.node_steps.specs.Returned.{returned}
use Rattle.node_steps.specs.Parts.{TakesRunStep, TakesFitStep, world_in}
use Rattle.node_steps.specs.Kept.{IsKept, FollowsInRun}
use Rattle.node_steps.proofs.Scheduled.{orderly}
use Rattle.node_steps.proofs.ErasedSteps.{outcome_erased, after_erased}
use Rattle.node_steps.proofs.Fitting.{are_fit}

pub follows : (old : World) (step : Step) (returns : Returned) (new : World) → TakesRunStep old step returns new → FollowsInRun old step returns new
follows old step returns new t = λ start schedule kept.
    let w = world_after start schedule in
    let sound = orderly start kept.start_is schedule in (
      t.returns_is ∙ ap (λ x. returned (outcome x step)) kept.world_is ∙ ap returned (sym (outcome_erased w sound step)),
      record {
        start_is = kept.start_is;
        workers = kept.workers;
        world_is = t.world_is ∙ ap (λ x. erase (after x step)) kept.world_is ∙ sym (after_erased w sound step);
      },
    )

pub kept_on : (old : World) (step : Step) (returns : Returned) (new : World) → TakesRunStep old step returns new → IsKept old → IsKept new
kept_on old step returns new t kept = record {
  start = kept.start;
  schedule = step ∷ kept.schedule;
  after = (follows old step returns new t kept.start kept.schedule kept.after).1;
}

-- what is kept of a world stays so, whether the step was taken or memory was refused
pub still_kept : {E : Type 0} (old new : Parts) (it : Step) (r : OkOrErr Returned E) → IsKept (world_in old)
    → IfOk r (λ returns. TakesFitStep old it returns new) → OnErr r (world_in new ≡ world_in old) → IsKept (world_in new)
still_kept old new it (Ok returns) kept t e = kept_on (world_in old) it returns (world_in new) (t (are_fit old kept)) kept
still_kept old new it (Err fault) kept t e = subst IsKept (sym e) kept
