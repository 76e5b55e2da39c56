-- The running world: what is kept of the theorem's world after a schedule.
use Rattle.std.specs.Prelude.{◌≡◌, ◌++◌, ◌<◌, ◌^◌, List, [], ◌∷◌}
use Rattle.node_steps.specs.declared.outcome.Outcome.{Outcome as Returned}
use Rattle.node_steps.specs.declared.step.Step.{Step as RunStep}
use Rattle.node_steps.specs.declared.world.World.TheInside.{Inside}
use Rattle.node_steps.specs.World.{World}
use Rattle.node_steps.specs.Steps.{Step, outcome}
use Rattle.node_steps.specs.Schedules.{Start, IsStart, world_after}
use Rattle.node_steps.specs.Erased.{erase}
use Rattle.node_steps.specs.Returned.{returned}
use Rattle.node_steps.specs.Parts.{world_in}
use Rattle.node_steps.specs.Asked.{step_of}

-- what is kept of the world after a schedule
pub record IsKeptAfter (start : Start) (schedule : List Step) (world : World) : Type 0 where
  pub start_is : IsStart start
  pub workers : start.workers < 2 ^ 16
  pub world_is : world ≡ erase (world_after start schedule)

-- what is kept after some schedule
pub record IsKept (world : World) : Type 0 where
  pub start : Start
  pub schedule : List Step
  pub after : IsKeptAfter start schedule world

abbrev pub kept_of : Inside → World
kept_of w = world_in w.parts

-- at each schedule that may have led to a world, a step returns what comes of it there, and leads to what is kept after it
abbrev pub FollowsInRun : World → Step → Returned → World → Type 0
FollowsInRun old step returns new =
    (start : Start) (schedule : List Step) → IsKeptAfter start schedule old
    → (returns ≡ returned (outcome (world_after start schedule) step)) × IsKeptAfter start (step ∷ schedule) new

-- a schedule, latest step first, and then these steps, in their order
abbrev pub extended : List Step → List RunStep → List Step
extended schedule [] = schedule
extended schedule (step ∷ steps) = extended (step_of step ∷ schedule) steps

-- what these steps return, in their order, after a schedule
abbrev pub returned_by : Start → List Step → List RunStep → List Returned
returned_by start schedule [] = []
returned_by start schedule (step ∷ steps) =
    returned (outcome (world_after start schedule) (step_of step)) ∷ returned_by start (step_of step ∷ schedule) steps

-- at each schedule that may have led to a world, steps return what comes of them there
abbrev pub FollowsAll : World → List RunStep → List Returned → World → Type 0
FollowsAll old steps returns new =
    (start : Start) (schedule : List Step) → IsKeptAfter start schedule old
    → (returns ≡ returned_by start schedule steps) × IsKeptAfter start (extended schedule steps) new

-- the first of these steps were taken
pub record FollowsSome (old : World) (steps : List RunStep) (new : World) : Type 0 where
  pub taken : List RunStep
  pub rest : List RunStep
  pub parts : taken ++ rest ≡ steps
  pub returns : List Returned
  pub follows : FollowsAll old taken returns new
