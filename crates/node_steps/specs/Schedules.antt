-- Schedules: which worker does what, in any order.
use Rattle.std.specs.Prelude.{◌≡◌, ◌++◌, ◌^◌, ◌<◌, List, [], ◌∷◌, ℕ}
use Rattle.node_steps.specs.World.{World, opening_world}
use Rattle.node_steps.specs.Steps.{Step, after}

-- where an execution begins: the run's number, and how many workers and vnodes there are
pub record Start : Type 0 where
  pub run : ℕ
  pub workers : ℕ
  pub vnodes : ℕ

-- a run's number has 32 bits, and the index of a vnode 16
pub record IsStart (start : Start) : Type 0 where
  pub run : start.run < 2 ^ 32
  pub vnodes : start.vnodes < 2 ^ 16

-- the world after the steps of a schedule, the latest of which comes first; a step that isn't possible changes nothing
abbrev pub world_after : Start → List Step → World
world_after start [] = opening_world start.run start.workers start.vnodes
world_after start (step ∷ earlier) = after (world_after start earlier) step

-- a front begins a log, or a history: it is what is left of it, newest entry first, without some later entries
module _ {X : Type 0} where
  abbrev pub Begins : (front log : List X) → Type 0
  Begins front log = (later : List X) × (later ++ front ≡ log)
