-- The steps that lines ask for.
use Rattle.std.specs.Prelude.{◌≡◌, ℕ, List, [], ◌∷◌, ◌++◌}
use Rattle.riak_msgs.specs.declared.Request.{Request}
use Rattle.riak_msgs.specs.declared.Request.TheVariants as requests
use Rattle.ring_map.specs.Ring.{index_of, digest_of}
use Rattle.schedule_text.specs.declared.line.Line.{Line}
use Rattle.schedule_text.specs.declared.line.Line.TheVariants as lines
use Rattle.schedule_text.specs.declared.line.LineAction.{LineAction}
use Rattle.schedule_text.specs.declared.line.LineAction.TheVariants.{Ask, Key as OfKey, Gate}
use Rattle.schedule_text.specs.declared.line.KeyStep.TheVariants.{Reap, Copy}
use Rattle.schedule_text.specs.declared.line.GateStep.{GateStep}
use Rattle.schedule_text.specs.declared.line.GateStep.TheVariants.{Enter, Leave, Mark, Unmark, Take, Put, Look, Publish}
use Rattle.schedule_text.specs.Lines.{IsLine}
use Rattle.node_steps.specs.declared.step.Step.{Step as RunStep}
use Rattle.node_steps.specs.declared.step.Step.TheVariants as steps
use Rattle.node_steps.specs.Steps.{Step}
use Rattle.node_steps.specs.Asked.{step_of}

-- the index of the partition that a request is for, on a ring of so many index bits: that of its key
abbrev pub index_for : ℕ → Request → ℕ
index_for ring requests.Ping = 0
index_for ring (requests.Get get) = index_of ring (digest_of get.key)
index_for ring (requests.Put put) = index_of ring (digest_of put.key)
index_for ring (requests.Del del) = index_of ring (digest_of del.key)

-- a worker's step at the gate of the vnode that it was asked for
abbrev pub gate_step : ℕ → GateStep → RunStep
gate_step worker Enter = steps.Enter worker
gate_step worker Leave = steps.Leave worker
gate_step worker Mark = steps.Mark worker
gate_step worker Unmark = steps.Unmark worker
gate_step worker Take = steps.Take worker
gate_step worker Put = steps.Put worker
gate_step worker Look = steps.Look worker
gate_step worker Publish = steps.Publish worker

-- a worker's step by its action
abbrev pub step_by : (ring worker : ℕ) → LineAction → RunStep
step_by ring worker (Ask request) = steps.Ask worker (index_for ring request) request
step_by ring worker (OfKey Reap key) = steps.Reap worker (index_of ring (digest_of key)) key
step_by ring worker (OfKey Copy key) = steps.Copy worker (index_of ring (digest_of key)) key
step_by ring worker (Gate step) = gate_step worker step

-- the step of a line
abbrev pub line_step : ℕ → Line → RunStep
line_step ring (lines.By worker action) = step_by ring worker action
line_step ring (lines.Divert index) = steps.Divert index
line_step ring (lines.Close worker index) = steps.Close worker index

-- a line of text that asks for a step
pub record AsksForStep (workers ring : ℕ) (text : List ℕ) (step : Step) : Type 0 where
  pub line : Line
  pub reads : IsLine workers text line
  pub step_is : step ≡ step_of (line_step ring line)

-- a line of text that asks for a step of the running world
pub record AsksForRun (workers ring : ℕ) (text : List ℕ) (step : RunStep) : Type 0 where
  pub line : Line
  pub reads : IsLine workers text line
  pub step_is : step ≡ line_step ring line

-- a line of text that asks for no step
abbrev pub AsksForNone : (workers : ℕ) → List ℕ → Type 0
AsksForNone workers text = (line : Line) → ¬ (IsLine workers text line)

-- lines of text ask for the steps of a schedule, whose latest comes first
abbrev pub AskForAll : (workers ring : ℕ) → List (List ℕ) → List Step → Type 0
AskForAll workers ring texts [] = texts ≡ []
AskForAll workers ring texts (step ∷ earlier) =
    (before : List (List ℕ)) × (text : List ℕ) × (texts ≡ before ++ text ∷ [])
    × AsksForStep workers ring text step × AskForAll workers ring before earlier
