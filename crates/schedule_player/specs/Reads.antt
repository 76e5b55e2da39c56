-- What comes of reading a line as a step.
use Rattle.std.specs.Prelude.{◌≡◌, ℕ, List, Result, Ok, Err}
use Rattle.schedule_player.specs.declared.fault.StepsFault.{StepsFault}
use Rattle.schedule_player.specs.declared.fault.StepsFault.TheVariants.{BadStep, ReadFailed, WriteFailed, NoMemory}
use Rattle.node_steps.specs.declared.step.Step.{Step as RunStep}
use Rattle.schedule_player.specs.Asked.{AsksForRun, AsksForNone}

-- a line of this number is refused: it asks for no step, or memory is refused
abbrev pub IsLineRefused : (workers number : ℕ) → List ℕ → StepsFault → Type 0
IsLineRefused workers number text (BadStep line) = (line ≡ number) × AsksForNone workers text
IsLineRefused workers number text ReadFailed = ⊥
IsLineRefused workers number text WriteFailed = ⊥
IsLineRefused workers number text NoMemory = Unit {0}

-- a line of this number is read as the step that it asks for, or refused
abbrev pub ReadsStep : (workers ring number : ℕ) → List ℕ → Result RunStep StepsFault → Type 0
ReadsStep workers ring number text (Ok step) = AsksForRun workers ring text step
ReadsStep workers ring number text (Err fault) = IsLineRefused workers number text fault
