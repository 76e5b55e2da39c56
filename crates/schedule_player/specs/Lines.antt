-- What comes of one line.
use Rattle.std.specs.Prelude.{◌≡◌, ◌⊎◌, ◌+◌, ◌<◌, ◌≤◌, ℕ, List, Option, Result, Ok, Err, take}
use Rattle.std.specs.Io.KnownBytes.{Appends, Keeps}
use Rattle.node_steps.specs.declared.outcome.Outcome.{Outcome as Returned}
use Rattle.node_steps.specs.Steps.{Step}
use Rattle.node_steps.specs.Kept.{FollowsInRun}
use Rattle.schedule_player.specs.declared.fault.StepsFault.{StepsFault}
use Rattle.schedule_player.specs.declared.fault.StepsFault.TheVariants.{BadStep, ReadFailed, WriteFailed, NoMemory}
use Rattle.schedule_player.specs.declared.player.Player.{Player}
use Rattle.schedule_player.specs.Answers.{answer_line}
use Rattle.schedule_player.specs.Asked.{AsksForStep, AsksForNone}
use Rattle.schedule_player.specs.declared.asking.Note.{Note}
use Rattle.schedule_player.specs.Calls.{after_note}
use Rattle.schedule_player.specs.Heard.{after_line}

-- one line more was written and counted, of a step of which this was noted; the world is the same
pub record IsWritten (old : Player) (note : Note) (outcome : Returned) (held held' : Option (List ℕ)) (new : Player) : Type 0 where
  pub world : new.world ≡ old.world
  pub workers : new.workers ≡ old.workers
  pub ring : new.ring ≡ old.ring
  pub lines : new.lines ≡ old.lines + 1
  pub heard : new.referee ≡ after_note (old.lines + 1) note outcome old.referee
  pub written : Appends held held' (answer_line (old.lines + 1) outcome)

-- a beginning of the next line was written
abbrev pub IsCutTo : Player → Returned → Option (List ℕ) → Option (List ℕ) → Type 0
IsCutTo old outcome held held' = (len : ℕ) × Appends held held' (take len (answer_line (old.lines + 1) outcome))

-- what came of a step is written as the next line
abbrev pub WritesLine : Player → Note → Returned → Option (List ℕ) → Option (List ℕ) → Player → Result (Unit {0}) StepsFault → Type 0
WritesLine old note outcome held held' new (Ok u) = IsWritten old note outcome held held' new
WritesLine old note outcome held held' new (Err (BadStep line)) = ⊥
WritesLine old note outcome held held' new (Err ReadFailed) = ⊥
WritesLine old note outcome held held' new (Err WriteFailed) = IsCutTo old outcome held held' × (new.world ≡ old.world)
WritesLine old note outcome held held' new (Err NoMemory) = Keeps held held'

-- a step was taken, and what it returned is the next line
pub record IsAnswered (old : Player) (step : Step) (held held' : Option (List ℕ)) (new : Player) : Type 0 where
  pub outcome : Returned
  pub follows : FollowsInRun old.world step outcome new.world
  pub workers : new.workers ≡ old.workers
  pub ring : new.ring ≡ old.ring
  pub lines : new.lines ≡ old.lines + 1
  pub heard : new.referee ≡ after_line (old.lines + 1) step outcome old.referee
  pub written : Appends held held' (answer_line (old.lines + 1) outcome)

-- a step was taken, and a beginning of its line was written
pub record IsCutShort (old : Player) (step : Step) (held held' : Option (List ℕ)) (new : Player) : Type 0 where
  pub outcome : Returned
  pub follows : FollowsInRun old.world step outcome new.world
  pub cut : IsCutTo old outcome held held'

-- a step is taken, and what it returns is written as the next line
abbrev pub AnswersStep : Player → Step → Option (List ℕ) → Option (List ℕ) → Player → Result (Unit {0}) StepsFault → Type 0
AnswersStep old step held held' new (Ok u) = IsAnswered old step held held' new
AnswersStep old step held held' new (Err (BadStep line)) = ⊥
AnswersStep old step held held' new (Err ReadFailed) = ⊥
AnswersStep old step held held' new (Err WriteFailed) = IsCutShort old step held held' new
AnswersStep old step held held' new (Err NoMemory) = Keeps held held'

-- the text asks for a step, which was answered; there were fewer lines than there may be
pub record IsPlayed (old : Player) (text : List ℕ) (held held' : Option (List ℕ)) (new : Player) : Type 0 where
  pub few : old.lines < 100000
  pub step : Step
  pub asks : AsksForStep old.workers old.ring text step
  pub answered : IsAnswered old step held held' new

-- the text asks for a step, whose line was cut short
pub record IsPlayedInPart (old : Player) (text : List ℕ) (held held' : Option (List ℕ)) (new : Player) : Type 0 where
  pub step : Step
  pub asks : AsksForStep old.workers old.ring text step
  pub cut : IsCutShort old step held held' new

-- a bad step: the text asks for none, or there were as many lines as there may be
pub record IsBad (old : Player) (text : List ℕ) (held held' : Option (List ℕ)) (line : ℕ) : Type 0 where
  pub number : old.lines ≤ 100000 → line ≡ old.lines + 1
  pub bad : AsksForNone old.workers text ⊎ (100000 ≤ old.lines)
  pub nothing : Keeps held held'

-- what comes of the next line of text
abbrev pub PlaysLine : Player → List ℕ → Option (List ℕ) → Option (List ℕ) → Player → Result (Unit {0}) StepsFault → Type 0
PlaysLine old text held held' new (Ok u) = IsPlayed old text held held' new
PlaysLine old text held held' new (Err (BadStep line)) = IsBad old text held held' line
PlaysLine old text held held' new (Err ReadFailed) = ⊥
PlaysLine old text held held' new (Err WriteFailed) = IsPlayedInPart old text held held' new
PlaysLine old text held held' new (Err NoMemory) = Keeps held held'
