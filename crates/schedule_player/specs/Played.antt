-- What a schedule's input is answered by.
use Rattle.std.specs.Prelude.{◌≡◌, ◌⊎◌, ◌+◌, ◌^◌, ◌≤◌, ℕ, List, [], ◌∷◌, ◌++◌, length, take, codes, Option, Result, Ok, Err}
use Rattle.std.specs.Io.KnownBytes.{Appends, Consumes}
use Rattle.schedule_text.specs.Cuts.{Lacks, lines_of}
use Rattle.node_steps.specs.Steps.{Step}
use Rattle.node_steps.specs.Schedules.{Start}
use Rattle.schedule_player.specs.declared.fault.StepsFault.{StepsFault}
use Rattle.schedule_player.specs.declared.fault.StepsFault.TheVariants.{BadStep, ReadFailed, WriteFailed, NoMemory}
use Rattle.schedule_player.specs.Answers.{answer_lines, next_line}
use Rattle.schedule_player.specs.Asked.{AsksForStep, AsksForNone, AskForAll}
use Rattle.schedule_player.specs.Heard.{last_line, HasDiverted}

-- where a run begins, on a ring of so many index bits
abbrev pub start_on : (run workers ring : ℕ) → Start
start_on run workers ring = record { run = run; workers = workers; vnodes = 2 ^ ring }

module _ (start : Start) (ring : ℕ) where
  -- the next line of the rest asks for a step, and this is its answer
  pub record IsNextAnswer (schedule : List Step) (rest next : List ℕ) : Type 0 where
    pub text : List ℕ
    pub behind : List (List ℕ)
    pub first : lines_of rest ≡ text ∷ behind
    pub step : Step
    pub asks : AsksForStep start.workers ring text step
    pub next_is : next ≡ next_line start schedule step

  -- nothing is left, and this is the last line, which after a diversion says that the run isn't compared
  pub record IsLastLine (schedule : List Step) (rest next : List ℕ) : Type 0 where
    pub nothing : rest ≡ []
    pub next_is : next ≡ last_line start schedule
    pub diverted : HasDiverted start schedule → next ≡ codes "plain not compared\n"

  -- a beginning of the next line was written last, perhaps none of it
  pub record IsCutLine (schedule : List Step) (rest last : List ℕ) : Type 0 where
    pub next : List ℕ
    pub is_next : IsNextAnswer schedule rest next ⊎ IsLastLine schedule rest next
    pub len : ℕ
    pub begins : last ≡ take len next

  -- the next line is a bad step: it asks for none, or is the 100,001st
  pub record IsBadStep (schedule : List Step) (rest : List ℕ) (line : ℕ) : Type 0 where
    pub text : List ℕ
    pub behind : List (List ℕ)
    pub first : lines_of rest ≡ text ∷ behind
    pub number : line ≡ length schedule + 1
    pub bad : AsksForNone start.workers text ⊎ (100000 ≤ length schedule)

  -- how a run ends, with what is left unanswered of its input, and what was written behind the answers
  abbrev pub Ends : Result (Unit {0}) StepsFault → List Step → (rest last : List ℕ) → Type 0
  Ends (Ok u) schedule rest last = IsLastLine schedule rest last
  Ends (Err (BadStep line)) schedule rest last = IsBadStep schedule rest line × (last ≡ [])
  Ends (Err ReadFailed) schedule rest last = Lacks 10 rest × (last ≡ [])
  Ends (Err WriteFailed) schedule rest last = (last ≡ []) ⊎ IsCutLine schedule rest last
  Ends (Err NoMemory) schedule rest last = last ≡ []

  -- the first lines of an input were answered, as the steps of a schedule, and then the run ended
  pub record Answered (input : List ℕ) (held held' : Option (List ℕ)) (result : Result (Unit {0}) StepsFault) : Type 0 where
    pub answered : List ℕ
    pub rest : List ℕ
    pub parts : input ≡ answered ++ rest
    pub lines : lines_of input ≡ lines_of answered ++ lines_of rest
    pub schedule : List Step
    pub asked : AskForAll start.workers ring (lines_of answered) schedule
    pub few : length schedule ≤ 100000
    pub last : List ℕ
    pub written : Appends held held' (answer_lines start schedule ++ last)
    pub ends : Ends result schedule rest last

  -- an input was read, and answered
  pub record Played (unread unread' held held' : Option (List ℕ)) (result : Result (Unit {0}) StepsFault) : Type 0 where
    pub input : List ℕ
    pub read : Consumes unread unread' input
    pub answers : Answered input held held' result
