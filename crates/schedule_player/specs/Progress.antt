-- How far a run has come between its lines.
use Rattle.std.specs.Prelude.{◌≡◌, ◌<◌, ◌≤◌, ◌^◌, ℕ, List, [], ◌++◌, length, take, Option, Result, Ok, Err}
use Rattle.std.specs.Io.KnownBytes.{Appends, Keeps}
use Rattle.schedule_text.specs.Cuts.{Lacks, lines_of}
use Rattle.schedule_text.specs.Verdicts.{verdict_line}
use Rattle.node_steps.specs.World.{opening_world}
use Rattle.node_steps.specs.Erased.{erase}
use Rattle.node_steps.specs.Steps.{Step}
use Rattle.node_steps.specs.Schedules.{Start, IsStart}
use Rattle.node_steps.specs.Kept.{IsKeptAfter}
use Rattle.schedule_player.specs.declared.fault.StepsFault.{StepsFault}
use Rattle.schedule_player.specs.declared.fault.StepsFault.TheVariants.{BadStep, ReadFailed, WriteFailed, NoMemory}
use Rattle.schedule_player.specs.declared.player.Player.{Player}
use Rattle.schedule_player.specs.Answers.{answer_lines}
use Rattle.schedule_player.specs.Asked.{AskForAll}
use Rattle.schedule_player.specs.Heard.{heard_after, nothing_heard}
use Rattle.schedule_player.specs.Played.{Answered, Played}

-- a player that has answered nothing
pub record IsOpening (start : Start) (ring : ℕ) (player : Player) : Type 0 where
  pub start_is : IsStart start
  pub workers_fit : start.workers < 2 ^ 16
  pub world_is : player.world ≡ erase (opening_world start.run start.workers start.vnodes)
  pub workers : player.workers ≡ start.workers
  pub ring_is : player.ring ≡ ring
  pub lines : player.lines ≡ 0
  pub heard : player.referee ≡ nothing_heard start.workers

-- the player is that of a start, and has answered the steps of a schedule, which some texts asked for
pub record HasAnswered (start : Start) (ring : ℕ) (player : Player) (texts : List (List ℕ)) (schedule : List Step) (held held' : Option (List ℕ)) : Type 0 where
  pub workers : player.workers ≡ start.workers
  pub ring_is : player.ring ≡ ring
  pub asked : AskForAll start.workers ring texts schedule
  pub kept : IsKeptAfter start schedule player.world
  pub count : player.lines ≡ length schedule
  pub few : length schedule ≤ 100000
  pub heard : player.referee ≡ heard_after start schedule
  pub written : Appends held held' (answer_lines start schedule)

-- the whole lines of an input were answered, and behind them lies a part of a line
pub record HasPlayed (start : Start) (ring : ℕ) (player : Player) (input : List ℕ) (held held' : Option (List ℕ)) (partial : List ℕ) : Type 0 where
  pub answered : List ℕ
  pub texts : List (List ℕ)
  pub parts : input ≡ answered ++ partial
  pub whole : (rest : List ℕ) → lines_of (answered ++ rest) ≡ texts ++ lines_of rest
  pub schedule : List Step
  pub has : HasAnswered start ring player texts schedule held held'
  pub unended : Lacks 10 partial

-- however far a player has come, a piece of the input is answered
abbrev pub PlaysPiece : (old : Player) (partial piece : List ℕ) (held : Option (List ℕ)) (new : Player) (partial' : List ℕ) (held' : Option (List ℕ)) → Result (Unit {0}) StepsFault → Type 0
PlaysPiece old partial piece held new partial' held' (Ok u) =
    (start : Start) (ring : ℕ) (input : List ℕ) (first : Option (List ℕ)) → HasPlayed start ring old input first held partial
    → HasPlayed start ring new (input ++ piece) first held' partial'
PlaysPiece old partial piece held new partial' held' (Err fault) =
    (start : Start) (ring : ℕ) (input : List ℕ) (first : Option (List ℕ)) → HasPlayed start ring old input first held partial
    → Answered start ring (input ++ piece) first held' (Err fault)

-- however far a player has come, the input ends
abbrev pub PlaysEnd : (old : Player) (partial : List ℕ) (held held' : Option (List ℕ)) → Result (Unit {0}) StepsFault → Type 0
PlaysEnd old partial held held' result =
    (start : Start) (ring : ℕ) (input : List ℕ) (first : Option (List ℕ)) → HasPlayed start ring old input first held partial
    → Answered start ring input first held' result

-- the line of the verdict is written
abbrev pub WritesEnd : Player → Option (List ℕ) → Option (List ℕ) → Result (Unit {0}) StepsFault → Type 0
WritesEnd player held held' (Ok u) = Appends held held' (verdict_line player.referee.compared.verdict)
WritesEnd player held held' (Err (BadStep line)) = ⊥
WritesEnd player held held' (Err ReadFailed) = ⊥
WritesEnd player held held' (Err WriteFailed) =
    (len : ℕ) × Appends held held' (take len (verdict_line player.referee.compared.verdict))
WritesEnd player held held' (Err NoMemory) = Keeps held held'

-- a new player plays a schedule
abbrev pub PlaysAll : (old : Player) (unread unread' held held' : Option (List ℕ)) → Result (Unit {0}) StepsFault → Type 0
PlaysAll old unread unread' held held' result =
    (start : Start) (ring : ℕ) → HasPlayed start ring old [] held held [] → Played start ring unread unread' held held' result
