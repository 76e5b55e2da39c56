-- The line that is answered to a step.
use Rattle.std.specs.Prelude.{ℕ, ◌+◌, List, [], ◌∷◌, ◌++◌, length, codes, decimal}
use Rattle.schedule_text.specs.Outcomes.{left_text, reply_text}
use Rattle.node_steps.specs.declared.outcome.Outcome.{Outcome as Returned}
use Rattle.node_steps.specs.declared.outcome.Outcome.TheVariants as outcomes
use Rattle.node_steps.specs.Steps.{Step, outcome}
use Rattle.node_steps.specs.Schedules.{Start, world_after}
use Rattle.node_steps.specs.Returned.{returned}

-- what a line says of what a step returned
abbrev pub answer_text : Returned → List ℕ
answer_text outcomes.No = codes "no"
answer_text outcomes.Done = codes "ok"
answer_text (outcomes.Reply reply) = codes "reply " ++ reply_text reply
answer_text outcomes.Reaped = codes "reaped"
answer_text outcomes.Kept = codes "kept"
answer_text outcomes.Copied = codes "copied"
answer_text outcomes.Stuck = codes "stuck"
answer_text outcomes.Elsewhere = codes "elsewhere"
answer_text (outcomes.Left keys) = left_text keys

-- the line: its number, a space, what came of the step, and a line feed
abbrev pub answer_line : ℕ → Returned → List ℕ
answer_line number outcome = decimal number ++ 32 ∷ (answer_text outcome ++ 10 ∷ [])

-- the line that is answered to a step after a schedule, whose latest step comes first
abbrev pub next_line : Start → List Step → Step → List ℕ
next_line start schedule step = answer_line (length schedule + 1) (returned (outcome (world_after start schedule) step))

-- the lines that are answered to the steps of a schedule
abbrev pub answer_lines : Start → List Step → List ℕ
answer_lines start [] = []
answer_lines start (step ∷ earlier) = answer_lines start earlier ++ next_line start earlier step
