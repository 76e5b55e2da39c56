-- The calls that running steps give to their workers, and what is noted of running steps.
use Rattle.std.specs.Prelude.{◌≡◌, ℕ, Option, Some, None}
use Rattle.std.specs.Global.{Box}
use Rattle.riak_msgs.specs.Contents.{Content}
use Rattle.node_steps.specs.declared.step.Step.{Step as RunStep}
use Rattle.node_steps.specs.declared.outcome.Outcome.{Outcome as Returned}
use Rattle.node_steps.specs.Asked.{Context, RegisterAsk, step_of}
use Rattle.node_steps.specs.Steps.{Step}
use Rattle.schedule_player.specs.declared.asking.Note.{Note}
use Rattle.schedule_player.specs.declared.asking.Note.TheVariants as notes
use Rattle.schedule_player.specs.Heard.{Heard, asked_in, after_act, after_diversion, after_line}

-- what a running step asks, if it gives its worker a call
abbrev pub call_of : RunStep → Option (RegisterAsk Content Context)
call_of step = asked_in (step_of step)

-- what a step that is kept on the heap asks, if one is kept
abbrev pub call_in : Option (Box RunStep) → Option (RegisterAsk Content Context)
call_in None = None
call_in (Some call) = call_of call.value

-- what is heard by a note of a step, and what this step returned, at the line of this number
abbrev pub after_note : ℕ → Note → Returned → Heard → Heard
after_note line (notes.OfWorker worker call) returned heard = after_act line worker (call_in call) returned heard
after_note line notes.OfDiversion returned heard = after_diversion returned heard

-- by a note of a step is heard what the step adds
abbrev pub IsNoteOf : Note → Step → Type 0
IsNoteOf note step = (line : ℕ) (returned : Returned) (heard : Heard) → after_note line note returned heard ≡ after_line line step returned heard
