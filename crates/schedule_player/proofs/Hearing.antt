-- What a line adds to what is heard.
use Rattle.std.proofs.Common.{◌≡◌, ℕ, ◌+◌, false, List, Option, Result, Ok, Err, sym, ap, ◌∙◌, subst}
use Rattle.std.specs.Prelude.{OnOk, option_and_then}
use Rattle.std.specs.Option.{option_map_or}
use Rattle.std.specs.Global.{Box}
use Rattle.riak_msgs.specs.Contents.{Content}
use Rattle.riak_msgs.specs.declared.reply.Reply.{Reply}
use Rattle.node_steps.specs.Asked.{Context, RegisterAsk}
use Rattle.schedule_text.specs.Compared.{Compared}
use Rattle.node_steps.specs.declared.outcome.Outcome.{Outcome as Returned}
use Rattle.node_steps.specs.declared.outcome.Outcome.TheVariants as outcomes
use Rattle.node_steps.specs.declared.step.Step.{Step as RunStep}
use Rattle.node_steps.specs.World.{World}
use Rattle.node_steps.specs.Steps.{Step, By, Diverts, number_of}
use Rattle.node_steps.specs.Kept.{FollowsInRun}
use Rattle.schedule_player.specs.declared.fault.StepsFault.{StepsFault}
use Rattle.schedule_player.specs.declared.fault.StepsFault.TheVariants.{BadStep, ReadFailed, WriteFailed, NoMemory}
use Rattle.schedule_player.specs.declared.player.Player.{Player}
use Rattle.schedule_player.specs.declared.asking.Note.{Note}
use Rattle.schedule_player.specs.declared.asking.Note.TheVariants as notes
use Rattle.schedule_player.specs.Calls.{call_in, call_of, after_note, IsNoteOf}
use Rattle.schedule_player.specs.Heard.{Heard, Calls, after_act, asked_in, is_diversion, last_call, reaped, replied}
use Rattle.schedule_player.specs.Lines.{AnswersStep, WritesLine}
use Rattle.schedule_player.proofs.Calls.{compared_is}

module _ (calls : Calls) (known : Compared) (line worker : ℕ) (asked : Option (RegisterAsk Content Context)) (last : Option RunStep) where
  abbrev heard_with : Compared → Heard
  heard_with compared = record { calls = calls; compared = compared }

  by_last : (f : RegisterAsk Content Context → Compared) (new : Compared) → option_and_then call_of last ≡ last_call calls worker
      → new ≡ option_map_or f (option_and_then call_of last) known
      → heard_with new ≡ option_map_or (λ ask. heard_with (f ask)) (last_call calls worker) (heard_with known)
  by_last f new at is =
      ap heard_with (is ∙ ap (λ o. option_map_or f o known) at) ∙ compared_is (last_call calls worker) calls known f

  pub heard_reply : {E : Type 0} (result : Result (Unit {0}) E) (reply : Reply) (new : Compared) → option_and_then call_of last ≡ last_call calls worker
      → OnOk result (new ≡ option_map_or (λ ask. replied line reply ask known) (option_and_then call_of last) known)
      → OnOk result (heard_with new ≡ after_act line worker asked (outcomes.Reply reply) (heard_with known))
  heard_reply (Ok u) reply new at is = by_last (λ ask. replied line reply ask known) new at is
  heard_reply (Err e) reply new at is = tt

  pub heard_reap : {E : Type 0} (result : Result (Unit {0}) E) (new : Compared) → option_and_then call_of last ≡ last_call calls worker
      → OnOk result (new ≡ option_map_or (λ ask. reaped ask known) (option_and_then call_of last) known)
      → OnOk result (heard_with new ≡ after_act line worker asked outcomes.Reaped (heard_with known))
  heard_reap (Ok u) new at is = by_last (λ ask. reaped ask known) new at is
  heard_reap (Err e) new at is = tt

-- what is noted of a worker's step
pub noted : (step : Step) → is_diversion step ≡ false → (note : Note) → (worker : ℕ) (call : Option (Box RunStep)) → note ≡ notes.OfWorker worker call
    → worker ≡ number_of step → call_in call ≡ asked_in step → IsNoteOf note step
noted (By number action) other note worker call is at asked = λ line returned heard.
    ap (λ n. after_note line n returned heard) is ∙ (λ i. after_act line (at i) (asked i) returned heard)
noted (Diverts index) other note worker call is at asked = cc

-- a step's line, by what was noted of it
pub step_answered : (old : Player) (w : World) (new : Player) (step : Step) (note : Note) (outcome : Returned)
    (held held' : Option (List ℕ)) (result : Result (Unit {0}) StepsFault) → IsNoteOf note step → FollowsInRun old.world step outcome w
    → WritesLine (record old { world = w }) note outcome held held' new result → AnswersStep old step held held' new result
step_answered old w new step note outcome held held' (Ok u) is follows written = record {
  outcome = outcome;
  follows = subst (λ x. FollowsInRun old.world step outcome x) (sym written.world) follows;
  workers = written.workers;
  ring = written.ring;
  lines = written.lines;
  heard = written.heard ∙ is (old.lines + 1) outcome old.referee;
  written = written.written;
}
step_answered old w new step note outcome held held' (Err (BadStep line)) is follows written = written
step_answered old w new step note outcome held held' (Err ReadFailed) is follows written = written
step_answered old w new step note outcome held held' (Err WriteFailed) is follows written = record {
  outcome = outcome;
  follows = subst (λ x. FollowsInRun old.world step outcome x) (sym written.1) follows;
  cut = written.0;
}
step_answered old w new step note outcome held held' (Err NoMemory) is follows written = written
