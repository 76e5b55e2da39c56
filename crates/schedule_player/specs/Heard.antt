-- What is heard of a run: each worker's last call, and the comparison with a plain register. The last line of a run is
-- defined by it.
use Rattle.std.specs.Prelude.{◌≡◌, ◌⊎◌, ℕ, Bool, true, false, ◌+◌, ◌-◌, List, [], ◌∷◌, Option, Some, None, length, replicate, slice_get, slice_set, unwrap_or}
use Rattle.std.specs.Option.{option_map_or}
use Rattle.riak_msgs.specs.Contents.{Content}
use Rattle.riak_msgs.specs.declared.reply.Reply.{Reply}
use Rattle.node_steps.specs.Asked.{Context, RegisterAsk, AskReap}
use Rattle.schedule_text.specs.Compared.{Compared, nothing_compared, not_compared, after_call, after_reply, after_reap}
use Rattle.schedule_text.specs.Verdicts.{verdict_line}
use Rattle.node_steps.specs.declared.outcome.Outcome.{Outcome as Returned}
use Rattle.node_steps.specs.declared.outcome.Outcome.TheVariants as outcomes
use Rattle.node_steps.specs.Returned.{returned}
use Rattle.node_steps.specs.Schedules.{Start, world_after}
use Rattle.node_steps.specs.Steps.{Action, Asks, Step, By, Diverts, Happened, outcome}

-- the last call of each worker, from worker 1 on; none before the first
abbrev pub Calls : Type 0
Calls = List (Option (RegisterAsk Content Context))

pub record Heard : Type 0 where
  pub calls : Calls
  pub compared : Compared

-- the last call of the worker of a number
abbrev pub last_call : Calls → ℕ → Option (RegisterAsk Content Context)
last_call calls worker = unwrap_or (slice_get calls (worker - 1)) None

-- the worker of a number got a call
abbrev pub with_call : Calls → ℕ → RegisterAsk Content Context → Calls
with_call calls worker ask = slice_set calls (worker - 1) (Some ask)

-- what an action asks, if it gives its worker a call
abbrev pub asked_by : Action → Option (RegisterAsk Content Context)
asked_by (Asks index ask) = Some ask
asked_by action = None

-- what a step asks, if it gives its worker a call
abbrev pub asked_in : Step → Option (RegisterAsk Content Context)
asked_in (By number action) = asked_by action
asked_in (Diverts index) = None

-- a get, put or delete was answered by this reply, at the line of this number
abbrev pub replied : ℕ → Reply → RegisterAsk Content Context → Compared → Compared
replied line reply (AskReap key) known = known
replied line reply ask known = after_reply line ask reply known

-- a reap was answered
abbrev pub reaped : RegisterAsk Content Context → Compared → Compared
reaped (AskReap key) known = after_reap key known
reaped ask known = known

-- what a worker's line of this number adds, by whose step it gets a call or not: this was returned
abbrev pub after_act : (line worker : ℕ) → Option (RegisterAsk Content Context) → Returned → Heard → Heard
after_act line worker asked outcomes.No heard = heard
after_act line worker asked outcomes.Copied heard = heard
after_act line worker asked outcomes.Stuck heard = heard
after_act line worker asked outcomes.Elsewhere heard = heard
after_act line worker asked (outcomes.Left keys) heard = heard
after_act line worker asked outcomes.Done heard =
    option_map_or (λ ask. record {
      calls = with_call heard.calls worker ask;
      compared = after_call ask heard.compared;
    }) asked heard
after_act line worker asked (outcomes.Reply reply) heard =
    option_map_or (λ ask. record heard { compared = replied line reply ask heard.compared }) (last_call heard.calls worker) heard
after_act line worker asked outcomes.Reaped heard =
    option_map_or (λ ask. record heard { compared = reaped ask heard.compared }) (last_call heard.calls worker) heard
after_act line worker asked outcomes.Kept heard =
    option_map_or (λ ask. record heard { compared = reaped ask heard.compared }) (last_call heard.calls worker) heard

-- what a partition's line adds: once it is diverted the run isn't compared
abbrev pub after_diversion : Returned → Heard → Heard
after_diversion outcomes.Done heard = record heard { compared = not_compared heard.compared }
after_diversion other heard = heard

-- what the line of this number adds: this step was taken, and this was returned
abbrev pub after_line : (line : ℕ) → Step → Returned → Heard → Heard
after_line line (By number action) returned heard = after_act line number (asked_by action) returned heard
after_line line (Diverts index) returned heard = after_diversion returned heard

-- whether a step diverts a partition
abbrev pub is_diversion : Step → Bool
is_diversion (By number action) = false
is_diversion (Diverts index) = true

-- before any line of so many workers
abbrev pub nothing_heard : (workers : ℕ) → Heard
nothing_heard workers = record { calls = replicate workers None; compared = nothing_compared }

-- after the lines of a schedule, whose latest step comes first
abbrev pub heard_after : Start → List Step → Heard
heard_after start [] = nothing_heard start.workers
heard_after start (step ∷ earlier) =
    after_line (length earlier + 1) step (returned (outcome (world_after start earlier) step)) (heard_after start earlier)

-- the last line of a run: whether the plain register answered as the schedule did, at which line not, or that it wasn't compared
abbrev pub last_line : Start → List Step → List ℕ
last_line start schedule = verdict_line (heard_after start schedule).compared.verdict

-- some step of a schedule diverted a partition
abbrev pub HasDiverted : Start → List Step → Type 0
HasDiverted start [] = ⊥
HasDiverted start (step ∷ earlier) =
    ((index : ℕ) × (step ≡ Diverts index) × (outcome (world_after start earlier) step ≡ Happened)) ⊎ HasDiverted start earlier
