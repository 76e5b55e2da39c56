-- Each event of a vnode behind a gate is five steps of one worker: it is asked, takes, looks, publishes, and puts back.
use Rattle.std.proofs.Common.{◌≡◌, ℕ, zero, suc, ◌≤◌, List, [], ◌∷◌, refl, ◌∙◌, ap, arith, subst}
use Rattle.std.proofs.Math.Nat.{zero-add}
use Rattle.std.specs.Prelude.{false, is_some, Some, None, option_map, option_and_then, slice_get, replicate}
use Rattle.std.specs.Option.{option_map_or}
use Rattle.riak_msgs.specs.Contents.{Content}
use Rattle.sibling_register.specs.Answers.{RegisterAsk}
use Rattle.actor_epoch.specs.Given.{Context}
use Rattle.vnode_machine.specs.Machine.{State, opening, apply_operation}
use Rattle.vnode_machine.specs.Replay.{AcceptsEvent, IsAfter}
use Rattle.vnode_machine.specs.Registers.{key_of, context_in_ask}
use Rattle.vnode_core.specs.declared.event.VnodeEvent.{VnodeEvent}
use Rattle.vnode_core.specs.declared.entry.Entry.TheVariants.{Command as Commanded}
use Rattle.vnode_core.specs.Events.{MachineRun, all_commands, Makes, event_command, event_deed, event_response, register_event, history_after}
use Rattle.copy_laws.specs.Copies.{Command, commands_of}
use Rattle.copy_laws.specs.Joining.{Log}
use Rattle.node_steps.specs.World.{Word, Open, Taken, PlannedCommand, Phase, Idle, Asked, Holding, Done, Brought, SiteVnode, Worker, World, fresh_vnode, fresh_worker, CommandsAlone, id_of, route, history_at, seen_at, brought_by, history_of}
use Rattle.node_steps.specs.Steps.{Action, Asks, Takes, Looks, Publishes, Puts, Step, By, Outcome, WorkerTurn, holds_by, looks_by, turn_of, routed, site_of, seeing, turned, closes, acts, happens, after}
use Rattle.node_steps.specs.Schedules.{Start, world_after}
use Rattle.node_steps.specs.Gates.{RunsAreScheduled}
use Rattle.sibling_register.specs.History.{Event as RegisterEvent}
use Rattle.node_steps.proofs.Unmixed.{same-event}
use Rattle.node_steps.proofs.Lists.{set-here}
use Rattle.node_steps.proofs.Own.{vnode_there, own_there}
use Rattle.node_steps.proofs.Kept.{routed_own}
use Rattle.node_steps.proofs.Stepping.{result_at, at_one}
use Rattle.node_steps.proofs.Accepting.{accepted_is, was_accepted}

-- the first worker, and the vnode at an index, to which the calls go
abbrev IsThere : World → ℕ → Phase → SiteVnode → Type 0
IsThere w index phase vnode =
    (worker : Worker) × (slice_get w.workers 0 ≡ Some worker) × (worker.phase ≡ phase) × (slice_get w.vnodes index ≡ Some vnode) × (slice_get w.routes index ≡ Some index)

abbrev step_of_first : Action → Step
step_of_first action = By 1 action

-- a turn of the first worker
moved : (w : World) (asked action : Action) (index : ℕ) (phase : Phase) (vnode : SiteVnode) (next : Phase) (new : SiteVnode) → routed (route w) asked ≡ action → site_of action phase ≡ Some index
    → ((worker : Worker) → worker.phase ≡ phase → closes w 1 worker action worker.phase ≡ None)
    → ((seen : Log) (brought : Brought) → (turn : WorkerTurn) × (turn_of seen brought vnode action phase ≡ Some turn) × (turn.phase ≡ next) × (turn.vnode ≡ new))
    → IsThere w index phase vnode → IsThere (after w (step_of_first asked)) index next new
moved w asked action index phase vnode next new sent site one turns (worker, here, is, there, own) =
    let t = turns (seen_at worker.seen index) (brought_by w worker) in
    let turn : WorkerTurn = t.0 in
    let about : site_of action worker.phase ≡ Some index = ap (site_of action) is ∙ site in
    let made : turn_of (seen_at worker.seen index) (brought_by w worker) vnode action worker.phase ≡ Some turn = ap (turn_of (seen_at worker.seen index) (brought_by w worker) vnode action) is ∙ t.1 in
    let next_worker : Worker = record { phase = turn.phase; seen = seeing worker.seen index turn.seen } in
    let it : happens w (step_of_first asked) ≡ Some (result_at w 0 index worker turn) =
    ap (λ a. acts w 1 a) sent
    ∙ at_one w 0 action worker here (one worker is)
    ∙ ap (λ o. option_and_then (λ i. option_and_then (λ v. option_map (result_at w 0 i worker)
    (turn_of (seen_at worker.seen i) (brought_by w worker) v action worker.phase)) (slice_get w.vnodes i)) o) about
    ∙ ap (λ o. option_and_then (λ v. option_map (result_at w 0 index worker) (turn_of (seen_at worker.seen index) (brought_by w worker) v action worker.phase)) o) there
    ∙ ap (λ o. option_map (result_at w 0 index worker) o) made in
    let world : after w (step_of_first asked) ≡ turned w 0 index worker turn = ap (λ o. option_map_or (λ (r : World × Outcome). r.0) o w) it in (
      next_worker,
      ap (λ (x : World). slice_get x.workers 0) world ∙ set-here w.workers 0 worker next_worker here,
      t.2,
      ap (λ (x : World). slice_get x.vnodes index) world ∙ set-here w.vnodes index vnode turn.vnode there ∙ ap (λ v. Some v) t.3,
      ap (λ (x : World). slice_get x.routes index) world ∙ own,
    )

module _ (start : Start) (index id : ℕ) where
  abbrev vnode_with : Word → Log → State Content → SiteVnode
  vnode_with word log place = record { id = id; own = index; last_epoch = 0; word = word; log = log; place = place }

  -- after a schedule the first worker is idle, and the vnode is this
  abbrev IsReachable : Log → State Content → Type 0
  IsReachable log state = CommandsAlone log × IsAfter id 0 (commands_of log) state × (schedule : List Step) × IsThere (world_after start schedule) index Idle (vnode_with (Open 0 false) log state)

  abbrev plan_of_event : VnodeEvent → State Content → PlannedCommand
  plan_of_event event next = record { operation = event_deed event; response = event_response event; next = next }

  -- one event more
  one_event : (log : Log) (state next : State Content) (event : VnodeEvent) → Makes state (Commanded event) next → IsReachable log state
      → IsReachable (Command (register_event id 0 (commands_of log) event) ∷ log) next
  one_event log state next event makes (only, so_far, schedule, there) =
      let ask : RegisterAsk Content Context = event_command event in
      let plan : PlannedCommand = plan_of_event event next in
      let longer : Log = Command (register_event id 0 (commands_of log) event) ∷ log in
      let goes_on : IsAfter id 0 (commands_of longer) next = record {
        replays = (
          so_far.replays,
          subst (λ s. AcceptsEvent s (key_of ask) (context_in_ask ask) (event_deed event)) so_far.is (was_accepted state ask (event_deed event) (event_response event) next makes.1),
          refl,
        );
        is = accepted_is state ask (event_deed event) (event_response event) next makes.1
            ∙ ap (λ s. apply_operation s (key_of ask) (context_in_ask ask) (event_deed event)) so_far.is;
      } in
      let w = world_after start schedule in
      let asked = moved w (Asks index ask) (Asks index ask) index Idle (vnode_with (Open 0 false) log state) (Asked index ask) (vnode_with (Open 0 false) log state)
      (routed_own (route w) index ask there.4) refl (λ x e. ap (closes w 1 x (Asks index ask)) e)
      (λ seen brought. (_, refl, refl, refl)) there in
      let w1 = after w (step_of_first (Asks index ask)) in
      let took = moved w1 Takes Takes index (Asked index ask) (vnode_with (Open 0 false) log state) (Holding index ask state None) (vnode_with Taken log state) refl refl (λ x e. ap (closes w1 1 x Takes) e)
      (λ seen brought. (_, refl, refl, refl)) asked in
      let w2 = after w1 (step_of_first Takes) in
      let looked = moved w2 Looks Looks index (Holding index ask state None) (vnode_with Taken log state) (Holding index ask state (Some plan)) (vnode_with Taken log state) refl refl (λ x e. ap (closes w2 1 x Looks) e)
      (λ seen brought. (
        _,
        ap (λ b. Some (holds_by seen brought (vnode_with Taken log state) index ask state b)) (ap is_some makes.0)
            ∙ ap (λ o. Some (looks_by seen brought (vnode_with Taken log state) index ask state o)) makes.1,
        refl,
        refl,
      )) took in
      let w3 = after w2 (step_of_first Looks) in
      let published = moved w3 Publishes Publishes index (Holding index ask state (Some plan)) (vnode_with Taken log state) (Done index (Some next)) (vnode_with Taken longer state) refl refl (λ x e. ap (closes w3 1 x Publishes) e)
      (λ seen brought. (_, refl, refl, ap (λ (e : RegisterEvent Content Context). vnode_with Taken (Command e ∷ log) state) (same-event id 0 log only so_far.replays ask (event_deed event)))) looked in
      let w4 = after w3 (step_of_first Publishes) in
      let laid = moved w4 Puts Puts index (Done index (Some next)) (vnode_with Taken longer state) Idle (vnode_with (Open 0 false) longer next) refl refl (λ x e. ap (closes w4 1 x Puts) e)
      (λ seen brought. (_, refl, refl, refl)) published in
      (ap (λ (l : Log). Command (register_event id 0 (commands_of log) event) ∷ l) only, goes_on, step_of_first Puts ∷ step_of_first Publishes ∷ step_of_first Looks ∷ step_of_first Takes ∷ step_of_first (Asks index ask) ∷ schedule, laid)

  all_events : (events : List VnodeEvent) (log : Log) (state last : State Content) → MachineRun Makes state (all_commands events) last → IsReachable log state
      → (schedule : List Step) × (history_at (world_after start schedule) index ≡ history_after id 0 (commands_of log) events)
  all_events [] log state last run (only, so_far, schedule, there) = (schedule, ap (λ o. option_map_or (λ (v : SiteVnode). history_of v) o []) there.3)
  all_events (event ∷ events) log state last (next, makes, run) stands =
      all_events events (Command (register_event id 0 (commands_of log) event) ∷ log) next last run (one_event log state next event makes stands)

first_there : {X : Type 0} (n : ℕ) (x : X) → 1 ≤ n → slice_get (replicate n x) 0 ≡ Some x
first_there zero x h = absurd (omega (arith, h))
first_there (suc n) x h = refl

pub runs_are_scheduled : RunsAreScheduled
runs_are_scheduled start index events state workers vnodes run =
    all_events start index (id_of start.run index) events [] (opening (id_of start.run index) 0) state run (
      refl,
      record { replays = tt; is = refl },
      [],
      (
        fresh_worker,
        first_there start.workers fresh_worker workers,
        refl,
        vnode_there start.run 0 start.vnodes index vnodes ∙ ap (λ n. Some (fresh_vnode (id_of start.run n) n 0)) (zero-add index),
        own_there 0 start.vnodes index vnodes ∙ ap (λ n. Some n) (zero-add index),
      ),
    )
