-- What comes of asking a worker, and where its call goes.
use Rattle.std.proofs.Common.{◌≡◌, ℕ, zero, suc, ◌≤◌, Bool, true, false, cond, not, ◌&&◌, List, length, refl, sym, ◌∙◌, ap, subst}
use Rattle.std.specs.Prelude.{◌==◌, Option, Some, None, option_map, option_and_then, slice_get, slice_set}
use Rattle.std.specs.Option.{option_map_or}
use Rattle.std.proofs.lemmas.Option.{slice_get_past}
use Rattle.riak_msgs.specs.Contents.{Content}
use Rattle.riak_msgs.specs.declared.Request.{Request}
use Rattle.sibling_register.specs.Answers.{RegisterAsk}
use Rattle.actor_epoch.specs.Given.{Context}
use Rattle.vnode_machine.specs.Asks.{request_ask}
use Rattle.copy_laws.specs.Joining.{Log}
use Rattle.node_steps.specs.declared.call.Call.{Call}
use Rattle.node_steps.specs.declared.outcome.Outcome.TheVariants as outcomes
use Rattle.node_steps.specs.declared.phase.Phase.{Phase as RunPhase}
use Rattle.node_steps.specs.declared.phase.Phase.TheVariants as phases
use Rattle.node_steps.specs.declared.site.Site.{Site}
use Rattle.node_steps.specs.declared.parts.Parts.{Parts}
use Rattle.node_steps.specs.World.{Phase, Idle, Asked, Reading, Holding, Done, Turned, Copying, Closing, Brought, SiteVnode, Worker, World, route, seen_at, brought_by}
use Rattle.node_steps.specs.Steps.{Asks, AsksNowhere, is_reap, sent, routed, By, site_of, acts, happens, turn_of}
use Rattle.node_steps.specs.Running.{ask_of, vnode_of, worker_of, world_of}
use Rattle.node_steps.specs.Asked.{CallsFor, asking_step, asks_by}
use Rattle.node_steps.specs.Parts.{FindsIdle, SendsTo, TakesRunStep, world_in}
use Rattle.node_steps.proofs.Looking.{vnode_itself}
use Rattle.node_steps.proofs.Mapped.{set-same, at_none}
use Rattle.node_steps.proofs.Stepping.{not_possible, result_at, Steps, step_taken, no_worker, at_one, no_turn, NoTurn, asking_sent, is_busy}

-- nobody is asked a ping
ping_turn : (world : World) (worker : Worker) (phase : Phase) → worker.phase ≡ phase → NoTurn world AsksNowhere worker
ping_turn world worker phase e = λ index vnode. ap (λ p. turn_of (seen_at worker.seen index) (brought_by world worker) vnode AsksNowhere p) e ∙ none phase index vnode
  where
    none : (phase : Phase) (index : ℕ) (vnode : SiteVnode) → turn_of (seen_at worker.seen index) (brought_by world worker) vnode AsksNowhere phase ≡ None
    none Idle index vnode = refl
    none (Asked other ask) index vnode = refl
    none (Reading other get) index vnode = refl
    none (Holding other ask hand plan) index vnode = refl
    none (Done other hand) index vnode = refl
    none (Turned own other ask hand) index vnode = refl
    none (Copying own site key stage) index vnode = refl
    none (Closing own site stage) index vnode = refl

pub asks_nowhere : (world : World) (worker : ℕ) → happens world (By worker AsksNowhere) ≡ None
asks_nowhere world zero = refl
asks_nowhere world (suc place) = by (slice_get world.workers place) refl
  where
    by : (o : Option Worker) → slice_get world.workers place ≡ o → happens world (By (suc place) AsksNowhere) ≡ None
    by None e = no_worker world place AsksNowhere e
    by (Some worker) e = at_one world place AsksNowhere worker e refl ∙ no_turn world place AsksNowhere worker (ping_turn world worker worker.phase refl)

-- nobody is asked something at a site that there isn't
past_turn : (world : World) (site : ℕ) (ask : RegisterAsk Content Context) → slice_get world.vnodes site ≡ None → (place : ℕ) (worker : Worker) → Steps world (Asks site ask) place worker ≡ None
past_turn world site ask none place worker = by worker.phase refl
  where
    busy : (phase : Phase) → worker.phase ≡ phase → ((vnode : SiteVnode) (seen : Log) (brought : Brought) → turn_of seen brought vnode (Asks site ask) phase ≡ None)
        → NoTurn world (Asks site ask) worker
    busy phase e h = λ index vnode.
        ap (λ p. turn_of (seen_at worker.seen index) (brought_by world worker) vnode (Asks site ask) p) e ∙ h vnode (seen_at worker.seen index) (brought_by world worker)

    by : (phase : Phase) → worker.phase ≡ phase → Steps world (Asks site ask) place worker ≡ None
    by Idle e =
        ap (λ p. option_and_then (λ index. option_and_then (λ vnode. option_map (result_at world place index worker)
        (turn_of (seen_at worker.seen index) (brought_by world worker) vnode (Asks site ask) worker.phase)) (slice_get world.vnodes index)) (site_of (Asks site ask) p)) e
        ∙ ap (λ o. option_and_then (λ vnode. option_map (result_at world place site worker)
        (turn_of (seen_at worker.seen site) (brought_by world worker) vnode (Asks site ask) worker.phase)) o) none
    by (Asked other was) e = no_turn world place (Asks site ask) worker (busy (Asked other was) e (λ v s b. refl))
    by (Reading other get) e = no_turn world place (Asks site ask) worker (busy (Reading other get) e (λ v s b. refl))
    by (Holding other was hand plan) e = no_turn world place (Asks site ask) worker (busy (Holding other was hand plan) e (λ v s b. refl))
    by (Done other hand) e = no_turn world place (Asks site ask) worker (busy (Done other hand) e (λ v s b. refl))
    by (Turned own other was hand) e = no_turn world place (Asks site ask) worker (busy (Turned own other was hand) e (λ v s b. refl))
    by (Copying own from key stage) e = no_turn world place (Asks site ask) worker (busy (Copying own from key stage) e (λ v s b. refl))
    by (Closing own from stage) e = no_turn world place (Asks site ask) worker (busy (Closing own from stage) e (λ v s b. refl))

asks_past : (world : World) (site : ℕ) (ask : RegisterAsk Content Context) → slice_get world.vnodes site ≡ None → (worker : ℕ) → acts world worker (Asks site ask) ≡ None
asks_past world site ask none zero = refl
asks_past world site ask none (suc place) = by (slice_get world.workers place) refl
  where
    by : (o : Option Worker) → slice_get world.workers place ≡ o → acts world (suc place) (Asks site ask) ≡ None
    by None e = no_worker world place (Asks site ask) e
    by (Some worker) e = at_one world place (Asks site ask) worker e refl ∙ past_turn world site ask none place worker

module _ (sites : List Site) (routes epochs : List ℕ) (workers : List RunPhase) where
  abbrev w : World
  w = world_of sites routes epochs workers

  -- without an idle worker of this number
  busy_or_none : (worker index : ℕ) (ask : RegisterAsk Content Context) → FindsIdle workers worker None → happens w (asking_step worker index ask) ≡ None
  busy_or_none zero index ask h = refl
  busy_or_none (suc place) index ask h = by (slice_get workers place) refl
    where
      by : (o : Option RunPhase) → slice_get workers place ≡ o → happens w (asking_step (suc place) index ask) ≡ None
      by None e = no_worker w place (routed (route w) (Asks index ask)) (at_none worker_of workers place e)
      by (Some phase) e = is_busy sites routes epochs workers place (Asks index ask) phase e (h place phase refl e) (asking_sent index ask (route w index))

  pub not_asked : (worker index : ℕ) (ask : RegisterAsk Content Context) → FindsIdle workers worker None → TakesRunStep w (asking_step worker index ask) outcomes.No w
  not_asked worker index ask h = not_possible sites routes epochs workers (asking_step worker index ask) (busy_or_none worker index ask h)

  -- a worker without a call gets one, where the call is sent to this site
  pub asked : (worker place : ℕ) → worker ≡ suc place → slice_get workers place ≡ Some phases.Idle → (index at : ℕ) (call : Call) (site : Site)
      → routed (route w) (Asks index (ask_of call)) ≡ Asks at (ask_of call) → slice_get sites at ≡ Some site
      → TakesRunStep w (asking_step worker index (ask_of call)) outcomes.Done (world_of sites routes epochs (slice_set workers place (phases.Asked at call)))
  asked worker place number here index at call site goes there =
      let next = phases.Asked at call in
      subst (λ n. TakesRunStep w (asking_step n index (ask_of call)) outcomes.Done (world_of sites routes epochs (slice_set workers place next))) (sym number)
      (subst (λ xs. TakesRunStep w (asking_step (suc place) index (ask_of call)) outcomes.Done (world_of xs routes epochs (slice_set workers place next)))
      (set-same sites at site there)
      (step_taken sites routes epochs workers place at phases.Idle next site site (Asks index (ask_of call)) (Asks at (ask_of call)) outcomes.Done goes here refl there refl
      (vnode_itself site, refl, refl)))

pub pinged : (sites : List Site) (routes epochs : List ℕ) (workers : List RunPhase) (worker index : ℕ) (request : Request) → CallsFor request None
    → TakesRunStep (world_of sites routes epochs workers) (By worker (asks_by index (request_ask request))) outcomes.No (world_of sites routes epochs workers)
pinged sites routes epochs workers worker index request h =
    subst (λ o. TakesRunStep (world_of sites routes epochs workers) (By worker (asks_by index o)) outcomes.No (world_of sites routes epochs workers)) h
    (not_possible sites routes epochs workers (By worker AsksNowhere) (asks_nowhere (world_of sites routes epochs workers) worker))

-- where a call goes, by where those of its partition go
module _ (parts : Parts) (index : ℕ) (ask : RegisterAsk Content Context) where
  -- it is sent there
  goes : (o : Option ℕ) → route (world_in parts) index ≡ o
      → (worker : ℕ) → happens (world_in parts) (asking_step worker index ask) ≡ acts (world_in parts) worker (option_map_or (λ site. sent index site ask) o AsksNowhere)
  goes o e worker = ap (λ r. acts (world_in parts) worker (option_map_or (λ site. sent index site ask) r AsksNowhere)) e

  -- there is no such partition
  pub without_partition : route (world_in parts) index ≡ None → SendsTo parts index ask None
  without_partition e worker = goes None e worker ∙ asks_nowhere (world_in parts) worker

  -- there is no such site
  pub without_site : (site : ℕ) → route (world_in parts) index ≡ Some site → length parts.sites.items ≤ site → SendsTo parts index ask None
  without_site site e past worker =
      goes (Some site) e worker ∙ by (not (site == index) && is_reap ask)
    where
      by : (b : Bool) → acts (world_in parts) worker (cond b AsksNowhere (Asks site ask)) ≡ None
      by true = asks_nowhere (world_in parts) worker
      by false = asks_past (world_in parts) site ask (at_none vnode_of parts.sites.items site (slice_get_past parts.sites.items site past)) worker
