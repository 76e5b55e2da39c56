-- What comes of sending a copier or a closer, and from which site it copies, or which it closes.
use Rattle.std.proofs.Common.{◌≡◌, ℕ, zero, suc, ◌<◌, ◌≤◌, Bool, true, false, cond, List, length, refl, sym, ◌∙◌, ap, subst}
use Rattle.std.specs.Prelude.{◌==◌, Option, Some, None, option_map, option_and_then, slice_get, slice_set}
use Rattle.std.specs.Option.{option_map_or}
use Rattle.std.specs.Global.{Box}
use Rattle.std.proofs.lemmas.Option.{slice_get_past}
use Rattle.riak_msgs.specs.declared.Key.{Key}
use Rattle.copy_laws.specs.Joining.{Log}
use Rattle.node_steps.specs.declared.outcome.Outcome.TheVariants as outcomes
use Rattle.node_steps.specs.declared.phase.Phase.{Phase as RunPhase}
use Rattle.node_steps.specs.declared.phase.Phase.TheVariants as phases
use Rattle.node_steps.specs.declared.stage.Stage.TheVariants as stages
use Rattle.node_steps.specs.declared.close_stage.CloseStage.TheVariants as close_stages
use Rattle.node_steps.specs.declared.site.Site.{Site}
use Rattle.node_steps.specs.declared.parts.Parts.{Parts}
use Rattle.node_steps.specs.World.{Phase, Idle, Asked, Reading, Holding, Done, Turned, Copying, Closing, Brought, SiteVnode, Worker, World, route, seen_at, brought_by}
use Rattle.node_steps.specs.Steps.{Action, Copies, CopiesFrom, Closes, ClosesFrom, AsksNowhere, sent_copy, sent_close, turn_of, site_of, routed, acts, happens, By}
use Rattle.node_steps.specs.Running.{vnode_of, worker_of, world_of}
use Rattle.node_steps.specs.Asked.{closing_step, copying_step}
use Rattle.node_steps.specs.Parts.{FindsIdle, HasFallbackSite, HasNone, TakesRunStep, world_in}
use Rattle.node_steps.proofs.Looking.{vnode_itself}
use Rattle.node_steps.proofs.Mapped.{set-same, at_none}
use Rattle.node_steps.proofs.Stepping.{not_possible, result_at, Steps, step_taken, no_worker, at_one, no_turn, NoTurn, IsAsking, copying_sent, closing_sent, is_busy}
use Rattle.node_steps.proofs.Asking.{asks_nowhere}

-- nobody copies from a site that there isn't
copies_turn : (world : World) (own site : ℕ) (key : Key) → slice_get world.vnodes site ≡ None → (place : ℕ) (worker : Worker) → Steps world (CopiesFrom own site key) place worker ≡ None
copies_turn world own site key none place worker = by worker.phase refl
  where
    busy : (phase : Phase) → worker.phase ≡ phase → ((vnode : SiteVnode) (seen : Log) (brought : Brought) → turn_of seen brought vnode (CopiesFrom own site key) phase ≡ None)
        → NoTurn world (CopiesFrom own site key) worker
    busy phase e h = λ index vnode.
        ap (λ p. turn_of (seen_at worker.seen index) (brought_by world worker) vnode (CopiesFrom own site key) p) e ∙ h vnode (seen_at worker.seen index) (brought_by world worker)

    by : (phase : Phase) → worker.phase ≡ phase → Steps world (CopiesFrom own site key) place worker ≡ None
    by Idle e =
        ap (λ p. option_and_then (λ index. option_and_then (λ vnode. option_map (result_at world place index worker)
        (turn_of (seen_at worker.seen index) (brought_by world worker) vnode (CopiesFrom own site key) worker.phase)) (slice_get world.vnodes index)) (site_of (CopiesFrom own site key) p)) e
        ∙ ap (λ o. option_and_then (λ vnode. option_map (result_at world place site worker)
        (turn_of (seen_at worker.seen site) (brought_by world worker) vnode (CopiesFrom own site key) worker.phase)) o) none
    by (Asked other was) e = no_turn world place (CopiesFrom own site key) worker (busy (Asked other was) e (λ v s b. refl))
    by (Reading other get) e = no_turn world place (CopiesFrom own site key) worker (busy (Reading other get) e (λ v s b. refl))
    by (Holding other was hand plan) e = no_turn world place (CopiesFrom own site key) worker (busy (Holding other was hand plan) e (λ v s b. refl))
    by (Done other hand) e = no_turn world place (CopiesFrom own site key) worker (busy (Done other hand) e (λ v s b. refl))
    by (Turned to other was hand) e = no_turn world place (CopiesFrom own site key) worker (busy (Turned to other was hand) e (λ v s b. refl))
    by (Copying to from other stage) e = no_turn world place (CopiesFrom own site key) worker (busy (Copying to from other stage) e (λ v s b. refl))
    by (Closing to from stage) e = no_turn world place (CopiesFrom own site key) worker (busy (Closing to from stage) e (λ v s b. refl))

copies_past : (world : World) (own site : ℕ) (key : Key) → slice_get world.vnodes site ≡ None → (worker : ℕ) → acts world worker (CopiesFrom own site key) ≡ None
copies_past world own site key none zero = refl
copies_past world own site key none (suc place) = by (slice_get world.workers place) refl
  where
    by : (o : Option Worker) → slice_get world.workers place ≡ o → acts world (suc place) (CopiesFrom own site key) ≡ None
    by None e = no_worker world place (CopiesFrom own site key) e
    by (Some worker) e = at_one world place (CopiesFrom own site key) worker e refl ∙ copies_turn world own site key none place worker

-- nobody closes a site that there isn't
closes_turn : (world : World) (own site : ℕ) → slice_get world.vnodes site ≡ None → (place : ℕ) (worker : Worker) → Steps world (ClosesFrom own site) place worker ≡ None
closes_turn world own site none place worker = by worker.phase refl
  where
    busy : (phase : Phase) → worker.phase ≡ phase → ((vnode : SiteVnode) (seen : Log) (brought : Brought) → turn_of seen brought vnode (ClosesFrom own site) phase ≡ None)
        → NoTurn world (ClosesFrom own site) worker
    busy phase e h = λ index vnode.
        ap (λ p. turn_of (seen_at worker.seen index) (brought_by world worker) vnode (ClosesFrom own site) p) e ∙ h vnode (seen_at worker.seen index) (brought_by world worker)

    by : (phase : Phase) → worker.phase ≡ phase → Steps world (ClosesFrom own site) place worker ≡ None
    by Idle e =
        ap (λ p. option_and_then (λ index. option_and_then (λ vnode. option_map (result_at world place index worker)
        (turn_of (seen_at worker.seen index) (brought_by world worker) vnode (ClosesFrom own site) worker.phase)) (slice_get world.vnodes index)) (site_of (ClosesFrom own site) p)) e
        ∙ ap (λ o. option_and_then (λ vnode. option_map (result_at world place site worker)
        (turn_of (seen_at worker.seen site) (brought_by world worker) vnode (ClosesFrom own site) worker.phase)) o) none
    by (Asked other was) e = no_turn world place (ClosesFrom own site) worker (busy (Asked other was) e (λ v s b. refl))
    by (Reading other get) e = no_turn world place (ClosesFrom own site) worker (busy (Reading other get) e (λ v s b. refl))
    by (Holding other was hand plan) e = no_turn world place (ClosesFrom own site) worker (busy (Holding other was hand plan) e (λ v s b. refl))
    by (Done other hand) e = no_turn world place (ClosesFrom own site) worker (busy (Done other hand) e (λ v s b. refl))
    by (Turned to other was hand) e = no_turn world place (ClosesFrom own site) worker (busy (Turned to other was hand) e (λ v s b. refl))
    by (Copying to from other stage) e = no_turn world place (ClosesFrom own site) worker (busy (Copying to from other stage) e (λ v s b. refl))
    by (Closing to from stage) e = no_turn world place (ClosesFrom own site) worker (busy (Closing to from stage) e (λ v s b. refl))

closes_past : (world : World) (own site : ℕ) → slice_get world.vnodes site ≡ None → (worker : ℕ) → acts world worker (ClosesFrom own site) ≡ None
closes_past world own site none zero = refl
closes_past world own site none (suc place) = by (slice_get world.workers place) refl
  where
    by : (o : Option Worker) → slice_get world.workers place ≡ o → acts world (suc place) (ClosesFrom own site) ≡ None
    by None e = no_worker world place (ClosesFrom own site) e
    by (Some worker) e = at_one world place (ClosesFrom own site) worker e refl ∙ closes_turn world own site none place worker

module _ (sites : List Site) (routes epochs : List ℕ) (workers : List RunPhase) where
  abbrev w : World
  w = world_of sites routes epochs workers

  -- without an idle worker of this number
  busy_or_none : (worker : ℕ) (action : Action) → IsAsking (routed (route w) action) → FindsIdle workers worker None → happens w (By worker action) ≡ None
  busy_or_none zero action asking h = refl
  busy_or_none (suc place) action asking h = by (slice_get workers place) refl
    where
      by : (o : Option RunPhase) → slice_get workers place ≡ o → happens w (By (suc place) action) ≡ None
      by None e = no_worker w place (routed (route w) action) (at_none worker_of workers place e)
      by (Some phase) e = is_busy sites routes epochs workers place action phase e (h place phase refl e) asking

  pub not_sent : (worker index : ℕ) (key : Key) → FindsIdle workers worker None → TakesRunStep w (copying_step worker index key) outcomes.No w
  not_sent worker index key h =
      not_possible sites routes epochs workers (copying_step worker index key) (busy_or_none worker (Copies index key) (copying_sent index key (route w index)) h)

  pub not_closing : (worker index : ℕ) → FindsIdle workers worker None → TakesRunStep w (closing_step worker index) outcomes.No w
  not_closing worker index h =
      not_possible sites routes epochs workers (closing_step worker index) (busy_or_none worker (Closes index) (closing_sent index (route w index)) h)

  -- a worker without a call becomes a copier
  pub is_sent : (worker place : ℕ) → worker ≡ suc place → slice_get workers place ≡ Some phases.Idle → (index from : ℕ) (key : Box Key) (site : Site)
      → routed (route w) (Copies index key.value) ≡ CopiesFrom index from key.value → slice_get sites from ≡ Some site
      → TakesRunStep w (copying_step worker index key.value) outcomes.Done (world_of sites routes epochs (slice_set workers place (phases.Copying index from key stages.Asked)))
  is_sent worker place number here index from key site goes there =
      let next = phases.Copying index from key stages.Asked in
      subst (λ n. TakesRunStep w (copying_step n index key.value) outcomes.Done (world_of sites routes epochs (slice_set workers place next))) (sym number)
      (subst (λ xs. TakesRunStep w (copying_step (suc place) index key.value) outcomes.Done (world_of xs routes epochs (slice_set workers place next)))
      (set-same sites from site there)
      (step_taken sites routes epochs workers place from phases.Idle next site site (Copies index key.value) (CopiesFrom index from key.value) outcomes.Done goes here refl there refl
      (vnode_itself site, refl, refl)))

  -- or a closer
  pub is_closing : (worker place : ℕ) → worker ≡ suc place → slice_get workers place ≡ Some phases.Idle → (index from : ℕ) (site : Site)
      → routed (route w) (Closes index) ≡ ClosesFrom index from → slice_get sites from ≡ Some site
      → TakesRunStep w (closing_step worker index) outcomes.Done (world_of sites routes epochs (slice_set workers place (phases.Closing index from close_stages.Asked)))
  is_closing worker place number here index from site goes there =
      let next = phases.Closing index from close_stages.Asked in
      subst (λ n. TakesRunStep w (closing_step n index) outcomes.Done (world_of sites routes epochs (slice_set workers place next))) (sym number)
      (subst (λ xs. TakesRunStep w (closing_step (suc place) index) outcomes.Done (world_of xs routes epochs (slice_set workers place next)))
      (set-same sites from site there)
      (step_taken sites routes epochs workers place from phases.Idle next site site (Closes index) (ClosesFrom index from) outcomes.Done goes here refl there refl
      (vnode_itself site, refl, refl)))

-- which site is the fallback's, by where the calls of its partition go
module _ (parts : Parts) (index : ℕ) where
  copied : (key : Key) (o : Option ℕ) → route (world_in parts) index ≡ o
      → (worker : ℕ) → happens (world_in parts) (copying_step worker index key) ≡ acts (world_in parts) worker (option_map_or (λ site. sent_copy index site key) o AsksNowhere)
  copied key o e worker = ap (λ r. acts (world_in parts) worker (option_map_or (λ site. sent_copy index site key) r AsksNowhere)) e

  closed : (o : Option ℕ) → route (world_in parts) index ≡ o
      → (worker : ℕ) → happens (world_in parts) (closing_step worker index) ≡ acts (world_in parts) worker (option_map_or (λ site. sent_close index site) o AsksNowhere)
  closed o e worker = ap (λ r. acts (world_in parts) worker (option_map_or (λ site. sent_close index site) r AsksNowhere)) e

  -- there is no such partition
  pub without_partition : route (world_in parts) index ≡ None → HasNone parts index
  without_partition e = record {
    copies = λ worker key. copied key None e worker ∙ asks_nowhere (world_in parts) worker;
    closes = λ worker. closed None e worker ∙ asks_nowhere (world_in parts) worker;
  }

  -- there is no such site
  pub without_site : (site : ℕ) → route (world_in parts) index ≡ Some site → length parts.sites.items ≤ site → HasNone parts index
  without_site site e past = record {
    copies = λ worker key. copied key (Some site) e worker ∙ copies_by worker key (site == index);
    closes = λ worker. closed (Some site) e worker ∙ closes_by worker (site == index);
  }
    where
      copies_by : (worker : ℕ) (key : Key) (b : Bool) → acts (world_in parts) worker (cond b AsksNowhere (CopiesFrom index site key)) ≡ None
      copies_by worker key true = asks_nowhere (world_in parts) worker
      copies_by worker key false = copies_past (world_in parts) index site key (at_none vnode_of parts.sites.items site (slice_get_past parts.sites.items site past)) worker

      closes_by : (worker : ℕ) (b : Bool) → acts (world_in parts) worker (cond b AsksNowhere (ClosesFrom index site)) ≡ None
      closes_by worker true = asks_nowhere (world_in parts) worker
      closes_by worker false = closes_past (world_in parts) index site (at_none vnode_of parts.sites.items site (slice_get_past parts.sites.items site past)) worker

  -- it is the one that the calls go to
  pub from_there : (site : ℕ) → route (world_in parts) index ≡ Some site → (site == index) ≡ false → site < length parts.sites.items
      → HasFallbackSite parts index (Some site)
  from_there site e other below = record {
    copies = λ key. ap (λ r. option_map_or (λ site. sent_copy index site key) r AsksNowhere) e ∙ ap (λ b. cond b AsksNowhere (CopiesFrom index site key)) other;
    closes = ap (λ r. option_map_or (λ site. sent_close index site) r AsksNowhere) e ∙ ap (λ b. cond b AsksNowhere (ClosesFrom index site)) other;
    there = below;
  }
