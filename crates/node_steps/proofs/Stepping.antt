-- From a turn of running values at their places to the step of the world that they are.
use Rattle.std.proofs.Common.{◌≡◌, ℕ, suc, Bool, true, false, cond, not, ◌&&◌, List, [], ◌∷◌, map, refl, sym, ◌∙◌, ap, subst}
use Rattle.std.specs.Prelude.{◌==◌, Option, Some, None, Result as OkOrErr, Ok, Err, IfOk, option_map, option_and_then, slice_get, slice_set, MatchOption}
use Rattle.std.specs.Option.{option_map_or}
use Rattle.riak_msgs.specs.declared.Key.{Key}
use Rattle.riak_msgs.specs.Contents.{Content}
use Rattle.sibling_register.specs.Answers.{RegisterAsk}
use Rattle.actor_epoch.specs.Given.{Context}
use Rattle.node_steps.specs.declared.outcome.Outcome.{Outcome as Returned}
use Rattle.node_steps.specs.declared.outcome.Outcome.TheVariants as outcomes
use Rattle.node_steps.specs.declared.phase.Phase.{Phase as RunPhase}
use Rattle.node_steps.specs.declared.phase.Phase.TheVariants as phases
use Rattle.node_steps.specs.declared.site.Site.{Site}
use Rattle.node_steps.specs.declared.step.Act.{Act}
use Rattle.node_steps.specs.declared.step.Act.TheVariants as acts
use Rattle.node_steps.specs.World.{Phase, Idle, Asked, Reading, Holding, Done, Turned, Copying, Closing, nothing_brought, SiteVnode, Worker, World, route, seen_at, brought_by}
use Rattle.node_steps.specs.Steps.{Action, Asks, AsksNowhere, CopiesFrom, ClosesFrom, is_reap, sent, sent_copy, sent_close, Enters, Step, By, Outcome, NotPossible, WorkerTurn, turn_of, routed, site_of, turned, does, closes, acts as acts_in, happens}
use Rattle.node_steps.specs.Erased.{erase, erase_vnode, erase_worker}
use Rattle.node_steps.specs.Returned.{returned}
use Rattle.node_steps.specs.Running.{phase_of, vnode_of, worker_of, world_of, Turns}
use Rattle.node_steps.specs.Asked.{action_of}
use Rattle.node_steps.specs.Parts.{IsBusy, TakesRunStep}
use Rattle.node_steps.proofs.Mapped.{at_some, map-set, set-same, turn_erased}
use Rattle.node_steps.proofs.Looking.{vnode_itself}

pub vnodes_itself : (sites : List Site) → map vnode_of sites ≡ map erase_vnode (map vnode_of sites)
vnodes_itself [] = refl
vnodes_itself (site ∷ sites) = let one = vnode_itself site in let rest = vnodes_itself sites in λ i. one i ∷ rest i

pub workers_itself : (workers : List RunPhase) → map worker_of workers ≡ map erase_worker (map worker_of workers)
workers_itself [] = refl
workers_itself (phase ∷ workers) = ap (λ rest. worker_of phase ∷ rest) (workers_itself workers)

-- what is kept of a world is all that it is
pub world_itself : (sites : List Site) (routes epochs : List ℕ) (workers : List RunPhase) → world_of sites routes epochs workers ≡ erase (world_of sites routes epochs workers)
world_itself sites routes epochs workers =
    let vnodes = vnodes_itself sites in let phases = workers_itself workers in
    λ i. record { vnodes = vnodes i; routes = routes; epochs = epochs; diversions = []; workers = phases i }

-- a step that isn't possible changes nothing
pub not_possible : (sites : List Site) (routes epochs : List ℕ) (workers : List RunPhase) (step : Step) → happens (world_of sites routes epochs workers) step ≡ None
    → TakesRunStep (world_of sites routes epochs workers) step outcomes.No (world_of sites routes epochs workers)
not_possible sites routes epochs workers step h =
    let w = world_of sites routes epochs workers in
    record {
      returns_is = sym (ap (λ o. returned (option_map_or (λ (r : World × Outcome). r.1) o NotPossible)) h);
      world_is = world_itself sites routes epochs workers ∙ sym (ap (λ o. erase (option_map_or (λ (r : World × Outcome). r.0) o w)) h);
    }

-- a worker's phase that is put back
pub phase_back : (workers : List RunPhase) (place : ℕ) (phase next : RunPhase) → slice_get workers place ≡ Some phase → phase_of next ≡ phase_of phase
    → map worker_of (slice_set workers place next) ≡ map worker_of workers
phase_back workers place phase next here d =
    map-set worker_of workers place next ∙ ap (λ q. slice_set (map worker_of workers) place (record { phase = q; seen = [] })) d
    ∙ set-same (map worker_of workers) place (worker_of phase) (at_some worker_of workers place phase here)

-- and a vnode
pub vnode_back : (sites : List Site) (index : ℕ) (site new : Site) → slice_get sites index ≡ Some site → vnode_of new ≡ vnode_of site
    → map vnode_of (slice_set sites index new) ≡ map vnode_of sites
vnode_back sites index site new there e =
    map-set vnode_of sites index new ∙ ap (λ v. slice_set (map vnode_of sites) index v) e
    ∙ set-same (map vnode_of sites) index (vnode_of site) (at_some vnode_of sites index site there)

abbrev Result : Type 0
Result = World × Outcome

-- the world after a turn, and what comes of it
abbrev pub result_at : World → (place index : ℕ) → Worker → WorkerTurn → Result
result_at world place index worker turn = (turned world place index worker turn, turn.outcome)

-- what comes of a worker's action at one site, its call sent there
abbrev pub Steps : World → Action → ℕ → Worker → Option Result
Steps world action place worker =
    option_and_then (λ index. option_and_then (λ vnode. option_map (result_at world place index worker)
    (turn_of (seen_at worker.seen index) (brought_by world worker) vnode action worker.phase)) (slice_get world.vnodes index)) (site_of action worker.phase)

-- what comes of it, be it a closer's at two
abbrev pub Acts : World → Action → ℕ → Worker → Option Result
Acts world action place worker =
    option_map_or (λ (came : Result). Some came) (closes world (suc place) worker action worker.phase) (Steps world action place worker)

pub no_worker : (world : World) (place : ℕ) (action : Action) → slice_get world.workers place ≡ None → acts_in world (suc place) action ≡ None
no_worker world place action h =
    ap (λ o. option_and_then (λ worker. option_map_or (λ (came : Result). Some came) (closes world (suc place) worker action worker.phase) (does world (suc place) action)) o) h

pub at_worker : (world : World) (place : ℕ) (action : Action) (worker : Worker) → slice_get world.workers place ≡ Some worker
    → acts_in world (suc place) action ≡ Acts world action place worker
at_worker world place action worker h =
    ap (λ o. option_and_then (λ worker. option_map_or (λ (came : Result). Some came) (closes world (suc place) worker action worker.phase) (does world (suc place) action)) o) h
    ∙ ap (λ o. option_map_or (λ (came : Result). Some came) (closes world (suc place) worker action worker.phase) (option_and_then (Steps world action place) o)) h

-- where it is about one site
pub at_one : (world : World) (place : ℕ) (action : Action) (worker : Worker) → slice_get world.workers place ≡ Some worker
    → closes world (suc place) worker action worker.phase ≡ None → acts_in world (suc place) action ≡ Steps world action place worker
at_one world place action worker h one =
    at_worker world place action worker h ∙ ap (λ o. option_map_or (λ (came : Result). Some came) o (Steps world action place worker)) one

module _ (sites : List Site) (routes epochs : List ℕ) (workers : List RunPhase) (place index : ℕ) (phase next : RunPhase) (site new : Site) (asked action : Action) (returns : Returned)
    (sent : routed (route (world_of sites routes epochs workers)) asked ≡ action) (here : slice_get workers place ≡ Some phase)
    (at : site_of action (phase_of phase) ≡ Some index) (there : slice_get sites index ≡ Some site)
    (one : closes (world_of sites routes epochs workers) (suc place) (worker_of phase) action (phase_of phase) ≡ None) where
  abbrev w : World
  w = world_of sites routes epochs workers

  abbrev step : Step
  step = By (suc place) asked

  abbrev later : World
  later = world_of (slice_set sites index new) routes epochs (slice_set workers place next)

  abbrev result : WorkerTurn → Result
  result turn = (turned w place index (worker_of phase) turn, turn.outcome)

  -- the world after, by its parts
  later_is : (vnode : SiteVnode) (p : Phase) → vnode_of new ≡ vnode → phase_of next ≡ p
      → later ≡ record {
        vnodes = slice_set (map erase_vnode w.vnodes) index vnode;
        routes = w.routes;
        epochs = w.epochs;
        diversions = [];
        workers = slice_set (map erase_worker w.workers) place (record { phase = p; seen = [] });
      }
  later_is vnode p e d =
      let vnodes = map-set vnode_of sites index new ∙ ap (λ v. slice_set (map vnode_of sites) index v) e ∙ ap (λ vs. slice_set vs index vnode) (vnodes_itself sites) in
      let phases = map-set worker_of workers place next ∙ ap (λ q. slice_set (map worker_of workers) place (record { phase = q; seen = [] })) d
      ∙ ap (λ xs. slice_set xs place (record { phase = p; seen = [] })) (workers_itself workers) in
      λ i. record { vnodes = vnodes i; routes = routes; epochs = epochs; diversions = []; workers = phases i }

  stayed : vnode_of new ≡ vnode_of site → phase_of next ≡ phase_of phase → later ≡ erase w
  stayed e d =
      let vnodes = vnode_back sites index site new there e in
      let phases = phase_back workers place phase next here d in
      (λ i. record { vnodes = vnodes i; routes = routes; epochs = epochs; diversions = []; workers = phases i }) ∙ world_itself sites routes epochs workers

  by_turns : (t : Option WorkerTurn)
      → MatchOption t ((vnode_of new ≡ vnode_of site) × (phase_of next ≡ phase_of phase) × (returns ≡ outcomes.No))
      (λ turn. (vnode_of new ≡ erase_vnode turn.vnode) × (phase_of next ≡ turn.phase) × (returns ≡ returned turn.outcome))
      → (returns ≡ returned (option_map_or (λ (r : Result). r.1) (option_map result t) NotPossible)) × (later ≡ erase (option_map_or (λ (r : Result). r.0) (option_map result t) w))
  by_turns None h = (h.2, stayed h.0 h.1)
  by_turns (Some t) h = (h.2, later_is (erase_vnode t.vnode) t.phase h.0 h.1 ∙ sym (turn_erased w place index (worker_of phase) t))

  happens_is : happens w step ≡ option_map result (turn_of [] nothing_brought (vnode_of site) action (phase_of phase))
  happens_is =
      ap (λ a. acts_in w (suc place) a) sent
      ∙ at_one w place action (worker_of phase) (at_some worker_of workers place phase here) one
      ∙ ap (λ o. option_and_then (λ i. option_and_then (λ v. option_map (result_at w place i (worker_of phase))
      (turn_of [] nothing_brought v action (phase_of phase))) (slice_get w.vnodes i)) o) at
      ∙ ap (λ o. option_and_then (λ v. option_map result (turn_of [] nothing_brought v action (phase_of phase))) o) (at_some vnode_of sites index site there)

  -- a turn that was taken at its places is the step of the world
  pub step_taken : Turns action (vnode_of site) (phase_of phase) (vnode_of new) (phase_of next) returns → TakesRunStep w step returns later
  step_taken turns =
      let both = subst (λ o. (returns ≡ returned (option_map_or (λ (r : Result). r.1) o NotPossible)) × (later ≡ erase (option_map_or (λ (r : Result). r.0) o w))) (sym happens_is)
      (by_turns (turn_of [] nothing_brought (vnode_of site) action (phase_of phase)) turns) in
      record { returns_is = both.0; world_is = both.1 }

-- only a call is sent anywhere
pub sent_itself : (route : ℕ → Option ℕ) (act : Act) → routed route (action_of act) ≡ action_of act
sent_itself route acts.Enter = refl
sent_itself route acts.Leave = refl
sent_itself route acts.Mark = refl
sent_itself route acts.Unmark = refl
sent_itself route acts.Take = refl
sent_itself route acts.Put = refl
sent_itself route acts.Look = refl
sent_itself route acts.Publish = refl

-- a worker that has a call is about its site, whatever it does
pub same_site : (act : Act) (phase : Phase) → site_of (action_of act) phase ≡ site_of Enters phase
same_site acts.Enter phase = refl
same_site acts.Leave Idle = refl
same_site acts.Leave (Asked index ask) = refl
same_site acts.Leave (Reading index get) = refl
same_site acts.Leave (Holding index ask hand plan) = refl
same_site acts.Leave (Done index hand) = refl
same_site acts.Leave (Turned own site ask hand) = refl
same_site acts.Leave (Copying own site key stage) = refl
same_site acts.Leave (Closing own site stage) = refl
same_site acts.Mark Idle = refl
same_site acts.Mark (Asked index ask) = refl
same_site acts.Mark (Reading index get) = refl
same_site acts.Mark (Holding index ask hand plan) = refl
same_site acts.Mark (Done index hand) = refl
same_site acts.Mark (Turned own site ask hand) = refl
same_site acts.Mark (Copying own site key stage) = refl
same_site acts.Mark (Closing own site stage) = refl
same_site acts.Unmark Idle = refl
same_site acts.Unmark (Asked index ask) = refl
same_site acts.Unmark (Reading index get) = refl
same_site acts.Unmark (Holding index ask hand plan) = refl
same_site acts.Unmark (Done index hand) = refl
same_site acts.Unmark (Turned own site ask hand) = refl
same_site acts.Unmark (Copying own site key stage) = refl
same_site acts.Unmark (Closing own site stage) = refl
same_site acts.Take Idle = refl
same_site acts.Take (Asked index ask) = refl
same_site acts.Take (Reading index get) = refl
same_site acts.Take (Holding index ask hand plan) = refl
same_site acts.Take (Done index hand) = refl
same_site acts.Take (Turned own site ask hand) = refl
same_site acts.Take (Copying own site key stage) = refl
same_site acts.Take (Closing own site stage) = refl
same_site acts.Put Idle = refl
same_site acts.Put (Asked index ask) = refl
same_site acts.Put (Reading index get) = refl
same_site acts.Put (Holding index ask hand plan) = refl
same_site acts.Put (Done index hand) = refl
same_site acts.Put (Turned own site ask hand) = refl
same_site acts.Put (Copying own site key stage) = refl
same_site acts.Put (Closing own site stage) = refl
same_site acts.Look Idle = refl
same_site acts.Look (Asked index ask) = refl
same_site acts.Look (Reading index get) = refl
same_site acts.Look (Holding index ask hand plan) = refl
same_site acts.Look (Done index hand) = refl
same_site acts.Look (Turned own site ask hand) = refl
same_site acts.Look (Copying own site key stage) = refl
same_site acts.Look (Closing own site stage) = refl
same_site acts.Publish Idle = refl
same_site acts.Publish (Asked index ask) = refl
same_site acts.Publish (Reading index get) = refl
same_site acts.Publish (Holding index ask hand plan) = refl
same_site acts.Publish (Done index hand) = refl
same_site acts.Publish (Turned own site ask hand) = refl
same_site acts.Publish (Copying own site key stage) = refl
same_site acts.Publish (Closing own site stage) = refl

-- a worker that has no call and does nothing for one site
pub no_call : (world : World) (place : ℕ) (action : Action) (worker : Worker) → slice_get world.workers place ≡ Some worker → closes world (suc place) worker action worker.phase ≡ None
    → site_of action worker.phase ≡ None → acts_in world (suc place) action ≡ None
no_call world place action worker h one e =
    at_one world place action worker h one
    ∙ ap (λ o. option_and_then (λ index. option_and_then (λ vnode. option_map (result_at world place index worker)
    (turn_of (seen_at worker.seen index) (brought_by world worker) vnode action worker.phase)) (slice_get world.vnodes index)) o) e

pub no_vnode : (world : World) (place index : ℕ) (action : Action) (worker : Worker) → slice_get world.workers place ≡ Some worker → closes world (suc place) worker action worker.phase ≡ None
    → site_of action worker.phase ≡ Some index → slice_get world.vnodes index ≡ None → acts_in world (suc place) action ≡ None
no_vnode world place index action worker h one e n =
    at_one world place action worker h one
    ∙ ap (λ o. option_and_then (λ i. option_and_then (λ vnode. option_map (result_at world place i worker)
    (turn_of (seen_at worker.seen i) (brought_by world worker) vnode action worker.phase)) (slice_get world.vnodes i)) o) e
    ∙ ap (λ o. option_and_then (λ vnode. option_map (result_at world place index worker)
    (turn_of (seen_at worker.seen index) (brought_by world worker) vnode action worker.phase)) o) n

-- a worker that has a call gets no other
abbrev pub NoTurn : World → Action → Worker → Type 0
NoTurn world action worker = (index : ℕ) (vnode : SiteVnode) → turn_of (seen_at worker.seen index) (brought_by world worker) vnode action worker.phase ≡ None

pub no_turn : (world : World) (place : ℕ) (action : Action) (worker : Worker) → NoTurn world action worker → Steps world action place worker ≡ None
no_turn world place action worker none = by_index (site_of action worker.phase)
  where
    by_vnode : (index : ℕ) (o : Option SiteVnode) → option_and_then (λ vnode. option_map (result_at world place index worker)
        (turn_of (seen_at worker.seen index) (brought_by world worker) vnode action worker.phase)) o ≡ None
    by_vnode index None = refl
    by_vnode index (Some vnode) = ap (λ t. option_map (result_at world place index worker) t) (none index vnode)

    by_index : (o : Option ℕ) → option_and_then (λ index. option_and_then (λ vnode. option_map (result_at world place index worker)
        (turn_of (seen_at worker.seen index) (brought_by world worker) vnode action worker.phase)) (slice_get world.vnodes index)) o ≡ None
    by_index None = refl
    by_index (Some index) = by_vnode index (slice_get world.vnodes index)

-- an ask, a copy or a close that is sent
abbrev pub IsAsking : Action → Type 0
IsAsking (Asks site ask) = Unit {0}
IsAsking AsksNowhere = Unit {0}
IsAsking (CopiesFrom own site key) = Unit {0}
IsAsking (ClosesFrom own site) = Unit {0}
IsAsking action = ⊥

pub asking_sent : (index : ℕ) (ask : RegisterAsk Content Context) (o : Option ℕ) → IsAsking (option_map_or (λ site. sent index site ask) o AsksNowhere)
asking_sent index ask None = tt
asking_sent index ask (Some site) = by (not (site == index) && is_reap ask)
  where
    by : (b : Bool) → IsAsking (cond b AsksNowhere (Asks site ask))
    by true = tt
    by false = tt

pub copying_sent : (index : ℕ) (key : Key) (o : Option ℕ) → IsAsking (option_map_or (λ site. sent_copy index site key) o AsksNowhere)
copying_sent index key None = tt
copying_sent index key (Some site) = by (site == index)
  where
    by : (b : Bool) → IsAsking (cond b AsksNowhere (CopiesFrom index site key))
    by true = tt
    by false = tt

pub closing_sent : (index : ℕ) (o : Option ℕ) → IsAsking (option_map_or (λ site. sent_close index site) o AsksNowhere)
closing_sent index None = tt
closing_sent index (Some site) = by (site == index)
  where
    by : (b : Bool) → IsAsking (cond b AsksNowhere (ClosesFrom index site))
    by true = tt
    by false = tt

-- it is about one site, whatever the worker is about
pub asking_one : (world : World) (number : ℕ) (worker : Worker) (action : Action) (phase : Phase) → IsAsking action → closes world number worker action phase ≡ None
asking_one world number worker (Asks site ask) phase asking = refl
asking_one world number worker AsksNowhere phase asking = refl
asking_one world number worker (CopiesFrom own site key) phase asking = refl
asking_one world number worker (ClosesFrom own site) phase asking = refl
asking_one world number worker action phase asking = absurd asking

busy_turn : (world : World) (action : Action) (phase : RunPhase) → IsBusy phase → IsAsking action → NoTurn world action (worker_of phase)
busy_turn world (Asks to ask) phases.Idle busy asking = absurd busy
busy_turn world (Asks to ask) (phases.Asked other call) busy asking = λ i v. refl
busy_turn world (Asks to ask) (phases.Reading other get) busy asking = λ i v. refl
busy_turn world (Asks to ask) (phases.Holding other call hand) busy asking = λ i v. refl
busy_turn world (Asks to ask) (phases.Done other hand) busy asking = λ i v. refl
busy_turn world (Asks to ask) (phases.Turned own other call hand) busy asking = λ i v. refl
busy_turn world (Asks to ask) (phases.Copying own from other stage) busy asking = λ i v. refl
busy_turn world (Asks to ask) (phases.Closing own from stage) busy asking = λ i v. refl
busy_turn world (CopiesFrom to at key) phases.Idle busy asking = absurd busy
busy_turn world (CopiesFrom to at key) (phases.Asked other call) busy asking = λ i v. refl
busy_turn world (CopiesFrom to at key) (phases.Reading other get) busy asking = λ i v. refl
busy_turn world (CopiesFrom to at key) (phases.Holding other call hand) busy asking = λ i v. refl
busy_turn world (CopiesFrom to at key) (phases.Done other hand) busy asking = λ i v. refl
busy_turn world (CopiesFrom to at key) (phases.Turned own other call hand) busy asking = λ i v. refl
busy_turn world (CopiesFrom to at key) (phases.Copying own from other stage) busy asking = λ i v. refl
busy_turn world (CopiesFrom to at key) (phases.Closing own from stage) busy asking = λ i v. refl
busy_turn world (ClosesFrom to at) phases.Idle busy asking = absurd busy
busy_turn world (ClosesFrom to at) (phases.Asked other call) busy asking = λ i v. refl
busy_turn world (ClosesFrom to at) (phases.Reading other get) busy asking = λ i v. refl
busy_turn world (ClosesFrom to at) (phases.Holding other call hand) busy asking = λ i v. refl
busy_turn world (ClosesFrom to at) (phases.Done other hand) busy asking = λ i v. refl
busy_turn world (ClosesFrom to at) (phases.Turned own other call hand) busy asking = λ i v. refl
busy_turn world (ClosesFrom to at) (phases.Copying own from other stage) busy asking = λ i v. refl
busy_turn world (ClosesFrom to at) (phases.Closing own from stage) busy asking = λ i v. refl
busy_turn world AsksNowhere phases.Idle busy asking = absurd busy
busy_turn world AsksNowhere (phases.Asked other call) busy asking = λ i v. refl
busy_turn world AsksNowhere (phases.Reading other get) busy asking = λ i v. refl
busy_turn world AsksNowhere (phases.Holding other call hand) busy asking = λ i v. refl
busy_turn world AsksNowhere (phases.Done other hand) busy asking = λ i v. refl
busy_turn world AsksNowhere (phases.Turned own other call hand) busy asking = λ i v. refl
busy_turn world AsksNowhere (phases.Copying own from other stage) busy asking = λ i v. refl
busy_turn world AsksNowhere (phases.Closing own from stage) busy asking = λ i v. refl
busy_turn world action phase busy asking = absurd asking

pub is_busy : (sites : List Site) (routes epochs : List ℕ) (workers : List RunPhase) (place : ℕ) (asked : Action) (phase : RunPhase)
    → slice_get workers place ≡ Some phase → IsBusy phase → IsAsking (routed (route (world_of sites routes epochs workers)) asked)
    → happens (world_of sites routes epochs workers) (By (suc place) asked) ≡ None
is_busy sites routes epochs workers place asked phase here busy asking =
    let world = world_of sites routes epochs workers in
    let action = routed (route world) asked in
    at_one world place action (worker_of phase) (at_some worker_of workers place phase here) (asking_one world (suc place) (worker_of phase) action (phase_of phase) asking)
    ∙ no_turn world place action (worker_of phase) (busy_turn world action phase busy asking)

-- what holds of a result where it is there
pub ok_then : {X E : Type 0} {P Q : X → Type 0} (r : OkOrErr X E) → IfOk r P → ((x : X) → P x → Q x) → IfOk r Q
ok_then (Ok x) h f = f x h
ok_then (Err e) h f = tt
