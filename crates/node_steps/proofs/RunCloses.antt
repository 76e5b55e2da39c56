-- A closer's steps of the running world that are about two sites, and which steps are about one.
use Rattle.std.proofs.Common.{◌≡◌, ℕ, suc, true, List, [], ◌∷◌, map, refl, sym, ◌∙◌, ap, subst}
use Rattle.std.specs.Prelude.{pred, Option, Some, None, MatchOption, is_some, option_map, option_and_then, slice_get, slice_set}
use Rattle.std.specs.Option.{option_map_or}
use Rattle.std.proofs.lemmas.Option.{slice_get-map}
use Rattle.riak_msgs.specs.Contents.{Content}
use Rattle.vnode_machine.specs.Copying.{apply_close}
use Rattle.vnode_machine.specs.Machine.{State}
use Rattle.copy_laws.specs.Copies.{Closed}
use Rattle.node_steps.specs.declared.outcome.Outcome.{Outcome as Returned}
use Rattle.node_steps.specs.declared.outcome.Outcome.TheVariants as outcomes
use Rattle.node_steps.specs.declared.phase.Phase.{Phase as RunPhase}
use Rattle.node_steps.specs.declared.site.Site.{Site}
use Rattle.node_steps.specs.declared.step.Act.{Act}
use Rattle.node_steps.specs.declared.step.Act.TheVariants as acts
use Rattle.node_steps.specs.World.{CloseInside, CloseLooked, CloseDone, Phase, Idle, Asked, Reading, Holding, Done, Turned, Copying, Closing, SiteVnode, Worker, World}
use Rattle.node_steps.specs.Steps.{Enters, Looks, Publishes, By, Outcome, NotPossible, Happened, left_in, judged, judged_by, closed_by, closes, seeing, site_of, happens}
use Rattle.node_steps.specs.Erased.{erase, erase_vnode, erase_worker}
use Rattle.node_steps.specs.Asked.{action_of}
use Rattle.node_steps.specs.Returned.{returned}
use Rattle.node_steps.specs.Running.{phase_of, vnode_of, worker_of, world_of}
use Rattle.node_steps.specs.Parts.{TakesRunStep}
use Rattle.node_steps.specs.Closings.{looked}
use Rattle.node_steps.proofs.Mapped.{at_some, map-set, set-same}
use Rattle.node_steps.proofs.Stepping.{not_possible, phase_back, vnodes_itself, workers_itself, at_worker, no_turn, Steps}

-- a worker without a call or a task does nothing at two sites
pub idle_closes : (w : World) (number : ℕ) (worker : Worker) (act : Act) (phase : Phase) → site_of Enters phase ≡ None → closes w number worker (action_of act) phase ≡ None
idle_closes w number worker act Idle e = by act
  where
    by : (act : Act) → closes w number worker (action_of act) Idle ≡ None
    by acts.Enter = refl
    by acts.Leave = refl
    by acts.Mark = refl
    by acts.Unmark = refl
    by acts.Take = refl
    by acts.Put = refl
    by acts.Look = refl
    by acts.Publish = refl
idle_closes w number worker act (Asked site ask) e = cc
idle_closes w number worker act (Reading site get) e = cc
idle_closes w number worker act (Holding site ask hand plan) e = cc
idle_closes w number worker act (Done site hand) e = cc
idle_closes w number worker act (Turned own site ask hand) e = cc
idle_closes w number worker act (Copying own site key stage) e = cc
idle_closes w number worker act (Closing own site stage) e = cc

-- what comes of a closer's look, by the vnodes at the two sites
abbrev came_of : World → (place own site : ℕ) → Worker → (hand : State Content) → (fallback primary : Option SiteVnode) → Option (World × Outcome)
came_of w place own site worker hand a b =
    option_and_then (λ fallback. option_map (λ primary.
    let came = judged own site hand primary.place (is_some hand.closed) (left_in primary.place hand) in
    (judged_by w place own site worker primary fallback came.0, came.1)) b) a

no_primary : (w : World) (place own site : ℕ) (worker : Worker) (hand : State Content) (fallback : Option SiteVnode) → came_of w place own site worker hand fallback None ≡ None
no_primary w place own site worker hand None = refl
no_primary w place own site worker hand (Some vnode) = refl

-- neither does one whose next site there isn't
pub past_closes : (w : World) (number : ℕ) (worker : Worker) (act : Act) (phase : Phase) (index : ℕ) → site_of Enters phase ≡ Some index → slice_get w.vnodes index ≡ None
    → closes w number worker (action_of act) phase ≡ None
past_closes w number worker acts.Look (Closing own site (CloseInside hand)) index about none =
    let at : own ≡ index = cc in
    ap (λ o. came_of w (pred number) own site worker hand (slice_get w.vnodes site) o) (ap (λ n. slice_get w.vnodes n) at ∙ none)
    ∙ no_primary w (pred number) own site worker hand (slice_get w.vnodes site)
past_closes w number worker acts.Publish (Closing own site (CloseLooked hand count)) index about none =
    let at : site ≡ index = cc in
    ap (λ o. option_map (λ fallback. (closed_by w (pred number) own site worker fallback hand count, Happened)) o) (ap (λ n. slice_get w.vnodes n) at ∙ none)
past_closes w number worker act phase index about none = refl

module _ (sites : List Site) (routes epochs : List ℕ) (workers : List RunPhase) (place : ℕ) (phase next : RunPhase) (returns : Returned)
    (here : slice_get workers place ≡ Some phase) where
  abbrev w : World
  w = world_of sites routes epochs workers

  abbrev me : Worker
  me = worker_of phase

  abbrev Result : Type 0
  Result = World × Outcome

  abbrev with_phase : Phase → World
  with_phase p = record {
    vnodes = map erase_vnode w.vnodes;
    routes = routes;
    epochs = epochs;
    diversions = [];
    workers = slice_set (map erase_worker w.workers) place (record { phase = p; seen = [] });
  }

  phases_are : (p : Phase) → phase_of next ≡ p → map worker_of (slice_set workers place next) ≡ slice_set (map erase_worker w.workers) place (record { phase = p; seen = [] })
  phases_are p e =
      map-set worker_of workers place next ∙ ap (λ q. slice_set (map worker_of workers) place (record { phase = q; seen = [] })) e
      ∙ ap (λ xs. slice_set xs place (record { phase = p; seen = [] })) (workers_itself workers)

  -- the world where this phase alone is another
  later_is : (p : Phase) → phase_of next ≡ p → world_of sites routes epochs (slice_set workers place next) ≡ with_phase p
  later_is p e =
      let vnodes = vnodes_itself sites in
      let phases = phases_are p e in
      λ i. record { vnodes = vnodes i; routes = routes; epochs = epochs; diversions = []; workers = phases i }

  -- a step that isn't possible leaves the phase
  pub stays : (asked : Act) → happens w (By (suc place) (action_of asked)) ≡ None → phase_of next ≡ phase_of phase → returns ≡ outcomes.No
      → TakesRunStep w (By (suc place) (action_of asked)) returns (world_of sites routes epochs (slice_set workers place next))
  stays asked h e nothing =
      let phases = phase_back workers place phase next here e in
      subst (λ (r : Returned). TakesRunStep w (By (suc place) (action_of asked)) r (world_of sites routes epochs (slice_set workers place next))) (sym nothing)
      (subst (λ (ws : List Worker). TakesRunStep w (By (suc place) (action_of asked)) outcomes.No (record { vnodes = map vnode_of sites; routes = routes; epochs = epochs; diversions = []; workers = ws })) (sym phases)
      (not_possible sites routes epochs workers (By (suc place) (action_of asked)) h))

  -- a step that happened
  happened : (asked : Act) (r : Result) (later : World) → happens w (By (suc place) (action_of asked)) ≡ Some r → returns ≡ returned r.1 → later ≡ erase r.0
      → TakesRunStep w (By (suc place) (action_of asked)) returns later
  happened asked r later h e l = record {
    returns_is = e ∙ sym (ap (λ o. returned (option_map_or (λ (q : Result). q.1) o NotPossible)) h);
    world_is = l ∙ sym (ap (λ o. erase (option_map_or (λ (q : Result). q.0) o w)) h);
  }

  module _ (own site : ℕ) (hand : State Content) where
    abbrev inside : Phase
    inside = Closing own site (CloseInside hand)

    abbrev judged_at : SiteVnode → SiteVnode → Result
    judged_at fallback primary =
        let came = judged own site hand primary.place (is_some hand.closed) (left_in primary.place hand) in
        (judged_by w place own site me primary fallback came.0, came.1)

    abbrev came : Option SiteVnode → Option SiteVnode → Option Result
    came a b = came_of w place own site me hand a b

    looks_is : phase_of phase ≡ inside → happens w (By (suc place) Looks) ≡ option_map_or (λ (r : Result). Some r) (came (slice_get w.vnodes site) (slice_get w.vnodes own)) None
    looks_is is =
        at_worker w place Looks me (at_some worker_of workers place phase here)
        ∙ ap (λ p. option_map_or (λ (r : Result). Some r) (closes w (suc place) me Looks p) (Steps w Looks place (record { phase = p; seen = [] }))) is
        ∙ ap (λ o. option_map_or (λ (r : Result). Some r) (came (slice_get w.vnodes site) (slice_get w.vnodes own)) o)
        (no_turn w place Looks (record { phase = inside; seen = [] }) (λ index vnode. refl))

    sites_at : (i : ℕ) → slice_get w.vnodes i ≡ option_map vnode_of (slice_get sites i)
    sites_at i = slice_get-map vnode_of sites i

    abbrev looked_by : Option Site → Option Site → Option (Phase × Outcome)
    looked_by a b =
        option_and_then (λ fallback. option_map (λ primary.
        judged own site hand (vnode_of primary).place (is_some hand.closed) (left_in (vnode_of primary).place hand)) b) a

    abbrev Comes : Option (Phase × Outcome) → Type 0
    Comes o =
        MatchOption o
        ((phase_of next ≡ inside) × (returns ≡ outcomes.No))
        (λ came. (phase_of next ≡ came.0) × (returns ≡ returned came.1))

    abbrev later : World
    later = world_of sites routes epochs (slice_set workers place next)

    -- a closer's look at both
    pub judges : phase_of phase ≡ inside → Comes (looked sites own site hand) → TakesRunStep w (By (suc place) Looks) returns later
    judges is comes = by (slice_get sites site) (slice_get sites own) refl refl
        (looks_is is ∙ (λ i. option_map_or (λ (r : Result). Some r) (came (sites_at site i) (sites_at own i)) None)) comes
      where
        erased : (primary fallback : SiteVnode) (p : Phase) → erase (judged_by w place own site me primary fallback p) ≡ with_phase p
        erased primary fallback p =
            let seen = seeing (seeing me.seen site fallback.log) own primary.log in
            let phases = map-set erase_worker w.workers place (record { phase = p; seen = seen }) in
            λ i. record { vnodes = map erase_vnode w.vnodes; routes = routes; epochs = epochs; diversions = []; workers = phases i }

        by : (a b : Option Site) → slice_get sites site ≡ a → slice_get sites own ≡ b
            → happens w (By (suc place) Looks) ≡ option_map_or (λ (r : Result). Some r) (came (option_map vnode_of (slice_get sites site)) (option_map vnode_of (slice_get sites own))) None
            → Comes (looked_by (slice_get sites site) (slice_get sites own)) → TakesRunStep w (By (suc place) Looks) returns later
        by None b e f h c =
            let kept = subst (λ o. Comes (looked_by o (slice_get sites own))) e c in
            stays acts.Look (h ∙ ap (λ o. option_map_or (λ (r : Result). Some r) (came (option_map vnode_of o) (option_map vnode_of (slice_get sites own))) None) e) (kept.0 ∙ sym is) kept.1
        by (Some fallback) None e f h c =
            let kept = subst (λ o. Comes o) (λ i. looked_by (e i) (f i)) c in
            stays acts.Look (h ∙ (λ i. option_map_or (λ (r : Result). Some r) (came (option_map vnode_of (e i)) (option_map vnode_of (f i))) None)) (kept.0 ∙ sym is) kept.1
        by (Some fallback) (Some primary) e f h c =
            let yes = subst (λ o. Comes o) (λ i. looked_by (e i) (f i)) c in
            let r = judged_at (vnode_of fallback) (vnode_of primary) in
            let said = judged own site hand (vnode_of primary).place (is_some hand.closed) (left_in (vnode_of primary).place hand) in
            happened acts.Look r later (h ∙ (λ i. option_map_or (λ (r : Result). Some r) (came (option_map vnode_of (e i)) (option_map vnode_of (f i))) None)) yes.1
            (later_is said.0 yes.0 ∙ sym (erased (vnode_of primary) (vnode_of fallback) said.0))

    -- its publish
    module _ (count : ℕ) where
      abbrev planned : Phase
      planned = Closing own site (CloseLooked hand count)

      abbrev closed : Phase
      closed = Closing own site (CloseDone (apply_close hand count) true)

      abbrev both : List SiteVnode → List Worker → World
      both vs ws = record { vnodes = vs; routes = slice_set routes own own; epochs = slice_set epochs own hand.last_epoch; diversions = []; workers = ws }

      abbrev closed_now : World
      closed_now = world_of sites (slice_set routes own own) (slice_set epochs own hand.last_epoch) (slice_set workers place next)

      publish_is : phase_of phase ≡ planned → (fallback : Site) → slice_get sites site ≡ Some fallback
          → happens w (By (suc place) Publishes) ≡ Some (closed_by w place own site me (vnode_of fallback) hand count, Happened)
      publish_is is fallback there =
          at_worker w place Publishes me (at_some worker_of workers place phase here)
          ∙ ap (λ p. option_map_or (λ (r : Result). Some r) (closes w (suc place) me Publishes p) (Steps w Publishes place (record { phase = p; seen = [] }))) is
          ∙ ap (λ o. option_map_or (λ (r : Result). Some r)
          (option_map (λ f. (closed_by w place own site me f hand count, Happened)) o) (Steps w Publishes place (record { phase = planned; seen = [] }))) (at_some vnode_of sites site fallback there)

      pub publishes : phase_of phase ≡ planned → (fallback : Site) → slice_get sites site ≡ Some fallback → phase_of next ≡ closed → returns ≡ outcomes.Done
          → TakesRunStep w (By (suc place) Publishes) returns closed_now
      publishes is fallback there then done =
          happened acts.Publish (closed_by w place own site me (vnode_of fallback) hand count, Happened) closed_now (publish_is is fallback there) done
          (by ∙ sym erased)
        where
          by : closed_now ≡ both (map erase_vnode w.vnodes) (slice_set (map erase_worker w.workers) place (record { phase = closed; seen = [] }))
          by =
              let vnodes = vnodes_itself sites in
              let phases = phases_are closed then in
              λ i. both (vnodes i) (phases i)

          -- its log has one entry more, which nobody looks at
          same_vnodes : map erase_vnode (slice_set w.vnodes site (record (vnode_of fallback) { log = Closed count ∷ (vnode_of fallback).log })) ≡ map erase_vnode w.vnodes
          same_vnodes =
              map-set erase_vnode w.vnodes site (record (vnode_of fallback) { log = Closed count ∷ (vnode_of fallback).log })
              ∙ set-same (map erase_vnode w.vnodes) site (erase_vnode (vnode_of fallback))
              (at_some erase_vnode w.vnodes site (vnode_of fallback) (at_some vnode_of sites site fallback there))

          erased : erase (closed_by w place own site me (vnode_of fallback) hand count)
              ≡ both (map erase_vnode w.vnodes) (slice_set (map erase_worker w.workers) place (record { phase = closed; seen = [] }))
          erased =
              let vnodes = same_vnodes in
              let phases = map-set erase_worker w.workers place (record { phase = closed; seen = seeing me.seen site (Closed count ∷ (vnode_of fallback).log) }) in
              λ i. both (vnodes i) (phases i)
