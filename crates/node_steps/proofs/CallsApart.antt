-- Calls of a partition that is diverted are at its fallback, which is open, and nothing was copied but to such a partition, or one that
-- was: so it is before any step, and after a step at one site.
use Rattle.std.proofs.Common.{◌≡◌, ◌≢◌, ◌⊎◌, inl, inr, ℕ, ◌<◌, true, false, not, ◌&&◌, [], ◌∷◌, length, refl, sym, ◌∙◌, ap, subst}
use Rattle.std.proofs.Math.Nat.{zero-add}
use Rattle.std.proofs.lemmas.Option.{none-some}
use Rattle.std.proofs.lemmas.Bool.{false≢true}
use Rattle.std.specs.Prelude.{◌==◌, pred, Option, Some, None, slice_get}
use Rattle.std.specs.Option.{option_map_or}
use Rattle.riak_msgs.specs.Contents.{Content}
use Rattle.vnode_machine.specs.Machine.{State}
use Rattle.sibling_register.specs.Answers.{RegisterAsk}
use Rattle.actor_epoch.specs.Given.{Context}
use Rattle.copy_laws.specs.Copies.{Command}
use Rattle.copy_laws.specs.Joining.{Log}
use Rattle.node_steps.specs.World.{Phase, Turned, SiteVnode, Worker, World, CommandsAlone, Call, fresh_worker, opening_world, opening_vnodes, route, own_at, log_at, call_of, brought_by}
use Rattle.node_steps.specs.Steps.{Action, Asks, Leaves, Puts, is_reap, Outcome, NotPossible, Happened, Replied, NotHeld, StuckThere, CopiedBack, Elsewhere, LeftThere, seeing, turned}
use Rattle.node_steps.specs.Contexts.{call_by}
use Rattle.node_steps.specs.Schedules.{Start}
use Rattle.node_steps.specs.Claims.{state_at, HadClose}
use Rattle.node_steps.proofs.Lists.{how_many, set-here, set-there, same_or_other, get-replicate, get-below}
use Rattle.node_steps.proofs.Own.{own_is}
use Rattle.node_steps.proofs.Inside.{reads, holds, state_of, IsOpenAt, false_true}
use Rattle.node_steps.proofs.Coming.{between_in, is_turned, CallIs, Comes}
use Rattle.node_steps.proofs.Kept.{IsOrderly, IsPossible}
use Rattle.node_steps.proofs.FirstWorld.{opened}
use Rattle.node_steps.proofs.Scheduled.{orderly}
use Rattle.node_steps.proofs.CloseSteps.{some_back, set_cases}
use Rattle.node_steps.proofs.Turns.{IsTurn}
use Rattle.node_steps.proofs.Lifting.{here, turn, copied_route, copied_fallback, log_before, log_after, log_elsewhere}

-- what is always true of routes, calls and logs
pub record IsApart (w : World) : Type 0 where
  -- the calls of a partition that is diverted are where it is diverted to
  pub away : (index to : ℕ) → slice_get w.routes index ≡ Some to → to ≢ index
      → (place : ℕ) (worker : Worker) → slice_get w.workers place ≡ Some worker → (call : Call) → call_of worker.phase ≡ Some call
      → (v : SiteVnode) → slice_get w.vnodes call.site ≡ Some v → v.own ≡ index → call.site ≡ to
  -- which isn't closed
  pub clear : (index to : ℕ) → slice_get w.routes index ≡ Some to → to ≢ index → (v : SiteVnode) → slice_get w.vnodes to ≡ Some v → IsOpenAt v.id v.last_epoch v.log
  -- who was turned away is at a closed one
  pub turned_there : (place : ℕ) (worker : Worker) → slice_get w.workers place ≡ Some worker → (own site : ℕ) → is_turned worker.phase ≡ true → between_in worker.phase ≡ Some (own, site)
      → (v : SiteVnode) → slice_get w.vnodes site ≡ Some v → IsOpenAt v.id v.last_epoch v.log → ⊥
  -- a log is of commands alone, but of a partition that is diverted, or one of whose fallbacks was closed
  pub logs : (site : ℕ) → CommandsAlone (log_at w site) ⊎ (((to : ℕ) × (slice_get w.routes site ≡ Some to) × (to ≢ site)) ⊎ HadClose w site)

abbrev pub Logs : World → ℕ → Type 0
Logs w site = CommandsAlone (log_at w site) ⊎ (((to : ℕ) × (slice_get w.routes site ≡ Some to) × (to ≢ site)) ⊎ HadClose w site)

empty-opening : (run vnodes site : ℕ) → option_map_or (λ (v : SiteVnode). v.log) (slice_get (opening_vnodes run 0 vnodes) site) [] ≡ []
empty-opening run vnodes site = by (slice_get (opening_vnodes run 0 vnodes) site) refl
  where
    by : (o : Option SiteVnode) → slice_get (opening_vnodes run 0 vnodes) site ≡ o → option_map_or (λ (v : SiteVnode). v.log) o [] ≡ []
    by None h = refl
    by (Some v) h = ap (λ (u : SiteVnode). u.log) (opened run 0 vnodes site v h).1

pub apart-opening : (start : Start) → IsApart (opening_world start.run start.workers start.vnodes)
apart-opening start = record {
  away = λ index to h n place worker k call asked v there own.
      absurd (none-some call (ap (λ (x : Worker). call_of x.phase) (sym (get-replicate start.workers place fresh_worker worker k)) ∙ asked));
  clear = λ index to h n v there. absurd (n (own_is 0 start.vnodes index to h ∙ zero-add index));
  turned_there = λ place worker k own site turned between v there open_there.
      false≢true (ap (λ (x : Worker). is_turned x.phase) (sym (get-replicate start.workers place fresh_worker worker k)) ∙ turned);
  logs = λ site. inl (subst CommandsAlone (sym (empty-opening start.run start.vnodes site)) refl);
}

-- the number of the close at a site, where there is one
abbrev pub closed_in : Option SiteVnode → Option ℕ
closed_in o = (state_of (option_map_or (λ (v : SiteVnode). v.id) o 0) (option_map_or (λ (v : SiteVnode). v.last_epoch) o 0) (option_map_or (λ (v : SiteVnode). v.log) o [])).closed

-- where something is closed there is a vnode
pub closed_vnode : (w : World) (site : ℕ) → (state_at w site).closed ≢ None → (v : SiteVnode) × (slice_get w.vnodes site ≡ Some v)
closed_vnode w site closed = by (slice_get w.vnodes site) refl
  where
    by : (o : Option SiteVnode) → slice_get w.vnodes site ≡ o → (v : SiteVnode) × (slice_get w.vnodes site ≡ Some v)
    by None h = absurd (closed (ap closed_in h))
    by (Some v) h = (v, h)

-- a site that a partition's calls go to is one of it
pub route_own : (w : World) → IsOrderly w → (other site : ℕ) → slice_get w.routes other ≡ Some site → (v : SiteVnode) → slice_get w.vnodes site ≡ Some v → v.own ≡ other
route_own w orderly other site route v there = elim (orderly.routed_to other site route) [
  | inl e ↦ (orderly.homes site v (subst (λ n. n < length w.routes) (sym e) (get-below w.routes other site route)) there).0 ∙ e
  | inr f ↦ ap (λ (u : SiteVnode). u.own) (some_back v f.vnode (sym there ∙ f.there)) ∙ f.own_is
]

module _ (w : World) (orderly : IsOrderly w) (number : ℕ) (action : Action) (r : World × Outcome) (p : IsPossible w number action r) (is : IsApart w)
    (sends : (site : ℕ) (ask : RegisterAsk Content Context) → action ≡ Asks site ask
    → (other : ℕ) × (slice_get w.routes other ≡ Some site) × ((not (site == other) && is_reap ask) ≡ false)) where
  abbrev next : World
  next = turned w (pred number) p.index p.worker p.turn

  abbrev new_worker : Worker
  new_worker = record { phase = p.turn.phase; seen = seeing p.worker.seen p.index p.turn.seen }

  -- a vnode was there with its partition, and was closed or not as it is
  pub vnode_was : (site : ℕ) (v : SiteVnode) → slice_get next.vnodes site ≡ Some v
      → (old : SiteVnode) × (slice_get w.vnodes site ≡ Some old) × (v.own ≡ old.own) × ((state_of v.id v.last_epoch v.log).closed ≡ (state_of old.id old.last_epoch old.log).closed)
  vnode_was site v h = elim (same_or_other p.index site) [
    | inl e ↦
        let t = turn w orderly number action r p in
        let same = some_back p.turn.vnode v (sym (set-here w.vnodes p.index p.vnode p.turn.vnode p.vnode_is) ∙ ap (λ k. slice_get next.vnodes k) e ∙ h) in (
          p.vnode,
          ap (λ k. slice_get w.vnodes k) (sym e) ∙ p.vnode_is,
          ap (λ (u : SiteVnode). u.own) (sym same) ∙ t.same_own,
          ap (λ (u : SiteVnode). (state_of u.id u.last_epoch u.log).closed) (sym same) ∙ (λ i. (state_of (t.same_id i) (t.same_epoch i) p.turn.vnode.log).closed) ∙ t.same_closed,
        )
    | inr n ↦ (v, sym (set-there w.vnodes p.index site p.turn.vnode n) ∙ h, refl, refl)
  ]

  -- a call that comes to its site comes where its partition's calls go
  called : (call : Call) → call_by action p.worker.phase ≡ Some call → (index to : ℕ) → slice_get w.routes index ≡ Some to → to ≢ index
      → (v : SiteVnode) → slice_get w.vnodes call.site ≡ Some v → v.own ≡ index → call.site ≡ to
  called call made index to route n v there own = by action p.worker.phase refl refl made
    where
      asked : (site : ℕ) (ask : RegisterAsk Content Context) → action ≡ Asks site ask → site ≡ call.site → call.site ≡ to
      asked site ask e at =
          let s = sends site ask e in
          let same : s.0 ≡ index = sym (route_own w orderly s.0 call.site (s.1 ∙ ap (λ k. Some k) at) v there) ∙ own in
          sym at ∙ some_back site to (sym s.1 ∙ ap (λ k. slice_get w.routes k) same ∙ route)

      -- no partition is diverted while somebody of it is turned away
      turned_away : (home site : ℕ) (ask : RegisterAsk Content Context) (hand : Option (State Content)) → p.worker.phase ≡ Turned home site ask hand → home ≡ call.site → call.site ≡ to
      turned_away home site ask hand e at =
          let f = orderly.between (pred number) p.worker (here w orderly number action r p) home site (ap between_in e) in
          let below : home < length w.routes = subst (λ k. k < length w.routes) f.own_is (orderly.owned site f.vnode f.there) in
          let same : home ≡ index = sym (orderly.homes home v below (ap (λ k. slice_get w.vnodes k) at ∙ there)).0 ∙ own in
          let went : site ≡ to = is.away index to route n (pred number) p.worker (here w orderly number action r p) (record { site = site; ask = ask }) (ap call_of e) f.vnode f.there (f.own_is ∙ same) in
          absurd (is.turned_there (pred number) p.worker (here w orderly number action r p) home site (ap is_turned e) (ap between_in e) f.vnode f.there
          (is.clear index to route n f.vnode (ap (λ k. slice_get w.vnodes k) (sym went) ∙ f.there)))

      by : (a : Action) (phase : Phase) → action ≡ a → p.worker.phase ≡ phase → call_by a phase ≡ Some call → call.site ≡ to
      by (Asks site ask) phase e f h = asked site ask e (ap (λ (c : Call). c.site) (some_back _ call h))
      by Leaves (Turned home site ask None) e f h = turned_away home site ask None f (ap (λ (c : Call). c.site) (some_back _ call h))
      by Puts (Turned home site ask (Some hand)) e f h = turned_away home site ask (Some hand) f (ap (λ (c : Call). c.site) (some_back _ call h))
      by a phase e f h = cc

  away-next : (index to : ℕ) → slice_get w.routes index ≡ Some to → to ≢ index
      → (place : ℕ) (worker : Worker) → slice_get next.workers place ≡ Some worker → (call : Call) → call_of worker.phase ≡ Some call
      → (v : SiteVnode) → slice_get next.vnodes call.site ≡ Some v → v.own ≡ index → call.site ≡ to
  away-next index to route n place worker h call asked v there own =
      let old = vnode_was call.site v there in
      elim (set_cases w (pred number) p.worker new_worker (here w orderly number action r p) place worker h) [
        | inl d ↦ by old.0 old.1 (sym old.2 ∙ own) (turn w orderly number action r p).call (ap (λ (x : Worker). call_of x.phase) d.1 ∙ asked)
        | inr d ↦ is.away index to route n place worker d.1 call asked old.0 old.1 (sym old.2 ∙ own)
      ]
    where
      by : (old : SiteVnode) → slice_get w.vnodes call.site ≡ Some old → old.own ≡ index → CallIs action p.worker.phase p.turn.phase → call_of p.turn.phase ≡ Some call → call.site ≡ to
      by old there own (inl same) k = is.away index to route n (pred number) p.worker (here w orderly number action r p) call (sym same ∙ k) old there own
      by old there own (inr (inl none)) k = absurd (none-some call (sym none ∙ k))
      by old there own (inr (inr new)) k =
          let same : new.0 ≡ call = some_back new.0 call (sym new.1 ∙ k) in
          called call (new.2 ∙ ap (λ (c : Call). Some c) same) index to route n old there own

  turned-next : (place : ℕ) (worker : Worker) → slice_get next.workers place ≡ Some worker → (own site : ℕ) → is_turned worker.phase ≡ true → between_in worker.phase ≡ Some (own, site)
      → (v : SiteVnode) → slice_get next.vnodes site ≡ Some v → IsOpenAt v.id v.last_epoch v.log → ⊥
  turned-next place worker h own site turned between v there clear =
      let old = vnode_was site v there in
      elim (set_cases w (pred number) p.worker new_worker (here w orderly number action r p) place worker h) [
        | inl d ↦
            let phase = ap (λ (x : Worker). x.phase) d.1 in
            by old.0 old.1 (sym old.3 ∙ clear) (ap is_turned phase ∙ turned) (turn w orderly number action r p) (ap between_in phase ∙ between)
        | inr d ↦ is.turned_there place worker d.1 own site turned between old.0 old.1 (sym old.3 ∙ clear)
      ]
    where
      by : (old : SiteVnode) → slice_get w.vnodes site ≡ Some old → IsOpenAt old.id old.last_epoch old.log → is_turned p.turn.phase ≡ true
          → IsTurn p.vnode.id p.vnode.last_epoch p.vnode.own p.index (how_many (reads p.index) w.workers) (how_many (holds p.index) w.workers) action p.worker.phase (brought_by w p.worker) p.vnode.log p.turn
          → between_in p.turn.phase ≡ Some (own, site) → ⊥
      by old there clear turned t between = elim (t.between own site between).1 [
        | inl was ↦ false_true (is_turned p.turn.phase) was.1 turned
        | inr new ↦ elim new [
          | inl sent ↦ false_true (is_turned p.turn.phase) sent.1 turned
          | inr now ↦
              let same = some_back p.vnode old (sym p.vnode_is ∙ ap (λ k. slice_get w.vnodes k) now.1 ∙ there) in
              now.2 (ap (λ (u : SiteVnode). (state_of u.id u.last_epoch u.log).closed) same ∙ clear)
        ]
      ]

  -- what was closed still is
  pub had-close : (site : ℕ) → HadClose w site → HadClose next site
  had-close site (other, own, closed) = (
    other,
    own_next other ∙ own ∙ sym (own_next site),
    λ none. closed (sym (closed_next other) ∙ none),
  )
    where
      own_next : (at : ℕ) → own_at next at ≡ own_at w at
      own_next at = elim (same_or_other p.index at) [
        | inl e ↦ subst (λ k. own_at next k ≡ own_at w k) e
            (ap (λ o. option_map_or (λ (v : SiteVnode). v.own) o 0) (set-here w.vnodes p.index p.vnode p.turn.vnode p.vnode_is)
            ∙ (turn w orderly number action r p).same_own ∙ sym (ap (λ o. option_map_or (λ (v : SiteVnode). v.own) o 0) p.vnode_is))
        | inr n ↦ ap (λ o. option_map_or (λ (v : SiteVnode). v.own) o 0) (set-there w.vnodes p.index at p.turn.vnode n)
      ]

      closed_next : (at : ℕ) → (state_at next at).closed ≡ (state_at w at).closed
      closed_next at = elim (same_or_other p.index at) [
        | inl e ↦
            let t = turn w orderly number action r p in
            subst (λ k. (state_at next k).closed ≡ (state_at w k).closed) e
            (ap closed_in (set-here w.vnodes p.index p.vnode p.turn.vnode p.vnode_is)
            ∙ (λ i. (state_of (t.same_id i) (t.same_epoch i) p.turn.vnode.log).closed) ∙ t.same_closed ∙ sym (ap closed_in p.vnode_is))
        | inr n ↦ ap closed_in (set-there w.vnodes p.index at p.turn.vnode n)
      ]

  -- the log at the step's site
  log-here : Logs next p.index
  log-here = elim (is.logs p.index) [
    | inl only ↦ by p.turn.outcome (turn w orderly number action r p).comes (subst CommandsAlone (log_before w orderly number action r p) only)
    | inr rest ↦ elim rest [
      | inl away ↦ inr (inl away)
      | inr had ↦ inr (inr (had-close p.index had))
    ]
  ]
    where
      kept : p.turn.vnode.log ≡ p.vnode.log → CommandsAlone p.vnode.log → Logs next p.index
      kept same only = inl (subst CommandsAlone (sym (log_after w orderly number action r p)) (subst CommandsAlone (sym same) only))

      by : (came : Outcome) → Comes p.vnode.id p.vnode.last_epoch p.index p.worker.phase (brought_by w p.worker) p.vnode.log p.turn came → CommandsAlone p.vnode.log → Logs next p.index
      by NotPossible h only = absurd h
      by Happened h only = kept h only
      by NotHeld h only = kept h only
      by StuckThere h only = kept h only
      by Elsewhere h only = kept h only
      by (LeftThere keys) h only = absurd h
      by (Replied reply) h only = elim h.2.event [
        | inl same ↦ kept same only
        | inr made ↦ inl (subst CommandsAlone (sym (log_after w orderly number action r p)) (subst CommandsAlone (sym made.1) (ap (λ (l : Log). Command made.0 ∷ l) only)))
      ]
      by CopiedBack h only =
          inr (inl (
            h.site,
            ap (λ k. slice_get w.routes k) (sym h.at) ∙ copied_route w orderly number action r p h,
            λ e. (copied_fallback w orderly number action r p h).apart (h.at ∙ sym e),
          ))

  pub apart-does : IsApart next
  apart-does = record {
    away = away-next;
    clear = λ index to route n v there. let old = vnode_was to v there in old.3 ∙ is.clear index to route n old.0 old.1;
    turned_there = turned-next;
    logs = λ site. elim (same_or_other p.index site) [
      | inl e ↦ subst (λ k. Logs next k) e log-here
      | inr n ↦ elim (is.logs site) [
        | inl only ↦ inl (subst CommandsAlone (sym (log_elsewhere w orderly number action r p site n)) only)
        | inr rest ↦ elim rest [
          | inl away ↦ inr (inl away)
          | inr had ↦ inr (inr (had-close site had))
        ]
      ]
    ];
  }
