-- The history of each site has a replay, also where something was copied: that comes behind all commands.
use Rattle.std.proofs.Common.{◌≡◌, ◌≢◌, ◌⊎◌, inl, inr, ℕ, ◌+◌, List, [], ◌∷◌, refl, sym, ap, subst}
use Rattle.std.specs.Prelude.{pred, Option, Some, None, option_map, slice_get}
use Rattle.std.specs.Option.{option_map_or}
use Rattle.vnode_machine.specs.Replay.{HasReplay}
use Rattle.copy_laws.specs.Copies.{Command, commands_of}
use Rattle.copy_laws.specs.Joining.{Log}
use Rattle.node_steps.specs.World.{SiteVnode, World, CommandsAlone, fresh_vnode, opening_world, opening_vnodes, route, id_at, last_epoch_at, log_at, history_at, history_of, brought_by}
use Rattle.node_steps.specs.Steps.{Action, Step, By, Diverts, Outcome, NotPossible, Happened, Replied, NotHeld, StuckThere, CopiedBack, Elsewhere, LeftThere, routed, turned, fallback_ids, acts, diverted, diverted_by}
use Rattle.node_steps.specs.Schedules.{Start, IsStart, world_after}
use Rattle.node_steps.specs.Claims.{CommandsFirst}
use Rattle.node_steps.proofs.Lists.{same_or_other, get-more}
use Rattle.node_steps.proofs.Coming.{Comes}
use Rattle.node_steps.proofs.Kept.{IsOrderly, IsPossible, possible}
use Rattle.node_steps.proofs.FirstWorld.{opened}
use Rattle.node_steps.proofs.Diverting.{IsDiversion, diversion}
use Rattle.node_steps.proofs.Scheduled.{orderly}
use Rattle.node_steps.proofs.Lifting.{HaveReplays, turn, replays_next, log_before, log_after, log_elsewhere, id_before, epoch_before, before_is, after_is, id_next, epoch_next, elsewhere_is}
use Rattle.node_steps.proofs.CloseSteps.{acts_cases}
use Rattle.node_steps.proofs.Quiet.{IsQuiet, quiet-judged, quiet-closed, first_quiet}

abbrev Replays : Option SiteVnode → Type 0
Replays o = HasReplay (option_map_or (λ (v : SiteVnode). v.id) o 0) (option_map_or (λ (v : SiteVnode). v.last_epoch) o 0) (option_map_or (λ (v : SiteVnode). history_of v) o [])

opening-replays : (start : Start) → HaveReplays (opening_world start.run start.workers start.vnodes)
opening-replays start site = λ first. by (slice_get (opening_vnodes start.run 0 start.vnodes) site) refl
  where
    by : (o : Option SiteVnode) → slice_get (opening_vnodes start.run 0 start.vnodes) site ≡ o → Replays o
    by None h = tt
    by (Some v) h = subst (λ (u : SiteVnode). HasReplay u.id u.last_epoch (history_of u)) (sym (opened start.run 0 start.vnodes site v h).1) tt

module _ (w : World) (orderly : IsOrderly w) (number : ℕ) (action : Action) (r : World × Outcome) (p : IsPossible w number action r) (was : HaveReplays w) where
  abbrev next : World
  next = turned w (pred number) p.index p.worker p.turn

  before : CommandsFirst p.vnode.log → HasReplay p.vnode.id p.vnode.last_epoch (history_of p.vnode)
  before first =
      subst (λ i. HasReplay i p.vnode.last_epoch (history_of p.vnode)) (id_before w orderly number action r p)
      (subst (λ e. HasReplay (id_at w p.index) e (history_of p.vnode)) (epoch_before w orderly number action r p)
      (subst (λ h. HasReplay (id_at w p.index) (last_epoch_at w p.index) h) (before_is w orderly number action r p)
      (was p.index (subst CommandsFirst (sym (log_before w orderly number action r p)) first))))

  kept : p.turn.vnode.log ≡ p.vnode.log → CommandsFirst p.turn.vnode.log → HasReplay p.vnode.id p.vnode.last_epoch (history_of p.turn.vnode)
  kept same first = subst (λ (l : Log). HasReplay p.vnode.id p.vnode.last_epoch (commands_of l)) (sym same) (before (subst CommandsFirst same first))

  here_after : CommandsFirst p.turn.vnode.log → HasReplay p.vnode.id p.vnode.last_epoch (history_of p.turn.vnode)
  here_after first = by p.turn.outcome (turn w orderly number action r p).comes
    where
      by : (came : Outcome) → Comes p.vnode.id p.vnode.last_epoch p.index p.worker.phase (brought_by w p.worker) p.vnode.log p.turn came
          → HasReplay p.vnode.id p.vnode.last_epoch (history_of p.turn.vnode)
      by NotPossible h = absurd h
      by Happened h = kept h first
      by NotHeld h = kept h first
      by StuckThere h = kept h first
      by Elsewhere h = kept h first
      by (LeftThere keys) h = absurd h
      by CopiedBack h = subst (λ (l : Log). HasReplay p.vnode.id p.vnode.last_epoch (commands_of l)) (sym h.later_is) (before (subst CommandsFirst h.later_is first))
      by (Replied reply) h = elim h.2.event [
        | inl same ↦ kept same first
        | inr made ↦
            let only : CommandsAlone p.vnode.log = subst CommandsFirst made.1 first in
            replays_next w orderly number action r p (subst CommandsAlone (sym made.1) (ap (λ (l : Log). Command made.0 ∷ l) only))
      ]

  does-replays : HaveReplays next
  does-replays site first =
      subst (λ i. HasReplay i (last_epoch_at next site) (history_at next site)) (sym (id_next w orderly number action r p site))
      (subst (λ e. HasReplay (id_at w site) e (history_at next site)) (sym (epoch_next w orderly number action r p site)) (by (same_or_other p.index site)))
    where
      by : (p.index ≡ site) ⊎ (p.index ≢ site) → HasReplay (id_at w site) (last_epoch_at w site) (history_at next site)
      by (inl e) =
          subst (λ k. HasReplay (id_at w k) (last_epoch_at w k) (history_at next k)) e
          (subst (λ i. HasReplay i (last_epoch_at w p.index) (history_at next p.index)) (sym (id_before w orderly number action r p))
          (subst (λ l. HasReplay p.vnode.id l (history_at next p.index)) (sym (epoch_before w orderly number action r p))
          (subst (λ h. HasReplay p.vnode.id p.vnode.last_epoch h) (sym (after_is w orderly number action r p))
          (here_after (subst CommandsFirst (log_after w orderly number action r p) (subst (λ k. CommandsFirst (log_at next k)) (sym e) first))))))
      by (inr n) =
          subst (λ h. HasReplay (id_at w site) (last_epoch_at w site) h) (sym (elsewhere_is w orderly number action r p site n))
          (was site (subst CommandsFirst (log_elsewhere w orderly number action r p site n) first))

-- a closer's look and its publish leave histories as they were
quiet-replays : (w next : World) → IsQuiet w next → HaveReplays w → HaveReplays next
quiet-replays w next quiet was site first =
    subst (λ i. HasReplay i (last_epoch_at next site) (history_at next site)) (sym (quiet.ids site))
    (subst (λ e. HasReplay (id_at w site) e (history_at next site)) (sym (quiet.epochs site))
    (subst (λ h. HasReplay (id_at w site) (last_epoch_at w site) h) (sym (quiet.histories site)) (was site (first_quiet w next quiet site first))))

-- a site more has none yet
diverted-replays : (w : World) (other : ℕ) (then : World) (d : IsDiversion w other then) → HaveReplays w → HaveReplays then
diverted-replays w other then d was = subst HaveReplays d.gives (λ site first. by site (slice_get later.vnodes site) refl first)
  where
    fresh : SiteVnode
    fresh = fresh_vnode (d.primary.place.vnode + fallback_ids) other d.epoch

    later : World
    later = diverted_by w other d.epoch d.primary

    by : (site : ℕ) (o : Option SiteVnode) → slice_get later.vnodes site ≡ o → CommandsFirst (option_map_or (λ (v : SiteVnode). v.log) o []) → Replays o
    by site None h first = tt
    by site (Some v) h first = elim (get-more w.vnodes fresh site v h) [
      | inl e ↦ subst (λ o. Replays o) e (was site (subst (λ o. CommandsFirst (option_map_or (λ (x : SiteVnode). x.log) o [])) (sym e) first))
      | inr e ↦ subst (λ (u : SiteVnode). HasReplay u.id u.last_epoch (history_of u)) e.1 tt
    ]

pub replays_after : (start : Start) → IsStart start → (schedule : List Step) → HaveReplays (world_after start schedule)
replays_after start is [] = opening-replays start
replays_after start is (By number action ∷ earlier) = by (acts w number sent) refl (replays_after start is earlier)
  where
    w : World
    w = world_after start earlier

    sent : Action
    sent = routed (route w) action

    by : (o : Option (World × Outcome)) → acts w number sent ≡ o → HaveReplays w → HaveReplays (option_map_or (λ (r : World × Outcome). r.0) o w)
    by None h was = was
    by (Some r) h was = elim (acts_cases w number sent r h) [
      | inl does ↦
          let p = possible w number sent r does in
          subst (λ (q : World × Outcome). HaveReplays q.0) p.gives (does-replays w (orderly start is earlier) number sent r p was)
      | inr two ↦ elim two [
        | inl j ↦ quiet-replays w r.0 (quiet-judged w number sent r j) was
        | inr c ↦ quiet-replays w r.0 (quiet-closed w (orderly start is earlier) number sent r c) was
      ]
    ]
replays_after start is (Diverts other ∷ earlier) = by (diverted w other) refl (replays_after start is earlier)
  where
    w : World
    w = world_after start earlier

    by : (o : Option World) → diverted w other ≡ o → HaveReplays w → HaveReplays (option_map_or (λ (r : World × Outcome). r.0) (option_map (λ (next : World). (next, Happened)) o) w)
    by None h was = was
    by (Some next) h was = diverted-replays w other next (diversion w other next h) was
