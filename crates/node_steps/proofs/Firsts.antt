-- Until a fallback of its partition is closed, no command follows a copy in a log.
use Rattle.std.proofs.Common.{◌≡◌, ◌⊎◌, inl, inr, ℕ, ◌+◌, List, [], ◌∷◌, refl, sym, ◌∙◌, ap, subst}
use Rattle.std.specs.Prelude.{pred, Option, Some, None, option_map, slice_get}
use Rattle.std.specs.Option.{option_map_or}
use Rattle.node_steps.specs.World.{SiteVnode, World, CommandsAlone, fresh_vnode, opening_world, opening_vnodes, route, log_at, brought_by}
use Rattle.node_steps.specs.Steps.{Action, Step, By, Diverts, Outcome, NotPossible, Happened, Replied, NotHeld, StuckThere, CopiedBack, Elsewhere, LeftThere, fallback_ids, routed, turned, acts, diverted_by, diverted}
use Rattle.node_steps.specs.Schedules.{Start, IsStart, world_after}
use Rattle.node_steps.specs.Claims.{CommandsFirst, HadClose, CallsMeetNoCopies}
use Rattle.node_steps.proofs.Lists.{same_or_other, get-before}
use Rattle.node_steps.proofs.Coming.{Comes}
use Rattle.node_steps.proofs.Kept.{IsPossible, possible}
use Rattle.node_steps.proofs.FirstWorld.{opened}
use Rattle.node_steps.proofs.Diverting.{IsDiversion, diversion}
use Rattle.node_steps.proofs.Scheduled.{orderly}
use Rattle.node_steps.proofs.CloseSteps.{acts_cases}
use Rattle.node_steps.proofs.Quiet.{IsQuiet, quiet-judged, quiet-closed, had_quiet}
use Rattle.node_steps.proofs.Lifting.{turn, call_is, log_before, log_after, log_elsewhere, log-more}
use Rattle.node_steps.proofs.CallSites.{sent-by}
use Rattle.node_steps.proofs.CallsApart.{closed_in, closed_vnode, had-close}
use Rattle.node_steps.proofs.Uncopied.{call_there, stays_apart}

abbrev First : World → ℕ → Type 0
First w site = CommandsFirst (log_at w site) ⊎ HadClose w site

first-opening : (start : Start) (site : ℕ) → First (opening_world start.run start.workers start.vnodes) site
first-opening start site = inl (by (slice_get (opening_vnodes start.run 0 start.vnodes) site) refl)
  where
    by : (o : Option SiteVnode) → slice_get (opening_vnodes start.run 0 start.vnodes) site ≡ o → CommandsFirst (option_map_or (λ (v : SiteVnode). v.log) o [])
    by None h = tt
    by (Some v) h = subst CommandsFirst (sym (ap (λ (u : SiteVnode). u.log) (opened start.run 0 start.vnodes site v h).1)) tt

first-quiet : (w next : World) → IsQuiet w next → ((site : ℕ) → First w site) → (site : ℕ) → First next site
first-quiet w next calm was site = elim (was site) [
  | inl first ↦ inl (elim (calm.logs site) [
    | inl same ↦ subst CommandsFirst (sym same) first
    | inr more ↦ subst CommandsFirst (sym more.1) first
  ])
  | inr had ↦ inr (had_quiet w next calm site had)
]

first-diverted : (w : World) (other : ℕ) (after : World) (d : IsDiversion w other after) → ((site : ℕ) → First w site) → (site : ℕ) → First after site
first-diverted w other after d was site = subst (λ (x : World). First x site) d.gives (by (slice_get w.vnodes site) refl)
  where
    fresh : SiteVnode
    fresh = fresh_vnode (d.primary.place.vnode + fallback_ids) other d.epoch

    later : World
    later = diverted_by w other d.epoch d.primary

    had-more : HadClose w site → (v : SiteVnode) → slice_get w.vnodes site ≡ Some v → HadClose later site
    had-more (at, own, closed) v there =
        let u = closed_vnode w at closed in
        let more = get-before w.vnodes (fresh ∷ []) at u.0 u.1 in (
          at,
          ap (λ o. option_map_or (λ (x : SiteVnode). x.own) o 0) (more ∙ sym u.1) ∙ own ∙ ap (λ o. option_map_or (λ (x : SiteVnode). x.own) o 0) (there ∙ sym (get-before w.vnodes (fresh ∷ []) site v there)),
          λ none. closed (ap closed_in (u.1 ∙ sym more) ∙ none),
        )

    by : (o : Option SiteVnode) → slice_get w.vnodes site ≡ o → First later site
    by None h = inl (subst CommandsFirst (sym (log-more w.vnodes fresh refl site ∙ ap (λ o. option_map_or (λ (x : SiteVnode). x.log) o []) h)) tt)
    by (Some v) h = elim (was site) [
      | inl first ↦ inl (subst CommandsFirst (sym (log-more w.vnodes fresh refl site)) first)
      | inr had ↦ inr (had-more had v h)
    ]

pub firsts_after : (start : Start) → IsStart start → (schedule : List Step) (site : ℕ) → First (world_after start schedule) site
firsts_after start is [] site = first-opening start site
firsts_after start is (By number action ∷ earlier) site = by (acts w number sent) refl (firsts_after start is earlier)
  where
    w : World
    w = world_after start earlier

    sent : Action
    sent = routed (route w) action

    module_does : (r : World × Outcome) (p : IsPossible w number sent r) → ((at : ℕ) → First w at) → First (turned w (pred number) p.index p.worker p.turn) site
    module_does r p was = elim (same_or_other p.index site) [
      | inl e ↦ subst (λ k. First (turned w (pred number) p.index p.worker p.turn) k) e (elim (was p.index) [
        | inl first ↦ here (subst CommandsFirst (log_before w (orderly start is earlier) number sent r p) first)
        | inr had ↦ inr (had-close w (orderly start is earlier) number sent r p (stays_apart start is earlier) (sent-by w action) p.index had)
      ])
      | inr n ↦ elim (was site) [
        | inl first ↦ inl (subst CommandsFirst (sym (log_elsewhere w (orderly start is earlier) number sent r p site n)) first)
        | inr had ↦ inr (had-close w (orderly start is earlier) number sent r p (stays_apart start is earlier) (sent-by w action) site had)
      ]
    ]
      where
        kept : CommandsFirst p.turn.vnode.log → First (turned w (pred number) p.index p.worker p.turn) p.index
        kept first = inl (subst CommandsFirst (sym (log_after w (orderly start is earlier) number sent r p)) first)

        here : CommandsFirst p.vnode.log → First (turned w (pred number) p.index p.worker p.turn) p.index
        here first = by_outcome p.turn.outcome (turn w (orderly start is earlier) number sent r p).comes
          where
            by_outcome : (came : Outcome) → Comes p.vnode.id p.vnode.last_epoch p.index p.worker.phase (brought_by w p.worker) p.vnode.log p.turn came
                → First (turned w (pred number) p.index p.worker p.turn) p.index
            by_outcome NotPossible h = absurd h
            by_outcome Happened h = kept (subst CommandsFirst (sym h) first)
            by_outcome NotHeld h = kept (subst CommandsFirst (sym h) first)
            by_outcome StuckThere h = kept (subst CommandsFirst (sym h) first)
            by_outcome Elsewhere h = kept (subst CommandsFirst (sym h) first)
            by_outcome (LeftThere keys) h = absurd h
            by_outcome CopiedBack h = kept (subst CommandsFirst (sym h.later_is) first)
            by_outcome (Replied reply) h = elim h.2.event [
              | inl same ↦ kept (subst CommandsFirst (sym same) first)
              | inr made ↦ elim (call_there w (orderly start is earlier) (stays_apart start is earlier) number h.0 (call_is w (orderly start is earlier) number sent r p ∙ h.1)) [
                | inl only ↦ kept (subst CommandsFirst (sym made.1)
                    (subst CommandsAlone (log_before w (orderly start is earlier) number sent r p) (subst (λ k. CommandsAlone (log_at w k)) h.2.at only)))
                | inr had ↦ inr (had-close w (orderly start is earlier) number sent r p (stays_apart start is earlier) (sent-by w action) p.index (subst (HadClose w) h.2.at had))
              ]
            ]

    by : (o : Option (World × Outcome)) → acts w number sent ≡ o → ((at : ℕ) → First w at) → First (option_map_or (λ (r : World × Outcome). r.0) o w) site
    by None h was = was site
    by (Some r) h was = elim (acts_cases w number sent r h) [
      | inl does ↦
          let p = possible w number sent r does in
          subst (λ (q : World × Outcome). First q.0 site) p.gives (module_does r p was)
      | inr two ↦ elim two [
        | inl j ↦ first-quiet w r.0 (quiet-judged w number sent r j) was site
        | inr c ↦ first-quiet w r.0 (quiet-closed w (orderly start is earlier) number sent r c) was site
      ]
    ]
firsts_after start is (Diverts other ∷ earlier) site = by (diverted w other) refl (firsts_after start is earlier)
  where
    w : World
    w = world_after start earlier

    by : (o : Option World) → diverted w other ≡ o → ((at : ℕ) → First w at)
        → First (option_map_or (λ (r : World × Outcome). r.0) (option_map (λ (next : World). (next, Happened)) o) w) site
    by None h was = was site
    by (Some next) h was = first-diverted w other next (diversion w other next h) was site

pub calls_meet_no_copies : (start : Start) → IsStart start → (schedule : List Step) → CallsMeetNoCopies (world_after start schedule)
calls_meet_no_copies start is schedule =
    (call_there (world_after start schedule) (orderly start is schedule) (stays_apart start is schedule), firsts_after start is schedule)
