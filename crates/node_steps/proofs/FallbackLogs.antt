-- To a fallback nothing is copied: its log is of commands alone until it is closed, and then a close more.
use Rattle.std.proofs.Common.{◌≡◌, ◌≢◌, ◌⊎◌, inl, inr, ℕ, ◌+◌, List, [], ◌∷◌, refl, sym, ◌∙◌, ap, subst}
use Rattle.std.proofs.lemmas.Option.{none-some}
use Rattle.std.specs.Prelude.{Option, Some, None, option_map, slice_get}
use Rattle.std.specs.Option.{option_map_or}
use Rattle.copy_laws.specs.Copies.{Command, Closed}
use Rattle.copy_laws.specs.Joining.{Log}
use Rattle.node_steps.specs.World.{SiteVnode, World, CommandsAlone, fresh_vnode, route}
use Rattle.node_steps.specs.Steps.{Action, Step, By, Diverts, Outcome, Happened, routed, fallback_ids, acts, diverted}
use Rattle.node_steps.specs.Schedules.{Start, IsStart, world_after}
use Rattle.node_steps.specs.Claims.{CommandsFirst, FallbacksTakeCommands}
use Rattle.node_steps.proofs.Lists.{set-there, same_or_other, get-more}
use Rattle.node_steps.proofs.Inside.{state_of, IsOpenAt}
use Rattle.node_steps.proofs.FirstWorld.{opened}
use Rattle.node_steps.proofs.Kept.{IsOrderly, IsPossible, possible}
use Rattle.node_steps.proofs.Diverting.{IsDiversion, diversion}
use Rattle.node_steps.proofs.Scheduled.{orderly}
use Rattle.node_steps.proofs.CloseSteps.{IsClose, acts_cases, some_back}
use Rattle.node_steps.proofs.Closes.{close_open, close_world, close_after}
use Rattle.node_steps.proofs.Lifting.{turn, alone-first}
use Rattle.node_steps.proofs.Growing.{next_of, copied-home, grown, is_now}

-- commands alone, or those and then a close
abbrev TakesCommands : Log → Type 0
TakesCommands log = CommandsAlone log ⊎ ((number : ℕ) × (before : Log) × (log ≡ Closed number ∷ before) × CommandsAlone before)

-- so it is of each vnode that isn't at its partition's own site
abbrev AreFallbacks : World → Type 0
AreFallbacks w = (site : ℕ) (vnode : SiteVnode) → slice_get w.vnodes site ≡ Some vnode → vnode.own ≢ site → TakesCommands vnode.log

-- where nothing is closed they are of commands alone
open-alone : (id epoch : ℕ) (log : Log) → TakesCommands log → IsOpenAt id epoch log → CommandsAlone log
open-alone id epoch log (inl only) clear = only
open-alone id epoch log (inr closed) clear = absurd (none-some closed.0 (sym clear ∙ ap (λ (l : Log). (state_of id epoch l).closed) closed.2))

-- after a step at one site
module _ (w : World) (orderly : IsOrderly w) (number : ℕ) (action : Action) (r : World × Outcome) (p : IsPossible w number action r) (was : AreFallbacks w) where
  abbrev next : World
  next = next_of w orderly number action r p

  here : p.vnode.own ≢ p.index → TakesCommands p.turn.vnode.log
  here away = elim (grown w orderly number action r p) [
    | inl same ↦ subst TakesCommands (sym same) before
    | inr more ↦ elim more [
      | inl g ↦ inl (subst CommandsAlone (sym g.is) (ap (λ (l : Log). Command g.event ∷ l) (open-alone p.vnode.id p.vnode.last_epoch p.vnode.log before g.opened)))
      | inr c ↦ absurd (away (orderly.homes p.index p.vnode (copied-home w orderly number action r p c) p.vnode_is).0)
    ]
  ]
    where
      before : TakesCommands p.vnode.log
      before = was p.index p.vnode p.vnode_is away

  fallbacks-does : AreFallbacks next
  fallbacks-does site vnode there away = elim (same_or_other p.index site) [
    | inl e ↦
        let same : p.turn.vnode ≡ vnode = some_back p.turn.vnode vnode (sym (is_now w orderly number action r p site e) ∙ there) in
        subst (λ (v : SiteVnode). TakesCommands v.log) same
        (here (λ own. away (ap (λ (v : SiteVnode). v.own) (sym same) ∙ (turn w orderly number action r p).same_own ∙ own ∙ e)))
    | inr n ↦ was site vnode (sym (set-there w.vnodes p.index site p.turn.vnode n) ∙ there) away
  ]

-- after a close
fallbacks-closed : (w : World) (orderly : IsOrderly w) (number : ℕ) (action : Action) (r : World × Outcome) (c : IsClose w number action r) → AreFallbacks w → AreFallbacks (close_world w orderly number action r c)
fallbacks-closed w orderly number action r c was site vnode there away = elim (close_after w orderly number action r c site vnode there) [
  | inl e ↦
      let before = open-alone c.fallback.id c.fallback.last_epoch c.fallback.log
      (was c.site c.fallback c.fallback_is (λ own. away (ap (λ (v : SiteVnode). v.own) (sym e.1) ∙ own ∙ e.0))) (close_open w orderly number action r c) in
      subst (λ (v : SiteVnode). TakesCommands v.log) e.1 (inr (c.count, c.fallback.log, refl, before))
  | inr e ↦ was site vnode e.1 away
]

-- a fallback that is opened has taken nothing
fallbacks-diverted : (w : World) (other : ℕ) (after : World) (d : IsDiversion w other after) → AreFallbacks w → AreFallbacks after
fallbacks-diverted w other after d was = subst AreFallbacks d.gives (λ site vnode there away. elim (get-more w.vnodes fresh site vnode there) [
  | inl e ↦ was site vnode e away
  | inr e ↦ inl (subst (λ (v : SiteVnode). CommandsAlone v.log) e.1 refl)
])
  where
    fresh : SiteVnode
    fresh = fresh_vnode (d.primary.place.vnode + fallback_ids) other d.epoch

fallbacks_after : (start : Start) → IsStart start → (schedule : List Step) → AreFallbacks (world_after start schedule)
fallbacks_after start is [] = λ site vnode there away. inl (subst (λ (v : SiteVnode). CommandsAlone v.log) (sym (opened start.run 0 start.vnodes site vnode there).1) refl)
fallbacks_after start is (By number action ∷ earlier) = by (acts w number sent) refl (fallbacks_after start is earlier)
  where
    w : World
    w = world_after start earlier

    sent : Action
    sent = routed (route w) action

    by : (o : Option (World × Outcome)) → acts w number sent ≡ o → AreFallbacks w → AreFallbacks (option_map_or (λ (r : World × Outcome). r.0) o w)
    by None h was = was
    by (Some r) h was = elim (acts_cases w number sent r h) [
      | inl does ↦
          let p = possible w number sent r does in
          subst (λ (q : World × Outcome). AreFallbacks q.0) p.gives (fallbacks-does w (orderly start is earlier) number sent r p was)
      | inr two ↦ elim two [
        | inl j ↦ subst (λ (q : World × Outcome). AreFallbacks q.0) j.gives was
        | inr c ↦ subst (λ (q : World × Outcome). AreFallbacks q.0) c.gives (fallbacks-closed w (orderly start is earlier) number sent r c was)
      ]
    ]
fallbacks_after start is (Diverts other ∷ earlier) = by (diverted w other) refl (fallbacks_after start is earlier)
  where
    w : World
    w = world_after start earlier

    by : (o : Option World) → diverted w other ≡ o → AreFallbacks w → AreFallbacks (option_map_or (λ (r : World × Outcome). r.0) (option_map (λ (next : World). (next, Happened)) o) w)
    by None h was = was
    by (Some after) h was = fallbacks-diverted w other after (diversion w other after h) was

-- what a log is at a site, by the vnode there
abbrev Takes : Option SiteVnode → Type 0
Takes o =
    let log = option_map_or (λ (v : SiteVnode). v.log) o [] in
    CommandsFirst log
    × ((state_of (option_map_or (λ (v : SiteVnode). v.id) o 0) (option_map_or (λ (v : SiteVnode). v.last_epoch) o 0) log).closed ≡ None → CommandsAlone log)

commands-first : (log : Log) → TakesCommands log → CommandsFirst log
commands-first log (inl only) = alone-first log only
commands-first log (inr closed) = subst CommandsFirst (sym closed.2) (alone-first closed.1 closed.3)

pub fallbacks_take_commands : (start : Start) → IsStart start → (schedule : List Step) → FallbacksTakeCommands (world_after start schedule)
fallbacks_take_commands start is schedule site away = by (slice_get w.vnodes site) refl
  where
    w : World
    w = world_after start schedule

    of : (v : SiteVnode) → TakesCommands v.log → Takes (Some v)
    of v takes = (commands-first v.log takes, λ clear. open-alone v.id v.last_epoch v.log takes clear)

    by : (o : Option SiteVnode) → slice_get w.vnodes site ≡ o → Takes (slice_get w.vnodes site)
    by None h = subst Takes (sym h) (tt, λ clear. refl)
    by (Some v) h = subst Takes (sym h) (of v (fallbacks_after start is schedule site v h (λ own. away (ap (λ o. option_map_or (λ (x : SiteVnode). x.own) o 0) h ∙ own))))
