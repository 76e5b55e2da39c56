-- Where a worker has a call nothing was copied, unless a fallback of its partition was closed.
use Rattle.std.proofs.Common.{◌≡◌, ◌≢◌, ◌⊎◌, inl, inr, ℕ, zero, suc, ◌+◌, ◌≤◌, true, List, [], ◌∷◌, length, refl, sym, ◌∙◌, ap, arith, subst}
use Rattle.std.proofs.lemmas.Option.{none-some}
use Rattle.std.specs.Prelude.{Option, Some, None, option_map, slice_get}
use Rattle.std.specs.Option.{option_map_or}
use Rattle.node_steps.specs.World.{Phase, SiteVnode, Worker, World, CommandsAlone, Call, fresh_vnode, route, own_at, log_at, call_of, call_at}
use Rattle.node_steps.specs.Steps.{Action, Step, By, Diverts, Outcome, Happened, routed, fallback_ids, is_about, acts, diverted, diverted_by}
use Rattle.node_steps.specs.Schedules.{Start, IsStart, world_after}
use Rattle.node_steps.specs.Claims.{HadClose}
use Rattle.node_steps.proofs.Lists.{set-here, set-there, same_or_other, get-below, get-before, get-more, found_below}
use Rattle.node_steps.proofs.Inside.{about_there, state_of, IsOpenAt, false_true}
use Rattle.node_steps.proofs.Coming.{between_in, is_turned}
use Rattle.node_steps.proofs.Kept.{IsOrderly, possible}
use Rattle.node_steps.proofs.Diverting.{IsDiversion, diversion, alone_about}
use Rattle.node_steps.proofs.Scheduled.{orderly}
use Rattle.node_steps.proofs.CloseSteps.{IsJudgement, IsClose, acts_cases, some_back}
use Rattle.node_steps.proofs.Closes.{close_world, close_route, close_after, close_own}
use Rattle.node_steps.proofs.Quiet.{IsQuiet, quiet-judged, quiet-closed, close_log, had_quiet}
use Rattle.node_steps.proofs.Lifting.{log-more}
use Rattle.node_steps.proofs.CallSites.{call_site, sent-by}
use Rattle.node_steps.proofs.CallsApart.{IsApart, Logs, route_own, closed_in, closed_vnode, apart-opening, apart-does}
use Rattle.node_steps.proofs.Numbers.{below, below_past}

-- a closer's look, and its publish: calls are as they were
module _ (w : World) (orderly : IsOrderly w) (number : ℕ) (action : Action) (r : World × Outcome) (is : IsApart w) where
  apart-judged : IsJudgement w number action r → IsApart r.0
  apart-judged j =
      let quiet = quiet-judged w number action r j in
      subst (λ (q : World × Outcome). IsQuiet w q.0 → IsApart q.0) j.gives (λ calm. record {
        away = λ index to route n place worker h call asked v there own.
            let old = calm.calls place worker h call asked in is.away index to route n place old.0 old.1 call (ap call_of old.2 ∙ asked) v there own;
        clear = is.clear;
        turned_there = λ place worker h own site turned between v there clear.
            let old = calm.turned place worker h turned in is.turned_there place old.0 old.1 own site (ap is_turned old.2 ∙ turned) (ap between_in old.2 ∙ between) v there clear;
        logs = is.logs;
      }) quiet

  module _ (c : IsClose w number action r) where
    abbrev next : World
    next = close_world w orderly number action r c

    route_was : (index to : ℕ) → slice_get next.routes index ≡ Some to → to ≢ index → (c.own ≢ index) × (slice_get w.routes index ≡ Some to)
    route_was index to route n = elim (same_or_other c.own index) [
      | inl e ↦ absurd (n (sym (some_back c.own to (sym (set-here w.routes c.own c.site c.own (close_route w orderly number action r c)) ∙ ap (λ k. slice_get next.routes k) e ∙ route)) ∙ e))
      | inr m ↦ (m, sym (set-there w.routes c.own index c.own m) ∙ route)
    ]

    -- a vnode elsewhere, or the closed one, by its partition
    vnode_was : (site : ℕ) (v : SiteVnode) → slice_get next.vnodes site ≡ Some v → (old : SiteVnode) × (slice_get w.vnodes site ≡ Some old) × (v.own ≡ old.own)
        × (IsOpenAt v.id v.last_epoch v.log → IsOpenAt old.id old.last_epoch old.log)
    vnode_was site v h = elim (close_after w orderly number action r c site v h) [
      | inl e ↦ (
        c.fallback,
        ap (λ k. slice_get w.vnodes k) (sym e.0) ∙ c.fallback_is,
        ap (λ (u : SiteVnode). u.own) (sym e.1),
        λ clear. absurd (none-some c.count (sym (subst (λ (u : SiteVnode). IsOpenAt u.id u.last_epoch u.log) (sym e.1) clear))),
      )
      | inr e ↦ (v, e.1, refl, λ clear. clear)
    ]

    -- a site of the partition whose fallback is closed
    had-now : (site : ℕ) → c.own ≡ own_at w site → IsQuiet w next → HadClose next site
    had-now site e calm = (
      c.site,
      calm.owns c.site ∙ ap (λ o. option_map_or (λ (v : SiteVnode). v.own) o 0) c.fallback_is ∙ close_own w orderly number action r c ∙ e ∙ sym (calm.owns site),
      λ none. none-some c.count (sym none ∙ (λ i. (state_of (calm.ids c.site i) (calm.epochs c.site i) (close_log w orderly number action r c i)).closed)),
    )

    own_there : (site : ℕ) → slice_get w.routes site ≢ None → own_at w site ≡ site
    own_there site routed = by (slice_get w.routes site) refl
      where
        by : (o : Option ℕ) → slice_get w.routes site ≡ o → own_at w site ≡ site
        by None h = absurd (routed h)
        by (Some to) h =
            let v = found_below w.vnodes site (below site (length w.routes) (length w.vnodes) (get-below w.routes site to h) orderly.sites) in
            ap (λ o. option_map_or (λ (u : SiteVnode). u.own) o 0) v.1 ∙ (orderly.homes site v.0 (get-below w.routes site to h) v.1).0

    logs-closed : IsQuiet w next → (site : ℕ) → Logs next site
    logs-closed calm site = elim (calm.logs site) [
      | inl same ↦ elim (is.logs site) [
        | inl only ↦ inl (subst CommandsAlone (sym same) only)
        | inr rest ↦ elim rest [
          | inl away ↦ elim (same_or_other c.own site) [
            | inl e ↦ inr (inr (had-now site (e ∙ sym (own_there site (λ none. none-some away.0 (sym none ∙ away.1)))) calm))
            | inr n ↦ inr (inl (away.0, set-there w.routes c.own site c.own n ∙ away.1, away.2))
          ]
          | inr had ↦ inr (inr (had_quiet w next calm site had))
        ]
      ]
      | inr more ↦ inr (inr (
        site,
        refl,
        λ none. none-some more.0 (sym none ∙ (λ i. (state_of (calm.ids site i) (calm.epochs site i) (more.1 i)).closed)),
      ))
    ]

    apart-closed : IsApart r.0
    apart-closed = subst (λ (q : World × Outcome). IsQuiet w q.0 → IsApart q.0) c.gives (λ calm. record {
      away = λ index to route n place worker h call asked v there own.
          let was = route_was index to route n in
          let old = calm.calls place worker h call asked in
          let vnode = vnode_was call.site v there in
          is.away index to was.1 n place old.0 old.1 call (ap call_of old.2 ∙ asked) vnode.0 vnode.1 (sym vnode.2 ∙ own);
      clear = λ index to route n v there.
          let was = route_was index to route n in
          elim (close_after w orderly number action r c to v there) [
            | inl e ↦ absurd (was.0 (sym (close_own w orderly number action r c) ∙ route_is index to was.1 e.0))
            | inr e ↦ is.clear index to was.1 n v e.1
          ];
      turned_there = λ place worker h own site turned between v there clear.
          let old = calm.turned place worker h turned in
          let vnode = vnode_was site v there in
          is.turned_there place old.0 old.1 own site (ap is_turned old.2 ∙ turned) (ap between_in old.2 ∙ between) vnode.0 vnode.1 (vnode.3 clear);
      logs = logs-closed calm;
    }) (quiet-closed w orderly number action r c)
      where
        route_is : (index to : ℕ) → slice_get w.routes index ≡ Some to → c.site ≡ to → c.fallback.own ≡ index
        route_is index to route e = route_own w orderly index to route c.fallback (ap (λ k. slice_get w.vnodes k) (sym e) ∙ c.fallback_is)

module _ (w : World) (orderly : IsOrderly w) (other : ℕ) (after : World) (d : IsDiversion w other after) (is : IsApart w) where
  abbrev new_site : ℕ
  new_site = length w.vnodes

  abbrev fresh : SiteVnode
  fresh = fresh_vnode (d.primary.place.vnode + fallback_ids) other d.epoch

  abbrev later : World
  later = diverted_by w other d.epoch d.primary

  -- a site that the worker is about isn't of the partition
  not_mine : (place : ℕ) (worker : Worker) → slice_get w.workers place ≡ Some worker → (site : ℕ) → is_about site worker.phase ≡ true → (v : SiteVnode) → slice_get w.vnodes site ≡ Some v → v.own ≡ other → ⊥
  not_mine place worker h site about v there own = false_true (is_about site worker.phase) (alone_about w other d.alone place worker h site v there own) about

  called_about : (phase : Phase) (call : Call) → call_of phase ≡ Some call → is_about call.site phase ≡ true
  called_about phase call asked = about_there call.site phase (call_site phase call asked)

  old_vnode : (place : ℕ) (worker : Worker) → slice_get w.workers place ≡ Some worker → (site : ℕ) → is_about site worker.phase ≡ true → (v : SiteVnode) → slice_get later.vnodes site ≡ Some v
      → slice_get w.vnodes site ≡ Some v
  old_vnode place worker h site about v there = elim (get-more w.vnodes fresh site v there) [
    | inl e ↦ e
    | inr e ↦ absurd (below_past site new_site (orderly.about place worker h site about) (subst (λ n. new_site ≤ n) (sym e.0) (omega arith)))
  ]

  logs-diverted : (site : ℕ) → Logs later site
  logs-diverted site = by (slice_get w.vnodes site) refl
    where
      had-more : HadClose w site → (v : SiteVnode) → slice_get w.vnodes site ≡ Some v → HadClose later site
      had-more (at, own, closed) v there =
          let u = closed_vnode w at closed in
          let more = get-before w.vnodes (fresh ∷ []) at u.0 u.1 in (
            at,
            ap (λ o. option_map_or (λ (x : SiteVnode). x.own) o 0) (more ∙ sym u.1) ∙ own ∙ ap (λ o. option_map_or (λ (x : SiteVnode). x.own) o 0) (there ∙ sym (get-before w.vnodes (fresh ∷ []) site v there)),
            λ none. closed (ap closed_in (u.1 ∙ sym more) ∙ none),
          )

      by : (o : Option SiteVnode) → slice_get w.vnodes site ≡ o → Logs later site
      by None h = inl (subst CommandsAlone (sym (log-more w.vnodes fresh refl site ∙ ap (λ o. option_map_or (λ (x : SiteVnode). x.log) o []) h)) refl)
      by (Some v) h = elim (is.logs site) [
        | inl only ↦ inl (subst CommandsAlone (sym (log-more w.vnodes fresh refl site)) only)
        | inr rest ↦ elim rest [
          | inl away ↦ elim (same_or_other other site) [
            | inl e ↦ inr (inl (
              new_site,
              ap (λ k. slice_get later.routes k) (sym e) ∙ set-here w.routes other other new_site d.own,
              λ f. below_past site (length w.vnodes) (get-below w.vnodes site v h) (subst (λ n. new_site ≤ n) f (omega arith)),
            ))
            | inr n ↦ inr (inl (away.0, set-there w.routes other site new_site n ∙ away.1, away.2))
          ]
          | inr had ↦ inr (inr (had-more had v h))
        ]
      ]

  apart-diverted : IsApart after
  apart-diverted = subst IsApart d.gives (record {
    away = λ index to route n place worker h call asked v there own.
        let old = old_vnode place worker h call.site (called_about worker.phase call asked) v there in
        elim (same_or_other other index) [
          | inl e ↦ absurd (not_mine place worker h call.site (called_about worker.phase call asked) v old (own ∙ sym e))
          | inr m ↦ is.away index to (sym (set-there w.routes other index new_site m) ∙ route) n place worker h call asked v old own
        ];
    clear = λ index to route n v there. elim (get-more w.vnodes fresh to v there) [
      | inl e ↦ elim (same_or_other other index) [
        | inl same ↦ absurd (below_past to new_site (get-below w.vnodes to v e)
            (subst (λ k. new_site ≤ k) (some_back new_site to (sym (set-here w.routes other other new_site d.own) ∙ ap (λ k. slice_get later.routes k) same ∙ route)) (omega arith)))
        | inr m ↦ is.clear index to (sym (set-there w.routes other index new_site m) ∙ route) n v e
      ]
      | inr e ↦ subst (λ (u : SiteVnode). IsOpenAt u.id u.last_epoch u.log) e.1 refl
    ];
    turned_there = λ place worker h own site turned between v there clear.
        let f = orderly.between place worker h own site between in
        is.turned_there place worker h own site turned between f.vnode f.there
        (subst (λ (u : SiteVnode). IsOpenAt u.id u.last_epoch u.log) (some_back v f.vnode (sym there ∙ get-before w.vnodes (fresh ∷ []) site f.vnode f.there)) clear);
    logs = logs-diverted;
  })

pub stays_apart : (start : Start) → IsStart start → (schedule : List Step) → IsApart (world_after start schedule)
stays_apart start is [] = apart-opening start
stays_apart start is (By number action ∷ earlier) = by (acts w number sent) refl (stays_apart start is earlier)
  where
    w : World
    w = world_after start earlier

    sent : Action
    sent = routed (route w) action

    by : (o : Option (World × Outcome)) → acts w number sent ≡ o → IsApart w → IsApart (option_map_or (λ (r : World × Outcome). r.0) o w)
    by None h was = was
    by (Some r) h was = elim (acts_cases w number sent r h) [
      | inl does ↦
          let p = possible w number sent r does in
          subst (λ (q : World × Outcome). IsApart q.0) p.gives (apart-does w (orderly start is earlier) number sent r p was (sent-by w action))
      | inr two ↦ elim two [
        | inl j ↦ apart-judged w (orderly start is earlier) number sent r was j
        | inr c ↦ apart-closed w (orderly start is earlier) number sent r was c
      ]
    ]
stays_apart start is (Diverts other ∷ earlier) = by (diverted w other) refl (stays_apart start is earlier)
  where
    w : World
    w = world_after start earlier

    by : (o : Option World) → diverted w other ≡ o → IsApart w → IsApart (option_map_or (λ (r : World × Outcome). r.0) (option_map (λ (next : World). (next, Happened)) o) w)
    by None h was = was
    by (Some next) h was = apart-diverted w (orderly start is earlier) other next (diversion w other next h) was

-- where a worker has a call
pub call_worker : (w : World) (number : ℕ) (call : Call) → call_at w number ≡ Some call
    → (place : ℕ) × (worker : Worker) × (slice_get w.workers place ≡ Some worker) × (call_of worker.phase ≡ Some call)
call_worker w zero call h = absurd (none-some call h)
call_worker w (suc place) call h = by (slice_get w.workers place) refl h
  where
    by : (o : Option Worker) → slice_get w.workers place ≡ o → option_map_or (λ (worker : Worker). call_of worker.phase) o None ≡ Some call
        → (at : ℕ) × (worker : Worker) × (slice_get w.workers at ≡ Some worker) × (call_of worker.phase ≡ Some call)
    by None e h = absurd (none-some call h)
    by (Some worker) e h = (place, worker, e, h)

pub call_there : (w : World) → IsOrderly w → IsApart w → (number : ℕ) (call : Call) → call_at w number ≡ Some call → CommandsAlone (log_at w call.site) ⊎ HadClose w call.site
call_there w orderly is number call asked = elim (is.logs call.site) [
  | inl only ↦ inl only
  | inr rest ↦ elim rest [
    | inl away ↦
        let x = call_worker w number call asked in
        let known = get-below w.routes call.site away.0 away.1 in
        let v = found_below w.vnodes call.site (below call.site (length w.routes) (length w.vnodes) known orderly.sites) in
        absurd (away.2 (sym (is.away call.site away.0 away.1 away.2 x.0 x.1 x.2 call x.3 v.0 v.1 (orderly.homes call.site v.0 known v.1).0)))
    | inr had ↦ inr had
  ]
]
