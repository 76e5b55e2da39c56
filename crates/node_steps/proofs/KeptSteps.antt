-- A worker's step at one site keeps what is always true of a world.
use Rattle.std.proofs.Common.{◌≡◌, ◌≢◌, ◌⊎◌, inl, inr, ℕ, ◌+◌, ◌^◌, ◌<◌, ◌≤◌, Bool, true, false, List, [], length, refl, sym, ◌∙◌, ap, arith, subst}
use Rattle.std.specs.Prelude.{pred, Option, Some, None, is_some, slice_get}
use Rattle.std.specs.Option.{option_map_or}
use Rattle.std.proofs.lemmas.Bool.{cases_lt}
use Rattle.std.proofs.lemmas.Option.{same_Some}
use Rattle.riak_msgs.specs.declared.Key.{Key}
use Rattle.riak_msgs.specs.Contents.{Content}
use Rattle.vnode_machine.specs.Machine.{Stored, State, stored}
use Rattle.vnode_machine.specs.Sound.{IsStoredClock, IsFormed, IsSound as IsSoundState}
use Rattle.vnode_machine.proofs.Formed.{sound-step}
use Rattle.vnode_machine.proofs.Copying.{sound-copy}
use Rattle.copy_laws.specs.Joining.{Log}
use Rattle.node_steps.specs.World.{SiteVnode, Worker, World, CommandsAlone, seen_at, brought_by}
use Rattle.node_steps.specs.Steps.{Action, sent, Outcome, NotPossible, Happened, Replied, NotHeld, StuckThere, CopiedBack, Elsewhere, LeftThere, WorkerTurn, is_about, seeing, turned, fallback_ids, does}
use Rattle.node_steps.specs.Schedules.{Begins}
use Rattle.node_steps.proofs.Lists.{one, how_many, set-here, set-there, same_or_other, how_many-set, counted_one, get-below, length-set}
use Rattle.node_steps.proofs.Beginnings.{begins-trans}
use Rattle.node_steps.proofs.Inside.{reads, holds, IsInHand, HasSeen, no_hand, no_whole, StaysAt, IsSoundAs, IsSound, IsPlain, IsAware, state_of, IsOpenAt}
use Rattle.node_steps.proofs.Coming.{between_in, CopyIs, Comes}
use Rattle.node_steps.proofs.Turns.{IsTurn}
use Rattle.node_steps.proofs.EachTurn.{turn_is}
use Rattle.node_steps.proofs.Kept.{CopiesWell, SendsWell, IsFallback, IsOrderly, IsPossible, possible, at_place, seeing-here, seeing-there, outside}
use Rattle.node_steps.proofs.Numbers.{below, not_past}

module _ (w : World) (orderly : IsOrderly w) (action : Action) (sends : SendsWell w action) (place index : ℕ) (worker : Worker) (vnode : SiteVnode) (turn : WorkerTurn) where
  abbrev readers : ℕ → ℕ
  readers other = how_many (reads other) w.workers

  abbrev holders : ℕ → ℕ
  holders other = how_many (holds other) w.workers

  abbrev next : Worker
  next = record { phase = turn.phase; seen = seeing worker.seen index turn.seen }

  abbrev world : World
  world = turned w place index worker turn

  module _ (here : slice_get w.workers place ≡ Some worker) (there : slice_get w.vnodes index ≡ Some vnode)
      (is : IsTurn vnode.id vnode.last_epoch vnode.own index (readers index) (holders index) action worker.phase (brought_by w worker) vnode.log turn) where
    keeps : (other : ℕ) → index ≢ other → StaysAt other worker.phase turn.phase
    keeps = is.goes.keeps

    none_here : (a b c d : ℕ) → a + b ≡ c + d → d ≡ b → a ≡ c
    none_here a b c d h e = omega (arith, h, e)

    readers_other : (other : ℕ) → index ≢ other → how_many (reads other) world.workers ≡ readers other
    readers_other other n =
        none_here (how_many (reads other) world.workers) (one (reads other worker)) (readers other) (one (reads other next))
        (how_many-set (reads other) w.workers place worker next here) (ap one (keeps other n).reader)

    holders_other : (other : ℕ) → index ≢ other → how_many (holds other) world.workers ≡ holders other
    holders_other other n =
        none_here (how_many (holds other) world.workers) (one (holds other worker)) (holders other) (one (holds other next))
        (how_many-set (holds other) w.workers place worker next here) (ap one (keeps other n).holder)

    -- what holds by the id and the epoch holds by the turn's
    as_vnode : (Holds : (id epoch : ℕ) → Type 0) → Holds vnode.id vnode.last_epoch → Holds turn.vnode.id turn.vnode.last_epoch
    as_vnode Holds h = subst (λ e. Holds turn.vnode.id e) (sym is.same_epoch) (subst (λ i. Holds i vnode.last_epoch) (sym is.same_id) h)

    sound_here : IsSound (how_many (reads index) world.workers) (how_many (holds index) world.workers) turn.vnode
    sound_here = as_vnode (λ i e. IsSoundAs i e (how_many (reads index) world.workers) (how_many (holds index) world.workers) turn.vnode) (record {
      limits = (orderly.vnodes index vnode there).limits;
      word = is.word (how_many (reads index) world.workers) (how_many (holds index) world.workers)
          (how_many-set (reads index) w.workers place worker next here) (how_many-set (holds index) w.workers place worker next here);
      place = is.place;
    })

    -- the vnode at an index afterwards
    vnode_after : (other : ℕ) (v : SiteVnode) → slice_get world.vnodes other ≡ Some v
        → ((index ≡ other) × (turn.vnode ≡ v)) ⊎ ((index ≢ other) × (slice_get w.vnodes other ≡ Some v))
    vnode_after other v h = elim (same_or_other index other) [
      | inl e ↦ inl (e, same_Some turn.vnode v (sym (set-here w.vnodes index vnode turn.vnode there) ∙ ap (λ k. slice_get world.vnodes k) e ∙ h))
      | inr n ↦ inr (n, sym (set-there w.vnodes index other turn.vnode n) ∙ h)
    ]

    -- the worker at a place afterwards
    worker_after : (other : ℕ) (x : Worker) → slice_get world.workers other ≡ Some x
        → ((place ≡ other) × (next ≡ x)) ⊎ ((place ≢ other) × (slice_get w.workers other ≡ Some x))
    worker_after other x h = elim (same_or_other place other) [
      | inl e ↦ inl (e, same_Some next x (sym (set-here w.workers place worker next here) ∙ ap (λ k. slice_get world.workers k) e ∙ h))
      | inr n ↦ inr (n, sym (set-there w.workers place other next n) ∙ h)
    ]

    -- the worker itself, at the vnode and elsewhere
    next_here : IsAware vnode.id vnode.last_epoch index turn.vnode.log next
    next_here = record {
      hand = is.hand;
      seen = subst (λ f. Begins f turn.vnode.log) (sym (seeing-here worker.seen index turn.seen)) is.seen;
      whole = subst (λ f. HasSeen index turn.phase f turn.vnode.log) (sym (seeing-here worker.seen index turn.seen)) is.whole;
    }

    next_there : (other : ℕ) (v : SiteVnode) → index ≢ other → slice_get w.vnodes other ≡ Some v → IsAware v.id v.last_epoch other v.log next
    next_there other v n h =
        record {
          hand = (keeps other n).hand v.id v.last_epoch v.log (orderly.workers place worker here other v h).hand;
          seen = subst (λ f. Begins f v.log) (sym (seeing-there worker.seen index other turn.seen n)) (orderly.workers place worker here other v h).seen;
          whole = subst (λ f. HasSeen other turn.phase f v.log) (sym (seeing-there worker.seen index other turn.seen n))
              ((keeps other n).whole (seen_at worker.seen other) v.log (orderly.workers place worker here other v h).whole);
        }

    -- another worker at the vnode
    other_here : (at : ℕ) (x : Worker) → place ≢ at → slice_get w.workers at ≡ Some x → IsAware vnode.id vnode.last_epoch index turn.vnode.log x
    other_here at x n h =
        let was = orderly.workers at x h index vnode there in
        record {
          hand = elim is.same [
            | inl e ↦ subst (λ log. IsInHand vnode.id vnode.last_epoch index log x.phase) (sym e) was.hand
            | inr mine ↦ let out = outside w orderly place index worker vnode here there at x n h mine in no_hand vnode.id vnode.last_epoch index turn.vnode.log x.phase out.0 out.1
          ];
          seen = begins-trans (seen_at x.seen index) vnode.log turn.vnode.log was.seen is.grows;
          whole = elim is.same [
            | inl e ↦ subst (λ (log : Log). HasSeen index x.phase (seen_at x.seen index) log) (sym e) was.whole
            | inr mine ↦ no_whole index x.phase (seen_at x.seen index) turn.vnode.log (outside w orderly place index worker vnode here there at x n h mine).0
          ];
        }

    -- any worker at the vnode
    aware_here : (at : ℕ) (x : Worker) → slice_get world.workers at ≡ Some x → IsAware turn.vnode.id turn.vnode.last_epoch index turn.vnode.log x
    aware_here at x k = as_vnode (λ i e. IsAware i e index turn.vnode.log x) (elim (worker_after at x k) [
      | inl d ↦ subst (λ y. IsAware vnode.id vnode.last_epoch index turn.vnode.log y) d.1 next_here
      | inr d ↦ other_here at x d.0 d.1
    ])

    -- a fallback stays one
    fallback-stays : (own site : ℕ) → IsFallback w own site → IsFallback world own site
    fallback-stays own site f = elim (same_or_other index site) [
      | inl e ↦ record {
        apart = f.apart;
        vnode = turn.vnode;
        there = ap (λ k. slice_get world.vnodes k) (sym e) ∙ set-here w.vnodes index vnode turn.vnode there;
        own_is = is.same_own ∙ ap (λ (v : SiteVnode). v.own) (same_Some vnode f.vnode (sym there ∙ ap (λ k. slice_get w.vnodes k) e ∙ f.there)) ∙ f.own_is;
      }
      | inr n ↦ record { apart = f.apart; vnode = f.vnode; there = set-there w.vnodes index site turn.vnode n ∙ f.there; own_is = f.own_is }
    ]

    -- a site that calls are sent to or that is closed is a fallback's
    sent_fallback : (own site : ℕ) → CopiesWell w own site → IsFallback w own site
    sent_fallback own site well = elim (orderly.routed_to own site well.0) [
      | inl e ↦ absurd (well.1 (sym e))
      | inr f ↦ f
    ]

    closed_fallback : (state_of vnode.id vnode.last_epoch vnode.log).closed ≢ None → IsFallback w vnode.own index
    closed_fallback closed = record {
      apart = λ e. elim (cases_lt index (length w.routes)) [
        | inl h ↦ closed (orderly.homes index vnode h there).1
        | inr h ↦ not_past vnode.own (length w.routes) index (orderly.owned index vnode there) h e
      ];
      vnode = vnode;
      there = there;
      own_is = refl;
    }

    next_between : (own site : ℕ) → between_in turn.phase ≡ Some (own, site) → IsFallback world own site
    next_between own site h = elim (is.between own site h).1 [
      | inl was ↦ fallback-stays own site (orderly.between place worker here own site was.0)
      | inr new ↦ elim new [
        | inl sent ↦ fallback-stays own site (sent_fallback own site (sends own site sent.0))
        | inr turned ↦ fallback-stays own site (subst (λ k. IsFallback w own k) turned.1 (subst (λ o. IsFallback w o index) turned.0 (closed_fallback turned.2)))
      ]
    ]

    -- it is about a site that it was about, or about this one or its partition's own, or is sent to it
    next_about : (site : ℕ) → is_about site turn.phase ≡ true → site < length w.vnodes
    next_about site h = elim (is.goes.about site h) [
      | inl was ↦ orderly.about place worker here site was
      | inr new ↦ elim new [
        | inl e ↦ subst (λ i. i < length w.vnodes) e (get-below w.vnodes index vnode there)
        | inr more ↦ elim more [
          | inl home ↦ subst (λ i. i < length w.vnodes) home (below vnode.own (length w.routes) (length w.vnodes) (orderly.owned index vnode there) orderly.sites)
          | inr sent ↦ below site (length w.routes) (length w.vnodes) (get-below w.routes site sent.0 (sends site sent.0 sent.1).0) orderly.sites
        ]
      ]
    ]

    -- the state after the log is one that the machine comes to
    abbrev before_log : State Content
    before_log = state_of vnode.id vnode.last_epoch vnode.log

    clock_form : (key : Key) (o : Option (Stored Content)) → IsFormed o → is_some o ≡ true → IsStoredClock (option_map_or (λ (s : Stored Content). s.clock) o (record { known = []; live = [] }))
    clock_form key None form h = cc
    clock_form key (Some s) form h = form.clock

    copied_sound : (c : CopyIs vnode.id vnode.last_epoch index worker.phase (brought_by w worker) vnode.log turn.vnode.log) → IsSoundState (state_of vnode.id vnode.last_epoch turn.vnode.log)
    copied_sound c =
        let f = orderly.between place worker here c.own c.site (ap between_in c.phase_is) in
        let hand = subst (λ phase. IsInHand f.vnode.id f.vnode.last_epoch c.site f.vnode.log phase) c.phase_is (orderly.workers place worker here c.site f.vnode f.there).hand in
        let clock = hand.0 refl in
        let there_is : State Content = state_of f.vnode.id f.vnode.last_epoch f.vnode.log in
        let form : IsStoredClock c.clock = subst IsStoredClock (sym clock.0) (clock_form c.key (stored there_is c.key) ((orderly.sound c.site f.vnode f.there).keys c.key) clock.1) in
        subst (λ (l : Log). IsSoundState (state_of vnode.id vnode.last_epoch l)) (sym c.later_is)
        (sound-copy before_log (orderly.sound index vnode there) c.key c.clock form c.open_there)

    pub sound_next : IsSoundState (state_of vnode.id vnode.last_epoch turn.vnode.log)
    sound_next = by turn.outcome is.comes
      where
        kept : turn.vnode.log ≡ vnode.log → IsSoundState (state_of vnode.id vnode.last_epoch turn.vnode.log)
        kept e = subst (λ (l : Log). IsSoundState (state_of vnode.id vnode.last_epoch l)) (sym e) (orderly.sound index vnode there)

        by : (came : Outcome) → Comes vnode.id vnode.last_epoch index worker.phase (brought_by w worker) vnode.log turn came → IsSoundState (state_of vnode.id vnode.last_epoch turn.vnode.log)
        by NotPossible h = absurd h
        by Happened h = kept h
        by NotHeld h = kept h
        by StuckThere h = kept h
        by Elsewhere h = kept h
        by (LeftThere keys) h = absurd h
        by CopiedBack h = copied_sound h
        by (Replied reply) h = elim h.2.event [
          | inl same ↦ kept same
          | inr made ↦ subst (λ (l : Log). IsSoundState (state_of vnode.id vnode.last_epoch l)) (sym made.1)
              (sound-step before_log (orderly.sound index vnode there) made.0.key made.0.context made.0.operation made.5)
        ]

    open_before : IsOpenAt turn.vnode.id turn.vnode.last_epoch turn.vnode.log → IsOpenAt vnode.id vnode.last_epoch vnode.log
    open_before h = sym is.same_closed ∙ subst (λ e. IsOpenAt vnode.id e turn.vnode.log) is.same_epoch (subst (λ i. IsOpenAt i turn.vnode.last_epoch turn.vnode.log) is.same_id h)

    pub orderly_after : IsOrderly world
    orderly_after = record {
      vnodes = λ other v h. elim (vnode_after other v h) [
        | inl e ↦ subst (λ k. IsSound (how_many (reads k) world.workers) (how_many (holds k) world.workers) v) e.0
            (subst (λ u. IsSound (how_many (reads index) world.workers) (how_many (holds index) world.workers) u) e.1 sound_here)
        | inr e ↦ subst (λ n. IsSound (how_many (reads other) world.workers) n v) (sym (holders_other other e.0))
            (subst (λ n. IsSound n (holders other) v) (sym (readers_other other e.0)) (orderly.vnodes other v e.1))
      ];
      workers = λ at x k other v h. elim (vnode_after other v h) [
        | inl e ↦ subst (λ o. IsAware v.id v.last_epoch o v.log x) e.0 (subst (λ u. IsAware u.id u.last_epoch index u.log x) e.1 (aware_here at x k))
        | inr e ↦ elim (worker_after at x k) [
          | inl d ↦ subst (λ y. IsAware v.id v.last_epoch other v.log y) d.1 (next_there other v e.0 e.1)
          | inr d ↦ orderly.workers at x d.1 other v e.1
        ]
      ];
      plain = λ other v h. elim (vnode_after other v h) [
        | inl e ↦ subst (λ (u : SiteVnode). CommandsAlone u.log → IsPlain u.id u.last_epoch u.log) e.1
            (λ only. as_vnode (λ i e. IsPlain i e turn.vnode.log) (is.plain only (orderly.plain index vnode there (is.alone only))))
        | inr e ↦ orderly.plain other v e.1
      ];
      sound = λ other v h. elim (vnode_after other v h) [
        | inl e ↦ subst (λ (u : SiteVnode). IsSoundState (state_of u.id u.last_epoch u.log)) e.1 (as_vnode (λ i e. IsSoundState (state_of i e turn.vnode.log)) sound_next)
        | inr e ↦ orderly.sound other v e.1
      ];
      between = λ at x k own site h. elim (worker_after at x k) [
        | inl d ↦ next_between own site (ap (λ (y : Worker). between_in y.phase) d.1 ∙ h)
        | inr d ↦ fallback-stays own site (orderly.between at x d.1 own site h)
      ];
      owned = λ other v h. elim (vnode_after other v h) [
        | inl e ↦ subst (λ (u : SiteVnode). u.own < length w.routes) e.1 (subst (λ o. o < length w.routes) (sym is.same_own) (orderly.owned index vnode there))
        | inr e ↦ orderly.owned other v e.1
      ];
      homes = λ other v under h. elim (vnode_after other v h) [
        | inl e ↦ subst (λ (u : SiteVnode). (u.own ≡ other) × IsOpenAt u.id u.last_epoch u.log) e.1
            (let home = orderly.homes index vnode (subst (λ k. k < length w.routes) (sym e.0) under) there in
            (is.same_own ∙ home.0 ∙ e.0, as_vnode (λ i e. IsOpenAt i e turn.vnode.log) (is.same_closed ∙ home.1)))
        | inr e ↦ orderly.homes other v under e.1
      ];
      routed_to = λ own site h. elim (orderly.routed_to own site h) [
        | inl e ↦ inl e
        | inr f ↦ inr (fallback-stays own site f)
      ];
      limited = orderly.limited;
      opens = λ site v h n clear. elim (vnode_after site v h) [
        | inl e ↦
            let same = sym is.same_own ∙ ap (λ (u : SiteVnode). u.own) e.1 in
            ap (λ k. slice_get w.routes k) (sym same)
            ∙ orderly.opens index vnode there (λ f. n (sym same ∙ f ∙ e.0)) (open_before (subst (λ (u : SiteVnode). IsOpenAt u.id u.last_epoch u.log) (sym e.1) clear))
            ∙ ap (λ k. Some k) e.0
        | inr e ↦ orderly.opens site v e.1 n clear
      ];
      bounds = λ other v below h. elim (vnode_after other v h) [
        | inl e ↦ subst (λ (u : SiteVnode). u.id + fallback_ids < 2 ^ 64) e.1
            (subst (λ i. i + fallback_ids < 2 ^ 64) (sym is.same_id) (orderly.bounds index vnode (subst (λ k. k < length w.routes) (sym e.0) below) there))
        | inr e ↦ orderly.bounds other v below e.1
      ];
      sites = subst (λ n. length w.routes ≤ n) (sym (length-set w.vnodes index turn.vnode)) orderly.sites;
      about = λ at x k site h. subst (λ n. site < n) (sym (length-set w.vnodes index turn.vnode)) (elim (worker_after at x k) [
        | inl d ↦ next_about site (ap (λ (y : Worker). is_about site y.phase) d.1 ∙ h)
        | inr d ↦ orderly.about at x d.1 site h
      ]);
      unseen = λ at x k site past.
          let old_past : length w.vnodes ≤ site = subst (λ n. n ≤ site) (length-set w.vnodes index turn.vnode) past in
          elim (worker_after at x k) [
            | inl d ↦ ap (λ (y : Worker). seen_at y.seen site) (sym d.1)
                ∙ seeing-there worker.seen index site turn.seen (not_past index (length w.vnodes) site (get-below w.vnodes index vnode there) old_past)
                ∙ orderly.unseen place worker here site old_past
            | inr d ↦ orderly.unseen at x d.1 site old_past
          ];
    }

-- one that passes is counted
pub counted : (test : Worker → Bool) (workers : List Worker) (place : ℕ) (worker : Worker) → slice_get workers place ≡ Some worker → one (test worker) ≤ how_many test workers
counted test workers place worker h = by (test worker) refl
  where
    by : (b : Bool) → test worker ≡ b → one b ≤ how_many test workers
    by true e = counted_one test workers place worker h e
    by false e = omega arith

-- the turn of a possible step
pub turn_at : (w : World) (orderly : IsOrderly w) (number : ℕ) (action : Action) (r : World × Outcome) (p : IsPossible w number action r)
    → IsTurn p.vnode.id p.vnode.last_epoch p.vnode.own p.index (how_many (reads p.index) w.workers) (how_many (holds p.index) w.workers) action p.worker.phase (brought_by w p.worker) p.vnode.log p.turn
turn_at w orderly number action r p =
    let here = at_place w number p.worker p.worker_is in
    let aware = orderly.workers (pred number) p.worker here p.index p.vnode p.vnode_is in
    turn_is p.vnode.id p.vnode.last_epoch p.vnode.own p.index (how_many (reads p.index) w.workers) (how_many (holds p.index) w.workers)
    (seen_at p.worker.seen p.index) (brought_by w p.worker) p.vnode refl refl refl (orderly.vnodes p.index p.vnode p.vnode_is) aware.seen
    action p.worker.phase (counted (reads p.index) w.workers (pred number) p.worker here) (counted (holds p.index) w.workers (pred number) p.worker here)
    aware.hand p.site_is p.turn p.turn_is

pub orderly-does : (w : World) (orderly : IsOrderly w) (number : ℕ) (action : Action) → SendsWell w action → (r : World × Outcome) → does w number action ≡ Some r → IsOrderly r.0
orderly-does w orderly number action sends r h =
    let p = possible w number action r h in
    subst (λ q. IsOrderly q.0) p.gives
    (orderly_after w orderly action sends (pred number) p.index p.worker p.vnode p.turn (at_place w number p.worker p.worker_is) p.vnode_is (turn_at w orderly number action r p))
