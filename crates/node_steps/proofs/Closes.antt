-- A closer's publish: what is always true stays so, with the fallback closed and the calls at the primary again.
use Rattle.std.proofs.Common.{◌≡◌, ◌≢◌, ◌⊎◌, inl, inr, ℕ, ◌<◌, ◌≤◌, true, ◌∷◌, length, refl, sym, ◌∙◌, ap, arith, subst}
use Rattle.std.specs.Prelude.{pred, Some, None, slice_get, slice_set}
use Rattle.std.proofs.lemmas.Bool.{cases_lt}
use Rattle.std.proofs.lemmas.Option.{none-some}
use Rattle.riak_msgs.specs.Contents.{Content}
use Rattle.actor_epoch.specs.Limits.{max_epoch}
use Rattle.vnode_machine.specs.Machine.{State}
use Rattle.vnode_machine.specs.Copying.{apply_close}
use Rattle.vnode_machine.specs.Sound.{IsSound as IsSoundState}
use Rattle.vnode_machine.proofs.Copying.{sound-close}
use Rattle.copy_laws.specs.Copies.{Closed}
use Rattle.node_steps.specs.World.{Word, Open, Taken, CloseDone, Closing, SiteVnode, Worker, World, CommandsAlone, seen_at}
use Rattle.node_steps.specs.Steps.{Action, Outcome, closed_by, is_about, seeing}
use Rattle.node_steps.specs.Schedules.{Begins}
use Rattle.node_steps.proofs.Lists.{how_many, set-here, set-there, same_or_other, length-set, counted_one, get-below}
use Rattle.node_steps.proofs.Beginnings.{begins-itself, begins-longer}
use Rattle.node_steps.proofs.Inside.{is_reader, is_holder, reads, holds, IsInHand, same_test, no_hand, no_whole, state_of, IsOpenAt, IsSound, IsPlain, IsAware, IsInPlace, FitsWord, closed-mixed}
use Rattle.node_steps.proofs.Coming.{between_in}
use Rattle.node_steps.proofs.Kept.{IsFallback, IsOrderly, at_place, outside, seeing-here, seeing-there}
use Rattle.node_steps.proofs.CloseSteps.{IsClose, some_back, count_same, set_is, set_cases}
use Rattle.node_steps.proofs.Numbers.{not_past}

module _ (w : World) (orderly : IsOrderly w) (number : ℕ) (action : Action) (r : World × Outcome) (c : IsClose w number action r) where
  abbrev place : ℕ
  place = pred number

  pub close_here : slice_get w.workers place ≡ Some c.worker
  close_here = at_place w number c.worker c.worker_is

  -- the fallback and the hand
  pub close_fallback : IsFallback w c.own c.site
  close_fallback = orderly.between place c.worker close_here c.own c.site (ap between_in c.phase_is)

  pub close_own : c.fallback.own ≡ c.own
  close_own = ap (λ (v : SiteVnode). v.own) (some_back c.fallback close_fallback.vnode (sym c.fallback_is ∙ close_fallback.there)) ∙ close_fallback.own_is

  pub close_hand : (c.hand ≡ state_of c.fallback.id c.fallback.last_epoch c.fallback.log) × (c.hand.closed ≡ None)
  close_hand = subst (λ phase. IsInHand c.fallback.id c.fallback.last_epoch c.site c.fallback.log phase) c.phase_is
      (orderly.workers place c.worker close_here c.site c.fallback c.fallback_is).hand refl

  pub close_open : IsOpenAt c.fallback.id c.fallback.last_epoch c.fallback.log
  close_open = ap (λ (s : State Content). s.closed) (sym close_hand.0) ∙ close_hand.1

  -- the calls went there
  pub close_route : slice_get w.routes c.own ≡ Some c.site
  close_route = ap (λ k. slice_get w.routes k) (sym close_own) ∙ orderly.opens c.site c.fallback c.fallback_is (λ e. close_fallback.apart (sym close_own ∙ e)) close_open

  abbrev pub close_vnode : SiteVnode
  close_vnode = record c.fallback { log = Closed c.count ∷ c.fallback.log }

  abbrev pub close_worker : Worker
  close_worker = record { phase = Closing c.own c.site (CloseDone (apply_close c.hand c.count) true); seen = seeing c.worker.seen c.site (Closed c.count ∷ c.fallback.log) }

  abbrev pub close_world : World
  close_world = closed_by w place c.own c.site c.worker c.fallback c.hand c.count

  past : length w.routes ≤ c.site
  past = elim (cases_lt c.site (length w.routes)) [
    | inl h ↦ absurd (close_fallback.apart (sym close_own ∙ (orderly.homes c.site c.fallback h c.fallback_is).0))
    | inr h ↦ h
  ]

  -- the vnode at an index afterwards
  pub close_after : (other : ℕ) (v : SiteVnode) → slice_get close_world.vnodes other ≡ Some v → ((c.site ≡ other) × (close_vnode ≡ v)) ⊎ ((c.site ≢ other) × (slice_get w.vnodes other ≡ Some v))
  close_after other v h = elim (same_or_other c.site other) [
    | inl e ↦ inl (e, some_back close_vnode v (sym (set-here w.vnodes c.site c.fallback close_vnode c.fallback_is) ∙ ap (λ k. slice_get close_world.vnodes k) e ∙ h))
    | inr n ↦ inr (n, sym (set-there w.vnodes c.site other close_vnode n) ∙ h)
  ]

  mine : is_holder c.site c.worker.phase ≡ true
  mine = ap (is_holder c.site) c.phase_is ∙ same_test c.site c.site refl

  pub close_stays : (own site : ℕ) → IsFallback w own site → IsFallback close_world own site
  close_stays own site f = elim (same_or_other c.site site) [
    | inl e ↦ record {
      apart = f.apart;
      vnode = close_vnode;
      there = ap (λ k. slice_get close_world.vnodes k) (sym e) ∙ set-here w.vnodes c.site c.fallback close_vnode c.fallback_is;
      own_is = ap (λ (v : SiteVnode). v.own) (some_back c.fallback f.vnode (sym c.fallback_is ∙ ap (λ k. slice_get w.vnodes k) e ∙ f.there)) ∙ f.own_is;
    }
    | inr n ↦ record { apart = f.apart; vnode = f.vnode; there = set-there w.vnodes c.site site close_vnode n ∙ f.there; own_is = f.own_is }
  ]

  reads_same : (index : ℕ) → is_reader index c.worker.phase ≡ is_reader index close_worker.phase
  reads_same index = ap (is_reader index) c.phase_is

  holds_same : (index : ℕ) → is_holder index c.worker.phase ≡ is_holder index close_worker.phase
  holds_same index = ap (is_holder index) c.phase_is

  -- the vnode that is closed is taken
  held_in : IsInPlace c.fallback.id c.fallback.last_epoch c.fallback.word close_vnode.log c.fallback.place
  held_in = by c.fallback.word (orderly.vnodes c.site c.fallback c.fallback_is).word (counted_one (holds c.site) w.workers place c.worker close_here mine)
    where
      by : (word : Word) → FitsWord word (how_many (reads c.site) w.workers) (how_many (holds c.site) w.workers) → 1 ≤ how_many (holds c.site) w.workers
          → IsInPlace c.fallback.id c.fallback.last_epoch word close_vnode.log c.fallback.place
      by (Open n mark) f h = absurd (omega (arith, f.1, h))
      by Taken f h = tt

  sound_site : IsSound (how_many (reads c.site) close_world.workers) (how_many (holds c.site) close_world.workers) close_vnode
  sound_site =
      subst (λ n. IsSound n (how_many (holds c.site) close_world.workers) close_vnode) (sym (count_same (reads c.site) w place c.worker close_worker close_here (reads_same c.site)))
      (subst (λ n. IsSound (how_many (reads c.site) w.workers) n close_vnode) (sym (count_same (holds c.site) w place c.worker close_worker close_here (holds_same c.site))) (record {
        limits = (orderly.vnodes c.site c.fallback c.fallback_is).limits;
        word = (orderly.vnodes c.site c.fallback c.fallback_is).word;
        place = held_in;
      }))

  sound_other : (index : ℕ) (v : SiteVnode) → slice_get w.vnodes index ≡ Some v → IsSound (how_many (reads index) close_world.workers) (how_many (holds index) close_world.workers) v
  sound_other index v h =
      subst (λ n. IsSound n (how_many (holds index) close_world.workers) v) (sym (count_same (reads index) w place c.worker close_worker close_here (reads_same index)))
      (subst (λ n. IsSound (how_many (reads index) w.workers) n v) (sym (count_same (holds index) w place c.worker close_worker close_here (holds_same index))) (orderly.vnodes index v h))

  -- the closer afterwards, at the closed vnode and elsewhere
  next_site : IsAware c.fallback.id c.fallback.last_epoch c.site close_vnode.log close_worker
  next_site = record {
    hand = λ e. ap (λ s. apply_close s c.count) close_hand.0;
    seen = subst (λ f. Begins f close_vnode.log) (sym (seeing-here c.worker.seen c.site close_vnode.log)) (begins-itself close_vnode.log);
    whole = tt;
  }

  next_other : (index : ℕ) (v : SiteVnode) → c.site ≢ index → slice_get w.vnodes index ≡ Some v → IsAware v.id v.last_epoch index v.log close_worker
  next_other index v n h = record {
    hand = λ e. absurd (n e);
    seen = subst (λ f. Begins f v.log) (sym (seeing-there c.worker.seen c.site index close_vnode.log n)) (orderly.workers place c.worker close_here index v h).seen;
    whole = tt;
  }

  -- another worker isn't inside there
  other_site : (at : ℕ) (x : Worker) → place ≢ at → slice_get w.workers at ≡ Some x → IsAware c.fallback.id c.fallback.last_epoch c.site close_vnode.log x
  other_site at x n h =
      let was = orderly.workers at x h c.site c.fallback c.fallback_is in
      let out = outside w orderly place c.site c.worker c.fallback close_here c.fallback_is at x n h mine in
      record {
        hand = no_hand c.fallback.id c.fallback.last_epoch c.site close_vnode.log x.phase out.0 out.1;
        seen = begins-longer (Closed c.count) (seen_at x.seen c.site) c.fallback.log was.seen;
        whole = no_whole c.site x.phase (seen_at x.seen c.site) close_vnode.log out.0;
      }

  orderly-closed-world : IsOrderly close_world
  orderly-closed-world = record {
    vnodes = λ other v h. elim (close_after other v h) [
      | inl e ↦ subst (λ k. IsSound (how_many (reads k) close_world.workers) (how_many (holds k) close_world.workers) v) e.0
          (subst (λ u. IsSound (how_many (reads c.site) close_world.workers) (how_many (holds c.site) close_world.workers) u) e.1 sound_site)
      | inr e ↦ sound_other other v e.1
    ];
    workers = λ at x k other v h. elim (close_after other v h) [
      | inl e ↦ subst (λ o. IsAware v.id v.last_epoch o v.log x) e.0 (subst (λ (u : SiteVnode). IsAware u.id u.last_epoch c.site u.log x) e.1
          (elim (set_cases w place c.worker close_worker close_here at x k) [
            | inl d ↦ subst (λ y. IsAware c.fallback.id c.fallback.last_epoch c.site close_vnode.log y) d.1 next_site
            | inr d ↦ other_site at x d.0 d.1
          ]))
      | inr e ↦ elim (set_cases w place c.worker close_worker close_here at x k) [
        | inl d ↦ subst (λ y. IsAware v.id v.last_epoch other v.log y) d.1 (next_other other v e.0 e.1)
        | inr d ↦ orderly.workers at x d.1 other v e.1
      ]
    ];
    plain = λ other v h. elim (close_after other v h) [
      | inl e ↦ subst (λ (u : SiteVnode). CommandsAlone u.log → IsPlain u.id u.last_epoch u.log) e.1 (λ only. absurd (closed-mixed c.count c.fallback.log only))
      | inr e ↦ orderly.plain other v e.1
    ];
    sound = λ other v h. elim (close_after other v h) [
      | inl e ↦ subst (λ (u : SiteVnode). IsSoundState (state_of u.id u.last_epoch u.log)) e.1
          (sound-close (state_of c.fallback.id c.fallback.last_epoch c.fallback.log) (orderly.sound c.site c.fallback c.fallback_is) c.count)
      | inr e ↦ orderly.sound other v e.1
    ];
    between = λ at x k own site h. elim (set_cases w place c.worker close_worker close_here at x k) [
      | inl d ↦ close_stays own site (orderly.between place c.worker close_here own site (ap between_in c.phase_is ∙ ap (λ (y : Worker). between_in y.phase) d.1 ∙ h))
      | inr d ↦ close_stays own site (orderly.between at x d.1 own site h)
    ];
    owned = λ other v h. subst (λ n. v.own < n) (sym (length-set w.routes c.own c.own)) (elim (close_after other v h) [
      | inl e ↦ subst (λ (u : SiteVnode). u.own < length w.routes) e.1 (orderly.owned c.site c.fallback c.fallback_is)
      | inr e ↦ orderly.owned other v e.1
    ]);
    homes = λ other v under h.
        let below : other < length w.routes = subst (λ n. other < n) (length-set w.routes c.own c.own) under in
        elim (close_after other v h) [
          | inl e ↦ absurd (not_past other (length w.routes) c.site below past (sym e.0))
          | inr e ↦ orderly.homes other v below e.1
        ];
    routed_to = λ own site h. elim (same_or_other c.own own) [
      | inl e ↦ inl (sym (some_back c.own site (sym (set-here w.routes c.own c.site c.own close_route) ∙ ap (λ k. slice_get close_world.routes k) e ∙ h)) ∙ e)
      | inr n ↦ elim (orderly.routed_to own site (sym (set-there w.routes c.own own c.own n) ∙ h)) [
        | inl same ↦ inl same
        | inr f ↦ inr (close_stays own site f)
      ]
    ];
    opens = λ site v h n clear. elim (close_after site v h) [
      | inl e ↦ absurd (none-some c.count (sym (subst (λ (u : SiteVnode). IsOpenAt u.id u.last_epoch u.log) (sym e.1) clear)))
      | inr e ↦ elim (same_or_other c.own v.own) [
        | inl same ↦ absurd (e.0 (some_back c.site site (sym close_route ∙ ap (λ k. slice_get w.routes k) same ∙ orderly.opens site v e.1 n clear)))
        | inr m ↦ set-there w.routes c.own v.own c.own m ∙ orderly.opens site v e.1 n clear
      ]
    ];
    limited = λ index epoch h. elim (same_or_other c.own index) [
      | inl e ↦ limited_here index epoch e h
      | inr n ↦ orderly.limited index epoch (sym (set-there w.epochs c.own index c.hand.last_epoch n) ∙ h)
    ];
    bounds = λ other v under h.
        let below : other < length w.routes = subst (λ n. other < n) (length-set w.routes c.own c.own) under in
        elim (close_after other v h) [
          | inl e ↦ absurd (not_past other (length w.routes) c.site below past (sym e.0))
          | inr e ↦ orderly.bounds other v below e.1
        ];
    sites = subst (λ n. n ≤ length close_world.vnodes) (sym (length-set w.routes c.own c.own)) (subst (λ n. length w.routes ≤ n) (sym (length-set w.vnodes c.site close_vnode)) orderly.sites);
    about = λ at x k site h. subst (λ n. site < n) (sym (length-set w.vnodes c.site close_vnode)) (elim (set_cases w place c.worker close_worker close_here at x k) [
      | inl d ↦ orderly.about place c.worker close_here site (ap (is_about site) c.phase_is ∙ ap (λ (y : Worker). is_about site y.phase) d.1 ∙ h)
      | inr d ↦ orderly.about at x d.1 site h
    ]);
    unseen = λ at x k site far.
        let old_far : length w.vnodes ≤ site = subst (λ n. n ≤ site) (length-set w.vnodes c.site close_vnode) far in
        elim (set_cases w place c.worker close_worker close_here at x k) [
          | inl d ↦ ap (λ (y : Worker). seen_at y.seen site) (sym d.1)
              ∙ seeing-there c.worker.seen c.site site close_vnode.log (not_past c.site (length w.vnodes) site (get-below w.vnodes c.site c.fallback c.fallback_is) old_far)
              ∙ orderly.unseen place c.worker close_here site old_far
          | inr d ↦ orderly.unseen at x d.1 site old_far
        ];
  }
    where
      limited_here : (index epoch : ℕ) → c.own ≡ index → slice_get (slice_set w.epochs c.own c.hand.last_epoch) index ≡ Some epoch → epoch ≤ max_epoch
      limited_here index epoch e h =
          subst (λ n. n ≤ max_epoch) (set_is w.epochs c.own index c.hand.last_epoch epoch e h)
          (subst (λ (s : State Content). s.last_epoch ≤ max_epoch) (sym close_hand.0) (orderly.sound c.site c.fallback c.fallback_is).limits.1)

  pub orderly-closed : IsOrderly r.0
  orderly-closed = subst (λ (q : World × Outcome). IsOrderly q.0) c.gives orderly-closed-world
