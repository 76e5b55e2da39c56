-- What a worker's step at one site makes of the vnodes that a partition's course speaks of.
use Rattle.std.proofs.Common.{◌≡◌, ◌≢◌, ◌⊎◌, inl, inr, ℕ, ◌<◌, ◌≤◌, true, false, not, ◌&&◌, List, [], ◌∷◌, length, refl, sym, ◌∙◌, ap, arith, subst}
use Rattle.std.specs.Prelude.{◌==◌, pred, Option, Some, None, Ok, is_some, slice_get}
use Rattle.std.specs.Option.{option_map_or}
use Rattle.actor_epoch.specs.Contexts.{is_well_formed}
use Rattle.riak_msgs.specs.declared.Key.{Key}
use Rattle.riak_msgs.specs.Contents.{Content}
use Rattle.sibling_register.specs.History.{Event, is_update}
use Rattle.sibling_register.specs.Answers.{RegisterAsk}
use Rattle.actor_epoch.specs.declared.Dot.{Dot}
use Rattle.actor_epoch.specs.Given.{Context, Pairs, context_of}
use Rattle.actor_epoch.proofs.Given.{context_of-encoding}
use Rattle.vnode_machine.specs.Machine.{Stored, State, stored, clock_of}
use Rattle.vnode_machine.specs.Sound.{IsFormed, IsSound as IsSoundState}
use Rattle.vnode_machine.specs.Replay.{AcceptsEvent}
use Rattle.vnode_machine.specs.Step.{Response}
use Rattle.vnode_machine.specs.Registers.{key_of, context_in_ask}
use Rattle.vnode_machine.proofs.Forms.{form-whole}
use Rattle.copy_laws.specs.Copies.{Command}
use Rattle.copy_laws.specs.Joining.{Log}
use Rattle.node_steps.specs.HeldNames.{saw_held}
use Rattle.node_steps.specs.World.{Phase, Turned, SiteVnode, World, Call, brought_by, call_of, call_at}
use Rattle.node_steps.specs.Steps.{Action, Asks, Leaves, Puts, is_reap, Outcome, NotPossible, Happened, Replied, NotHeld, StuckThere, CopiedBack, Elsewhere, LeftThere, turned}
use Rattle.node_steps.specs.Contexts.{context_bytes, call_by}
use Rattle.node_steps.proofs.Lists.{set-here, set-there, same_or_other}
use Rattle.node_steps.proofs.Inside.{state_of, IsOpenAt}
use Rattle.node_steps.proofs.Shown.{AreHeld}
use Rattle.node_steps.proofs.Coming.{between_in, CopyIs, Comes}
use Rattle.node_steps.proofs.Kept.{SendsWell, IsOrderly, IsPossible}
use Rattle.node_steps.proofs.KeptSteps.{sound_next}
use Rattle.node_steps.proofs.CloseSteps.{some_back}
use Rattle.node_steps.proofs.CallsApart.{route_own}
use Rattle.node_steps.proofs.Lifting.{here, turn, copied_fallback, reply_is}
use Rattle.node_steps.proofs.Coursing.{IsVnode}

none_given : (context : Context) → context_of [] ≡ Some context → ⊥
unfolding context_of
none_given context h = cc

-- the context of a held key is its clock's
held_context : (state : State Content) → IsSoundState state → (key : Key) (bytes : List ℕ) (context : Context) → AreHeld state key bytes → context_of bytes ≡ Some context
    → (context ≡ Pairs (clock_of state key).known) × (context ≢ Pairs [])
held_context state sound key bytes context (inl e) decodes = absurd (none_given context (ap context_of (sym e) ∙ decodes))
held_context state sound key bytes context (inr h) decodes =
    let is : context ≡ Pairs (clock_of state key).known = some_back context (Pairs (clock_of state key).known)
    (sym decodes ∙ ap context_of h.1 ∙ context_of-encoding (clock_of state key).known (by (stored state key) h.0 (sound.keys key))) in
    (is, λ empty. some (stored state key) h.0 (sound.keys key) (sym is ∙ empty))
  where
    by : (o : Option (Stored Content)) → is_some o ≡ true → IsFormed o → is_well_formed (option_map_or (λ (s : Stored Content). s.clock) o (record { known = []; live = [] })).known ≡ true
    by None h f = cc
    by (Some s) h f = form-whole s f

    none : (known : List Dot) → 1 ≤ length known → Pairs known ≡ Pairs [] → ⊥
    none [] h e = absurd (omega (arith, h))
    none (dot ∷ known) h e = cc

    some : (o : Option (Stored Content)) → is_some o ≡ true → IsFormed o → Pairs (option_map_or (λ (s : Stored Content). s.clock) o (record { known = []; live = [] })).known ≡ Pairs [] → ⊥
    some None h f e = cc
    some (Some s) h f e = none s.clock.known f.clock.some e

module _ (w : World) (orderly : IsOrderly w) (number : ℕ) (action : Action) (r : World × Outcome) (p : IsPossible w number action r) where
  abbrev pub next_of : World
  next_of = turned w (pred number) p.index p.worker p.turn

  -- the log has an event of the worker's call more, and isn't closed
  pub record Grows : Type 0 where
    pub event : Event Content Context
    pub call : Call
    pub asked : call_of p.worker.phase ≡ Some call
    pub at : call.site ≡ p.index
    pub opened : IsOpenAt p.vnode.id p.vnode.last_epoch p.vnode.log
    pub is : p.turn.vnode.log ≡ Command event ∷ p.vnode.log
    pub key_is : event.key ≡ key_of call.ask
    pub context_is : event.context ≡ context_in_ask call.ask
    pub update : is_reap call.ask ≡ false → is_update event.operation ≡ true
    pub accepts : AcceptsEvent (state_of p.vnode.id p.vnode.last_epoch p.vnode.log) event.key event.context event.operation
    pub saw : event.saw ≡ saw_held p.vnode.id p.vnode.last_epoch p.vnode.log event.key event.context event.operation

  -- or a copy
  abbrev pub Copies : Type 0
  Copies = CopyIs p.vnode.id p.vnode.last_epoch p.index p.worker.phase (brought_by w p.worker) p.vnode.log p.turn.vnode.log

  pub grown : (p.turn.vnode.log ≡ p.vnode.log) ⊎ (Grows ⊎ Copies)
  grown = by p.turn.outcome (turn w orderly number action r p).comes
    where
      by : (came : Outcome) → Comes p.vnode.id p.vnode.last_epoch p.index p.worker.phase (brought_by w p.worker) p.vnode.log p.turn came
          → (p.turn.vnode.log ≡ p.vnode.log) ⊎ (Grows ⊎ Copies)
      by NotPossible h = absurd h
      by Happened h = inl h
      by NotHeld h = inl h
      by StuckThere h = inl h
      by Elsewhere h = inl h
      by (LeftThere keys) h = absurd h
      by CopiedBack h = inr (inr h)
      by (Replied reply) h = elim h.2.event [
        | inl same ↦ inl same
        | inr made ↦ inr (inl (record {
          event = made.0;
          call = h.0;
          asked = h.1;
          at = h.2.at;
          opened = h.2.opened;
          is = made.1;
          key_is = made.2;
          context_is = made.3;
          update = made.4;
          accepts = made.5;
          saw = made.6;
        }))
      ]

  -- a copy goes to a partition's own site
  pub copied-home : (c : Copies) → p.index < length w.routes
  copied-home c =
      let f = copied_fallback w orderly number action r p c in
      subst (λ k. k < length w.routes) (f.own_is ∙ c.at) (orderly.owned c.site f.vnode f.there)

  -- a closed log stays
  pub closed-same : (state_of p.vnode.id p.vnode.last_epoch p.vnode.log).closed ≢ None → p.turn.vnode.log ≡ p.vnode.log
  closed-same closed = elim grown [
    | inl same ↦ same
    | inr more ↦ elim more [
      | inl g ↦ absurd (closed g.opened)
      | inr c ↦ absurd (closed (orderly.homes p.index p.vnode (copied-home c) p.vnode_is).1)
    ]
  ]

  -- what becomes of a vnode: elsewhere nothing
  pub vnode-there : (site id epoch : ℕ) (log : Log) → p.index ≢ site → IsVnode w site id epoch log → IsVnode next_of site id epoch log
  vnode-there site id epoch log n v = record {
    vnode = v.vnode;
    there = set-there w.vnodes p.index site p.turn.vnode n ∙ v.there;
    id_is = v.id_is;
    epoch_is = v.epoch_is;
    log_is = v.log_is;
  }

  pub is_there : (site : ℕ) (v : SiteVnode) → p.index ≡ site → slice_get w.vnodes site ≡ Some v → p.vnode ≡ v
  is_there site v e there = some_back p.vnode v (sym p.vnode_is ∙ ap (λ k. slice_get w.vnodes k) e ∙ there)

  pub is_now : (site : ℕ) → p.index ≡ site → slice_get next_of.vnodes site ≡ Some p.turn.vnode
  is_now site e = ap (λ k. slice_get next_of.vnodes k) (sym e) ∙ set-here w.vnodes p.index p.vnode p.turn.vnode p.vnode_is

  pub vnode-here : (site id epoch : ℕ) (log later : Log) → p.index ≡ site → IsVnode w site id epoch log → (p.vnode.log ≡ log → p.turn.vnode.log ≡ later) → IsVnode next_of site id epoch later
  vnode-here site id epoch log later e v becomes =
      let same = is_there site v.vnode e v.there in
      record {
        vnode = p.turn.vnode;
        there = is_now site e;
        id_is = (turn w orderly number action r p).same_id ∙ ap (λ (x : SiteVnode). x.id) same ∙ v.id_is;
        epoch_is = (turn w orderly number action r p).same_epoch ∙ ap (λ (x : SiteVnode). x.last_epoch) same ∙ v.epoch_is;
        log_is = becomes (ap (λ (x : SiteVnode). x.log) same ∙ v.log_is);
      }

  -- where the log stays it is as it was
  pub vnode-kept : (site id epoch : ℕ) (log : Log) → (p.index ≡ site → p.turn.vnode.log ≡ p.vnode.log) → IsVnode w site id epoch log → IsVnode next_of site id epoch log
  vnode-kept site id epoch log same v = elim (same_or_other p.index site) [
    | inl e ↦ vnode-here site id epoch log log e v (λ was. same e ∙ was)
    | inr n ↦ vnode-there site id epoch log n v
  ]

  -- what holds by the vnode's id, its epoch and its log holds by those that it is known to have
  pub as-known : (site id epoch : ℕ) (log : Log) → p.index ≡ site → IsVnode w site id epoch log → (Holds : (id epoch : ℕ) → Log → Type 0)
      → Holds p.vnode.id p.vnode.last_epoch p.vnode.log → Holds id epoch log
  as-known site id epoch log e v Holds h =
      let same = is_there site v.vnode e v.there in
      subst (λ l. Holds id epoch l) (ap (λ (x : SiteVnode). x.log) same ∙ v.log_is)
      (subst (λ n. Holds id n p.vnode.log) (ap (λ (x : SiteVnode). x.last_epoch) same ∙ v.epoch_is)
      (subst (λ i. Holds i p.vnode.last_epoch p.vnode.log) (ap (λ (x : SiteVnode). x.id) same ∙ v.id_is) h))

  -- a reply's context is that of the key in the state after the step
  pub shown-context : SendsWell w action → (response : Response) → p.turn.outcome ≡ Replied (Ok response) → (call : Call) → call_at w number ≡ Some call → (context : Context)
      → context_of (context_bytes response) ≡ Some context
      → (p.index ≡ call.site) × (context ≡ Pairs (clock_of (state_of p.vnode.id p.vnode.last_epoch p.turn.vnode.log) (key_of call.ask)).known) × (context ≢ Pairs [])
  shown-context wells response replied call asked context decodes =
      let a = reply_is w orderly number action r p (Ok response) replied in
      let same : a.0 ≡ call = some_back a.0 call (sym a.1 ∙ asked) in
      let sound = sound_next w orderly action wells (pred number) p.index p.worker p.vnode p.turn (here w orderly number action r p) p.vnode_is (turn w orderly number action r p) in
      let held = held_context (state_of p.vnode.id p.vnode.last_epoch p.turn.vnode.log) sound (key_of a.0.ask) (context_bytes response) context a.2.shown decodes in (
        sym a.2.at ∙ ap (λ (c : Call). c.site) same,
        held.0
            ∙ ap (λ (c : Call). Pairs (clock_of (state_of p.vnode.id p.vnode.last_epoch p.turn.vnode.log) (key_of c.ask)).known) same,
        held.1,
      )

  module _ (sends : (site : ℕ) (ask : RegisterAsk Content Context) → action ≡ Asks site ask
      → (other : ℕ) × (slice_get w.routes other ≡ Some site) × ((not (site == other) && is_reap ask) ≡ false)) where
    -- a call that comes to a site of a partition comes to where its calls go, and is no reap but at its own; or was turned away to its own
    pub comes-to : (call : Call) → call_by action p.worker.phase ≡ Some call → (index : ℕ) (v : SiteVnode) → slice_get w.vnodes call.site ≡ Some v → v.own ≡ index
        → ((slice_get w.routes index ≡ Some call.site) × ((not (call.site == index) && is_reap call.ask) ≡ false))
        ⊎ ((call.site ≡ index) × ((old : Call) × (call_of p.worker.phase ≡ Some old) × (old.ask ≡ call.ask) × ((u : SiteVnode) × (slice_get w.vnodes old.site ≡ Some u) × (u.own ≡ index))))
    comes-to call made index v there own = by action p.worker.phase refl refl made
      where
        asked : (site : ℕ) (ask : RegisterAsk Content Context) → action ≡ Asks site ask → site ≡ call.site → ask ≡ call.ask
            → (slice_get w.routes index ≡ Some call.site) × ((not (call.site == index) && is_reap call.ask) ≡ false)
        asked site ask e at same =
            let s = sends site ask e in
            let mine : s.0 ≡ index = sym (route_own w orderly s.0 call.site (s.1 ∙ ap (λ k. Some k) at) v there) ∙ own in (
              ap (λ k. slice_get w.routes k) (sym mine) ∙ s.1 ∙ ap (λ k. Some k) at,
              (λ i. not (sym at i == sym mine i) && is_reap (sym same i)) ∙ s.2,
            )

        turned_away : (home site : ℕ) (ask : RegisterAsk Content Context) (hand : Option (State Content)) → p.worker.phase ≡ Turned home site ask hand → home ≡ call.site → ask ≡ call.ask
            → (call.site ≡ index) × ((old : Call) × (call_of p.worker.phase ≡ Some old) × (old.ask ≡ call.ask) × ((u : SiteVnode) × (slice_get w.vnodes old.site ≡ Some u) × (u.own ≡ index)))
        turned_away home site ask hand e at same =
            let f = orderly.between (pred number) p.worker (here w orderly number action r p) home site (ap between_in e) in
            let below : home < length w.routes = subst (λ k. k < length w.routes) f.own_is (orderly.owned site f.vnode f.there) in
            let mine : home ≡ index = sym (orderly.homes home v below (ap (λ k. slice_get w.vnodes k) at ∙ there)).0 ∙ own in
            (sym at ∙ mine, (record { site = site; ask = ask }, ap call_of e, same, (f.vnode, f.there, f.own_is ∙ mine)))

        by : (a : Action) (phase : Phase) → action ≡ a → p.worker.phase ≡ phase → call_by a phase ≡ Some call
            → ((slice_get w.routes index ≡ Some call.site) × ((not (call.site == index) && is_reap call.ask) ≡ false))
            ⊎ ((call.site ≡ index) × ((old : Call) × (call_of p.worker.phase ≡ Some old) × (old.ask ≡ call.ask) × ((u : SiteVnode) × (slice_get w.vnodes old.site ≡ Some u) × (u.own ≡ index))))
        by (Asks site ask) phase e f h = inl (asked site ask e (ap (λ (c : Call). c.site) (some_back _ call h)) (ap (λ (c : Call). c.ask) (some_back _ call h)))
        by Leaves (Turned home site ask None) e f h = inr (turned_away home site ask None f (ap (λ (c : Call). c.site) (some_back _ call h)) (ap (λ (c : Call). c.ask) (some_back _ call h)))
        by Puts (Turned home site ask (Some hand)) e f h = inr (turned_away home site ask (Some hand) f (ap (λ (c : Call). c.site) (some_back _ call h)) (ap (λ (c : Call). c.ask) (some_back _ call h)))
        by a phase e f h = cc
