-- What a worker's step shows, and the contexts of calls after it: so a run goes on with its course.
use Rattle.std.proofs.Common.{◌≡◌, ◌⊎◌, inl, inr, ℕ, false, not, ◌&&◌, cond, [], refl, sym, ◌∙◌, ap, subst}
use Rattle.std.proofs.lemmas.Option.{none-some}
use Rattle.std.specs.Prelude.{◌==◌, pred, Some, None, Ok, slice_get}
use Rattle.riak_msgs.specs.declared.Key.{Key}
use Rattle.riak_msgs.specs.Contents.{Content}
use Rattle.riak_msgs.specs.KeyOrder.{key_eq}
use Rattle.sibling_register.specs.Answers.{RegisterAsk}
use Rattle.actor_epoch.specs.Given.{Context, Pairs, context_of}
use Rattle.vnode_machine.specs.Machine.{State, clock_of}
use Rattle.vnode_machine.specs.Step.{Response}
use Rattle.vnode_machine.specs.Registers.{key_of, context_in_ask}
use Rattle.vnode_machine.proofs.Keys.{key_eq-refl}
use Rattle.copy_laws.specs.Copies.{all_commands}
use Rattle.copy_laws.specs.Joining.{Log}
use Rattle.copy_laws.specs.Sides.{Partition}
use Rattle.copy_laws.specs.CopyReplay.{name_at}
use Rattle.copy_laws.specs.Diversions.{Course, diversions_of, fallback_of, fallback_state, primary_of}
use Rattle.node_steps.specs.World.{SiteVnode, Worker, World, Call, call_of, call_at}
use Rattle.node_steps.specs.Steps.{Action, Asks, is_reap, Outcome, Replied, seeing}
use Rattle.node_steps.specs.Contexts.{context_bytes, call_by, given_in}
use Rattle.node_steps.specs.Courses.{IsSiteOf}
use Rattle.node_steps.proofs.Inside.{state_of, same_test}
use Rattle.node_steps.proofs.Coming.{CallIs}
use Rattle.node_steps.proofs.Kept.{SendsWell, IsOrderly, IsPossible}
use Rattle.node_steps.proofs.CloseSteps.{some_back, set_cases}
use Rattle.node_steps.proofs.CallsApart.{IsApart, vnode_was}
use Rattle.node_steps.proofs.Lifting.{here, turn}
use Rattle.node_steps.proofs.Coursing.{IsVnode, vnode-state, home_id, away_id, Agrees, IsOwn, IsAway, WasGiven, given-later, IsRun, primary-state, away-state}
use Rattle.node_steps.proofs.Growing.{next_of, is_now, shown-context, comes-to}
use Rattle.node_steps.proofs.CourseSteps.{IsNext}

module _ (run index : ℕ) (w : World) (orderly : IsOrderly w) (apart : IsApart w) (number : ℕ) (action : Action) (r : World × Outcome) (p : IsPossible w number action r)
    (sends : (site : ℕ) (ask : RegisterAsk Content Context) → action ≡ Asks site ask
    → (other : ℕ) × (slice_get w.routes other ≡ Some site) × ((not (site == other) && is_reap ask) ≡ false))
    (course : Course) (opened : ℕ → ℕ) (Shown : Key → Context → Type 0) (Gives : Key → Type 0) (run_is : IsRun run index w course opened Shown Gives)
    (wells : SendsWell w action)
    (More : Key → Type 0) (still : (key : Key) → More key → Gives key)
    (gives : (site : ℕ) → IsSiteOf w index site → (key : Key) → More key → (context : Context) → given_in (call_by action p.worker.phase) site key ≡ Some context → Shown key context)
    (later : Course) (goes : IsNext run index w orderly apart number action r p sends course opened Shown Gives run_is later) where
  abbrev next : World
  next = next_of w orderly number action r p

  abbrev now : Worker
  now = record { phase = p.turn.phase; seen = seeing p.worker.seen p.index p.turn.seen }

  -- a context that the step shows
  pub record IsShownNow (key : Key) (context : Context) : Type 0 where
    pub site : ℕ
    pub there : IsSiteOf w index site
    pub call : Call
    pub asked : call_at w number ≡ Some call
    pub at : call.site ≡ site
    pub of_key : key_of call.ask ≡ key
    pub response : Response
    pub replied : p.turn.outcome ≡ Replied (Ok response)
    pub decodes : context_of (context_bytes response) ≡ Some context

  module _ (partition : Partition) (agrees : Agrees run index opened (diversions_of later) partition) where
    agrees_before : Agrees run index opened (diversions_of course) partition
    agrees_before = subst (λ n. Agrees run index opened n partition) goes.number_is agrees

    -- the state at the step's site afterwards
    state_now : (site id epoch : ℕ) (log : Log) → p.index ≡ site → IsVnode next site id epoch log → state_of p.vnode.id p.vnode.last_epoch p.turn.vnode.log ≡ state_of id epoch log
    state_now site id epoch log e v =
        let t = turn w orderly number action r p in
        let same = some_back p.turn.vnode v.vnode (sym (is_now w orderly number action r p site e) ∙ v.there) in
        sym (λ i. state_of (t.same_id i) (t.same_epoch i) p.turn.vnode.log) ∙ ap (λ (x : SiteVnode). state_of x.id x.last_epoch x.log) same ∙ vnode-state next site id epoch log v

    shown-now : (key : Key) (context : Context) → IsShownNow key context → WasGiven run index partition later key context
    shown-now key context s =
        let found = shown-context w orderly number action r p wells s.response s.replied s.call s.asked context s.decodes in
        let site : p.index ≡ s.site = found.0 ∙ s.at in
        let is : context ≡ Pairs (clock_of (state_of p.vnode.id p.vnode.last_epoch p.turn.vnode.log) key).known =
        found.1 ∙ ap (λ k. Pairs (clock_of (state_of p.vnode.id p.vnode.last_epoch p.turn.vnode.log) k).known) s.of_key in
        (record { later = []; moment = later; is = refl; shown = by is s.there site }, found.2)
      where
        at_home : p.index ≡ index → context ≡ Pairs (clock_of (state_of p.vnode.id p.vnode.last_epoch p.turn.vnode.log) key).known → context ≡ name_at partition (primary_of partition later) key
        at_home e is =
            let state = state_now index (home_id run index) 0 (primary_of partition later) e (goes.lawful partition agrees_before).vnode
            ∙ primary-state run index opened (diversions_of later) partition agrees (primary_of partition later) in
            is ∙ ap (λ (x : State Content). Pairs (clock_of x key).known) state

        at_route : (site : ℕ) → p.index ≡ site → slice_get w.routes index ≡ Some site → context ≡ Pairs (clock_of (state_of p.vnode.id p.vnode.last_epoch p.turn.vnode.log) key).known
            → IsOwn run index next later opened ⊎ IsAway run index next later opened
            → (context ≡ name_at partition (primary_of partition later) key) ⊎ (context ≡ Pairs (clock_of (fallback_state partition later) key).known)
        at_route site e route is (inl own) = inl (at_home (e ∙ some_back site index (sym route ∙ own.route_is)) is)
        at_route site e route is (inr away) =
            let same = some_back site away.site (sym route ∙ away.route_is) in
            let state = state_now away.site (away_id run index) (opened (diversions_of later)) (all_commands (fallback_of later (diversions_of later))) (e ∙ same) away.vnode
            ∙ sym (vnode-state next away.site (away_id run index) (opened (diversions_of later)) (all_commands (fallback_of later (diversions_of later))) away.vnode)
            ∙ away-state run index opened later partition agrees next away in
            inr (is ∙ ap (λ (x : State Content). Pairs (clock_of x key).known) state)

        by : context ≡ Pairs (clock_of (state_of p.vnode.id p.vnode.last_epoch p.turn.vnode.log) key).known → IsSiteOf w index s.site → p.index ≡ s.site
            → (context ≡ name_at partition (primary_of partition later) key) ⊎ (context ≡ Pairs (clock_of (fallback_state partition later) key).known)
        by is (inl home) e = inl (at_home (e ∙ home) is)
        by is (inr route) e = at_route s.site e route is goes.side

    -- the context of a call that comes to a site
    given_is : (call : Call) → call_by action p.worker.phase ≡ Some call → given_in (call_by action p.worker.phase) call.site (key_of call.ask) ≡ context_in_ask call.ask
    given_is call comes =
        ap (λ o. given_in o call.site (key_of call.ask)) comes
        ∙ ap (λ b. cond (b && key_eq (key_of call.ask) (key_of call.ask)) (context_in_ask call.ask) None) (same_test call.site call.site refl)
        ∙ ap (λ b. cond b (context_in_ask call.ask) None) (key_eq-refl (key_of call.ask))

    calls-next : (place : ℕ) (worker : Worker) → slice_get next.workers place ≡ Some worker → (call : Call) → call_of worker.phase ≡ Some call
        → (v : SiteVnode) → slice_get next.vnodes call.site ≡ Some v → v.own ≡ index → More (key_of call.ask)
        → (context : Context) → context_in_ask call.ask ≡ Some context → WasGiven run index partition later (key_of call.ask) context
    calls-next place worker h call asked v there own more context e =
        let old = vnode_was w orderly number action r p apart sends call.site v there in
        let law = run_is.lawful partition agrees_before in
        given-later run index partition course later (goes.lawful partition agrees_before).still (key_of call.ask) context (elim (set_cases w (pred number) p.worker now (here w orderly number action r p) place worker h) [
          | inl d ↦ by old.0 old.1 (sym old.2 ∙ own) (turn w orderly number action r p).call (ap (λ (x : Worker). call_of x.phase) d.1 ∙ asked)
          | inr d ↦ law.calls place worker d.1 call asked old.0 old.1 (sym old.2 ∙ own) (still (key_of call.ask) more) context e
        ])
      where
        by : (old : SiteVnode) → slice_get w.vnodes call.site ≡ Some old → old.own ≡ index → CallIs action p.worker.phase p.turn.phase → call_of p.turn.phase ≡ Some call
            → WasGiven run index partition course (key_of call.ask) context
        by old there own (inl same) k = (run_is.lawful partition agrees_before).calls (pred number) p.worker (here w orderly number action r p) call (sym same ∙ k) old there own (still (key_of call.ask) more) context e
        by old there own (inr (inl none)) k = absurd (none-some call (sym none ∙ k))
        by old there own (inr (inr new)) k =
            let same : new.0 ≡ call = some_back new.0 call (sym new.1 ∙ k) in
            let made = new.2 ∙ ap (λ (c : Call). Some c) same in
            elim (comes-to w orderly number action r p sends call made index old there own) [
              | inl sent ↦ (run_is.lawful partition agrees_before).shown (key_of call.ask) context (gives call.site (inr sent.0) (key_of call.ask) more context (given_is call made ∙ e))
              | inr home ↦ (run_is.lawful partition agrees_before).shown (key_of call.ask) context (gives call.site (inl home.0) (key_of call.ask) more context (given_is call made ∙ e))
            ]

  -- so it is a run still
  pub run-next : (Later : Key → Context → Type 0) → ((key : Key) (context : Context) → Later key context → IsShownNow key context ⊎ Shown key context) → IsRun run index next later opened Later More
  run-next Later splits = record {
    known = run_is.known;
    timed = run_is.timed;
    first = run_is.first;
    number = run_is.number ∙ ap (λ n. Some n) (sym goes.number_is);
    side = goes.side;
    fallbacks = goes.fallbacks;
    lawful = λ partition agrees. let step = goes.lawful partition (agrees_before partition agrees) in record {
      may_happen = step.may_happen;
      to_key = λ key more. step.to_key key (still key more);
      vnode = step.vnode;
      shown = λ key context s. elim (splits key context s) [
        | inl now ↦ shown-now partition agrees key context now
        | inr was ↦ given-later run index partition course later step.still key context ((run_is.lawful partition (agrees_before partition agrees)).shown key context was)
      ];
      calls = calls-next partition agrees;
    };
  }
