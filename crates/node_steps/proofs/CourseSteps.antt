-- A worker's step at one site goes on with a partition's course, by one happening at most.
use Rattle.std.proofs.Common.{◌≡◌, ◌≢◌, ◌⊎◌, inl, inr, ℕ, ◌+◌, ◌<◌, ◌≤◌, true, false, not, ◌&&◌, cond, [], ◌∷◌, ◌++◌, length, refl, sym, ◌∙◌, ap, subst}
use Rattle.std.proofs.lemmas.Option.{none-some}
use Rattle.std.specs.Prelude.{◌==◌, pred, Some, None, slice_get}
use Rattle.std.specs.Option.{option_map_or}
use Rattle.riak_msgs.specs.declared.Key.{Key}
use Rattle.riak_msgs.specs.Contents.{Content}
use Rattle.sibling_register.specs.Answers.{RegisterAsk}
use Rattle.actor_epoch.specs.Given.{Context}
use Rattle.vnode_machine.specs.Copying.{is_stuck}
use Rattle.vnode_machine.specs.Machine.{clock_of, is_held}
use Rattle.vnode_machine.specs.Lives.{lives_begun}
use Rattle.vnode_machine.specs.Replay.{History, AcceptsEvent}
use Rattle.vnode_machine.proofs.Keys.{key_eq-same}
use Rattle.copy_laws.specs.Copies.{Command, Copied, all_commands, commands_of}
use Rattle.copy_laws.specs.Joining.{Log}
use Rattle.copy_laws.specs.Sides.{Partition}
use Rattle.copy_laws.specs.CopyReplay.{primary_after}
use Rattle.copy_laws.specs.Diversions.{Course, AtPrimary, AtFallback, CopyBack, copy_of, diversions_of, is_diverted, fallback_of, primary_of, WasShownInCourse, MayHappen, MayHappenTo, Happens, HappensTo}
use Rattle.copy_laws.proofs.Courses.{legal-fallback}
use Rattle.copy_laws.proofs.Fallback.{log-replay}
use Rattle.node_steps.specs.HeldNames.{saw_held}
use Rattle.node_steps.specs.World.{SiteVnode, Worker, World, Call, diversions_at, brought_by, call_of, copied_to, history_of}
use Rattle.node_steps.specs.Steps.{Action, Asks, is_reap, Outcome, seeing}
use Rattle.node_steps.proofs.Lists.{set-there, same_or_other}
use Rattle.node_steps.proofs.Inside.{state_of, same_test, other_test, IsClockAt}
use Rattle.node_steps.proofs.Unmixed.{commands-all, saw-plain, saw-course}
use Rattle.node_steps.proofs.Coming.{CallIs}
use Rattle.node_steps.proofs.Kept.{IsOrderly, IsPossible}
use Rattle.node_steps.proofs.CloseSteps.{some_back, set_cases}
use Rattle.node_steps.proofs.CallsApart.{IsApart, route_own}
use Rattle.node_steps.proofs.Lifting.{here, turn, from_there, copied_fallback, copied_route}
use Rattle.node_steps.proofs.Coursing.{IsVnode, home_id, away_id, Agrees, IsOwn, IsAway, WasFallback, IsLawful, IsRun, shown-later, ids, by-primary, by-fallback, away-state, was-later}
use Rattle.node_steps.proofs.Growing.{next_of, Grows, Copies, grown, copied-home, closed-same, vnode-there, is_there, is_now, vnode-here, vnode-kept, as-known, comes-to}

module _ (run index : ℕ) (w : World) (orderly : IsOrderly w) (apart : IsApart w) (number : ℕ) (action : Action) (r : World × Outcome) (p : IsPossible w number action r)
    (sends : (site : ℕ) (ask : RegisterAsk Content Context) → action ≡ Asks site ask
    → (other : ℕ) × (slice_get w.routes other ≡ Some site) × ((not (site == other) && is_reap ask) ≡ false))
    (course : Course) (opened : ℕ → ℕ) (Shown : Key → Context → Type 0) (Gives : Key → Type 0) (run_is : IsRun run index w course opened Shown Gives) where
  abbrev next : World
  next = next_of w orderly number action r p

  abbrev now : Worker
  now = record { phase = p.turn.phase; seen = seeing p.worker.seen p.index p.turn.seen }

  abbrev count : ℕ
  count = diversions_of course

  abbrev history : History
  history = fallback_of course (diversions_of course)

  -- what the law has of the course afterwards
  pub record IsStep (partition : Partition) (later : Course) : Type 0 where
    pub may_happen : Happens partition later
    pub to_key : (key : Key) → Gives key → HappensTo partition key later
    pub vnode : IsVnode next index (home_id run index) 0 (primary_of partition later)
    pub still : (key : Key) (context : Context) → WasShownInCourse partition course key context → WasShownInCourse partition later key context

  pub record IsNext (later : Course) : Type 0 where
    pub number_is : diversions_of later ≡ diversions_of course
    pub side : IsOwn run index next later opened ⊎ IsAway run index next later opened
    pub fallbacks : (n : ℕ) → 1 ≤ n → n ≤ diversions_of later → (is_diverted later ≡ true → n ≢ diversions_of later) → WasFallback run index next later opened n
    pub lawful : (partition : Partition) → Agrees run index opened (diversions_of course) partition → IsStep partition later

  -- a closed fallback stays
  was-kept : (later : Course) (n : ℕ) → fallback_of later n ≡ fallback_of course n → WasFallback run index w course opened n → WasFallback run index next later opened n
  was-kept later n same f = elim (same_or_other p.index f.site) [
    | inl e ↦
        let t = turn w orderly number action r p in
        let is = is_there w orderly number action r p f.site f.vnode e f.there in
        let log : p.turn.vnode.log ≡ f.vnode.log =
        closed-same w orderly number action r p (subst (λ (v : SiteVnode). (state_of v.id v.last_epoch v.log).closed ≢ None) (sym is) f.closed) ∙ ap (λ (v : SiteVnode). v.log) is in
        let id = t.same_id ∙ ap (λ (v : SiteVnode). v.id) is in
        let epoch = t.same_epoch ∙ ap (λ (v : SiteVnode). v.last_epoch) is in
        record {
          site = f.site;
          vnode = p.turn.vnode;
          there = is_now w orderly number action r p f.site e;
          own_is = t.same_own ∙ ap (λ (v : SiteVnode). v.own) is ∙ f.own_is;
          id_is = id ∙ f.id_is;
          epoch_is = epoch ∙ f.epoch_is;
          history_is = ap (λ (l : Log). commands_of l) log ∙ f.history_is ∙ sym same;
          closed = λ none. f.closed (sym (λ i. (state_of (id i) (epoch i) (log i)).closed) ∙ none);
        }
    | inr m ↦ was-later run index w next course later opened n same f (set-there w.vnodes p.index f.site p.turn.vnode m ∙ f.there)
  ]

  -- no reap comes to a fallback
  updates-next : (away : IsAway run index w course opened) (place : ℕ) (worker : Worker) → slice_get next.workers place ≡ Some worker → (call : Call) → call_of worker.phase ≡ Some call
      → call.site ≡ away.site → is_reap call.ask ≡ false
  updates-next away place worker h call asked at = elim (set_cases w (pred number) p.worker now (here w orderly number action r p) place worker h) [
    | inl d ↦ by (turn w orderly number action r p).call (ap (λ (x : Worker). call_of x.phase) d.1 ∙ asked)
    | inr d ↦ away.updates place worker d.1 call asked at
  ]
    where
      there : slice_get w.vnodes call.site ≡ Some away.vnode.vnode
      there = ap (λ k. slice_get w.vnodes k) at ∙ away.vnode.there

      own : away.vnode.vnode.own ≡ index
      own = route_own w orderly index away.site away.route_is away.vnode.vnode away.vnode.there

      apart_test : (call.site == index) ≡ false
      apart_test = other_test call.site index (λ e. away.other (sym e ∙ at))

      by : CallIs action p.worker.phase p.turn.phase → call_of p.turn.phase ≡ Some call → is_reap call.ask ≡ false
      by (inl same) k = away.updates (pred number) p.worker (here w orderly number action r p) call (sym same ∙ k) at
      by (inr (inl none)) k = absurd (none-some call (sym none ∙ k))
      by (inr (inr new)) k =
          let same : new.0 ≡ call = some_back new.0 call (sym new.1 ∙ k) in
          elim (comes-to w orderly number action r p sends call (new.2 ∙ ap (λ (c : Call). Some c) same) index away.vnode.vnode there own) [
            | inl sent ↦ sym (ap (λ b. not b && is_reap call.ask) apart_test) ∙ sent.1
            | inr home ↦ absurd (away.other (sym home.0 ∙ at))
          ]

  own-next : IsOwn run index w course opened → (later : Course) → is_diverted later ≡ false → diversions_of later ≡ diversions_of course → fallback_of later (diversions_of course) ≡ fallback_of course (diversions_of course)
      → IsOwn run index next later opened
  own-next own later not_diverted same kept = record {
    route_is = own.route_is;
    not_diverted = not_diverted;
    epoch_is = own.epoch_is ∙ (λ i. Some (opened (sym same i) + lives_begun (sym kept i)))
        ∙ ap (λ n. Some (opened (diversions_of later) + lives_begun (fallback_of later n))) (sym same);
  }

  away-next : (away : IsAway run index w course opened) → (p.index ≡ away.site → p.turn.vnode.log ≡ p.vnode.log) → IsAway run index next course opened
  away-next away same = record {
    site = away.site;
    route_is = away.route_is;
    other = away.other;
    diverted = away.diverted;
    vnode = vnode-kept w orderly number action r p away.site (away_id run index) (opened count) (all_commands history) same away.vnode;
    updates = updates-next away;
  }

  -- the course stays where the logs do
  remains : (p.index ≡ index → p.turn.vnode.log ≡ p.vnode.log) → ((away : IsAway run index w course opened) → p.index ≡ away.site → p.turn.vnode.log ≡ p.vnode.log) → IsNext course
  remains home there = record {
    number_is = refl;
    side = elim run_is.side [
      | inl own ↦ inl (own-next own course own.not_diverted refl refl)
      | inr away ↦ inr (away-next away (there away))
    ];
    fallbacks = λ n one most last. was-kept course n refl (run_is.fallbacks n one most last);
    lawful = λ partition agrees. let law = run_is.lawful partition agrees in record {
      may_happen = law.may_happen;
      to_key = law.to_key;
      vnode = vnode-kept w orderly number action r p index (home_id run index) 0 (primary_of partition course) home law.vnode;
      still = λ key context s. s;
    };
  }

  module _ (partition : Partition) (agrees : Agrees run index opened (diversions_of course) partition) where
    abbrev law : IsLawful run index partition w course Shown Gives
    law = run_is.lawful partition agrees

    abbrev primary_log : Log
    primary_log = primary_of partition course

    -- the context of an event had been shown
    gives-event : (g : Grows w orderly number action r p) → p.vnode.own ≡ index → Gives g.event.key → (context : Context) → g.event.context ≡ Some context → WasShownInCourse partition course g.event.key context
    gives-event g own gives context e =
        subst (λ k. WasShownInCourse partition course k context) (sym g.key_is)
        (law.calls (pred number) p.worker (here w orderly number action r p) g.call g.asked p.vnode (ap (λ k. slice_get w.vnodes k) g.at ∙ p.vnode_is) own (subst Gives g.key_is gives) context (sym g.context_is ∙ e)).0

    -- an event at the primary may happen
    at-primary : (g : Grows w orderly number action r p) → p.index ≡ index → IsOwn run index w course opened → MayHappen partition course (AtPrimary g.event)
    at-primary g at own =
        let event = g.event in
        let known = as-known w orderly number action r p index (home_id run index) 0 primary_log at law.vnode in (
          own.not_diverted,
          by-primary run index opened count partition agrees (λ id epoch. AcceptsEvent (state_of id epoch primary_log) event.key event.context event.operation)
              (known (λ id epoch l. AcceptsEvent (state_of id epoch l) event.key event.context event.operation) g.accepts),
        )

    -- and to its key, where its contexts had been shown: it saw what it had to see
    at-primary-to : (g : Grows w orderly number action r p) → p.index ≡ index → p.vnode.own ≡ index → (key : Key) → Gives key → MayHappenTo partition key course (AtPrimary g.event)
    at-primary-to g at mine key gives itself =
        let event = g.event in
        let known = as-known w orderly number action r p index (home_id run index) 0 primary_log at law.vnode in
        let own_key : Gives event.key = subst Gives (sym (key_eq-same event.key key itself)) gives in (
          by-primary run index opened count partition agrees (λ id epoch. event.saw ≡ saw_held id epoch primary_log event.key event.context event.operation)
              (known (λ id epoch l. event.saw ≡ saw_held id epoch l event.key event.context event.operation) g.saw)
              ∙ saw-course partition (ids run index opened count partition agrees) course event.key (law.to_key event.key own_key) event.context event.operation,
          gives-event g mine own_key,
        )

    -- and one at the fallback
    at-fallback : (g : Grows w orderly number action r p) (away : IsAway run index w course opened) → p.index ≡ away.site → MayHappen partition course (AtFallback g.event)
    at-fallback g away at =
        let event = g.event in
        let known = as-known w orderly number action r p away.site (away_id run index) (opened count) (all_commands history) at away.vnode in
        let replays = legal-fallback partition course law.may_happen count in (
          away.diverted,
          g.update (away.updates (pred number) p.worker (here w orderly number action r p) g.call g.asked (g.at ∙ at)),
          subst (λ s. AcceptsEvent s event.key event.context event.operation) (log-replay partition.fallback (partition.opened count) history)
              (by-fallback run index opened count partition agrees (λ id epoch. AcceptsEvent (state_of id epoch (all_commands history)) event.key event.context event.operation)
              (known (λ id epoch l. AcceptsEvent (state_of id epoch l) event.key event.context event.operation) g.accepts)),
          by-fallback run index opened count partition agrees (λ id epoch. event.saw ≡ saw_held id epoch (all_commands history) event.key event.context event.operation)
              (known (λ id epoch l. event.saw ≡ saw_held id epoch l event.key event.context event.operation) g.saw)
              ∙ saw-plain partition.fallback (partition.opened count) history event.key event.context event.operation replays,
        )

    at-fallback-to : (g : Grows w orderly number action r p) → p.vnode.own ≡ index → (key : Key) → Gives key → MayHappenTo partition key course (AtFallback g.event)
    at-fallback-to g own key gives itself = gives-event g own (subst Gives (sym (key_eq-same g.event.key key itself)) gives)

    -- a copier is inside the fallback, whose state its clock is of
    copies_from : (c : Copies w orderly number action r p) → p.index ≡ index → (away : IsAway run index w course opened) → c.site ≡ away.site
    copies_from c at away = some_back c.site away.site (sym (copied_route w orderly number action r p c) ∙ ap (λ k. slice_get w.routes k) (c.at ∙ at) ∙ away.route_is)

    from-fallback : (c : Copies w orderly number action r p) → p.index ≡ index → (away : IsAway run index w course opened)
        → (IsClockAt away.vnode.vnode.id away.vnode.vnode.last_epoch away.vnode.vnode.log c.key c.clock) × ((brought_by w p.worker).prefix ≡ history_of away.vnode.vnode)
    from-fallback c at away =
        from_there w orderly number action r p c away.vnode.vnode (ap (λ k. slice_get w.vnodes k) (copies_from c at away) ∙ away.vnode.there)

    -- the copy is the one of its key
    copy-is : (c : Copies w orderly number action r p) → p.index ≡ index → (away : IsAway run index w course opened) → p.turn.vnode.log ≡ Copied (copy_of partition course c.key) ∷ p.vnode.log
    copy-is c at away =
        let from = from-fallback c at away in
        let clock = from.0.0 ∙ ap (λ s. clock_of s c.key) (away-state run index opened course partition agrees w away) in
        let prefix = from.1 ∙ ap (λ (l : Log). commands_of l) away.vnode.log_is ∙ commands-all history in
        let number_is : (brought_by w p.worker).diversion ≡ count =
        ap (λ phase. diversions_at w (copied_to phase)) c.phase_is ∙ ap (diversions_at w) (c.at ∙ at) ∙ ap (λ o. option_map_or (λ (n : ℕ). n) o 0) run_is.number in
        c.later_is ∙ (λ i. Copied (record { key = c.key; clock = clock i; diversion = number_is i; prefix = prefix i }) ∷ p.vnode.log)

    -- and may happen
    at-copy : (c : Copies w orderly number action r p) → p.index ≡ index → (away : IsAway run index w course opened) → MayHappen partition course (CopyBack c.key)
    at-copy c at away =
        let from = from-fallback c at away in
        let known = as-known w orderly number action r p index (home_id run index) 0 primary_log at law.vnode in
        let fallback_is = away-state run index opened course partition agrees w away in
        let clock = from.0.0 ∙ ap (λ s. clock_of s c.key) fallback_is in (
          away.diverted,
          ap not (ap (λ d. is_stuck (primary_after partition primary_log) c.key d) (sym clock)
              ∙ by-primary run index opened count partition agrees (λ id epoch. is_stuck (state_of id epoch primary_log) c.key c.clock ≡ false)
              (known (λ id epoch l. is_stuck (state_of id epoch l) c.key c.clock ≡ false) c.open_there)),
          ap (λ s. is_held s c.key) (sym fallback_is) ∙ from.0.1,
        )

  -- the step's vnode is of the partition
  own-home : p.index ≡ index → p.vnode.own ≡ index
  own-home at = (orderly.homes p.index p.vnode (subst (λ k. k < length w.routes) (sym at) run_is.known) p.vnode_is).0 ∙ at

  own-away : (away : IsAway run index w course opened) → p.index ≡ away.site → p.vnode.own ≡ index
  own-away away at =
      ap (λ (v : SiteVnode). v.own) (is_there w orderly number action r p away.site away.vnode.vnode at away.vnode.there)
      ∙ route_own w orderly index away.site away.route_is away.vnode.vnode away.vnode.there

  primary-next : (g : Grows w orderly number action r p) → p.index ≡ index → IsOwn run index w course opened → IsNext (AtPrimary g.event ∷ course)
  primary-next g at own = record {
    number_is = refl;
    side = inl (own-next own (AtPrimary g.event ∷ course) own.not_diverted refl refl);
    fallbacks = λ n one most last. was-kept (AtPrimary g.event ∷ course) n refl (run_is.fallbacks n one most last);
    lawful = λ partition agrees. let law = run_is.lawful partition agrees in record {
      may_happen = (law.may_happen, at-primary partition agrees g at own);
      to_key = λ key gives. (law.to_key key gives, at-primary partition agrees g at own, at-primary-to partition agrees g at (own-home at) key gives);
      vnode = vnode-here w orderly number action r p index (home_id run index) 0 (primary_of partition course) (Command g.event ∷ primary_of partition course) at law.vnode
          (λ was. g.is ∙ ap (λ (l : Log). Command g.event ∷ l) was);
      still = shown-later run index partition (AtPrimary g.event) course;
    };
  }

  fallback-next : (g : Grows w orderly number action r p) (away : IsAway run index w course opened) → p.index ≡ away.site → p.index ≢ index → IsNext (AtFallback g.event ∷ course)
  fallback-next g away at n =
      let later : Course = AtFallback g.event ∷ course in
      let longer : g.event ∷ history ≡ fallback_of later count = sym (ap (λ b. cond b (g.event ∷ history) history) (same_test count count refl)) in
      record {
        number_is = refl;
        side = inr (record {
          site = away.site;
          route_is = away.route_is;
          other = away.other;
          diverted = away.diverted;
          vnode = subst (λ (h : History). IsVnode next away.site (away_id run index) (opened count) (all_commands h)) longer
              (vnode-here w orderly number action r p away.site (away_id run index) (opened count) (all_commands history) (Command g.event ∷ all_commands history) at away.vnode
              (λ was. g.is ∙ ap (λ (l : Log). Command g.event ∷ l) was));
          updates = updates-next away;
        });
        fallbacks = λ m one most last.
            was-kept later m (ap (λ b. cond b (g.event ∷ fallback_of course m) (fallback_of course m)) (other_test count m (λ e. last away.diverted (sym e)))) (run_is.fallbacks m one most last);
        lawful = λ partition agrees. let law = run_is.lawful partition agrees in record {
          may_happen = (law.may_happen, at-fallback partition agrees g away at);
          to_key = λ key gives. (law.to_key key gives, at-fallback partition agrees g away at, at-fallback-to partition agrees g (own-away away at) key gives);
          vnode = vnode-there w orderly number action r p index (home_id run index) 0 (primary_of partition course) n law.vnode;
          still = shown-later run index partition (AtFallback g.event) course;
        };
      }

  copy-next : (c : Copies w orderly number action r p) (away : IsAway run index w course opened) → p.index ≡ index → IsNext (CopyBack c.key ∷ course)
  copy-next c away at = record {
    number_is = refl;
    side = inr (record {
      site = away.site;
      route_is = away.route_is;
      other = away.other;
      diverted = away.diverted;
      vnode = vnode-there w orderly number action r p away.site (away_id run index) (opened count) (all_commands history) (λ e. away.other (sym at ∙ e)) away.vnode;
      updates = updates-next away;
    });
    fallbacks = λ n one most last. was-kept (CopyBack c.key ∷ course) n refl (run_is.fallbacks n one most last);
    lawful = λ partition agrees. let law = run_is.lawful partition agrees in record {
      may_happen = (law.may_happen, at-copy partition agrees c at away);
      to_key = λ key gives. (law.to_key key gives, at-copy partition agrees c at away, tt);
      vnode = vnode-here w orderly number action r p index (home_id run index) 0 (primary_of partition course) (Copied (copy_of partition course c.key) ∷ primary_of partition course) at law.vnode
          (λ was. copy-is partition agrees c at away ∙ ap (λ (l : Log). Copied (copy_of partition course c.key) ∷ l) was);
      still = shown-later run index partition (CopyBack c.key) course;
    };
  }

  -- by an event
  grown-next : (g : Grows w orderly number action r p) → (happened : Course) × IsNext (happened ++ course)
  grown-next g = elim (same_or_other p.index index) [
    | inl at ↦ elim run_is.side [
      | inl own ↦ (AtPrimary g.event ∷ [], primary-next g at own)
      | inr away ↦ absurd (away.other (sym (g.at ∙ at)
          ∙ apart.away index away.site away.route_is (λ e. away.other (sym e)) (pred number) p.worker (here w orderly number action r p) g.call g.asked p.vnode (ap (λ k. slice_get w.vnodes k) g.at ∙ p.vnode_is) (own-home at)))
    ]
    | inr n ↦ elim run_is.side [
      | inl own ↦ ([], remains (λ e. absurd (n e)) (λ away e. absurd (away.other (some_back index away.site (sym own.route_is ∙ away.route_is)))))
      | inr away ↦ elim (same_or_other p.index away.site) [
        | inl at ↦ (AtFallback g.event ∷ [], fallback-next g away at n)
        | inr m ↦ ([], remains (λ e. absurd (n e)) (λ other e. absurd (m (e ∙ some_back other.site away.site (sym other.route_is ∙ away.route_is)))))
      ]
    ]
  ]

  -- by a copy
  copied-next : (c : Copies w orderly number action r p) → (happened : Course) × IsNext (happened ++ course)
  copied-next c = elim (same_or_other p.index index) [
    | inl at ↦ elim run_is.side [
      | inl own ↦ absurd ((copied_fallback w orderly number action r p c).apart
          (c.at ∙ at ∙ some_back index c.site (sym own.route_is ∙ ap (λ k. slice_get w.routes k) (sym (c.at ∙ at)) ∙ copied_route w orderly number action r p c)))
      | inr away ↦ (CopyBack c.key ∷ [], copy-next c away at)
    ]
    | inr n ↦ (
      [],
      remains (λ e. absurd (n e)) (λ away e.
          absurd (n (sym (orderly.homes p.index p.vnode (copied-home w orderly number action r p c) p.vnode_is).0 ∙ own-away away e))),
    )
  ]

  pub course-next : (happened : Course) × IsNext (happened ++ course)
  course-next = elim (grown w orderly number action r p) [
    | inl same ↦ ([], remains (λ e. same) (λ away e. same))
    | inr more ↦ elim more [
      | inl g ↦ grown-next g
      | inr c ↦ copied-next c
    ]
  ]
