-- A closer's look leaves each partition's course as it is; by its publish the fallback returns: all was brought back.
use Rattle.std.proofs.Common.{◌≡◌, ◌≢◌, inl, inr, ℕ, ◌+◌, ◌<◌, true, [], ◌∷◌, ◌++◌, length, refl, sym, ◌∙◌, ap, subst}
use Rattle.std.proofs.lemmas.Option.{none-some}
use Rattle.std.specs.Prelude.{pred, Some, slice_get}
use Rattle.riak_msgs.specs.declared.Key.{Key}
use Rattle.riak_msgs.specs.Contents.{Content}
use Rattle.actor_epoch.specs.Given.{Context}
use Rattle.vnode_machine.specs.Machine.{State, clock_of}
use Rattle.vnode_machine.specs.Lives.{lives_begun}
use Rattle.vnode_machine.specs.Replay.{replay, HasReplay}
use Rattle.vnode_machine.specs.Registers.{key_of, context_in_ask}
use Rattle.vnode_machine.proofs.Steps.{known}
use Rattle.copy_laws.specs.Copies.{all_commands, commands_of}
use Rattle.copy_laws.specs.Joining.{Log}
use Rattle.copy_laws.specs.Sides.{Partition}
use Rattle.copy_laws.specs.CopyReplay.{primary_after}
use Rattle.copy_laws.specs.Diversions.{Course, Return, diversions_of, fallback_of, fallback_state, primary_of, WasShownInCourse, MayHappenTo}
use Rattle.copy_laws.specs.LastDots.{knows_last_dot}
use Rattle.copy_laws.proofs.CourseCopied.{copied_is_brought}
use Rattle.copy_laws.proofs.Fallback.{log-replay}
use Rattle.node_steps.specs.World.{SiteVnode, Worker, World, CommandsAlone, Call, call_of}
use Rattle.node_steps.specs.Steps.{Action, Outcome, left_in}
use Rattle.node_steps.proofs.Lists.{set-here, set-there, same_or_other, length-set, found_below}
use Rattle.node_steps.proofs.Inside.{state_of}
use Rattle.node_steps.proofs.Unmixed.{commands-all}
use Rattle.node_steps.proofs.Kept.{IsOrderly}
use Rattle.node_steps.proofs.CloseSteps.{IsJudgement, IsClose, some_back}
use Rattle.node_steps.proofs.Closes.{close_here, close_hand, close_open, close_own, close_route, close_fallback, close_vnode, close_world, close_after}
use Rattle.node_steps.proofs.Quiet.{IsQuiet, quiet-judged, quiet-closed}
use Rattle.node_steps.proofs.Judged.{AreJudged}
use Rattle.node_steps.proofs.CallsApart.{route_own}
use Rattle.node_steps.proofs.Coursing.{IsVnode, vnode-state, home_id, away_id, Agrees, IsAway, WasFallback, WasGiven, given-later, IsLawful, IsRun, shown-later, ids, primary-state, away-state, was-later}
use Rattle.vnode_core.proofs.Lefts.{none-left-known}

-- a closer's look
pub run-judged : (run index : ℕ) (w : World) (number : ℕ) (action : Action) (r : World × Outcome) → IsJudgement w number action r
    → (course : Course) (opened : ℕ → ℕ) (Shown : Key → Context → Type 0) (Gives : Key → Type 0) → IsRun run index w course opened Shown Gives → IsRun run index r.0 course opened Shown Gives
run-judged run index w number action r j course opened Shown Gives run_is =
    subst (λ (q : World × Outcome). IsQuiet w q.0 → IsRun run index q.0 course opened Shown Gives) j.gives (λ calm. record {
      known = run_is.known;
      timed = run_is.timed;
      first = run_is.first;
      number = run_is.number;
      side = elim run_is.side [
        | inl own ↦ inl (record { route_is = own.route_is; not_diverted = own.not_diverted; epoch_is = own.epoch_is })
        | inr away ↦ inr (record {
          site = away.site;
          route_is = away.route_is;
          other = away.other;
          diverted = away.diverted;
          vnode = let v = away.vnode in record { vnode = v.vnode; there = v.there; id_is = v.id_is; epoch_is = v.epoch_is; log_is = v.log_is };
          updates = λ place worker h call asked at. let old = calm.calls place worker h call asked in away.updates place old.0 old.1 call (ap call_of old.2 ∙ asked) at;
        })
      ];
      fallbacks = λ n one most last. let f = run_is.fallbacks n one most last in was-later run index w _ course course opened n refl f f.there;
      lawful = λ partition agrees. let law = run_is.lawful partition agrees in record {
        may_happen = law.may_happen;
        to_key = law.to_key;
        vnode = let v = law.vnode in record { vnode = v.vnode; there = v.there; id_is = v.id_is; epoch_is = v.epoch_is; log_is = v.log_is };
        shown = law.shown;
        calls = λ place worker h call asked v there own gives context e.
            let old = calm.calls place worker h call asked in law.calls place old.0 old.1 call (ap call_of old.2 ∙ asked) v there own gives context e;
      };
    }) (quiet-judged w number action r j)

module _ (run index : ℕ) (w : World) (orderly : IsOrderly w) (number : ℕ) (action : Action) (r : World × Outcome) (c : IsClose w number action r) (judged_all : AreJudged w)
    (course : Course) (opened : ℕ → ℕ) (Shown : Key → Context → Type 0) (Gives : Key → Type 0) (run_is : IsRun run index w course opened Shown Gives) where
  abbrev next : World
  next = close_world w orderly number action r c

  abbrev closed : SiteVnode
  closed = close_vnode w orderly number action r c

  abbrev count : ℕ
  count = diversions_of course

  -- a vnode elsewhere stays
  vnode-stays : (site id epoch : ℕ) (log : Log) → c.site ≢ site → IsVnode w site id epoch log → IsVnode next site id epoch log
  vnode-stays site id epoch log n v = record {
    vnode = v.vnode;
    there = set-there w.vnodes c.site site closed n ∙ v.there;
    id_is = v.id_is;
    epoch_is = v.epoch_is;
    log_is = v.log_is;
  }

  -- a vnode afterwards is one of before, of the same partition
  vnode_was : (site : ℕ) (v : SiteVnode) → slice_get next.vnodes site ≡ Some v → (old : SiteVnode) × (slice_get w.vnodes site ≡ Some old) × (old.own ≡ v.own)
  vnode_was site v h = elim (close_after w orderly number action r c site v h) [
    | inl e ↦ (c.fallback, ap (λ k. slice_get w.vnodes k) (sym e.0) ∙ c.fallback_is, ap (λ (u : SiteVnode). u.own) e.1)
    | inr e ↦ (v, e.1, refl)
  ]

  -- a closed fallback is another
  was-stays : (later : Course) (n : ℕ) → fallback_of later n ≡ fallback_of course n → WasFallback run index w course opened n → WasFallback run index next later opened n
  was-stays later n same f =
      was-later run index w next course later opened n same f (set-there w.vnodes c.site f.site closed (λ e. f.closed
      (ap (λ (v : SiteVnode). (state_of v.id v.last_epoch v.log).closed) (sym (some_back c.fallback f.vnode (sym c.fallback_is ∙ ap (λ k. slice_get w.vnodes k) e ∙ f.there)))
      ∙ close_open w orderly number action r c)) ∙ f.there)

  -- a partition's own vnode is another
  not_home : c.site ≢ index
  not_home e =
      let home = orderly.homes c.site c.fallback (subst (λ k. k < length w.routes) (sym e) run_is.known) c.fallback_is in
      (close_fallback w orderly number action r c).apart (sym (close_own w orderly number action r c) ∙ home.0)

  calls-stay : (partition : Partition) (later : Course) → ((key : Key) (context : Context) → WasShownInCourse partition course key context → WasShownInCourse partition later key context)
      → IsLawful run index partition w course Shown Gives → IsQuiet w next → (place : ℕ) (worker : Worker) → slice_get next.workers place ≡ Some worker → (call : Call) → call_of worker.phase ≡ Some call
      → (v : SiteVnode) → slice_get next.vnodes call.site ≡ Some v → v.own ≡ index → Gives (key_of call.ask) → (context : Context) → context_in_ask call.ask ≡ Some context → WasGiven run index partition later (key_of call.ask) context
  calls-stay partition later still law calm place worker h call asked v there own gives context e =
      let old = calm.calls place worker h call asked in
      let vnode = vnode_was call.site v there in
      given-later run index partition course later still (key_of call.ask) context (law.calls place old.0 old.1 call (ap call_of old.2 ∙ asked) vnode.0 vnode.1 (vnode.2 ∙ own) gives context e)

  -- another partition's close
  elsewhere : c.own ≢ index → IsQuiet w next → IsRun run index next course opened Shown Gives
  elsewhere n calm = record {
    known = subst (λ m. index < m) (sym (length-set w.routes c.own c.own)) run_is.known;
    timed = subst (λ m. index < m) (sym (length-set w.epochs c.own c.hand.last_epoch)) run_is.timed;
    first = run_is.first;
    number = run_is.number;
    side = elim run_is.side [
      | inl own ↦ inl (record {
        route_is = set-there w.routes c.own index c.own n ∙ own.route_is;
        not_diverted = own.not_diverted;
        epoch_is = set-there w.epochs c.own index c.hand.last_epoch n ∙ own.epoch_is;
      })
      | inr away ↦ inr (record {
        site = away.site;
        route_is = set-there w.routes c.own index c.own n ∙ away.route_is;
        other = away.other;
        diverted = away.diverted;
        vnode = vnode-stays away.site (away_id run index) (opened count) (all_commands (fallback_of course count)) (λ e. n (sym (close_own w orderly number action r c)
            ∙ ap (λ (v : SiteVnode). v.own) (some_back c.fallback away.vnode.vnode (sym c.fallback_is ∙ ap (λ k. slice_get w.vnodes k) e ∙ away.vnode.there))
            ∙ route_own w orderly index away.site away.route_is away.vnode.vnode away.vnode.there)) away.vnode;
        updates = λ place worker h call asked at. let old = calm.calls place worker h call asked in away.updates place old.0 old.1 call (ap call_of old.2 ∙ asked) at;
      })
    ];
    fallbacks = λ m one most last. was-stays course m refl (run_is.fallbacks m one most last);
    lawful = λ partition agrees. let law = run_is.lawful partition agrees in record {
      may_happen = law.may_happen;
      to_key = law.to_key;
      vnode = vnode-stays index (home_id run index) 0 (primary_of partition course) not_home law.vnode;
      shown = law.shown;
      calls = calls-stay partition course (λ key context s. s) law calm;
    };
  }

  -- its own
  module _ (e : c.own ≡ index) (away : IsAway run index w course opened) (calm : IsQuiet w next) where
    abbrev later : Course
    later = Return ∷ course

    at : away.site ≡ c.site
    at = some_back away.site c.site (sym away.route_is ∙ ap (λ k. slice_get w.routes k) (sym e) ∙ close_route w orderly number action r c)

    fallback_is : away.vnode.vnode ≡ c.fallback
    fallback_is = some_back away.vnode.vnode c.fallback (sym away.vnode.there ∙ ap (λ k. slice_get w.vnodes k) at ∙ c.fallback_is)

    log_is : c.fallback.log ≡ all_commands (fallback_of course count)
    log_is = ap (λ (v : SiteVnode). v.log) (sym fallback_is) ∙ away.vnode.log_is

    only : CommandsAlone c.fallback.log
    only = subst CommandsAlone (sym log_is) (ap (λ h. all_commands h) (sym (commands-all (fallback_of course count))))

    -- the state in hand is the one after the fallback's history, which has given so many epochs
    hand_is : c.hand ≡ replay (away_id run index) (opened count) (fallback_of course count)
    hand_is =
        (close_hand w orderly number action r c).0 ∙ ap (λ (v : SiteVnode). state_of v.id v.last_epoch v.log) (sym fallback_is)
        ∙ vnode-state w away.site (away_id run index) (opened count) (all_commands (fallback_of course count)) away.vnode ∙ log-replay (away_id run index) (opened count) (fallback_of course count)

    epochs : c.hand.last_epoch ≡ opened count + lives_begun (fallback_of course count)
    epochs =
        let plain = orderly.plain c.site c.fallback c.fallback_is only in
        let replays = subst (λ h. HasReplay (away_id run index) (opened count) h) (ap (λ (l : Log). commands_of l) log_is ∙ commands-all (fallback_of course count))
        (subst (λ i. HasReplay i (opened count) (commands_of c.fallback.log)) (ap (λ (v : SiteVnode). v.id) (sym fallback_is) ∙ away.vnode.id_is)
        (subst (λ n. HasReplay c.fallback.id n (commands_of c.fallback.log)) (ap (λ (v : SiteVnode). v.last_epoch) (sym fallback_is) ∙ away.vnode.epoch_is) plain.replays)) in
        ap (λ (s : State Content). s.last_epoch) hand_is ∙ (known (away_id run index) (opened count) (fallback_of course count) replays).epochs

    -- all was brought back
    module _ (partition : Partition) (agrees : Agrees run index opened (diversions_of course) partition) where
      abbrev law : IsLawful run index partition w course Shown Gives
      law = run_is.lawful partition agrees

      hand-state : c.hand ≡ fallback_state partition course
      hand-state =
          (close_hand w orderly number action r c).0 ∙ ap (λ (v : SiteVnode). state_of v.id v.last_epoch v.log) (sym fallback_is)
          ∙ away-state run index opened course partition agrees w away

      all-known : (key : Key) → knows_last_dot (clock_of (primary_after partition (primary_of partition course)) key) (fallback_state partition course) key ≡ true
      all-known key =
          let f = judged_all (pred number) c.worker (close_here w orderly number action r c) c.own c.site c.hand c.count c.phase_is in
          let same = some_back f.primary law.vnode.vnode (sym f.there ∙ ap (λ k. slice_get w.vnodes k) e ∙ law.vnode.there) in
          let primary : state_of f.primary.id f.primary.last_epoch f.primary.log ≡ primary_after partition (primary_of partition course) =
          ap (λ (v : SiteVnode). state_of v.id v.last_epoch v.log) same ∙ vnode-state w index (home_id run index) 0 (primary_of partition course) law.vnode
          ∙ primary-state run index opened count partition agrees (primary_of partition course) in
          none-left-known (primary_after partition (primary_of partition course)) (fallback_state partition course) ((λ i. left_in (sym primary i) (sym hand-state i)) ∙ f.none_left) key

      may-return : (key : Key) → Gives key → MayHappenTo partition key course Return
      may-return key gives = copied_is_brought partition course (ids run index opened count partition agrees) key (law.to_key key gives) away.diverted (all-known key)

    returned-fallback : WasFallback run index next later opened count
    returned-fallback = record {
      site = c.site;
      vnode = closed;
      there = set-here w.vnodes c.site c.fallback closed c.fallback_is;
      own_is = close_own w orderly number action r c ∙ e;
      id_is = ap (λ (v : SiteVnode). v.id) (sym fallback_is) ∙ away.vnode.id_is;
      epoch_is = ap (λ (v : SiteVnode). v.last_epoch) (sym fallback_is) ∙ away.vnode.epoch_is;
      history_is = ap (λ (l : Log). commands_of l) log_is ∙ commands-all (fallback_of course count);
      closed = λ none. none-some c.count (sym none);
    }

    returned : IsRun run index next later opened Shown Gives
    returned = record {
      known = subst (λ m. index < m) (sym (length-set w.routes c.own c.own)) run_is.known;
      timed = subst (λ m. index < m) (sym (length-set w.epochs c.own c.hand.last_epoch)) run_is.timed;
      first = run_is.first;
      number = run_is.number;
      side = inl (record {
        route_is = ap (λ k. slice_get next.routes k) (sym e) ∙ set-here w.routes c.own c.site c.own (close_route w orderly number action r c) ∙ ap (λ k. Some k) e;
        not_diverted = refl;
        epoch_is =
            let old = found_below w.epochs index run_is.timed in
            ap (λ k. slice_get next.epochs k) (sym e) ∙ set-here w.epochs c.own old.0 c.hand.last_epoch (ap (λ k. slice_get w.epochs k) e ∙ old.1) ∙ ap (λ n. Some n) epochs;
      });
      fallbacks = λ n one most last. elim (same_or_other n count) [
        | inl same ↦ subst (λ k. WasFallback run index next later opened k) (sym same) returned-fallback
        | inr m ↦ was-stays later n refl (run_is.fallbacks n one most (λ diverted. m))
      ];
      lawful = λ partition agrees. let law = run_is.lawful partition agrees in record {
        may_happen = (law.may_happen, away.diverted);
        to_key = λ key gives. (law.to_key key gives, away.diverted, may-return partition agrees key gives);
        vnode = vnode-stays index (home_id run index) 0 (primary_of partition course) not_home law.vnode;
        shown = λ key context s. given-later run index partition course later (shown-later run index partition Return course) key context (law.shown key context s);
        calls = calls-stay partition later (shown-later run index partition Return course) law calm;
      };
    }

  closes-on : IsQuiet w next → (happened : Course) × IsRun run index next (happened ++ course) opened Shown Gives
  closes-on calm = elim (same_or_other c.own index) [
    | inl e ↦ elim run_is.side [
      | inl own ↦ absurd (not_home (some_back c.site index (sym (close_route w orderly number action r c) ∙ ap (λ k. slice_get w.routes k) e ∙ own.route_is)))
      | inr away ↦ (Return ∷ [], returned e away calm)
    ]
    | inr n ↦ ([], elsewhere n calm)
  ]

  pub run-closed : (happened : Course) × IsRun run index r.0 (happened ++ course) opened Shown Gives
  run-closed = subst (λ (q : World × Outcome). IsQuiet w q.0 → (happened : Course) × IsRun run index q.0 (happened ++ course) opened Shown Gives) c.gives closes-on (quiet-closed w orderly number action r c)
