-- Each run of a partition is a course: before any step, and so after every schedule.
use Rattle.std.proofs.Common.{◌≡◌, inl, inr, ℕ, zero, suc, ◌<◌, ◌≤◌, List, [], ◌∷◌, ◌++◌, refl, sym, ◌∙◌, ap, arith, subst}
use Rattle.std.proofs.Math.Nat.{zero-add}
use Rattle.std.proofs.lemmas.Option.{none-some}
use Rattle.std.proofs.lemmas.List.{append_assoc}
use Rattle.std.specs.Prelude.{Option, Some, None, Ok, option_map, slice_get}
use Rattle.std.specs.Option.{option_map_or}
use Rattle.riak_msgs.specs.declared.Key.{Key}
use Rattle.actor_epoch.specs.Given.{Context}
use Rattle.actor_epoch.specs.Limits.{max_epoch}
use Rattle.vnode_machine.specs.Registers.{key_of}
use Rattle.vnode_machine.specs.Step.{Response}
use Rattle.copy_laws.specs.Copies.{Command, all_commands, commands_of}
use Rattle.copy_laws.specs.Joining.{Log}
use Rattle.copy_laws.specs.Sides.{Partition}
use Rattle.copy_laws.specs.Diversions.{Course, AtPrimary, Divert, AtFallback, CopyBack, Return, diversions_of, is_diverted, fallback_of, primary_of, Happens, HappensTo, WasShownInCourse}
use Rattle.copy_laws.proofs.Courses.{diverted-some, diversions-grow}
use Rattle.node_steps.specs.World.{SiteVnode, Worker, World, CommandsAlone, fresh_vnode, fresh_worker, id_of, opening_world, route, log_at, call_of, history_of}
use Rattle.node_steps.specs.Steps.{Action, Step, By, Diverts, routed, Outcome, NotPossible, Happened, Replied, acts, diverted}
use Rattle.node_steps.specs.Schedules.{Start, IsStart, world_after}
use Rattle.node_steps.specs.Contexts.{call_by, given_in}
use Rattle.node_steps.specs.Courses.{WasShownThere, GivesShownThere, IsFallbackOf, IsCourseOf, CallsMayBeAsked, RunsAreCourses}
use Rattle.node_steps.proofs.Lists.{same_or_other, get-replicate, get-replicated, length-replicate}
use Rattle.node_steps.proofs.Own.{length-own, vnode_there, own_there}
use Rattle.node_steps.proofs.Inside.{false_true}
use Rattle.node_steps.proofs.Unmixed.{commands-all}
use Rattle.node_steps.proofs.Kept.{IsOrderly, possible}
use Rattle.node_steps.proofs.Diverting.{diversion}
use Rattle.node_steps.proofs.Scheduled.{orderly, sends-well}
use Rattle.node_steps.proofs.CloseSteps.{acts_cases, some_back}
use Rattle.node_steps.proofs.Lifting.{no_reply, not_replied}
use Rattle.node_steps.proofs.CallSites.{sent-by}
use Rattle.node_steps.proofs.CallsApart.{IsApart, route_own}
use Rattle.node_steps.proofs.Uncopied.{stays_apart, call_worker}
use Rattle.node_steps.proofs.Judged.{judged_after}
use Rattle.node_steps.proofs.Claiming.{silent_judged, silent_closed}
use Rattle.node_steps.proofs.Coursing.{IsVnode, home_id, away_id, IsAway, WasFallback, IsRun}
use Rattle.node_steps.proofs.CourseSteps.{course-next}
use Rattle.node_steps.proofs.CourseShows.{run-next}
use Rattle.node_steps.proofs.CourseCloses.{run-judged, run-closed}
use Rattle.node_steps.proofs.CourseDiverts.{some_partition, some_agrees, run-diverted}

run-opening : (start : Start) (index : ℕ) → index < start.vnodes
    → IsRun start.run index (opening_world start.run start.workers start.vnodes) [] (λ n. 0) (λ key context. ⊥) (λ key. Unit {0})
run-opening start index known = record {
  known = subst (λ n. index < n) (sym (length-own 0 start.vnodes)) known;
  timed = subst (λ n. index < n) (sym (length-replicate start.vnodes 0)) known;
  first = refl;
  number = get-replicated start.vnodes index 0 known;
  side = inl (record {
    route_is = own_there 0 start.vnodes index known ∙ ap (λ n. Some n) (zero-add index);
    not_diverted = refl;
    epoch_is = get-replicated start.vnodes index 0 known;
  });
  fallbacks = λ n one most last. absurd (none n one most);
  lawful = λ partition agrees. record {
    may_happen = tt;
    to_key = λ key gives. tt;
    vnode = record {
      vnode = fresh_vnode (id_of start.run index) index 0;
      there = vnode_there start.run 0 start.vnodes index known ∙ ap (λ n. Some (fresh_vnode (id_of start.run n) n 0)) (zero-add index);
      id_is = refl;
      epoch_is = refl;
      log_is = refl;
    };
    shown = λ key context h. absurd h;
    calls = λ place worker h call asked v there own gives context e.
        absurd (none-some call (ap (λ (x : Worker). call_of x.phase) (sym (get-replicate start.workers place fresh_worker worker h)) ∙ asked));
  };
}
  where
    none : (n : ℕ) → 1 ≤ n → n ≤ 0 → ⊥
    none n h k = omega (arith, h, k)

-- a run by the contexts that had been shown, and by the keys for which just such were given
run-shown : (run index : ℕ) (w : World) (course : Course) (opened : ℕ → ℕ) (Shown Later : Key → Context → Type 0) (Gives More : Key → Type 0)
    → ((key : Key) (context : Context) → Later key context → Shown key context) → ((key : Key) → More key → Gives key)
    → IsRun run index w course opened Shown Gives → IsRun run index w course opened Later More
run-shown run index w course opened Shown Later Gives More back still run_is = record {
  known = run_is.known;
  timed = run_is.timed;
  first = run_is.first;
  number = run_is.number;
  side = run_is.side;
  fallbacks = run_is.fallbacks;
  lawful = λ partition agrees. let law = run_is.lawful partition agrees in record {
    may_happen = law.may_happen;
    to_key = λ key more. law.to_key key (still key more);
    vnode = law.vnode;
    shown = λ key context s. law.shown key context (back key context s);
    calls = λ place worker h call asked v there own more context e. law.calls place worker h call asked v there own (still (key_of call.ask) more) context e;
  };
}

-- a run goes on: its course does, and the fallbacks so far stay where they were opened
pub record RunGoesOn (course later : Course) (opened more : ℕ → ℕ) : Type 0 where
  pub happened : Course
  pub is : happened ++ course ≡ later
  pub same : (n : ℕ) → n ≤ diversions_of course → more n ≡ opened n

goes-itself : (course : Course) (opened : ℕ → ℕ) → RunGoesOn course course opened opened
goes-itself course opened = record { happened = []; is = refl; same = λ n most. refl }

goes-trans : (a b c : Course) (opened more most : ℕ → ℕ) → RunGoesOn a b opened more → RunGoesOn b c more most → RunGoesOn a c opened most
goes-trans a b c opened more most first second = record {
  happened = second.happened ++ first.happened;
  is = append_assoc second.happened first.happened a ∙ ap (λ (t : Course). second.happened ++ t) first.is ∙ second.is;
  same = λ n below. second.same n (still n below) ∙ first.same n below;
}
  where
    still : (n : ℕ) → n ≤ diversions_of a → n ≤ diversions_of b
    still n below = let grow = subst (λ (t : Course). diversions_of a ≤ diversions_of t) first.is (diversions-grow first.happened a) in omega (arith, below, grow)

module _ (start : Start) (is : IsStart start) (index : ℕ) (known : index < start.vnodes) where
  -- the keys for which each context that was given had been shown
  abbrev pub Gives : List Step → Key → Type 0
  Gives schedule key = GivesShownThere start index key schedule

  -- the run of a partition after a schedule
  abbrev pub Run : List Step → World → Type 0
  Run schedule w = (course : Course) × (opened : ℕ → ℕ) × IsRun start.run index w course opened (WasShownThere start index schedule) (Gives schedule)

  -- and after one step more
  abbrev Next : List Step → (course : Course) (opened : ℕ → ℕ) → World → Type 0
  Next schedule course opened w = (next : Run schedule w) × RunGoesOn course next.0 opened next.1

  runs-on : (step : Step) (earlier : List Step) → (before : Run earlier (world_after start earlier))
      → Next (step ∷ earlier) before.0 before.1 (world_after start (step ∷ earlier))
  runs-on (By number action) earlier run = by (acts w number to) refl run
    where
      w : World
      w = world_after start earlier

      to : Action
      to = routed (route w) action

      came : (r : World × Outcome) → acts w number to ≡ Some r → option_map_or (λ (q : World × Outcome). q.1) (acts w number to) NotPossible ≡ r.1
      came r h = ap (λ o. option_map_or (λ (q : World × Outcome). q.1) o NotPossible) h

      -- what was shown was shown before, where the step answers nothing
      before-shown : (r : World × Outcome) → acts w number to ≡ Some r → ((response : Response) → r.1 ≡ Replied (Ok response) → ⊥)
          → (key : Key) (context : Context) → WasShownThere start index (By number action ∷ earlier) key context → WasShownThere start index earlier key context
      before-shown r h silent key context s = elim s [
        | inl now ↦ absurd (silent now.2.response (sym (came r h) ∙ now.2.replied))
        | inr was ↦ was
      ]

      by : (o : Option (World × Outcome)) → acts w number to ≡ o → (before : Run earlier w)
          → Next (By number action ∷ earlier) before.0 before.1 (option_map_or (λ (r : World × Outcome). r.0) o w)
      by None h before = (
        (
          before.0,
          before.1,
          run-shown start.run index w before.0 before.1 (WasShownThere start index earlier) (WasShownThere start index (By number action ∷ earlier)) (Gives earlier) (Gives (By number action ∷ earlier))
              (λ key context s. elim s [
                | inl now ↦ absurd (not_replied (Ok now.2.response) (sym (ap (λ o. option_map_or (λ (r : World × Outcome). r.1) o NotPossible) h) ∙ now.2.replied))
                | inr was ↦ was
              ]) (λ key gives. gives.0) before.2,
        ),
        goes-itself before.0 before.1,
      )
      by (Some r) h before = elim (acts_cases w number to r h) [
        | inl does ↦
            let p = possible w number to r does in
            let ordered = orderly start is earlier in
            let apart = stays_apart start is earlier in
            let sends = sent-by w action in
            let n = course-next start.run index w ordered apart number to r p sends before.0 before.1 (WasShownThere start index earlier) (Gives earlier) before.2 in (
              (
                n.0 ++ before.0,
                before.1,
                subst (λ (q : World × Outcome). IsRun start.run index q.0 (n.0 ++ before.0) before.1 (WasShownThere start index (By number action ∷ earlier)) (Gives (By number action ∷ earlier))) p.gives
                    (run-next start.run index w ordered apart number to r p sends before.0 before.1 (WasShownThere start index earlier) (Gives earlier) before.2 (sends-well w action)
                    (Gives (By number action ∷ earlier)) (λ key gives. gives.0)
                    (λ site there key gives context g. gives.1 (λ none. none-some r (sym none ∙ h)) site there context
                    (ap (λ o. option_map_or (λ (x : Worker). given_in (call_by to x.phase) site key) o None) p.worker_is ∙ g)) (n.0 ++ before.0) n.1
                    (WasShownThere start index (By number action ∷ earlier))
                    (λ key context s. elim s [
                      | inl now ↦ inl (record {
                        site = now.0;
                        there = now.1;
                        call = now.2.call;
                        asked = now.2.asked;
                        at = now.2.at;
                        of_key = now.2.of_key;
                        response = now.2.response;
                        replied = ap (λ (q : World × Outcome). q.1) p.gives ∙ sym (came r h) ∙ now.2.replied;
                        decodes = now.2.decodes;
                      })
                      | inr was ↦ inr was
                    ])),
              ),
              record { happened = n.0; is = refl; same = λ m most. refl },
            )
        | inr two ↦ elim two [
          | inl j ↦ (
            (
              before.0,
              before.1,
              run-shown start.run index r.0 before.0 before.1 (WasShownThere start index earlier) (WasShownThere start index (By number action ∷ earlier)) (Gives earlier) (Gives (By number action ∷ earlier))
                  (before-shown r h (λ response e. silent_judged w number (orderly start is earlier) to r j (Ok response) e)) (λ key gives. gives.0)
                  (run-judged start.run index w number to r j before.0 before.1 (WasShownThere start index earlier) (Gives earlier) before.2),
            ),
            goes-itself before.0 before.1,
          )
          | inr c ↦
              let n = run-closed start.run index w (orderly start is earlier) number to r c (judged_after start is earlier) before.0 before.1 (WasShownThere start index earlier) (Gives earlier) before.2 in (
                (
                  n.0 ++ before.0,
                  before.1,
                  run-shown start.run index r.0 (n.0 ++ before.0) before.1 (WasShownThere start index earlier) (WasShownThere start index (By number action ∷ earlier)) (Gives earlier) (Gives (By number action ∷ earlier))
                      (before-shown r h (λ response e. silent_closed w number (orderly start is earlier) to r c (Ok response) e)) (λ key gives. gives.0) n.1,
                ),
                record { happened = n.0; is = refl; same = λ m most. refl },
              )
        ]
      ]
  runs-on (Diverts other) earlier run = by (diverted w other) refl run
    where
      w : World
      w = world_after start earlier

      before-shown : (key : Key) (context : Context) → WasShownThere start index (Diverts other ∷ earlier) key context → WasShownThere start index earlier key context
      before-shown key context s = elim s [
        | inl now ↦ absurd (no_reply (diverted w other) (Ok now.2.response) now.2.replied)
        | inr was ↦ was
      ]

      as_shown : (x : World) (course : Course) (opened : ℕ → ℕ) → IsRun start.run index x course opened (WasShownThere start index earlier) (Gives earlier)
          → IsRun start.run index x course opened (WasShownThere start index (Diverts other ∷ earlier)) (Gives (Diverts other ∷ earlier))
      as_shown x course opened run =
          run-shown start.run index x course opened (WasShownThere start index earlier) (WasShownThere start index (Diverts other ∷ earlier)) (Gives earlier) (Gives (Diverts other ∷ earlier)) before-shown (λ key gives. gives.0) run

      by : (o : Option World) → diverted w other ≡ o → (before : Run earlier w)
          → Next (Diverts other ∷ earlier) before.0 before.1 (option_map_or (λ (r : World × Outcome). r.0) (option_map (λ (next : World). (next, Happened)) o) w)
      by None h before = ((before.0, before.1, as_shown w before.0 before.1 before.2), goes-itself before.0 before.1)
      by (Some next) h before =
          let n = run-diverted start.run index w (orderly start is earlier) other next (diversion w other next h) before.0 before.1 (WasShownThere start index earlier) (Gives earlier) before.2 in
          ((n.0 ++ before.0, n.1, as_shown next (n.0 ++ before.0) n.1 n.3), record { happened = n.0; is = refl; same = n.2 })

  pub runs : (schedule : List Step) → Run schedule (world_after start schedule)
  runs [] = ([], (λ n. 0), run-opening start index known)
  runs (step ∷ earlier) = (runs-on step earlier (runs earlier)).0

  -- what is given until a moment
  pub gives-before : (key : Key) (later earlier : List Step) → GivesShownThere start index key (later ++ earlier) → GivesShownThere start index key earlier
  gives-before key [] earlier gives = gives
  gives-before key (step ∷ later) earlier gives = gives-before key later earlier gives.0

  -- from a moment to a later one the run goes on
  pub runs-later : (later earlier : List Step) → RunGoesOn (runs earlier).0 (runs (later ++ earlier)).0 (runs earlier).1 (runs (later ++ earlier)).1
  unfolding runs
  runs-later [] earlier = goes-itself (runs earlier).0 (runs earlier).1
  runs-later (step ∷ later) earlier =
      let was = runs earlier in
      let mid = runs (later ++ earlier) in
      let now = runs-on step (later ++ earlier) mid in
      goes-trans was.0 mid.0 now.0.0 was.1 mid.1 now.0.1 (runs-later later earlier) now.1

-- until it is diverted nothing comes to a primary but commands
undiverted-alone : (partition : Partition) (course : Course) → Happens partition course → diversions_of course ≡ 0 → CommandsAlone (primary_of partition course)
undiverted-alone partition [] h none = refl
undiverted-alone partition (AtPrimary event ∷ before) h none = ap (λ (l : Log). Command event ∷ l) (undiverted-alone partition before h.0 none)
undiverted-alone partition (Divert ∷ before) h none = absurd (omega (arith, none))
undiverted-alone partition (AtFallback event ∷ before) h none = undiverted-alone partition before h.0 none
undiverted-alone partition (CopyBack key ∷ before) h none = let one = diverted-some before h.1.0 in absurd (omega (arith, one, none))
undiverted-alone partition (Return ∷ before) h none = undiverted-alone partition before h.0 none

-- a run's course, by the logs and histories
module _ (run index : ℕ) (w : World) (orderly : IsOrderly w) (course : Course) (opened : ℕ → ℕ) (Shown : Key → Context → Type 0) (Gives : Key → Type 0) (run_is : IsRun run index w course opened Shown Gives) where
  abbrev partition : Partition
  partition = some_partition run index opened (diversions_of course)

  log_is : (site id epoch : ℕ) (log : Log) → IsVnode w site id epoch log → log_at w site ≡ log
  log_is site id epoch log v = ap (λ o. option_map_or (λ (x : SiteVnode). x.log) o []) v.there ∙ v.log_is

  -- a closed fallback, and the last one
  of_closed : (n : ℕ) (f : WasFallback run index w course opened n) → IsFallbackOf partition w index course n f.site
  of_closed n f = record {
    own = ap (λ o. option_map_or (λ (x : SiteVnode). x.own) o 0) f.there ∙ f.own_is;
    id = ap (λ o. option_map_or (λ (x : SiteVnode). x.id) o 0) f.there ∙ f.id_is;
    epoch = ap (λ o. option_map_or (λ (x : SiteVnode). x.last_epoch) o 0) f.there ∙ f.epoch_is;
    history = ap (λ o. option_map_or (λ (x : SiteVnode). history_of x) o []) f.there ∙ f.history_is;
  }

  of_away : (away : IsAway run index w course opened) → IsFallbackOf partition w index course (diversions_of course) away.site
  of_away away = record {
    own = ap (λ o. option_map_or (λ (x : SiteVnode). x.own) o 0) away.vnode.there ∙ route_own w orderly index away.site away.route_is away.vnode.vnode away.vnode.there;
    id = ap (λ o. option_map_or (λ (x : SiteVnode). x.id) o 0) away.vnode.there ∙ away.vnode.id_is;
    epoch = ap (λ o. option_map_or (λ (x : SiteVnode). x.last_epoch) o 0) away.vnode.there ∙ away.vnode.epoch_is;
    history = ap (λ o. option_map_or (λ (x : SiteVnode). history_of x) o []) away.vnode.there
        ∙ ap (λ (l : Log). commands_of l) away.vnode.log_is ∙ commands-all (fallback_of course (diversions_of course));
  }

  each : (n : ℕ) → 1 ≤ n → n ≤ diversions_of course → (site : ℕ) × IsFallbackOf partition w index course n site
  each n one most = elim run_is.side [
    | inl own ↦ let f = run_is.fallbacks n one most (λ diverted. absurd (false_true (is_diverted course) own.not_diverted diverted)) in (f.site, of_closed n f)
    | inr away ↦ elim (same_or_other n (diversions_of course)) [
      | inl e ↦ (away.site, subst (λ k. IsFallbackOf partition w index course k away.site) (sym e) (of_away away))
      | inr m ↦ let f = run_is.fallbacks n one most (λ diverted. m) in (f.site, of_closed n f)
    ]
  ]

  -- epochs are within the limits
  limit : (n : ℕ) → n ≤ diversions_of course → opened n ≤ max_epoch
  limit zero most = subst (λ k. k ≤ max_epoch) (sym run_is.first) (omega arith)
  limit (suc n) most = elim run_is.side [
    | inl own ↦ of (run_is.fallbacks (suc n) (omega arith) most (λ diverted. absurd (false_true (is_diverted course) own.not_diverted diverted)))
    | inr away ↦ elim (same_or_other (suc n) (diversions_of course)) [
      | inl e ↦ subst (λ k. opened k ≤ max_epoch) (sym e)
          (subst (λ k. k ≤ max_epoch) away.vnode.epoch_is (orderly.vnodes away.site away.vnode.vnode away.vnode.there).limits.1)
      | inr m ↦ of (run_is.fallbacks (suc n) (omega arith) most (λ diverted. m))
    ]
  ]
    where
      of : WasFallback run index w course opened (suc n) → opened (suc n) ≤ max_epoch
      of f = subst (λ k. k ≤ max_epoch) f.epoch_is (orderly.vnodes f.site f.vnode f.there).limits.1

  pub course_of : IsCourseOf partition run w index course
  course_of =
      let law = run_is.lawful partition (some_agrees run index opened (diversions_of course)) in
      let log = log_is index (home_id run index) 0 (primary_of partition course) law.vnode in
      record {
        may_happen = law.may_happen;
        primary_id = refl;
        fallback_id = refl;
        first_epoch = refl;
        id = ap (λ o. option_map_or (λ (x : SiteVnode). x.id) o 0) law.vnode.there ∙ law.vnode.id_is;
        epoch = ap (λ o. option_map_or (λ (x : SiteVnode). x.last_epoch) o 0) law.vnode.there ∙ law.vnode.epoch_is;
        diversions = refl;
        limits = limit;
        primary = sym log;
        undiverted = λ none. subst CommandsAlone (sym log) (undiverted-alone partition course law.may_happen none);
        own = λ route. elim run_is.side [
          | inl own ↦ own.not_diverted
          | inr away ↦ absurd (away.other (some_back index away.site (sym route ∙ away.route_is)))
        ];
        away = λ site route n. elim run_is.side [
          | inl own ↦ absurd (n (some_back site index (sym route ∙ own.route_is)))
          | inr away ↦
              let same = some_back away.site site (sym away.route_is ∙ route) in
              let history = fallback_of course (diversions_of course) in (
                away.diverted,
                subst (λ k. IsFallbackOf partition w index course (diversions_of course) k) same (of_away away),
                subst (λ k. CommandsAlone (log_at w k)) same
                    (subst CommandsAlone (sym (log_is away.site (away_id run index) (opened (diversions_of course)) (all_commands history) away.vnode))
                    (ap (λ h. all_commands h) (sym (commands-all history)))),
              )
        ];
        fallbacks = each;
      }

-- and what is asked of such a key at its own site may be asked
pub calls_may_be_asked : (run index : ℕ) (w : World) → IsOrderly w → IsApart w → (course : Course) (opened : ℕ → ℕ) (Shown : Key → Context → Type 0) (Gives : Key → Type 0)
    → IsRun run index w course opened Shown Gives → (key : Key) → Gives key → CallsMayBeAsked (some_partition run index opened (diversions_of course)) w index course key
calls_may_be_asked run index w orderly apart course opened Shown Gives run_is key gives number call asked at of_key event key_is context_is =
    let x = call_worker w number call asked in
    let law = run_is.lawful (some_partition run index opened (diversions_of course)) (some_agrees run index opened (diversions_of course)) in
    let v = law.vnode in
    let there : slice_get w.vnodes call.site ≡ Some v.vnode = ap (λ k. slice_get w.vnodes k) at ∙ v.there in
    let own : v.vnode.own ≡ index = (orderly.homes index v.vnode run_is.known v.there).0 in
    let given = λ (context : Context) (e : event.context ≡ Some context). law.calls x.0 x.1 x.2 call x.3 v.vnode there own (subst Gives (sym of_key) gives) context (sym context_is ∙ e) in
    record {
      here = elim run_is.side [
        | inl own_side ↦ own_side.not_diverted
        | inr away ↦ absurd (away.other (sym at ∙ apart.away index away.site away.route_is (λ e. away.other (sym e)) x.0 x.1 x.2 call x.3 v.vnode there own))
      ];
      shown = λ context e. subst (λ k. WasShownInCourse (some_partition run index opened (diversions_of course)) course k context) (sym key_is) (given context e).0;
      some = λ context e. (given context e).1;
    }

-- it happens so to such a key
pub happens_to : (run index : ℕ) (w : World) (course : Course) (opened : ℕ → ℕ) (Shown : Key → Context → Type 0) (Gives : Key → Type 0)
    → IsRun run index w course opened Shown Gives → (key : Key) → Gives key → HappensTo (some_partition run index opened (diversions_of course)) key course
happens_to run index w course opened Shown Gives run_is key gives =
    (run_is.lawful (some_partition run index opened (diversions_of course)) (some_agrees run index opened (diversions_of course))).to_key key gives

pub runs_are_courses : RunsAreCourses
runs_are_courses start is schedule index known =
    let run = runs start is index known schedule in
    let w = world_after start schedule in
    let Shown : Key → Context → Type 0 = WasShownThere start index schedule in
    let Given : Key → Type 0 = Gives start is index known schedule in (
      some_partition start.run index run.1 (diversions_of run.0),
      run.0,
      course_of start.run index w (orderly start is schedule) run.0 run.1 Shown Given run.2,
      λ key gives. (
        happens_to start.run index w run.0 run.1 Shown Given run.2 key gives,
        calls_may_be_asked start.run index w (orderly start is schedule) (stays_apart start is schedule) run.0 run.1 Shown Given run.2 key gives,
      ),
    )
