-- From one moment of a schedule to a later one.
use Rattle.std.proofs.Common.{◌≡◌, ◌⊎◌, inl, inr, ℕ, ◌+◌, ◌<◌, ◌≤◌, List, [], ◌∷◌, ◌++◌, refl, sym, ◌∙◌, ap, arith, subst}
use Rattle.std.specs.Prelude.{Some, IsTrue}
use Rattle.std.proofs.lemmas.List.{append_assoc}
use Rattle.riak_msgs.specs.declared.Key.{Key}
use Rattle.riak_msgs.specs.Contents.{Content}
use Rattle.sibling_register.specs.Answers.{RegisterAsk}
use Rattle.sibling_register.specs.Siblings.{siblings, is_among}
use Rattle.sibling_register.specs.Leaving.{is_seen_in}
use Rattle.actor_epoch.specs.Given.{Context}
use Rattle.vnode_machine.specs.Lives.{lives_begun}
use Rattle.vnode_machine.specs.Replay.{History}
use Rattle.vnode_machine.specs.Step.{MachineOutcome, Refused, Answered, Accepted, outcome as outcome_of_ask}
use Rattle.copy_laws.specs.Copies.{Copy, Command, Copied, Closed}
use Rattle.copy_laws.specs.Sides.{Partition}
use Rattle.copy_laws.specs.Joining.{Log}
use Rattle.copy_laws.specs.Diversions.{Course, CopyBack, diversions_of, fallback_of, primary_of}
use Rattle.copy_laws.proofs.Courses.{diversions-grow, fallback-grows, CopyMade, copy-made}
use Rattle.copy_laws.proofs.MoreSides.{none-come, any-more}
use Rattle.node_steps.specs.World.{World, Call, id_at, last_epoch_at, log_at}
use Rattle.node_steps.specs.Steps.{event_at, Step, after}
use Rattle.node_steps.specs.Schedules.{Start, IsStart, world_after, Begins}
use Rattle.node_steps.specs.Courses.{WasShownThere, GivesShownThere, IsCourseOf}
use Rattle.node_steps.specs.Told.{log_by}
use Rattle.node_steps.specs.Claims.{state_at, RepliesAt, FallbacksTakeCommands}
use Rattle.node_steps.specs.HandOffs.{HandsOff, HandsOffKey}
use Rattle.node_steps.specs.Moments.{LogsGrow, with_diversions, GoesOn, GoesOnFor, PartitionsGoOn}
use Rattle.node_steps.proofs.Kept.{IsOrderly}
use Rattle.node_steps.proofs.Scheduled.{orderly}
use Rattle.node_steps.proofs.FallbackLogs.{fallbacks_take_commands}
use Rattle.node_steps.proofs.CloseSteps.{some_back}
use Rattle.node_steps.proofs.Judged.{AreJudged, judged_after}
use Rattle.node_steps.proofs.Uncopied.{stays_apart}
use Rattle.node_steps.proofs.Claiming.{replies_are_registers, nothing_else_happens}
use Rattle.node_steps.proofs.Coursing.{IsRun}
use Rattle.node_steps.proofs.CourseDiverts.{some_partition}
use Rattle.node_steps.proofs.CourseLaw.{RunGoesOn, Run, runs, gives-before, runs-later, course_of, calls_may_be_asked, happens_to}
use Rattle.node_steps.proofs.Joined.{hands_off, hands_off_key}

-- by one step
module _ (w : World) (orderly : IsOrderly w) (fallbacks : FallbacksTakeCommands w) (judged : AreJudged w) (step : Step) (site : ℕ) where
  by-machine : (id epoch : ℕ) (log : Log) (ask : RegisterAsk Content Context) (came : MachineOutcome) → Begins log (log_by id epoch log ask came)
  by-machine id epoch log ask (Refused number) = ([], refl)
  by-machine id epoch log ask (Answered response) = ([], refl)
  by-machine id epoch log ask (Accepted operation response next) = (Command (event_at id epoch log ask operation) ∷ [], refl)

  replied : RepliesAt w step site → Begins (log_at w site) (log_at (after w step) site)
  replied a =
      let m = replies_are_registers w orderly fallbacks step a.reply a.replied in
      let same : m.call ≡ a.call = some_back m.call a.call (sym m.asked ∙ a.asked) in
      subst (λ k. Begins (log_at w k) (log_at (after w step) k)) (ap (λ (c : Call). c.site) same ∙ a.at)
      (subst (λ (l : Log). Begins (log_at w m.call.site) l) (sym m.log_is)
      (by-machine (id_at w m.call.site) (last_epoch_at w m.call.site) (log_at w m.call.site) m.call.ask (outcome_of_ask (state_at w m.call.site) m.call.ask)))

  grows-by : Begins (log_at w site) (log_at (after w step) site)
  grows-by = elim (nothing_else_happens w orderly judged step site) [
    | inl same ↦ ([], sym same)
    | inr more ↦ elim more [
      | inl a ↦ replied a
      | inr rest ↦ elim rest [
        | inl c ↦ (Copied c.copy ∷ [], sym c.log_is)
        | inr c ↦ (Closed c.number ∷ [], sym c.log_is)
      ]
    ]
  ]

pub logs_grow : LogsGrow
logs_grow start is [] earlier site = ([], refl)
logs_grow start is (step ∷ later) earlier site =
    let rest = logs_grow start is later earlier site in
    let one = grows-by (world_after start (later ++ earlier)) (orderly start is (later ++ earlier)) (fallbacks_take_commands start is (later ++ earlier)) (judged_after start is (later ++ earlier)) step site in
    (one.0 ++ rest.0, append_assoc one.0 rest.0 (log_at (world_after start earlier) site) ∙ ap (λ (l : Log). one.0 ++ l) rest.1 ∙ one.1)

-- a copy in a course's log is of a diversion that had come
copy-of-course : (partition : Partition) (course : Course) (later before : Log) (copy : Copy Content) → later ++ Copied copy ∷ before ≡ primary_of partition course → copy.diversion ≤ diversions_of course
copy-of-course partition course later before copy e =
    let m : CopyMade partition course copy before = copy-made partition course later copy before e in
    let grow : diversions_of (CopyBack m.key ∷ m.moment) ≤ diversions_of course = subst (λ t. diversions_of (CopyBack m.key ∷ m.moment) ≤ diversions_of t) m.is (diversions-grow m.later (CopyBack m.key ∷ m.moment)) in
    let is : copy.diversion ≡ diversions_of m.moment = ap (λ (c : Copy Content). c.diversion) m.copy_is in
    omega (arith, grow, is)

-- a run by other epochs of fallbacks that are to come
run-opened : (run index : ℕ) (w : World) (course : Course) (opened more : ℕ → ℕ) (Shown : Key → Context → Type 0) (Gives : Key → Type 0) → ((n : ℕ) → n ≤ diversions_of course → more n ≡ opened n)
    → IsRun run index w course opened Shown Gives → IsRun run index w course more Shown Gives
run-opened run index w course opened more Shown Gives same run_is = record {
  known = run_is.known;
  timed = run_is.timed;
  first = same 0 (omega arith) ∙ run_is.first;
  number = run_is.number;
  side = elim run_is.side [
    | inl own ↦ inl (record {
      route_is = own.route_is;
      not_diverted = own.not_diverted;
      epoch_is = own.epoch_is ∙ ap (λ n. Some (n + lives_begun (fallback_of course (diversions_of course)))) (sym (same (diversions_of course) (omega arith)));
    })
    | inr away ↦ inr (record {
      site = away.site;
      route_is = away.route_is;
      other = away.other;
      diverted = away.diverted;
      vnode = let v = away.vnode in record { vnode = v.vnode; there = v.there; id_is = v.id_is; epoch_is = v.epoch_is ∙ sym (same (diversions_of course) (omega arith)); log_is = v.log_is };
      updates = away.updates;
    })
  ];
  fallbacks = λ n one most last. let f = run_is.fallbacks n one most last in record {
    site = f.site;
    vnode = f.vnode;
    there = f.there;
    own_is = f.own_is;
    id_is = f.id_is;
    epoch_is = f.epoch_is ∙ sym (same n most);
    history_is = f.history_is;
    closed = f.closed;
  };
  lawful = λ partition agrees. run_is.lawful partition (record {
    primary = agrees.primary;
    last_epoch = agrees.last_epoch;
    fallback = agrees.fallback;
    opened_is = λ n most. agrees.opened_is n most ∙ same n most;
    diversions = agrees.diversions;
  });
}

module _ (start : Start) (is : IsStart start) (index : ℕ) (known : index < start.vnodes) where
  -- what was shown by then, and the keys for which just such contexts were given
  abbrev ShownIn : List Step → Key → Context → Type 0
  ShownIn schedule = WasShownThere start index schedule

  abbrev GivenIn : List Step → Key → Type 0
  GivenIn schedule key = GivesShownThere start index key schedule

  module _ (schedule : List Step) (course : Course) (opened : ℕ → ℕ) (run : IsRun start.run index (world_after start schedule) course opened (ShownIn schedule) (GivenIn schedule)) where
    abbrev w : World
    w = world_after start schedule

    abbrev of_run : Partition
    of_run = some_partition start.run index opened (diversions_of course)

    is_course : IsCourseOf of_run start.run w index course
    is_course = course_of start.run index w (orderly start is schedule) course opened (ShownIn schedule) (GivenIn schedule) run

    -- the hand-off of a run, and of a key of it
    handed : HandsOff of_run start.run w index course
    handed = hands_off start is index known of_run course w (orderly start is schedule) (fallbacks_take_commands start is schedule) is_course

    handed-key : (key : Key) → GivenIn schedule key → HandsOffKey of_run w index course key
    handed-key key gives =
        hands_off_key start is index known of_run course w (orderly start is schedule) (fallbacks_take_commands start is schedule) is_course key
        (happens_to start.run index w course opened (ShownIn schedule) (GivenIn schedule) run key gives)
        (calls_may_be_asked start.run index w (orderly start is schedule) (stays_apart start is schedule) course opened (ShownIn schedule) (GivenIn schedule) run key gives)

  module _ (later earlier : List Step) where
    abbrev then : Run start is index known earlier (world_after start earlier)
    then = runs start is index known earlier

    abbrev now : Run start is index known (later ++ earlier) (world_after start (later ++ earlier))
    now = runs start is index known (later ++ earlier)

    abbrev partition : Partition
    partition = some_partition start.run index now.1 (diversions_of now.0)

    goes : RunGoesOn then.0 now.0 then.1 now.1
    goes = runs-later start is index known later earlier

    then-run : IsRun start.run index (world_after start earlier) then.0 now.1 (ShownIn earlier) (GivenIn earlier)
    then-run = run-opened start.run index (world_after start earlier) then.0 then.1 now.1 (ShownIn earlier) (GivenIn earlier) goes.same then.2

    was : HandsOff (with_diversions partition (diversions_of then.0)) start.run (world_after start earlier) index then.0
    was = handed earlier then.0 now.1 then-run

    is-now : HandsOff partition start.run (world_after start (later ++ earlier)) index (goes.happened ++ then.0)
    is-now = subst (λ (c : Course). HandsOff partition start.run (world_after start (later ++ earlier)) index c) (sym goes.is) (handed (later ++ earlier) now.0 now.1 now.2)

    few : diversions_of then.0 ≤ diversions_of now.0
    few = subst (λ (c : Course). diversions_of then.0 ≤ diversions_of c) goes.is (diversions-grow goes.happened then.0)

    grown : Begins (log_at (world_after start earlier) index) (log_at (world_after start (later ++ earlier)) index)
    grown = logs_grow start is later earlier index

    -- each copy that had come is of a diversion that had
    copy-then : (l b : Log) (copy : Copy Content) → l ++ Copied copy ∷ b ≡ log_at (world_after start earlier) index → copy.diversion ≤ diversions_of then.0
    copy-then l b copy e = copy-of-course (with_diversions partition (diversions_of then.0)) then.0 l b copy (e ∙ sym was.is.primary)

    goes-on : GoesOn partition start.run (world_after start earlier) (world_after start (later ++ earlier)) index then.0 goes.happened
    goes-on = record {
      was = was;
      is = is-now;
      between = grown.0;
      grown = grown.1;
      same = λ key. any-more partition (log_at (world_after start earlier) index) key (diversions_of then.0) (diversions_of now.0) few
          (λ n less. none-come key (log_at (world_after start earlier) index) (diversions_of then.0) n less (λ l b copy e itself. copy-then l b copy e));
      leaves_there = λ n.
          let g = fallback-grows goes.happened then.0 n in record {
            between = g.gap;
            is = g.is;
            leaves = λ key number sibling value.
                subst (λ (h : History). IsTrue (is_among (siblings h key) number) ⊎ IsTrue (is_seen_in g.gap key number)) g.is
                (is-now.leaves_there is-now.is.may_happen n [] g.gap (fallback_of then.0 n) g.is key number sibling value);
          };
    }

    goes-on-for : (key : Key) → GivenIn (later ++ earlier) key → GoesOnFor partition (world_after start earlier) (world_after start (later ++ earlier)) index then.0 goes.happened grown.0 key
    goes-on-for key gives =
        let key_now : HandsOffKey partition (world_after start (later ++ earlier)) index (goes.happened ++ then.0) key =
        subst (λ (c : Course). HandsOffKey partition (world_after start (later ++ earlier)) index c key) (sym goes.is) (handed-key (later ++ earlier) now.0 now.1 now.2 key gives) in
        record {
          was = handed-key earlier then.0 now.1 then-run key (gives-before start is index known key later earlier gives);
          is = key_now;
          leaves = key_now.leaves [] grown.0 (log_at (world_after start earlier) index) grown.1;
        }

  -- one course for the whole schedule
  abbrev OfMoment : (later earlier schedule : List Step) → Type 0
  OfMoment later earlier schedule =
      let run = runs start is index known schedule in
      let partition : Partition = some_partition start.run index run.1 (diversions_of run.0) in
      (before : Course) × (happened : Course) × (happened ++ before ≡ run.0)
      × ((on : GoesOn partition start.run (world_after start earlier) (world_after start schedule) index before happened)
      × ((key : Key) → GivenIn schedule key → GoesOnFor partition (world_after start earlier) (world_after start schedule) index before happened on.between key))

  of-moment : (later earlier schedule : List Step) → later ++ earlier ≡ schedule → OfMoment later earlier schedule
  unfolding goes-on grown
  of-moment later earlier schedule e =
      subst (OfMoment later earlier) e ((then later earlier).0, (goes later earlier).happened, (goes later earlier).is, (goes-on later earlier, goes-on-for later earlier))

pub partitions_go_on : PartitionsGoOn
partitions_go_on start is schedule index known =
    let run = runs start is index known schedule in
    (some_partition start.run index run.1 (diversions_of run.0), run.0, λ later earlier e. of-moment start is index known later earlier schedule e)
