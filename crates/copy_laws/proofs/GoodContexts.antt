-- A context that was shown for a key is never a bad one at the primary.
use Rattle.std.proofs.Common.{◌≡◌, ◌≢◌, ℕ, ◌<◌, ◌≤◌, Bool, true, false, not, ◌&&◌, ◌||◌, cond, List, [], refl, sym, ◌∙◌, ap, arith, subst, inl, inr}
use Rattle.std.specs.Prelude.{◌==◌, ◌⊎◌, nat_lt, Option, Some, None, is_some}
use Rattle.std.specs.Option.{option_map_or}
use Rattle.std.proofs.lemmas.Bool.{cases_lt}
use Rattle.std.proofs.lemmas.Bool.Decides.{nat_tests}
use Rattle.riak_msgs.specs.declared.Key.{Key}
use Rattle.riak_msgs.specs.Contents.{Content}
use Rattle.actor_epoch.specs.declared.Actor.{Actor}
use Rattle.actor_epoch.specs.declared.Dot.{Dot}
use Rattle.actor_epoch.specs.Dots.{actor_eq, covers, counter_in}
use Rattle.actor_epoch.specs.Contexts.{is_well_formed}
use Rattle.actor_epoch.specs.Given.{Context, Pairs}
use Rattle.vnode_machine.specs.Machine.{State, clock_of, own_of, pairs_of, names_unissued_dot, is_bad_context}
use Rattle.vnode_machine.specs.Lives.{is_alive, dot_of}
use Rattle.vnode_machine.proofs.Keys.{key_eq-refl}
use Rattle.vnode_machine.proofs.Tests.{nat_eq-same}
use Rattle.vnode_machine.proofs.Forms.{form-parts}
use Rattle.vnode_machine.proofs.Counters.{actor_eq-same, covers-counter}
use Rattle.copy_laws.specs.Copies.{commands_of, brought}
use Rattle.copy_laws.specs.Sides.{Partition}
use Rattle.copy_laws.specs.CopyReplay.{primary_after}
use Rattle.copy_laws.specs.Joining.{Log, IsJoined}
use Rattle.copy_laws.specs.Diversions.{Course, diversions_of, fallback_of, fallback_state, primary_of, WasShownInCourse, HappensTo}
use Rattle.copy_laws.specs.JointAnswers.{AreWithinLimits}
use Rattle.std.proofs.lemmas.Bool.{or_from}
use Rattle.copy_laws.proofs.Tests.{within-test}
use Rattle.copy_laws.proofs.Since.{clock_at}
use Rattle.copy_laws.proofs.LifeDots.{IsPast, some-same, latest-of, dot-of, issued-past}
use Rattle.copy_laws.proofs.PrimaryDots.{latest-alive, IsTracked}
use Rattle.copy_laws.proofs.Tracked.{tracked}
use Rattle.copy_laws.proofs.Positions.{joined-then}
use Rattle.copy_laws.proofs.Courses.{within, open_always, legal-fallback, happens-before, it-happens}
use Rattle.copy_laws.proofs.CourseDots.{Came, came-later, CameBy, context-came}
use Rattle.copy_laws.proofs.CourseLaw.{all-came, courses_are_hand_offs}
use Rattle.copy_laws.proofs.NamedContexts.{each-issued}
use Rattle.copy_laws.proofs.Formed.{formed-whole, fallback-formed, log-formed}

module _ (partition : Partition) (ids : partition.primary < partition.fallback) (key : Key) where
  abbrev v : ℕ
  v = partition.primary

  abbrev l : ℕ
  l = partition.last_epoch

  joined-at : (course : Course) → HappensTo partition key course → IsJoined partition (primary_of partition course) (brought (primary_of partition course) key) key
  joined-at course happens =
      joined-then partition (primary_of partition course) (fallback_of course) key (courses_are_hand_offs partition course ids key happens).0 [] (primary_of partition course) refl (open_always partition course)

  -- what was shown is of the form of a context
  shown-form : AreWithinLimits partition → (course : Course) → HappensTo partition key course → (context : Context) → WasShownInCourse partition course key context → context ≢ Pairs []
      → (pairs : List Dot) × (context ≡ Pairs pairs) × (is_well_formed pairs ≡ true)
  shown-form limits course happens context w some = by happens' w.shown
    where
      happens' : HappensTo partition key w.moment
      happens' = happens-before partition key w.later w.moment (subst (HappensTo partition key) (sym w.is) happens)

      other : (pairs : List Dot) → context ≡ Pairs pairs → pairs ≢ []
      other pairs e none = some (e ∙ ap (λ ps. Pairs ps) none)

      by : HappensTo partition key w.moment → (context ≡ Pairs (clock_at v l key (primary_of partition w.moment)).known) ⊎ (context ≡ Pairs (clock_of (fallback_state partition w.moment) key).known)
          → (pairs : List Dot) × (context ≡ Pairs pairs) × (is_well_formed pairs ≡ true)
      by h (inl e) =
          let known : List Dot = (clock_at v l key (primary_of partition w.moment)).known in
          (known, e, formed-whole known (log-formed partition limits (primary_of partition w.moment) (brought (primary_of partition w.moment) key) key (joined-at w.moment h) [] (primary_of partition w.moment) refl) (other known e))
      by h (inr e) =
          let known : List Dot = (clock_of (fallback_state partition w.moment) key).known in
          let n : ℕ = diversions_of w.moment in
          (known, e, formed-whole known (fallback-formed partition.fallback (partition.opened n) (limits.fallbacks n (within partition w.moment (it-happens partition key w.moment h))) (fallback_of w.moment n) (legal-fallback partition w.moment (it-happens partition key w.moment h) n) key) (other known e))

  module _ (course : Course) (happens : HappensTo partition key course) where
    abbrev log : Log
    log = primary_of partition course

    abbrev state : State Content
    state = primary_after partition log

    there : IsTracked partition log (brought log key) key (joined-at course happens) log
    there = tracked partition log (brought log key) key (joined-at course happens) [] log refl

    -- a dot of the primary's vnode that came is one of its own
    own-came : (dot : Dot) → Came partition key ids course dot → dot.actor.vnode ≡ v → (n : ℕ) × (dot_of v l (commands_of log) key n ≡ Some dot)
    own-came dot (number, has) vnode = by (number.side == 0) has
      where
        by : (b : Bool) → cond b (dot_of v l (commands_of log) key number.number) (dot_of partition.fallback (partition.opened number.side) (fallback_of course number.side) key number.number) ≡ Some dot
            → (n : ℕ) × (dot_of v l (commands_of log) key n ≡ Some dot)
        by true h = (number.number, h)
        by false h =
            let of = (dot-of partition.fallback (partition.opened number.side) (fallback_of course number.side) key number.number dot h).vnode_is in
            absurd (omega (arith, of, vnode, ids))

    -- so its epoch was given
    epoch-given : (dot : Dot) → Came partition key ids course dot → dot.actor.vnode ≡ v → dot.actor.epoch ≤ state.last_epoch
    epoch-given dot came vnode =
        let own = own-came dot came vnode in
        let until = (dot-of v l (commands_of log) key own.0 dot own.1).until in
        let epochs = there.epochs in
        omega (arith, until, epochs)

    -- and its counter too, at the actor of the key's life
    counter-given : (dot : Dot) → Came partition key ids course dot → (own : Actor) → own_of state key ≡ Some own → dot.actor ≡ own → dot.counter ≤ counter_in (clock_of state key).known own
    counter-given dot came own e same =
        let alive : is_alive (commands_of log) key ≡ true = sym (there.owned key) ∙ ap (λ o. is_some o) e in
        let top = latest-alive v l (commands_of log) key alive in
        let at = there.own top.0 alive top.1 in
        let actor : own ≡ top.0.actor = some-same own top.0.actor (sym e ∙ at.0) in
        let vnode : dot.actor.vnode ≡ v = ap (λ a. a.vnode) (same ∙ actor) ∙ (latest-of v l (commands_of log) key top.0 top.1).vnode_is in
        let number = own-came dot came vnode in
        let reached : top.0.counter ≤ counter_in (clock_of state key).known own =
        subst (λ a. top.0.counter ≤ counter_in (clock_of state key).known a) (sym actor)
        (within-test top.0.counter (counter_in (clock_of state key).known top.0.actor) (sym (covers-counter (clock_of state key).known top.0) ∙ at.1)) in
        elim (cases_lt top.0.counter dot.counter) [
          | inl past ↦ absurd (issued-past v l (commands_of log) key number.0 dot number.1 (vnode, inr (alive, subst (λ o. IsPast o dot) (sym top.1) (sym actor ∙ sym same, past))))
          | inr le ↦ omega (arith, reached, le)
        ]

    issued-pair : (dot : Dot) → Came partition key ids course dot → names_unissued_dot state key dot ≡ false
    issued-pair dot came =
        or_from ((dot.actor.vnode == state.vnode) && nat_lt state.last_epoch dot.actor.epoch) (option_map_or ahead (own_of state key) false)
        (early (dot.actor.vnode == state.vnode) refl) (later (own_of state key) refl)
      where
        ahead : Actor → Bool
        ahead own = actor_eq dot.actor own && nat_lt (counter_in (clock_of state key).known own) dot.counter

        not_less : (a b : ℕ) → b ≤ a → nat_lt a b ≡ false
        not_less a b h = grind (arith, nat_tests)

        early : (b : Bool) → (dot.actor.vnode == state.vnode) ≡ b → (b && nat_lt state.last_epoch dot.actor.epoch) ≡ false
        early true e = not_less state.last_epoch dot.actor.epoch (epoch-given dot came (nat_eq-same dot.actor.vnode state.vnode e ∙ there.vnode))
        early false e = refl

        at_own : (own : Actor) → own_of state key ≡ Some own → (b : Bool) → actor_eq dot.actor own ≡ b → (b && nat_lt (counter_in (clock_of state key).known own) dot.counter) ≡ false
        at_own own e true p = not_less (counter_in (clock_of state key).known own) dot.counter (counter-given dot came own e (actor_eq-same dot.actor own p))
        at_own own e false p = refl

        later : (o : Option Actor) → own_of state key ≡ o → option_map_or ahead o false ≡ false
        later None e = refl
        later (Some own) e = at_own own e (actor_eq dot.actor own) refl

    -- so no context that was shown is bad
    pub good-context : AreWithinLimits partition → (given : Option Context) → ((context : Context) → given ≡ Some context → WasShownInCourse partition course key context)
        → ((context : Context) → given ≡ Some context → context ≢ Pairs []) → is_bad_context state key given ≡ false
    good-context limits None shown some = refl
    good-context limits (Some context) shown some =
        let form = shown-form limits course happens context (shown context refl) (some context refl) in
        let issued = each-issued state key form.0 (form-parts form.0 form.2).within (λ dot h. issued-pair dot (came dot (ap (λ c. covers (pairs_of (Some c)) dot) form.1 ∙ h))) in
        ap (λ c. is_bad_context state key (Some c)) form.1 ∙ (λ i. not (form.2 i) || issued i)
      where
        came : (dot : Dot) → covers (pairs_of (Some context)) dot ≡ true → Came partition key ids course dot
        came dot h =
            let by : CameBy partition key ids course dot = context-came partition key ids course key (Some context) (key_eq-refl key) (all-came partition key ids course happens) shown dot h in
            subst (λ c. Came partition key ids c dot) by.is (came-later partition key ids by.later by.moment dot by.came)
