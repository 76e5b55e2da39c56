-- A context that names a position of the key is never a bad one, at the end of a legal log.
use Rattle.std.proofs.Common.{◌≡◌, ◌≢◌, ℕ, ◌+◌, ◌<◌, ◌≤◌, Bool, true, false, not, ◌&&◌, ◌||◌, cond, List, [], ◌∷◌, ◌++◌, length, refl, sym, ◌∙◌, ap, arith, subst, inl, inr}
use Rattle.std.specs.Prelude.{◌==◌, nat_le, nat_lt, Option, Some, None, is_some}
use Rattle.std.specs.Option.{option_map_or}
use Rattle.std.specs.List.{list_any, list_all}
use Rattle.std.proofs.lemmas.List.{append_assoc, length-map}
use Rattle.std.proofs.lemmas.Bool.{or_from}
use Rattle.std.proofs.lemmas.Bool.Decides.{nat_tests}
use Rattle.riak_msgs.specs.declared.Key.{Key}
use Rattle.riak_msgs.specs.Contents.{Content}
use Rattle.actor_epoch.specs.declared.Actor.{Actor}
use Rattle.actor_epoch.specs.declared.Dot.{Dot}
use Rattle.actor_epoch.specs.Dots.{actor_eq, covers, counter_in}
use Rattle.actor_epoch.specs.Contexts.{is_within_limits, is_well_formed}
use Rattle.actor_epoch.specs.Given.{Context, Malformed, Pairs}
use Rattle.vnode_machine.specs.Machine.{State, clock_of, own_of, same_context, names_unissued_dot, is_bad_context}
use Rattle.vnode_machine.specs.Lives.{is_alive, lives_begun, dot_of}
use Rattle.vnode_machine.proofs.Tests.{and_left, and_right, nat_eq-same}
use Rattle.vnode_machine.proofs.Forms.{form-parts}
use Rattle.vnode_machine.proofs.Counters.{actor_eq-same, actor_eq-refl, covers-counter}
use Rattle.copy_laws.specs.Copies.{Command, Copied, Closed, commands_of, brought}
use Rattle.copy_laws.specs.Sides.{Partition, Number, siblings_at, is_defined_at}
use Rattle.copy_laws.specs.CopyReplay.{primary_after, name_at, named_at}
use Rattle.copy_laws.specs.Joining.{Log, Fallbacks, IsJoined, HasDot, HasCome}
use Rattle.copy_laws.specs.JointAnswers.{AreWithinLimits}
use Rattle.copy_laws.specs.LegalLogs.{IsLegalLog, NamesNoneAt}
use Rattle.copy_laws.proofs.Tests.{or_second, one_of_two, test-within, within-test}
use Rattle.copy_laws.proofs.Clocks.{knows}
use Rattle.copy_laws.proofs.Since.{clock_at}
use Rattle.copy_laws.proofs.Fallback.{known-from}
use Rattle.copy_laws.proofs.LifeDots.{IsPast, IsToCome, some-same, latest-of, dot-of, to-come-before, issued-past}
use Rattle.copy_laws.proofs.PrimaryDots.{CopyIn, latest-alive, IsTracked}
use Rattle.copy_laws.proofs.Tracked.{tracked}
use Rattle.copy_laws.proofs.OwnCommands.{IsNamed, is-named}
use Rattle.copy_laws.proofs.JoinedFacts.{IsOfFallback, of-fallback}
use Rattle.copy_laws.proofs.KnownCome.{value-known}
use Rattle.copy_laws.proofs.Formed.{formed-whole, log-formed}
use Rattle.copy_laws.proofs.Held.{first-live, joined-at, shows-at}

-- a list whose dots were all issued names none that wasn't: each pair is a dot that it covers
module _ (state : State Content) (key : Key) where
  pub each-issued : (pairs : List Dot) → list_all is_within_limits pairs ≡ true → ((dot : Dot) → covers pairs dot ≡ true → names_unissued_dot state key dot ≡ false) → list_any (names_unissued_dot state key) pairs ≡ false
  each-issued [] h issued = refl
  each-issued (pair ∷ pairs) h issued =
      or_from (names_unissued_dot state key pair) (list_any (names_unissued_dot state key) pairs)
      (issued pair (here (and_left (is_within_limits pair) (list_all is_within_limits pairs) h)))
      (each-issued pairs (and_right (is_within_limits pair) (list_all is_within_limits pairs) h)
      (λ dot k. issued dot (or_second (actor_eq pair.actor dot.actor && (nat_le 1 dot.counter && nat_le dot.counter pair.counter)) (covers pairs dot) k)))
    where
      third : (a b c d : Bool) → (a && (b && (c && d))) ≡ true → c ≡ true
      third true true true d h = refl
      third true true false d h = cc
      third true false c d h = cc
      third false b c d h = cc

      here : is_within_limits pair ≡ true → covers (pair ∷ pairs) pair ≡ true
      here w = λ i. (actor_eq-refl pair.actor i && test-within pair.counter (third _ _ (nat_le 1 pair.counter) _ w) i) || covers pairs pair

module _ (partition : Partition) (key : Key) where
  -- what is named is defined
  named-defined : (log : Log) (context : Context) (position : Log) → named_at partition log key context ≡ Some position → is_defined_at partition position key ≡ true
  named-defined [] context position h = cc
  named-defined (entry ∷ before) context position h =
      by (named-defined before context position) (is_defined_at partition (entry ∷ before) key && same_context context (name_at partition (entry ∷ before) key)) refl h
    where
      same : (x y : Log) → Some x ≡ Some y → x ≡ y
      same x y e = cc

      by : (named_at partition before key context ≡ Some position → is_defined_at partition position key ≡ true)
          → (b : Bool) → (is_defined_at partition (entry ∷ before) key && same_context context (name_at partition (entry ∷ before) key)) ≡ b
          → cond b (Some (entry ∷ before)) (named_at partition before key context) ≡ Some position → is_defined_at partition position key ≡ true
      by rest true e k =
          subst (λ t. is_defined_at partition t key ≡ true) (same (entry ∷ before) position k)
          (and_left (is_defined_at partition (entry ∷ before) key) (same_context context (name_at partition (entry ∷ before) key)) e)
      by rest false e k = rest k

module _ (partition : Partition) (log : Log) (fallbacks : Fallbacks) (key : Key) (legal : IsLegalLog partition log fallbacks key) where
  abbrev v : ℕ
  v = partition.primary

  abbrev l : ℕ
  l = partition.last_epoch

  abbrev state : State Content
  state = primary_after partition log

  joined : IsJoined partition log (brought log key) key
  joined = joined-at partition log fallbacks key legal [] log refl

  there : IsTracked partition log (brought log key) key joined log
  there = tracked partition log (brought log key) key joined [] log refl

  -- a dot that wasn't issued is to come
  unissued-to-come : (dot : Dot) → names_unissued_dot state key dot ≡ true → IsToCome v l (commands_of log) key dot
  unissued-to-come dot h =
      elim (one_of_two ((dot.actor.vnode == state.vnode) && nat_lt state.last_epoch dot.actor.epoch) (option_map_or ahead (own_of state key) false) h) [
        | inl a ↦ (nat_eq-same dot.actor.vnode state.vnode (and_left (dot.actor.vnode == state.vnode) (nat_lt state.last_epoch dot.actor.epoch) a) ∙ there.vnode, inl (late (and_right (dot.actor.vnode == state.vnode) (nat_lt state.last_epoch dot.actor.epoch) a)))
        | inr b ↦ own (own_of state key) refl b
      ]
    where
      ahead : Actor → Bool
      ahead own = actor_eq dot.actor own && nat_lt (counter_in (clock_of state key).known own) dot.counter

      less : (a b : ℕ) → nat_lt a b ≡ true → a < b
      less a b h = grind (arith, nat_tests)

      late : nat_lt state.last_epoch dot.actor.epoch ≡ true → l + lives_begun (commands_of log) < dot.actor.epoch
      late h = let past = less state.last_epoch dot.actor.epoch h in let epochs = there.epochs in omega (arith, past, epochs)

      own : (o : Option Actor) → own_of state key ≡ o → option_map_or ahead o false ≡ true → IsToCome v l (commands_of log) key dot
      own None e k = cc
      own (Some actor) e k =
          let alive : is_alive (commands_of log) key ≡ true = sym (there.owned key) ∙ ap (λ o. is_some o) e in
          let top = latest-alive v l (commands_of log) key alive in
          let at = there.own top.0 alive top.1 in
          let is : actor ≡ top.0.actor = some-same actor top.0.actor (sym e ∙ at.0) in
          let same : dot.actor ≡ actor = actor_eq-same dot.actor actor (and_left (actor_eq dot.actor actor) (nat_lt (counter_in (clock_of state key).known actor) dot.counter) k) in
          let past : counter_in (clock_of state key).known actor < dot.counter = less (counter_in (clock_of state key).known actor) dot.counter (and_right (actor_eq dot.actor actor) (nat_lt (counter_in (clock_of state key).known actor) dot.counter) k) in
          let reached : top.0.counter ≤ counter_in (clock_of state key).known actor =
          subst (λ a. top.0.counter ≤ counter_in (clock_of state key).known a) (sym is)
          (within-test top.0.counter (counter_in (clock_of state key).known top.0.actor) (sym (covers-counter (clock_of state key).known top.0) ∙ at.1)) in
          let more : top.0.counter < dot.counter = omega (arith, past, reached) in
          (ap (λ a. a.vnode) (same ∙ is) ∙ (latest-of v l (commands_of log) key top.0 top.1).vnode_is, inr (alive, subst (λ o. IsPast o dot) (sym top.1) (sym is ∙ sym same, more)))

  module _ (gap position : Log) (is : gap ++ position ≡ log) where
    come-through : (gap position : Log) (dot : Dot) → IsToCome v l (commands_of (gap ++ position)) key dot → IsToCome v l (commands_of position) key dot
    come-through [] position dot h = h
    come-through (Command other ∷ gap) position dot h = come-through gap position dot (to-come-before v l other (commands_of (gap ++ position)) key dot h)
    come-through (Copied copy ∷ gap) position dot h = come-through gap position dot h
    come-through (Closed number ∷ gap) position dot h = come-through gap position dot h

    -- no copy brings a dot that is to come
    uncopied : (dot : Dot) → IsToCome v l (commands_of log) key dot → CopyIn key position dot → ⊥
    uncopied dot to_come c =
        elim (known-from partition.fallback (partition.opened c.copy.diversion) key c.copy.prefix facts.replays dot (ap (λ t. knows t dot) (sym facts.clock_is) ∙ c.known)) [
          | inl h ↦ apart (dot-of partition.fallback (partition.opened c.copy.diversion) c.copy.prefix key h.0 dot h.2).vnode_is
          | inr h ↦ covered (legal.came.copied (gap ++ c.later) c.before c.copy (whole, c.itself) dot to_come.0 h)
        ]
      where
        whole : (gap ++ c.later) ++ Copied c.copy ∷ c.before ≡ log
        whole = append_assoc gap c.later (Copied c.copy ∷ c.before) ∙ ap (λ t. gap ++ t) c.is ∙ is

        facts : IsOfFallback partition log (brought log key) key joined c.copy
        facts = of-fallback partition log (brought log key) key joined (gap ++ c.later) c.copy c.before whole c.itself

        apart : dot.actor.vnode ≡ partition.fallback → ⊥
        apart vnode = let own = to_come.0 in let ids = legal.rise.ids in omega (arith, own, vnode, ids)

        covered : (number : Number) × HasDot partition log fallbacks key number dot × HasCome partition log fallbacks key c.before number → ⊥
        covered (number, has, come) = by (number.side == 0) has
          where
            by : (b : Bool) → cond b (dot_of v l (commands_of log) key number.number) (dot_of partition.fallback (partition.opened number.side) (fallbacks number.side) key number.number) ≡ Some dot → ⊥
            by true d = issued-past v l (commands_of log) key number.number dot d to_come
            by false d = apart (dot-of partition.fallback (partition.opened number.side) (fallbacks number.side) key number.number dot d).vnode_is

    -- so what a position knows was issued
    known-issued : (dot : Dot) → knows (clock_at v l key position) dot ≡ true → names_unissued_dot state key dot ≡ false
    known-issued dot k = by (names_unissued_dot state key dot) refl
      where
        by : (b : Bool) → names_unissued_dot state key dot ≡ b → names_unissued_dot state key dot ≡ false
        by false e = e
        by true e =
            let to_come = unissued-to-come dot e in
            let at = tracked partition log (brought log key) key joined gap position is in
            absurd (uncopied dot to_come (at.tight dot (come-through gap position dot (subst (λ t. IsToCome v l (commands_of t) key dot) (sym is) to_come)) k))

    some-known : is_defined_at partition position key ≡ true → (dot : Dot) × (knows (clock_at v l key position) dot ≡ true)
    some-known defined =
        let one = first-live v l key (clock_at v l key position).live (ap (λ n. not (n == 0)) same_length ∙ defined) in
        (one.0, value-known partition position (brought position key) key (joined-at partition log fallbacks key legal gap position is) [] position refl one.0 one.1.0 one.1.1)
      where
        same_length : length (clock_at v l key position).live ≡ length (siblings_at partition position key)
        same_length = sym (length-map _ _) ∙ ap length (shows-at partition log fallbacks key legal gap position is).live ∙ length-map _ _

  -- a named context isn't bad
  named-good : AreWithinLimits partition → (context : Context) (position : Log) → named_at partition log key context ≡ Some position → is_bad_context state key (Some context) ≡ false
  named-good limits context position e = by context (is-named partition key log context position e)
    where
      by : (context : Context) → IsNamed partition key log context position → is_bad_context state key (Some context) ≡ false
      by Malformed n =
          let one = some-known n.gap position n.is (named-defined partition key log context position e) in
          let no : true ≡ false = sym one.1 ∙ ap (λ ps. covers ps one.0) (sym n.pairs) in cc
      by (Pairs pairs) n =
          (λ i. not (form i) || issued i)
        where
          known : List Dot
          known = (clock_at v l key position).known

          one : (dot : Dot) × (knows (clock_at v l key position) dot ≡ true)
          one = some-known n.gap position n.is (named-defined partition key log context position e)

          some : known ≢ []
          some none = let no : true ≡ false = sym one.1 ∙ ap (λ ps. covers ps one.0) none in cc

          whole : is_well_formed (clock_at v l key position).known ≡ true
          whole =
              formed-whole (clock_at v l key position).known
              (log-formed partition limits position (brought position key) key (joined-at partition log fallbacks key legal n.gap position n.is) [] position refl) some

          form : is_well_formed pairs ≡ true
          form = ap is_well_formed n.pairs ∙ whole

          issued : list_any (names_unissued_dot state key) pairs ≡ false
          issued = each-issued state key pairs (form-parts pairs form).within (λ dot h. known-issued n.gap position n.is dot (ap (λ ps. covers ps dot) (sym n.pairs) ∙ h))

  -- so a bad one names none
  pub bad-none : AreWithinLimits partition → (given : Option Context) → is_bad_context state key given ≡ true → NamesNoneAt partition log fallbacks key given
  bad-none limits None h = cc
  bad-none limits (Some context) h = by (named_at partition log key context) refl
    where
      by : (o : Option Log) → named_at partition log key context ≡ o → named_at partition log key context ≡ None
      by None e = e
      by (Some position) e = let no : true ≡ false = sym h ∙ named-good limits context position e in cc
