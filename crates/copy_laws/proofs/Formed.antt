-- What a clock knows at a primary or a fallback is of the form of a context, within the limits.
use Rattle.std.proofs.Common.{◌≡◌, ◌≢◌, ℕ, suc, ◌+◌, ◌<◌, ◌≤◌, Bool, true, false, not, ◌&&◌, ◌||◌, cond, List, [], ◌∷◌, ◌++◌, length, refl, sym, ◌∙◌, ap, arith, subst}
use Rattle.std.specs.Prelude.{◌==◌, nat_le, nat_lt, Option, Some, None, is_some, option_map, unwrap_or}
use Rattle.std.specs.List.{list_all}
use Rattle.std.proofs.lemmas.List.{append_assoc}
use Rattle.std.proofs.lemmas.Bool.Decides.{nat_tests}
use Rattle.riak_msgs.specs.declared.Key.{Key}
use Rattle.riak_msgs.specs.Contents.{Content}
use Rattle.riak_msgs.specs.KeyOrder.{key_eq}
use Rattle.sibling_register.specs.History.{Event, Operation, Write, Tombstone, Reap, is_update}
use Rattle.sibling_register.specs.Refusals.{max_siblings}
use Rattle.actor_epoch.specs.declared.Actor.{Actor}
use Rattle.actor_epoch.specs.declared.Dot.{Dot}
use Rattle.actor_epoch.specs.Limits.{max_epoch, max_counter, max_actors}
use Rattle.actor_epoch.specs.Dots.{counter_in, insert_max, union}
use Rattle.actor_epoch.specs.Contexts.{is_rising, is_within_limits, is_well_formed}
use Rattle.actor_epoch.specs.Given.{Context}
use Rattle.dvv_set.specs.Clocks.{sync}
use Rattle.vnode_machine.specs.Machine.{Stored, State, stored, clock_of, own_of, next_actor, pairs_of, is_bad_context, has_too_many_siblings, has_too_many_actors, is_out_of_epochs, is_out_of_counters, update_check, epoch_after, apply_operation}
use Rattle.vnode_machine.specs.Lives.{next_of, is_alive, lives_begun, latest_dot}
use Rattle.vnode_machine.specs.Replay.{replay, HasReplay, AcceptsEvent, IsWithinLimits}
use Rattle.vnode_machine.specs.Sound.{ArePairs, IsFormed}
use Rattle.vnode_machine.proofs.Keys.{key_eq-same}
use Rattle.vnode_machine.proofs.Tests.{and_both}
use Rattle.vnode_machine.proofs.Invariants.{clock_in}
use Rattle.vnode_machine.proofs.Counters.{all-insert_max, all-union, covers-counter}
use Rattle.vnode_machine.proofs.Rising.{rising-insert_max, rising-union}
use Rattle.vnode_machine.proofs.Forms.{form-parts, counter-most}
use Rattle.vnode_machine.proofs.Formed.{sound_after}
use Rattle.copy_laws.specs.Copies.{Command, Copied, Closed, commands_of}
use Rattle.copy_laws.specs.Sides.{Partition}
use Rattle.copy_laws.specs.CopyReplay.{primary_after, HasEntries}
use Rattle.copy_laws.specs.Joining.{Log, Fallbacks, IsJoined}
use Rattle.copy_laws.specs.JointAnswers.{AreWithinLimits}
use Rattle.copy_laws.proofs.KnownPairs.{accepted-pairs}
use Rattle.copy_laws.proofs.Tests.{le-test, within-test}
use Rattle.copy_laws.proofs.Clocks.{Clock, taken_pairs, discarded, clock-other, clock-reap, clock-uncopied}
use Rattle.copy_laws.proofs.Since.{state_at, clock_at, pairs_at, dot_given, IsUpdate, update-at, sync-at}
use Rattle.copy_laws.proofs.Later.{H}
use Rattle.copy_laws.proofs.LifeDots.{some-same, latest-of}
use Rattle.copy_laws.proofs.PrimaryDots.{latest-alive, accepted, IsTracked}
use Rattle.copy_laws.proofs.Tracked.{tracked, exact-at}
use Rattle.copy_laws.proofs.JoinedFacts.{of-fallback}

-- such pairs rise, within their limits, and aren't too many
pub record AreFormed (pairs : List Dot) : Type 0 where
  pub are : ArePairs pairs
  pub most : length pairs ≤ max_actors

no-pairs : ArePairs []
no-pairs = record { rising = refl; within = refl }

none-formed : AreFormed []
none-formed = record { are = no-pairs; most = omega arith }

-- where there are some, they are of the form of a context
pub formed-whole : (pairs : List Dot) → AreFormed pairs → pairs ≢ [] → is_well_formed pairs ≡ true
formed-whole [] h some = absurd (some refl)
formed-whole (pair ∷ pairs) h some =
    and_both (nat_le 1 (length (pair ∷ pairs)) && nat_le (length (pair ∷ pairs)) max_actors) (is_rising (pair ∷ pairs) && list_all is_within_limits (pair ∷ pairs))
    (and_both (nat_le 1 (length (pair ∷ pairs))) (nat_le (length (pair ∷ pairs)) max_actors) (one (length pairs)) (le-test (length (pair ∷ pairs)) max_actors h.most))
    (and_both (is_rising (pair ∷ pairs)) (list_all is_within_limits (pair ∷ pairs)) h.are.rising h.are.within)
  where
    one : (n : ℕ) → nat_le 1 (suc n) ≡ true
    one n = grind (arith, nat_tests)

-- at a fallback
pub fallback-formed : (v l : ℕ) → IsWithinLimits v l → (history : H) → HasReplay v l history → (key : Key) → AreFormed (clock_of (replay v l history) key).known
fallback-formed v l limits history replays key = by (stored (replay v l history) key) ((sound_after v l limits history replays).keys key)
  where
    by : (o : Option (Stored Content)) → IsFormed o → AreFormed (clock_in o).known
    by None h = none-formed
    by (Some s) h = record { are = h.clock.pairs; most = h.clock.most }

few : (n most : ℕ) → nat_lt most n ≡ false → n ≤ most
few n most h = grind (arith, nat_tests)

-- the checks of an accepted update
record ChecksPass (state : State Content) (at : Key) (given : Option Context) (pairs : List Dot) : Type 0 where
  good : is_bad_context state at given ≡ false
  room : has_too_many_actors state at pairs ≡ false
  epochs : is_out_of_epochs state at ≡ false
  counters : is_out_of_counters state at ≡ false

checks-pass : (state : State Content) (at : Key) (given : Option Context) (pairs : List Dot) → update_check state at given pairs ≡ None → ChecksPass state at given pairs
checks-pass state at given pairs h =
    let c = by (is_bad_context state at given) (has_too_many_siblings state at pairs) (has_too_many_actors state at pairs) (is_out_of_epochs state at) (is_out_of_counters state at) h in
    record { good = c.0; room = c.1; epochs = c.2; counters = c.3 }
  where
    by : (bad crowded full epochs counters : Bool) → cond {A = Option ℕ} bad (Some 4) (cond crowded (Some 5) (cond full (Some 6) (cond epochs (Some 7) (cond counters (Some 8) None)))) ≡ None
        → (bad ≡ false) × (full ≡ false) × (epochs ≡ false) × (counters ≡ false)
    by true crowded full epochs counters h = cc
    by false true full epochs counters h = cc
    by false false true epochs counters h = cc
    by false false false true counters h = cc
    by false false false false true h = cc
    by false false false false false h = (refl, refl, refl, refl)

passed : (state : State Content) (at : Key) (given : Option Context) (operation : Operation Content) → is_update operation ≡ true → AcceptsEvent state at given operation → ChecksPass state at given (taken_pairs state at given operation)
passed state at given (Write content) u a = checks-pass state at given (pairs_of given) a
passed state at None Tombstone u a = checks-pass state at None (clock_of state at).known a.1
passed state at (Some context) Tombstone u a = checks-pass state at (Some context) (pairs_of (Some context)) a
passed state at given Reap u a = cc

-- no epoch is given past the last that there can be
epoch-most : (state : State Content) (at : Key) (given : Option Context) (operation : Operation Content) → state.last_epoch ≤ max_epoch → AcceptsEvent state at given operation
    → (apply_operation state at given operation).last_epoch ≤ max_epoch
epoch-most state at given operation le a = by operation a
  where
    updated : is_out_of_epochs state at ≡ false → epoch_after state at ≤ max_epoch
    updated h = step (is_some (own_of state at)) state.last_epoch max_epoch le h
      where
        step : (b : Bool) (n most : ℕ) → n ≤ most → (not b && (n == most)) ≡ false → cond b n (n + 1) ≤ most
        step true n most le h = le
        step false n most le h = grind (arith, nat_tests)

    by : (operation : Operation Content) → AcceptsEvent state at given operation → (apply_operation state at given operation).last_epoch ≤ max_epoch
    by (Write content) a = updated (passed state at given (Write content) refl a).epochs
    by Tombstone a = updated (passed state at given Tombstone refl a).epochs
    by Reap a = le

pub epochs-most : (partition : Partition) → AreWithinLimits partition → (key : Key) (log : Log) → HasEntries partition key log → (primary_after partition log).last_epoch ≤ max_epoch
epochs-most partition limits key [] h = limits.primary.1
epochs-most partition limits key (Command event ∷ before) h = epoch-most (primary_after partition before) event.key event.context event.operation (epochs-most partition limits key before h.0) h.2.0
epochs-most partition limits key (Copied copy ∷ before) h = epochs-most partition limits key before h.0
epochs-most partition limits key (Closed number ∷ before) h = epochs-most partition limits key before h.0

module _ (partition : Partition) (limits : AreWithinLimits partition) (primary : Log) (fallbacks : Fallbacks) (key : Key) (joined : IsJoined partition primary fallbacks key) where
  abbrev v : ℕ
  v = partition.primary

  abbrev l : ℕ
  l = partition.last_epoch

  entries : (gap log : Log) → gap ++ log ≡ primary → HasEntries partition key log
  entries gap log e = through gap log (subst (HasEntries partition key) (sym e) joined.hand_off.primary_legal)
    where
      through : (gap log : Log) → HasEntries partition key (gap ++ log) → HasEntries partition key log
      through [] log h = h
      through (entry ∷ gap) log h = through gap log h.0

  -- the dot that an update is given
  module _ (gap : Log) (event : Event Content Context) (before : Log) (is : gap ++ Command event ∷ before ≡ primary) (update : IsUpdate v l key event) where
    abbrev state : State Content
    state = state_at v l key before

    abbrev dot : Dot
    dot = dot_given v l key before event

    same_key : event.key ≡ key
    same_key = key_eq-same event.key key update.0

    checks : ChecksPass state event.key event.context (pairs_at v l key before event)
    checks = passed state event.key event.context event.operation update.1 (accepted partition primary fallbacks key joined gap before (Command event) is).0

    shift : (gap ++ Command event ∷ []) ++ before ≡ primary
    shift = append_assoc gap (Command event ∷ []) before ∙ is

    there : IsTracked partition primary fallbacks key joined before
    there = tracked partition primary fallbacks key joined (gap ++ Command event ∷ []) before shift

    exact : latest_dot v l (event ∷ commands_of before) key ≡ Some dot
    exact = exact-at partition primary fallbacks key joined gap event before is update

    abbrev first : Dot
    first = record { actor = record { vnode = v; epoch = (l + lives_begun (commands_of before)) + 1 }; counter = 1 }

    latest-is : (b : Bool) → is_alive (commands_of before) key ≡ b → cond b (option_map next_of (latest_dot v l (commands_of before) key)) (Some first) ≡ Some dot
    latest-is b p =
        sym (λ i. cond (not (update.0 i && update.1 i)) (latest_dot v l (commands_of before) key) (cond (p i) (option_map next_of (latest_dot v l (commands_of before) key)) (Some first))) ∙ exact

    counter-fits : ArePairs (clock_at v l key before).known → dot.counter ≤ max_counter
    counter-fits h = by (is_alive (commands_of before) key) refl
      where
        less : (c n most : ℕ) → c ≤ n → n ≤ most → (n == most) ≡ false → c + 1 ≤ most
        less c n most h k e = grind (arith, nat_tests)

        counters : (own : Actor) → own_of state key ≡ Some own → (counter_in (clock_at v l key before).known own == max_counter) ≡ false
        counters own e =
            sym (ap (λ o. counter_in (clock_at v l key before).known (unwrap_or o (next_actor state)) == max_counter) e)
            ∙ subst (λ k. is_out_of_counters state k ≡ false) same_key checks.counters

        by : (b : Bool) → is_alive (commands_of before) key ≡ b → dot.counter ≤ max_counter
        by false p = subst (λ d. d.counter ≤ max_counter) (some-same first dot (latest-is false p)) (omega arith)
        by true p =
            let top = latest-alive v l (commands_of before) key p in
            let own = there.own top.0 p top.1 in
            let next : next_of top.0 ≡ dot = some-same (next_of top.0) dot (ap (option_map next_of) (sym top.1) ∙ latest-is true p) in
            let reached : top.0.counter ≤ counter_in (clock_at v l key before).known top.0.actor =
            within-test top.0.counter (counter_in (clock_at v l key before).known top.0.actor) (sym (covers-counter (clock_at v l key before).known top.0) ∙ own.1) in
            subst (λ d. d.counter ≤ max_counter) next
            (less top.0.counter (counter_in (clock_at v l key before).known top.0.actor) max_counter reached (counter-most (clock_at v l key before).known top.0.actor h.within) (counters top.0.actor own.0))

    dot-within : ArePairs (clock_at v l key before).known → is_within_limits dot ≡ true
    dot-within h =
        let of = latest-of v l (event ∷ commands_of before) key dot exact in
        let most : (state_at v l key (Command event ∷ before)).last_epoch ≤ max_epoch = epochs-most partition limits key (Command event ∷ before) (entries gap (Command event ∷ before) is) in
        let epochs = (tracked partition primary fallbacks key joined gap (Command event ∷ before) is).epochs in
        let until = of.until in
        let after = of.after in
        within dot.actor.vnode dot.actor.epoch dot.counter (subst (λ n. n < 18446744073709551616) (sym of.vnode_is) limits.primary.0) (omega (arith, after)) (omega (arith, until, most, epochs)) (positive (counter_in (discarded state event.key event.context event.operation).known dot.actor))
        (counter-fits h)
      where
        positive : (n : ℕ) → 1 ≤ n + 1
        positive n = omega arith

        within : (vnode epoch counter : ℕ) → vnode < 18446744073709551616 → 1 ≤ epoch → epoch ≤ max_epoch → 1 ≤ counter → counter ≤ max_counter
            → is_within_limits (record { actor = record { vnode = vnode; epoch = epoch }; counter = counter }) ≡ true
        within vnode epoch counter a b c d e = grind (arith, nat_tests)

    update-formed : ArePairs (clock_at v l key before).known → AreFormed (clock_at v l key (Command event ∷ before)).known
    update-formed h =
        let there : ArePairs (clock_of state event.key).known = subst (λ k. ArePairs (clock_of state k).known) (sym same_key) h in
        let pairs = accepted-pairs ArePairs no-pairs form-parts state event.key event.context event.operation there (accepted partition primary fallbacks key joined gap before (Command event) is).0 update.1 in
        subst (λ (c : Clock). AreFormed c.known) (sym (update-at v l key event before update)) (record {
          are = record {
            rising = rising-insert_max dot (discarded state event.key event.context event.operation).known (rising-union (clock_of state event.key).known (pairs_at v l key before event) pairs.rising);
            within = all-insert_max is_within_limits dot (discarded state event.key event.context event.operation).known (dot-within h)
                (all-union is_within_limits (clock_of state event.key).known (pairs_at v l key before event) there.within pairs.within);
          };
          most = few (length (insert_max dot (discarded state event.key event.context event.operation).known)) max_actors checks.room;
        })

  -- so it is at each position
  pub log-formed : (gap log : Log) → gap ++ log ≡ primary → AreFormed (clock_at v l key log).known
  log-formed gap [] e = none-formed
  log-formed gap (Command event ∷ before) e = by (log-formed (gap ++ Command event ∷ []) before (append_assoc gap (Command event ∷ []) before ∙ e)) (key_eq event.key key) refl (is_update event.operation) refl
    where
      by : AreFormed (clock_at v l key before).known → (a : Bool) → key_eq event.key key ≡ a → (u : Bool) → is_update event.operation ≡ u → AreFormed (clock_at v l key (Command event ∷ before)).known
      by h true p true q = update-formed gap event before e (p, q) h.are
      by h true p false q = subst (λ (c : Clock). AreFormed c.known) (sym (clock-reap (state_at v l key before) event.key key event.context event.operation p q)) none-formed
      by h false p u q = subst (λ (c : Clock). AreFormed c.known) (sym (clock-other (state_at v l key before) event.key key event.context event.operation p)) h
  log-formed gap (Copied copy ∷ before) e = by (log-formed (gap ++ Copied copy ∷ []) before (append_assoc gap (Copied copy ∷ []) before ∙ e)) (key_eq copy.key key) refl
    where
      synced : key_eq copy.key key ≡ true → ArePairs (clock_at v l key before).known → AreFormed copy.clock.known → AreFormed (clock_at v l key (Copied copy ∷ before)).known
      synced p h k =
          subst (λ (c : Clock). AreFormed c.known) (sym (sync-at v l key copy before p)) (record {
            are = record {
              rising = rising-union (clock_at v l key before).known copy.clock.known k.are.rising;
              within = all-union is_within_limits (clock_at v l key before).known copy.clock.known h.within k.are.within;
            };
            most = few (length (union (clock_at v l key before).known copy.clock.known)) max_actors
                (subst (λ j. nat_lt max_actors (length (union (clock_of (state_at v l key before) j).known copy.clock.known)) ≡ false) (key_eq-same copy.key key p)
                (unstuck (nat_lt max_siblings (length (sync (clock_of (state_at v l key before) copy.key) copy.clock).live)) (nat_lt max_actors (length (union (clock_of (state_at v l key before) copy.key).known copy.clock.known)))
                (accepted partition primary fallbacks key joined gap before (Copied copy) e)));
          })
        where
          unstuck : (a b : Bool) → not (a || b) ≡ true → b ≡ false
          unstuck true b h = cc
          unstuck false true h = cc
          unstuck false false h = refl

      by : AreFormed (clock_at v l key before).known → (a : Bool) → key_eq copy.key key ≡ a → AreFormed (clock_at v l key (Copied copy ∷ before)).known
      by h true p =
          let facts = of-fallback partition primary fallbacks key joined gap copy before e p in
          synced p h.are
          (subst (λ (c : Clock). AreFormed c.known) (sym facts.clock_is)
          (fallback-formed partition.fallback (partition.opened copy.diversion) (limits.fallbacks copy.diversion facts.diversion.1) copy.prefix facts.replays key))
      by h false p = subst (λ (c : Clock). AreFormed c.known) (sym (clock-uncopied (state_at v l key before) copy.key key copy.clock p)) h
  log-formed gap (Closed number ∷ before) e = none-formed
