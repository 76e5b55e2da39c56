-- The pairs that a clock knows rise, with counters from 1 on: at a primary and at a fallback.
use Rattle.std.proofs.Common.{◌≡◌, ℕ, ◌+◌, ◌≤◌, Bool, true, false, not, ◌||◌, List, [], ◌∷◌, ◌++◌, refl, sym, ◌∙◌, ap, arith, subst}
use Rattle.std.specs.Prelude.{max, nat_le, Option, Some, None}
use Rattle.std.specs.List.{list_any}
use Rattle.std.proofs.lemmas.List.{append_assoc}
use Rattle.std.proofs.lemmas.Bool.Decides.{nat_tests}
use Rattle.riak_msgs.specs.declared.Key.{Key}
use Rattle.riak_msgs.specs.Contents.{Content}
use Rattle.riak_msgs.specs.KeyOrder.{key_eq}
use Rattle.sibling_register.specs.History.{Operation, Write, Tombstone, Reap, is_update}
use Rattle.actor_epoch.specs.declared.Actor.{Actor}
use Rattle.actor_epoch.specs.declared.Dot.{Dot}
use Rattle.actor_epoch.specs.Dots.{covers, counter_in, union}
use Rattle.actor_epoch.specs.Contexts.{is_well_formed}
use Rattle.actor_epoch.specs.Given.{Context, Malformed, Pairs}
use Rattle.actor_epoch.proofs.Pairs.{counter_in-union}
use Rattle.dvv_set.specs.ClockEntries.{ClockEntries, known_of, entries_of_pairs}
use Rattle.dvv_set.proofs.Events.{AreEntries-pairs}
use Rattle.dvv_set.proofs.Known.{IsVersionVector, IsVersionVector-known_of, IsVersionVector-union, IsVersionVector-insert_max, same_pairs}
use Rattle.vnode_machine.specs.Machine.{State, clock_of, actor_for, pairs_of, apply_operation, is_bad_context, names_unissued_dot}
use Rattle.vnode_machine.specs.Replay.{HasReplay, AcceptsEvent, replay}
use Rattle.vnode_machine.proofs.Keys.{key_eq-same}
use Rattle.vnode_machine.proofs.Steps.{not_first}
use Rattle.vnode_machine.proofs.Counters.{covers-counter}
use Rattle.copy_laws.specs.Copies.{Copy, Command, Copied, Closed}
use Rattle.copy_laws.specs.Sides.{Partition}
use Rattle.copy_laws.specs.Joining.{Log, Fallbacks, IsJoined}
use Rattle.copy_laws.proofs.Tests.{test-within, within-test}
use Rattle.copy_laws.proofs.Clocks.{Clock, taken_pairs, discarded, clock-other, clock-update, clock-reap, clock-uncopied}
use Rattle.copy_laws.proofs.Since.{state_at, clock_at, sync-at}
use Rattle.copy_laws.proofs.Later.{H}
use Rattle.copy_laws.proofs.PrimaryDots.{accepted}
use Rattle.copy_laws.proofs.JoinedFacts.{IsOfFallback, of-fallback}

-- pairs that are of the form of a context are such
well-formed-pairs : (pairs : List Dot) → is_well_formed pairs ≡ true → IsVersionVector pairs
well-formed-pairs pairs h = subst IsVersionVector (knows pairs) (IsVersionVector-known_of (entries_of_pairs pairs) (AreEntries-pairs Content pairs h))
  where
    knows : (pairs : List Dot) → known_of (let entries : ClockEntries Content = entries_of_pairs pairs in entries) ≡ pairs
    knows [] = refl
    knows (pair ∷ pairs) = ap (λ ps. pair ∷ ps) (knows pairs)

no-pairs : IsVersionVector []
no-pairs = record { sorted = tt; positive = refl }

-- what holds of no pairs, of pairs of the form of a context, and of what is known, holds of what an accepted command discards
module _ (P : List Dot → Type 0) (none : P []) (form : (pairs : List Dot) → is_well_formed pairs ≡ true → P pairs) where
  good-pairs : (state : State Content) (at : Key) (given : Option Context) → is_bad_context state at given ≡ false → P (pairs_of given)
  good-pairs state at None h = none
  good-pairs state at (Some Malformed) h = none
  good-pairs state at (Some (Pairs pairs)) h = form pairs (by (is_well_formed pairs) (list_any (names_unissued_dot state at) pairs) h)
    where
      by : (a b : Bool) → (not a || b) ≡ false → a ≡ true
      by true b h = refl
      by false b h = cc

  pub accepted-pairs : (state : State Content) (at : Key) (given : Option Context) (operation : Operation Content) → P (clock_of state at).known → AcceptsEvent state at given operation
      → is_update operation ≡ true → P (taken_pairs state at given operation)
  accepted-pairs state at given (Write content) h a u = good-pairs state at given (not_first (is_bad_context state at given) _ _ a)
  accepted-pairs state at None Tombstone h a u = h
  accepted-pairs state at (Some context) Tombstone h a u = good-pairs state at (Some context) (not_first (is_bad_context state at (Some context)) _ _ a)
  accepted-pairs state at given Reap h a u = cc

-- a command keeps them such
pub pairs-after : (state : State Content) (at key : Key) (given : Option Context) (operation : Operation Content) → IsVersionVector (clock_of state key).known → AcceptsEvent state at given operation
    → IsVersionVector (clock_of (apply_operation state at given operation) key).known
pairs-after state at key given operation h a = by (key_eq at key) refl (is_update operation) refl
  where
    positive : (n : ℕ) → nat_le 1 (n + 1) ≡ true
    positive n = grind (arith, nat_tests)

    there : key_eq at key ≡ true → IsVersionVector (clock_of state at).known
    there e = subst (λ k. IsVersionVector (clock_of state k).known) (sym (key_eq-same at key e)) h

    by : (b : Bool) → key_eq at key ≡ b → (u : Bool) → is_update operation ≡ u → IsVersionVector (clock_of (apply_operation state at given operation) key).known
    by true e true u =
        subst (λ (c : Clock). IsVersionVector c.known) (sym (clock-update state at key given operation e u))
        (IsVersionVector-insert_max (record { actor = actor_for state at; counter = counter_in (discarded state at given operation).known (actor_for state at) + 1 }) (discarded state at given operation).known
        (positive (counter_in (discarded state at given operation).known (actor_for state at)))
        (IsVersionVector-union (clock_of state at).known (taken_pairs state at given operation) (there e) (accepted-pairs IsVersionVector no-pairs well-formed-pairs state at given operation (there e) a u)))
    by true e false u = subst (λ (c : Clock). IsVersionVector c.known) (sym (clock-reap state at key given operation e u)) no-pairs
    by false e u q = subst (λ (c : Clock). IsVersionVector c.known) (sym (clock-other state at key given operation e)) h

pub fallback-pairs : (v l : ℕ) (history : H) → HasReplay v l history → (key : Key) → IsVersionVector (clock_of (replay v l history) key).known
fallback-pairs v l [] h key = no-pairs
fallback-pairs v l (event ∷ before) h key = pairs-after (replay v l before) event.key key event.context event.operation (fallback-pairs v l before h.0 key) h.1

-- so they are at each position of a joined primary
module _ (partition : Partition) (primary : Log) (fallbacks : Fallbacks) (key : Key) (joined : IsJoined partition primary fallbacks key) where
  pub copy-pairs : (copy : Copy Content) → IsOfFallback partition primary fallbacks key joined copy → IsVersionVector copy.clock.known
  copy-pairs copy facts =
      subst (λ (c : Clock). IsVersionVector c.known) (sym facts.clock_is) (fallback-pairs partition.fallback (partition.opened copy.diversion) copy.prefix facts.replays key)

  pub log-pairs : (gap log : Log) → gap ++ log ≡ primary → IsVersionVector (clock_at partition.primary partition.last_epoch key log).known
  log-pairs gap [] e = no-pairs
  log-pairs gap (Command event ∷ before) e =
      pairs-after (state_at partition.primary partition.last_epoch key before) event.key key event.context event.operation
      (log-pairs (gap ++ Command event ∷ []) before (append_assoc gap (Command event ∷ []) before ∙ e))
      (accepted partition primary fallbacks key joined gap before (Command event) e).0
  log-pairs gap (Copied copy ∷ before) e = by (log-pairs (gap ++ Copied copy ∷ []) before (append_assoc gap (Copied copy ∷ []) before ∙ e)) (key_eq copy.key key) refl
    where
      by : IsVersionVector (clock_at partition.primary partition.last_epoch key before).known → (a : Bool) → key_eq copy.key key ≡ a
          → IsVersionVector (clock_at partition.primary partition.last_epoch key (Copied copy ∷ before)).known
      by h true p =
          let facts = of-fallback partition primary fallbacks key joined gap copy before e p in
          subst (λ (c : Clock). IsVersionVector c.known) (sym (sync-at partition.primary partition.last_epoch key copy before p))
          (IsVersionVector-union (clock_at partition.primary partition.last_epoch key before).known copy.clock.known h (copy-pairs copy facts))
      by h false p = subst (λ (c : Clock). IsVersionVector c.known) (sym (clock-uncopied (state_at partition.primary partition.last_epoch key before) copy.key key copy.clock p)) h
  log-pairs gap (Closed number ∷ before) e = no-pairs

-- two such lists with the same dots are one
pub counters-below : (own other : List Dot) → ((dot : Dot) → covers other dot ≡ true → covers own dot ≡ true) → (actor : Actor) → counter_in other actor ≤ counter_in own actor
counters-below own other h actor = by (nat_le 1 (counter_in other actor)) refl
  where
    last : Dot
    last = record { actor = actor; counter = counter_in other actor }

    none : (c n : ℕ) → nat_le 1 c ≡ false → c ≤ n
    none c n h = grind (arith, nat_tests)

    by : (b : Bool) → nat_le 1 (counter_in other actor) ≡ b → counter_in other actor ≤ counter_in own actor
    by true e =
        within-test (counter_in other actor) (counter_in own actor)
        (sym (covers-counter own last) ∙ h last (covers-counter other last ∙ test-within (counter_in other actor) e))
    by false e = none (counter_in other actor) (counter_in own actor) e

pub union-known : (own other : List Dot) → IsVersionVector own → IsVersionVector other → ((dot : Dot) → covers other dot ≡ true → covers own dot ≡ true) → union own other ≡ own
union-known own other p q h =
    same_pairs (union own other) own (IsVersionVector-union own other p q) p
    (λ a. counter_in-union own other a ∙ most (counter_in own a) (counter_in other a) (counters-below own other h a))
  where
    most : (n m : ℕ) → m ≤ n → max n m ≡ n
    most n m h = omega (arith, h)
