-- What is known of each key is of the form of a context, within the limits.
use Rattle.std.proofs.Common.{◌≡◌, ℕ, ◌+◌, ◌<◌, ◌≤◌, Bool, true, false, not, ◌&&◌, cond, List, [], ◌∷◌, length, refl, arith}
use Rattle.std.specs.Prelude.{option_and_then, nat_le, nat_lt, max, ◌^◌, Option, Some, None, IsTrue, is_some, unwrap_or, ◌==◌}
use Rattle.std.specs.List.{list_all}
use Rattle.std.proofs.lemmas.Bool.Decides.{nat_tests}
use Rattle.riak_msgs.specs.Contents.{Content}
use Rattle.actor_epoch.specs.declared.Actor.{Actor}
use Rattle.actor_epoch.specs.declared.Dot.{Dot}
use Rattle.actor_epoch.specs.Limits.{max_epoch, max_counter, max_actors}
use Rattle.actor_epoch.specs.Dots.{actor_eq, counter_in, insert_max, union, next_dot}
use Rattle.actor_epoch.specs.Contexts.{is_rising, is_within_limits, is_well_formed}
use Rattle.actor_epoch.proofs.Pairs.{counter_in-union}
use Rattle.dvv_set.specs.Held.{actors_after}
use Rattle.vnode_machine.specs.Machine.{Stored}
use Rattle.vnode_machine.specs.Replay.{IsWithinLimits}
use Rattle.vnode_machine.specs.Sound.{ArePairs, IsActor, IsOwn, IsForm, IsFormed}
use Rattle.vnode_machine.proofs.Rising.{rising-insert_max, rising-union, length-raised}
use Rattle.vnode_machine.proofs.Invariants.{clock_in}
use Rattle.vnode_machine.proofs.Bases.{own_in, last_in}
use Rattle.vnode_machine.proofs.Updates.{next_in}
use Rattle.vnode_machine.proofs.Counters.{all-insert_max, all-union}
use Rattle.vnode_machine.proofs.Tests.{and_both, and_left, and_right}

-- what is stored is of the form of a context
pub form-whole : (s : Stored Content) → IsForm s → is_well_formed s.clock.known ≡ true
form-whole s h =
    and_both (nat_le 1 (length s.clock.known) && nat_le (length s.clock.known) max_actors) (is_rising s.clock.known && list_all is_within_limits s.clock.known)
    (and_both (nat_le 1 (length s.clock.known)) (nat_le (length s.clock.known) max_actors) (test 1 (length s.clock.known) h.clock.some) (test (length s.clock.known) max_actors h.clock.most))
    (and_both (is_rising s.clock.known) (list_all is_within_limits s.clock.known) h.clock.pairs.rising h.clock.pairs.within)
  where
    test : (a b : ℕ) → a ≤ b → nat_le a b ≡ true
    test a b h = grind (arith, nat_tests)

pub form-parts : (pairs : List Dot) → is_well_formed pairs ≡ true → ArePairs pairs
form-parts pairs h =
    let parts = and_right (nat_le 1 (length pairs) && nat_le (length pairs) max_actors) (is_rising pairs && list_all is_within_limits pairs) h in
    record {
      rising = and_left (is_rising pairs) (list_all is_within_limits pairs) parts;
      within = and_right (is_rising pairs) (list_all is_within_limits pairs) parts;
    }

within-dot : (actor : Actor) (n : ℕ) → IsActor actor → 1 ≤ n → n ≤ max_counter → is_within_limits (record { actor = actor; counter = n }) ≡ true
within-dot actor n a one most =
    and_both (nat_lt actor.vnode (2 ^ 64)) ((nat_le 1 actor.epoch && nat_le actor.epoch max_epoch) && (nat_le 1 n && nat_le n max_counter))
    (below actor.vnode (2 ^ 64) a.vnode)
    (and_both (nat_le 1 actor.epoch && nat_le actor.epoch max_epoch) (nat_le 1 n && nat_le n max_counter)
    (and_both (nat_le 1 actor.epoch) (nat_le actor.epoch max_epoch) (test 1 actor.epoch a.first) (test actor.epoch max_epoch a.epoch))
    (and_both (nat_le 1 n) (nat_le n max_counter) (test 1 n one) (test n max_counter most)))
  where
    test : (a b : ℕ) → a ≤ b → nat_le a b ≡ true
    test a b h = grind (arith, nat_tests)

    below : (a b : ℕ) → a < b → nat_lt a b ≡ true
    below a b h = grind (arith, nat_tests)

-- counters of such pairs are within their limit
pub counter-most : (pairs : List Dot) (actor : Actor) → IsTrue (list_all is_within_limits pairs) → counter_in pairs actor ≤ max_counter
counter-most [] actor h = omega arith
counter-most (pair ∷ pairs) actor h =
    by (actor_eq pair.actor actor) pair.counter (counter_in pairs actor) max_counter
    (counter (nat_lt pair.actor.vnode (2 ^ 64)) (nat_le 1 pair.actor.epoch && nat_le pair.actor.epoch max_epoch) (nat_le 1 pair.counter) (nat_le pair.counter max_counter)
    (and_left (is_within_limits pair) (list_all is_within_limits pairs) h))
    (counter-most pairs actor (and_right (is_within_limits pair) (list_all is_within_limits pairs) h))
  where
    counter : (a b c d : Bool) → (a && (b && (c && d))) ≡ true → d ≡ true
    counter true true true d h = h
    counter true true false d h = cc
    counter true false c d h = cc
    counter false b c d h = cc

    by : (b : Bool) (n m g : ℕ) → nat_le n g ≡ true → m ≤ g → cond b (max n m) m ≤ g
    by true n m g h k = grind (arith, nat_tests)
    by false n m g h k = k

-- pairs that an accepted write or tombstone at this actor discards
pub record AreFit (own : Actor) (o : Option (Stored Content)) (pairs : List Dot) : Type 0 where
  pub behind : counter_in pairs own ≤ counter_in (clock_in o).known own
  pub are : ArePairs pairs

-- the actor of what is stored, where it has one
pub own-formed : (o : Option (Stored Content)) → IsFormed o → IsOwn (option_and_then (λ (s : Stored Content). s.own) o)
own-formed None h = tt
own-formed (Some s) h = h.own

known-within : (o : Option (Stored Content)) → IsFormed o → IsTrue (list_all is_within_limits (clock_in o).known)
known-within None h = refl
known-within (Some s) h = h.clock.pairs.within

-- what is found where one key was stored
pub form-chosen : (b : Bool) (s : Stored Content) (o : Option (Stored Content)) → IsForm s → IsFormed o → IsFormed (cond b (Some s) o)
form-chosen true s o h k = h
form-chosen false s o h k = k

module _ (v last : ℕ) (within : IsWithinLimits v last) (pairs : List Dot) where
  -- where no check of room holds, what is stored next is of the form
  next_form : (value : Option Content) (o : Option (Stored Content)) (own : Actor) → IsFormed o → ArePairs pairs
      → IsActor own → counter_in (union (clock_in o).known pairs) own + 1 ≤ max_counter
      → nat_lt max_actors (actors_after (clock_in o).known (Some pairs) own) ≡ false
      → IsForm (next_in own pairs value o)
  next_form value o own formed are actor counter full =
      let known : List Dot = union (clock_in o).known pairs in
      let dot : Dot = next_dot own known in
      record {
        own = actor;
        clock = record {
          pairs = record {
            rising = rising-insert_max dot known (rising-union (clock_in o).known pairs are.rising);
            within = all-insert_max is_within_limits dot known (within-dot own (counter_in known own + 1) actor (omega arith) counter)
                (all-union is_within_limits (clock_in o).known pairs (known-within o formed) are.within);
          };
          some = length-raised dot known;
          most = most (length (insert_max dot known)) max_actors full;
        };
      }
    where
      most : (n k : ℕ) → nat_lt k n ≡ false → n ≤ k
      most n k h = grind (arith, nat_tests)

  abbrev new : Actor
  new = record { vnode = v; epoch = last + 1 }

  pub room_left : (value : Option Content) (o : Option (Stored Content)) → IsFormed o → AreFit (own_in new o) o pairs
      → nat_lt max_actors (actors_after (clock_in o).known (Some pairs) (own_in new o)) ≡ false
      → (not (is_some (option_and_then (λ (s : Stored Content). s.own) o)) && (last == max_epoch)) ≡ false
      → (counter_in (clock_in o).known (own_in new o) == max_counter) ≡ false
      → IsForm (next_in (own_in new o) pairs value o) × (last_in last o ≤ max_epoch)
  room_left value o formed fit full epochs counters =
      let own : Actor = own_in new o in
      let found : Option Actor = option_and_then (λ (s : Stored Content). s.own) o in (
        next_form value o own formed fit.are (actor found (own-formed o formed) epochs)
            (less (counter_in (clock_in o).known own) (counter_in pairs own) (counter_in (union (clock_in o).known pairs) own) max_counter
            (counter_in-union (clock_in o).known pairs own) fit.behind (counter-most (clock_in o).known own (known-within o formed)) counters)
            full,
        epoch found epochs,
      )
    where
      more : (n m : ℕ) → n ≤ m → (n == m) ≡ false → n + 1 ≤ m
      more n m h e = grind (arith, nat_tests)

      actor : (found : Option Actor) → IsOwn found → (not (is_some found) && (last == max_epoch)) ≡ false → IsActor (unwrap_or found new)
      actor None h e = let left = more last max_epoch within.1 e in record { vnode = within.0; first = omega arith; epoch = left }
      actor (Some own) h e = h

      epoch : (found : Option Actor) → (not (is_some found) && (last == max_epoch)) ≡ false → cond (is_some found) last (last + 1) ≤ max_epoch
      epoch None e = more last max_epoch within.1 e
      epoch (Some own) e = within.1

      less : (a b c g : ℕ) → c ≡ max a b → b ≤ a → a ≤ g → (a == g) ≡ false → c + 1 ≤ g
      less a b c g e h k d = grind (arith, nat_tests)
