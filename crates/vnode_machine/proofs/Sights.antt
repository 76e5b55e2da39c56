-- What an accepted event saw is what its pairs cover.
use Rattle.std.proofs.Common.{◌≡◌, ℕ, ◌≤◌, Bool, true, false, not, ◌&&◌, ◌||◌, cond, List, [], ◌∷◌, refl, sym, ◌∙◌, ap, arith, subst}
use Rattle.std.specs.Prelude.{option_and_then, nat_le, nat_lt, max, filter, Option, Some, None, IsTrue, unwrap_or, ◌==◌}
use Rattle.std.specs.Option.{option_map_or}
use Rattle.std.specs.List.{list_any}
use Rattle.std.proofs.lemmas.Bool.Decides.{nat_tests}
use Rattle.riak_msgs.specs.declared.Key.{Key}
use Rattle.riak_msgs.specs.Contents.{Content}
use Rattle.sibling_register.specs.History.{count_of, numbers_to}
use Rattle.sibling_register.specs.Siblings.{siblings, is_defined}
use Rattle.sibling_register.specs.Naming.{named}
use Rattle.sibling_register.proofs.Following.{is_among-numbers_to}
use Rattle.actor_epoch.specs.declared.Actor.{Actor}
use Rattle.actor_epoch.specs.declared.Dot.{Dot}
use Rattle.actor_epoch.specs.Dots.{actor_eq, dot_eq, covers, counter_in}
use Rattle.actor_epoch.specs.Given.{Context, Pairs}
pub use Rattle.dvv_set.proofs.Live.{dot_eq-same}
use Rattle.vnode_machine.specs.Machine.{Stored, State, clock_of, own_of, next_actor, actor_for, stored, same_pairs, names_unissued_dot}
use Rattle.vnode_machine.specs.Lives.{dot_of}
use Rattle.vnode_machine.specs.Replay.{replay, naming, seen_by_context}
use Rattle.vnode_machine.proofs.Pairwise.{Pairwise, Pairwise-map, Pairwise-both}
use Rattle.vnode_machine.proofs.Numbers.{is_among-filter}
use Rattle.vnode_machine.proofs.Invariants.{H, Entry, clock_in, IsLiveOf, IsKept, IsSplit, IsEarlier, actor_of}
use Rattle.vnode_machine.proofs.Bases.{IsBehind, IsOwned}
use Rattle.vnode_machine.proofs.Updates.{IsSeen}
use Rattle.vnode_machine.proofs.Counters.{covers-counter, counter_in-low, is_low, are_low}
use Rattle.vnode_machine.proofs.Tests.{and_both, and_left, and_right, or_left, or_right}

-- pairs that don't run ahead name no later epoch
pub low-ahead : (v : ℕ) (state : State Content) (key : Key) (pairs : List Dot) → state.vnode ≡ v → list_any (names_unissued_dot state key) pairs ≡ false
    → IsTrue (are_low v state.last_epoch pairs)
low-ahead v state key [] vnode h = refl
low-ahead v state key (pair ∷ pairs) vnode h =
    let one = or_left ((pair.actor.vnode == state.vnode) && nat_lt state.last_epoch pair.actor.epoch) _ (or_left (names_unissued_dot state key pair) (list_any (names_unissued_dot state key) pairs) h) in
    and_both (is_low v state.last_epoch pair) (are_low v state.last_epoch pairs)
    (ap (λ n. not ((pair.actor.vnode == n) && nat_lt state.last_epoch pair.actor.epoch)) (sym vnode) ∙ ap not one)
    (low-ahead v state key pairs vnode (or_right (names_unissued_dot state key pair) (list_any (names_unissued_dot state key) pairs) h))

-- a pair that runs ahead of what is stored
abbrev pub ahead_of : Option (Stored Content) → Dot → Bool
ahead_of o pair = option_map_or (λ own. actor_eq pair.actor own && nat_lt (counter_in (clock_in o).known own) pair.counter) (option_and_then (λ s. s.own) o) false

-- nor a later counter of the key's actor
pub ahead-owned : (s : Stored Content) → IsOwned (Some s) → (pair : Dot) → ahead_of (Some s) pair ≡ (actor_eq pair.actor (actor_of s) && nat_lt (counter_in s.clock.known (actor_of s)) pair.counter)
ahead-owned s h pair = ap (λ o. option_map_or (λ own. actor_eq pair.actor own && nat_lt (counter_in s.clock.known own) pair.counter) o false) h

pub owned-kept : (v l last : ℕ) (history : H) (key : Key) (o : Option (Stored Content)) → IsKept v l last history key o → IsOwned o
owned-kept v l last history key None h = tt
owned-kept v l last history key (Some s) h = h.owned

-- a pair that names a later epoch
abbrev names_later : State Content → Dot → Bool
names_later state pair = (pair.actor.vnode == state.vnode) && nat_lt state.last_epoch pair.actor.epoch

-- a pair with a later counter of this actor than is known
abbrev later_than : List Dot → Actor → Dot → Bool
later_than known own pair = actor_eq pair.actor own && nat_lt (counter_in known own) pair.counter

behind-ahead : (early : Dot → Bool) (known : List Dot) (own : Actor) (pairs : List Dot) → list_any (λ pair. early pair || later_than known own pair) pairs ≡ false
    → counter_in pairs own ≤ counter_in known own
behind-ahead early known own [] h = omega arith
behind-ahead early known own (pair ∷ pairs) h =
    by (actor_eq pair.actor own) pair.counter (counter_in pairs own) (counter_in known own)
    (or_right (early pair) (later_than known own pair) (or_left (early pair || later_than known own pair) (list_any (λ p. early p || later_than known own p) pairs) h))
    (behind-ahead early known own pairs (or_right (early pair || later_than known own pair) (list_any (λ p. early p || later_than known own p) pairs) h))
  where
    by : (b : Bool) (n rest top : ℕ) → (b && nat_lt top n) ≡ false → rest ≤ top → cond b (max n rest) rest ≤ top
    by true n rest top h k = grind (arith, nat_tests)
    by false n rest top h k = k

pub behind-of : (state : State Content) (key : Key) (pairs : List Dot) → IsOwned (stored state key) → list_any (names_unissued_dot state key) pairs ≡ false → IsBehind pairs (stored state key)
behind-of state key pairs owned h = by (stored state key) owned h
  where
    by : (o : Option (Stored Content)) → IsOwned o → list_any (λ pair. names_later state pair || ahead_of o pair) pairs ≡ false → IsBehind pairs o
    by None owned h = tt
    by (Some s) owned h = behind-ahead (names_later state) s.clock.known (actor_of s) pairs
        (sym (ap (λ o. list_any (λ pair. names_later state pair || option_map_or (λ own. later_than s.clock.known own pair) o false) pairs) owned) ∙ h)

-- nor a later counter than is known of the actor at which a write would happen, in a life or not
pub behind-next : (state : State Content) (key : Key) (pairs : List Dot) → list_any (names_unissued_dot state key) pairs ≡ false
    → counter_in pairs (actor_for state key) ≤ counter_in (clock_of state key).known (actor_for state key)
behind-next state key pairs h = by (own_of state key) h
  where
    known : List Dot
    known = (clock_of state key).known

    by : (own : Option Actor)
        → list_any (λ pair. names_later state pair || option_map_or (λ own. later_than known own pair) own false) pairs ≡ false
        → counter_in pairs (unwrap_or own (next_actor state)) ≤ counter_in known (unwrap_or own (next_actor state))
    by None k =
        let zero = counter_in-low state.vnode state.last_epoch pairs (next_actor state) (low-ahead state.vnode state key pairs refl h) refl (omega arith) in
        omega (arith, zero)
    by (Some own) k = behind-ahead (names_later state) known own pairs k

-- the same pairs are equal
pub same_pairs-same : (a b : List Dot) → same_pairs a b ≡ true → a ≡ b
same_pairs-same [] [] h = refl
same_pairs-same [] (d ∷ b) h = cc
same_pairs-same (d ∷ a) [] h = cc
same_pairs-same (d ∷ a) (e ∷ b) h = λ i. dot_eq-same d e (and_left (dot_eq d e) (same_pairs a b) h) i ∷ same_pairs-same a b (and_right (dot_eq d e) (same_pairs a b) h) i

-- a property of each position
abbrev pub Each : (H → Type 0) → H → Type 0
Each P [] = P []
Each P (event ∷ before) = P (event ∷ before) × Each P before

pub Each-map : (P Q : H → Type 0) → ((position : H) → P position → Q position) → (history : H) → Each P history → Each Q history
Each-map P Q f [] h = f [] h
Each-map P Q f (event ∷ before) h = (f (event ∷ before) h.0, Each-map P Q f before h.1)

module _ (v l : ℕ) where
  abbrev pub known_at : H → Key → List Dot
  known_at position key = (clock_of (replay v l position) key).known

  abbrev same_name : H → Key → Context → Bool
  same_name position key context = (naming {V = Content} v l).same context ((naming v l).name position key)

  abbrev IsFound : (H → Type 0) → Key → Context → H → Type 0
  IsFound P key context position = P position × (is_defined position key ≡ true) × (same_name position key context ≡ true)

  -- what is named is a position where the key is defined, of that name
  pub named-position : (P : H → Type 0) (history : H) (key : Key) (context : Context) → Each P history → (q : H)
      → named (naming v l) history key context ≡ Some q → IsFound P key context q
  named-position P [] key context each q h = cc
  named-position P (event ∷ before) key context each q h =
      by (is_defined (event ∷ before) key && same_name (event ∷ before) key context) refl h (named-position P before key context each.1 q)
    where
      alike : (x y : H) → Some x ≡ Some y → x ≡ y
      alike x y e = cc

      by : (b : Bool) → (is_defined (event ∷ before) key && same_name (event ∷ before) key context) ≡ b
          → cond b (Some (event ∷ before)) (named (naming v l) before key context) ≡ Some q
          → (named (naming v l) before key context ≡ Some q → IsFound P key context q) → IsFound P key context q
      by true t e rest =
          subst (IsFound P key context) (alike (event ∷ before) q e)
          (each.0, and_left (is_defined (event ∷ before) key) (same_name (event ∷ before) key context) t, and_right (is_defined (event ∷ before) key) (same_name (event ∷ before) key context) t)
      by false t e rest = rest e

  -- what holds of each live dot and its sibling
  pub live-each : (last : ℕ) (history : H) (key : Key) (S : Entry → ℕ → Type 0) (o : Option (Stored Content)) → IsKept v l last history key o
      → ((own : Actor) (top : ℕ) (entry : Entry) (number : ℕ) → IsLiveOf v l history key own top entry number → S entry number)
      → Pairwise S (clock_in o).live (siblings history key)
  live-each last history key S None h f = subst (λ ns. Pairwise S [] ns) (sym h) tt
  live-each last history key S (Some s) h f =
      Pairwise-map (IsLiveOf v l history key (actor_of s) (counter_in s.clock.known (actor_of s))) S (f (actor_of s) (counter_in s.clock.known (actor_of s))) s.clock.live (siblings history key) h.live

  abbrev IsNumber : H → Key → Entry → ℕ → Type 0
  IsNumber history key entry number = (1 ≤ entry.0.counter) × (1 ≤ number) × (number ≤ count_of history key) × (dot_of v l history key number ≡ Some entry.0)

  module _ (last : ℕ) (history : H) (key : Key) (o : Option (Stored Content)) (kept : IsKept v l last history key o) where
    numbers : Pairwise (IsNumber history key) (clock_in o).live (siblings history key)
    numbers = live-each last history key (IsNumber history key) o kept (λ own top entry number one. (one.positive, one.first, one.counted, one.dot))

    -- by the context of a position
    seen-earlier : (known : List Dot) (count : ℕ) → IsEarlier v l last history key o known count
        → Pairwise (IsSeen known (numbers_to count)) (clock_in o).live (siblings history key)
    seen-earlier known count earlier =
        Pairwise-map (λ entry number. IsNumber history key entry number × IsSplit known count entry number) (IsSeen known (numbers_to count))
        (λ entry number h. covers-counter known entry.0
        ∙ by entry.0.counter number (counter_in known entry.0.actor) count h.0.0 h.1
        ∙ sym (is_among-numbers_to count number h.0.1))
        (clock_in o).live (siblings history key)
        (Pairwise-both (IsNumber history key) (IsSplit known count) (clock_in o).live (siblings history key) numbers earlier.split)
      where
        by : (c n top count : ℕ) → 1 ≤ c → nat_le n count ≡ nat_le c top → (nat_le 1 c && nat_le c top) ≡ nat_le n count
        by c n top count h e = let one : nat_le 1 c ≡ true = grind (arith, nat_tests) in rw one (sym e)

    -- by a context that names none
    seen-free : (pairs : List Dot)
        → Pairwise (IsSeen pairs (filter (λ n. option_map_or (covers pairs) (dot_of v l history key n) false) (numbers_to (count_of history key)))) (clock_in o).live (siblings history key)
    seen-free pairs =
        Pairwise-map (IsNumber history key) (IsSeen pairs (filter (λ n. option_map_or (covers pairs) (dot_of v l history key n) false) (numbers_to (count_of history key))))
        (λ entry number h. sym (is_among-filter (λ n. option_map_or (covers pairs) (dot_of v l history key n) false) (numbers_to (count_of history key)) number
        ∙ (λ i. option_map_or (covers pairs) (h.3 i) false && is_among-numbers_to (count_of history key) number h.1 i)
        ∙ within number (count_of history key) (covers pairs entry.0) h.2))
        (clock_in o).live (siblings history key) numbers
      where
        within : (n m : ℕ) (b : Bool) → n ≤ m → (b && nat_le n m) ≡ b
        within n m true h = grind (arith, nat_tests)
        within n m false h = refl

    abbrev position_known : H → Type 0
    position_known q = IsEarlier v l last history key o (known_at q key) (count_of q key)

    abbrev saw_from : List Dot → Option H → List ℕ
    saw_from pairs q = option_map_or (λ (position : H). numbers_to (count_of position key)) q
        (filter (λ n. option_map_or (covers pairs) (dot_of v l history key n) false) (numbers_to (count_of history key)))

    -- by any context
    pub seen-context : (pairs : List Dot) → Each position_known history
        → Pairwise (IsSeen pairs (seen_by_context v l history key (Pairs pairs))) (clock_in o).live (siblings history key)
    seen-context pairs each = by (named (naming v l) history key (Pairs pairs)) refl
      where
        by : (q : Option H) → named (naming v l) history key (Pairs pairs) ≡ q → Pairwise (IsSeen pairs (saw_from pairs q)) (clock_in o).live (siblings history key)
        by None e = seen-free pairs
        by (Some q) e =
            let found = named-position position_known history key (Pairs pairs) each q e in
            subst (λ ps. Pairwise (IsSeen ps (numbers_to (count_of q key))) (clock_in o).live (siblings history key))
            (sym (same_pairs-same pairs (known_at q key) found.2)) (seen-earlier (known_at q key) (count_of q key) found.0)

    -- by all that is stored
    pub seen-all : Pairwise (IsSeen (clock_in o).known (numbers_to (count_of history key))) (clock_in o).live (siblings history key)
    seen-all = by o kept
      where
        all : (c n top m : ℕ) → 1 ≤ c → c ≤ top → n ≤ m → (nat_le 1 c && nat_le c top) ≡ nat_le n m
        all c n top m h k j = grind (arith, nat_tests)

        by : (o : Option (Stored Content)) → IsKept v l last history key o → Pairwise (IsSeen (clock_in o).known (numbers_to (count_of history key))) (clock_in o).live (siblings history key)
        by None h = subst (λ ns. Pairwise (IsSeen [] (numbers_to (count_of history key))) [] ns) (sym h) tt
        by (Some s) h =
            Pairwise-map (IsLiveOf v l history key (actor_of s) (counter_in s.clock.known (actor_of s))) (IsSeen s.clock.known (numbers_to (count_of history key)))
            (λ entry number one. covers-counter s.clock.known entry.0
            ∙ ap (λ a. nat_le 1 entry.0.counter && nat_le entry.0.counter (counter_in s.clock.known a)) one.actor
            ∙ all entry.0.counter number (counter_in s.clock.known (actor_of s)) (count_of history key) one.positive one.within one.counted
            ∙ sym (is_among-numbers_to (count_of history key) number one.first))
            s.clock.live (siblings history key) h.live
