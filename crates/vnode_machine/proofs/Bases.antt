-- The actor at which a write or tombstone happens, with what its key had before.
use Rattle.std.proofs.Common.{◌≡◌, ℕ, suc, ◌+◌, ◌≤◌, Bool, true, false, not, ◌&&◌, cond, List, [], ◌∷◌, length, refl, sym, ◌∙◌, ap, arith, subst}
use Rattle.std.specs.Prelude.{option_and_then, max, Option, Some, None, IsTrue, is_some, option_map, unwrap_or}
use Rattle.riak_msgs.specs.declared.Key.{Key}
use Rattle.riak_msgs.specs.Contents.{Content}
use Rattle.riak_msgs.specs.KeyOrder.{key_eq}
use Rattle.sibling_register.specs.History.{Event, events_of, is_update}
use Rattle.sibling_register.specs.Siblings.{siblings, unseen_by}
use Rattle.actor_epoch.specs.declared.Actor.{Actor}
use Rattle.actor_epoch.specs.declared.Dot.{Dot}
use Rattle.actor_epoch.specs.Dots.{counter_in, union, next_dot}
use Rattle.actor_epoch.proofs.Pairs.{counter_in-union}
use Rattle.actor_epoch.specs.Given.{Context}
use Rattle.vnode_machine.specs.Machine.{Stored}
use Rattle.vnode_machine.specs.Lives.{next_of, lives_begun, ends_in_update, is_alive, latest_dot}
use Rattle.vnode_machine.proofs.Invariants.{H, clock_in, AreLiveOf, IsKept, IsEarlier, actor_of}
use Rattle.vnode_machine.proofs.Counters.{is_low, are_low, are_low-more, all-union, counter_in-low}

-- a key without siblings is in no life
pub not-alive : (events : H) → unseen_by [] events ≡ [] → ends_in_update events ≡ false
not-alive [] h = refl
not-alive (event ∷ before) h = by (is_update event.operation) h
  where
    by : (b : Bool) → cond (b && true) (suc (length before) ∷ unseen_by (event ∷ []) before) (unseen_by (event ∷ []) before) ≡ [] → b ≡ false
    by true e = cc
    by false e = refl

-- the actor of what is stored, or a new one
abbrev pub own_in : Actor → Option (Stored Content) → Actor
own_in new o = unwrap_or (option_and_then (λ s. s.own) o) new

-- the last epoch after it
abbrev pub last_in : ℕ → Option (Stored Content) → ℕ
last_in last o = cond (is_some (option_and_then (λ (s : Stored Content). s.own) o)) last (last + 1)

-- what is stored has an actor
abbrev pub IsOwned : Option (Stored Content) → Type 0
IsOwned None = Unit {0}
IsOwned (Some s) = s.own ≡ Some (actor_of s)

-- then it goes on with that, and takes no epoch
pub own-owned : (new : Actor) (s : Stored Content) → IsOwned (Some s) → own_in new (Some s) ≡ actor_of s
own-owned new s h = ap (λ o. unwrap_or o new) h

pub last-owned : (last : ℕ) (s : Stored Content) → IsOwned (Some s) → last_in last (Some s) ≡ last
last-owned last s h = ap (λ o. cond (is_some o) last (last + 1)) h

-- the pairs name no later epoch, and no later counter of what is stored
abbrev pub IsBehind : List Dot → Option (Stored Content) → Type 0
IsBehind pairs None = Unit {0}
IsBehind pairs (Some s) = counter_in pairs (actor_of s) ≤ counter_in s.clock.known (actor_of s)

pub behind_none : (o : Option (Stored Content)) → IsBehind [] o
behind_none None = tt
behind_none (Some s) = omega arith

pub behind_own : (o : Option (Stored Content)) → IsBehind (clock_in o).known o
behind_own None = tt
behind_own (Some s) = omega arith

module _ (v l : ℕ) where
  pub record IsBase (last last' : ℕ) (event : Event Content Context) (history : H) (key : Key) (o : Option (Stored Content)) (own : Actor) (known : List Dot) : Type 0 where
    pub le : last ≤ last'
    pub vnode : own.vnode ≡ v
    pub epoch : own.epoch ≤ last'
    pub low : IsTrue (are_low v last' known)
    pub latest : latest_dot v l (event ∷ history) key ≡ Some (next_dot own known)
    pub live : AreLiveOf v l history key own (counter_in known own) (clock_in o).live (siblings history key)
    pub fresh : (old : List Dot) (count : ℕ) → IsEarlier v l last history key o old count → counter_in old own ≤ counter_in known own

  latest-own : (event : Event Content Context) (history : H) (key : Key) → key_eq event.key key ≡ true → is_update event.operation ≡ true
      → latest_dot v l (event ∷ history) key
      ≡ cond (is_alive history key) (option_map next_of (latest_dot v l history key)) (Some (record { actor = record { vnode = v; epoch = (l + lives_begun history) + 1 }; counter = 1 }))
  latest-own event history key e u = by (key_eq event.key key) (is_update event.operation) e u
    where
      by : (a b : Bool) → a ≡ true → b ≡ true
          → cond (not (a && b)) (latest_dot v l history key) (cond (is_alive history key) (option_map next_of (latest_dot v l history key)) (Some (record { actor = record { vnode = v; epoch = (l + lives_begun history) + 1 }; counter = 1 })))
          ≡ cond (is_alive history key) (option_map next_of (latest_dot v l history key)) (Some (record { actor = record { vnode = v; epoch = (l + lives_begun history) + 1 }; counter = 1 }))
      by true true p q = refl
      by true false p q = cc
      by false b p q = cc

  module _ (event : Event Content Context) (history : H) (key : Key) (itself : key_eq event.key key ≡ true) (update : is_update event.operation ≡ true)
      (vnode last : ℕ) (vnode_is : vnode ≡ v) (last_is : last ≡ l + lives_begun history) (pairs : List Dot) (low : IsTrue (are_low v last pairs)) where
    abbrev new : Actor
    new = record { vnode = vnode; epoch = last + 1 }

    none_known : (known : List Dot) → IsTrue (are_low v last known) → counter_in known new ≡ 0
    none_known known h = counter_in-low v last known new h vnode_is (omega arith)

    latest_none : siblings history key ≡ [] → latest_dot v l (event ∷ history) key ≡ Some (next_dot new pairs)
    latest_none h =
        let alive : is_alive history key ≡ false = not-alive (events_of history key) h in
        let zero : counter_in pairs new ≡ 0 = none_known pairs low in
        latest-own event history key itself update
        ∙ ap (λ b. cond b (option_map next_of (latest_dot v l history key)) (Some (record { actor = record { vnode = v; epoch = (l + lives_begun history) + 1 }; counter = 1 }))) alive
        ∙ (λ i. Some (record { actor = record { vnode = sym vnode_is i; epoch = sym last_is i + 1 }; counter = sym zero i + 1 }))

    max_first : (a b : ℕ) → b ≤ a → a ≡ max a b
    max_first a b h = omega arith

    pub base : (o : Option (Stored Content)) → IsKept v l last history key o → IsBehind pairs o
        → IsBase last (last_in last o) event history key o (own_in (record { vnode = vnode; epoch = last + 1 }) o) (union (clock_in o).known pairs)
    base None h behind = record {
      le = omega arith;
      vnode = vnode_is;
      epoch = omega arith;
      low = are_low-more v last (last + 1) pairs (omega arith) low;
      latest = latest_none h;
      live = let P : List ℕ → Type 0 = λ ns. AreLiveOf v l history key new (counter_in pairs new) [] ns in subst P (sym h) tt;
      fresh = λ old count earlier. let e : counter_in old new ≡ 0 = none_known old earlier.low in omega (arith, e);
    }
    base (Some s) h behind =
        let same : counter_in s.clock.known (actor_of s) ≡ counter_in (union s.clock.known pairs) (actor_of s) =
        max_first (counter_in s.clock.known (actor_of s)) (counter_in pairs (actor_of s)) behind ∙ sym (counter_in-union s.clock.known pairs (actor_of s)) in
        subst (λ n. IsBase last n event history key (Some s) (own_in (record { vnode = vnode; epoch = last + 1 }) (Some s)) (union s.clock.known pairs)) (sym (last-owned last s h.owned))
        (subst (λ a. IsBase last last event history key (Some s) a (union s.clock.known pairs)) (sym (own-owned (record { vnode = vnode; epoch = last + 1 }) s h.owned)) (record {
          le = omega arith;
          vnode = h.vnode;
          epoch = h.epoch;
          low = all-union (is_low v last) s.clock.known pairs h.low low;
          latest = latest-own event history key itself update
              ∙ ap (λ b. cond b (option_map next_of (latest_dot v l history key)) (Some (record { actor = record { vnode = v; epoch = (l + lives_begun history) + 1 }; counter = 1 }))) h.alive
              ∙ ap (option_map next_of) h.latest
              ∙ (λ i. Some (record { actor = (actor_of s); counter = same i + 1 }));
          live = let P : ℕ → Type 0 = λ n. AreLiveOf v l history key (actor_of s) n s.clock.live (siblings history key) in subst P same h.live;
          fresh = λ old count earlier. less (counter_in old (actor_of s)) _ (counter_in s.clock.known (actor_of s)) _ earlier.grown same;
        }))
      where
        less : (a b t u : ℕ) → a + b ≤ t → t ≡ u → a ≤ u
        less a b t u h e = omega (arith, h, e)
