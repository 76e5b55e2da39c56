-- The dead keys of a state in key order, and what a sweep of the first of them leaves.
use Rattle.std.specs.Prelude.{◌≡◌, IsTrue, Bool, true, ◌&&◌, List, [], ◌∷◌, ℕ, map, filter, take, slice_get, Option, Some, None, is_some}
use Rattle.std.specs.Ordering.{is_le}
use Rattle.riak_msgs.specs.declared.Key.{Key}
use Rattle.riak_msgs.specs.KeyOrder.{key_cmp}
use Rattle.sibling_register.specs.History.{Reap}
use Rattle.vnode_machine.specs.Machine.{State, holds_dead, apply_operation}
use Rattle.vnode_machine.specs.Replay.{History, replay}

-- whether a key is at or after another, where one is given
abbrev pub is_from : Option Key → Key → Bool
is_from None key = true
is_from (Some from) key = is_le (key_cmp from key)

module _ {V : Type 0} where
  -- the dead keys at or after a key, or all of them, in key order
  abbrev pub dead_keys : State V → Option Key → List Key
  dead_keys state from = filter (λ key. is_from from key && holds_dead state key) (map (λ entry. entry.0) state.keys)

  -- the least of them
  abbrev pub first_dead : State V → Option Key → Option Key
  first_dead state from = slice_get (dead_keys state from) 0

  -- whether there is one
  abbrev pub has_dead : State V → Option Key → Bool
  has_dead state from = is_some (first_dead state from)

  -- after the reap of a dead key
  abbrev pub reaped : State V → Key → State V
  reaped state key = apply_operation state key None Reap

  -- after the reaps of dead keys, one by one
  abbrev pub reaped_each : State V → List Key → State V
  reaped_each state [] = state
  reaped_each state (key ∷ keys) = reaped_each (reaped state key) keys

  -- the keys that a sweep forgets: the first so many dead ones
  abbrev pub swept_keys : State V → Option Key → (budget : ℕ) → List Key
  swept_keys state from budget = take budget (dead_keys state from)

  -- and the state after it
  abbrev pub swept : State V → Option Key → (budget : ℕ) → State V
  swept state from budget = reaped_each state (swept_keys state from budget)

-- the first dead key is dead, and at or after the given one
abbrev pub FirstDeadIsDead : (vnode last_epoch : ℕ) → History → Type 0
FirstDeadIsDead vnode last_epoch history =
    let state = replay vnode last_epoch history in
    (from : Option Key) (first : Key) → first_dead state from ≡ Some first
    → IsTrue (is_from from first) × IsTrue (holds_dead state first)

-- and each key that is so is at it or after it
abbrev pub FirstDeadIsLeast : (vnode last_epoch : ℕ) → History → Type 0
FirstDeadIsLeast vnode last_epoch history =
    let state = replay vnode last_epoch history in
    (from : Option Key) (key : Key) → IsTrue (is_from from key) → IsTrue (holds_dead state key)
    → (first : Key) × (first_dead state from ≡ Some first) × IsTrue (is_le (key_cmp first key))
