-- Lives of a key, and the dots of its writes and tombstones, by the history alone. A life begins with a write or
-- tombstone of a key that is in none, and ends with the key's next reap; each has one actor.
use Rattle.std.specs.Prelude.{Bool, false, not, ◌&&◌, ◌==◌, ◌+◌, if◌then◌else◌, List, [], ◌∷◌, ℕ, Option, Some, None, option_map}
use Rattle.riak_msgs.specs.declared.Key.{Key}
use Rattle.riak_msgs.specs.KeyOrder.{key_eq}
use Rattle.sibling_register.specs.History.{Event, events_of, count_of, is_update}
use Rattle.actor_epoch.specs.declared.Dot.{Dot}

abbrev pub next_of : Dot → Dot
next_of dot = record { actor = dot.actor; counter = dot.counter + 1 }

module _ {V C : Type 0} where
  -- whether events, newest first, begin with a write or tombstone
  abbrev pub ends_in_update : List (Event V C) → Bool
  ends_in_update [] = false
  ends_in_update (event ∷ before) = is_update event.operation

  -- whether the key is in a life at the end of the history: its latest event is no reap
  abbrev pub is_alive : List (Event V C) → Key → Bool
  is_alive history key = ends_in_update (events_of history key)

  -- how many lives began, of whatever keys: each with a write or tombstone
  abbrev pub lives_begun : List (Event V C) → ℕ
  lives_begun [] = 0
  lives_begun (event ∷ before) =
      if is_update event.operation && not (is_alive before event.key) then lives_begun before + 1 else lives_begun before

  -- the dot of the key's latest write or tombstone, at the vnode of this id that had given this last epoch: the writes
  -- and tombstones of a life are numbered 1, 2 and so on
  abbrev pub latest_dot : (vnode last_epoch : ℕ) → List (Event V C) → Key → Option Dot
  latest_dot vnode last_epoch [] key = None
  latest_dot vnode last_epoch (event ∷ before) key =
      let earlier = latest_dot vnode last_epoch before key in
      if not (key_eq event.key key && is_update event.operation) then earlier
      else if is_alive before key then option_map next_of earlier
      else Some (record { actor = record { vnode = vnode; epoch = (last_epoch + lives_begun before) + 1 }; counter = 1 })

  -- the dot of the key's write or tombstone of this number
  abbrev pub dot_of : (vnode last_epoch : ℕ) → List (Event V C) → Key → ℕ → Option Dot
  dot_of vnode last_epoch [] key number = None
  dot_of vnode last_epoch (event ∷ before) key number =
      if (key_eq event.key key && is_update event.operation) && (count_of (event ∷ before) key == number)
      then latest_dot vnode last_epoch (event ∷ before) key
      else dot_of vnode last_epoch before key number

  -- the dots of all writes and tombstones, of whatever keys and lives, the latest first
  abbrev pub dots : (vnode last_epoch : ℕ) → List (Event V C) → List (Option Dot)
  dots vnode last_epoch [] = []
  dots vnode last_epoch (event ∷ before) =
      if is_update event.operation then latest_dot vnode last_epoch (event ∷ before) event.key ∷ dots vnode last_epoch before
      else dots vnode last_epoch before
