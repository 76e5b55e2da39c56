-- The siblings of a key, and what a key is by them.
use Rattle.std.specs.Prelude.{Bool, not, ◌==◌, ◌&&◌, if◌then◌else◌, List, [], ◌∷◌, ℕ, suc, length, is_some}
use Rattle.std.specs.List.{list_any}
use Rattle.riak_msgs.specs.declared.key.Key.{Key}
use Rattle.sibling_register.specs.History.{Event, events_of, is_update, content_of}

-- whether a sequence number is among these
abbrev pub is_among : List ℕ → ℕ → Bool
is_among numbers number = list_any (λ other. other == number) numbers

module _ {V C : Type 0} where
  -- the sequence numbers of the writes and tombstones among a key's events that none of the later events saw
  abbrev pub unseen_by : (later events : List (Event V C)) → List ℕ
  unseen_by later [] = []
  unseen_by later (event ∷ before) =
      let number = suc (length before) in
      let rest = unseen_by (event ∷ later) before in
      if is_update event.operation && not (list_any (λ other. is_among other.saw number) later) then number ∷ rest else rest

  -- the writes and tombstones of the key that no later event saw, by their sequence numbers, greatest first
  abbrev pub siblings : List (Event V C) → Key → List ℕ
  siblings history key = unseen_by [] (events_of history key)

  -- a key is defined where it has a sibling, and absent where it has none
  abbrev pub is_defined : List (Event V C) → Key → Bool
  is_defined history key = not (length (siblings history key) == 0)

  -- present where some sibling is a write
  abbrev pub is_present : List (Event V C) → Key → Bool
  is_present history key = list_any (λ number. is_some (content_of history key number)) (siblings history key)

  -- and dead where it is defined and not present
  abbrev pub is_dead : List (Event V C) → Key → Bool
  is_dead history key = is_defined history key && not (is_present history key)
