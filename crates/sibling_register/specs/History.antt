-- A history: what was accepted, newest first. A position of it is the history up to there: what is left of the list
-- where later events are taken away. V is what is written, C what a context is.
use Rattle.std.specs.Prelude.{Bool, true, false, ◌==◌, if◌then◌else◌, List, [], ◌∷◌, ℕ, zero, suc, length, filter, Option, Some, None, option_and_then}
use Rattle.riak_msgs.specs.declared.key.Key.{Key}
use Rattle.riak_msgs.specs.KeyOrder.{key_eq}

-- what an accepted command did: a write of a content, a tombstone or a reap
pub data Operation (V : Type 0) : Type 0 where
  Write : V → Operation V
  Tombstone : Operation V
  Reap : Operation V

-- an accepted command: its key, its operation, the context that was given, and the sequence numbers of the key that it saw
pub record Event (V C : Type 0) : Type 0 where
  pub key : Key
  pub operation : Operation V
  pub context : Option C
  pub saw : List ℕ

module _ {V : Type 0} where
  -- whether a operation is a write or a tombstone, and no reap
  abbrev pub is_update : Operation V → Bool
  is_update (Write content) = true
  is_update Tombstone = true
  is_update Reap = false

  -- what a write wrote
  abbrev pub written : Operation V → Option V
  written (Write content) = Some content
  written Tombstone = None
  written Reap = None

module _ {V C : Type 0} where
  -- the events of one key, over all its lives, newest first; their sequence numbers are 1, 2 and so on from the oldest
  abbrev pub events_of : List (Event V C) → Key → List (Event V C)
  events_of history key = filter (λ event. key_eq event.key key) history

  -- how many events a key has: the sequence number of its latest
  abbrev pub count_of : List (Event V C) → Key → ℕ
  count_of history key = length (events_of history key)

  -- of events of one key, newest first, that of this sequence number
  abbrev pub numbered : List (Event V C) → ℕ → Option (Event V C)
  numbered [] number = None
  numbered (event ∷ before) number = if number == suc (length before) then Some event else numbered before number

  -- the content of the key's write of this sequence number
  abbrev pub content_of : List (Event V C) → Key → ℕ → Option V
  content_of history key number = option_and_then (λ event. written event.operation) (numbered (events_of history key) number)

-- the sequence numbers from n down to 1
abbrev pub numbers_to : ℕ → List ℕ
numbers_to zero = []
numbers_to (suc n) = suc n ∷ numbers_to n
