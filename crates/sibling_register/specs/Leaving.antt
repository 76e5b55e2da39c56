-- How a value leaves a key's siblings.
use Rattle.std.specs.Prelude.{◌≢◌, ◌⊎◌, ◌&&◌, ◌++◌, Bool, List, ℕ, None, IsTrue}
use Rattle.std.specs.List.{list_any}
use Rattle.riak_msgs.specs.declared.key.Key.{Key}
use Rattle.riak_msgs.specs.KeyOrder.{key_eq}
use Rattle.sibling_register.specs.History.{Event, is_update, content_of}
use Rattle.sibling_register.specs.Siblings.{siblings, is_among}
use Rattle.sibling_register.specs.Naming.{Naming}
use Rattle.sibling_register.specs.Legal.{EachAccepted}

module _ {V C : Type 0} where
  -- some write or tombstone of the key among these events saw the sequence number
  abbrev pub is_seen_in : List (Event V C) → Key → ℕ → Bool
  is_seen_in events key number =
      list_any (λ event. (key_eq event.key key && is_update event.operation) && is_among event.saw number) events

  -- a write that is a sibling at one position, and none at the end of a history whose events are each accepted, was seen
  -- by a write or tombstone between
  abbrev pub LeavesOnlySeen : Naming V C → (between position : List (Event V C)) → Type 0
  LeavesOnlySeen naming between position =
      EachAccepted naming (between ++ position) → (key : Key) (number : ℕ)
      → IsTrue (is_among (siblings position key) number) → content_of position key number ≢ None
      → IsTrue (is_among (siblings (between ++ position) key) number) ⊎ IsTrue (is_seen_in between key number)
