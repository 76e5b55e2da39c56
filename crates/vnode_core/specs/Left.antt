-- The keys of a vnode, a fallback, that another, its primary, hasn't as they are there now.
use Rattle.std.specs.Prelude.{◌==◌, if◌then◌else◌, Bool, false, not, ℕ, length, filter, Option}
use Rattle.std.specs.Option.{option_map_or}
use Rattle.riak_msgs.specs.declared.Key.{Key}
use Rattle.riak_msgs.specs.Contents.{Content}
use Rattle.riak_msgs.specs.KeyOrder.{key_cmp}
use Rattle.actor_epoch.specs.Dots.{counter_in}
use Rattle.clock_store.specs.Behind.{entries_behind}
pub use Rattle.clock_store.specs.Keys.{Keys, stored_of}
pub use Rattle.vnode_machine.specs.Machine.{State, Stored, stored}

-- the first has the last dot of the second's life: it knows as much of that one's own actor
abbrev pub has_last_dot : Stored Content → Stored Content → Bool
has_last_dot here there =
    option_map_or (λ own. counter_in here.clock.known own == counter_in there.clock.known own) there.own false

-- a key is copied as it is now where the primary's clock has the fallback's own actor of the key with the fallback's counter
abbrev pub is_copied : State Content → Key × Stored Content → Bool
is_copied primary entry = option_map_or (λ here. has_last_dot here entry.1) (stored primary entry.0) false

-- how many of these aren't
abbrev pub count_left : State Content → Keys → ℕ
count_left primary keys = length (filter (λ entry. not (is_copied primary entry)) keys)

-- what a key adds to it
abbrev pub one_unless : Bool → ℕ
one_unless copied = if copied then 0 else 1

-- the keys that a vnode holds behind one, or all where none is given
abbrev pub keys_behind : Option Key → State Content → Keys
keys_behind after state = entries_behind key_cmp after state.keys
