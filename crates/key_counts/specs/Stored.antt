-- How many keys, siblings, dead keys and bytes of values a vnode stores.
use Rattle.std.specs.Prelude.{◌≡◌, ◌++◌, Bool, true, false, not, ℕ, [], length, filter, Option, is_some, if◌then◌else◌}
use Rattle.std.specs.Option.{option_map_or}
use Rattle.std.specs.List.{list_any, sum_by}
use Rattle.riak_msgs.specs.declared.Key.{Key}
use Rattle.riak_msgs.specs.Contents.{Content}
use Rattle.vnode_core.specs.Left.{Keys, State, Stored, keys_behind}
use Rattle.key_counts.specs.declared.counts.KeyCounts.{KeyCounts}
use Rattle.key_counts.specs.declared.counts.Stretch.{Stretch}
use Rattle.key_counts.specs.Sums.{capped}

-- how many siblings a key has, tombstones among them
abbrev pub siblings_of : Stored Content → ℕ
siblings_of stored = length stored.clock.live

-- all siblings of a dead key are tombstones
abbrev pub is_dead : Stored Content → Bool
is_dead stored = not (list_any (λ sibling. is_some sibling.1) stored.clock.live)

-- how many bytes the value of a sibling has; a tombstone has none
abbrev pub value_len : Option Content → ℕ
value_len sibling = option_map_or (λ content. length content.value) sibling 0

-- how many bytes the values of a key's siblings have together
abbrev pub bytes_of : Stored Content → ℕ
bytes_of stored = sum_by (λ sibling. value_len sibling.1) stored.clock.live

-- how many keys these are, with how many siblings, dead keys and bytes
abbrev pub counts_of : Keys → KeyCounts
counts_of keys = record {
  keys = length keys;
  siblings = sum_by (λ entry. siblings_of entry.1) keys;
  dead_keys = length (filter (λ entry. is_dead entry.1) keys);
  value_bytes = sum_by (λ entry. bytes_of entry.1) keys;
}

-- what a vnode stores
abbrev pub counts_in : State Content → KeyCounts
counts_in state = capped (counts_of state.keys)

-- the keys that a stretch leaves behind it: none, where it goes to the last one
abbrev pub keys_left : (is_last : Bool) → (up_to : Option Key) → State Content → Keys
keys_left true up_to state = []
keys_left false up_to state = keys_behind up_to state

-- So much is stored in a stretch of keys, which goes from behind one, or from the first, up to one and with it, or to the last: its keys and those that it
-- leaves behind it are all that there are behind where it begins.
pub record IsStretch (state : State Content) (behind up_to : Option Key) (stretch : Stretch) : Type 0 where
  pub keys : Keys
  pub are : keys_behind behind state ≡ keys ++ keys_left stretch.is_last up_to state
  pub counted : stretch.counts ≡ capped (counts_of keys)

-- 1 where it is so
abbrev pub one_if : Bool → ℕ
one_if is = if is then 1 else 0

-- what one key counts
abbrev pub one_key : Stored Content → KeyCounts
one_key stored = record {
  keys = 1;
  siblings = siblings_of stored;
  dead_keys = one_if (is_dead stored);
  value_bytes = bytes_of stored;
}
