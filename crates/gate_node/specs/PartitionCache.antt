-- What a cache of partitions remembers: the partition of each key that it has.
use Rattle.std.specs.Prelude.{◌≡◌, ℕ, take, drop}
use Rattle.riak_msgs.specs.declared.key.Key.{Key}
use Rattle.riak_msgs.specs.Requests.{default_key}
use Rattle.ring_map.specs.Ring.{digest_of, index_of}
use Rattle.gate_node.specs.declared.cached_key.CachedKey.{CachedKey}
use Rattle.gate_node.specs.declared.partition_cache.Entry.{Entry}

-- the key of a bucket and a name of the default type, which lie one behind the other
abbrev pub key_in : CachedKey → Key
key_in cached = default_key (take cached.bucket_len cached.bytes) (take cached.key_len (drop cached.bucket_len cached.bytes))

-- an entry has the index of its key's partition
abbrev pub IsIndexed : ℕ → Entry → Type 0
IsIndexed bits entry = entry.index ≡ index_of bits (digest_of (key_in entry.key))
