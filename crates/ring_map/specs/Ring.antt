-- Which partition of a ring a key lies in, and the id of the vnode that serves it.
use Rattle.std.specs.Prelude.{ℕ, IsTrue, ◌≤◌, ◌+◌, ◌-◌, ◌*◌, ◌/◌, ◌%◌, ◌^◌, List, ◌++◌, length}
use Rattle.std.specs.Int.{is_power_of_two}
use Rattle.byteorder.specs.Endian.{big_bytes, big_number}
use Rattle.sha1.specs.Sha1.{sha1}
use Rattle.riak_msgs.specs.declared.Key.{Key}

-- a ring may have so many partitions: a power of two from 1 to 1,024
abbrev pub IsRingSize : ℕ → Type 0
IsRingSize size = IsTrue (is_power_of_two size) × (size ≤ 1024)

-- bytes after their length, four bytes, big-endian; of a length that passes them the low 32 bits count
abbrev pub with_length : List ℕ → List ℕ
with_length bytes = big_bytes 4 (length bytes % 2 ^ 32) ++ bytes

-- the digest of a bucket type, a bucket and a key: SHA-1 over them, each after its length
abbrev pub names_digest : List ℕ → List ℕ → List ℕ → List ℕ
names_digest bucket_type bucket key = sha1 ((with_length bucket_type ++ with_length bucket) ++ with_length key)

-- the digest of a key
abbrev pub digest_of : Key → List ℕ
digest_of key = names_digest key.bucket_type key.bucket key.key

-- the index of a digest: the top `bits` bits of its first two bytes, read as a big-endian number
abbrev pub index_of : (bits : ℕ) → List ℕ → ℕ
index_of bits digest = (big_number 2 digest / 2 ^ (16 - bits)) % 2 ^ bits

-- the id of a vnode: the run number above sixteen bits for the index
abbrev pub id_of : (run index : ℕ) → ℕ
id_of run index = run * 2 ^ 16 + index
