-- Keys and their order.
use Rattle.std.specs.Prelude.{Bool, ◌&&◌}
use Rattle.std.specs.declared.cmp.Ordering.{Ordering}
use Rattle.std.specs.Ordering.{nat_cmp, ordering_then}
use Rattle.std.specs.Cmp.Lexicographic.{slice_cmp}
use Rattle.std.specs.Str.{bytes_eq}
use Rattle.riak_msgs.specs.declared.key.Key.{Key}

-- by bucket type, then by bucket, then by key, each by its bytes
abbrev pub key_cmp : Key → Key → Ordering
key_cmp a b =
    ordering_then (slice_cmp nat_cmp a.bucket_type b.bucket_type)
    (ordering_then (slice_cmp nat_cmp a.bucket b.bucket) (slice_cmp nat_cmp a.key b.key))

-- whether two keys are one
abbrev pub key_eq : Key → Key → Bool
key_eq a b = bytes_eq a.bucket_type b.bucket_type && (bytes_eq a.bucket b.bucket && bytes_eq a.key b.key)
