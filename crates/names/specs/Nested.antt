-- A map whose values are maps, as one list of entries.
use Rattle.std.specs.Prelude.{◌≡◌, ◌≢◌, ℕ, Option, Some, List, [], ◌∷◌, ◌++◌, map, filter, slice_get, option_and_then, true}
use Rattle.std.specs.declared.cmp.Ordering.{Ordering}
use Rattle.std.specs.BTreeMap.{BTreeMap, is_at}
use Rattle.std.specs.Cmp.Lexicographic.{slice_cmp}
use Rattle.std.specs.List.{AllByRecursion}
use Rattle.std.specs.List.Sorted.{IsStrictlySortedBy}
use Rattle.std.specs.Map.{lookup, keys_of}
use Rattle.std.specs.Option.{option_map}
use Rattle.std.specs.Ordering.{nat_cmp, ordering_then, is_lt}
use Rattle.riak_msgs.specs.declared.key.Key.{Key}
use Rattle.names.specs.AssocList.{AssocList}
use Rattle.names.specs.ShortNames.{is_short}
use Rattle.names.specs.Merged.{merged, AreApart}
use Rattle.names.specs.Behind.{entries_behind, next_entry, entry_at}

-- the entries of each inner map in turn, with each key combined of the outer and the inner one
abbrev pub flatten : {A B C V M : Type 0} → (M → List (B × V)) → (A → B → C) → List (A × M) → List (C × V)
flatten entries_of combine [] = []
flatten {B = B} {C = C} {V = V} entries_of combine (e ∷ es) =
    map {B = C × V} (λ (f : B × V). (combine e.0 f.0, f.1)) (entries_of e.1) ++ flatten entries_of combine es

module _ {A B C V M : Type 0} (entries_of : M → List (B × V)) (combine : A → B → C) (outer : A → A → Ordering) where
  -- the least combined key behind one, of those with its outer key
  abbrev pub next_inside : (B → B → Ordering) → A → B → List (A × M) → Option (C × V)
  next_inside inner a b es =
      option_and_then
      (λ (e : A × M). option_map {U = C × V} (λ (f : B × V). (combine e.0 f.0, f.1)) (next_entry inner (Some b) (entries_of e.1)))
      (entry_at outer a es)

  -- the least of those with outer keys behind one, or of all where none is given
  abbrev pub first_behind : Option A → List (A × M) → Option (C × V)
  first_behind after es = slice_get (flatten entries_of combine (entries_behind outer after es)) 0

-- an inner map: its keys ascend, and there is one
pub record IsInnerMap {B V : Type 0} (cmp : B → B → Ordering) (entries : List (B × V)) : Type 0 where
  pub ordered : IsStrictlySortedBy cmp (keys_of entries)
  pub filled : entries ≢ []

-- a map of inner maps
pub record IsNested {A B V M : Type 0} (entries_of : M → List (B × V)) (outer : A → A → Ordering) (inner : B → B → Ordering) (entries : List (A × M)) : Type 0 where
  pub ordered : IsStrictlySortedBy outer (keys_of entries)
  pub held : (a : A) (m : M) → lookup (is_at (outer a)) entries ≡ Some m → IsInnerMap inner (entries_of m)

abbrev pub bytes_cmp : List ℕ → List ℕ → Ordering
bytes_cmp = slice_cmp nat_cmp

-- the keys of one bucket, with their places
abbrev pub KeyPlaces : Type 0
KeyPlaces = AssocList (List ℕ) ℕ

abbrev pub key_entries : KeyPlaces → List (List ℕ × ℕ)
key_entries keys = keys.entries

-- those of up to 15 bytes and the longer ones as one list
abbrev pub keys_in : BTreeMap (List ℕ) ℕ → BTreeMap (List ℕ) ℕ → KeyPlaces
keys_in short long = record { entries = merged bytes_cmp short.entries long.entries }

abbrev pub AreKeys : BTreeMap (List ℕ) ℕ → BTreeMap (List ℕ) ℕ → Type 0
AreKeys short long = AreApart bytes_cmp is_short short.entries long.entries

-- a bucket and a key in it
abbrev pub BucketKey : Type 0
BucketKey = List ℕ × List ℕ

abbrev pub bucket_key : List ℕ → List ℕ → BucketKey
bucket_key bucket key = (bucket, key)

-- by bucket, then by key
abbrev pub bucket_key_cmp : BucketKey → BucketKey → Ordering
bucket_key_cmp a b = ordering_then (bytes_cmp a.0 b.0) (bytes_cmp a.1 b.1)

-- the keys of one bucket type, with their places
abbrev pub BucketKeyPlaces : Type 0
BucketKeyPlaces = AssocList BucketKey ℕ

abbrev pub bucket_places : BTreeMap (List ℕ) KeyPlaces → BucketKeyPlaces
bucket_places buckets = record { entries = flatten key_entries bucket_key buckets.entries }

abbrev pub AreBuckets : BTreeMap (List ℕ) KeyPlaces → Type 0
AreBuckets buckets = IsNested key_entries bytes_cmp bytes_cmp buckets.entries

-- those in buckets with names of up to 15 bytes and those in the others as one list
abbrev pub all_buckets : BucketKeyPlaces → BucketKeyPlaces → BucketKeyPlaces
all_buckets short long = record { entries = merged bucket_key_cmp short.entries long.entries }

abbrev pub AreAllBuckets : BucketKeyPlaces → BucketKeyPlaces → Type 0
AreAllBuckets short long = AreApart bucket_key_cmp (λ key. is_short key.0) short.entries long.entries

-- by bucket alone
abbrev pub by_bucket : BucketKey → BucketKey → Ordering
by_bucket a b = bytes_cmp a.0 b.0

-- the first of the entries whose bucket is behind one
abbrev pub first_of_buckets_behind : List ℕ → List (BucketKey × ℕ) → Option (BucketKey × ℕ)
first_of_buckets_behind bucket entries = slice_get (filter (λ entry. is_lt (bytes_cmp bucket entry.0.0)) entries) 0

-- all buckets have names of up to 15 bytes
abbrev pub AreInShort : List (BucketKey × ℕ) → Type 0
AreInShort entries = AllByRecursion (λ key. is_short key.0 ≡ true) (keys_of entries)

abbrev pub bucket_entries : BucketKeyPlaces → List (BucketKey × ℕ)
bucket_entries pairs = pairs.entries

abbrev pub key_of : List ℕ → BucketKey → Key
key_of bucket_type pair = record { bucket_type = bucket_type; bucket = pair.0; key = pair.1 }

-- all keys, with their places
abbrev pub places_of : BTreeMap (List ℕ) BucketKeyPlaces → AssocList Key ℕ
places_of types = record { entries = flatten bucket_entries key_of types.entries }

abbrev pub AreTypes : BTreeMap (List ℕ) BucketKeyPlaces → Type 0
AreTypes types = IsNested bucket_entries bytes_cmp bucket_key_cmp types.entries
