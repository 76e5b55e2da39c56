-- Keys of the default bucket type whose bucket and key have up to 15 bytes each.
use Rattle.std.specs.Prelude.{◌≡◌, ◌&&◌, Bool, true, List, ℕ, Option, Some, None, cond}
use Rattle.std.specs.Str.{bytes_eq}
use Rattle.riak_msgs.specs.BucketTypes.{default_type}
use Rattle.riak_msgs.specs.Requests.{default_key}
use Rattle.riak_msgs.specs.declared.key.Key.{Key}
use Rattle.names.specs.ShortNames.{is_short}
use Rattle.names.specs.declared.short_key.ShortKey.TheInside.{Inside}

-- whether both names are so short
abbrev pub are_short : List ℕ → List ℕ → Bool
are_short bucket key = is_short bucket && is_short key

-- whether a key is one of these
abbrev pub is_short_key : Key → Bool
is_short_key key = bytes_eq key.bucket_type default_type && are_short key.bucket key.key

-- the key, where it is
abbrev pub short_key : Key → Option Key
short_key key = cond (is_short_key key) (Some key) None

-- the key of the default bucket type with these names, where both are so short
abbrev pub short_names : List ℕ → List ℕ → Option Key
short_names bucket key = cond (are_short bucket key) (Some (default_key bucket key)) None

-- the key of these names
abbrev pub key_named : Inside → Key
key_named names = default_key names.bucket names.key

abbrev pub names_of : Key → Inside
names_of key = record { bucket = key.bucket; key = key.key }

abbrev pub AreShort : Inside → Type 0
AreShort names = (is_short names.bucket ≡ true) × (is_short names.key ≡ true)
