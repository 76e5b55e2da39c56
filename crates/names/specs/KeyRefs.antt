-- Keys that are borrowed part by part.
use Rattle.std.specs.Prelude.{Option, List, ℕ}
use Rattle.names.specs.declared.key_ref.FoundKey.{FoundKey}
use Rattle.names.specs.declared.name.Name.{Name}
use Rattle.names.specs.declared.name.Name.TheVariants.{Short, Bytes}
use Rattle.std.specs.Option.{option_map}
use Rattle.riak_msgs.specs.declared.key.Key.{Key}
use Rattle.names.specs.declared.key_ref.KeyRef.{KeyRef}

-- the key that is borrowed
abbrev pub key_in : KeyRef → Key
key_in key = record { bucket_type = key.bucket_type.now; bucket = key.bucket.now; key = key.key.now }

-- the one that is given, or none
abbrev pub key_after : Option KeyRef → Option Key
key_after after = option_map key_in after

-- the bytes of a name
abbrev pub name_of : Name → List ℕ
name_of (Short name) = name
name_of (Bytes name) = name.now

-- the key that is found
abbrev pub key_found : FoundKey → Key
key_found key = record { bucket_type = key.bucket_type.now; bucket = name_of key.bucket; key = name_of key.key }
