-- A walk over the keys of a vnode.
use Rattle.std.specs.Prelude.{◌≡◌, ℕ, List, Option, Some, None}
use Rattle.riak_msgs.specs.declared.Key.{Key}
use Rattle.names.specs.declared.key_ref.FoundKey.{FoundKey}
use Rattle.names.specs.declared.name.Name.{Name}
use Rattle.names.specs.declared.name.Name.TheVariants.{Short, Bytes}
use Rattle.names.specs.KeyRefs.{key_found}

-- these are the bytes of a short name
abbrev pub IsOwnOf : Name → List ℕ → Type 0
IsOwnOf (Short name) own = own ≡ name
IsOwnOf (Bytes name) own = Unit {0}

-- how far it has come: to the key that was found last, or where it began
abbrev pub reached : Option Key → Option FoundKey → Option Key
reached began None = began
reached began (Some found) = Some (key_found found)
