-- The bucket type of a key for which none is given.
use Rattle.std.specs.Prelude.{ℕ, List, codes}

abbrev pub default_type : List ℕ
default_type = codes "default"
