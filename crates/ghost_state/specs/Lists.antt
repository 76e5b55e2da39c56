-- Lists.
use Rattle.std.specs.Prelude.{List, [], ◌∷◌, Option, Some, None}

-- the first element, where there is one
abbrev pub first_of : {T : Type 0} → List T → Option T
first_of [] = None
first_of (x ∷ xs) = Some x
