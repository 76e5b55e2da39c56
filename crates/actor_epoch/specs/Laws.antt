-- What contexts promise.
use Rattle.std.specs.Prelude.{◌≡◌, ◌⊎◌, ◌&&◌, ◌++◌, ◌∷◌, ◌<◌, ◌^◌, List, ℕ, Some, IsTrue, nat_le}
use Rattle.std.specs.List.{All, list_all}
use Rattle.actor_epoch.specs.declared.dot.Dot.{Dot}
use Rattle.actor_epoch.specs.declared.version.Version.{Version}
use Rattle.actor_epoch.specs.declared.version.Version.TheVariants.{One, Two}
use Rattle.actor_epoch.specs.Dots.{covers, counter_in}
use Rattle.actor_epoch.specs.Contexts.{encoding, encoding_as, has_room, EncodesAs, is_well_formed, is_rising}
use Rattle.actor_epoch.specs.Given.{Pairs, context_of}

-- the bytes that encode pairs, in either version, decode to them
abbrev pub ReadsBack : Version → List Dot → Type 0
ReadsBack version pairs =
    IsTrue (is_well_formed pairs) → IsTrue (list_all (has_room version) pairs) → context_of (encoding_as version pairs) ≡ Some (Pairs pairs)

-- as do those that are written, where each counter has room
abbrev pub ReadsWritten : List Dot → Type 0
ReadsWritten pairs = IsTrue (is_well_formed pairs) → context_of (encoding pairs) ≡ Some (Pairs pairs)

-- and no others do
abbrev pub ReadsNoOthers : List ℕ → List Dot → Type 0
ReadsNoOthers bytes pairs =
    All (λ b. b < 2 ^ 8) bytes → context_of bytes ≡ Some (Pairs pairs)
    → IsTrue (is_well_formed pairs) × (EncodesAs One bytes pairs ⊎ EncodesAs Two bytes pairs)

-- pairs cover the dots from 1 to the greatest counter of the dot's actor in them
abbrev pub CoversUpTo : List Dot → Dot → Type 0
CoversUpTo pairs dot = covers pairs dot ≡ (nat_le 1 dot.counter && nat_le dot.counter (counter_in pairs dot.actor))

-- of rising pairs each has the greatest counter of its actor
abbrev pub HasItsCounter : List Dot → Dot → List Dot → Type 0
HasItsCounter before pair after = IsTrue (is_rising (before ++ pair ∷ after)) → counter_in (before ++ pair ∷ after) pair.actor ≡ pair.counter
