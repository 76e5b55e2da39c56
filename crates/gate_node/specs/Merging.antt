-- Passes that have seen what others had seen.
use Rattle.std.specs.Prelude.{◌≡◌}
use Rattle.std.specs.List.{AllZip}
use mathlib.Core.List.{IsPrefix}
use Rattle.gate_node.specs.Asked.{Sight}
use Rattle.gate_node.specs.Passes.{Sights}

-- both passes are of one gate, and what the second has seen is a beginning of what the first has
pub record HasSeenAllOf (more less : Sight) : Type 0 where
  pub of_gate : less.gate ≡ more.gate
  pub begins : IsPrefix less.prefix more.prefix

-- so it is with each two passes of a primary
abbrev pub HaveSeenAllOf : Sights → Sights → Type 0
HaveSeenAllOf more less = AllZip HasSeenAllOf more.primaries less.primaries
