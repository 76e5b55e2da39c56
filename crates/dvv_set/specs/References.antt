-- Clocks with other values in the places of theirs.
use Rattle.std.specs.Prelude.{List, ℕ, map, Option}
use Rattle.std.specs.Option.{option_map}
use Rattle.std.specs.Borrow.{Bor}
use Rattle.actor_epoch.specs.declared.Actor.{Actor}
use Rattle.dvv_set.specs.Clocks.{DotState}

-- what is referred to, where something is
abbrev pub referred : {V : Type 0} → Option (Bor V) → Option V
referred reference = option_map (λ r. r.now) reference

module _ {V W : Type 0} (f : V → W) where
  abbrev pub with_entry : Actor × (ℕ × List V) → Actor × (ℕ × List W)
  with_entry entry = (entry.0, (entry.1.0, map f entry.1.1))

  -- the same dots, with these values
  abbrev pub with_values : DotState V → DotState W
  with_values clock = record { known = clock.known; live = map (λ entry. (entry.0, f entry.1)) clock.live }
