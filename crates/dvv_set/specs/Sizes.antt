-- How many values the entries of a clock have, and have once others are merged in. No public clause names this.
use Rattle.std.specs.Prelude.{List, [], ◌∷◌, ◌+◌, ℕ, length}
use Rattle.actor_epoch.specs.declared.Actor.{Actor}
use Rattle.dvv_set.specs.ClockEntries.{ClockEntries, entry_for, merged}

module _ {V : Type 0} where
  -- a number of each entry, summed up
  abbrev pub total : (Actor × (ℕ × List V) → ℕ) → ClockEntries V → ℕ
  total of [] = 0
  total of (entry ∷ entries) = of entry + total of entries

  -- how many values an entry has
  abbrev pub values_in_entry : Actor × (ℕ × List V) → ℕ
  values_in_entry entry = length entry.1.1

  -- how many values the entry of its actor has once this one is merged in, and before
  abbrev pub values_merged : ClockEntries V → Actor × (ℕ × List V) → ℕ
  values_merged entries entry = length (merged (entry_for entry.0 entries) entry.1).1

  abbrev pub values_replaced : ClockEntries V → Actor × (ℕ × List V) → ℕ
  values_replaced entries entry = length (entry_for entry.0 entries).1
