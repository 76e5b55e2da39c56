-- The entries of a clock as the dvvset module has them, (actor, n, values), and what they mean.
use Rattle.std.specs.Prelude.{Bool, ◌&&◌, if◌then◌else◌, List, [], ◌∷◌, ◌+◌, ◌-◌, ℕ, length, take, map, min, flat_map, unwrap_or, nat_le, Option, Some, None, T, IsTrue, is_some, cond}
use Rattle.std.specs.List.{list_all}
use Rattle.std.specs.FinMap.Entries.{find, put, is_sorted}
use Rattle.actor_epoch.specs.declared.Actor.{Actor}
use Rattle.actor_epoch.specs.declared.Dot.{Dot}
use Rattle.actor_epoch.specs.Dots.{actor_cmp, counter_in}
use Rattle.dvv_set.specs.Clocks.{DotState}

-- (actor, (n, values)), one for each actor
abbrev pub ClockEntries : Type 0 → Type 0
ClockEntries V = List (Actor × (ℕ × List V))

module _ {V : Type 0} where
  -- values, newest first, with their dots: n, n - 1, and so on
  abbrev pub values_from : Actor → ℕ → List V → List (Dot × V)
  values_from actor n [] = []
  values_from actor n (value ∷ values) = (record { actor = actor; counter = n }, value) ∷ values_from actor (n - 1) values

  abbrev pub known_of : ClockEntries V → List Dot
  known_of entries = map (λ entry. record { actor = entry.0; counter = entry.1.0 }) entries

  abbrev pub live_of : ClockEntries V → List (Dot × V)
  live_of entries = flat_map (λ entry. values_from entry.0 entry.1.0 entry.1.1) entries

  -- an entry has seen the dots 1 to n of its actor, and its values have the last of them
  abbrev pub dot_state_of : ClockEntries V → DotState V
  dot_state_of entries = record { known = known_of entries; live = live_of entries }

  -- n is at least 1, and no value has a dot below 1
  abbrev pub is_entry : Actor × (ℕ × List V) → Bool
  is_entry entry = nat_le 1 entry.1.0 && nat_le (length entry.1.1) entry.1.0

  -- the entries strictly rise by actor, and each is one
  pub record AreEntries (entries : ClockEntries V) : Type 0 where
    pub sorted : T (is_sorted actor_cmp entries)
    pub each : IsTrue (list_all is_entry entries)

  -- the entry of an actor, (0, []) where there is none
  abbrev pub entry_for : Actor → ClockEntries V → ℕ × List V
  entry_for actor entries = unwrap_or (find actor_cmp actor entries) (0, [])

  -- of two entries of an actor, the one that has seen more, without the values that the other has seen and dropped
  abbrev pub merged : ℕ × List V → ℕ × List V → ℕ × List V
  merged own other =
      if nat_le other.0 own.0
      then (own.0, take (own.0 - other.0 + length other.1) own.1)
      else (other.0, take (other.0 - own.0 + length own.1) other.1)

  -- the entries with one more merged in
  abbrev pub merge_entry : Actor × (ℕ × List V) → ClockEntries V → ClockEntries V
  merge_entry entry entries = put actor_cmp entry.0 (merged (entry_for entry.0 entries) entry.1) entries

  -- the entries with others merged in, one after another
  abbrev pub merge_all : ClockEntries V → ClockEntries V → ClockEntries V
  merge_all [] entries = entries
  merge_all (entry ∷ others) entries = merge_all others (merge_entry entry entries)

  -- pairs as entries without values
  abbrev pub entries_of_pairs : List Dot → ClockEntries V
  entries_of_pairs pairs = map (λ pair. (pair.actor, (pair.counter, []))) pairs

  -- the entries without what a context saw
  abbrev pub entries_without : Option (List Dot) → ClockEntries V → ClockEntries V
  entries_without None entries = entries
  entries_without (Some pairs) entries = merge_all (entries_of_pairs pairs) entries

  -- the entry of an actor with one value more
  abbrev pub with_value : V → ℕ × List V → ℕ × List V
  with_value value entry = (entry.0 + 1, value ∷ entry.1)

  -- how many of others have actors that are new
  abbrev pub count_new : ClockEntries V → ClockEntries V → ℕ
  count_new [] entries = 0
  count_new (entry ∷ others) entries = cond (is_some (find actor_cmp entry.0 entries)) 0 1 + count_new others entries

  -- how many of an entry's values have dots above a counter
  abbrev pub newer : ℕ → ℕ × List V → ℕ
  newer seen entry = min (length entry.1) (entry.0 - seen)

  -- how many values have dots that pairs don't cover
  abbrev pub count_uncovered : List Dot → ClockEntries V → ℕ
  count_uncovered pairs [] = 0
  count_uncovered pairs (entry ∷ entries) = newer (counter_in pairs entry.0) entry.1 + count_uncovered pairs entries

  -- an entry without its values
  abbrev pub emptied : Actor × (ℕ × List V) → Actor × (ℕ × List V)
  emptied entry = (entry.0, (entry.1.0, []))
