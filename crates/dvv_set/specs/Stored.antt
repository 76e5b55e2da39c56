-- The entries of the code as the contracts see them: (actor, (counter, values)), without how they lie in memory.
use Rattle.std.specs.Prelude.{Bool, List, [], ◌∷◌, ℕ, ◌+◌, length, map, flat_map, nat_lt, cond}
use Rattle.std.specs.List.{list_all}
use Rattle.std.specs.Ordering.{is_lt}
use Rattle.std.specs.FinMap.Entries.{by_order}
use Rattle.actor_epoch.specs.declared.Actor.{Actor}
use Rattle.actor_epoch.specs.Dots.{actor_cmp}
use Rattle.dvv_set.specs.declared.entry.Entry.{Entry}
use Rattle.dvv_set.specs.declared.entry.KnownPair.{KnownPair}
use Rattle.dvv_set.specs.declared.entry.Place.{Place}
use Rattle.dvv_set.specs.declared.entry.Place.TheVariants.{Taken, Free}
use Rattle.dvv_set.specs.ClockEntries.{ClockEntries, live_of}

-- one place further on
abbrev pub one_on : Place → Place
one_on (Taken at) = Taken (at + 1)
one_on (Free at) = Free (at + 1)

-- the actor of a pair, which has its numbers alone
abbrev pub actor_of : KnownPair → Actor
actor_of pair = record { vnode = pair.vnode; epoch = pair.epoch }

module _ {V : Type 0} where
  abbrev pub clock_entry : Entry V → Actor × (ℕ × List V)
  clock_entry entry = (actor_of entry.pair, (entry.pair.counter, entry.values.items))

  abbrev pub clock_entries : List (Entry V) → ClockEntries V
  clock_entries entries = map clock_entry entries

  -- where an actor stands, or would
  abbrev pub search_actor : Actor → ClockEntries V → Place
  search_actor actor [] = Free 0
  search_actor actor (entry ∷ entries) = by_order (actor_cmp entry.0 actor) (one_on (search_actor actor entries)) (Taken 0) (Free 0)

  -- each of the entries is below an actor
  abbrev pub are_below : Actor → ClockEntries V → Bool
  are_below actor entries = list_all (λ entry. is_lt (actor_cmp entry.0 actor)) entries

  -- the values of entries, in the order in which they are shown
  abbrev pub values_in : List (Entry V) → List V
  values_in entries = flat_map (λ entry. entry.values.items) entries

  -- one more value fits into an entry without memory
  abbrev pub has_room : Entry V → Bool
  has_room entry = nat_lt (length entry.values.items) entry.values.capacity

  -- how many values an actor may come to have without memory: none more where an entry is full
  abbrev pub values_room : List (Entry V) → ℕ
  values_room entries = cond (list_all has_room entries) (length (live_of (clock_entries entries)) + 1) 0
