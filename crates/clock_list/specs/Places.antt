-- Where a key stands in a list of entries in key order.
use Rattle.std.specs.Prelude.{◌+◌, List, [], ◌∷◌, ℕ}
use Rattle.std.specs.FinMap.Entries.{by_order}
use Rattle.riak_msgs.specs.declared.Key.{Key}
use Rattle.riak_msgs.specs.KeyOrder.{key_cmp}
use Rattle.clock_list.specs.declared.place.Place.{Place}
use Rattle.clock_list.specs.declared.place.Place.TheVariants.{At, New}

module _ {X : Type 0} where
  -- the place of a key in what is left of a list from this index on
  abbrev pub place_from : ℕ → Key → List (Key × X) → Place
  place_from i key [] = New i
  place_from i key (entry ∷ entries) = by_order (key_cmp key entry.0) (New i) (At i) (place_from (i + 1) key entries)

  abbrev pub place_in : Key → List (Key × X) → Place
  place_in key entries = place_from 0 key entries
