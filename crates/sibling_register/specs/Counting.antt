-- The naming by counts: the context of a position is how many events the key has there.
use Rattle.std.specs.Prelude.{List, ℕ, Option, reverse, take, nat_eq}
use Rattle.std.specs.Option.{option_map}
use Rattle.riak_msgs.specs.declared.key.Key.{Key}
use Rattle.sibling_register.specs.History.{Event, count_of}
use Rattle.sibling_register.specs.Naming.{Naming}

module _ {V : Type 0} where
  abbrev pub by_count : Naming V ℕ
  by_count = record { name = count_of; same = λ a b. nat_eq a b }

  -- the history up to a position, which is given by how many events it is after
  abbrev pub up_to : List (Event V ℕ) → ℕ → List (Event V ℕ)
  up_to history position = reverse (take position (reverse history))

  -- the context of a position, where one is given
  abbrev pub context_at : List (Event V ℕ) → Key → Option ℕ → Option ℕ
  context_at history key position = option_map (λ p. count_of (up_to history p) key) position
