-- The limits of epochs, counters and contexts.
use Rattle.std.specs.Prelude.{ℕ}

-- the greatest epoch of a vnode
abbrev pub max_epoch : ℕ
max_epoch = 4294967295

-- the greatest counter of an actor
abbrev pub max_counter : ℕ
max_counter = 18446744073709551615

-- the most actors of a clock, and the most pairs of a context
abbrev pub max_actors : ℕ
max_actors = 64
