use Rattle.std.proofs.Common.{◌≡◌}
use Rattle.std.specs.List.{All}
use Rattle.gate_node.proofs.partition_cache.places_of.Given as goal

abbrev pub invariant-loop : goal.invariant-loop
invariant-loop l = All (λ e. e ≡ l.entry) l.places.items
