use Rattle.std.proofs.Common.{◌≡◌, length}
use Rattle.std.specs.Prelude.{None}
use Rattle.job_pool.specs.Lists.{Every}
use Rattle.job_pool.proofs.order.empty_places.Given as goal

abbrev pub invariant-loop : goal.invariant-loop
invariant-loop g l = (length l.places.items ≡ l.counter) × Every (λ place. place ≡ None) l.places.items
