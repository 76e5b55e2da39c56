use Rattle.std.proofs.Common.{◌≡◌, ◌++◌, map}
use Rattle.std.specs.Prelude.{Some}
use Rattle.std.specs.Vec.Iter.{into_iter_items}
use Rattle.job_pool.proofs.order.each_end.Given as goal

abbrev pub invariant-loop-place : goal.invariant-loop-place
invariant-loop-place g l = map (λ end. Some end) l.ends.items ++ into_iter_items l.place-iterator ≡ l.fn.places.items
