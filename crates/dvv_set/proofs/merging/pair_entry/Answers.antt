use Rattle.std.proofs.Common.{ap, arith, length}
use Rattle.std.specs.Prelude.{nat_lt}
use Rattle.dvv_set.proofs.merging.pair_entry.Goals as goal

pub new-values-requires : goal.new-values-requires
new-values-requires g c = omega arith

pub returns-clause-entry : goal.returns-clause-entry
returns-clause-entry g c = ap (λ values. (c.args.actor, (c.args.counter, values))) c.new-values.ensures.items

pub returns-clause-room : goal.returns-clause-room
returns-clause-room g c = λ i. nat_lt (length (c.new-values.ensures.items i)) (c.new-values.ensures.capacity i)
