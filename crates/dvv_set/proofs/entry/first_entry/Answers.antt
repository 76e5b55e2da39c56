use Rattle.std.proofs.Common.{◌∙◌, ◌++◌, ◌∷◌, [], length, ap, arith}
use Rattle.dvv_set.proofs.entry.first_entry.Goals as goal

pub new-values-requires : goal.new-values-requires
new-values-requires g c = omega arith

pub push_reserved-requires : goal.push_reserved-requires
push_reserved-requires g c = (omega arith, omega (arith, ap length c.new-values.ensures.items, c.new-values.ensures.capacity))

pub returns : goal.returns
returns g c = ap (λ values. (c.args.actor, (1, values))) (c.push_reserved.ensures.items ∙ ap (λ values. values ++ c.args.value ∷ []) c.new-values.ensures.items)
