use Rattle.std.proofs.Common.{◌∙◌, ap, sym}
use Rattle.std.specs.Prelude.{not}
use Rattle.key_counts.specs.Stored.{one_if}
use Rattle.key_counts.proofs.counts.count_dead.Goals as goal

pub returns : goal.returns
returns c = ap (λ has. one_if (not has)) (sym c.if-has_value.false ∙ c.has_value.ensures)

pub returns-then-has_value : goal.returns-then-has_value
returns-then-has_value c = ap (λ has. one_if (not has)) (sym c.if-has_value.true ∙ c.has_value.ensures)
