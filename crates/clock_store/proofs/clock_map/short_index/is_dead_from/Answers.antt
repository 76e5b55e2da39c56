use Rattle.std.proofs.Common.{◌∙◌, sym, ap}
use Rattle.std.specs.Prelude.{◌&&◌}
use Rattle.std.specs.Ordering.{is_le}
use Rattle.clock_store.specs.Index.{is_mark}
use Rattle.names.proofs.ShortKeys.{le_unless_greater}
use Rattle.clock_store.proofs.clock_map.short_index.is_dead_from.Goals as goal

pub returns-in-Greater : goal.returns-in-Greater
returns-in-Greater c = ap (λ o. is_le o && is_mark c.args.spare c.args.place) (sym c.in-Greater.is ∙ c.compare_key.ensures)

pub returns-in_default : goal.returns-in_default
returns-in_default c =
    c.is_mark.ensures ∙ ap (λ b. b && is_mark c.args.spare c.args.place) (sym (le_unless_greater c.compare_key.result c.in_default.not-Greater) ∙ ap is_le c.compare_key.ensures)
