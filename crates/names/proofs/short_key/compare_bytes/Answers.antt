use Rattle.std.proofs.Common.{◌∙◌, sym, ap}
use Rattle.names.specs.ShortNames.{short_name}
use Rattle.names.proofs.ShortKeys.{longer_above}
use Rattle.names.proofs.short_key.compare_bytes.Goals as goal

pub returns-else-is_above : goal.returns-else-is_above
returns-else-is_above c =
    longer_above c.args.bytes.now c.args.name (sym c.in-None.is ∙ c.of.ensures ∙ ap short_name c.as_slice.ensures) c.requires c.is_above.result c.as_slice-in-None.result.now c.is_above.ensures c.as_slice-in-None.ensures c.if-is_above.false
