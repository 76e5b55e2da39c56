use Rattle.std.proofs.Common.{sym, ap}
use Rattle.std.specs.Prelude.{is_some}
use Rattle.clock_store.proofs.clock_map.index.DeadKeys.has_entry.Goals as goal

pub returns-then-is_absent : goal.returns-then-is_absent
returns-then-is_absent c = ap is_some (sym (c.requires c.if-is_absent.true))
