use Rattle.std.proofs.Common.{◌≡◌, map, drop}
use Rattle.std.specs.FinMap.Entries.{find}
use Rattle.riak_msgs.specs.KeyOrder.{key_cmp}
use Rattle.clock_list.specs.Rows.{entry_of}
use Rattle.clock_list.proofs.place.stored_short.Given as goal

abbrev pub invariant-loop-row : goal.invariant-loop-row
invariant-loop-row l = find key_cmp l.short (map entry_of l.rows) ≡ find key_cmp l.short (map entry_of (drop l.row-index l.rows))
