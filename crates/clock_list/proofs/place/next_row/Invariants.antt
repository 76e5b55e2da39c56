use Rattle.std.proofs.Common.{◌≡◌, map, drop}
use Rattle.riak_msgs.specs.KeyOrder.{key_cmp}
use Rattle.clock_store.specs.Behind.{next_entry}
use Rattle.clock_store.specs.KeyRefs.{key_after}
use Rattle.clock_list.specs.Rows.{entry_of}
use Rattle.clock_list.proofs.place.next_row.Given as goal

abbrev pub invariant-loop-row : goal.invariant-loop-row
invariant-loop-row l = next_entry key_cmp (key_after l.after) (map entry_of l.rows) ≡ next_entry key_cmp (key_after l.after) (map entry_of (drop l.row-index l.rows))
