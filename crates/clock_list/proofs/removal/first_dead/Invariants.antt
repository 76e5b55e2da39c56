use Rattle.std.proofs.Common.{◌≡◌, map, drop}
use Rattle.std.specs.List.{position_from}
use Rattle.clock_store.specs.Forgetting.{is_dead_from, key_given}
use Rattle.clock_list.specs.Rows.{entry_of}
use Rattle.clock_list.proofs.removal.first_dead.Given as goal

abbrev pub invariant-loop-i : goal.invariant-loop-i
invariant-loop-i l = position_from (is_dead_from (key_given l.from)) 0 (map entry_of l.rows) ≡ position_from (is_dead_from (key_given l.from)) l.i (map entry_of (drop l.i l.rows))
