use Rattle.std.proofs.Common.{◌≡◌, map, drop}
use Rattle.clock_list.specs.Rows.{entry_of}
use Rattle.clock_list.specs.Places.{place_in, place_from}
use Rattle.clock_list.proofs.place.place_of.Given as goal

abbrev pub invariant-loop-i : goal.invariant-loop-i
invariant-loop-i l = place_in l.key (map entry_of l.rows) ≡ place_from l.i l.key (map entry_of (drop l.i l.rows))
