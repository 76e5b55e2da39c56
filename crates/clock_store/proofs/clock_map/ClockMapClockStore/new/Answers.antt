use Rattle.clock_store.proofs.NoKeys.{empty_map}
use Rattle.clock_store.proofs.clock_map.ClockMapClockStore.new.Goals as goal

pub invariant_of-result : goal.invariant_of-result
invariant_of-result c = empty_map c.new.result c.new-2.result c.new-3.result c.new.ensures c.new-2.ensures.empty c.new-3.ensures
