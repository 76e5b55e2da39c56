use Rattle.clock_store.proofs.NoKeys.{empty_map}
use Rattle.clock_store.proofs.clock_map.ClockMapClockStore.clear.Goals as goal

pub invariant_of-self : goal.invariant_of-self
invariant_of-self c = empty_map c.clear.new.self c.clear-2.new.self c.clear-3.new.self c.clear.ensures c.clear-2.ensures.empty c.clear-3.ensures
