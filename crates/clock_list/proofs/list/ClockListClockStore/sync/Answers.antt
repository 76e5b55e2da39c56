use Rattle.std.proofs.Common.{map}
use Rattle.clock_list.specs.Rows.{entry_of}
use Rattle.clock_list.proofs.Rows.{list_after}
use Rattle.clock_list.proofs.list.ClockListClockStore.sync.Goals as goal

pub invariant_of-self : goal.invariant_of-self
invariant_of-self c = list_after c.sync_at.new.rows c.take.new.self (map entry_of c.self.inside.rows.items) c.args.key _ c.take.ensures.after c.sync_at.ensures c.self.invariant.sorted

pub invariant_of-self-in-New-take-2 : goal.invariant_of-self-in-New-take-2
invariant_of-self-in-New-take-2 c = list_after c.sync_new.new.rows c.take.new.self (map entry_of c.self.inside.rows.items) c.in-Some-New.row.key _ c.take.ensures.after c.sync_new.ensures c.self.invariant.sorted
