use Rattle.std.proofs.Common.{arith}
use Rattle.dvv_set.specs.Stored.{clock_entries}
use Rattle.dvv_set.proofs.Stored.{length-clock_entries}
use Rattle.dvv_set.proofs.Sound.{IsClock-dot_state_of}
use Rattle.dvv_set.proofs.clock.Clock.join.Goals as goal

pub returns-clause-clock : goal.returns-clause-clock
returns-clause-clock g c =
    let few = c.self.invariant.few in
    rw (← c.self.view_is) (IsClock-dot_state_of (clock_entries c.self.inside.entries.items) c.self.invariant.entries (omega (arith, length-clock_entries c.self.inside.entries.items)))
