use Rattle.std.proofs.Common.{◌≡◌}
use Rattle.socket_streams.specs.Arriving.{IsSameSource}
use Rattle.socket_streams.proofs.arrivals.ArrivalsJobs.next.Given as goal

abbrev pub invariant-loop : goal.invariant-loop
invariant-loop g l =
    (goal.iterator-loop g).can_next l.iterator' × (goal.iterator-loop g).is_finite l.iterator'
    × IsSameSource l.initial.self l.self × (l.self.given ≡ l.initial.self.given)
