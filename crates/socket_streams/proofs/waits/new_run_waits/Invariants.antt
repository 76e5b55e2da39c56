use Rattle.std.proofs.Common.{◌≡◌, length}
use Rattle.socket_streams.proofs.waits.new_run_waits.Given as goal

abbrev pub invariant-loop : goal.invariant-loop
invariant-loop g l = length l.waits.items ≡ l.counter
