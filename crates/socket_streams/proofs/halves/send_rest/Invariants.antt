use Rattle.std.proofs.Common.{◌≡◌, ◌≤◌, ◌++◌, drop, length}
use Rattle.socket_streams.proofs.halves.send_rest.Given as goal

abbrev pub invariant-loop : goal.invariant-loop
invariant-loop l =
    (l.sent ≤ length l.gathered)
    × (l.taken ++ drop l.sent l.gathered ≡ l.initial.taken ++ drop l.initial.sent l.gathered)
