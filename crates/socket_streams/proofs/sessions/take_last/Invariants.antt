use Rattle.std.proofs.Common.{◌≡◌, length, map}
use Rattle.socket_streams.specs.Sessions.{in_turn}
use Rattle.socket_streams.proofs.sessions.take_last.Given as goal

abbrev pub invariant-loop-last : goal.invariant-loop-last
invariant-loop-last g l = in_turn (map (λ xs. xs.items) l.lists.items) ≡ in_turn (map (λ xs. xs.items) l.initial.lists.items)

abbrev pub decreases-loop-last : goal.decreases-loop-last
decreases-loop-last g l = length l.lists.items
