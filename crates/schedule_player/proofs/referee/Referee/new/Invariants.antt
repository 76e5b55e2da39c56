use Rattle.std.proofs.Common.{◌≡◌, None}
use Rattle.std.specs.Prelude.{replicate, map}
use Rattle.schedule_player.specs.Calls.{call_in}
use Rattle.schedule_player.proofs.referee.Referee.new.Given as goal

abbrev pub invariant-loop : goal.invariant-loop
invariant-loop l = map call_in l.calls.items ≡ replicate l.counter None
