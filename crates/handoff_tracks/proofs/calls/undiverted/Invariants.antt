use Rattle.std.proofs.Common.{◌≡◌, length}
use Rattle.handoff_tracks.specs.Tracks.{AreUndiverted}
use Rattle.handoff_tracks.proofs.calls.undiverted.Given as goal

abbrev pub invariant-loop : goal.invariant-loop
invariant-loop l = AreUndiverted l.tracks.items × (length l.tracks.items ≡ l.counter)
