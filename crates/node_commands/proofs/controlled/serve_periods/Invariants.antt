use Rattle.gate_node.specs.Gates.{handoff_of}
use Rattle.node_commands.specs.Periods.{CanServe}
use Rattle.handoff_tracks.specs.Tracks.{HaveTracks}
use Rattle.node_commands.proofs.controlled.serve_periods.Given as goal

abbrev pub invariant-loop : goal.invariant-loop
invariant-loop g l =
    (goal.iterator-loop g).can_next l.iterator' × (goal.iterator-loop g).is_finite l.iterator' × CanServe l.fn.settings l.paused
    × HaveTracks (handoff_of l.paused.shared) l.tracks
