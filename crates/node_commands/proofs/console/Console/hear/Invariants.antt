use Rattle.gate_node.specs.Gates.{handoff_of}
use Rattle.handoff_tracks.specs.Tracks.{HaveTracks}
use Rattle.node_commands.proofs.console.Console.hear.Given as goal

abbrev pub invariant-loop : goal.invariant-loop
invariant-loop g l =
    (goal.iterator-loop g).can_next l.iterator' × (goal.iterator-loop g).is_finite l.iterator' × HaveTracks (handoff_of l.shared) l.tracks
