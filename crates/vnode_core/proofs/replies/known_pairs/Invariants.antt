use Rattle.std.proofs.Common.{◌≡◌, ◌++◌}
use Rattle.actor_epoch.specs.Entries.{entries_of}
use Rattle.vnode_core.proofs.replies.known_pairs.Given as goal

abbrev pub invariant-loop-pair : goal.invariant-loop-pair
invariant-loop-pair g l = entries_of l.pairs.items ++ l.pair-iterator ≡ l.initial.pair-iterator
