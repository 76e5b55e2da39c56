use Rattle.std.proofs.Common.{◌≡◌, take}
use Rattle.actor_epoch.specs.Contexts.{encoding}
use Rattle.actor_epoch.specs.Entries.{entries_of}
use Rattle.actor_epoch.proofs.context.Context.write.Given as goal

abbrev pub invariant-loop-pair : goal.invariant-loop-pair
invariant-loop-pair l = l.bytes.items ≡ encoding (entries_of (take l.pair-index l.pairs))
