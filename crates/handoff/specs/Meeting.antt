-- What a copy back says of its copies, beside what the law of copies asks of them.
use Rattle.std.specs.Prelude.{◌≡◌, ◌≤◌, ◌++◌, ℕ, [], IsTrue, Some, slice_get}
use Rattle.riak_msgs.specs.declared.Key.{Key}
use Rattle.riak_msgs.specs.Contents.{Content}
use Rattle.riak_msgs.specs.KeyOrder.{key_eq}
use Rattle.vnode_machine.specs.Replay.{History, IsWithinLimits}
use Rattle.copy_laws.specs.Copies.{Copy}
use Rattle.copy_laws.specs.Joining.{Log, Fallbacks, IsTrueCopy}
use Rattle.copy_laws.specs.Sides.{Partition}
use Rattle.vnode_core.specs.KeyCopies.{KeyCopyView}
use Rattle.vnode_core.specs.declared.entry.Entry.TheVariants.{Copied}
use Rattle.vnode_core.specs.Events.{AreCommands, IsMadeNew, commands_of, history_after}
use Rattle.handoff.specs.Copying.{HasCopyAt}
use Rattle.handoff.specs.Sights.{Sight}

-- a copy as the law of copies has it: with the register's history of the commands that it carries
abbrev pub copy_of : Partition → KeyCopyView → Copy Content
copy_of partition copy = record {
  key = copy.key;
  clock = copy.clock;
  diversion = copy.diversion;
  prefix = history_after partition.fallback (partition.opened copy.diversion) [] copy.prefix;
}

-- a pass is of the fallback of one of a partition's diversions: its gate was made round the new vnode that the partition names, and the
-- commands that it has seen, and nothing else, begin that fallback's history
pub record IsOfFallback (partition : Partition) (fallbacks : Fallbacks) (diversion : ℕ) (theirs : Sight) : Type 0 where
  pub first : 1 ≤ diversion
  pub last : diversion ≤ partition.diversions
  pub limits : IsWithinLimits partition.fallback (partition.opened diversion)
  pub made_new : IsMadeNew partition.fallback (partition.opened diversion) theirs.gate
  pub commands : AreCommands theirs.prefix
  pub begins : (later : History)
      × (later ++ history_after partition.fallback (partition.opened diversion) [] (commands_of theirs.prefix) ≡ fallbacks diversion)

-- the entry at this position is a copy, of whose key it is a true one
pub record IsTrueCopyAt (partition : Partition) (primary : Log) (fallbacks : Fallbacks) (mine : Sight) (position : ℕ) : Type 0 where
  pub copy : KeyCopyView
  pub stands : slice_get mine.prefix position ≡ Some (Copied copy)
  pub is_true : (key : Key) → IsTrue (key_eq copy.key key) → IsTrueCopy partition primary fallbacks key (copy_of partition copy)

-- each copy that a copy back made is one that the law of copies calls true
abbrev pub CopiesAreTrue : Partition → Log → Fallbacks → (diversion : ℕ) → (mine theirs : Sight) → Type 0
CopiesAreTrue partition primary fallbacks diversion mine theirs =
    IsOfFallback partition fallbacks diversion theirs → (position : ℕ) → HasCopyAt diversion mine theirs position
    → IsTrueCopyAt partition primary fallbacks mine position
