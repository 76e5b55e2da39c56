-- Where a primary's clock of a key has the last dot that the last fallback gave for it, all of the key was brought back.
use Rattle.std.specs.Prelude.{◌≡◌, ◌≤◌, Bool, true, nat_le, Option}
use Rattle.std.specs.Option.{option_map_or}
use Rattle.riak_msgs.specs.declared.Key.{Key}
use Rattle.riak_msgs.specs.Contents.{Content}
use Rattle.sibling_register.specs.History.{count_of}
use Rattle.actor_epoch.specs.Dots.{counter_in}
use Rattle.dvv_set.specs.Clocks.{DotState}
use Rattle.vnode_machine.specs.Machine.{State, clock_of, own_of}
use Rattle.vnode_machine.specs.Replay.{replay}
use Rattle.copy_laws.specs.Copies.{count_brought}
use Rattle.copy_laws.specs.Sides.{Partition}
use Rattle.copy_laws.specs.CopyReplay.{primary_after}
use Rattle.copy_laws.specs.Joining.{Log, Fallbacks, IsHandOff, NamesWhatCame, SidesRise}

-- whether a clock has the last dot of a key's life at a vnode: that life's own actor, where it has one, with its counter or a greater one
abbrev pub knows_last_dot : DotState (Option Content) → State Content → Key → Bool
knows_last_dot clock vnode key =
    option_map_or (λ own. nat_le (counter_in (clock_of vnode key).known own) (counter_in clock.known own)) (own_of vnode key) true

module _ (partition : Partition) (primary : Log) (fallbacks : Fallbacks) (key : Key) where
  -- the last fallback, after all that it accepted
  abbrev pub last_fallback : State Content
  last_fallback = replay partition.fallback (partition.opened partition.diversions) (fallbacks partition.diversions)

  -- where the primary's clock has its last dot of the key, copies brought all that it accepted for the key
  abbrev pub LastDotBringsAll : Type 0
  LastDotBringsAll =
      IsHandOff partition primary fallbacks key → SidesRise partition fallbacks → NamesWhatCame partition primary fallbacks key
      → 1 ≤ partition.diversions → knows_last_dot (clock_of (primary_after partition primary) key) last_fallback key ≡ true
      → count_brought primary key partition.diversions ≡ count_of (fallbacks partition.diversions) key
