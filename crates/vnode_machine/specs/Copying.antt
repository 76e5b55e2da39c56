-- What a copy from another vnode and a close change.
use Rattle.std.specs.Prelude.{Bool, ◌||◌, ℕ, length, nat_lt, Option, Some, []}
use Rattle.std.specs.FinMap.Entries.{put}
use Rattle.riak_msgs.specs.declared.Key.{Key}
use Rattle.riak_msgs.specs.KeyOrder.{key_cmp}
use Rattle.sibling_register.specs.Refusals.{max_siblings}
use Rattle.actor_epoch.specs.Limits.{max_actors}
use Rattle.dvv_set.specs.Clocks.{DotState, sync}
use Rattle.vnode_machine.specs.Machine.{State, clock_of, own_of}
pub use Rattle.vnode_machine.specs.Sound.{IsStoredClock}

module _ {V : Type 0} where
  -- a copy is stuck where the key would have too many siblings or its clock too many actors
  abbrev pub is_stuck : State V → Key → DotState (Option V) → Bool
  is_stuck state key clock =
      let synced = sync (clock_of state key) clock in
      nat_lt max_siblings (length synced.live) || nat_lt max_actors (length synced.known)

  -- a copy syncs the key's clock with another vnode's; the actor of its life stays, or stays none
  abbrev pub apply_copy : State V → Key → DotState (Option V) → State V
  apply_copy state key clock = record state {
    keys = put key_cmp key (record { own = own_of state key; clock = sync (clock_of state key) clock }) state.keys;
  }

  -- a close forgets all keys, and keeps the last epoch and the number that it carries
  abbrev pub apply_close : State V → ℕ → State V
  apply_close state number = record state { keys = []; closed = Some number }
