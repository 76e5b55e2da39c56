-- What holds of each state that the machine comes to: its limits, the form of what is stored, the order of the keys.
use Rattle.std.specs.Prelude.{◌≡◌, ◌<◌, ◌≤◌, ◌^◌, true, List, length, Option, Some, None, IsTrue}
use Rattle.std.specs.List.{list_all}
use Rattle.std.specs.FinMap.Entries.{is_sorted}
use Rattle.riak_msgs.specs.declared.Key.{Key}
use Rattle.riak_msgs.specs.Contents.{Content}
use Rattle.riak_msgs.specs.KeyOrder.{key_cmp}
use Rattle.actor_epoch.specs.declared.Actor.{Actor}
use Rattle.actor_epoch.specs.declared.Dot.{Dot}
use Rattle.actor_epoch.specs.Limits.{max_epoch, max_actors}
use Rattle.actor_epoch.specs.Contexts.{is_rising, is_within_limits}
use Rattle.dvv_set.specs.Clocks.{DotState}
use Rattle.vnode_machine.specs.Machine.{Stored, State, stored}
use Rattle.vnode_machine.specs.Replay.{IsWithinLimits}

-- pairs that rise and are within their limits
pub record ArePairs (pairs : List Dot) : Type 0 where
  pub rising : is_rising pairs ≡ true
  pub within : IsTrue (list_all is_within_limits pairs)

-- an actor of a vnode that there can be, with an epoch that it can give
pub record IsActor (actor : Actor) : Type 0 where
  pub vnode : actor.vnode < 2 ^ 64
  pub first : 1 ≤ actor.epoch
  pub epoch : actor.epoch ≤ max_epoch

-- of a key in a life such an actor, of one that came by copies alone none
abbrev pub IsOwn : Option Actor → Type 0
IsOwn None = Unit {0}
IsOwn (Some actor) = IsActor actor

-- a clock of a stored key knows pairs of the form of a context
pub record IsStoredClock {V : Type 0} (clock : DotState (Option V)) : Type 0 where
  pub pairs : ArePairs clock.known
  pub some : 1 ≤ length clock.known
  pub most : length clock.known ≤ max_actors

pub record IsForm (s : Stored Content) : Type 0 where
  pub own : IsOwn s.own
  pub clock : IsStoredClock s.clock

abbrev pub IsFormed : Option (Stored Content) → Type 0
IsFormed None = Unit {0}
IsFormed (Some s) = IsForm s

-- so it is with each opening within limits, and each step, copy and close keeps it
pub record IsSound (state : State Content) : Type 0 where
  pub limits : IsWithinLimits state.vnode state.last_epoch
  pub keys : (key : Key) → IsFormed (stored state key)
  pub sorted : is_sorted key_cmp state.keys ≡ true
