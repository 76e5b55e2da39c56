-- A key that its own actor alone has written, and a context that names no other: a write of one by the other.
use Rattle.std.specs.Prelude.{◌≡◌, false, List, [], ◌∷◌, ℕ, Option, Some, None}
use Rattle.std.specs.Option.{option_map}
use Rattle.std.specs.List.{list_any}
use Rattle.riak_msgs.specs.declared.Key.{Key}
use Rattle.riak_msgs.specs.Contents.{Content}
use Rattle.riak_msgs.specs.declared.PutAsk.{PutAsk}
use Rattle.actor_epoch.specs.declared.Dot.{Dot}
use Rattle.actor_epoch.specs.Given.{Pairs, context_of}
use Rattle.dvv_set.specs.Laws.{IsClock}
use Rattle.dvv_set.specs.Soles.{SawAlone}
use Rattle.vnode_machine.specs.Asks.{put_command}
use Rattle.vnode_machine.specs.Machine.{State, Stored, stored, put_check}
use Rattle.vnode_core.specs.Checks.{pairs_in, AreRead, is_ahead, last_dot, room_check, writer_of}
use Rattle.vnode_core.specs.declared.checks.Writer.{Writer}

-- what is stored of a key knows its own actor alone, of which this is the last dot
pub record IsSole (s : Stored Content) (last : Dot) : Type 0 where
  pub own : s.own ≡ Some last.actor
  pub known : s.clock.known ≡ last ∷ []
  pub clock : IsClock s.clock

-- a context has seen the dots of a key's own actor alone, up to this counter, and doesn't run
-- ahead of a vnode of this id that gave this epoch last
pub record IsSeenAlone (id last_epoch : ℕ) (last : Dot) (seen : Option (List Dot)) (counter : ℕ)
    : Type 0 where
  pub alone : SawAlone seen last.actor counter
  pub read : AreRead seen
  pub behind : list_any (is_ahead id last_epoch (Some last)) (pairs_in seen) ≡ false

-- a write that nothing refuses but what a put's options ask, and who makes it
pub record IsFree (state : State Content) (key : Key) (found : Option (Stored Content))
    (seen : Option (List Dot)) (writer : Writer) : Type 0 where
  pub read : AreRead seen
  pub behind :
      list_any (is_ahead state.vnode state.last_epoch (last_dot found)) (pairs_in seen) ≡ false
  pub room : room_check state key seen ≡ None
  pub makes : writer ≡ writer_of state key

-- so it is with a write wherever this was found of its key, at a vnode of this id that gave this
-- epoch last
abbrev pub MakesSole : (id last_epoch : ℕ) → Option (Stored Content) → Option (List Dot) → Writer
    → Type 0
MakesSole id last_epoch found seen writer =
    (state : State Content) (key : Key) → stored state key ≡ found → state.vnode ≡ id
    → state.last_epoch ≡ last_epoch → IsFree state key found seen writer

-- a put that nothing refuses, and who makes it
pub record IsFreePut (state : State Content) (put : PutAsk) (writer : Writer) : Type 0 where
  pub free : put_check state (put_command put) ≡ None
  pub makes : writer ≡ writer_of state put.key

-- so it is with a put wherever this was found of its key, and its context was read so
abbrev pub MakesPlain : (id last_epoch : ℕ) → PutAsk → Option (Stored Content)
    → Option (List Dot) → Writer → Type 0
MakesPlain id last_epoch put found seen writer =
    (state : State Content) → stored state put.key ≡ found → state.vnode ≡ id
    → state.last_epoch ≡ last_epoch → context_of put.context ≡ option_map Pairs seen
    → IsFreePut state put writer
