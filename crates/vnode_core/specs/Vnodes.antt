-- What a vnode's fields mean, and what is always true of them.
use Rattle.std.specs.Prelude.{◌≡◌, ◌≢◌, ℕ, true, false, List, Option, Some, None, Result, Ok, Err}
use Rattle.riak_msgs.specs.declared.Key.{Key}
use Rattle.riak_msgs.specs.Contents.{Content}
use Rattle.riak_msgs.specs.declared.DelAsk.{DelAsk}
use Rattle.riak_msgs.specs.declared.PutAsk.{PutAsk}
use Rattle.sibling_register.specs.History.{Write, Tombstone}
use Rattle.actor_epoch.specs.Given.{Malformed, Pairs, context_of, pairs_read}
use Rattle.actor_epoch.specs.declared.Actor.{Actor}
use Rattle.actor_epoch.specs.declared.Dot.{Dot}
use Rattle.dvv_set.specs.Clocks.{join}
use Rattle.vnode_machine.specs.Asks.{put_command, del_command}
use Rattle.vnode_machine.specs.Copying.{apply_copy, apply_close}
use Rattle.vnode_machine.specs.Dead.{reaped}
use Rattle.vnode_machine.specs.Machine.{State, is_held, clock_of, actor_for, put_check, update_check, apply_operation, counted}
use Rattle.vnode_machine.specs.Replies.{put_reply}
use Rattle.vnode_machine.specs.Step.{DelDone, Answered, outcome}
use Rattle.sibling_register.specs.Answers.{AskDel}
use Rattle.vnode_core.specs.declared.ask.Ask.{Ask}
use Rattle.vnode_core.specs.declared.ask.Ask.TheVariants.{Put, Del, Reap, ReapFirst, Copy, Close}
use Rattle.vnode_core.specs.declared.ask.Answer.{Answer}
use Rattle.vnode_core.specs.declared.ask.Answer.TheVariants as answers
use Rattle.vnode_core.specs.declared.refusal.Refusal.{Refusal}
use Rattle.vnode_core.specs.declared.ready.Ready.{Ready}
use Rattle.vnode_core.specs.declared.checks.Writer.{Writer}
pub use Rattle.vnode_machine.specs.Sound.{IsSound}
use Rattle.vnode_core.specs.Plans.{View, AcceptsAsk, IsWrite, StepsOpen, Steps, RefusesOpen}
use Rattle.clock_store.specs.declared.store.WriteKind.TheVariants.{Value, Tombstone as Dead}
use Rattle.clock_store.specs.Contents.{Contents, HasWriteRoom, HasSyncRoom}
use Rattle.clock_store.specs.Forgetting.{after_first_reap}
use Rattle.clock_store.specs.Keys.{Keys, written, deleted}
use Rattle.vnode_core.specs.Refusals.{RefusedBy}
use Rattle.vnode_core.specs.Checks.{writer_of}

-- the fields of a vnode, its store as what it means
pub record VnodeFields : Type 0 where
  pub id : ℕ
  pub epochs : ℕ
  pub writes : ℕ
  pub tombstones : ℕ
  pub reaps : ℕ
  pub store : Contents
  pub ready : Option Ready
  pub prepared : Option Ask
  pub closed : Option ℕ

abbrev pub fields : (id epochs writes tombstones reaps : ℕ) → Contents → Option Ready → Option Ask → Option ℕ → VnodeFields
fields id epochs writes tombstones reaps store ready prepared closed = record {
  id = id;
  epochs = epochs;
  writes = writes;
  tombstones = tombstones;
  reaps = reaps;
  store = store;
  ready = ready;
  prepared = prepared;
  closed = closed;
}

abbrev pub state_of : VnodeFields → State Content
state_of v = record {
  vnode = v.id;
  last_epoch = v.epochs;
  writes = v.writes;
  tombstones = v.tombstones;
  reaps = v.reaps;
  keys = v.store.keys;
  closed = v.closed;
}

abbrev pub view_of : VnodeFields → View
view_of v = record { state = state_of v; prepared = v.prepared }

-- the key of a write
abbrev pub key_in : (ask : Ask) → IsWrite ask → Key
key_in (Put put) write = put.key
key_in (Del del) write = del.key
key_in (Reap key) write = key
key_in (ReapFirst from) write = absurd write
key_in (Copy copy) write = copy.key
key_in (Close number) write = absurd write

-- the keys after the write of a command at this actor, and the room for it
abbrev pub written_by : Keys → Ask → Actor → Keys
written_by keys (Put put) actor = written keys put.key (pairs_read (context_of put.context)) actor (Some put.content)
written_by keys (Del del) actor = deleted keys del.key (pairs_read (context_of del.context)) actor
written_by keys (Reap key) actor = keys
written_by keys (ReapFirst from) actor = keys
written_by keys (Copy copy) actor = keys
written_by keys (Close number) actor = keys

-- the context of a write, where it gives one, is of the form
abbrev pub IsOfForm : Ask → Type 0
IsOfForm (Put put) = context_of put.context ≢ Some Malformed
IsOfForm (Del del) = context_of del.context ≢ Some Malformed
IsOfForm (Reap key) = Unit {0}
IsOfForm (ReapFirst from) = Unit {0}
IsOfForm (Copy copy) = Unit {0}
IsOfForm (Close number) = Unit {0}

abbrev pub HasRoomFor : Contents → Ask → Actor → Type 0
HasRoomFor store (Put put) actor = HasWriteRoom store put.key (pairs_read (context_of put.context)) actor Value
HasRoomFor store (Del del) actor = HasWriteRoom store del.key (pairs_read (context_of del.context)) actor Dead
HasRoomFor store (Reap key) actor = ⊥
HasRoomFor store (ReapFirst from) actor = ⊥
HasRoomFor store (Copy copy) actor = ⊥
HasRoomFor store (Close number) actor = ⊥

-- the state after a command that is accepted
abbrev pub state_after : State Content → Ask → State Content
state_after state (Put put) = apply_operation state put.key (context_of put.context) (Write put.content)
state_after state (Del del) = apply_operation state del.key (context_of del.context) Tombstone
state_after state (Reap key) = reaped state key
state_after state (ReapFirst from) = after_first_reap state from
state_after state (Copy copy) = apply_copy state copy.key copy.clock
state_after state (Close number) = apply_close state number

-- how many writes and tombstones there are after a command
abbrev pub writes_after : ℕ → Ask → ℕ
writes_after writes (Put put) = counted writes
writes_after writes (Del del) = writes
writes_after writes (Reap key) = writes
writes_after writes (ReapFirst from) = writes
writes_after writes (Copy copy) = writes
writes_after writes (Close number) = writes

abbrev pub tombstones_after : ℕ → Ask → ℕ
tombstones_after tombstones (Put put) = tombstones
tombstones_after tombstones (Del del) = counted tombstones
tombstones_after tombstones (Reap key) = tombstones
tombstones_after tombstones (ReapFirst from) = tombstones
tombstones_after tombstones (Copy copy) = tombstones
tombstones_after tombstones (Close number) = tombstones

-- what the machine's checks refuse of a delete by a context of these pairs, and of one without
abbrev pub del_check_by : State Content → Key → List Dot → Option ℕ
del_check_by state key pairs = update_check state key (Some (Pairs pairs)) pairs

abbrev pub del_check_of_all : State Content → Key → Option ℕ
del_check_of_all state key = update_check state key None (join (clock_of state key))

-- the machine accepts a put, and this is who writes it and its answer
pub record AcceptsPut (state : State Content) (put : PutAsk) (ready : Ready) : Type 0 where
  pub free : put_check state (put_command put) ≡ None
  pub writer : ready.writer ≡ writer_of state put.key
  pub answer : ready.answer ≡ answers.Put (put_reply (state_after state (Put put)) (put_command put))

-- who writes the tombstone of a delete, or nobody, where it does nothing; or its refusal
abbrev pub PlansDel : State Content → DelAsk → Result (Option Writer) Refusal → Type 0
PlansDel state del (Ok None) = outcome state (AskDel (del_command del)) ≡ Answered DelDone
PlansDel state del (Ok (Some writer)) =
    StepsOpen state (Del del) answers.Del (state_after state (Del del))
    × (writer ≡ writer_of state del.key)
PlansDel state del (Err refusal) = RefusesOpen state (Del del) refusal

-- the machine accepts a tombstone over all that is stored of a key, and this is who writes it
pub record IsToOverwrite (state : State Content) (key : Key) (writer : Writer) : Type 0 where
  pub held : is_held state key ≡ true
  pub free : del_check_of_all state key ≡ None
  pub is : writer ≡ writer_of state key

-- the same of one without context
abbrev pub DelOfAllGives : State Content → Key → Result (Option Writer) Refusal → Type 0
DelOfAllGives state key (Ok None) = is_held state key ≡ false
DelOfAllGives state key (Ok (Some writer)) = IsToOverwrite state key writer
DelOfAllGives state key (Err refusal) =
    (is_held state key ≡ true) × RefusedBy refusal (del_check_of_all state key)

-- the machine accepts the write, which has room, and its answer lies ready
pub record IsWriteReady (state : State Content) (store : Contents) (ready : Option Ready) (ask : Ask) (write : IsWrite ask) : Type 0 where
  pub answer : Answer
  pub step : Steps state ask answer (state_after state ask)
  pub room : HasRoomFor store ask (actor_for state (key_in ask write))
  pub made : ready ≡ Some (record { writer = writer_of state (key_in ask write); answer = answer })

-- what is prepared is ready; a reap and a close need nothing but to be accepted
abbrev pub IsReadyFor : State Content → Contents → Option Ready → Option Ask → Type 0
IsReadyFor state store ready None = Unit {0}
IsReadyFor state store ready (Some (Put put)) = IsWriteReady state store ready (Put put) tt
IsReadyFor state store ready (Some (Del del)) = IsWriteReady state store ready (Del del) tt
IsReadyFor state store ready (Some (Reap key)) = AcceptsAsk state (Reap key)
IsReadyFor state store ready (Some (ReapFirst from)) = AcceptsAsk state (ReapFirst from)
IsReadyFor state store ready (Some (Copy copy)) = AcceptsAsk state (Copy copy) × HasSyncRoom store copy.key copy.clock
IsReadyFor state store ready (Some (Close number)) = AcceptsAsk state (Close number)

pub record IsVnode (v : VnodeFields) : Type 0 where
  pub sound : IsSound (state_of v)
  pub ready : IsReadyFor (state_of v) v.store v.ready v.prepared
