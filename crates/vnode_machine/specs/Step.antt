-- One step of the machine: what comes of an ask in a state.
use Rattle.std.specs.Prelude.{not, ◌&&◌, if◌then◌else◌, ℕ, Option, Some, None, is_none}
use Rattle.riak_msgs.specs.declared.Key.{Key}
use Rattle.riak_msgs.specs.Contents.{Content}
use Rattle.riak_msgs.specs.declared.GetReply.{GetReply}
use Rattle.riak_msgs.specs.declared.PutReply.{PutReply}
use Rattle.sibling_register.specs.History.{Operation, Write, Tombstone, Reap}
pub use Rattle.sibling_register.specs.Answers.{PutCommand, DelCommand, RegisterAsk, AskGet, AskPut, AskDel, AskReap}
use Rattle.actor_epoch.specs.Given.{Context}
use Rattle.vnode_machine.specs.Machine.{State, is_held, holds_dead, put_check, del_check, apply_operation}
use Rattle.vnode_machine.specs.Replies.{get_reply, put_reply}

-- the answer to an ask that isn't refused; a reap forgot its key, or kept it, which wasn't dead
pub data Response : Type 0 where
  GetDone : GetReply → Response
  PutDone : PutReply → Response
  DelDone : Response
  ReapDone : Response
  ReapKept : Response

-- an ask is refused by a number, or answered with nothing changed, or it is accepted: it does a operation, and is answered,
-- and the machine is in its next state
pub data MachineOutcome : Type 0 where
  Refused : (number : ℕ) → MachineOutcome
  Answered : (response : Response) → MachineOutcome
  Accepted : (operation : Operation Content) (response : Response) (next : State Content) → MachineOutcome

-- the first check that holds refuses
abbrev pub unless_refused : Option ℕ → MachineOutcome → MachineOutcome
unless_refused None outcome = outcome
unless_refused (Some number) outcome = Refused number

abbrev pub put_step : State Content → PutCommand Content Context → MachineOutcome
put_step state put =
    let next = apply_operation state put.key put.context (Write put.value) in
    unless_refused (put_check state put) (Accepted (Write put.value) (PutDone (put_reply next put)) next)

-- a delete without context of an absent key does nothing
abbrev pub del_step : State Content → DelCommand Context → MachineOutcome
del_step state del =
    if is_none del.context && not (is_held state del.key) then Answered DelDone
    else unless_refused (del_check state del) (Accepted Tombstone DelDone (apply_operation state del.key del.context Tombstone))

abbrev pub reap_step : State Content → Key → MachineOutcome
reap_step state key =
    if holds_dead state key then Accepted Reap ReapDone (apply_operation state key None Reap) else Answered ReapKept

-- what comes of an ask
abbrev pub outcome : State Content → RegisterAsk Content Context → MachineOutcome
outcome state (AskGet get) = Answered (GetDone (get_reply state get))
outcome state (AskPut put) = put_step state put
outcome state (AskDel del) = del_step state del
outcome state (AskReap key) = reap_step state key
