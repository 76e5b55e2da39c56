-- What contracts see of a vnode in a hand: its state, the plan that was made from it, and what it prepared last.
use Rattle.std.specs.Prelude.{◌≡◌, Option, Some, None, IsSome, IfSome, MatchOption, option_map, option_and_then}
use Rattle.riak_msgs.specs.Contents.{Content}
use Rattle.riak_msgs.specs.declared.GetAsk.{GetAsk}
use Rattle.sibling_register.specs.Answers.{RegisterAsk as Command, AskPut, AskDel, AskReap}
use Rattle.actor_epoch.specs.Given.{Context}
use Rattle.vnode_machine.specs.Asks.{get_command, put_command, del_command}
use Rattle.vnode_machine.specs.Machine.{State}
use Rattle.vnode_machine.specs.Replies.{get_reply}
use Rattle.vnode_machine.specs.Sound.{IsSound}
use Rattle.vnode_machine.specs.Step.{Response, GetDone, PutDone, DelDone, ReapDone, ReapKept, MachineOutcome, Refused, Answered, Accepted, outcome}
use Rattle.vnode_core.specs.Reaping.{Gone, Kept, Absent}
use Rattle.vnode_core.specs.declared.ask.Ask.{Ask}
use Rattle.vnode_core.specs.declared.ask.Ask.TheVariants.{Put, Del, Reap, ReapFirst, Copy, Close}
use Rattle.vnode_core.specs.declared.ask.Answer.{Answer}
use Rattle.vnode_core.specs.declared.ask.Answer.TheVariants as answers
use Rattle.vnode_core.specs.Plans.{IsPrepared}
use Rattle.node_steps.specs.declared.hand.Hand.TheInside.{Inside}
use Rattle.node_steps.specs.declared.outcome.Outcome.{Outcome as Returned}
use Rattle.node_steps.specs.World.{PlannedCommand}
use Rattle.node_steps.specs.Returned.{returned_response, returned_refusal}

pub record HandView : Type 0 where
  pub state : State Content
  pub plan : Option PlannedCommand
  pub prepared : Option Ask

-- the plan that is made where the machine accepts
abbrev pub plan_by : MachineOutcome → Option PlannedCommand
plan_by (Refused number) = None
plan_by (Answered response) = None
plan_by (Accepted operation response next) = Some (record { operation = operation; response = response; next = next })

-- the command of the register that a worker's call makes of a vnode. No call makes one of the others: copies and closes are no calls,
-- and it reaps the key that it names
abbrev pub command_of : Ask → Option (Command Content Context)
command_of (Put put) = Some (AskPut (put_command put))
command_of (Del del) = Some (AskDel (del_command del))
command_of (Reap key) = Some (AskReap key)
command_of (ReapFirst from) = None
command_of (Copy copy) = None
command_of (Close number) = None

-- the machine's response that an answer to such a command is
abbrev pub response_of : Answer → Option Response
response_of (answers.Put reply) = Some (PutDone reply)
response_of answers.Del = Some DelDone
response_of (answers.Reaped Gone) = Some ReapDone
response_of (answers.Reaped Kept) = Some ReapKept
response_of (answers.Reaped Absent) = Some ReapKept
response_of answers.Copied = None
response_of answers.Stuck = None
response_of answers.Closed = None

-- what a worker is returned for an answer
abbrev pub IsReturned : Answer → Returned → Type 0
IsReturned answer returns = option_map returned_response (response_of answer) ≡ Some returns

-- the plan that a change is, in the state that it was prepared from
abbrev pub plan_of : State Content → Option Ask → Option PlannedCommand
plan_of state change = option_and_then (λ ask. option_and_then (λ command. plan_by (outcome state command)) (command_of ask)) change

abbrev pub hand_of : Inside → HandView
hand_of h = record { state = h.vnode.state; plan = plan_of h.vnode.state h.change; prepared = h.vnode.prepared }

-- the vnode has this id, and its clocks have their form; the change is what it prepared last, and the machine accepts it
pub record IsHand (h : Inside) : Type 0 where
  pub named : h.vnode.state.vnode ≡ h.id
  pub sound : IsSound h.vnode.state
  pub planned : IfSome h.change (λ change. IsSome (command_of change) × IsPrepared h.vnode change change)

-- a get is answered by the machine
abbrev pub ShowsBy : State Content → GetAsk → Returned → Type 0
ShowsBy state get answer = answer ≡ returned_response (GetDone (get_reply state (get_command get)))

-- by what comes of a call: it is answered, or its change is planned
abbrev pub PlansBy : MachineOutcome → Option PlannedCommand → Option Returned → Type 0
PlansBy (Refused number) plan answer = answer ≡ Some (returned_refusal number)
PlansBy (Answered response) plan answer = answer ≡ Some (returned_response response)
PlansBy (Accepted operation response next) plan answer =
    (answer ≡ None) × (plan ≡ Some (record { operation = operation; response = response; next = next }))

-- by what comes of the command that is asked
abbrev pub PlansAsk : State Content → Ask → Option PlannedCommand → Option Returned → Type 0
PlansAsk state ask plan answer = IfSome (command_of ask) (λ command. PlansBy (outcome state command) plan answer)

-- the state is the one after the plan, which is answered by its response
abbrev pub PublishesPlan : HandView → HandView → Option Returned → Type 0
PublishesPlan old new answer =
    MatchOption old.plan
    ((new ≡ old) × (answer ≡ None))
    (λ plan. (new.state ≡ plan.next) × (answer ≡ Some (returned_response plan.response)))
