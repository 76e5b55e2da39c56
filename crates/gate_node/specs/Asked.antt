-- What a request to one vnode behind a gate comes to, by what the caller's pass has seen and published.
use Rattle.std.specs.Prelude.{◌≡◌, ◌≤◌, ◌⊎◌, ℕ, zero, suc, List, Option, Some, None}
use mathlib.Core.List.{IsPrefix}
use Rattle.riak_msgs.specs.Contents.{Content}
use Rattle.riak_msgs.specs.declared.GetAsk.{GetAsk}
use Rattle.riak_msgs.specs.declared.Reply.{Reply}
use Rattle.riak_msgs.specs.declared.Reply.TheVariants as replies
use Rattle.riak_msgs.specs.declared.Text.TheVariants as texts
use Rattle.sibling_register.specs.Answers.{AskGet}
use Rattle.vnode_machine.specs.Asks.{get_command}
use Rattle.vnode_machine.specs.Machine.{State}
use Rattle.vnode_machine.specs.Step.{outcome}
use Rattle.stats_book.specs.declared.quantity.Quantity.{Quantity}
use Rattle.stats_book.specs.declared.quantity.Quantity.TheVariants as quantities
use Rattle.rw_gate.specs.Histories.{RunFrom}
use Rattle.vnode_core.specs.declared.ask.Ask.{Ask}
use Rattle.vnode_core.specs.declared.ask.Ask.TheVariants as asks
use Rattle.vnode_core.specs.declared.ask.Answer.{Answer}
use Rattle.vnode_core.specs.declared.ask.Answer.TheVariants as answers
use Rattle.vnode_core.specs.declared.entry.Entry.{Entry}
use Rattle.vnode_core.specs.declared.refusal.Refusal.{Refusal}
use Rattle.vnode_core.specs.Plans.{IsAnsweredUnchanged, Refuses}
use Rattle.vnode_core.specs.Refusals.{number_of}
use Rattle.vnode_core.specs.Events.{Makes, EntryAsks, AnsweredBy}
use Rattle.sibling_register.specs.Refusals.{refusal_text}
use Rattle.vnode_core.specs.Replies.{answer_reply}
use Rattle.node_session.specs.PlainStep.{StepsBy}
use Rattle.rw_gate.specs.declared.asking.AskOutcome.{AskOutcome}
use Rattle.rw_gate.specs.declared.asking.AskOutcome.TheVariants.{Made, Told, Refused, Moved, Full}
use Rattle.rw_gate.specs.Asking.{Comes, IsMade, IsSaid, IsOvertaken, SeesUnder as SeesHistory}
pub use Rattle.handoff.specs.Sights.{Sight, state_of}

-- what came of an ask, an ask that was made, and what the machine says at the end of what was seen
abbrev pub ComesOf : Ask → Sight → Sight → AskOutcome Answer Refusal → Type 0
ComesOf = Comes state_of Makes IsAnsweredUnchanged Refuses EntryAsks AnsweredBy

-- what was seen then beside the history of the vnode under a right to write
abbrev pub SeesUnder : List Entry → Sight → AskOutcome Answer Refusal → Type 0
SeesUnder = SeesHistory state_of Makes IsAnsweredUnchanged Refuses EntryAsks AnsweredBy

-- what comes, in this state, of an ask that changes nothing
abbrev pub ComesUnchanged : State Content → Ask → AskOutcome Answer Refusal → Type 0
ComesUnchanged state ask (Told answer) = IsAnsweredUnchanged state ask answer
ComesUnchanged state ask (Refused refusal) = Refuses state ask refusal
ComesUnchanged state ask other = ⊥

abbrev pub IsMadeBy : Ask → Sight → Sight → Answer → Type 0
IsMadeBy = IsMade state_of Makes IsAnsweredUnchanged Refuses EntryAsks AnsweredBy

abbrev pub IsSaidOf : (State Content → Type 0) → Sight → Sight → Type 0
IsSaidOf = IsSaid state_of Makes IsAnsweredUnchanged Refuses EntryAsks AnsweredBy

-- the reply for what came of an ask
abbrev pub outcome_reply : AskOutcome Answer Refusal → Reply
outcome_reply (Made answer) = answer_reply answer
outcome_reply (Told answer) = answer_reply answer
outcome_reply (Refused refusal) = replies.Error (refusal_text (number_of refusal))
outcome_reply Moved = replies.Error texts.Moved
outcome_reply Full = replies.Error texts.HistoryFull

-- what an accepted command is counted as; a copy or a close, which no request asks for, as the error that is replied to it
abbrev pub answer_quantity : Answer → Quantity
answer_quantity (answers.Put reply) = quantities.Puts
answer_quantity answers.Del = quantities.Deletes
answer_quantity (answers.Reaped reaped) = quantities.Reaps
answer_quantity answers.Copied = quantities.Refusals
answer_quantity answers.Stuck = quantities.Refusals
answer_quantity answers.Closed = quantities.Refusals

-- what an answer that changes nothing is counted as: that of a closed vnode is an error
abbrev pub told_quantity : Answer → Option Quantity
told_quantity answers.Closed = Some quantities.Refusals
told_quantity other = None

-- what is counted of what came of an ask: a command that was accepted, or an error; nothing where a vnode that isn't closed changes nothing
abbrev pub outcome_quantity : AskOutcome Answer Refusal → Option Quantity
outcome_quantity (Made answer) = Some (answer_quantity answer)
outcome_quantity (Told answer) = told_quantity answer
outcome_quantity other = Some quantities.Refusals

-- the answer isn't that of a closed vnode
abbrev pub IsOfOpenVnode : AskOutcome Answer Refusal → Type 0
IsOfOpenVnode (Told answers.Closed) = ⊥
IsOfOpenVnode other = Unit {0}

-- an ask gets the reply for what came of it, and that is counted
pub record Changes (ask : Ask) (old new : Sight) (reply : Reply) (quantity : Option Quantity) : Type 0 where
  pub outcome : AskOutcome Answer Refusal
  pub comes : ComesOf ask old new outcome
  pub replied : reply ≡ outcome_reply outcome
  pub counted : quantity ≡ outcome_quantity outcome

-- and the vnode that answers isn't closed
abbrev pub ChangesOpen : Ask → Sight → Sight → Reply → Option Quantity → Type 0
ChangesOpen ask old new reply quantity = (changes : Changes ask old new reply quantity) × IsOfOpenVnode changes.outcome

-- the machine's reply to a get in this state, or memory is refused
abbrev pub RepliesToGet : GetAsk → Reply → State Content → Type 0
RepliesToGet get reply state = StepsBy state (outcome state (AskGet (get_command get))) reply state

-- a get is shown the state at the end of what is then seen, or the history had gone on
abbrev pub IsShownGet : GetAsk → Sight → Sight → Reply → Type 0
IsShownGet get old new reply = IsSaidOf (RepliesToGet get reply) old new ⊎ ((reply ≡ replies.Error texts.Moved) × IsOvertaken old new)

-- what a get is counted as, by its reply
abbrev pub get_quantity : Reply → Quantity
get_quantity (replies.Error text) = quantities.Refusals
get_quantity reply = quantities.Gets

-- a get is shown the state, and that is counted
abbrev pub Gets : GetAsk → Sight → Sight → Reply → Option Quantity → Type 0
Gets get old new reply quantity = IsShownGet get old new reply × (quantity ≡ Some (get_quantity reply))

-- and the vnode that is shown isn't closed
abbrev pub ShowsOpen : GetAsk → Reply → State Content → Type 0
ShowsOpen get reply state = (state.closed ≡ None) × RepliesToGet get reply state

abbrev pub IsShownOpen : GetAsk → Sight → Sight → Reply → Type 0
IsShownOpen get old new reply = IsSaidOf (ShowsOpen get reply) old new ⊎ ((reply ≡ replies.Error texts.Moved) × IsOvertaken old new)

abbrev pub GetsOpen : GetAsk → Sight → Sight → Reply → Option Quantity → Type 0
GetsOpen get old new reply quantity = IsShownOpen get old new reply × (quantity ≡ Some (get_quantity reply))

-- at the end of what the pass has seen the vnode is closed with this number
pub record HasSeenClose (pass : Sight) (number : ℕ) : Type 0 where
  pub state : State Content
  pub leads : RunFrom state_of Makes pass.gate.opening pass.prefix state
  pub closed : state.closed ≡ Some number

-- so it is at the end of what the pass has then seen, and nothing was published
pub record IsClosedWith (number : ℕ) (old new : Sight) : Type 0 where
  pub gate : new.gate ≡ old.gate
  pub more : IsPrefix old.prefix new.prefix
  pub own : new.own ≡ old.own
  pub closed : HasSeenClose new number

-- what is asked to forget the first dead key
abbrev pub first_reap : Ask
first_reap = asks.ReapFirst None

-- so many dead keys were forgotten, one after another
abbrev pub Reaps : ℕ → Sight → Sight → Type 0
Reaps zero old new = new ≡ old
Reaps (suc n) old new = (mid : Sight) × (answer : Answer) × (mid.gate ≡ old.gate) × IsMadeBy first_reap old mid answer × Reaps n mid new

abbrev pub IsNotMade : AskOutcome Answer Refusal → Type 0
IsNotMade (Made answer) = ⊥
IsNotMade other = Unit {0}

-- no further one was forgotten: none is dead, or the vnode is closed, or the history had gone on, or is full
pub record EndsReaping (old new : Sight) : Type 0 where
  pub outcome : AskOutcome Answer Refusal
  pub ends : IsNotMade outcome
  pub comes : ComesOf first_reap old new outcome
  pub more : IsPrefix old.prefix new.prefix

-- so many dead keys were forgotten, all that the budget allows, or fewer, where no further one was
pub record ReapsUpTo (budget count : ℕ) (old new : Sight) : Type 0 where
  pub reaped : Sight
  pub few : count ≤ budget
  pub made : Reaps count old reaped
  pub rest : ((count ≡ budget) × (new ≡ reaped)) ⊎ EndsReaping reaped new

-- a request was answered, with all that was seen before it, and then so many dead keys were forgotten
pub record AnswersAndReaps (budget count : ℕ) (Answers : Sight → Sight → Type 0) (old new : Sight) : Type 0 where
  pub answered : Sight
  pub gate : answered.gate ≡ old.gate
  pub more : IsPrefix old.prefix answered.prefix
  pub answers : Answers old answered
  pub reaps : ReapsUpTo budget count answered new
