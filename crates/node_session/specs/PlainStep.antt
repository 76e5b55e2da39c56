-- What a vnode does for a node: what comes of the ask that a request makes, as a reply.
use Rattle.std.specs.Prelude.{◌≡◌, ◌⊎◌, ℕ, Result, Ok, Err}
use Rattle.riak_msgs.specs.Contents.{Content}
use Rattle.riak_msgs.specs.declared.Text.TheVariants as texts
use Rattle.riak_msgs.specs.declared.Reply.{Reply}
use Rattle.riak_msgs.specs.declared.Reply.TheVariants as replies
use Rattle.sibling_register.specs.Refusals.{refusal_text}
use Rattle.sibling_register.specs.Answers.{AskPut, AskDel}
use Rattle.vnode_machine.specs.Machine.{State}
use Rattle.vnode_machine.specs.Asks.{put_command, del_command}
use Rattle.vnode_machine.specs.Step.{Response, GetDone, PutDone, DelDone, ReapDone, ReapKept, MachineOutcome, Refused, Answered, Accepted, outcome}
use Rattle.vnode_core.specs.declared.ask.Ask.{Ask as AskOfVnode}
use Rattle.vnode_core.specs.declared.ask.Ask.TheVariants as asks

-- the reply for a response; that to a reap, which no request asks for, is that to a delete
abbrev pub response_reply : Response → Reply
response_reply (GetDone reply) = replies.Get reply
response_reply (PutDone reply) = replies.Put reply
response_reply DelDone = replies.Del
response_reply ReapDone = replies.Del
response_reply ReapKept = replies.Del

-- the reply for a response or the number of a refusal
abbrev pub reply_of : Result Response ℕ → Reply
reply_of (Ok response) = response_reply response
reply_of (Err number) = replies.Error (refusal_text number)

-- memory is refused, and nothing changes
abbrev pub GivesUp : {S : Type 0} → S → Reply → S → Type 0
GivesUp old reply new = (reply ≡ replies.Error texts.NoMemory) × (new ≡ old)

-- of what changes nothing, a get alone may be refused memory: a delete that does nothing takes none
abbrev pub TakesMemory : Response → Type 0
TakesMemory (GetDone reply) = Unit {0}
TakesMemory (PutDone reply) = ⊥
TakesMemory DelDone = ⊥
TakesMemory ReapDone = ⊥
TakesMemory ReapKept = ⊥

-- what comes of an ask is replied, and the state is the next one; or memory is refused, where the ask isn't and takes some
abbrev pub StepsBy : State Content → MachineOutcome → Reply → State Content → Type 0
StepsBy old (Refused number) reply new = (reply ≡ reply_of (Err number)) × (new ≡ old)
StepsBy old (Answered response) reply new = ((reply ≡ reply_of (Ok response)) × (new ≡ old)) ⊎ (TakesMemory response × GivesUp old reply new)
StepsBy old (Accepted operation response next) reply new = ((reply ≡ reply_of (Ok response)) × (new ≡ next)) ⊎ GivesUp old reply new

-- a put or a delete is answered so, by what comes of it
abbrev pub StepsByWrite : State Content → AskOfVnode → Reply → State Content → Type 0
StepsByWrite old (asks.Put put) reply new = StepsBy old (outcome old (AskPut (put_command put))) reply new
StepsByWrite old (asks.Del del) reply new = StepsBy old (outcome old (AskDel (del_command del))) reply new
StepsByWrite old (asks.Reap key) reply new = Unit {0}
StepsByWrite old (asks.ReapFirst from) reply new = Unit {0}
StepsByWrite old (asks.Copy copy) reply new = Unit {0}
StepsByWrite old (asks.Close number) reply new = Unit {0}
