-- What a running step returns for what comes of it.
use Rattle.std.specs.Prelude.{ℕ, ◌-◌, ◌^◌, min, Result, Ok, Err}
use Rattle.riak_msgs.specs.declared.Reply.TheVariants as replies
use Rattle.sibling_register.specs.Refusals.{refusal_text}
use Rattle.vnode_machine.specs.Step.{Response, GetDone, PutDone, DelDone, ReapDone, ReapKept}
use Rattle.node_steps.specs.declared.outcome.Outcome.{Outcome as Returned}
use Rattle.node_steps.specs.declared.outcome.Outcome.TheVariants as outcomes
use Rattle.node_steps.specs.Steps.{Outcome, NotPossible, Happened, Replied, NotHeld, StuckThere, CopiedBack, Elsewhere, LeftThere}

abbrev pub returned_response : Response → Returned
returned_response (GetDone reply) = outcomes.Reply (replies.Get reply)
returned_response (PutDone reply) = outcomes.Reply (replies.Put reply)
returned_response DelDone = outcomes.Reply replies.Del
returned_response ReapDone = outcomes.Reaped
returned_response ReapKept = outcomes.Kept

abbrev pub returned_refusal : ℕ → Returned
returned_refusal number = outcomes.Reply (replies.Error (refusal_text number))

abbrev pub returned_reply : Result Response ℕ → Returned
returned_reply (Ok response) = returned_response response
returned_reply (Err number) = returned_refusal number

-- what is returned for what comes of a step; a number of keys that has more than 64 bits as the greatest that has 64
abbrev pub returned : Outcome → Returned
returned NotPossible = outcomes.No
returned Happened = outcomes.Done
returned (Replied reply) = returned_reply reply
returned NotHeld = outcomes.Kept
returned StuckThere = outcomes.Stuck
returned CopiedBack = outcomes.Copied
returned Elsewhere = outcomes.Elsewhere
returned (LeftThere keys) = outcomes.Left (min keys (2 ^ 64 - 1))
