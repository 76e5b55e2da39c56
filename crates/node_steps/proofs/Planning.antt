-- What an ask comes to that is prepared, answered, refused or finished, by the command that it makes of a vnode.
use Rattle.std.proofs.Common.{◌≡◌, ℕ, Bool, true, false, cond, not, ◌&&◌, refl, sym, ◌∙◌, ap, subst, inl, inr}
use Rattle.std.specs.Prelude.{Option, Some, None, IfSome, IsSome, is_none, is_some, option_map}
use Rattle.std.proofs.lemmas.Bool.{true≢false}
use Rattle.riak_msgs.specs.Contents.{Content}
use Rattle.riak_msgs.specs.declared.Key.{Key}
use Rattle.sibling_register.specs.History.{Operation, Write, Tombstone, Reap as Forget}
use Rattle.sibling_register.specs.Answers.{RegisterAsk as Command, AskGet, AskPut, AskDel, AskReap}
use Rattle.actor_epoch.specs.Given.{Context}
use Rattle.vnode_core.specs.Reaping.{Gone, Kept, Absent}
use Rattle.vnode_machine.specs.Asks.{put_command, del_command}
use Rattle.vnode_machine.specs.Machine.{State, is_held, holds_dead, has_value, put_check, del_check, apply_operation}
use Rattle.vnode_machine.specs.Replies.{put_reply}
use Rattle.vnode_machine.specs.Step.{Response, PutDone, DelDone, ReapDone, ReapKept, MachineOutcome, Refused, Answered, Accepted, unless_refused, outcome}
use Rattle.vnode_core.specs.declared.ask.Ask.{Ask}
use Rattle.vnode_core.specs.declared.ask.Ask.TheVariants.{Put, Del, Reap, ReapFirst, Copy, Close}
use Rattle.vnode_core.specs.declared.ask.Answer.{Answer}
use Rattle.vnode_core.specs.declared.ask.Answer.TheVariants as answers
use Rattle.vnode_core.specs.Plans.{View, IsAcceptedStep, AcceptsOpen, IsPrepared, IsAnsweredUnchanged, StepsOpen}
use Rattle.node_steps.specs.declared.outcome.Outcome.{Outcome as Returned}
use Rattle.node_steps.specs.World.{PlannedCommand}
use Rattle.node_steps.specs.Returned.{returned_response}
use Rattle.node_steps.specs.Hands.{command_of, response_of, IsReturned, plan_by, plan_of, PlansBy, PlansAsk}
use Rattle.node_steps.proofs.Inside.{vnode-kept}

planned-outcome : (o : MachineOutcome) → IsAcceptedStep o → PlansBy o (plan_by o) None
planned-outcome (Refused number) a = absurd a
planned-outcome (Answered response) a = absurd a
planned-outcome (Accepted operation response next) a = (refl, refl)

-- what is prepared is planned
pub plans_change : (vnode : View) (ask change : Ask) → IsPrepared vnode ask change → PlansAsk vnode.state ask (plan_of vnode.state (Some change)) None
plans_change vnode ask change prepared =
    subst (λ c. PlansAsk vnode.state ask (plan_of vnode.state (Some c)) None) (sym prepared.is) (by ask prepared.accepted.1)
  where
    by : (ask : Ask) → AcceptsOpen vnode.state ask → PlansAsk vnode.state ask (plan_of vnode.state (Some ask)) None
    by (Put put) a = planned-outcome (outcome vnode.state (AskPut (put_command put))) a
    by (Del del) a = planned-outcome (outcome vnode.state (AskDel (del_command del))) a
    by (Reap key) a = planned-outcome (outcome vnode.state (AskReap key)) a
    by (ReapFirst from) a = tt
    by (Copy copy) a = tt
    by (Close number) a = tt

-- a command is answered, with nothing changed
pub record ComesTo (o : MachineOutcome) (answer : Answer) : Type 0 where
  pub response : Response
  pub comes : o ≡ Answered response
  pub is : response_of answer ≡ Some response

reap-kept : (dead value : Bool) (next : State Content) → cond dead (Accepted Forget ReapDone next) (Answered ReapKept) ≡ Answered ReapKept
    → response_of (answers.Reaped (cond dead Gone (cond value Kept Absent))) ≡ Some ReapKept
reap-kept true value next h = cc
reap-kept false true next h = refl
reap-kept false false next h = refl

-- what an open vnode answers to a command is the machine's
pub answers_command : (state : State Content) (ask : Ask) (answer : Answer) → state.closed ≡ None → IsAnsweredUnchanged state ask answer
    → IfSome (command_of ask) (λ command. ComesTo (outcome state command) answer)
answers_command state ask answer opened (inr closed) = absurd (true≢false (sym closed.0 ∙ ap is_some opened))
answers_command state (Put put) answer opened (inl open_one) = absurd open_one.1
answers_command state (Del del) answer opened (inl open_one) =
    record { response = DelDone; comes = open_one.1.1; is = ap response_of open_one.1.0 }
answers_command state (Reap key) answer opened (inl open_one) =
    record { response = ReapKept; comes = open_one.1.1; is = ap response_of open_one.1.0 ∙ reap-kept (holds_dead state key) (has_value state key) (apply_operation state key None Forget) open_one.1.1 }
answers_command state (ReapFirst from) answer opened (inl open_one) = tt
answers_command state (Copy copy) answer opened (inl open_one) = tt
answers_command state (Close number) answer opened (inl open_one) = tt

-- by which the worker is answered
pub plans_answer : (answer : Answer) (state : State Content) (plan : Option PlannedCommand) (returns : Returned) (made : Option (Command Content Context))
    → IfSome made (λ command. ComesTo (outcome state command) answer) → IsReturned answer returns
    → IfSome made (λ command. PlansBy (outcome state command) plan (Some returns))
plans_answer answer state plan returns None comes returned = tt
plans_answer answer state plan returns (Some command) comes returned =
    subst (λ o. PlansBy o plan (Some returns)) (sym comes.comes) (sym returned ∙ ap (λ o. option_map returned_response o) comes.is)

-- a command is accepted, and makes the state after it
pub record Finishes (o : MachineOutcome) (answer : Answer) (new : State Content) : Type 0 where
  pub operation : Operation Content
  pub response : Response
  pub comes : o ≡ Accepted operation response new
  pub is : response_of answer ≡ Some response

pub finishes : (old : State Content) (ask : Ask) (answer : Answer) (new : State Content) → StepsOpen old ask answer new
    → IfSome (command_of ask) (λ command. Finishes (outcome old command) answer new)
finishes old (Put put) answer new (reply, is, comes) =
    record { operation = Write put.content; response = PutDone reply; comes = comes; is = ap response_of is }
finishes old (Del del) answer new (is, comes) = record { operation = Tombstone; response = DelDone; comes = comes; is = ap response_of is }
finishes old (Reap key) answer new (is, comes) = record { operation = Forget; response = ReapDone; comes = comes; is = ap response_of is }
finishes old (ReapFirst from) answer new steps = tt
finishes old (Copy copy) answer new steps = tt
finishes old (Close number) answer new steps = tt

-- a part of a state that no operation changes
module _ {X : Type 0} (part : State Content → X)
    (kept : (state : State Content) (key : Key) (given : Option Context) (operation : Operation Content) → part (apply_operation state key given operation) ≡ part state) where
  -- that part after what comes of a command
  abbrev part_after : X → MachineOutcome → X
  part_after was (Refused number) = was
  part_after was (Answered response) = was
  part_after was (Accepted operation response next) = part next

  either : (was : X) (b : Bool) (x y : MachineOutcome) → part_after was x ≡ was → part_after was y ≡ was → part_after was (cond b x y) ≡ was
  either was true x y first second = first
  either was false x y first second = second

  unless : (was : X) (check : Option ℕ) (x : MachineOutcome) → part_after was x ≡ was → part_after was (unless_refused check x) ≡ was
  unless was None x h = h
  unless was (Some number) x h = refl

  -- no command changes it
  keeps : (state : State Content) (command : Command Content Context) → part_after (part state) (outcome state command) ≡ part state
  keeps state (AskGet get) = refl
  keeps state (AskPut put) =
      let next = apply_operation state put.key put.context (Write put.value) in
      unless (part state) (put_check state put) (Accepted (Write put.value) (PutDone (put_reply next put)) next) (kept state put.key put.context (Write put.value))
  keeps state (AskDel del) =
      let done = Accepted Tombstone DelDone (apply_operation state del.key del.context Tombstone) in
      either (part state) (is_none del.context && not (is_held state del.key)) (Answered DelDone) (unless_refused (del_check state del) done) refl
      (unless (part state) (del_check state del) done (kept state del.key del.context Tombstone))
  keeps state (AskReap key) =
      either (part state) (holds_dead state key) (Accepted Forget ReapDone (apply_operation state key None Forget)) (Answered ReapKept) (kept state key None Forget) refl

  still : (old : State Content) (answer : Answer) (new : State Content) (made : Option (Command Content Context)) → IsSome made
      → IfSome made (λ command. Finishes (outcome old command) answer new) → part new ≡ part old
  still old answer new None s f = cc
  still old answer new (Some command) s f = sym (ap (part_after (part old)) f.comes) ∙ keeps old command

-- no command gives a vnode another id
pub still_named : (old : State Content) (answer : Answer) (new : State Content) (made : Option (Command Content Context)) → IsSome made
    → IfSome made (λ command. Finishes (outcome old command) answer new) → new.vnode ≡ old.vnode
still_named = still (λ s. s.vnode) vnode-kept
