-- What the vnode refuses is a step of the plain node.
use Rattle.std.proofs.Common.{◌≡◌, ◌∙◌, ℕ, Bool, true, false, cond, refl, sym, ap, subst, inl, inr}
use Rattle.std.specs.Prelude.{Option, Some, None, IsSome}
use Rattle.riak_msgs.specs.Contents.{Content}
use Rattle.riak_msgs.specs.declared.Reply.TheVariants.{Error}
use Rattle.riak_msgs.specs.declared.Reply.TheVariants as replies
use Rattle.sibling_register.specs.Answers.{AskPut, AskDel}
use Rattle.sibling_register.specs.History.{Operation}
use Rattle.vnode_machine.specs.Asks.{put_command, del_command}
use Rattle.vnode_machine.specs.Machine.{State}
use Rattle.vnode_machine.specs.Step.{Response, MachineOutcome, Refused, Answered, Accepted, DelDone, outcome, unless_refused}
use Rattle.vnode_core.specs.declared.ask.Ask.{Ask}
use Rattle.vnode_core.specs.declared.ask.Ask.TheVariants.{Put, Del, Reap, ReapFirst, Copy, Close}
use Rattle.vnode_core.specs.declared.ask.Answer.{Answer}
use Rattle.vnode_core.specs.declared.refusal.Refusal.{Refusal}
use Rattle.vnode_core.specs.declared.refusal.Refusal.TheVariants.{NoMemory}
use Rattle.vnode_core.specs.Plans.{IsAcceptedStep, IsWrite, IsAnsweredUnchanged, Refuses, Steps}
use Rattle.vnode_core.specs.Refusals.{number_of}
use Rattle.sibling_register.specs.Refusals.{refusal_text}
use Rattle.vnode_core.specs.Replies.{answer_reply}
use Rattle.node_session.specs.PlainStep.{StepsBy, StepsByWrite}

-- what the machine accepts may be refused memory
gives_up : (state new : State Content) (o : MachineOutcome) → IsAcceptedStep o → new ≡ state → StepsBy state o (Error (refusal_text (number_of NoMemory))) new
gives_up state new (Accepted operation response next) is same = inr (refl, same)
gives_up state new (Refused number) is same = elim is [ ]
gives_up state new (Answered response) is same = elim is [ ]

no_some : (o : Option ℕ) → IsSome o → o ≡ None → ⊥
no_some None some is = cc
no_some (Some n) some is = cc

module _ (state new : State Content) where
  -- a refusal by its number
  by_number : (o : MachineOutcome) (refusal : Refusal) → new ≡ state → o ≡ Refused (number_of refusal) → StepsBy state o (Error (refusal_text (number_of refusal))) new
  by_number o refusal same is =
      subst (λ result. StepsBy state result (Error (refusal_text (number_of refusal))) new) (sym is) (refl, same)

  pub refused : (ask : Ask) → IsWrite ask → new ≡ state → (refusal : Refusal) → Refuses state ask refusal
      → StepsByWrite state ask (Error (refusal_text (number_of refusal))) new
  refused (Put put) write same NoMemory is = gives_up state new (outcome state (AskPut (put_command put))) is.1 same
  refused (Put put) write same refusal is = by_number (outcome state (AskPut (put_command put))) refusal same is.1
  refused (Del del) write same NoMemory is = gives_up state new (outcome state (AskDel (del_command del))) is.1 same
  refused (Del del) write same refusal is = by_number (outcome state (AskDel (del_command del))) refusal same is.1
  refused (Reap key) write same refusal is = tt
  refused (ReapFirst from) write same refusal is = tt
  refused (Copy copy) write same refusal is = tt
  refused (Close number) write same refusal is = tt

  -- a write that is made
  pub made : (ask : Ask) → IsWrite ask → (answer : Answer) → Steps state ask answer new → StepsByWrite state ask (answer_reply answer) new
  made (Put put) write answer (opened, (reply, is, step)) =
      subst (λ a. StepsBy state (outcome state (AskPut (put_command put))) (answer_reply a) new) (sym is)
      (subst (λ o. StepsBy state o (replies.Put reply) new) (sym step) (inl (refl, refl)))
  made (Del del) write answer (opened, (is, step)) =
      subst (λ a. StepsBy state (outcome state (AskDel (del_command del))) (answer_reply a) new) (sym is)
      (subst (λ o. StepsBy state o replies.Del new) (sym step) (inl (refl, refl)))
  made (Reap key) write answer step = tt
  made (ReapFirst from) write answer step = tt
  made (Copy copy) write answer step = tt
  made (Close number) write answer step = tt

  -- one that changes nothing, of a vnode that isn't closed
  pub told : state.closed ≡ None → (ask : Ask) → IsWrite ask → new ≡ state → (answer : Answer) → IsAnsweredUnchanged state ask answer → StepsByWrite state ask (answer_reply answer) new
  told opened ask write same answer (inr (closed, is)) = absurd (no_some state.closed closed opened)
  told opened (Put put) write same answer (inl (open_now, h)) = absurd h
  told opened (Del del) write same answer (inl (open_now, (is, step))) =
      subst (λ a. StepsBy state (outcome state (AskDel (del_command del))) (answer_reply a) new) (sym is)
      (subst (λ o. StepsBy state o replies.Del new) (sym step) (inl (refl, same)))
  told opened (Reap key) write same answer (inl h) = tt
  told opened (ReapFirst from) write same answer (inl h) = tt
  told opened (Copy copy) write same answer (inl h) = tt
  told opened (Close number) write same answer (inl h) = tt

-- what an accepted command leads to
next-is : (check : Option ℕ) (operation other : Operation Content) (response its : Response) (next new : State Content)
    → unless_refused check (Accepted operation response next) ≡ Accepted other its new → next ≡ new
next-is None operation other response its next new h = cc
next-is (Some number) operation other response its next new h = cc

busy-next : (idle : Bool) (check : Option ℕ) (operation other : Operation Content) (response its : Response) (next new : State Content)
    → cond idle (Answered DelDone) (unless_refused check (Accepted operation response next)) ≡ Accepted other its new → next ≡ new
busy-next true check operation other response its next new h = cc
busy-next false check operation other response its next new h = next-is check operation other response its next new h

-- a write doesn't close a vnode
pub stays-open : (old new : State Content) (ask : Ask) → IsWrite ask → (answer : Answer) → Steps old ask answer new → new.closed ≡ None
stays-open old new (Put put) write answer (opened, (reply, is, step)) = ap (λ (s : State Content). s.closed) (sym (next-is _ _ _ _ _ _ new step)) ∙ opened
stays-open old new (Del del) write answer (opened, (is, step)) = ap (λ (s : State Content). s.closed) (sym (busy-next _ _ _ _ _ _ _ new step)) ∙ opened
stays-open old new (Reap key) write answer step = absurd write
stays-open old new (ReapFirst from) write answer step = absurd write
stays-open old new (Copy copy) write answer step = absurd write
stays-open old new (Close number) write answer step = absurd write
