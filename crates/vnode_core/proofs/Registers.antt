-- What the register may do where a command is refused.
use Rattle.std.proofs.Common.{◌≡◌, ℕ, Bool, true, false, List, refl, sym, subst, inr}
use Rattle.std.specs.Prelude.{Option, None, MatchBool, Err}
use Rattle.riak_msgs.specs.Contents.{Content}
use Rattle.riak_msgs.specs.declared.PutAsk.{PutAsk}
use Rattle.riak_msgs.specs.declared.DelAsk.{DelAsk}
use Rattle.sibling_register.specs.History.{Event}
use Rattle.sibling_register.specs.Naming.{DelSees}
use Rattle.sibling_register.specs.Answers.{PutCommand, DelCommand, AskPut, AskDel, Told, Refused as ToldRefused, Done, RegisterOutcome, Answers, Accepts, MayGive, DelGives, does_nothing}
use Rattle.actor_epoch.specs.Given.{Context, context_of}
use Rattle.sibling_register.specs.Refusals.{no_memory}
use Rattle.vnode_machine.specs.Asks.{put_command, del_command}
use Rattle.vnode_machine.specs.Machine.{State}
use Rattle.vnode_machine.specs.Replay.{History, naming}
use Rattle.vnode_machine.specs.Sound.{IsSound}
use Rattle.vnode_machine.specs.Registers.{IsRegisters, next_event}
use Rattle.vnode_machine.specs.Step.{MachineOutcome, Refused, Answered, Accepted, outcome}
use Rattle.copy_laws.specs.Sides.{Partition}
use Rattle.copy_laws.specs.Joining.{Log, Fallbacks}
use Rattle.copy_laws.specs.JointAnswers.{MayRefuseBy, put_refusal_at, del_refusal_at}
use Rattle.copy_laws.specs.LegalLogs.{IsOfLog}
use Rattle.vnode_core.specs.declared.ask.Ask.{Ask}
use Rattle.vnode_core.specs.declared.ask.Ask.TheVariants.{Put, Del, Reap, ReapFirst, Copy, Close}
use Rattle.vnode_core.specs.declared.refusal.Refusal.{Refusal}
use Rattle.vnode_core.specs.declared.refusal.Refusal.TheVariants.{NoMemory}
use Rattle.vnode_core.specs.Plans.{IsAcceptedStep, Refuses, RegistersPlan}
use Rattle.vnode_core.proofs.Sound.{registers}

-- where it accepts a put, the register may refuse memory
no-memory : (vnode last_epoch : ℕ) (history : History) (put : PutAsk) (result : MachineOutcome) → IsAcceptedStep result → IsRegisters vnode last_epoch history (AskPut (put_command put)) result
    → MayGive (naming vnode last_epoch) history (AskPut (put_command put)) (Answers (ToldRefused no_memory))
no-memory vnode last_epoch history put (Refused number) h is = absurd h
no-memory vnode last_epoch history put (Answered response) h is = absurd h
no-memory vnode last_epoch history put (Accepted operation response next) h is = let g = is.given in (g.0, g.1, inr (rw g.2.0 refl))

-- and where it accepts a delete
no-memory-del : (vnode last_epoch : ℕ) (history : History) (del : DelAsk) (result : MachineOutcome) → IsAcceptedStep result → IsRegisters vnode last_epoch history (AskDel (del_command del)) result
    → MayGive (naming vnode last_epoch) history (AskDel (del_command del)) (Answers (ToldRefused no_memory))
no-memory-del vnode last_epoch history del (Refused number) h is = absurd h
no-memory-del vnode last_epoch history del (Answered response) h is = absurd h
no-memory-del vnode last_epoch history del (Accepted operation response next) h is =
    by (does_nothing history (del_command del)) (next_event vnode last_epoch history (AskDel (del_command del)) operation) is.told is.given
  where
    by : (b : Bool) (event : Event Content Context) (told : Told ℕ)
        → MatchBool b (◌≡◌ {A = RegisterOutcome Content Context} (Accepts event told) (Answers Done))
        ((saw : List ℕ) × DelSees (naming vnode last_epoch) history del.key (context_of del.context) saw × DelGives (naming vnode last_epoch) history (del_command del) saw (Accepts event told))
        → MatchBool b (◌≡◌ {A = RegisterOutcome Content Context} (Answers (ToldRefused no_memory)) (Answers Done))
        ((saw : List ℕ) × DelSees (naming vnode last_epoch) history del.key (context_of del.context) saw × DelGives (naming vnode last_epoch) history (del_command del) saw (Answers (ToldRefused no_memory)))
    by true event told h = cc
    by false event told g = (g.0, g.1, inr (rw g.2.0 refl))

-- so it may over the numbers of all sides
module _ (partition : Partition) (log : Log) (fallbacks : Fallbacks) where
  free : (check : Option ℕ) → check ≡ None → MayRefuseBy check no_memory
  free check none = subst (λ o. MayRefuseBy o no_memory) (sym none) refl

  no-memory-put-log : (put : PutCommand Content Context) (result : MachineOutcome) → IsAcceptedStep result → IsOfLog partition log fallbacks (AskPut put) result → IsOfLog partition log fallbacks (AskPut put) (Refused no_memory)
  no-memory-put-log put (Refused number) h is = absurd h
  no-memory-put-log put (Answered response) h is = absurd h
  no-memory-put-log put (Accepted operation response next) h is = inr (free (put_refusal_at partition log put) is.0)

  no-memory-del-log : (del : DelCommand Context) (result : MachineOutcome) → IsAcceptedStep result → IsOfLog partition log fallbacks (AskDel del) result → IsOfLog partition log fallbacks (AskDel del) (Refused no_memory)
  no-memory-del-log del (Refused number) h is = absurd h
  no-memory-del-log del (Answered response) h is = absurd h
  no-memory-del-log del (Accepted operation response next) h is = (is.0, inr (free (del_refusal_at partition log del) is.1))

pub registers-refused : (X : Type 0) (state : State Content) → IsSound state → (ask : Ask) (refusal : Refusal) → Refuses state ask refusal → RegistersPlan {X = X} state ask (Err refusal)
registers-refused X state is (Put put) NoMemory (opened, h) =
    let may = registers state is (AskPut (put_command put)) _ refl in
    record {
      at_history = λ vnode last_epoch history after. no-memory vnode last_epoch history put (outcome state (AskPut (put_command put))) h (may.at_history vnode last_epoch history after);
      at_log = λ partition log fallbacks limits leads legal brings.
          no-memory-put-log partition log fallbacks (put_command put) (outcome state (AskPut (put_command put))) h (may.at_log partition log fallbacks limits leads legal brings);
    }
registers-refused X state is (Del del) NoMemory (opened, h) =
    let may = registers state is (AskDel (del_command del)) _ refl in
    record {
      at_history = λ vnode last_epoch history after. no-memory-del vnode last_epoch history del (outcome state (AskDel (del_command del))) h (may.at_history vnode last_epoch history after);
      at_log = λ partition log fallbacks limits leads legal brings.
          no-memory-del-log partition log fallbacks (del_command del) (outcome state (AskDel (del_command del))) h (may.at_log partition log fallbacks limits leads legal brings);
    }
registers-refused X state is (Put put) refusal (opened, h) = registers state is (AskPut (put_command put)) _ h
registers-refused X state is (Del del) refusal (opened, h) = registers state is (AskDel (del_command del)) _ h
registers-refused X state is (Reap key) refusal (opened, h) = absurd h
registers-refused X state is (ReapFirst from) refusal (opened, h) = absurd h
registers-refused X state is (Copy copy) refusal h = tt
registers-refused X state is (Close number) refusal h = tt
