-- The machine's step as the sibling register's, at every history that a vnode in a state may have had.
use Rattle.std.specs.Prelude.{◌≡◌, ◌∷◌, ℕ, Option, None, Result, Ok, Err}
use Rattle.riak_msgs.specs.declared.Key.{Key}
use Rattle.riak_msgs.specs.Contents.{Content}
use Rattle.sibling_register.specs.History.{Event, Operation}
use Rattle.sibling_register.specs.Answers.{RegisterAsk, AskGet, AskPut, AskDel, AskReap, Told, Refused as ToldRefused, Reaped, Answers, Accepts, MayGive}
use Rattle.sibling_register.specs.Legal.{IsLegal}
use Rattle.actor_epoch.specs.Given.{Context}
use Rattle.vnode_machine.specs.Machine.{State}
use Rattle.vnode_machine.specs.Replay.{History, naming, seen_by, IsWithinLimits, IsAfter, AtEachHistory}
use Rattle.vnode_machine.specs.Replies.{get_shown, put_shown}
use Rattle.vnode_machine.specs.Step.{Response, GetDone, PutDone, DelDone, ReapDone, ReapKept, MachineOutcome, Refused, Answered, Accepted, outcome}

-- the key of an ask
abbrev pub key_of : RegisterAsk Content Context → Key
key_of (AskGet get) = get.key
key_of (AskPut put) = put.key
key_of (AskDel del) = del.key
key_of (AskReap key) = key

-- the context by which its command has seen something
abbrev pub context_in_ask : RegisterAsk Content Context → Option Context
context_in_ask (AskGet get) = None
context_in_ask (AskPut put) = put.context
context_in_ask (AskDel del) = del.context
context_in_ask (AskReap key) = None

-- whether a reap forgot its key
abbrev pub reap_shown : Told ℕ → Response
reap_shown Reaped = ReapDone
reap_shown told = ReapKept

module _ (vnode last_epoch : ℕ) where
  -- the event of an ask that does this operation at the end of the history
  abbrev pub next_event : History → RegisterAsk Content Context → Operation Content → Event Content Context
  next_event history ask operation = record {
    key = key_of ask;
    operation = operation;
    context = context_in_ask ask;
    saw = seen_by vnode last_epoch history (key_of ask) (context_in_ask ask) operation;
  }

  -- the response to an ask that shows the register's answer at the end of the history
  abbrev pub response_shown : History → RegisterAsk Content Context → Told ℕ → Response
  response_shown history (AskGet get) told = GetDone (get_shown vnode last_epoch history get.key told)
  response_shown history (AskPut put) told = PutDone (put_shown vnode last_epoch history put.key told)
  response_shown history (AskDel del) told = DelDone
  response_shown history (AskReap key) told = reap_shown told

  -- the same, or the number of the refusal
  abbrev pub reply_shown : History → RegisterAsk Content Context → Told ℕ → Result Response ℕ
  reply_shown history ask (ToldRefused number) = Err number
  reply_shown history ask told = Ok (response_shown history ask told)

  -- the register may answer the ask, with no event, and the response shows its answer
  pub record IsTold (history : History) (ask : RegisterAsk Content Context) (response : Response) : Type 0 where
    pub told : Told ℕ
    pub given : MayGive (naming vnode last_epoch) history ask (Answers told)
    pub shown : reply_shown history ask told ≡ Ok response

  -- the register may accept the ask as its next event, after which the list is a legal history and the machine is in this
  -- state, and the response shows its answer there
  pub record IsNext (history : History) (ask : RegisterAsk Content Context) (operation : Operation Content) (response : Response) (next : State Content) : Type 0 where
    pub told : Told ℕ
    pub given : MayGive (naming vnode last_epoch) history ask (Accepts (next_event history ask operation) told)
    pub leads : IsAfter vnode last_epoch (next_event history ask operation ∷ history) next
    pub legal : IsLegal (naming vnode last_epoch) (next_event history ask operation ∷ history)
    pub shown : reply_shown (next_event history ask operation ∷ history) ask told ≡ Ok response

  -- what comes of an ask is what the register may give at the end of the history
  abbrev pub IsRegisters : History → RegisterAsk Content Context → MachineOutcome → Type 0
  IsRegisters history ask (Refused number) = MayGive (naming vnode last_epoch) history ask (Answers (ToldRefused number))
  IsRegisters history ask (Answered response) = IsTold history ask response
  IsRegisters history ask (Accepted operation response next) = IsNext history ask operation response next

-- of a state within limits, what comes of an ask is the register's at each history that may have led there
abbrev pub StepIsRegisters : State Content → RegisterAsk Content Context → Type 0
StepIsRegisters state ask =
    IsWithinLimits state.vnode state.last_epoch
    → AtEachHistory state (λ vnode last_epoch history. IsRegisters vnode last_epoch history ask (outcome state ask))
