-- Runs: turns that a vnode takes one after another, and the history that the register has after them. A turn may be a
-- client's, or the node's own as a sweep's reaps are; of a ring of vnodes each takes the turns at its own index.
use Rattle.std.specs.Prelude.{◌≡◌, ◌⊎◌, List, [], ◌∷◌, ℕ, Result, Ok, Err}
use Rattle.riak_msgs.specs.Contents.{Content}
use Rattle.sibling_register.specs.Refusals.{no_memory}
use Rattle.sibling_register.specs.Answers.{RegisterAsk, Told, RegisterOutcome, Answers, Accepts, MayGive}
use Rattle.sibling_register.specs.Legal.{IsLegal}
use Rattle.actor_epoch.specs.Given.{Context}
use Rattle.vnode_machine.specs.Machine.{State, opening}
use Rattle.vnode_machine.specs.Replay.{History, naming, IsWithinLimits, IsAfter}
use Rattle.vnode_machine.specs.Step.{Response, MachineOutcome, Refused, Answered, Accepted, outcome}
use Rattle.vnode_machine.specs.Registers.{reply_shown}

-- an ask, with the response to it or the number of its refusal
pub record Turn : Type 0 where
  pub ask : RegisterAsk Content Context
  pub reply : Result Response ℕ

module _ {S T : Type 0} (Takes : S → T → S → Type 0) where
  -- these turns are taken one after another
  abbrev pub TakesEach : S → List T → S → Type 0
  TakesEach state [] after = after ≡ state
  TakesEach state (turn ∷ turns) after = (mid : S) × Takes state turn mid × TakesEach mid turns after

-- memory was refused, and nothing changed
abbrev pub IsOutOfMemory : {S : Type 0} → S → Turn → S → Type 0
IsOutOfMemory state turn after = (turn.reply ≡ Err no_memory) × (after ≡ state)

-- the reply by what came of an ask
abbrev pub reply_of : MachineOutcome → Result Response ℕ
reply_of (Refused number) = Err number
reply_of (Answered response) = Ok response
reply_of (Accepted operation response next) = Ok response

-- and the state after it
abbrev pub state_after_step : State Content → MachineOutcome → State Content
state_after_step state (Refused number) = state
state_after_step state (Answered response) = state
state_after_step state (Accepted operation response next) = next

-- the turn is a step of the machine
abbrev pub MakesStep : State Content → Turn → State Content → Type 0
MakesStep state turn after =
    (turn.reply ≡ reply_of (outcome state turn.ask)) × (after ≡ state_after_step state (outcome state turn.ask))

-- a vnode takes a turn: a step of the machine, or memory is refused
abbrev pub TakesTurn : State Content → Turn → State Content → Type 0
TakesTurn state turn after = MakesStep state turn after ⊎ IsOutOfMemory state turn after

-- the register's answer by what it gave
abbrev pub answer_by : RegisterOutcome Content Context → Told ℕ
answer_by (Answers told) = told
answer_by (Accepts event told) = told

-- and the history after it
abbrev pub history_by : History → RegisterOutcome Content Context → History
history_by history (Answers told) = history
history_by history (Accepts event told) = event ∷ history

module _ (vnode last_epoch : ℕ) where
  -- the register may give what leads to this history, and the reply shows its answer there
  pub record IsAnswer (history : History) (turn : Turn) (after : History) : Type 0 where
    pub given : RegisterOutcome Content Context
    pub may : MayGive (naming vnode last_epoch) history turn.ask given
    pub leads : after ≡ history_by history given
    pub shown : reply_shown vnode last_epoch after turn.ask (answer_by given) ≡ turn.reply

  -- the register answers a turn, or memory is refused
  abbrev pub AnswersTurn : History → Turn → History → Type 0
  AnswersTurn history turn after = IsAnswer history turn after ⊎ IsOutOfMemory history turn after

  -- from a history on, these turns lead to a legal history that the vnode is after, and each of their replies is the
  -- register's at its place
  pub record PlaysTurns (before : History) (turns : List Turn) (state : State Content) : Type 0 where
    pub history : History
    pub after : IsAfter vnode last_epoch history state
    pub legal : IsLegal (naming vnode last_epoch) history
    pub answered : TakesEach AnswersTurn before turns history

  -- the turns that a vnode takes after a history are played from there
  abbrev pub RunIsPlayed : History → Type 0
  RunIsPlayed before =
      IsWithinLimits vnode last_epoch → (turns : List Turn) (state after : State Content)
      → IsAfter vnode last_epoch before state → TakesEach TakesTurn state turns after → PlaysTurns before turns after

  -- and from the beginning
  abbrev pub FirstRunIsPlayed : List Turn → State Content → Type 0
  FirstRunIsPlayed turns after =
      IsWithinLimits vnode last_epoch → TakesEach TakesTurn (opening vnode last_epoch) turns after → PlaysTurns [] turns after
