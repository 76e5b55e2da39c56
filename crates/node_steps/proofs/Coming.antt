-- What comes of a turn: its worker's call, the log of its vnode, and its answer.
use Rattle.std.proofs.Common.{◌≡◌, ◌≢◌, ◌⊎◌, ℕ, Bool, true, false, ◌∷◌}
use Rattle.std.specs.Prelude.{Option, Some, None, Result, Ok, Err}
use Rattle.riak_msgs.specs.declared.Key.{Key}
use Rattle.riak_msgs.specs.Contents.{Content}
use Rattle.sibling_register.specs.History.{Event, is_update}
use Rattle.sibling_register.specs.Answers.{RegisterAsk}
use Rattle.actor_epoch.specs.Given.{Context}
use Rattle.vnode_machine.specs.Machine.{State}
use Rattle.dvv_set.specs.Clocks.{DotState}
use Rattle.vnode_machine.specs.Copying.{is_stuck}
use Rattle.vnode_machine.specs.Replay.{replay, AcceptsEvent}
use Rattle.vnode_machine.specs.Step.{Response, outcome as outcome_of_ask}
use Rattle.vnode_machine.specs.Registers.{key_of, context_in_ask}
use Rattle.vnode_machine.specs.Runs.{IsAnswer, reply_of}
use Rattle.copy_laws.specs.Copies.{Command, Copied, commands_of}
use Rattle.copy_laws.specs.Joining.{Log}
use Rattle.node_steps.specs.HeldNames.{saw_held}
use Rattle.node_steps.specs.World.{CopyTaken, CloseLooked, Phase, Turned, Copying, Closing, Brought, Call, call_of, history_of}
use Rattle.node_steps.specs.Steps.{Action, CopiesFrom, ClosesFrom, is_reap, is_about, Outcome, NotPossible, Happened, Replied, NotHeld, StuckThere, CopiedBack, Elsewhere, LeftThere, WorkerTurn}
use Rattle.node_steps.specs.Contexts.{context_bytes, call_by}
use Rattle.node_steps.specs.Told.{log_by}
use Rattle.node_steps.proofs.Shown.{AreHeld}
use Rattle.node_steps.proofs.Inside.{state_of, IsOpenAt, IsPlain}

-- the own site and the fallback's that a phase is about which was turned away, or copies or closes
abbrev pub between_in : Phase → Option (ℕ × ℕ)
between_in (Turned own site ask hand) = Some (own, site)
between_in (Copying own site key stage) = Some (own, site)
between_in (Closing own site stage) = Some (own, site)
between_in phase = None

-- and those that a copier or closer is sent to
abbrev pub sent_between : Action → Option (ℕ × ℕ)
sent_between (CopiesFrom own site key) = Some (own, site)
sent_between (ClosesFrom own site) = Some (own, site)
sent_between action = None

-- a closer that has looked, and a worker that was turned away
abbrev pub is_looked : Phase → Bool
is_looked (Closing own site (CloseLooked hand number)) = true
is_looked phase = false

abbrev pub is_turned : Phase → Bool
is_turned (Turned own site ask hand) = true
is_turned phase = false

-- a phase between two sites was between them, or is new, or was turned away now at the step's site, which is closed; by a step at one site
-- no closer has looked
abbrev pub BetweenIs : Action → (index home : ℕ) → (closed : Option ℕ) → (before later : Phase) → Type 0
BetweenIs action index home closed before later =
    (own site : ℕ) → between_in later ≡ Some (own, site)
    → (is_looked later ≡ false)
    × (((between_in before ≡ Some (own, site)) × (is_turned later ≡ false))
    ⊎ (((sent_between action ≡ Some (own, site)) × (is_turned later ≡ false)) ⊎ ((home ≡ own) × (index ≡ site) × (closed ≢ None))))

-- a phase is about sites that it was about, or its step is there, or it is turned away or sent to there
abbrev pub AboutIs : Action → (index home : ℕ) → (before later : Phase) → Type 0
AboutIs action index home before later =
    (other : ℕ) → is_about other later ≡ true
    → (is_about other before ≡ true) ⊎ ((index ≡ other) ⊎ ((home ≡ other) ⊎ ((site : ℕ) × (sent_between action ≡ Some (other, site)))))

-- the call is as it was, or answered, or comes to its site
abbrev pub CallIs : Action → (before later : Phase) → Type 0
CallIs action before later =
    (call_of later ≡ call_of before) ⊎ ((call_of later ≡ None) ⊎ ((call : Call) × (call_of later ≡ Some call) × (call_by action before ≡ Some call)))

-- the log is as it was, or has an event of the ask more, which the state after it accepts, and which saw what it had to see
abbrev pub EventIs : (id epoch : ℕ) → RegisterAsk Content Context → (before later : Log) → Type 0
EventIs id epoch ask before later =
    (later ≡ before)
    ⊎ ((event : Event Content Context) × (later ≡ Command event ∷ before) × (event.key ≡ key_of ask) × (event.context ≡ context_in_ask ask)
    × (is_reap ask ≡ false → is_update event.operation ≡ true)
    × AcceptsEvent (state_of id epoch before) event.key event.context event.operation
    × (event.saw ≡ saw_held id epoch before event.key event.context event.operation))

-- what a reply shows in this state
abbrev pub ReplyShows : State Content → RegisterAsk Content Context → Result Response ℕ → Type 0
ReplyShows state ask (Ok response) = AreHeld state (key_of ask) (context_bytes response)
ReplyShows state ask (Err number) = Unit {0}

-- the turn answers a call as the machine does, and as the register may; its worker has then seen the log
pub record IsReplyTo (id epoch index : ℕ) (log : Log) (t : WorkerTurn) (reply : Result Response ℕ) (call : Call) : Type 0 where
  pub at : call.site ≡ index
  pub opened : IsOpenAt id epoch log
  pub seen : t.seen ≡ t.vnode.log
  pub event : EventIs id epoch call.ask log t.vnode.log
  pub machine : (reply ≡ reply_of (outcome_of_ask (state_of id epoch log) call.ask)) × (t.vnode.log ≡ log_by id epoch log call.ask (outcome_of_ask (state_of id epoch log) call.ask))
  pub answer : IsPlain id epoch log → IsAnswer id epoch (commands_of log) (record { ask = call.ask; reply = reply }) (history_of t.vnode)
  pub shown : ReplyShows (state_of id epoch t.vnode.log) call.ask reply
  pub shows : IsPlain id epoch log → ReplyShows (replay id epoch (history_of t.vnode)) call.ask reply

-- the log has a copy more, that a copier had planned: with the clock that it had looked at, and the history that it had seen
pub record CopyIs (id epoch index : ℕ) (phase : Phase) (brought : Brought) (before later : Log) : Type 0 where
  pub own : ℕ
  pub site : ℕ
  pub key : Key
  pub clock : DotState (Option Content)
  pub hand : State Content
  pub next : State Content
  pub phase_is : phase ≡ Copying own site key (CopyTaken clock hand (Some next))
  pub at : own ≡ index
  pub open_there : is_stuck (state_of id epoch before) key clock ≡ false
  pub later_is : later ≡ Copied (record { key = key; clock = clock; diversion = brought.diversion; prefix = brought.prefix }) ∷ before

-- a turn answers nothing, and the log stays; or it answers the call; or it copies
abbrev pub Comes : (id epoch index : ℕ) → Phase → (brought : Brought) → Log → WorkerTurn → Outcome → Type 0
Comes id epoch index phase brought log t NotPossible = ⊥
Comes id epoch index phase brought log t Happened = t.vnode.log ≡ log
Comes id epoch index phase brought log t (Replied reply) = (c : Call) × (call_of phase ≡ Some c) × IsReplyTo id epoch index log t reply c
Comes id epoch index phase brought log t NotHeld = t.vnode.log ≡ log
Comes id epoch index phase brought log t StuckThere = t.vnode.log ≡ log
Comes id epoch index phase brought log t CopiedBack = CopyIs id epoch index phase brought log t.vnode.log
Comes id epoch index phase brought log t Elsewhere = t.vnode.log ≡ log
Comes id epoch index phase brought log t (LeftThere keys) = ⊥
