-- The steps of closers, and of who is turned away, do not look at ids, epochs that vnodes were opened behind, histories and what workers
-- have seen of them.
use Rattle.std.proofs.Common.{ℕ, zero, suc, true, false, refl}
use Rattle.std.specs.Prelude.{Option, Some, None}
use Rattle.riak_msgs.specs.Contents.{Content}
use Rattle.sibling_register.specs.Answers.{RegisterAsk}
use Rattle.actor_epoch.specs.Given.{Context}
use Rattle.vnode_machine.specs.Machine.{State}
use Rattle.copy_laws.specs.Joining.{Log}
use Rattle.node_steps.specs.World.{Word, Open, Taken, CloseStage, CloseAsked, CloseTaken, CloseInside, CloseLooked, CloseDone, Phase, Idle, Turned, Closing, Brought}
use Rattle.node_steps.specs.Steps.{Action, ClosesFrom, Enters, Leaves, Takes, Puts}
use Rattle.node_steps.proofs.CopyErasing.{IsErased}

module _ (id home epoch : ℕ) (seen : Log) (brought : Brought) (log : Log) (place : State Content) where
  abbrev Same : Word → Action → Phase → Type 0
  Same word action phase = IsErased id home epoch seen brought log place word action phase

  pub turned_leaves : (word : Word) (own site : ℕ) (ask : RegisterAsk Content Context) (hand : Option (State Content)) → Same word Leaves (Turned own site ask hand)
  turned_leaves (Open n mark) own site ask None = refl
  turned_leaves Taken own site ask None = refl
  turned_leaves word own site ask (Some hand) = refl

  pub turned_puts : (word : Word) (own site : ℕ) (ask : RegisterAsk Content Context) (hand : Option (State Content)) → Same word Puts (Turned own site ask hand)
  turned_puts word own site ask None = refl
  turned_puts word own site ask (Some hand) = refl

  pub close_asks : (word : Word) (own site : ℕ) → Same word (ClosesFrom own site) Idle
  close_asks (Open n mark) own site = refl
  close_asks Taken own site = refl

  pub close_takes : (word : Word) (own site : ℕ) (stage : CloseStage) → Same word Takes (Closing own site stage)
  close_takes (Open zero mark) own site CloseAsked = refl
  close_takes (Open (suc n) mark) own site CloseAsked = refl
  close_takes Taken own site CloseAsked = refl
  close_takes word own site (CloseTaken hand) = refl
  close_takes word own site (CloseInside hand) = refl
  close_takes word own site (CloseLooked hand number) = refl
  close_takes word own site (CloseDone hand inside) = refl

  pub close_enters : (word : Word) (own site : ℕ) (stage : CloseStage) → Same word Enters (Closing own site stage)
  close_enters word own site CloseAsked = refl
  close_enters (Open n false) own site (CloseTaken hand) = refl
  close_enters (Open n true) own site (CloseTaken hand) = refl
  close_enters Taken own site (CloseTaken hand) = refl
  close_enters word own site (CloseInside hand) = refl
  close_enters word own site (CloseLooked hand number) = refl
  close_enters word own site (CloseDone hand inside) = refl

  pub close_leaves : (word : Word) (own site : ℕ) (stage : CloseStage) → Same word Leaves (Closing own site stage)
  close_leaves word own site CloseAsked = refl
  close_leaves word own site (CloseTaken hand) = refl
  close_leaves word own site (CloseInside hand) = refl
  close_leaves word own site (CloseLooked hand number) = refl
  close_leaves (Open n mark) own site (CloseDone hand true) = refl
  close_leaves Taken own site (CloseDone hand true) = refl
  close_leaves word own site (CloseDone hand false) = refl

  pub close_puts : (word : Word) (own site : ℕ) (stage : CloseStage) → Same word Puts (Closing own site stage)
  close_puts word own site CloseAsked = refl
  close_puts word own site (CloseTaken hand) = refl
  close_puts word own site (CloseInside hand) = refl
  close_puts word own site (CloseLooked hand number) = refl
  close_puts word own site (CloseDone hand true) = refl
  close_puts word own site (CloseDone hand false) = refl
