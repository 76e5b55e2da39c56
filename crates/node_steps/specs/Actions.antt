-- What a step may be, and what may come of it.
use Rattle.std.specs.Prelude.{ℕ, Result}
use Rattle.riak_msgs.specs.declared.Key.{Key}
use Rattle.riak_msgs.specs.Contents.{Content}
use Rattle.sibling_register.specs.Answers.{RegisterAsk}
use Rattle.actor_epoch.specs.Given.{Context}
use Rattle.vnode_machine.specs.Step.{Response}

-- what a worker does
pub data Action : Type 0 where
  -- it gets a call for the partition at this index; an ask that no vnode answers, as of a ping, is never possible
  Asks : (index : ℕ) (ask : RegisterAsk Content Context) → Action
  AsksNowhere : Action
  -- it is to copy a key of the partition at this index back; and so as it is sent, with the sites that it copies to and from
  Copies : (index : ℕ) (key : Key) → Action
  CopiesFrom : (own site : ℕ) (key : Key) → Action
  -- it is to close the fallback of the partition at this index; and so as it is sent
  Closes : (index : ℕ) → Action
  ClosesFrom : (own site : ℕ) → Action
  -- it enters as a reader, and leaves
  Enters : Action
  Leaves : Action
  -- it marks the word, so that no reader enters, and takes the mark away
  Marks : Action
  Unmarks : Action
  -- it takes the state into its hand, and puts it back in place
  Takes : Action
  Puts : Action
  -- it looks at the state, and publishes its plan
  Looks : Action
  Publishes : Action

pub data Step : Type 0 where
  -- the worker of a number does something
  By : (number : ℕ) (action : Action) → Step
  -- the partition at this index is diverted to a fallback
  Diverts : (index : ℕ) → Step

-- the number of a step's worker; 0, which no worker has, of a partition's step
abbrev pub number_of : Step → ℕ
number_of (By number action) = number
number_of (Diverts index) = 0

-- what comes of a step: it isn't possible; it happened, and answers nothing; it answers the worker's call, by a response or by the
-- number of a refusal; or of a copy: the fallback doesn't hold the key, the primary would have too much of it, it was copied; or who finds
-- a fallback closed is told so; or a closer, how many keys weren't copied as they are now
pub data Outcome : Type 0 where
  NotPossible : Outcome
  Happened : Outcome
  Replied : (reply : Result Response ℕ) → Outcome
  NotHeld : Outcome
  StuckThere : Outcome
  CopiedBack : Outcome
  Elsewhere : Outcome
  LeftThere : (keys : ℕ) → Outcome
