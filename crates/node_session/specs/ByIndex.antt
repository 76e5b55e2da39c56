-- The step of a node that keeps one thing for each index: its vnodes, or their histories.
use Rattle.std.specs.Prelude.{◌≡◌, ◌≢◌, ◌≤◌, List, ◌∷◌, ℕ, length, Result, MatchOption}
use Rattle.std.specs.List.{All}
use Rattle.riak_msgs.specs.declared.Key.{Key}
use Rattle.riak_msgs.specs.Contents.{Content}
use Rattle.riak_msgs.specs.declared.Request.{Request}
use Rattle.riak_msgs.specs.declared.Reply.{Reply}
use Rattle.riak_msgs.specs.declared.Reply.TheVariants as replies
use Rattle.sibling_register.specs.Answers.{RegisterAsk, AskReap}
use Rattle.vnode_machine.specs.Step.{Response}
use Rattle.vnode_machine.specs.Registers.{key_of}
use Rattle.vnode_machine.specs.Runs.{Turn, TakesEach}
use Rattle.vnode_machine.specs.Asks.{Context, request_ask}
use Rattle.node_session.specs.PlainStep.{reply_of}

-- a turn by which a node forgets a key
abbrev pub IsReap : Turn → Type 0
IsReap turn = (key : Key) × (turn.ask ≡ AskReap key)

module _ {S : Type 0} (Takes : (index : ℕ) → S → Turn → S → Type 0) where
  -- what stands at the index takes these turns one after another, and what stands at the others stays
  pub record TakesAt (index : ℕ) (old : ℕ → S) (turns : List Turn) (new : ℕ → S) : Type 0 where
    pub each : TakesEach (Takes index) (old index) turns (new index)
    pub others : (other : ℕ) → other ≢ index → new other ≡ old other

  module _ (index_of : Key → ℕ) (budget : ℕ) where
    -- the ask is taken at the index of its key, and after it so many reaps at most
    pub record AnswersAsk (old : ℕ → S) (ask : RegisterAsk Content Context) (reply : Reply) (new : ℕ → S) : Type 0 where
      pub result : Result Response ℕ
      pub replied : reply ≡ reply_of result
      pub reaps : List Turn
      pub few : length reaps ≤ budget
      pub only : All IsReap reaps
      pub takes : TakesAt (index_of (key_of ask)) old (record { ask = ask; reply = result } ∷ reaps) new

    -- a ping is answered by a ping and changes nothing, any other request by the reply to its ask
    abbrev pub StepByIndex : (ℕ → S) → Request → Reply → (ℕ → S) → Type 0
    StepByIndex old request reply new =
        MatchOption (request_ask request) ((reply ≡ replies.Ping) × (new ≡ old)) (λ ask. AnswersAsk old ask reply new)
