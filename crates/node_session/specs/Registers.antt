-- The sibling register as a node: it keeps the history of each vnode, and no clocks.
use Rattle.std.specs.Prelude.{[], ℕ}
use Rattle.ring_map.specs.Ring.{id_of}
use Rattle.riak_msgs.specs.declared.Key.{Key}
use Rattle.riak_msgs.specs.Contents.{Content}
use Rattle.riak_msgs.specs.declared.Request.{Request}
use Rattle.riak_msgs.specs.declared.Reply.{Reply}
use Rattle.sibling_register.specs.Legal.{IsLegal}
use Rattle.vnode_machine.specs.Machine.{State}
use Rattle.vnode_machine.specs.Replay.{History, naming, IsAfter}
use Rattle.vnode_machine.specs.Runs.{AnswersTurn}
use Rattle.node_session.specs.ByIndex.{StepByIndex}

-- the history of each vnode, by its index
abbrev pub Histories : Type 0
Histories = ℕ → History

-- before any event
abbrev pub no_events : Histories
no_events index = []

module _ (run : ℕ) where
  -- the step of the register: at each index it answers as the history there has it
  abbrev pub RegisterStep : (index_of : Key → ℕ) (budget : ℕ) → Histories → Request → Reply → Histories → Type 0
  RegisterStep = StepByIndex (λ index. AnswersTurn (id_of run index) 0)

  -- each vnode is after its history, which is legal
  pub record AreAfter (histories : Histories) (vnodes : (index : ℕ) → State Content) : Type 0 where
    pub after : (index : ℕ) → IsAfter (id_of run index) 0 (histories index) (vnodes index)
    pub legal : (index : ℕ) → IsLegal (naming (id_of run index) 0) (histories index)
