-- Contexts that were shown: the premise that each one that was given for a key had been shown for it by this vnode's run,
-- and what follows: what an event saw is what was there at a position of its key.
use Rattle.std.specs.Prelude.{◌≡◌, ◌≢◌, ◌⊎◌, ◌++◌, [], ◌∷◌, ℕ, Some, None, IsTrue}
use Rattle.riak_msgs.specs.declared.Key.{Key}
use Rattle.riak_msgs.specs.Contents.{Content}
use Rattle.sibling_register.specs.History.{Event, count_of, content_of, numbers_to}
use Rattle.sibling_register.specs.Siblings.{siblings, is_among, is_defined}
use Rattle.sibling_register.specs.Naming.{named}
use Rattle.sibling_register.specs.Leaving.{is_seen_in}
use Rattle.actor_epoch.specs.Given.{Context}
use Rattle.vnode_machine.specs.Replay.{History, naming, HasReplay}

module _ (vnode last_epoch : ℕ) where
  -- the context is the one that is shown for the key at the end of the history, or at an earlier position
  pub record WasShown (history : History) (key : Key) (context : Context) : Type 0 where
    pub later : History
    pub position : History
    pub is : later ++ position ≡ history
    pub defined : IsTrue (is_defined position key)
    pub shown : context ≡ (naming {V = Content} vnode last_epoch).name position key

  -- each context that an event of the key gave had been shown for the key before it
  abbrev pub GivesShown : History → Key → Type 0
  GivesShown [] key = Unit {0}
  GivesShown (event ∷ before) key =
      GivesShown before key
      × (event.key ≡ key → (context : Context) → event.context ≡ Some context → WasShown before key context)

  -- an event's context names a position of its key before it, and the event saw just what was there
  pub record SawPosition (before : History) (event : Event Content Context) (context : Context) : Type 0 where
    pub position : History
    pub is_name : named (naming vnode last_epoch) before event.key context ≡ Some position
    pub saw : event.saw ≡ numbers_to (count_of position event.key)

  -- so did each event of a key for which no other contexts were given than those that had been shown for it
  abbrev pub ShownNamePositions : History → Type 0
  ShownNamePositions history =
      HasReplay vnode last_epoch history → (key : Key) → GivesShown history key
      → (later before : History) (event : Event Content Context) (context : Context)
      → later ++ (event ∷ before) ≡ history → event.key ≡ key → event.context ≡ Some context
      → SawPosition before event context

  -- a write that is a sibling at one position, and none at the end of a list that has a replay, was seen by a write or
  -- tombstone between
  abbrev pub LeavesOnlyToSeers : History → Type 0
  LeavesOnlyToSeers position =
      (between : History) → HasReplay vnode last_epoch (between ++ position) → (key : Key) (number : ℕ)
      → IsTrue (is_among (siblings position key) number) → content_of position key number ≢ None
      → IsTrue (is_among (siblings (between ++ position) key) number) ⊎ IsTrue (is_seen_in between key number)
