-- Contexts that a partition's primary or its fallbacks had shown for a key.
use Rattle.std.specs.Prelude.{◌≡◌, ◌⊎◌, ◌≤◌, ◌++◌, ℕ}
use Rattle.riak_msgs.specs.declared.Key.{Key}
use Rattle.actor_epoch.specs.Given.{Context, Pairs}
use Rattle.vnode_machine.specs.Machine.{clock_of}
use Rattle.vnode_machine.specs.Replay.{History, replay}
use Rattle.copy_laws.specs.CopyReplay.{name_at}
use Rattle.copy_laws.specs.Joining.{Log, Fallbacks}
use Rattle.copy_laws.specs.Sides.{Partition}

module _ (partition : Partition) (fallbacks : Fallbacks) (key : Key) where
  -- the fallback of a diversion had shown it, at a place of this history
  pub record WasShownBy (diversion : ℕ) (history : History) (context : Context) : Type 0 where
    pub later : History
    pub place : History
    pub is : later ++ place ≡ history
    pub shows : context ≡ Pairs (clock_of (replay partition.fallback (partition.opened diversion) place) key).known

  -- one of the first diversions' fallbacks had, at a place of all its history
  pub record WasShownThere (most : ℕ) (context : Context) : Type 0 where
    pub diversion : ℕ
    pub first : 1 ≤ diversion
    pub last : diversion ≤ most
    pub shown : WasShownBy diversion (fallbacks diversion) context

  -- the primary had, at a position of this log
  pub record WasShownHere (log : Log) (context : Context) : Type 0 where
    pub later : Log
    pub position : Log
    pub is : later ++ position ≡ log
    pub shows : context ≡ name_at partition position key

  -- either had
  abbrev pub WasShown : (most : ℕ) → Log → Context → Type 0
  WasShown most log context = WasShownHere log context ⊎ WasShownThere most context
