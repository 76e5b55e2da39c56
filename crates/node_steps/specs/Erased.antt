-- A world without what no step looks at: the ids, the epochs that vnodes were opened behind, the histories and what workers have
-- seen of them, and how often partitions were diverted.
use Rattle.std.specs.Prelude.{◌≡◌, [], map}
use Rattle.riak_msgs.specs.Contents.{Content}
use Rattle.vnode_machine.specs.Machine.{State, opening}
use Rattle.node_steps.specs.World.{Word, Open, Taken, CopyAsked, CopyInside, CopyLooked, CopyTaken, CopyDone, CloseAsked, CloseTaken, CloseInside, CloseLooked, CloseDone, Phase, Idle, Asked, Reading, Holding, Done, Turned, Copying, Closing, SiteVnode, Worker, World}
use Rattle.node_steps.specs.Steps.{Step, after, outcome}

-- no state
abbrev pub blank : State Content
blank = opening 0 0

-- what lies in place, where the vnode is not taken
abbrev pub erase_place : Word → State Content → State Content
erase_place (Open readers marked) place = place
erase_place Taken place = blank

abbrev pub erase_vnode : SiteVnode → SiteVnode
erase_vnode vnode = record { id = 0; own = vnode.own; last_epoch = 0; word = vnode.word; log = []; place = erase_place vnode.word vnode.place }

abbrev pub erase_worker : Worker → Worker
erase_worker worker = record { phase = worker.phase; seen = [] }

abbrev pub erase : World → World
erase w = record { vnodes = map erase_vnode w.vnodes; routes = w.routes; epochs = w.epochs; diversions = []; workers = map erase_worker w.workers }

-- a state is in place, where a reader is to be shown one
abbrev pub IsShown : Word → Phase → Type 0
IsShown (Open readers marked) phase = Unit {0}
IsShown Taken (Reading index get) = ⊥
IsShown Taken Idle = Unit {0}
IsShown Taken (Asked index ask) = Unit {0}
IsShown Taken (Holding index ask hand plan) = Unit {0}
IsShown Taken (Done index hand) = Unit {0}
IsShown Taken (Turned own site ask hand) = Unit {0}
IsShown Taken (Copying own site key CopyAsked) = Unit {0}
IsShown Taken (Copying own site key CopyInside) = ⊥
IsShown Taken (Copying own site key (CopyLooked clock)) = Unit {0}
IsShown Taken (Copying own site key (CopyTaken clock hand plan)) = Unit {0}
IsShown Taken (Copying own site key (CopyDone hand)) = Unit {0}
IsShown Taken (Closing own site CloseAsked) = Unit {0}
IsShown Taken (Closing own site (CloseTaken hand)) = Unit {0}
IsShown Taken (Closing own site (CloseInside hand)) = ⊥
IsShown Taken (Closing own site (CloseLooked hand number)) = Unit {0}
IsShown Taken (Closing own site (CloseDone hand inside)) = Unit {0}

-- the same comes of a step without it, and the same is left without it
pub record NeedsNoHistory (w : World) (step : Step) : Type 0 where
  pub outcome_is : outcome w step ≡ outcome (erase w) step
  pub world_is : erase (after w step) ≡ erase (after (erase w) step)
