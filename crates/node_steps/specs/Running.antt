-- What running values are in the theorem's world, without its histories; and what a turn makes of them.
use Rattle.std.specs.Prelude.{◌≡◌, ◌+◌, ◌<◌, ◌^◌, ℕ, Bool, List, [], map, Option, Some, None, option_map, MatchOption}
use Rattle.riak_msgs.specs.Contents.{Content}
use Rattle.sibling_register.specs.Answers.{RegisterAsk, AskGet, AskPut, AskDel, AskReap}
use Rattle.actor_epoch.specs.Given.{Context}
use Rattle.vnode_machine.specs.Asks.{get_command, put_command, del_command}
use Rattle.vnode_core.specs.declared.ask.Ask.{Ask as Change}
use Rattle.vnode_core.specs.declared.ask.Ask.TheVariants as changes
use Rattle.node_steps.specs.declared.call.Call.{Call}
use Rattle.node_steps.specs.declared.call.Call.TheVariants as calls
use Rattle.node_steps.specs.declared.outcome.Outcome.{Outcome as Returned}
use Rattle.node_steps.specs.declared.outcome.Outcome.TheVariants as outcomes
use Rattle.node_steps.specs.declared.phase.Phase.{Phase as RunPhase}
use Rattle.node_steps.specs.declared.phase.Phase.TheVariants as phases
use Rattle.node_steps.specs.declared.stage.Stage.{Stage as RunStage}
use Rattle.node_steps.specs.declared.stage.Stage.TheVariants as stages
use Rattle.node_steps.specs.declared.close_stage.CloseStage.{CloseStage as RunCloseStage}
use Rattle.node_steps.specs.declared.close_stage.CloseStage.TheVariants as close_stages
use Rattle.node_steps.specs.declared.site.Site.{Site}
use Rattle.node_steps.specs.World.{Word, Open, Taken, CopyStage, CopyAsked, CopyInside, CopyLooked, CopyTaken, CopyDone, CloseStage, CloseAsked, CloseTaken, CloseInside, CloseLooked, CloseDone, Phase, Idle, Asked, Reading, Holding, Done, Turned, Copying, Closing, nothing_brought, SiteVnode, Worker, World}
use Rattle.node_steps.specs.Steps.{Action, turn_of}
use Rattle.node_steps.specs.Erased.{blank, erase_vnode}
use Rattle.node_steps.specs.Hands.{HandView}
use Rattle.node_steps.specs.Returned.{returned}

-- what a call asks
abbrev pub ask_of : Call → RegisterAsk Content Context
ask_of (calls.Get get) = AskGet (get_command get.value)
ask_of (calls.Put put) = AskPut (put_command put.value)
ask_of (calls.Del del) = AskDel (del_command del.value)
ask_of (calls.Reap key) = AskReap key.value

-- what a call is to change
abbrev pub IsChangeOf : Call → Option Change → Type 0
IsChangeOf (calls.Get get) change = change ≡ None
IsChangeOf (calls.Put put) change = change ≡ Some (changes.Put put.value)
IsChangeOf (calls.Del del) change = change ≡ Some (changes.Del del.value)
IsChangeOf (calls.Reap key) change = change ≡ Some (changes.Reap key.value)

abbrev pub stage_of : RunStage → CopyStage
stage_of stages.Asked = CopyAsked
stage_of stages.Inside = CopyInside
stage_of (stages.Looked clock) = CopyLooked clock.value
stage_of (stages.Taken clock hand) = CopyTaken clock.value hand.value.state None
stage_of (stages.Planned copy) = CopyTaken copy.clock copy.state (Some copy.next)
stage_of (stages.Done hand) = CopyDone (option_map (λ h. h.value.state) hand)

abbrev pub close_stage_of : RunCloseStage → CloseStage
close_stage_of close_stages.Asked = CloseAsked
close_stage_of (close_stages.Taken hand) = CloseTaken hand.value.state
close_stage_of (close_stages.Inside hand) = CloseInside hand.value.state
close_stage_of (close_stages.Looked close) = CloseLooked close.state close.number
close_stage_of (close_stages.Done hand inside) = CloseDone hand.value.state inside

abbrev pub phase_of : RunPhase → Phase
phase_of phases.Idle = Idle
phase_of (phases.Asked index call) = Asked index (ask_of call)
phase_of (phases.Reading index get) = Reading index (get_command get.value)
phase_of (phases.Holding index call hand) = Holding index (ask_of call) hand.value.state hand.value.plan
phase_of (phases.Done index hand) = Done index (option_map (λ h. h.value.state) hand)
phase_of (phases.Turned own site call hand) = Turned own site (ask_of call) (option_map (λ h. h.value.state) hand)
phase_of (phases.Copying own site key stage) = Copying own site key.value (stage_of stage)
phase_of (phases.Closing own site stage) = Closing own site (close_stage_of stage)

-- a vnode by its partition's own site, its word and its state, where that is in place
abbrev pub vnode_by : (own readers : ℕ) (marked : Bool) → Option HandView → SiteVnode
vnode_by own readers marked None = record { id = 0; own = own; last_epoch = 0; word = Taken; log = []; place = blank }
vnode_by own readers marked (Some hand) = record { id = 0; own = own; last_epoch = 0; word = Open readers marked; log = []; place = hand.state }

abbrev pub vnode_of : Site → SiteVnode
vnode_of site = vnode_by site.own site.readers site.marked (option_map (λ h. h.value) site.place)

abbrev pub worker_of : RunPhase → Worker
worker_of phase = record { phase = phase_of phase; seen = [] }

-- the world that sites, routes, epochs and phases are
abbrev pub world_of : List Site → (routes epochs : List ℕ) → List RunPhase → World
world_of sites routes epochs workers =
    record { vnodes = map vnode_of sites; routes = routes; epochs = epochs; diversions = []; workers = map worker_of workers }

-- the vnode and the worker after an action, and what it returns: by its turn, or where it isn't possible as they were
abbrev pub Turns : Action → (old : SiteVnode) (phase : Phase) (new : SiteVnode) (next : Phase) → Returned → Type 0
Turns action old phase new next outcome =
    MatchOption (turn_of [] nothing_brought old action phase)
    ((new ≡ old) × (next ≡ phase) × (outcome ≡ outcomes.No))
    (λ turn. (new ≡ erase_vnode turn.vnode) × (next ≡ turn.phase) × (outcome ≡ returned turn.outcome))

-- the word can count one reader more
abbrev pub CanCountReader : Word → Type 0
CanCountReader (Open readers marked) = readers + 1 < 2 ^ 64
CanCountReader Taken = Unit {0}
