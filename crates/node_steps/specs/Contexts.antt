-- Which contexts were given for a key, and which were shown for it.
use Rattle.std.specs.Prelude.{◌≡◌, ◌≢◌, ◌⊎◌, ◌&&◌, ◌==◌, if◌then◌else◌, List, [], ◌∷◌, ℕ, Option, Some, None, Ok}
use Rattle.riak_msgs.specs.declared.Key.{Key}
use Rattle.riak_msgs.specs.KeyOrder.{key_eq}
use Rattle.actor_epoch.specs.Given.{Context, context_of}
use Rattle.vnode_machine.specs.Step.{Response, GetDone, PutDone, DelDone, ReapDone, ReapKept}
use Rattle.vnode_machine.specs.Registers.{key_of, context_in_ask}
use Rattle.std.specs.Option.{option_map_or}
use Rattle.node_steps.specs.World.{Phase, Turned, World, Call, worker_at, route, call_at}
use Rattle.node_steps.specs.Steps.{Action, Asks, Leaves, Puts, Step, By, Diverts, number_of, Replied, routed, happens, outcome}
use Rattle.node_steps.specs.Schedules.{Start, world_after}

-- the call that comes to a site by an action that is sent: one that is new, or that was turned away from a closed fallback
abbrev pub call_by : Action → Phase → Option Call
call_by (Asks site ask) phase = Some (record { site = site; ask = ask })
call_by Leaves (Turned own site ask None) = Some (record { site = own; ask = ask })
call_by Puts (Turned own site ask (Some hand)) = Some (record { site = own; ask = ask })
call_by action phase = None

-- the context by which its command has seen something of the key at a site
abbrev pub given_in : Option Call → (site : ℕ) → Key → Option Context
given_in None site key = None
given_in (Some call) site key = if (call.site == site) && key_eq (key_of call.ask) key then context_in_ask call.ask else None

abbrev pub given_by : World → Step → (site : ℕ) → Key → Option Context
given_by w (By number action) site key =
    option_map_or (λ worker. given_in (call_by (routed (route w) action) worker.phase) site key) (worker_at w number) None
given_by w (Diverts index) site key = None

-- the bytes of the context in a response, none where it has none
abbrev pub context_bytes : Response → List ℕ
context_bytes (GetDone reply) = reply.context
context_bytes (PutDone reply) = reply.context
context_bytes DelDone = []
context_bytes ReapDone = []
context_bytes ReapKept = []

-- the step answers a call of the key at a site, and shows bytes that decode to the context
pub record Shows (w : World) (step : Step) (site : ℕ) (key : Key) (context : Context) : Type 0 where
  pub call : Call
  pub asked : call_at w (number_of step) ≡ Some call
  pub at : call.site ≡ site
  pub of_key : key_of call.ask ≡ key
  pub response : Response
  pub replied : outcome w step ≡ Replied (Ok response)
  pub decodes : context_of (context_bytes response) ≡ Some context

module _ (start : Start) (site : ℕ) (key : Key) where
  -- some step of the schedule showed the context for the key
  abbrev pub WasShownInRun : List Step → Context → Type 0
  WasShownInRun [] context = ⊥
  WasShownInRun (step ∷ earlier) context = Shows (world_after start earlier) step site key context ⊎ WasShownInRun earlier context

  -- each context that was given for the key had been shown for it before; a step that isn't possible gives none
  abbrev pub GivesShownInRun : List Step → Type 0
  GivesShownInRun [] = Unit {0}
  GivesShownInRun (step ∷ earlier) =
      GivesShownInRun earlier
      × (happens (world_after start earlier) step ≢ None
      → (context : Context) → given_by (world_after start earlier) step site key ≡ Some context → WasShownInRun earlier context)
