-- What a running copier's looks come to.
use Rattle.std.specs.Prelude.{◌≡◌, ℕ, [], Option, is_some}
use Rattle.riak_msgs.specs.declared.Key.{Key}
use Rattle.riak_msgs.specs.Contents.{Content}
use Rattle.dvv_set.specs.Clocks.{DotState}
use Rattle.vnode_machine.specs.Copying.{is_stuck}
use Rattle.vnode_machine.specs.Machine.{State}
use Rattle.node_steps.specs.declared.outcome.Outcome.{Outcome as Returned}
use Rattle.node_steps.specs.World.{Phase, nothing_brought, SiteVnode}
use Rattle.node_steps.specs.Steps.{WorkerTurn, finds_open, syncs_by}
use Rattle.node_steps.specs.Returned.{returned}

-- the phase and the outcome are those of a turn
abbrev pub ComesTo : WorkerTurn → Phase → Returned → Type 0
ComesTo turn next outcome = (next ≡ turn.phase) × (outcome ≡ returned turn.outcome)

-- of a look at the fallback, whose state this is
abbrev pub FindsTo : State Content → (own site : ℕ) → Key → Phase → Returned → Type 0
FindsTo state own site key next outcome =
    (vnode : SiteVnode) → vnode.place ≡ state → ComesTo (finds_open [] nothing_brought vnode own site key (is_some state.closed)) next outcome

-- and of one at the primary, whose state is in hand
abbrev pub SyncsTo : (own site : ℕ) → Key → DotState (Option Content) → State Content → Phase → Returned → Type 0
SyncsTo own site key clock hand next outcome =
    (vnode : SiteVnode) → ComesTo (syncs_by [] nothing_brought vnode own site key clock hand (is_stuck hand key clock)) next outcome
