-- What a running worker's looks for its call come to, where the vnode may be closed.
use Rattle.std.specs.Prelude.{◌≡◌, ℕ, [], is_some}
use Rattle.riak_msgs.specs.Contents.{Content}
use Rattle.sibling_register.specs.Answers.{RegisterAsk, GetCommand}
use Rattle.actor_epoch.specs.Given.{Context}
use Rattle.vnode_machine.specs.Machine.{State}
use Rattle.vnode_machine.specs.Step.{outcome as outcome_of_ask}
use Rattle.node_steps.specs.declared.outcome.Outcome.{Outcome as Returned}
use Rattle.node_steps.specs.World.{Phase, nothing_brought, SiteVnode}
use Rattle.node_steps.specs.Steps.{looks_by, reads_by, holds_by}
use Rattle.node_steps.specs.CopyLooks.{ComesTo}

-- of a reader, with this state in place at a vnode of the partition with this own site
abbrev pub ReadsTo : (own site : ℕ) → GetCommand Context → State Content → Phase → Returned → Type 0
ReadsTo own site get state next outcome =
    (vnode : SiteVnode) → vnode.place ≡ state → vnode.own ≡ own → ComesTo (reads_by [] nothing_brought vnode site get (is_some state.closed)) next outcome

-- of a holder, with this state in its hand, which isn't closed
abbrev pub LooksTo : (site : ℕ) → RegisterAsk Content Context → State Content → Phase → Returned → Type 0
LooksTo site ask hand next outcome = (vnode : SiteVnode) → ComesTo (looks_by [] nothing_brought vnode site ask hand (outcome_of_ask hand ask)) next outcome

-- and with one that may be
abbrev pub HoldsTo : (own site : ℕ) → RegisterAsk Content Context → State Content → Phase → Returned → Type 0
HoldsTo own site ask hand next outcome =
    (vnode : SiteVnode) → vnode.own ≡ own → ComesTo (holds_by [] nothing_brought vnode site ask hand (is_some hand.closed)) next outcome
