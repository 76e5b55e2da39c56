-- What a running worker's looks for its call come to, as turns at its vnode.
use Rattle.std.proofs.Common.{◌≡◌, ℕ, Bool, true, false, [], refl, sym, ◌∙◌, ap}
use Rattle.std.specs.Prelude.{None, is_some}
use Rattle.riak_msgs.specs.Contents.{Content}
use Rattle.sibling_register.specs.Answers.{RegisterAsk}
use Rattle.actor_epoch.specs.Given.{Context}
use Rattle.vnode_machine.specs.Machine.{State}
use Rattle.vnode_machine.specs.Step.{MachineOutcome, Refused, Answered, Accepted, outcome as outcome_of_ask}
use Rattle.node_steps.specs.declared.outcome.Outcome.{Outcome as Returned}
use Rattle.node_steps.specs.declared.site.Site.{Site}
use Rattle.node_steps.specs.World.{Phase, Holding, nothing_brought}
use Rattle.node_steps.specs.Steps.{Looks, looks_by, holds_by}
use Rattle.node_steps.specs.Erased.{erase_vnode}
use Rattle.node_steps.specs.Turning.{HoldsTo, LooksTo}
use Rattle.node_steps.specs.Returned.{returned}
use Rattle.node_steps.specs.Running.{vnode_of, Turns}
use Rattle.node_steps.proofs.Looking.{vnode_itself, own_is}

-- a holder's, where the state in its hand isn't closed
pub holds_open : (own site : ℕ) (ask : RegisterAsk Content Context) (hand : State Content) (next : Phase) (outcome : Returned) → is_some hand.closed ≡ false
    → LooksTo site ask hand next outcome → HoldsTo own site ask hand next outcome
holds_open own site ask hand next outcome opened looks = λ vnode same.
    let comes = looks vnode in (
      comes.0 ∙ ap (λ b. (holds_by [] nothing_brought vnode site ask hand b).phase) (sym opened),
      comes.1 ∙ ap (λ b. returned (holds_by [] nothing_brought vnode site ask hand b).outcome) (sym opened),
    )

-- and whatever it is
pub holds : (at : Site) (site : ℕ) (ask : RegisterAsk Content Context) (hand : State Content) (next : Phase) (outcome : Returned)
    → HoldsTo at.own site ask hand next outcome → Turns Looks (vnode_of at) (Holding site ask hand None) (vnode_of at) next outcome
holds at site ask hand next outcome h =
    let comes = h (vnode_of at) (own_is at) in (vnode_itself at ∙ same (is_some hand.closed) (outcome_of_ask hand ask), comes.0, comes.1)
  where
    looked : (o : MachineOutcome) → erase_vnode (vnode_of at) ≡ erase_vnode (looks_by [] nothing_brought (vnode_of at) site ask hand o).vnode
    looked (Refused number) = refl
    looked (Answered response) = refl
    looked (Accepted operation response later) = refl

    same : (closed : Bool) (o : MachineOutcome) → erase_vnode (vnode_of at) ≡ erase_vnode (holds_by [] nothing_brought (vnode_of at) site ask hand closed).vnode
    same true o = refl
    same false o = looked (outcome_of_ask hand ask)
