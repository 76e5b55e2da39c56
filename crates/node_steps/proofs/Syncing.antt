-- What a running copier's looks come to, as its turns.
use Rattle.std.proofs.Common.{◌≡◌, ℕ, Bool, true, false, [], refl, sym, ◌∙◌, ap}
use Rattle.std.specs.Prelude.{Option, None, is_some}
use Rattle.riak_msgs.specs.declared.Key.{Key}
use Rattle.riak_msgs.specs.Contents.{Content}
use Rattle.dvv_set.specs.Clocks.{DotState}
use Rattle.vnode_machine.specs.Copying.{is_stuck}
use Rattle.vnode_machine.specs.Machine.{State, is_held}
use Rattle.node_steps.specs.declared.outcome.Outcome.{Outcome as Returned}
use Rattle.node_steps.specs.declared.site.Site.{Site}
use Rattle.node_steps.specs.World.{CopyInside, CopyTaken, Phase, Copying, nothing_brought}
use Rattle.node_steps.specs.Steps.{Looks, finds_by, finds_open, syncs_by}
use Rattle.node_steps.specs.Erased.{erase_vnode}
use Rattle.node_steps.specs.CopyLooks.{FindsTo, SyncsTo}
use Rattle.node_steps.specs.Returned.{returned}
use Rattle.node_steps.specs.Running.{vnode_of, Turns}
use Rattle.node_steps.proofs.Looking.{vnode_itself}

-- at the primary, with this state in its hand
pub syncs : (site : Site) (own from : ℕ) (key : Key) (clock : DotState (Option Content)) (hand : State Content) (next : Phase) (outcome : Returned)
    → SyncsTo own from key clock hand next outcome
    → Turns Looks (vnode_of site) (Copying own from key (CopyTaken clock hand None)) (vnode_of site) next outcome
syncs site own from key clock hand next outcome h = let comes = h (vnode_of site) in (vnode_itself site ∙ same (is_stuck hand key clock), comes.0, comes.1)
  where
    same : (stuck : Bool) → erase_vnode (vnode_of site) ≡ erase_vnode (syncs_by [] nothing_brought (vnode_of site) own from key clock hand stuck).vnode
    same true = refl
    same false = refl

-- at the fallback, with this state in place
pub finds : (at : Site) (own from : ℕ) (key : Key) (state : State Content) (next : Phase) (outcome : Returned) → (vnode_of at).place ≡ state
    → FindsTo state own from key next outcome → Turns Looks (vnode_of at) (Copying own from key CopyInside) (vnode_of at) next outcome
finds at own from key state next outcome place h =
    let comes = h (vnode_of at) place in
    let closed = ap (λ (s : State Content). is_some s.closed) (sym place) in (
      vnode_itself at ∙ same (is_some (vnode_of at).place.closed) (is_held (vnode_of at).place key),
      comes.0 ∙ ap (λ b. (finds_open [] nothing_brought (vnode_of at) own from key b).phase) closed,
      comes.1 ∙ ap (λ b. returned (finds_open [] nothing_brought (vnode_of at) own from key b).outcome) closed,
    )
  where
    found : (held : Bool) → erase_vnode (vnode_of at) ≡ erase_vnode (finds_by [] nothing_brought (vnode_of at) own from key held).vnode
    found true = refl
    found false = refl

    same : (closed held : Bool) → erase_vnode (vnode_of at) ≡ erase_vnode (finds_open [] nothing_brought (vnode_of at) own from key closed).vnode
    same true held = refl
    same false held = found (is_held (vnode_of at).place key)
