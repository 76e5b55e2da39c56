-- Vnodes that aren't closed.
use Rattle.std.proofs.Common.{◌≡◌, ◌∙◌, ℕ, zero, suc, List, [], ◌∷◌, ◌++◌, refl, ap, set, get_or, ◌<◌, length, arith, take}
use Rattle.std.specs.Prelude.{Option, None}
use Rattle.riak_msgs.specs.declared.Key.{Key}
use Rattle.riak_msgs.specs.Contents.{Content}
use Rattle.vnode_machine.specs.Machine.{State}
use Rattle.vnode_machine.specs.Dead.{dead_keys, reaped, reaped_each, swept}
use Rattle.vnode_core.specs.Plans.{View}
use Rattle.node_session.specs.PlainNodes.{AreOpen}

pub open-set : (vnodes : List View) (i : ℕ) (vnode : View) → AreOpen vnodes → vnode.state.closed ≡ None → AreOpen (set vnodes i vnode)
open-set [] i vnode all one = tt
open-set (v ∷ vnodes) zero vnode all one = (one, all.1)
open-set (v ∷ vnodes) (suc i) vnode all one = (all.0, open-set vnodes i vnode all.1 one)

pub open-at : (vnodes : List View) (i : ℕ) (vnode : View) → AreOpen vnodes → i < length vnodes → vnode ≡ get_or vnodes i vnode → vnode.state.closed ≡ None
open-at [] i vnode all inside is = absurd (omega (arith, inside))
open-at (v ∷ vnodes) zero vnode all inside is = ap (λ (w : View). w.state.closed) is ∙ all.0
open-at (v ∷ vnodes) (suc i) vnode all inside is = open-at vnodes i vnode all.1 (omega (arith, inside)) is

pub open-push : (vnodes : List View) (vnode : View) → AreOpen vnodes → vnode.state.closed ≡ None → AreOpen (vnodes ++ vnode ∷ [])
open-push [] vnode all one = (one, tt)
open-push (v ∷ vnodes) vnode all one = (all.0, open-push vnodes vnode all.1 one)

-- a sweep closes no vnode
closed-each : (keys : List Key) (state : State Content) → (reaped_each state keys).closed ≡ state.closed
closed-each [] state = refl
closed-each (key ∷ keys) state = closed-each keys (reaped state key)

pub closed-swept : (state : State Content) (from : Option Key) (budget : ℕ) → (swept state from budget).closed ≡ state.closed
closed-swept state from budget = closed-each (take budget (dead_keys state from)) state
