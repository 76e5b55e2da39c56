-- A state that was shown to a pass is where what the pass has seen leads.
use Rattle.std.proofs.Common.{◌≡◌, List, sym, subst}
use Rattle.rw_gate.specs.Views.{GateId, RightView}
use Rattle.rw_gate.specs.Histories.{IsReplayed}
use Rattle.vnode_core.specs.declared.entry.Entry.{Entry}
use Rattle.vnode_core.specs.Events.{Makes}
use Rattle.vnode_core.specs.Plans.{View}
use Rattle.vnode_machine.specs.Sound.{IsSound}
use Rattle.handoff.specs.Sights.{Sight, IsOfVnode, LeadsVnodeTo, ShowsState, state_of}
use Rattle.handoff.proofs.Sound.{gate-sound}

pub shown : (right : RightView View Entry) (pass : Sight) (vnode : View) → IsReplayed state_of Makes right → pass.gate ≡ right.gate → pass.prefix ≡ right.history → vnode ≡ right.state
    → ShowsState pass vnode.state
shown right pass vnode replay gate seen is =
    subst (λ (g : GateId View). LeadsVnodeTo g pass.prefix vnode.state) (sym gate)
    (subst (λ (es : List Entry). LeadsVnodeTo right.gate es vnode.state) (sym seen)
    (subst (λ (v : View). LeadsVnodeTo right.gate right.history v.state) (sym is) replay))

-- and it is sound
pub shown-sound : (right : RightView View Entry) (vnode : View) → IsOfVnode right.gate → IsReplayed state_of Makes right → vnode ≡ right.state → IsSound vnode.state
shown-sound right vnode of replay is = subst (λ (v : View). IsSound v.state) (sym is) (gate-sound right.gate right.history right.state.state of replay)
