use Rattle.std.proofs.Common.{◌≡◌, ◌∙◌, ap, sym, subst}
use Rattle.std.specs.Prelude.{None}
use Rattle.rw_gate.specs.Histories.{RunFrom}
use Rattle.rw_gate.specs.Views.{GateId}
use Rattle.vnode_core.specs.Events.{Makes}
use Rattle.vnode_core.specs.Plans.{View}
use Rattle.gate_node.specs.Asked.{state_of}
use Rattle.gate_node.proofs.Unclosed.{comes_open}
use Rattle.gate_node.proofs.diverted.ask_open_under.Goals as goal

pub returns-in-None-clause-unclosed : goal.returns-in-None-clause-unclosed
returns-in-None-clause-unclosed c =
    let right = c.args.right.now in
    let leads = subst (λ (g : GateId View). RunFrom state_of Makes g.opening right.history right.state.state) (sym (c.look.ensures.gate ∙ c.requires)) c.look.ensures.replay in
    let opened : right.state.state.closed ≡ None = sym (c.closed_at.ensures ∙ ap (λ (v : View). v.state.closed) c.in-Ok.ensures.shown) ∙ c.in-None.is in
    comes_open c.args.change c.look.new.pass c.ask_seen.new.pass right.history right.state.state c.ask_seen.result c.ask_seen.ensures.outcome leads opened c.ask_seen.ensures.under
