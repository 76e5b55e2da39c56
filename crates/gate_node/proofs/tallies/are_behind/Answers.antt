use Rattle.std.proofs.Common.{sym, subst}
use Rattle.std.proofs.lemmas.List.Elements.{All-more}
use Rattle.gate_node.specs.OneHistory.{PassIsOfGate, HasSeen}
use Rattle.gate_node.specs.Passes.{Sights}
use Rattle.gate_node.proofs.tallies.are_behind.Goals as goal

pub is_behind-requires : goal.is_behind-requires
is_behind-requires g c =
    let Is = λ (passes : Sights). PassIsOfGate c.args.index c.args.other.now.gate passes.primaries in
    let at = c.requires c.loop-caller.caller-index c.caller-item.result c.loop-caller-test.true in
    subst Is (sym c.caller_passes.ensures) (subst (λ caller. Is (g.H.HasPasses.sights caller)) (sym c.caller-item.is) at)

pub loop-caller-preserved : goal.loop-caller-preserved
loop-caller-preserved g c =
    let Has = λ (passes : Sights). HasSeen c.args.index c.args.other.now.prefix passes.primaries in
    let sights = g.H.HasPasses.sights in
    let seen = subst Has c.caller_passes.ensures (c.is_behind.ensures c.if-not-is_behind.false) in
    All-more (λ caller. Has (sights caller)) c.args.callers.now c.loop-caller.caller-index c.caller-item.result c.loop-caller-test.true c.loop-caller.invariant (subst (λ caller. Has (sights caller)) c.caller-item.is seen)
