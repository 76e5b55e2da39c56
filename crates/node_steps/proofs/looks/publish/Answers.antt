use Rattle.std.proofs.Common.{refl}
use Rattle.node_steps.proofs.Publishing.{nothing_planned}
use Rattle.node_steps.proofs.looks.publish.Goals as goal

pub returns-in-None : goal.returns-in-None
returns-in-None g c =
    let left = nothing_planned g.deref_mut.result.now g.publish.new.self g.in-None.ensures in
    rw (g.in-Holding.is, ← g.deref_mut.ensures.value, left.1, left.0) (refl, refl, refl)
