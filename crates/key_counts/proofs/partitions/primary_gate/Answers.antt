use Rattle.std.proofs.Common.{◌<◌, ◌^◌, sym, subst}
use Rattle.handoff.specs.Partitions.{AreOfNewRun}
use Rattle.handoff.proofs.Opened.{got, new_vnode_at}
use Rattle.key_counts.proofs.partitions.primary_gate.Goals as goal

pub returns-clause-vnode : goal.returns-clause-vnode
returns-clause-vnode c =
    let handoff = c.args.handoff.now in
    let gates = c.gates.result.now in
    let gate = c.index-gates-from.result in
    let new = subst (AreOfNewRun handoff.run) (sym c.gates.ensures.gates) c.gates.ensures.new_run in
    let within = subst (λ n. c.from.result < n) (sym c.gates.ensures.size) (subst (λ n. n < 2 ^ handoff.index_bits) (sym c.from.ensures) c.requires) in
    new_vnode_at handoff.run gates new c.from.result gate (got gates c.from.result gate within c.index-gates-from.is)
