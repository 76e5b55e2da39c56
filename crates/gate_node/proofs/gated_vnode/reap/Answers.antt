use Rattle.std.proofs.Common.{◌∙◌, arith}
use native.Mathlib.Numerals.{add-one}
use Rattle.gate_node.proofs.Reaping.{reaps_one}
use Rattle.gate_node.proofs.gated_vnode.reap.Goals as goal

pub loop-count-preserved-in-Made-2 : goal.loop-count-preserved-in-Made-2
loop-count-preserved-in-Made-2 g c =
    let inv = c.loop-count.invariant in (
      c.ask.ensures.gate ∙ inv.0,
      omega (arith, c.loop-count-test.true),
      rw add-one (reaps_one c.loop-count.count c.args.pass.now c.loop-count.pass c.ask.new.pass c.in-Made.field-0 inv.2 c.ask.ensures.gate c.in-Made.ensures.outcome),
    )
