use Rattle.std.proofs.Common.{◌++◌, ◌∙◌, sym}
use Rattle.actor_epoch.proofs.Encodings.{encoding-take}
use Rattle.actor_epoch.proofs.context.Context.write.Goals as goal

pub loop-pair-preserved : goal.loop-pair-preserved
loop-pair-preserved c =
    c.in_ok-extend_from_slice.ensures.items
    ∙ (λ i. c.loop-pair.invariant i ++ c.pair_bytes.ensures i)
    ∙ sym (encoding-take c.args.pairs.now c.loop-pair.pair-index _ c.loop-pair-test.true)
