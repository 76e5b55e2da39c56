use Rattle.std.proofs.Common.{[], ◌∷◌, ◌++◌, ◌∙◌, ap}
use Rattle.std.proofs.lemmas.List.{replicate_more}
use Rattle.node_steps.proofs.world.new_epochs.Goals as goal

pub loop-preserved : goal.loop-preserved
loop-preserved c =
    c.in_ok-push.ensures.items ∙ ap (λ epochs. epochs ++ 0 ∷ []) c.loop.invariant ∙ replicate_more c.loop.counter 0
