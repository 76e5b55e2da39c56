use Rattle.std.proofs.Common.{[], ◌∷◌, ◌++◌, ◌∙◌, ap}
use Rattle.node_steps.specs.declared.phase.Phase.TheVariants.{Idle}
use Rattle.std.proofs.lemmas.List.{replicate_more}
use Rattle.node_steps.proofs.world.new_workers.Goals as goal

pub loop-preserved : goal.loop-preserved
loop-preserved c =
    c.in_ok-push.ensures.items ∙ ap (λ phases. phases ++ Idle ∷ []) c.loop.invariant ∙ replicate_more c.loop.counter Idle
