use Rattle.std.proofs.Common.{◌+◌, ◌∙◌, ◌∷◌, [], ap, length, length-append}
use Rattle.job_pool.proofs.Lists.{all_snoc}
use Rattle.worker_tests.proofs.workers.serving_setups.serving_setups_apart.Goals as goal

pub loop-preserved : goal.loop-preserved
loop-preserved c =
    let all = c.loop.serving_setups.items in
    let serving_setup = c.in_ok-new_serving_setup.field-0 in
    let grown = c.in_ok-push.ensures.items in
    (ap length grown ∙ length-append all (serving_setup ∷ []) ∙ ap (λ n. n + 1) c.loop.invariant.0, rw grown (all_snoc _ all serving_setup c.loop.invariant.1 c.in_ok-new_serving_setup.ensures))
