use Rattle.std.proofs.Common.{◌∙◌, ◌∷◌, [], ◌++◌, ap}
use Rattle.std.specs.Prelude.{replicate}
use Rattle.std.proofs.lemmas.List.{replicate_more}
use Rattle.stats_book.specs.Counting.{zeros}
use Rattle.worker_pool.proofs.worker_state.new_worker_states.Goals as goal

pub loop-preserved : goal.loop-preserved
loop-preserved c = c.in_ok-push.ensures.items ∙ ap (λ worker_states. worker_states ++ c.new.result ∷ []) c.loop.invariant ∙ ap (λ t. replicate c.loop.counter zeros ++ t ∷ []) c.new.ensures ∙ replicate_more c.loop.counter zeros
