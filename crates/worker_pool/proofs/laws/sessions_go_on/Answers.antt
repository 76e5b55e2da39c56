use Rattle.std.proofs.Common.{refl}
use Rattle.worker_pool.specs.Resuming.{RunNodeView, RunNodeStep, RunStep, standing}
use Rattle.worker_pool.proofs.Mapping.{came_by}
use Rattle.worker_pool.proofs.laws.sessions_go_on.Goals as goal

pub returns : goal.returns
returns c = record {
  so_far = came_by RunNodeStep RunStep (λ (node : RunNodeView). node.stands) (λ old request reply new made. made.step);
  further = λ over before. came_by RunStep RunNodeStep (standing over before) (λ old request reply new made. record { step = made; over = refl; before = refl });
}
