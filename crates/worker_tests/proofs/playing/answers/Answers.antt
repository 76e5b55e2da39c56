use Rattle.worker_tests.proofs.Keeping.{session_keeps}
use Rattle.worker_tests.proofs.playing.answers.Goals as goal

pub returns : goal.returns
returns g c =
    let said = c.serve-result.ensures in
    session_keeps c.args.node.now c.serve-result.new.node _ _ _ _ _ c.serve-result.result said.ended said.all said.stopped
