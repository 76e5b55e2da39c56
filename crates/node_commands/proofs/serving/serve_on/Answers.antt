use Rattle.std.proofs.lemmas.Result.{IfOk-weaker}
use Rattle.node_commands.specs.Runs.{AreServed, AreConnectionsServed}
use Rattle.node_commands.proofs.Legal.{connections_served}
use Rattle.node_commands.proofs.serving.serve_on.Goals as goal

pub returns : goal.returns
returns g c =
    let settings = c.args.settings.now in
    record {
      served =
          IfOk-weaker c.serve_over-outcome.result (AreServed c.in-Some.shared settings.connections settings.workers) (AreConnectionsServed settings)
          (λ closed served. connections_served settings closed c.in-Some.shared c.in-Some.ensures served)
          c.serve_over-outcome.ensures;
    }
