use Rattle.std.proofs.Common.{sym, subst}
use Rattle.node_commands.specs.Runs.{IsNewRun}
use Rattle.node_commands.proofs.Periods.{begins}
use Rattle.node_commands.proofs.controlled.serve_controlled.Goals as goal

pub serve_periods-requires-clause-begins : goal.serve_periods-requires-clause-begins
serve_periods-requires-clause-begins g c κs within =
    let settings = c.args.settings.now in
    begins settings c.in-Some-new.paused (subst (IsNewRun settings.ring settings.options.run settings.options.sweep) (sym c.in-Some-new.ensures.shared) c.in-Some.ensures) c.in-Some-new.ensures.progress
