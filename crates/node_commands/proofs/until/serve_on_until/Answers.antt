use Rattle.std.proofs.Common.{sym, subst}
use Rattle.node_commands.specs.Runs.{IsServedUntil}
use Rattle.node_commands.specs.declared.until.ServedUntil.{ServedUntil}
use Rattle.node_commands.proofs.Legal.{served_until}
use Rattle.node_commands.proofs.until.serve_on_until.Goals as goal

pub returns-in-Ok-clause-served : goal.returns-in-Ok-clause-served
returns-in-Ok-clause-served g c =
    let settings = c.args.settings.now in
    let told : ServedUntil _ = record c.in-Ok.served { wrote_totals = c.with_totals_told.result.wrote_totals } in
    subst (IsServedUntil settings) (sym c.with_totals_told.ensures.same) (served_until settings told c.in-Some.shared c.in-Some.ensures c.in-Ok.ensures.served)
