use Rattle.std.proofs.Common.{refl}
use Rattle.node_commands.specs.declared.controlled.Controlled.{Controlled}
use Rattle.node_commands.proofs.Concluded.{is_controlled}
use Rattle.node_commands.proofs.controlled.conclude.Goals as goal

pub tallies-requires : goal.tallies-requires
tallies-requires g c = c.requires.serves.ready.passes

pub returns-in-Ok-clause-controlled : goal.returns-in-Ok-clause-controlled
returns-in-Ok-clause-controlled g c =
    let last = c.args.paused.now in
    let outcome : Controlled = record { totals = last.progress.totals; tallies = c.in-Ok.tallies; connections = last.progress.connections; closed = last.progress.closed; tracks = c.args.tracks; wrote_totals = c.args.wrote_totals } in
    is_controlled c.args.settings.now last outcome c.requires.serves c.requires.none_rests c.in-Ok.ensures refl refl refl c.requires.tracks
