use Rattle.std.proofs.Common.{refl}
use Rattle.dvv_set.specs.Clocks.{discard}
use Rattle.clock_list.proofs.Rows.{written_at}
use Rattle.clock_list.proofs.row.overwrite_at.Goals as goal

pub returns : goal.returns
returns c =
    let wrote = c.overwrite.ensures in
    written_at (λ m. discard m.known m) c.args.actor c.args.value c.args.rows.now.items c.args.key c.args.i c.index_mut.result.now (record { key = c.index_mut.result.now.key; stored = c.overwrite.new.self }) c.requires.placed c.index_mut.ensures.value refl wrote.actor wrote.clock
