use Rattle.std.proofs.Common.{refl}
use Rattle.dvv_set.specs.Held.{without, pairs_of as seen_in}
use Rattle.clock_list.proofs.Rows.{written_at}
use Rattle.clock_list.proofs.row.write_at.Goals as goal

pub returns : goal.returns
returns c =
    let wrote = c.write.ensures in
    written_at (without (seen_in c.args.seen)) c.args.actor c.args.value c.args.rows.now.items c.args.key c.args.i c.index_mut.result.now (record { key = c.index_mut.result.now.key; stored = c.write.new.self }) c.requires.placed c.index_mut.ensures.value refl wrote.actor wrote.clock
