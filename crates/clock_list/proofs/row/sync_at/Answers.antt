use Rattle.std.proofs.Common.{refl}
use Rattle.dvv_set.specs.Clocks.{sync}
use Rattle.clock_list.proofs.Rows.{changed_at}
use Rattle.clock_list.proofs.row.sync_at.Goals as goal

pub returns : goal.returns
returns c =
    let wrote = c.sync.ensures in
    changed_at (λ clock. sync clock c.args.other.meaning) (λ own. own) c.args.rows.now.items c.args.key c.args.i c.index_mut.result.now (record { key = c.index_mut.result.now.key; stored = c.sync.new.self }) c.requires.placed c.index_mut.ensures.value refl wrote.actor wrote.clock
