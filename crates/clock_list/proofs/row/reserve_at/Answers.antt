use Rattle.std.proofs.Common.{ap}
use Rattle.std.proofs.lemmas.Option.{slice_get_within}
use Rattle.std.proofs.lemmas.Result.{on_ok_weaker}
use Rattle.clock_list.proofs.Rows.{entries_same, ready_at}
use Rattle.clock_list.proofs.row.reserve_at.Goals as goal

pub returns-clause-same : goal.returns-clause-same
returns-clause-same c = entries_same c.args.rows.now.items c.args.i c.index_mut.result.now (record { key = c.index_mut.result.now.key; stored = c.reserve.new.self }) c.index_mut.ensures.value (ap (λ s. (c.index_mut.result.now.key, s)) c.reserve.ensures.same)

pub returns-clause-ok : goal.returns-clause-ok
returns-clause-ok c =
    let items = c.args.rows.now.items in
    let within = slice_get_within items c.args.i c.requires.row c.requires.get in
    on_ok_weaker c.reserve.result (ready_at _ _ items c.args.i (record { key = c.index_mut.result.now.key; stored = c.reserve.new.self }) within) c.reserve.ensures.ok
