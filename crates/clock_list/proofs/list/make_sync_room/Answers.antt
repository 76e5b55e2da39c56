use Rattle.clock_list.proofs.Rows.{placed, sync_fits_at, sync_fits_new}
use Rattle.clock_list.proofs.list.make_sync_room.Goals as goal

pub reserve_sync_at-requires : goal.reserve_sync_at-requires
reserve_sync_at-requires c =
    let at = placed c.args.rows.now.items _ _ _ _ c.as_slice.ensures.value c.place_of.ensures c.in-At.is in
    sync_fits_at c.args.other.now.meaning c.args.rows.now.items c.args.key.now c.in-At.i at c.requires.few

pub new_sync_row-requires : goal.new_sync_row-requires
new_sync_row-requires c =
    let at = placed c.args.rows.now.items _ _ _ _ c.as_slice.ensures.value c.place_of.ensures c.in-New.is in
    sync_fits_new c.args.other.now.meaning c.args.rows.now.items c.args.key.now c.in-New.i c.requires.sorted at c.requires.few
