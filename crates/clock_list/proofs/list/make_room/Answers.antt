use Rattle.std.proofs.Common.{refl}
use Rattle.clock_store.specs.Keys.{empty}
use Rattle.clock_list.proofs.Rows.{placed, fits_at, fits_new}
use Rattle.clock_list.proofs.list.make_room.Goals as goal

pub reserve_at-requires : goal.reserve_at-requires
reserve_at-requires c =
    let at = placed c.args.rows.now.items _ _ _ _ c.as_slice.ensures.value c.place_of.ensures c.in-At.is in
    fits_at _ c.args.actor c.args.rows.now.items c.args.key.now c.in-At.i at c.requires.fits

pub new_row-requires : goal.new_row-requires
new_row-requires c =
    let at = placed c.args.rows.now.items _ _ _ _ c.as_slice.ensures.value c.place_of.ensures c.in-New.is in
    fits_new _ c.args.actor c.args.rows.now.items c.args.key.now c.in-New.i empty c.requires.sorted at refl c.requires.fits
