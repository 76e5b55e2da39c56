use Rattle.std.proofs.Common.{◌∙◌, ◌≤◌, refl, sym, ap, map, subst, List}
use Rattle.clock_list.specs.declared.row.Row.{Row}
use Rattle.clock_list.specs.Rows.{entry_of}
use Rattle.dvv_set.specs.Held.{without, pairs_of as seen_in}
use Rattle.clock_list.proofs.Rows.{written_new, within_new, inserted}
use Rattle.clock_list.proofs.row.write_new.Goals as goal

pub insert-requires : goal.insert-requires
insert-requires c =
    subst (λ n. c.args.i ≤ n) (sym c.args.rows.now.ok.0) (within_new c.args.rows.now.items c.args.row.key c.args.i c.requires.sorted c.requires.fits.placed)

pub returns : goal.returns
returns c =
    let wrote = c.write.ensures in
    let put = c.insert.ensures.succeeds c.requires.fits.more in
    ap (λ (rows : List Row). map entry_of rows) (inserted _ _ _ _ put c.insert.ensures.items)
    ∙ written_new (without (seen_in c.args.seen)) c.args.actor c.args.value c.args.rows.now.items c.args.i c.args.row (record { key = c.args.row.key; stored = c.write.new.self }) c.requires.sorted c.requires.fits.placed c.requires.fits.none refl wrote.actor wrote.clock
