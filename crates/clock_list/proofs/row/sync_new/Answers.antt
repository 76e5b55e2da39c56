use Rattle.std.proofs.Common.{◌∙◌, ◌≤◌, refl, sym, ap, map, subst, List}
use Rattle.dvv_set.specs.Clocks.{sync}
use Rattle.clock_list.specs.declared.row.Row.{Row}
use Rattle.clock_list.specs.Rows.{entry_of}
use Rattle.clock_list.proofs.Rows.{changed_new, within_new, inserted}
use Rattle.clock_list.proofs.row.sync_new.Goals as goal

pub insert-requires : goal.insert-requires
insert-requires c =
    subst (λ n. c.args.i ≤ n) (sym c.args.rows.now.ok.0) (within_new c.args.rows.now.items c.args.row.key c.args.i c.requires.sorted c.requires.fits.placed)

pub returns : goal.returns
returns c =
    let wrote = c.sync.ensures in
    let put = c.insert.ensures.succeeds c.requires.fits.more in
    ap (λ (rows : List Row). map entry_of rows) (inserted _ _ _ _ put c.insert.ensures.items)
    ∙ changed_new (λ clock. sync clock c.args.other.meaning) (λ own. own) c.args.rows.now.items c.args.i c.args.row (record { key = c.args.row.key; stored = c.sync.new.self }) c.requires.sorted c.requires.fits.placed c.requires.fits.none refl wrote.actor wrote.clock
