use Rattle.std.proofs.Common.{◌≡◌, ◌∙◌, sym, ap, map, subst}
use Rattle.std.specs.Prelude.{Some, None}
use Rattle.clock_store.specs.Contents.{HasWriteRoom, kind_of}
use Rattle.clock_store.specs.Keys.{overwritten}
use Rattle.clock_list.specs.declared.list.Room.TheVariants.{New}
use Rattle.clock_list.specs.Rows.{entry_of, contents_in, IsRowRoom}
use Rattle.clock_list.proofs.Rows.{list_after, found_none, found-new, overwritten_new}
use Rattle.clock_list.proofs.list.ClockListClockStore.overwrite.Goals as goal

pub invariant_of-self : goal.invariant_of-self
invariant_of-self c = list_after c.overwrite_at.new.rows c.take.new.self (map entry_of c.self.inside.rows.items) c.args.key _ c.take.ensures.after c.overwrite_at.ensures c.self.invariant.sorted

pub invariant_of-self-in-New-take-2 : goal.invariant_of-self-in-New-take-2
invariant_of-self-in-New-take-2 c = list_after c.write_new.new.rows c.take.new.self (map entry_of c.self.inside.rows.items) c.in-Some-New.row.key _ c.take.ensures.after c.write_new.ensures c.self.invariant.sorted

pub returns-in-Some-New-clause-keys : goal.returns-in-Some-New-clause-keys
returns-in-Some-New-clause-keys c =
    let items = c.self.inside.rows.items in
    let row = c.in-Some-New.row in
    let is : c.self.inside.room ≡ Some (New c.in-Some-New.i row) = sym c.take.ensures.value ∙ c.in-Some-New.is ∙ ap Some c.in-Some-New.field-0-is in
    let fits = subst (IsRowRoom c.self.inside.rows) is c.self.invariant.room in
    let none = sym (found_none items row.key c.in-Some-New.i c.self.invariant.sorted fits.placed) in
    let room : HasWriteRoom (contents_in items (Some (New c.in-Some-New.i row))) c.args.key None c.args.actor (kind_of c.args.value) =
    subst (λ o. HasWriteRoom (contents_in items o) c.args.key None c.args.actor (kind_of c.args.value)) is (subst (λ w. HasWriteRoom w c.args.key None c.args.actor (kind_of c.args.value)) (sym c.self.view_is) c.requires) in
    let same = (found-new items c.args.key None c.args.actor (kind_of c.args.value) c.in-Some-New.i row room).1 in
    c.write_new.ensures ∙ overwritten_new (map entry_of items) row.key c.args.actor c.args.value none
    ∙ ap (λ key. overwritten (map entry_of items) key c.args.actor c.args.value) same
    ∙ ap (λ list. overwritten list.keys c.args.key c.args.actor c.args.value) c.self.view_is
