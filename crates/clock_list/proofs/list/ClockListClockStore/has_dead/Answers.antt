use Rattle.std.proofs.Common.{◌∙◌, ap, map, refl}
use Rattle.vnode_machine.specs.Dead.{has_dead}
use Rattle.clock_store.specs.Forgetting.{holding, key_given}
use Rattle.clock_list.specs.Rows.{entry_of}
use Rattle.clock_list.proofs.DeadRows.{placed_dead, has_dead_at}
use Rattle.clock_list.proofs.list.ClockListClockStore.has_dead.Goals as goal

pub returns : goal.returns
returns c =
    let from = key_given c.args.from in
    let at = placed_dead c.self.inside.rows.items c.as_slice.result.now from c.first_dead.result c.first_dead.result c.as_slice.ensures.value c.first_dead.ensures refl in
    c.is_some.ensures ∙ has_dead_at (map entry_of c.self.inside.rows.items) c.self.invariant.sorted from c.first_dead.result at
    ∙ ap (λ list. has_dead (holding list.keys) from) c.self.view_is
