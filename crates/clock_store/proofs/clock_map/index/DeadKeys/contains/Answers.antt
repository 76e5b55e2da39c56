use Rattle.std.proofs.Common.{◌∙◌, sym, ap}
use Rattle.std.specs.Prelude.{is_some}
use Rattle.std.specs.BTreeMap.{is_at}
use Rattle.std.specs.Map.{lookup}
use Rattle.riak_msgs.specs.KeyOrder.{key_cmp}
use Rattle.vnode_machine.proofs.Keys.{key_cmp_total}
use Rattle.names.proofs.Merged.{found_first, found_second}
use Rattle.names.specs.ShortKeys.{is_short_key}
use Rattle.names.proofs.ShortKeys.{of_some, of_none}
use Rattle.clock_store.proofs.MergedMarks.{same_short_key}
use Rattle.clock_store.proofs.clock_map.index.DeadKeys.contains.Goals as goal

pub returns-in-Some : goal.returns-in-Some
returns-in-Some c =
    let key = of_some c.args.key.now c.in-Some.short (sym c.in-Some.is ∙ c.of.ensures) in
    rw (← c.self.view_is)
    (c.contains_key.ensures ∙ ap (λ k. is_some (lookup (is_at (key_cmp k)) c.self.inside.short.entries)) key.1
    ∙ ap is_some (sym (found_first key_cmp_total is_short_key same_short_key c.self.inside.short.entries c.self.inside.long.entries c.self.invariant c.args.key.now key.0)))

pub returns-in-None : goal.returns-in-None
returns-in-None c =
    rw (← c.self.view_is)
    (c.contains_key-in-None.ensures
    ∙ ap is_some (sym (found_second key_cmp_total is_short_key same_short_key c.self.inside.short.entries c.self.inside.long.entries c.self.invariant c.args.key.now (of_none c.args.key.now (sym c.in-None.is ∙ c.of.ensures)))))
