use Rattle.std.proofs.Common.{◌∙◌, sym, ap, cond}
use Rattle.std.specs.Prelude.{None}
use Rattle.std.specs.BTreeMap.{is_at}
use Rattle.std.specs.Map.{lookup}
use Rattle.riak_msgs.specs.KeyOrder.{key_cmp}
use Rattle.vnode_machine.proofs.Keys.{key_cmp_total}
use Rattle.names.proofs.Merged.{apart_first, apart_second, set_first, set_second}
use Rattle.names.specs.ShortKeys.{is_short_key}
use Rattle.names.proofs.ShortKeys.{of_some, of_none}
use Rattle.clock_store.proofs.MergedMarks.{same_short_key}
use Rattle.clock_store.proofs.clock_map.index.DeadKeys.remove.Goals as goal

pub invariant_of-self : goal.invariant_of-self
invariant_of-self c =
    let key = of_some c.args.key.now c.in-Some.short (sym c.in-Some.is ∙ c.of.ensures) in
    apart_first key_cmp_total is_short_key same_short_key c.self.inside.short.entries c.self.inside.long.entries c.remove.new.index.entries c.in-Some.short None c.self.invariant c.remove.ensures.ordered
    (ap is_short_key key.1 ∙ key.0) c.remove.ensures.removed

pub invariant_of-self-in-None : goal.invariant_of-self-in-None
invariant_of-self-in-None c =
    apart_second key_cmp_total is_short_key same_short_key c.self.inside.short.entries c.self.inside.long.entries c.remove-in-None.new.index.entries c.args.key.now None c.self.invariant c.remove-in-None.ensures.ordered
    (of_none c.args.key.now (sym c.in-None.is ∙ c.of.ensures)) c.remove-in-None.ensures.removed

pub returns-in-Some : goal.returns-in-Some
returns-in-Some c =
    let key = of_some c.args.key.now c.in-Some.short (sym c.in-Some.is ∙ c.of.ensures) in
    rw (← c.self.view_is)
    (set_first key_cmp_total is_short_key same_short_key c.self.inside.short.entries c.self.inside.long.entries c.remove.new.index.entries c.args.key.now None c.self.invariant c.remove.ensures.ordered key.0
    (λ q. c.remove.ensures.removed q ∙ ap (λ k. cond (is_at (key_cmp k) q) None (lookup (is_at (key_cmp q)) c.self.inside.short.entries)) key.1))

pub returns-in-None : goal.returns-in-None
returns-in-None c =
    rw (← c.self.view_is)
    (set_second key_cmp_total is_short_key same_short_key c.self.inside.short.entries c.self.inside.long.entries c.remove-in-None.new.index.entries c.args.key.now None c.self.invariant c.remove-in-None.ensures.ordered
    (of_none c.args.key.now (sym c.in-None.is ∙ c.of.ensures)) c.remove-in-None.ensures.removed)
