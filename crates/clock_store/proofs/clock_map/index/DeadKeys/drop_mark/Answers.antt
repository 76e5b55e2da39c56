use Rattle.std.proofs.Common.{◌∙◌, sym, ap}
use Rattle.names.specs.AssocList.{get}
use Rattle.riak_msgs.specs.KeyOrder.{key_cmp}
use Rattle.clock_store.specs.Index.{without_spare}
use Rattle.clock_store.proofs.Marks.{no_spare_mark}
use Rattle.clock_store.proofs.clock_map.index.DeadKeys.drop_mark.Goals as goal
use Rattle.vnode_machine.proofs.Tests.{none-from}

pub returns-else-is_some : goal.returns-else-is_some
returns-else-is_some c = λ q.
    let was = get key_cmp c.args.self.now q in
    sym (ap (λ s. without_spare s was) (none-from c.args.spare (sym c.is_some.ensures ∙ c.if-is_some.false)) ∙ no_spare_mark was)
