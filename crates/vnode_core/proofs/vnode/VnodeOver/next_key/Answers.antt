use Rattle.clock_store.specs.KeyRefs.{key_after}
use Rattle.vnode_core.specs.Vnodes.{fields, state_of}
use Rattle.vnode_core.proofs.Walking.{next-lent}
use Rattle.vnode_core.proofs.vnode.VnodeOver.next_key.Goals as goal

pub returns-clause-form : goal.returns-clause-form
returns-clause-form g c =
    let v = fields c.self.inside.id c.self.inside.epochs c.self.inside.writes c.self.inside.tombstones c.self.inside.reaps (g.S.ClockStore.shows c.self.inside.store) c.self.inside.ready c.self.inside.prepared c.self.inside.closed in
    next-lent (state_of v) c.self.invariant.sound (key_after c.args.after) c.next.result c.next.ensures
