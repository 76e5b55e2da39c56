use Rattle.dvv_set.specs.Held.{pairs_of as seen_in}
use Rattle.clock_store.specs.Keys.{stored_of}
use Rattle.vnode_core.proofs.SoleWrites.{sole-free}
use Rattle.vnode_core.proofs.sole_writer.stored_writer.Goals as goal

pub leaves_too_many-requires-clause-sole : goal.leaves_too_many-requires-clause-sole
leaves_too_many-requires-clause-sole c = c.in_ok-last.ensures

pub leaves_too_many-requires-clause-saw : goal.leaves_too_many-requires-clause-saw
leaves_too_many-requires-clause-saw c = c.in_ok-seen.ensures.alone

pub returns : goal.returns
returns c = λ state key found vnode epoch.
    let siblings = c.leaves_too_many.ensures c.if-leaves_too_many.false in
    sole-free (stored_of c.args.key.now) c.in_ok-last.last c.in_ok-last.ensures state key found c.args.id c.args.last_epoch (seen_in c.args.context) c.in_ok-seen.seen
    c.in_ok-seen.ensures siblings c.if-last.false vnode epoch
