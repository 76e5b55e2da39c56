use Rattle.dvv_set.specs.Held.{pairs_of as seen_in}
use Rattle.vnode_core.specs.Checks.{pairs_in}
use Rattle.vnode_core.proofs.Rooms.{absent-full, absent-used, absent-free}
use Rattle.vnode_core.proofs.checks.check_new.Goals as goal

pub returns-then-len-ge-MAX_ACTORS-clause-given : goal.returns-then-len-ge-MAX_ACTORS-clause-given
returns-then-len-ge-MAX_ACTORS-clause-given c = λ state k new. absent-full state k c.args.id c.args.last_epoch (pairs_in (seen_in c.args.context)) new c.len.result c.len.ensures c.if-len-ge-MAX_ACTORS.true

pub returns-then-last_epoch-eq-MAX_EPOCH-clause-given : goal.returns-then-last_epoch-eq-MAX_EPOCH-clause-given
returns-then-last_epoch-eq-MAX_EPOCH-clause-given c = λ state k new.
    absent-used state k c.args.id c.args.last_epoch (pairs_in (seen_in c.args.context)) new c.len.result c.len.ensures c.if-len-ge-MAX_ACTORS.false c.if-last_epoch-eq-MAX_EPOCH.true

pub returns-clause-given : goal.returns-clause-given
returns-clause-given c = λ state k new. absent-free state k c.args.id c.args.last_epoch (pairs_in (seen_in c.args.context)) new c.len.result c.len.ensures c.if-len-ge-MAX_ACTORS.false c.if-last_epoch-eq-MAX_EPOCH.false
