use Rattle.std.proofs.Common.{subst}
use Rattle.vnode_core.specs.Refusals.{GivenBy}
use Rattle.clock_store.specs.Keys.{stored_of}
use Rattle.vnode_core.proofs.Rooms.{overwrite-checks}
use Rattle.vnode_core.proofs.checks.check_overwrite.Goals as goal

pub returns-clause-given : goal.returns-clause-given
returns-clause-given c = λ state key is.
    subst (GivenBy c.check_writer.result) (overwrite-checks state key c.args.id c.args.last_epoch (stored_of c.args.key.now) is c.check_writer.ensures.clock) c.check_writer.ensures.given
