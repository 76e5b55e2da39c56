use Rattle.std.proofs.Common.{subst}
use Rattle.dvv_set.specs.Held.{pairs_of as seen_in}
use Rattle.vnode_core.specs.Refusals.{GivenBy}
use Rattle.clock_store.specs.Keys.{stored_of}
use Rattle.vnode_core.proofs.Rooms.{writer-checks}
use Rattle.vnode_core.proofs.checks.check_stored.Goals as goal

pub returns-clause-given : goal.returns-clause-given
returns-clause-given c = λ state key is.
    subst (GivenBy c.check_writer.result)
    (writer-checks state key c.args.id c.args.last_epoch (stored_of c.args.key.now) is (seen_in c.args.context) c.requires.form.clock.pairs.rising c.in_ok-check_siblings.ensures) c.check_writer.ensures.given
