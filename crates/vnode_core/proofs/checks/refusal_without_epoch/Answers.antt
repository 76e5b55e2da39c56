use Rattle.dvv_set.specs.Held.{pairs_of as seen_in}
use Rattle.vnode_core.proofs.Rooms.{no-epoch-full, no-epoch-used}
use Rattle.vnode_core.proofs.checks.refusal_without_epoch.Goals as goal

pub returns-then-is_actors_full-clause-given : goal.returns-then-is_actors_full-clause-given
returns-then-is_actors_full-clause-given c =
    no-epoch-full c.args.id c.args.key.now.clock.meaning.known (seen_in c.args.context) c.requires.clock.pairs.within c.is_read.ensures (c.is_actors_full.ensures.full c.if-is_actors_full.true)

pub returns-clause-given : goal.returns-clause-given
returns-clause-given c =
    no-epoch-used c.args.id c.args.key.now.clock.meaning.known (seen_in c.args.context) c.requires.clock.pairs.within c.is_read.ensures (c.is_actors_full.ensures.fits c.if-is_actors_full.false)
