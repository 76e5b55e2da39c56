use Rattle.actor_epoch.proofs.Given.{given-none, given-malformed}
use Rattle.actor_epoch.proofs.context.Context.given.Goals as goal

pub returns-then-is_empty-clause-ok : goal.returns-then-is_empty-clause-ok
returns-then-is_empty-clause-ok c = given-none c.args.bytes.now c.if-is_empty.ensures

pub returns-in-None-clause-malformed : goal.returns-in-None-clause-malformed
returns-in-None-clause-malformed c = given-malformed c.args.bytes.now c.if-is_empty.ensures c.in-None.ensures.read
