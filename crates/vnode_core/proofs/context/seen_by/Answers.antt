use Rattle.std.proofs.Common.{sym, ap}
use Rattle.actor_epoch.specs.Given.{pairs_read}
use Rattle.actor_epoch.proofs.Given.{given-none}
use Rattle.vnode_core.proofs.Contexts.{given-form}
use Rattle.vnode_core.proofs.context.seen_by.Goals as goal

pub of_form-requires : goal.of_form-requires
of_form-requires c = given-form c.args.given.now c.if-is_empty.ensures c.requires

pub returns-then-is_empty : goal.returns-then-is_empty
returns-then-is_empty c = sym (ap pairs_read (given-none c.args.given.now c.if-is_empty.ensures))
