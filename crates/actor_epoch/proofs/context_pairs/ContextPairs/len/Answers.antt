use Rattle.std.proofs.Common.{sym}
use Rattle.actor_epoch.proofs.Entries.{length-entries_in}
use Rattle.actor_epoch.proofs.context_pairs.ContextPairs.len.Goals as goal

pub returns : goal.returns
returns c = rw (← c.self.view_is) (sym (length-entries_in c.self.inside.version c.self.inside.count c.self.inside.entries.now))
