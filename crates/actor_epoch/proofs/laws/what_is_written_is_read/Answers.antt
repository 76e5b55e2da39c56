use Rattle.actor_epoch.proofs.Given.{context_of-encoding, context_of-encoding_as, reads_no_others, context_of-none}
use Rattle.actor_epoch.proofs.laws.what_is_written_is_read.Goals as goal

pub returns-clause-back : goal.returns-clause-back
returns-clause-back c = context_of-encoding

pub returns-clause-versions : goal.returns-clause-versions
returns-clause-versions c = context_of-encoding_as

pub returns-clause-no_others : goal.returns-clause-no_others
returns-clause-no_others c = reads_no_others

pub returns-clause-none : goal.returns-clause-none
returns-clause-none c = context_of-none
