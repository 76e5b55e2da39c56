use Rattle.handoff.proofs.Contexts.{shown-contexts-name}
use Rattle.handoff.proofs.laws.shown_contexts_name.Goals as goal

pub returns : goal.returns
returns c = shown-contexts-name
