use Rattle.std.proofs.Common.{◌≡◌, ◌∙◌, ap, subst}
use Rattle.std.specs.Prelude.{IfOk}
use Rattle.actor_epoch.specs.Contexts.{encoding}
use Rattle.actor_epoch.specs.Entries.{entries_of}
use Rattle.vnode_core.proofs.replies.context_of.Goals as goal

pub returns-in-Some : goal.returns-in-Some
returns-in-Some g c =
    subst (λ known. IfOk c.pair_context.result (λ bytes. bytes ≡ encoding known)) c.in-Some.ensures.pair c.pair_context.ensures

pub returns-in_ok-pairs-in-None : goal.returns-in_ok-pairs-in-None
returns-in_ok-pairs-in-None g c =
    subst (λ known. IfOk c.write_context.result (λ bytes. bytes ≡ encoding known)) (ap entries_of c.as_slice.ensures.value ∙ c.in_ok-pairs-in-None.ensures) c.write_context.ensures
