use Rattle.std.proofs.Common.{◌∙◌, sym, ap, subst}
use Rattle.std.specs.Prelude.{Ok}
use Rattle.std.specs.Option.{option_map}
use Rattle.actor_epoch.specs.declared.Actor.{Actor}
use Rattle.actor_epoch.specs.Given.{Pairs, context_of}
use Rattle.dvv_set.specs.Held.{IsWithin, pairs_of as seen_in}
use Rattle.vnode_machine.specs.Machine.{clock_of}
use Rattle.vnode_core.specs.declared.ask.Answer.TheVariants as answers
use Rattle.vnode_machine.specs.Sound.{IsSound}
use Rattle.vnode_core.specs.Vnodes.{PlansDel}
use Rattle.vnode_core.proofs.Deleting.{within-del}
use Rattle.vnode_core.proofs.vnode.VnodeOver.make_del_ready.Goals as goal

pub reserve-requires-clause-fits : goal.reserve-requires-clause-fits
reserve-requires-clause-fits g c =
    let state = c.args.self.now.state in
    let del = c.args.del.now in
    let seen = seen_in c.as_ref-seen.result in
    let is = subst (λ w. IsSound w.state) c.self.view_is c.self.invariant.sound in
    let given = ap context_of (sym c.as_slice.ensures) ∙ c.in_ok-context.ensures.ok ∙ ap (option_map Pairs) (sym c.as_ref-seen.ensures.value) in
    let accepted = subst (λ o. PlansDel state del (Ok o)) c.in-Some.is c.in_ok-writer.ensures in
    let within = within-del state is del answers.Del accepted.0 seen given in
    subst (λ w. IsWithin (clock_of w.state del.key).known seen c.in-Some.writer.actor) (sym c.self.view_is)
    (subst (λ (actor : Actor). IsWithin (clock_of state del.key).known seen actor) (sym (ap (λ writer. writer.actor) accepted.1)) within)
