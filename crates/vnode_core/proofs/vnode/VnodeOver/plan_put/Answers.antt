use Rattle.std.proofs.Common.{◌∙◌, sym, ap, subst}
use Rattle.std.specs.Prelude.{Some}
use Rattle.riak_msgs.specs.Contents.{Content}
use Rattle.dvv_set.specs.Clocks.{event}
use Rattle.actor_epoch.specs.declared.Actor.{Actor}
use Rattle.actor_epoch.specs.Contexts.{is_well_formed}
use Rattle.dvv_set.specs.Held.{IsWithin, known_after, known_with, without, pairs_of as seen_in}
use Rattle.vnode_machine.specs.Machine.{State, clock_of}
use Rattle.vnode_core.specs.Replies.{clock_found, reply_after}
use Rattle.vnode_core.specs.declared.ask.Answer.TheVariants as answers
use Rattle.vnode_core.specs.declared.checks.Writer.{Writer}
use Rattle.vnode_core.proofs.Putting.{within-put, form-after, reply-put}
use Rattle.vnode_core.proofs.vnode.VnodeOver.plan_put.Goals as goal

pub lay_answer-requires : goal.lay_answer-requires
lay_answer-requires g c =
    let put = c.args.put.now in
    let state : State Content = c.args.self.now.state in
    let seen = seen_in c.args.context in
    let is = c.in_ok-writer.ensures.sound in
    let found = c.requires.found in
    let own = ap (λ (w : Writer). w.actor) c.in_ok-writer.ensures.writer in
    record {
      within =
          subst (λ o. IsWithin (clock_found o).known seen c.in_ok-writer.writer.actor) (sym found)
          (subst (λ (actor : Actor). IsWithin (clock_of state put.key).known seen actor) (sym own)
          (within-put state is put c.in_ok-writer.ensures.given seen c.requires.given));
      form =
          (λ i. is_well_formed (known_after (own i) (known_with seen (clock_found (found i)).known)))
          ∙ form-after state is put c.in_ok-writer.ensures.given seen c.requires.given;
    }

pub returns-clause-ok : goal.returns-clause-ok
returns-clause-ok g c =
    let put = c.args.put.now in
    let state : State Content = c.args.self.now.state in
    let seen = seen_in c.args.context in
    let is = c.in_ok-writer.ensures.sound in
    let found = c.requires.found in
    let own = ap (λ (w : Writer). w.actor) c.in_ok-writer.ensures.writer in
    let reply = (λ i. reply_after (event (own i) (Some put.content) (without seen (clock_found (found i)))) put)
    ∙ reply-put state is put c.in_ok-writer.ensures.given seen c.requires.given in
    record { free = c.in_ok-writer.ensures.given; writer = c.in_ok-writer.ensures.writer; answer = c.in_ok-answer.ensures ∙ ap answers.Put reply }
