use Rattle.std.proofs.Common.{◌≡◌, ◌||◌, true, ◌∙◌, refl, sym, ap, arith}
use Rattle.std.specs.Prelude.{Some}
use Rattle.std.specs.Option.{option_map}
use Rattle.actor_epoch.specs.Contexts.{is_well_formed}
use Rattle.dvv_set.specs.Held.{pairs_of as seen_in}
use Rattle.vnode_core.specs.Replies.{clock_found}
use Rattle.clock_store.specs.Keys.{stored_of}
use Rattle.vnode_core.proofs.Previews.{known-event, reply-is}
use Rattle.vnode_core.proofs.replies.put_reply.Goals as goal

pub context_of-requires : goal.context_of-requires
context_of-requires c =
    let content = c.args.put.now.content in
    let clock = clock_found (option_map (λ s. stored_of s.now) c.args.found) in
    (omega arith, ap is_well_formed (ap (λ m. m.known) (c.in_ok-after.ensures content) ∙ known-event c.args.actor (Some content) (seen_in c.args.context) clock) ∙ c.requires.form)

pub returns : goal.returns
returns c =
    let content = c.args.put.now.content in
    let clock = clock_found (option_map (λ s. stored_of s.now) c.args.found) in
    let shows : (c.args.put.now.return_body || c.args.put.now.return_head) ≡ true = sym c.shows_siblings.ensures ∙ c.if-not-shows_siblings.false in
    reply-is content c.args.put.now refl (seen_in c.args.context) c.args.actor clock c.in_ok-after.after.meaning (c.in_ok-after.ensures content) shows
    c.in_ok-contents.contents c.in_ok-context.context c.in_ok-contents.ensures c.in_ok-context.ensures
