use Rattle.std.proofs.Common.{◌∙◌, None, sym, ap}
use Rattle.actor_epoch.proofs.Rising.{all_go_on, all_go_on-rising, all_go_on-ends}
use Rattle.actor_epoch.proofs.context.are_rising.Goals as goal

pub returns-then-not-is_next : goal.returns-then-not-is_next
returns-then-not-is_next c =
    all_go_on-ends c.args.pairs c.loop-actor.actor-iterator _ c.loop-actor.last _ (ap (all_go_on None) (sym c.into_iter-actor-iterator.ensures.into_iter_gives) ∙ c.loop-actor.invariant) c.in-Some.ensures.steps (sym c.is_next.ensures ∙ c.if-not-is_next.true)

pub returns : goal.returns
returns c =
    let all = all_go_on-rising c.args.pairs in
    let here = ap (all_go_on c.loop-actor.last) c.in-None.ensures.steps.0 in
    cc
