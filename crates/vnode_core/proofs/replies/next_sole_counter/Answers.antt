use Rattle.std.proofs.Common.{sym, ◌∙◌}
use Rattle.actor_epoch.proofs.Order.{actor_eq-same}
use Rattle.vnode_core.proofs.Soles.{next-sole}
use Rattle.vnode_core.proofs.replies.next_sole_counter.Goals as goal

pub returns-then-matches_clock : goal.returns-then-matches_clock
returns-then-matches_clock c =
    let same = actor_eq-same c.in_ok-only.only c.args.actor (sym c.eq.ensures ∙ c.if-eq.true) in
    next-sole _ c.args.actor c.in_ok-only.only c.in_ok-only.counter c.checked_add.result c.args.context.now c.args.key.now.clock.meaning
    c.only_pair.ensures.clock c.in_ok-only.ensures.pair same (sym c.matches_clock.ensures ∙ c.if-matches_clock.true) c.checked_add.ensures
