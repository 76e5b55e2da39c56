use Rattle.std.proofs.Common.{sym, subst}
use Rattle.std.specs.Prelude.{Option, Some}
use Rattle.clock_store.specs.Keys.{Keys}
use Rattle.riak_msgs.specs.declared.Key.{Key}
use Rattle.vnode_core.specs.Left.{keys_behind}
use Rattle.vnode_core.proofs.Lefts.{behind-none}
use Rattle.handoff.specs.Left.{FindsLeft, GoesOnInRest}
use Rattle.handoff.specs.declared.left.Found.{Found}
use Rattle.handoff.proofs.Lefts.{first-found, goes-on, goes-through}
use Rattle.handoff.proofs.left.first_left.Goals as goal

pub loop-at-init : goal.loop-at-init
loop-at-init c =
    let fallback = c.args.fallback.now.state in
    subst (λ (keys : Keys). GoesOnInRest c.args.primary.now.state fallback.keys keys) (sym (behind-none fallback)) (goes-on c.args.primary.now.state fallback.keys)

pub returns-in-End-clause-none : goal.returns-in-End-clause-none
returns-in-End-clause-none c =
    let primary = c.args.primary.now.state in
    let fallback = c.args.fallback.now.state in
    let finds = subst (λ (after : Option Key). FindsLeft primary fallback after c.in_ok-next_left.field-0) c.as_ref.ensures.value c.in_ok-next_left.ensures in
    c.loop-at.invariant.copied (subst (λ (found : Found). FindsLeft primary fallback c.loop-at.at found) c.in-End.is finds)

pub returns-in-Next-clause-some : goal.returns-in-Next-clause-some
returns-in-Next-clause-some c =
    let primary = c.args.primary.now.state in
    let fallback = c.args.fallback.now.state in
    let finds = subst (λ (after : Option Key). FindsLeft primary fallback after c.in_ok-next_left.field-0) c.as_ref.ensures.value c.in_ok-next_left.ensures in
    first-found primary fallback c.loop-at.at c.in-Next.left c.loop-at.invariant (subst (λ (found : Found). FindsLeft primary fallback c.loop-at.at found) c.in-Next.is finds)

pub loop-at-smaller : goal.loop-at-smaller
loop-at-smaller c =
    let primary = c.args.primary.now.state in
    let fallback = c.args.fallback.now.state in
    let finds = subst (λ (after : Option Key). FindsLeft primary fallback after c.in_ok-next_left.field-0) c.as_ref.ensures.value c.in_ok-next_left.ensures in
    (subst (λ (found : Found). FindsLeft primary fallback c.loop-at.at found) c.in-Passed.is finds).1

pub loop-at-preserved : goal.loop-at-preserved
loop-at-preserved c =
    let primary = c.args.primary.now.state in
    let fallback = c.args.fallback.now.state in
    let finds = subst (λ (after : Option Key). FindsLeft primary fallback after c.in_ok-next_left.field-0) c.as_ref.ensures.value c.in_ok-next_left.ensures in
    goes-through primary fallback.keys (keys_behind c.loop-at.at fallback) (keys_behind (Some c.in-Passed.key) fallback) c.loop-at.invariant
    (subst (λ (found : Found). FindsLeft primary fallback c.loop-at.at found) c.in-Passed.is finds).0
