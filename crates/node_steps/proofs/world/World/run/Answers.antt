use Rattle.std.proofs.Common.{refl, sym, subst, drop, ◌+◌, ◌∙◌, ap, ◌∷◌}
use Rattle.std.proofs.lemmas.List.{drop_more, drop_all}
use Rattle.node_steps.specs.Asked.{step_of}
use Rattle.node_steps.specs.Kept.{FollowsInRun, FollowsSome}
use Rattle.node_steps.proofs.RunsOn.{HasTaken, none_taken, one_taken, all_taken, some_taken}
use Rattle.riak_msgs.proofs.Walks.{OnErr-always}
use Rattle.node_steps.proofs.world.World.run.Goals as goal

pub returns-in_err-outcomes-clause-err : goal.returns-in_err-outcomes-clause-err
returns-in_err-outcomes-clause-err c =
    let old = c.args.self.now in
    let steps = c.args.steps.now in
    OnErr-always c.from_residual.result (some_taken old steps steps _ old (none_taken old steps steps refl))

pub loop-step-init : goal.loop-step-init
loop-step-init c =
    let old = c.args.self.now in
    let steps = c.args.steps.now in
    subst (λ returns. HasTaken old steps steps returns old) (sym c.in_ok-outcomes.ensures.items) (none_taken old steps steps refl)

pub returns-in_err-copy-clause-err : goal.returns-in_err-copy-clause-err
returns-in_err-copy-clause-err c =
    let old = c.args.self.now in
    let steps = c.args.steps.now in
    OnErr-always c.from_residual-in_err-copy.result
    (some_taken old steps (drop c.loop-step.step-index steps) c.loop-step.outcomes.items c.loop-step.self c.loop-step.invariant)

pub returns-in_err-outcome-clause-err : goal.returns-in_err-outcome-clause-err
returns-in_err-outcome-clause-err c =
    let old = c.args.self.now in
    let steps = c.args.steps.now in
    OnErr-always c.from_residual-in_err-outcome.result
    (subst (λ w. FollowsSome old steps w) (sym c.in_err-outcome.ensures.err)
    (some_taken old steps (drop c.loop-step.step-index steps) c.loop-step.outcomes.items c.loop-step.self c.loop-step.invariant))

pub loop-step-preserved : goal.loop-step-preserved
loop-step-preserved c =
    let old = c.args.self.now in
    let steps = c.args.steps.now in
    let i = c.loop-step.step-index in
    let rest = drop (i + 1) steps in
    let step = c.step-item.result in
    let split = drop_more steps i step c.loop-step-test.true ∙ ap (λ s. s ∷ rest) (sym c.step-item.is) in
    let had = subst (λ r. HasTaken old steps r c.loop-step.outcomes.items c.loop-step.self) split c.loop-step.invariant in
    let follows = subst (λ s. FollowsInRun c.loop-step.self (step_of s) c.in_ok-outcome.outcome c.step.new.self) c.in_ok-copy.ensures c.in_ok-outcome.ensures.schedule in
    subst (λ returns. HasTaken old steps rest returns c.step.new.self) (sym c.in-Ok.ensures.items)
    (one_taken old c.loop-step.self c.step.new.self steps rest c.loop-step.outcomes.items step c.in_ok-outcome.outcome had follows)

pub returns-in_default-clause-err : goal.returns-in_default-clause-err
returns-in_default-clause-err c =
    let old = c.args.self.now in
    let steps = c.args.steps.now in
    let i = c.loop-step.step-index in
    let rest = drop (i + 1) steps in
    let step = c.step-item.result in
    let split = drop_more steps i step c.loop-step-test.true ∙ ap (λ s. s ∷ rest) (sym c.step-item.is) in
    let had = subst (λ r. HasTaken old steps r c.loop-step.outcomes.items c.loop-step.self) split c.loop-step.invariant in
    let follows = subst (λ s. FollowsInRun c.loop-step.self (step_of s) c.in_ok-outcome.outcome c.step.new.self) c.in_ok-copy.ensures c.in_ok-outcome.ensures.schedule in
    some_taken old steps rest _ c.step.new.self
    (one_taken old c.loop-step.self c.step.new.self steps rest c.loop-step.outcomes.items step c.in_ok-outcome.outcome had follows)

pub returns-clause-ok : goal.returns-clause-ok
returns-clause-ok c =
    let steps = c.args.steps.now in
    all_taken c.args.self.now steps (drop c.loop-step.step-index steps) c.loop-step.outcomes.items c.loop-step.self c.loop-step.invariant
    (drop_all c.loop-step.step-index steps c.loop-step-test.false)
