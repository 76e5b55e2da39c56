use Rattle.std.proofs.Common.{◌+◌, ap, ◌∙◌, length, length-append, ◌∷◌, [], arith}
use Rattle.std.specs.Prelude.{None}
use Rattle.handoff.proofs.Opened.{none_push}
use Rattle.gate_node.proofs.passes.empty_places.Goals as goal

pub loop-preserved : goal.loop-preserved
loop-preserved c =
    let all = c.loop.places.items in
    let grown = c.in_ok-push.ensures.items in
    (rw grown (none_push all c.loop.invariant.0), ap length grown ∙ length-append all (None ∷ []) ∙ ap (λ n. n + 1) c.loop.invariant.1)

pub returns-clause-size : goal.returns-clause-size
returns-clause-size c = omega (arith, c.loop.invariant.1, c.loop-test.false, c.loop.auto.counter-end)
