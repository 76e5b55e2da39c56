use Rattle.std.proofs.Common.{◌+◌, ap, ◌∙◌, length, length-append, ◌∷◌, []}
use Rattle.std.specs.Prelude.{None}
use Rattle.handoff.proofs.Opened.{none_push}
use Rattle.handoff.proofs.gates.no_fallbacks.Goals as goal

pub loop-preserved : goal.loop-preserved
loop-preserved c =
    let all = c.loop.fallbacks.items in
    let grown = c.in_ok-push.ensures.items in
    (rw grown (none_push all c.loop.invariant.0), ap length grown ∙ length-append all (None ∷ []) ∙ ap (λ n. n + 1) c.loop.invariant.1)
