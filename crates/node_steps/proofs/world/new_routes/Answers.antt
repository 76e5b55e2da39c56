use Rattle.std.proofs.Common.{◌≡◌, suc, ◌+◌, ◌++◌, [], ◌∷◌, ◌∙◌, ap, arith}
use Rattle.node_steps.specs.World.{own_sites}
use Rattle.node_steps.proofs.Opening.{more_routes}
use Rattle.node_steps.proofs.world.new_routes.Goals as goal

pub loop-index-preserved : goal.loop-index-preserved
loop-index-preserved c =
    let one : suc c.loop-index.index ≡ c.loop-index.index + 1 = omega arith in
    more_routes c.loop-index.routes.items c.push.new.self.items c.loop-index.index c.loop-index.invariant
    (c.in_ok-push.ensures.items ∙ ap (λ n. c.loop-index.routes.items ++ n ∷ []) c.from-in-loop-index.ensures) ∙ ap (λ n. own_sites 0 n) one
