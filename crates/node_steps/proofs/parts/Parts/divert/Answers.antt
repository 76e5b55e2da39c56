use Rattle.std.proofs.Common.{◌≡◌, ◌∙◌, length, refl, ap, subst, arith}
use Rattle.std.specs.Prelude.{slice_set, None}
use Rattle.std.specs.Vec.{with_item}
use Rattle.node_steps.specs.declared.parts.Parts.{Parts}
use Rattle.node_steps.specs.World.{fresh_vnode}
use Rattle.node_steps.specs.Erased.{erase_vnode}
use Rattle.node_steps.specs.Steps.{diverted}
use Rattle.node_steps.specs.Parts.{AreFit, DivertsTo, world_in}
use Rattle.node_steps.proofs.Fallbacks.{not_diverted, is_diverted}
use Rattle.node_steps.proofs.parts.Parts.divert.Goals as goal

pub returns-in_default-clause-ok : goal.returns-in_default-clause-ok
returns-in_default-clause-ok c = λ fit.
    not_diverted c.args.self.now c.args.index (subst (λ n. diverted (world_in c.args.self.now) n ≡ None) c.from-own.ensures (c.in_default.ensures fit)) fit

pub returns-clause-ok : goal.returns-clause-ok
returns-clause-ok c =
    let parts = c.args.self.now in
    let place : c.len-site.result ≡ length parts.sites.items = omega (arith, c.len-site.ensures) in
    let new : Parts = record { sites = c.push.new.self; routes = with_item parts.routes c.from-own.result c.len-site.result; epochs = parts.epochs; workers = parts.workers } in
    is_diverted parts c.args.index new c.in-Some.id c.in-Some.epoch c.in_ok-fallback.fallback
    (subst (λ n. AreFit parts → DivertsTo (world_in parts) n c.in-Some.id c.in-Some.epoch) c.from-own.ensures c.in-Some.ensures.1)
    (c.in_ok-fallback.ensures ∙ ap (λ n. erase_vnode (fresh_vnode c.in-Some.id n c.in-Some.epoch)) c.from-own.ensures) c.in-Ok.ensures.items
    (λ i. slice_set parts.routes.items (c.from-own.ensures i) (place i)) refl refl
