use Rattle.std.proofs.Common.{◌≡◌, suc, ◌+◌, ◌*◌, map, ◌∙◌, ap, arith}
use Rattle.node_steps.specs.World.{fresh_vnode, opening_vnodes}
use Rattle.node_steps.specs.Erased.{erase_vnode}
use Rattle.node_steps.specs.Running.{vnode_of}
use Rattle.node_steps.proofs.Opening.{more_sites}
use Rattle.node_steps.proofs.world.new_sites.Goals as goal

pub loop-index-preserved : goal.loop-index-preserved
loop-index-preserved c =
    let run = c.from-in-loop-index.ensures in
    let index = c.from-in-loop-index-2.ensures in
    let own = c.from-in-loop-index-3.ensures in
    let one : suc c.loop-index.index ≡ c.loop-index.index + 1 = omega arith in
    ap (λ sites. map vnode_of sites) c.in_ok-push.ensures.items
    ∙ more_sites c.loop-index.sites.items c.in_ok-site.site c.args.run c.loop-index.index c.loop-index.invariant
    (c.in_ok-site.ensures ∙ (λ i. erase_vnode (fresh_vnode (run i * 65536 + index i) (own i) 0)))
    ∙ ap (λ n. map erase_vnode (opening_vnodes c.args.run 0 n)) one
