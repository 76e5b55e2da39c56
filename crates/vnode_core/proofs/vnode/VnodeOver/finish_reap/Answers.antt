use Rattle.std.proofs.Common.{◌∙◌, ap}
use Rattle.vnode_core.specs.declared.ask.Ask.TheVariants.{Reap}
use Rattle.vnode_core.specs.Reaping.{reap_result, after_reap}
use Rattle.vnode_core.proofs.Sound.{registers-step}
use Rattle.vnode_core.proofs.Reaping.{steps-reap}
use Rattle.vnode_core.proofs.vnode.VnodeOver.finish_reap.Goals as goal

pub returns-clause-step : goal.returns-clause-step
returns-clause-step g c =
    let dropped = c.drop_prepared.ensures in
    let reap = c.reap-reaped in
    steps-reap c.args.self.now.state c.args.key reap.result reap.new.self.state (dropped.accepted (Reap c.args.key) c.requires)
    (reap.ensures.exact ∙ ap (λ state. reap_result state c.args.key) dropped.same) (reap.ensures.state ∙ ap (λ state. after_reap state c.args.key) dropped.same)

pub returns-clause-register : goal.returns-clause-register
returns-clause-register g c =
    let dropped = c.drop_prepared.ensures in
    let reap = c.reap-reaped in
    let step = steps-reap c.args.self.now.state c.args.key reap.result reap.new.self.state (dropped.accepted (Reap c.args.key) c.requires)
    (reap.ensures.exact ∙ ap (λ state. reap_result state c.args.key) dropped.same) (reap.ensures.state ∙ ap (λ state. after_reap state c.args.key) dropped.same) in
    registers-step c.args.self.now.state dropped.sound (Reap c.args.key) _ _ step
