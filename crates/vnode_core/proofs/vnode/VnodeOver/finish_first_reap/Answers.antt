use Rattle.std.proofs.Common.{◌≡◌, ◌∙◌, true, false, refl, sym, ap}
use Rattle.vnode_machine.specs.Dead.{has_dead}
use Rattle.vnode_machine.specs.Step.{Accepted, ReapDone}
use Rattle.sibling_register.specs.History.{Reap}
use Rattle.vnode_core.specs.declared.ask.Ask.TheVariants.{ReapFirst}
use Rattle.vnode_core.specs.Reaping.{key_given, after_first_reap}
use Rattle.vnode_core.proofs.Reaping.{found-first, some-first}
use Rattle.vnode_core.proofs.vnode.VnodeOver.finish_first_reap.Goals as goal

pub unreachable-requires : goal.unreachable-requires
unreachable-requires g c =
    let dropped = c.drop_prepared.ensures in
    let found = found-first c.args.self.now.state dropped.sound c.args.from (dropped.accepted (ReapFirst c.args.from) c.requires).1 in
    let no : false ≡ true =
    sym c.if-reap_first.false ∙ c.reap_first.ensures.found ∙ ap (λ state. has_dead state (key_given c.as_ref.result)) dropped.same
    ∙ ap (λ from. has_dead c.args.self.now.state from) c.as_ref.ensures.value ∙ found in
    cc

pub returns-then-reap_first-clause-step : goal.returns-then-reap_first-clause-step
returns-then-reap_first-clause-step g c =
    let dropped = c.drop_prepared.ensures in
    let state = c.args.self.now.state in
    let found = found-first state dropped.sound c.args.from (dropped.accepted (ReapFirst c.args.from) c.requires).1 in
    let leads = some-first state dropped.sound c.args.from found
    ∙ ap (λ next. Accepted Reap ReapDone next)
    (sym (c.reap_first.ensures.state ∙ ap (λ state. after_first_reap state (key_given c.as_ref.result)) dropped.same ∙ ap (λ from. after_first_reap state from) c.as_ref.ensures.value)) in
    ((dropped.accepted (ReapFirst c.args.from) c.requires).0, (refl, leads))
