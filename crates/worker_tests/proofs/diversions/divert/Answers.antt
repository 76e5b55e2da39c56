use Rattle.std.proofs.Common.{◌∙◌, ◌∷◌, [], refl, subst, sym}
use Rattle.handoff.specs.Partitions.{HandoffView, IsDiverted}
use Rattle.gate_node.specs.Gates.{handoff_of}
use Rattle.gate_node.proofs.Fitting.{outlive_diversion}
use Rattle.worker_tests.proofs.diversions.divert.Goals as goal

pub returns-in-Err-AlreadyDiverted-clause-passes : goal.returns-in-Err-AlreadyDiverted-clause-passes
returns-in-Err-AlreadyDiverted-clause-passes c =
    let old = c.args.shared in
    let new = c.over.result in
    let is = c.over.ensures.handoff ∙ c.in-Err-AlreadyDiverted.ensures.err in
    let diverted = subst (λ (h : HandoffView). IsDiverted c.args.index (handoff_of old) h) (sym is)
    (subst (λ (h : HandoffView). IsDiverted c.args.index h c.divert.new.self) c.into_handoff-handoff.ensures c.in-Ok.ensures.ok) in
    λ passes are. outlive_diversion c.args.index old new passes diverted are

pub returns-in-Err-AlreadyDiverted-clause-later : goal.returns-in-Err-AlreadyDiverted-clause-later
returns-in-Err-AlreadyDiverted-clause-later c =
    let old = c.args.shared in
    let new = c.over.result in
    let is = c.over.ensures.handoff ∙ c.in-Err-AlreadyDiverted.ensures.err in
    let diverted = subst (λ (h : HandoffView). IsDiverted c.args.index (handoff_of old) h) (sym is)
    (subst (λ (h : HandoffView). IsDiverted c.args.index h c.divert.new.self) c.into_handoff-handoff.ensures c.in-Ok.ensures.ok) in
    λ budget reads. (c.args.index ∷ [], (new, record { handoff = diverted; budget = c.over.ensures.budget ∙ sym budget; reads = c.over.ensures.reads ∙ sym reads }, refl))
