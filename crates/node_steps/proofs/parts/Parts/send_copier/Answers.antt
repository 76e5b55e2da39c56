use Rattle.std.proofs.Common.{inl, inr, subst, sym, ◌<◌, length, arith}
use Rattle.std.specs.Prelude.{slice_set}
use Rattle.node_steps.specs.declared.outcome.Outcome.TheVariants.{Done}
use Rattle.node_steps.specs.declared.phase.Phase.TheVariants.{Idle, Copying}
use Rattle.node_steps.specs.declared.stage.Stage.TheVariants.{Asked}
use Rattle.node_steps.specs.Asked.{copying_step}
use Rattle.node_steps.specs.Parts.{TakesRunStep, world_in}
use Rattle.node_steps.specs.Running.{world_of}
use Rattle.node_steps.proofs.CopyAsking.{not_sent, is_sent}
use Rattle.node_steps.proofs.Lists.{get-below, found_below}
use Rattle.node_steps.proofs.Stepping.{not_possible}
use Rattle.node_steps.proofs.parts.Parts.send_copier.Goals as goal

pub returns-in_default : goal.returns-in_default
returns-in_default c = elim c.in_default.ensures [
  | inl busy ↦ not_sent c.args.self.now.sites.items c.args.self.now.routes.items c.args.self.now.epochs.items c.args.self.now.workers.items c.args.worker c.args.index c.args.key.value busy
  | inr none ↦
      not_possible c.args.self.now.sites.items c.args.self.now.routes.items c.args.self.now.epochs.items c.args.self.now.workers.items
      (copying_step c.args.worker c.args.index c.args.key.value) (none.copies c.args.worker c.args.key.value)
]

pub index_mut-requires : goal.index_mut-requires
index_mut-requires c =
    let below : c.in-Some.place < length c.args.self.now.workers.items = get-below c.args.self.now.workers.items c.in-Some.place Idle c.in-Some.ensures.0.1 in
    omega (arith, below)

pub returns : goal.returns
returns c =
    let fallback = c.in-Some.ensures.1 in
    let there = found_below c.args.self.now.sites.items c.in-Some.site fallback.there in
    subst (λ phase. TakesRunStep (world_in c.args.self.now) (copying_step c.args.worker c.args.index c.args.key.value) Done
    (world_of c.args.self.now.sites.items c.args.self.now.routes.items c.args.self.now.epochs.items (slice_set c.args.self.now.workers.items c.in-Some.place phase)))
    (sym c.set_phase.ensures)
    (subst (λ own. TakesRunStep (world_in c.args.self.now) (copying_step c.args.worker c.args.index c.args.key.value) Done
    (world_of c.args.self.now.sites.items c.args.self.now.routes.items c.args.self.now.epochs.items
    (slice_set c.args.self.now.workers.items c.in-Some.place (Copying own c.in-Some.site c.args.key Asked)))) (sym c.from-own.ensures)
    (is_sent c.args.self.now.sites.items c.args.self.now.routes.items c.args.self.now.epochs.items c.args.self.now.workers.items c.args.worker c.in-Some.place
    c.in-Some.ensures.0.0 c.in-Some.ensures.0.1 c.args.index c.in-Some.site c.args.key there.0 (fallback.copies c.args.key.value) there.1))
