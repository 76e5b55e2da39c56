use Rattle.std.proofs.Common.{subst, sym}
use Rattle.std.specs.Prelude.{slice_set}
use Rattle.node_steps.specs.declared.outcome.Outcome.TheVariants.{Done}
use Rattle.node_steps.specs.Asked.{asking_step}
use Rattle.node_steps.specs.Parts.{TakesRunStep, world_in}
use Rattle.node_steps.specs.Running.{ask_of, world_of}
use Rattle.node_steps.proofs.Asking.{not_asked, asked}
use Rattle.node_steps.proofs.Stepping.{not_possible}
use Rattle.node_steps.proofs.parts.Parts.give.Goals as goal
use Rattle.node_steps.proofs.Lists.{found_below}

pub returns-in_default : goal.returns-in_default
returns-in_default c =
    subst (λ returns. TakesRunStep (world_in c.args.self.now) (asking_step c.args.worker c.args.index (ask_of c.args.call)) returns (world_in c.args.self.now))
    (sym c.refuse.ensures)
    (not_asked c.args.self.now.sites.items c.args.self.now.routes.items c.args.self.now.epochs.items c.args.self.now.workers.items c.args.worker c.args.index (ask_of c.args.call) c.in_default.ensures)

pub returns-in_default-site_for : goal.returns-in_default-site_for
returns-in_default-site_for c =
    subst (λ returns. TakesRunStep (world_in c.args.self.now) (asking_step c.args.worker c.args.index (ask_of c.args.call)) returns (world_in c.args.self.now))
    (sym c.refuse-in_default-site_for.ensures)
    (not_possible c.args.self.now.sites.items c.args.self.now.routes.items c.args.self.now.epochs.items c.args.self.now.workers.items (asking_step c.args.worker c.args.index (ask_of c.args.call))
    (c.in_default-site_for.ensures c.args.worker))

pub returns : goal.returns
returns c =
    let there = found_below c.args.self.now.sites.items c.in-Some-site_for.site c.in-Some-site_for.ensures.1 in
    subst (λ phase. TakesRunStep (world_in c.args.self.now) (asking_step c.args.worker c.args.index (ask_of c.args.call)) Done
    (world_of c.args.self.now.sites.items c.args.self.now.routes.items c.args.self.now.epochs.items (slice_set c.args.self.now.workers.items c.in-Some.place phase)))
    (sym c.set_phase.ensures)
    (asked c.args.self.now.sites.items c.args.self.now.routes.items c.args.self.now.epochs.items c.args.self.now.workers.items c.args.worker c.in-Some.place c.in-Some.ensures.0 c.in-Some.ensures.1
    c.args.index c.in-Some-site_for.site c.args.call there.0 c.in-Some-site_for.ensures.0 there.1)
