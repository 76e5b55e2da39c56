use Rattle.std.proofs.Common.{[], refl, ◌∙◌, ap, map}
use Rattle.std.specs.Global.{Vec}
use Rattle.std.specs.Prelude.{slice_set}
use Rattle.node_steps.specs.declared.phase.Phase.{Phase as RunPhase}
use Rattle.node_steps.specs.Running.{worker_of}
use Rattle.node_steps.proofs.Finding.{stands}
use Rattle.node_steps.proofs.Mapped.{set-set}
use Rattle.node_steps.proofs.Stepping.{phase_back}
use Rattle.node_steps.proofs.parts.Parts.turn_at.Goals as goal

pub returns-in-Ok-clause-ok : goal.returns-in-Ok-clause-ok
returns-in-Ok-clause-ok c =
    let workers = c.args.self.now.workers.items in
    record {
      phase = c.replace-phase.result;
      next = c.in-Ok.next;
      here = stands workers workers c.args.place c.replace-phase.result refl c.requires.worker cc;
      workers_are = ap (λ (v : Vec RunPhase). slice_set v.items c.args.place c.set_phase.new.place) c.move_on.ensures.workers
          ∙ set-set workers c.args.place c.replace-phase.new.dest c.set_phase.new.place
          ∙ ap (λ p. slice_set workers c.args.place p) c.set_phase.ensures;
      moves = c.in-Ok.ensures.ok;
    }

pub returns-in-Err-clause-err : goal.returns-in-Err-clause-err
returns-in-Err-clause-err c =
    let workers = c.args.self.now.workers.items in
    let same = c.in-Err.ensures.err.1 in
    let here = stands workers workers c.args.place c.replace-phase.result refl c.requires.worker cc in
    let phases = ap (λ (v : Vec RunPhase). map worker_of (slice_set v.items c.args.place c.set_phase-in-Err.new.place)) c.move_on.ensures.workers
    ∙ ap (λ ws. map worker_of ws) (set-set workers c.args.place c.replace-phase.new.dest c.set_phase-in-Err.new.place
    ∙ ap (λ p. slice_set workers c.args.place p) c.set_phase-in-Err.ensures)
    ∙ phase_back workers c.args.place c.replace-phase.result c.in-Err.phase here c.in-Err.ensures.err.0 in
    λ i. record { vnodes = (same i).vnodes; routes = (same i).routes; epochs = (same i).epochs; diversions = []; workers = phases i }
