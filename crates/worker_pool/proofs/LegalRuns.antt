-- The sessions of a run over histories of commands alone are the register's.
use Rattle.std.proofs.Common.{◌≡◌, ◌∙◌, ℕ, List, [], ◌∷◌, refl, sym, subst}
use Rattle.std.specs.Prelude.{Option, Result, Ok, Err, MatchResult}
use Rattle.job_pool.specs.Lists.{Pairwise}
use Rattle.node_session.specs.Streams.{SourceView, TargetView, input_of}
use Rattle.node_session.specs.Answered.{AnsweredInput}
use Rattle.node_session.specs.Session.{IsInputEnd, Stops}
use Rattle.node_session.specs.declared.ended.Ended.{Ended}
use Rattle.node_session.specs.declared.fault.SessionFault.{SessionFault}
use Rattle.node_session.proofs.Simulating.{end_like, stops_like}
use Rattle.node_session.proofs.Streaming.{given_as}
use Rattle.gate_node.specs.Gates.{Gates, AreNone}
use Rattle.gate_node.specs.GateStep.{NodeOverGates, Request, Reply}
use Rattle.gate_node.specs.OneHistory.{StepIn}
use Rattle.gate_node.specs.Plain.{AnswersAsRegister, AreOfCommands}
use Rattle.gate_node.specs.Tallies.{GateHistory}
use Rattle.gate_node.proofs.Keeping.{step-keeps}
use Rattle.gate_node.proofs.Plain.{plain_step, tallies_plain}
use Rattle.worker_pool.specs.declared.closed.Closed.{Closed}
use Rattle.worker_pool.specs.declared.job.Job.{Job}
use Rattle.worker_pool.specs.declared.job.End.{End}
use Rattle.worker_pool.specs.declared.server.ServedJob.{ServedJob}
use Rattle.worker_pool.specs.LegalJobs.{PlainRunIsLegal}
use Rattle.worker_pool.specs.JobEnds.{EndsAtEnd, EndsAtFault, EndsWell, Joins, counted_whole}

module _ (histories : List GateHistory) {I O : Type 0} (source : I → SourceView) (target : O → TargetView) (shared : Gates) (none : AreNone shared.fallbacks) (are : AreOfCommands histories) where
  abbrev In : NodeOverGates → Request → Reply → NodeOverGates → Type 0
  In = StepIn histories

  abbrev Legally : NodeOverGates → Request → Reply → NodeOverGates → Type 0
  Legally = AnswersAsRegister shared histories

  -- the same node, over these gates
  abbrev Same : NodeOverGates → NodeOverGates → Type 0
  Same s t = (t ≡ s) × (s.shared ≡ shared)

  goes : (s s' t : NodeOverGates) (request : Request) (reply : Reply) → Same s t → In s request reply s' → (t' : NodeOverGates) × Same s' t' × Legally t request reply t'
  goes s s' t request reply same step = (
    s',
    (refl, step-keeps s request reply s' step.0 ∙ same.1),
    subst (λ (node : NodeOverGates). Legally node request reply s') (sym same.0) (plain_step shared histories s request reply s' none are same.1 step),
  )

  session : (job : Job I O) (end : End I O) (before after : NodeOverGates) → before.shared ≡ shared
      → MatchResult end.result (EndsAtEnd In source target shared job end before after) (EndsAtFault In source target shared job end before after)
      → MatchResult end.result (EndsAtEnd Legally source target shared job end before after) (EndsAtFault Legally source target shared job end before after)
  session job end before after here = by end.result where
    by : (result : Result Ended SessionFault) → MatchResult result (EndsAtEnd In source target shared job end before after) (EndsAtFault In source target shared job end before after)
        → MatchResult result (EndsAtEnd Legally source target shared job end before after) (EndsAtFault Legally source target shared job end before after)
    by (Ok ended) h = (
      given_as (source job.reader) (source end.reader) shared.reads _ _ (λ noted served. (
        served.0,
        (
          (let made = end_like In Legally Same goes before after before (input_of noted) (target job.writer).contents (target end.writer).contents ended.replies ended.rest (refl, here) served.1.0 in
              subst (λ (node : NodeOverGates). AnsweredInput Legally before (input_of noted) (target job.writer).contents (target end.writer).contents ended.replies (IsInputEnd node ended.rest)) made.1.0 made.2),
          served.1.1,
        ),
      )) h.0,
      h.1,
    )
    by (Err fault) h = given_as (source job.reader) (source end.reader) shared.reads _ _ (λ noted served. (
      (let made = stops_like In Legally Same goes before after before (input_of noted) (target job.writer).contents (target end.writer).contents fault (refl, here) served.0 in
          subst (λ (node : NodeOverGates). Stops Legally before node (input_of noted) (target job.writer).contents (target end.writer).contents fault) made.1.0 made.2),
      served.1,
    )) h

  joins : (job : Job I O) (served : ServedJob I O) (before after : NodeOverGates) → Joins In source target shared job served before after → Joins Legally source target shared job served before after
  joins job served before after h =
      record {
        gates = h.gates;
        passes = h.passes;
        begins = h.begins;
        left = h.left;
        kept = h.kept;
        full = h.full;
        number = h.number;
        session = session job served.end before after h.gates h.session;
      }

  pub ends_legally : (jobs : List (Job I O)) (ends : List (End I O)) → Pairwise (EndsWell In source target shared) jobs ends → Pairwise (EndsWell Legally source target shared) jobs ends
  ends_legally [] [] h = tt
  ends_legally [] (end ∷ ends) h = absurd h
  ends_legally (job ∷ jobs) [] h = absurd h
  ends_legally (job ∷ jobs) (end ∷ ends) h = ((h.0.0, h.0.1, joins job (counted_whole end) h.0.0 h.0.1 h.0.2), ends_legally jobs ends h.1)

pub plain_run_is_legal : {I O : Type 0} (source : I → SourceView) (target : O → TargetView) (shared : Gates) (workers : ℕ) (jobs : List (Job I O)) (closed : Closed I O)
    → PlainRunIsLegal source target shared workers jobs closed
plain_run_is_legal source target shared workers jobs closed new none all h =
    let plain = tallies_plain shared h.histories closed.tallies.items new none h.of_gates h.tallies (h.counted all) in
    record {
      histories = h.histories;
      of_gates = h.of_gates;
      legal = plain.legal;
      ends = ends_legally h.histories source target shared none plain.commands jobs closed.ends.items h.ends;
      tallies = h.tallies;
    }
