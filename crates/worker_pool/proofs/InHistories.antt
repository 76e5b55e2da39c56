-- A session whose last node has seen beginnings of some histories has seen beginnings of them all along.
use Rattle.std.proofs.Common.{ℕ, List, [], ◌∷◌, sym, subst}
use Rattle.std.proofs.lemmas.List.Elements.{All-head, All-tail}
use Rattle.std.specs.Prelude.{Option, Result, Ok, Err, MatchResult}
use Rattle.std.specs.List.{All, AllZip}
use Rattle.job_pool.specs.Lists.{Pairwise}
use Rattle.node_session.specs.Streams.{SourceView, TargetView, input_of}
use Rattle.node_session.specs.declared.ended.Ended.{Ended}
use Rattle.node_session.specs.declared.fault.SessionFault.{SessionFault}
use Rattle.node_session.proofs.HandingBack.{end_in, stops_in}
use Rattle.node_session.proofs.Streaming.{given_as}
use Rattle.gate_node.specs.Gates.{Gates}
use Rattle.gate_node.specs.GateStep.{NodeOverGates, GateNodeStep, Request, Reply}
use Rattle.gate_node.specs.Passes.{Sights}
use Rattle.gate_node.specs.Tallies.{GateHistory}
use Rattle.gate_node.specs.OneHistory.{IsSeen, StepIn}
use Rattle.gate_node.proofs.InHistories.{AreSeen, seen_before_step}
use Rattle.worker_pool.specs.declared.job.Job.{Job}
use Rattle.worker_pool.specs.declared.job.End.{End}
use Rattle.worker_pool.specs.declared.server.ServedJob.{ServedJob}
use Rattle.worker_pool.specs.JobEnds.{EndsAtEnd, EndsAtFault, EndsWell, Joins, counted_whole}

module _ (histories : List GateHistory) {I O : Type 0} (source : I → SourceView) (target : O → TargetView) (shared : Gates) where
  abbrev In : NodeOverGates → Request → Reply → NodeOverGates → Type 0
  In = StepIn histories

  -- what a session's passes of the primaries had seen in the end are beginnings of the histories
  abbrev SawThese : End I O → Type 0
  SawThese end = AllZip IsSeen histories end.passes.primaries

  session_in : (job : Job I O) (end : End I O) (before after : NodeOverGates) → AreSeen histories after → MatchResult end.result (EndsAtEnd GateNodeStep source target shared job end before after) (EndsAtFault GateNodeStep source target shared job end before after)
      → MatchResult end.result (EndsAtEnd In source target shared job end before after) (EndsAtFault In source target shared job end before after)
  session_in job end before after seen = by end.result where
    by : (result : Result Ended SessionFault) → MatchResult result (EndsAtEnd GateNodeStep source target shared job end before after) (EndsAtFault GateNodeStep source target shared job end before after)
        → MatchResult result (EndsAtEnd In source target shared job end before after) (EndsAtFault In source target shared job end before after)
    by (Ok ended) h = (
      given_as (source job.reader) (source end.reader) shared.reads _ _
          (λ noted served. (served.0, (end_in GateNodeStep (AreSeen histories) (seen_before_step histories) before after (input_of noted) (target job.writer).contents (target end.writer).contents ended.replies ended.rest served.1.0 seen, served.1.1))) h.0,
      h.1,
    )
    by (Err fault) h =
        given_as (source job.reader) (source end.reader) shared.reads _ _
        (λ noted served. (stops_in GateNodeStep (AreSeen histories) (seen_before_step histories) before after (input_of noted) (target job.writer).contents (target end.writer).contents fault served.0 seen, served.1)) h

  pub joins_in : (job : Job I O) (served : ServedJob I O) (before after : NodeOverGates) → AllZip IsSeen histories served.end.passes.primaries → Joins GateNodeStep source target shared job served before after → Joins In source target shared job served before after
  joins_in job served before after seen h =
      record {
        gates = h.gates;
        passes = h.passes;
        begins = h.begins;
        left = h.left;
        kept = h.kept;
        full = h.full;
        number = h.number;
        session = session_in job served.end before after (subst (λ (ps : Sights). AllZip IsSeen histories ps.primaries) (sym h.left) seen) h.session;
      }

  -- so the sessions of these ends were by steps in the histories
  pub ends_in : (jobs : List (Job I O)) (ends : List (End I O)) → All SawThese ends → Pairwise (EndsWell GateNodeStep source target shared) jobs ends → Pairwise (EndsWell In source target shared) jobs ends
  ends_in [] [] seen h = tt
  ends_in [] (end ∷ ends) seen h = absurd h
  ends_in (job ∷ jobs) [] seen h = absurd h
  ends_in (job ∷ jobs) (end ∷ ends) seen h =
      ((h.0.0, h.0.1, joins_in job (counted_whole end) h.0.0 h.0.1 (All-head SawThese end ends seen) h.0.2), ends_in jobs ends (All-tail SawThese end ends seen) h.1)
