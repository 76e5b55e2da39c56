-- The passes that sessions left are of the gates of their run.
use Rattle.std.proofs.Common.{ℕ, List, [], ◌∷◌, map}
use Rattle.std.proofs.lemmas.List.Elements.{All-cons, All-nil}
use Rattle.std.specs.Prelude.{Option}
use Rattle.job_pool.specs.Lists.{Pairwise}
use Rattle.node_session.specs.Streams.{SourceView, TargetView}
use Rattle.gate_node.specs.Gates.{Gates}
use Rattle.gate_node.specs.GateStep.{GateNodeStep}
use Rattle.gate_node.specs.OneHistory.{CallersAreOfRun}
use Rattle.gate_node.specs.Passes.{ArePassesOf}
use Rattle.worker_pool.specs.declared.job.Job.{Job}
use Rattle.worker_pool.specs.declared.job.End.{End}
use Rattle.worker_pool.specs.declared.server.ServedJob.{ServedJob}
use Rattle.worker_pool.specs.JobEnds.{EndsWell, Serves, WereOfRun, counted_whole, end_passes}

module _ {I O : Type 0} (shared : Gates) where
  abbrev HasPassesOf : End I O → Type 0
  HasPassesOf end = ArePassesOf shared end.passes

  -- the ends of which no one met a full book have the passes
  pub whole_of_run : (ends : List (End I O)) → WereOfRun shared (map counted_whole ends) → CallersAreOfRun end_passes shared ends
  whole_of_run [] h = All-nil HasPassesOf
  whole_of_run (end ∷ ends) h = All-cons HasPassesOf end ends h.0 (whole_of_run ends h.1)

  module _ (source : I → SourceView) (target : O → TargetView) where
    -- sessions end with passes of the gates
    pub served_of_run : (jobs : List (Job I O)) (all : List (ServedJob I O)) → Pairwise (Serves GateNodeStep source target shared) jobs all → WereOfRun shared all
    served_of_run [] [] h = tt
    served_of_run [] (one ∷ all) h = absurd h
    served_of_run (job ∷ jobs) [] h = absurd h
    served_of_run (job ∷ jobs) (one ∷ all) h = (h.0.2.kept, served_of_run jobs all h.1)

    -- and so with those of a run at none of whose answers the book was full
    pub ends_of_run : (jobs : List (Job I O)) (ends : List (End I O)) → Pairwise (EndsWell GateNodeStep source target shared) jobs ends → CallersAreOfRun end_passes shared ends
    ends_of_run [] [] h = All-nil HasPassesOf
    ends_of_run [] (end ∷ ends) h = absurd h
    ends_of_run (job ∷ jobs) [] h = absurd h
    ends_of_run (job ∷ jobs) (end ∷ ends) h = All-cons HasPassesOf end ends h.0.2.kept (ends_of_run jobs ends h.1)
