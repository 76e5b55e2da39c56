-- What a run of the pool comes to.
use Rattle.std.specs.Prelude.{◌≡◌, ℕ, true, List, Option, Result}
use Rattle.job_pool.specs.Lists.{Pairwise}
use Rattle.job_pool.specs.Giving.{GaveAll}
use Rattle.job_pool.specs.declared.jobs.JobFault.{JobFault}
use Rattle.node_session.specs.Streams.{SourceView, TargetView}
use Rattle.gate_node.specs.Gates.{Gates}
use Rattle.worker_pool.specs.declared.closed.Closed.{Closed}
use Rattle.worker_pool.specs.declared.job.Job.{Job}
use Rattle.worker_pool.specs.JobEnds.{EndsWell}
use Rattle.worker_pool.specs.Summing.{SumsSessions}
use Rattle.gate_node.specs.Tallies.{GateHistory, IsTally, CountsAll}
use Rattle.gate_node.specs.OneHistory.{AreOfGates, StepIn}

module _ {I O : Type 0} (source : I → SourceView) (target : O → TargetView) (shared : Gates) where
  -- Each of these jobs was served by one of these workers, to its end in the jobs' order. There is one history of the primary of each
  -- partition: each reply of each session at it is at a position of that, and the primary's tally is of all of it. The totals are what the sessions
  -- counted.
  pub record ServesAll (workers : ℕ) (jobs : List (Job I O)) (closed : Closed I O) : Type 0 where
    pub histories : List GateHistory
    pub of_gates : AreOfGates shared.gates histories
    pub ends : Pairwise (EndsWell (StepIn histories) source target shared) jobs closed.ends.items
    pub tallies : Pairwise IsTally histories closed.tallies.items
    pub counted : closed.count_all ≡ true → Pairwise CountsAll histories closed.tallies.items
    pub totals : SumsSessions source target shared workers jobs closed.ends.items closed.totals

  -- so were all jobs of a source
  abbrev pub ServesSource : {J : Type 0} → (J → Result (Option (Job I O)) JobFault → J → Type 0) → ℕ → J → Closed I O → J → Type 0
  ServesSource Gives workers first closed last = (jobs : List (Job I O)) × GaveAll Gives first jobs last × ServesAll workers jobs closed
