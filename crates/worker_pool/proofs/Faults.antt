-- What is left of a source where a run ends by a fault.
use Rattle.std.proofs.Common.{◌≡◌, ℕ, List, inl, inr, refl}
use Rattle.std.specs.Prelude.{Option, Result, replicate}
use Rattle.job_pool.specs.declared.jobs.JobFault.{JobFault}
use Rattle.node_session.specs.Streams.{SourceView, TargetView}
use Rattle.stats_book.specs.Counting.{sum_of, zeros}
use Rattle.stats_book.specs.declared.totals.Totals.{Totals}
use Rattle.gate_node.specs.Gates.{Gates}
use Rattle.gate_node.specs.declared.fault.PoolFault.{PoolFault}
use Rattle.gate_node.specs.declared.fault.PoolFault.TheVariants.{NoMemory, NoThread, JobsFailed, BookFull}
use Rattle.worker_pool.specs.declared.job.Job.{Job}
use Rattle.worker_pool.specs.declared.server.ServedJob.{ServedJob}
use Rattle.worker_pool.specs.JobFaults.{ArePastTogether, IsFaultAfter, IsFaultOf, LeavesSource, ServedPastSums}
use Rattle.worker_pool.proofs.Runs.{AllServedOnce, source_served}
use Rattle.worker_pool.proofs.JobSums.{Counts, sums_sessions}

-- a fault of the ends alone
pub fault_after : {I O : Type 0} (served : List (ServedJob I O)) (workers : List Totals) (fault : PoolFault) → IsFaultOf served fault → IsFaultAfter served workers fault
fault_after served workers NoMemory h = h
fault_after served workers NoThread h = h
fault_after served workers JobsFailed h = h
fault_after served workers BookFull h = inl h

module _ {J I O : Type 0} (Gives : J → Result (Option (Job I O)) JobFault → J → Type 0) (source : I → SourceView) (target : O → TargetView) (shared : Gates) (first last : J) (n : ℕ) (firsts : List Totals) (served : List (ServedJob I O)) (lasts : List Totals)
    (new : firsts ≡ replicate n zeros) (once : AllServedOnce Gives (Counts source target shared) first firsts served lasts last) where
  past_sums : ArePastTogether served lasts → ServedPastSums Gives source target shared first last
  past_sums h = record {
    workers = n;
    jobs = once.0;
    gave = once.1;
    ends = h.0;
    totals = sum_of lasts;
    sums = sums_sessions source target shared n once.0 firsts served lasts h.0 (sum_of lasts) new h.1 refl once.2;
    past = h.2;
  }

  -- behind the workers' run
  pub leaves_after : (fault : PoolFault) → IsFaultAfter served lasts fault → LeavesSource Gives source target shared fault first last
  leaves_after NoMemory h = (once.0, inr once.1)
  leaves_after NoThread h = absurd h
  leaves_after JobsFailed h = absurd h
  leaves_after BookFull h = elim h [
    | inl full ↦ inl (served, source_served Gives source target shared first last firsts served lasts once, full)
    | inr past ↦ inr (past_sums past)
  ]
