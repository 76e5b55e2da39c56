-- What a run that ends by a fault leaves.
use Rattle.std.specs.Prelude.{◌≡◌, ◌⊎◌, ℕ, true, List, [], ◌∷◌, Option, Result, map}
use Rattle.job_pool.specs.Giving.{AllServed, GaveAll, GaveSome, GaveThenFailed}
use Rattle.job_pool.specs.declared.jobs.JobFault.{JobFault}
use Rattle.node_session.specs.Streams.{SourceView, TargetView}
use Rattle.stats_book.specs.Counting.{ArePastFull, sum_of, zeros}
use Rattle.stats_book.specs.declared.totals.Totals.{Totals}
use Rattle.gate_node.specs.Gates.{Gates}
use Rattle.gate_node.specs.GateStep.{GateNodeStep}
use Rattle.gate_node.specs.declared.fault.PoolFault.{PoolFault}
use Rattle.gate_node.specs.declared.fault.PoolFault.TheVariants.{NoMemory, NoThread, JobsFailed, BookFull}
use Rattle.worker_pool.specs.declared.job.Job.{Job}
use Rattle.worker_pool.specs.declared.job.End.{End}
use Rattle.worker_pool.specs.declared.server.ServedJob.{ServedJob}
use Rattle.worker_pool.specs.JobEnds.{Serves, counted_whole}
use Rattle.worker_pool.specs.Summing.{SumsSessions}

-- at one of these ends the worker had no room for all that its session was to count
abbrev pub MetFullBook : {I O : Type 0} → List (ServedJob I O) → Type 0
MetFullBook [] = ⊥
MetFullBook (served ∷ rest) = (served.book_full ≡ true) ⊎ MetFullBook rest

-- why there are no ends, where these jobs were served
abbrev pub IsFaultOf : {I O : Type 0} → List (ServedJob I O) → PoolFault → Type 0
IsFaultOf served NoMemory = Unit {0}
IsFaultOf served NoThread = ⊥
IsFaultOf served JobsFailed = ⊥
IsFaultOf served BookFull = MetFullBook served

-- at none of these ends a worker had no room, but what the workers counted would pass the last number together
abbrev pub ArePastTogether : {I O : Type 0} → List (ServedJob I O) → List Totals → Type 0
ArePastTogether {I} {O} served workers = (ends : List (End I O)) × (map counted_whole ends ≡ served) × ArePastFull zeros (sum_of workers)

-- why nothing is left, where these jobs were served by workers that counted so much
abbrev pub IsFaultAfter : {I O : Type 0} → List (ServedJob I O) → List Totals → PoolFault → Type 0
IsFaultAfter served workers NoMemory = Unit {0}
IsFaultAfter served workers NoThread = ⊥
IsFaultAfter served workers JobsFailed = ⊥
IsFaultAfter served workers BookFull = MetFullBook served ⊎ ArePastTogether served workers

module _ {J I O : Type 0} (Gives : J → Result (Option (Job I O)) JobFault → J → Type 0) (source : I → SourceView) (target : O → TargetView) (shared : Gates) where
  -- all jobs were served, and at the end of one of the sessions its worker had no room for what it had counted
  abbrev pub ServedPastFullBook : J → J → Type 0
  ServedPastFullBook first last = (served : List (ServedJob I O)) × AllServed Gives (Serves GateNodeStep source target shared) first served last × MetFullBook served

  -- all jobs were served, and at none of the ends a worker had no room, but what the sessions counted would pass the last number together
  pub record ServedPastSums (first last : J) : Type 0 where
    pub workers : ℕ
    pub jobs : List (Job I O)
    pub gave : GaveAll Gives first jobs last
    pub ends : List (End I O)
    pub totals : Totals
    pub sums : SumsSessions source target shared workers jobs ends totals
    pub past : ArePastFull zeros totals

  -- what is left of the source of jobs
  abbrev pub LeavesSource : PoolFault → J → J → Type 0
  LeavesSource NoMemory first last = GaveSome Gives first last
  LeavesSource NoThread first last = last ≡ first
  LeavesSource JobsFailed first last = GaveThenFailed Gives first last
  LeavesSource BookFull first last = ServedPastFullBook first last ⊎ ServedPastSums first last
