-- The workers that were started.
use Rattle.std.specs.Prelude.{◌≡◌, ℕ, List, []}
use Rattle.std.specs.declared.thread.PromisedHandle.{PromisedHandle}
use Rattle.atomic_table.specs.Seated.{TableId}
use Rattle.job_pool.specs.declared.fault.RunFault.{RunFault}
use Rattle.job_pool.specs.declared.fault.RunFault.TheVariants.{NoMemory, NoThread, JobsFailed}
use Rattle.job_pool.specs.declared.readiness.WorkerSetup.{WorkerSetup}
use Rattle.job_pool.specs.declared.worker.NumberedEnd.{NumberedEnd}
use Rattle.job_pool.specs.declared.worker.WorkerOutput.{WorkerOutput}
use Rattle.job_pool.specs.declared.worker.WorkerPromise.{WorkerPromise}

-- its pass is of the queue of this table, and it serves by this service
abbrev pub IsOn : {S W J K : Type 0} → TableId → S → PromisedHandle (WorkerOutput W J K) (WorkerPromise S W J) → Type 0
IsOn table service child = (child.promise.pass.value.table_id ≡ table) × (child.promise.service.value ≡ service)

-- a worker's state at its start
abbrev pub state_before : {S W J K : Type 0} → PromisedHandle (WorkerOutput W J K) (WorkerPromise S W J) → W
state_before child = child.promise.worker.value

module _ {W K D B : Type 0} where
  abbrev pub worker_of : WorkerSetup W K D B → W
  worker_of worker_setup = worker_setup.worker

  -- its sink was told nothing yet, and has room for the ends of what is open: for none
  abbrev pub IsNew : {E : Type 0} → (K → List (NumberedEnd E)) → (K → ℕ → Type 0) → WorkerSetup W K D B → Type 0
  IsNew told has_room worker_setup = (told worker_setup.sink ≡ []) × has_room worker_setup.sink 0

-- a fault of the run's own, and not of the source
abbrev pub IsOfRun : RunFault → Type 0
IsOfRun NoMemory = Unit {0}
IsOfRun NoThread = Unit {0}
IsOfRun JobsFailed = ⊥
