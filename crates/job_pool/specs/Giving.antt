-- What a source of jobs gives over many calls.
use Rattle.std.specs.Prelude.{◌≡◌, ◌⊎◌, List, [], ◌∷◌, Option, Some, None, Result, Ok, Err}
use Rattle.job_pool.specs.Lists.{Pairwise}
use Rattle.job_pool.specs.declared.fault.RunFault.{RunFault}
use Rattle.job_pool.specs.declared.fault.RunFault.TheVariants.{NoMemory, NoThread, JobsFailed}

module _ {G J F : Type 0} (Gives : G → Result (Option J) F → G → Type 0) where
  -- these jobs, one after another
  abbrev pub Gave : G → List J → G → Type 0
  Gave first [] last = last ≡ first
  Gave first (job ∷ jobs) last = (next : G) × Gives first (Ok (Some job)) next × Gave next jobs last

  -- these jobs, and then none
  abbrev pub GaveAll : G → List J → G → Type 0
  GaveAll first jobs last = (next : G) × Gave first jobs next × Gives next (Ok None) last

  -- these jobs, and then a fault
  abbrev pub GaveFailed : G → List J → G → Type 0
  GaveFailed first jobs last = (next : G) × (fault : F) × Gave first jobs next × Gives next (Err fault) last

  -- all jobs until there was none, with one end for each, in their order
  abbrev pub AllServed : {E : Type 0} → (J → E → Type 0) → G → List E → G → Type 0
  AllServed Serves first ends last = (jobs : List J) × GaveAll first jobs last × Pairwise Serves jobs ends

  -- some jobs, or some and then a fault, or all until there was none
  abbrev pub GaveSome : G → G → Type 0
  GaveSome first last = (jobs : List J) × ((Gave first jobs last ⊎ GaveFailed first jobs last) ⊎ GaveAll first jobs last)

  -- some jobs, and then a fault
  abbrev pub GaveThenFailed : G → G → Type 0
  GaveThenFailed first last = (jobs : List J) × GaveFailed first jobs last

  -- whatever it gave, the next job that it may give is such
  abbrev pub GivesOnly : (J → Type 0) → G → Type 0
  GivesOnly Fits first = (jobs : List J) (next last : G) (job : J) → Gave first jobs next → Gives next (Ok (Some job)) last → Fits job

  -- what a run that ends by this fault leaves of the source
  abbrev pub Leaves : RunFault → G → G → Type 0
  Leaves NoThread first last = last ≡ first
  Leaves JobsFailed first last = GaveThenFailed first last
  Leaves NoMemory first last = GaveSome first last

  -- what a run that has put these jobs into its queue leaves of the source, where it ends by this fault
  abbrev pub StoppedAfter : RunFault → G → List J → G → Type 0
  StoppedAfter NoThread first jobs last = ⊥
  StoppedAfter JobsFailed first jobs last = GaveFailed first jobs last
  StoppedAfter NoMemory first jobs last = GaveSome first last
