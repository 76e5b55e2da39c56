-- What a run of the pool over partitions without fallbacks replies: at positions of legal histories of the sibling register.
use Rattle.std.specs.Prelude.{◌≡◌, ℕ, true, List, Option}
use Rattle.job_pool.specs.Lists.{Pairwise}
use Rattle.node_session.specs.Streams.{SourceView, TargetView}
use Rattle.gate_node.specs.Gates.{Gates, AreNone, AreOfNewRun}
use Rattle.gate_node.specs.OneHistory.{AreOfGates}
use Rattle.gate_node.specs.Plain.{AnswersAsRegister, AreLegal}
use Rattle.gate_node.specs.Tallies.{GateHistory, IsTally}
use Rattle.worker_pool.specs.declared.closed.Closed.{Closed}
use Rattle.worker_pool.specs.declared.job.Job.{Job}
use Rattle.worker_pool.specs.Run.{ServesAll}
use Rattle.worker_pool.specs.JobEnds.{EndsWell}

module _ {I O : Type 0} (source : I → SourceView) (target : O → TargetView) (shared : Gates) where
  -- Each of these jobs was served to its end. There is one history of the vnode of each partition, legal for the sibling register, of the whole of
  -- which its tally is; and each step of each session is one of the register among others, in these histories.
  pub record ServesLegally (jobs : List (Job I O)) (closed : Closed I O) : Type 0 where
    pub histories : List GateHistory
    pub of_gates : AreOfGates shared.gates histories
    pub legal : AreLegal shared histories
    pub ends : Pairwise (EndsWell (AnswersAsRegister shared histories) source target shared) jobs closed.ends.items
    pub tallies : Pairwise IsTally histories closed.tallies.items

  -- so it is where no partition of a new run has a fallback, and the tallies count all of the histories
  abbrev pub PlainRunIsLegal : ℕ → List (Job I O) → Closed I O → Type 0
  PlainRunIsLegal workers jobs closed =
      AreOfNewRun shared.run shared.gates → AreNone shared.fallbacks → closed.count_all ≡ true → ServesAll source target shared workers jobs closed → ServesLegally jobs closed
