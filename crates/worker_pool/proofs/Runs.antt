-- What the workers' run, the ends and the tallies come to together.
use Rattle.std.proofs.Common.{◌≡◌, ℕ, List, map, sym, subst}
use Rattle.std.specs.Prelude.{Option, Result, Ok, Err, IfOk, replicate}
use Rattle.job_pool.specs.Giving.{AllServed, GaveAll}
use Rattle.job_pool.specs.Lists.{Pairwise}
use Rattle.job_pool.specs.Turns.{ServedOnce}
use Rattle.job_pool.specs.declared.jobs.JobFault.{JobFault}
use Rattle.node_session.specs.Streams.{SourceView, TargetView}
use Rattle.stats_book.specs.Counting.{sum_of, zeros}
use Rattle.stats_book.specs.declared.totals.Totals.{Totals}
use Rattle.gate_node.specs.Gates.{Gates}
use Rattle.gate_node.specs.GateStep.{GateNodeStep}
use Rattle.gate_node.specs.OneHistory.{ShareHistories}
use Rattle.gate_node.proofs.Histories.{each_seen}
use Rattle.worker_pool.specs.declared.closed.Closed.{Closed}
use Rattle.worker_pool.specs.declared.job.Job.{Job}
use Rattle.worker_pool.specs.declared.server.ServedJob.{ServedJob}
use Rattle.worker_pool.specs.JobEnds.{EndsWell, Serves, counted_whole, end_passes}
use Rattle.worker_pool.specs.Run.{ServesSource}
use Rattle.worker_pool.proofs.Ends.{pairwise_whole}
use Rattle.worker_pool.proofs.Histories.{ends_of_run}
use Rattle.worker_pool.proofs.InHistories.{ends_in}
use Rattle.worker_pool.proofs.JobSums.{Counts, served_all, sums_sessions}

-- three things that a result says
pub if_ok_three : {A B : Type 0} (P Q R S : A → Type 0) (r : Result A B) → ((a : A) → P a → Q a → R a → S a) → IfOk r P → IfOk r Q → IfOk r R → IfOk r S
if_ok_three P Q R S (Ok a) f p q r = f a p q r
if_ok_three P Q R S (Err b) f p q r = p

-- a source gave these jobs until there was none, each served in one turn of a worker
abbrev pub AllServedOnce : {J I O : Type 0} → (J → Result (Option (Job I O)) JobFault → J → Type 0) → (Totals → Job I O → Totals → ServedJob I O → Type 0) → J → List Totals → List (ServedJob I O) → List Totals → J → Type 0
AllServedOnce {J} {I} {O} Gives Serves first firsts ends lasts last = (jobs : List (Job I O)) × GaveAll Gives first jobs last × ServedOnce Serves jobs firsts ends lasts

-- by workers that began in these states, over gates that are the run's own
pub over_own : {J I O : Type 0} (Gives : J → Result (Option (Job I O)) JobFault → J → Type 0) (source : I → SourceView) (target : O → TargetView) (own shared : Gates) (first last : J) (began firsts : List Totals) (served : List (ServedJob I O)) (lasts : List Totals) → own ≡ shared → began ≡ firsts
    → (jobs : List (Job I O)) → GaveAll Gives first jobs last → ServedOnce (Counts source target own) jobs began served lasts → AllServedOnce Gives (Counts source target shared) first firsts served lasts last
over_own Gives source target own shared first last began firsts served lasts is same jobs gave once = (
  jobs,
  gave,
  subst (λ (gates : Gates). ServedOnce (Counts source target gates) jobs firsts served lasts) is (subst (λ (states : List Totals). ServedOnce (Counts source target own) jobs states served lasts) same once),
)

module _ {J I O : Type 0} (Gives : J → Result (Option (Job I O)) JobFault → J → Type 0) (source : I → SourceView) (target : O → TargetView) (shared : Gates) (first last : J) where
  -- the jobs of the source were served
  pub source_served : (firsts : List Totals) (served : List (ServedJob I O)) (lasts : List Totals) → AllServedOnce Gives (Counts source target shared) first firsts served lasts last → AllServed Gives (Serves GateNodeStep source target shared) first served last
  source_served firsts served lasts h = (h.0, h.1, served_all source target shared h.0 firsts served lasts h.2)

  -- and their sessions were by steps in one history of each vnode
  pub serves_source : (n : ℕ) (firsts : List Totals) (served : List (ServedJob I O)) (lasts : List Totals) (closed : Closed I O) → firsts ≡ replicate n zeros → map counted_whole closed.ends.items ≡ served → ShareHistories end_passes shared.gates closed.ends.items closed.tallies.items closed.count_all → closed.totals ≡ sum_of lasts
      → AllServedOnce Gives (Counts source target shared) first firsts served lasts last → ServesSource source target shared Gives n first closed last
  serves_source n firsts served lasts closed new whole h sums once =
      let S : Job I O → ServedJob I O → Type 0 = Serves GateNodeStep source target shared in
      let jobs = once.0 in
      let ends = closed.ends.items in
      let all = served_all source target shared jobs firsts served lasts once.2 in
      let ended : Pairwise (EndsWell GateNodeStep source target shared) jobs ends = pairwise_whole S jobs ends (subst (λ l. Pairwise S jobs l) (sym whole) all) in
      let seen = each_seen end_passes shared h.histories h.of_gates ends (ends_of_run shared source target jobs ends ended) h.seen in (
        jobs,
        once.1,
        record {
          histories = h.histories;
          of_gates = h.of_gates;
          ends = ends_in h.histories source target shared jobs ends seen ended;
          tallies = h.tallied;
          counted = h.counted;
          totals = sums_sessions source target shared n jobs firsts served lasts ends closed.totals new whole sums once.2;
        },
      )
