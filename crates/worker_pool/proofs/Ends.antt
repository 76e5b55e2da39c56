-- Ends of which none met a full book, and lists in pairs.
use Rattle.std.proofs.Common.{◌≡◌, List, [], ◌∷◌, ◌++◌, map, ap, sym, inl, inr}
use Rattle.std.specs.Prelude.{true, false}
use Rattle.job_pool.specs.Lists.{Pairwise}
use Rattle.worker_pool.specs.declared.job.Job.{Job}
use Rattle.worker_pool.specs.declared.job.End.{End}
use Rattle.worker_pool.specs.declared.server.ServedJob.{ServedJob}
use Rattle.worker_pool.specs.JobEnds.{counted_whole}
use Rattle.worker_pool.specs.JobFaults.{MetFullBook}
pub use Rattle.std.proofs.lemmas.List.{length-replicate as replicate_length}

module _ {I O : Type 0} where
  -- what is related to such ends
  pub pairwise_whole : (R : Job I O → ServedJob I O → Type 0) (jobs : List (Job I O)) (ends : List (End I O)) → Pairwise R jobs (map counted_whole ends) → Pairwise (λ job end. R job (counted_whole end)) jobs ends
  pairwise_whole R [] [] h = tt
  pairwise_whole R [] (end ∷ ends) h = absurd h
  pairwise_whole R (job ∷ jobs) [] h = absurd h
  pairwise_whole R (job ∷ jobs) (end ∷ ends) h = (h.0, pairwise_whole R jobs ends h.1)

  -- one of them met a full book
  pub met_full : (before : List (ServedJob I O)) (one : ServedJob I O) (rest : List (ServedJob I O)) → one.book_full ≡ true → MetFullBook (before ++ one ∷ rest)
  met_full [] one rest full = inl full
  met_full (other ∷ before) one rest full = inr (met_full before one rest full)

  -- one that didn't
  pub is_whole : (one : ServedJob I O) → one.book_full ≡ false → counted_whole one.end ≡ one
  is_whole one whole = ap (λ b. record { end = one.end; book_full = b }) (sym whole)
