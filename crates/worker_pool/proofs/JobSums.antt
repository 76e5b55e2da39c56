-- The totals of the shares are what the sessions counted.
use Rattle.std.proofs.Common.{◌≡◌, ◌+◌, ℕ, zero, suc, List, [], ◌∷◌, map, arith, sym, refl, subst}
use Rattle.std.proofs.lemmas.List.Sums.{sum_by-cons}
use Rattle.std.specs.List.{sum_by}
use Rattle.std.specs.Prelude.{Option, replicate}
use Rattle.job_pool.specs.Lists.{Pairwise}
use Rattle.job_pool.specs.Turns.{ServedOnce}
use Rattle.job_pool.proofs.Lists.{pairs_more}
use Rattle.job_pool.proofs.Once.{once_pairs, once_sums}
use Rattle.node_session.specs.Streams.{SourceView, TargetView}
use Rattle.stats_book.specs.Counting.{both, sum_of, zeros}
use Rattle.stats_book.specs.declared.totals.Totals.{Totals}
use Rattle.gate_node.specs.Gates.{Gates}
use Rattle.gate_node.specs.GateStep.{GateNodeStep}
use Rattle.worker_pool.specs.declared.job.Job.{Job}
use Rattle.worker_pool.specs.declared.job.End.{End}
use Rattle.worker_pool.specs.declared.server.ServedJob.{ServedJob}
use Rattle.worker_pool.specs.JobEnds.{CountsInSession, Serves, counted_whole}
use Rattle.worker_pool.specs.Summing.{SessionTurn, SumsSessions, sums_before, sums_after}

module _ (q : Totals → ℕ) (none : q zeros ≡ 0) (add : (a b : Totals) → q (both a b) ≡ q a + q b) where
  number_sum : {A : Type 0} (f : A → Totals) (xs : List A) → q (sum_of (map f xs)) ≡ sum_by (λ x. q (f x)) xs
  number_sum f [] = none
  number_sum f (x ∷ xs) =
      let rest = number_sum f xs in
      let one = sum_by-cons (λ y. q (f y)) x xs in
      let here = add (f x) (sum_of (map f xs)) in
      omega (arith, rest, one, here)

  plain_sum : (ts : List Totals) → q (sum_of ts) ≡ sum_by q ts
  plain_sum [] = none
  plain_sum (t ∷ ts) =
      let rest = plain_sum ts in
      let one = sum_by-cons q t ts in
      let here = add t (sum_of ts) in
      omega (arith, rest, one, here)

  none_sum : (n : ℕ) → sum_by q (replicate n zeros) ≡ 0
  none_sum zero = refl
  none_sum (suc n) =
      let rest = none_sum n in
      let one = sum_by-cons q zeros (replicate n zeros) in
      omega (arith, rest, one, none)

  module _ {I O : Type 0} (R : Totals → Job I O → Totals → ServedJob I O → Type 0) (jobs : List (Job I O)) (n : ℕ) (ends : List (ServedJob I O)) (lasts : List Totals) where
    number_raised : (h : ServedOnce R jobs (replicate n zeros) ends lasts) → q (both (sums_before h.turns) (sum_of lasts)) ≡ q (sums_after h.turns)
    number_raised h =
        let all = once_sums R q jobs (replicate n zeros) ends lasts h in
        let first = none_sum n in
        let last = plain_sum lasts in
        let before = number_sum (λ (s : SessionTurn I O). s.before) h.turns in
        let after = number_sum (λ (s : SessionTurn I O). s.after) h.turns in
        let here = add (sums_before h.turns) (sum_of lasts) in
        omega (arith, all, first, last, before, after, here)

module _ {I O : Type 0} (R : Totals → Job I O → Totals → ServedJob I O → Type 0) (jobs : List (Job I O)) (n : ℕ) (ends : List (ServedJob I O)) (lasts : List Totals) where
  all_raised : (h : ServedOnce R jobs (replicate n zeros) ends lasts) → both (sums_before h.turns) (sum_of lasts) ≡ sums_after h.turns
  all_raised h =
      let gets = number_raised (λ t. t.gets) refl (λ a b. refl) R jobs n ends lasts h in
      let puts = number_raised (λ t. t.puts) refl (λ a b. refl) R jobs n ends lasts h in
      let deletes = number_raised (λ t. t.deletes) refl (λ a b. refl) R jobs n ends lasts h in
      let refusals = number_raised (λ t. t.refusals) refl (λ a b. refl) R jobs n ends lasts h in
      let reaps = number_raised (λ t. t.reaps) refl (λ a b. refl) R jobs n ends lasts h in
      λ i. record { gets = gets i; puts = puts i; deletes = deletes i; refusals = refusals i; reaps = reaps i }

module _ {I O : Type 0} (source : I → SourceView) (target : O → TargetView) (shared : Gates) where
  abbrev pub Counts : Totals → Job I O → Totals → ServedJob I O → Type 0
  Counts = CountsInSession source target shared

  -- each job was served
  pub served_all : (jobs : List (Job I O)) (firsts : List Totals) (ends : List (ServedJob I O)) (lasts : List Totals) → ServedOnce Counts jobs firsts ends lasts → Pairwise (Serves GateNodeStep source target shared) jobs ends
  served_all jobs firsts ends lasts h = pairs_more (λ job served was. (was.2.0, was.2.1, was.2.4)) jobs ends (once_pairs Counts jobs firsts ends lasts h)

  -- and by the sums of the shares the sessions raised the numbers
  pub sums_sessions : (n : ℕ) (jobs : List (Job I O)) (firsts : List Totals) (served : List (ServedJob I O)) (lasts : List Totals) (ends : List (End I O)) (totals : Totals) → firsts ≡ replicate n zeros → map counted_whole ends ≡ served → totals ≡ sum_of lasts → ServedOnce Counts jobs firsts served lasts
      → SumsSessions source target shared n jobs ends totals
  sums_sessions n jobs firsts served lasts ends totals new whole sums h =
      let once : ServedOnce Counts jobs (replicate n zeros) (map counted_whole ends) lasts = subst (λ es. ServedOnce Counts jobs (replicate n zeros) es lasts) (sym whole) (subst (λ fs. ServedOnce Counts jobs fs served lasts) new h) in
      record {
        counts = lasts;
        once = once;
        sums = sums;
        raised = subst (λ t. both (sums_before once.turns) t ≡ sums_after once.turns) (sym sums) (all_raised Counts jobs n (map counted_whole ends) lasts once);
      }
