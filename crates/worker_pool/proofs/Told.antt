-- What a run of the pool comes to.
use Rattle.std.proofs.Common.{arith, ◌≡◌, ◌∙◌, ◌⊎◌, ◌+◌, ◌≤◌, ◌^◌, ℕ, List, [], ◌∷◌, length, map, refl, sym, ap, subst, inl, inr}
use Rattle.std.proofs.lemmas.List.{length-map}
use Rattle.std.specs.Prelude.{◌||◌, Bool, true, false, Option, Result}
use Rattle.job_pool.specs.Giving.{GaveAll, Leaves}
use Rattle.job_pool.specs.Lists.{Every, Pairwise, concat}
use Rattle.job_pool.specs.Turns.{ServedTurn, WorkerTurns, TurnChain, IsChain}
use Rattle.job_pool.specs.Ends.{IsTurnOfGiven, IsTold, told_by, weight_told}
use Rattle.job_pool.specs.Telling.{ToldOnce}
use Rattle.job_pool.specs.declared.fault.RunFault.{RunFault}
use Rattle.job_pool.specs.declared.fault.RunFault.TheVariants as runs
use Rattle.job_pool.specs.declared.jobs.JobFault.{JobFault}
use Rattle.job_pool.specs.declared.worker.NumberedEnd.{NumberedEnd}
use Rattle.node_session.specs.Streams.{SourceView, TargetView}
use Rattle.stats_book.specs.Counting.{ArePastFull, both, number_of, sum_of, zeros}
use Rattle.stats_book.specs.declared.totals.Totals.{Totals}
use Rattle.gate_node.specs.Gates.{Gates}
use Rattle.gate_node.specs.Merging.{HaveSeenAllOf}
use Rattle.gate_node.specs.Passes.{Sights}
use Rattle.gate_node.specs.declared.fault.PoolFault.{PoolFault}
use Rattle.gate_node.specs.declared.fault.PoolFault.TheVariants.{NoMemory, NoThread, JobsFailed, BookFull}
use Rattle.worker_pool.specs.declared.end_sink.SessionEnd.{SessionEnd}
use Rattle.worker_pool.specs.declared.session_service.LeftSession.{LeftSession}
use Rattle.worker_pool.specs.declared.served_sessions.ServedSessions.{ServedSessions}
use Rattle.worker_pool.specs.Serving.{CountsInOpenSession}
use Rattle.worker_pool.specs.Settling.{Settles, AreTooMany, IsFaultAfterTold, pool_fault}
use Rattle.worker_pool.specs.PausedSessions.{PausedSessionView}
use Rattle.worker_pool.specs.EndReporters.{EndReporterView, IsCovered, is_full, are_full, sink_of, told_to}
use Rattle.worker_pool.specs.Telling.{TellsSource, LeavesTold, GavePastFullBook, GavePastSums, count_told, count_rested, told_of}
use Rattle.worker_pool.proofs.Gathering.{all_gathered, none_both, number_both}

pub every_map : {A B : Type 0} (f : A → B) (P : B → Type 0) (xs : List A) → Every (λ (x : A). P (f x)) xs → Every P (map f xs)
every_map f P [] h = tt
every_map f P (x ∷ xs) h = (h.0, every_map f P xs h.1)

pairwise_length : {A B : Type 0} (R : A → B → Type 0) (xs : List A) (ys : List B) → Pairwise R xs ys → length xs ≡ length ys
pairwise_length R [] [] h = refl
pairwise_length R [] (y ∷ ys) h = absurd h
pairwise_length R (x ∷ xs) [] h = absurd h
pairwise_length R (x ∷ xs) (y ∷ ys) h = let rest = pairwise_length R xs ys h.1 in omega (arith, rest)

-- what two counts pass together, two others do that come to the same
past_by : (a b c d : Totals) → both a b ≡ both c d → ArePastFull a b → ArePastFull c d
past_by a b c d same past =
    let quantity = past.0 in
    let number : number_of quantity a + number_of quantity b ≡ number_of quantity c + number_of quantity d = number_both quantity a b ∙ ap (number_of quantity) same ∙ sym (number_both quantity c d) in
    (quantity, subst (λ (n : ℕ). 2 ^ 64 ≤ n) number past.1)

or_true : (a b : Bool) → (a || b) ≡ true → (a ≡ true) ⊎ (b ≡ true)
or_true true b h = inl refl
or_true false b h = inr h

module _ {J R W K : Type 0} (Gives : J → Result (Option (PausedSessionView R W)) JobFault → J → Type 0) (may_rest : Type 0) (source : R → SourceView) (target : W → TargetView) (told : K → List (NumberedEnd (SessionEnd R W))) (shared : Gates) (first last : J) where
  abbrev Counts : Totals → PausedSessionView R W → Totals → LeftSession R W → Type 0
  Counts = CountsInOpenSession may_rest source target shared

  module _ (given : List (PausedSessionView R W)) (gave : GaveAll Gives first given last) where
    full_turn : (before after : Totals) (turns : List (ServedTurn Totals (PausedSessionView R W) (LeftSession R W))) (ends : List (NumberedEnd (LeftSession R W))) → TurnChain Counts before turns after → Pairwise (IsTurnOfGiven given) turns ends → is_full ends ≡ true
        → GavePastFullBook Gives may_rest source target shared first last
    full_turn before after [] [] chain h full = absurd (cc full)
    full_turn before after [] (one ∷ ends) chain h full = absurd h
    full_turn before after (turn ∷ turns) [] chain h full = absurd h
    full_turn before after (turn ∷ turns) (one ∷ ends) chain h full = elim (or_true one.end.book_full (is_full ends) full) [
      | inl here ↦ record {
        given = given;
        all = gave;
        number = one.number;
        session = turn.job;
        is = h.0.at;
        before = turn.before;
        after = turn.after;
        one = turn.end;
        counts = chain.1;
        full = ap (λ (e : LeftSession R W). e.book_full) h.0.end ∙ here;
      }
      | inr later ↦ full_turn turn.after after turns ends chain.2 h.1 later
    ]

    full_session : (seen : Sights) (shares : List (WorkerTurns Totals (PausedSessionView R W) (LeftSession R W))) (end_reporters : List (EndReporterView R W K)) → Every (IsChain Counts) shares → Pairwise (IsTold told_to given) shares end_reporters
        → Every (IsCovered told shared seen) end_reporters → are_full end_reporters ≡ true → GavePastFullBook Gives may_rest source target shared first last
    full_session seen [] [] chained each stand full = absurd (cc full)
    full_session seen [] (end_reporter ∷ end_reporters) chained each stand full = absurd each
    full_session seen (share ∷ shares) [] chained each stand full = absurd each
    full_session seen (share ∷ shares) (end_reporter ∷ end_reporters) chained each stand full = elim (or_true end_reporter.book_full (are_full end_reporters) full) [
      | inl here ↦ full_turn share.first share.last share.turns end_reporter.told chained.0 each.0 (sym stand.0.stands.full ∙ here)
      | inr later ↦ full_session seen shares end_reporters chained.1 each.1 stand.1 later
    ]

    module _ (firsts workers : List Totals) (end_reporters : List (EndReporterView R W K)) (count away : ℕ) (once : ToldOnce Counts told_to given firsts workers end_reporters count away) where
      -- there are as many sinks as workers were started
      pub end_reporters_count : length end_reporters ≡ length firsts
      end_reporters_count = sym (pairwise_length (IsTold told_to given) once.shares end_reporters once.each) ∙ sym (length-map once.shares (λ (share : WorkerTurns Totals (PausedSessionView R W) (LeftSession R W)). share.first)) ∙ ap length once.began

      module _ (before seen : Sights) (more : HaveSeenAllOf seen before) where
        -- what the workers' run told, and what is left of it
        pub tells_source : Every (λ (t : Totals). t ≡ zeros) firsts → (served : ServedSessions R W K) → Settles told shared workers end_reporters count away seen served → TellsSource may_rest source target told shared Gives first before served last seen
        tells_source zero served left =
            let began = subst (Every (λ (t : Totals). t ≡ zeros)) (sym once.began) zero in
            let all = all_gathered may_rest source target shared given seen told once.shares end_reporters began once.chained once.each left.stand left.whole in
            let sinks : told_by told served.sinks.items ≡ told_by told (map sink_of end_reporters) = ap (told_by told) left.sinks in
            let refused : served.refused ≡ length once.refusals = left.refused ∙ once.others in (
              given,
              gave,
              record {
                ended = all.ended;
                rested = all.rested;
                refusals = once.refusals;
                tells = all.tells_are ∙ sym sinks;
                each = all.each;
                rests = all.rests ∙ ap concat (sym left.resting);
                each_rests = all.each_rests;
                once = λ w.
                    let tells : weight_told w (told_by told served.sinks.items) ≡ weight_told w (told_by told (map sink_of end_reporters)) = ap (weight_told w) sinks in
                    let weighs = all.weighs w in
                    let is = once.once w in
                    omega (arith, tells, weighs, is);
                accepted = left.accepted ∙ once.all;
                refused = refused;
                all =
                    let many = all.many in
                    let counted = once.counted in
                    let given_count = left.accepted in
                    let away_count = left.refused in
                    omega (arith, many, counted, given_count, away_count);
                seen_on = more;
                totals = left.totals ∙ ap sum_of (sym once.left) ∙ all.sums;
              },
            )

      module _ (zero : Every (λ (t : Totals). t ≡ zeros) firsts) (seen : Sights) where
        -- where no session met a full book, and the workers have too many together
        past_sums : are_full end_reporters ≡ false → ArePastFull zeros (sum_of workers) → Every (IsCovered told shared seen) end_reporters → GavePastSums Gives may_rest source target shared first last
        past_sums whole past stand =
            let began = subst (Every (λ (t : Totals). t ≡ zeros)) (sym once.began) zero in
            let all = all_gathered may_rest source target shared given seen told once.shares end_reporters began once.chained once.each stand whole in
            let sums : both zeros (sum_of workers) ≡ both (sum_of (map count_told all.ended)) (sum_of (map count_rested all.rested)) = none_both (sum_of workers) ∙ ap sum_of (sym once.left) ∙ all.sums in
            record {
              given = given;
              all = gave;
              seen = seen;
              ended = all.ended;
              rested = all.rested;
              refusals = once.refusals;
              each = all.each;
              each_rests = all.each_rests;
              once = λ w.
                  let tells : weight_told w (map told_of all.ended) ≡ weight_told w (told_by told (map sink_of end_reporters)) = ap (weight_told w) all.tells_are in
                  let weighs = all.weighs w in
                  let is = once.once w in
                  omega (arith, tells, weighs, is);
              past = past_by zeros (sum_of workers) (sum_of (map count_told all.ended)) (sum_of (map count_rested all.rested)) sums past;
            }

        too_many : AreTooMany told shared workers end_reporters → Every (IsCovered told shared seen) end_reporters → LeavesTold Gives may_rest source target shared BookFull first last
        too_many h stand = elim h [
          | inl full ↦ inl (full_session seen once.shares end_reporters once.chained once.each stand full)
          | inr sums ↦ inr (past_sums sums.0 sums.1 stand)
        ]

        -- and where it ends behind that
        pub leaves_told : (fault : PoolFault) → IsFaultAfterTold told shared workers end_reporters seen fault → LeavesTold Gives may_rest source target shared fault first last
        leaves_told NoMemory h = absurd h
        leaves_told NoThread h = absurd h
        leaves_told JobsFailed h = absurd h
        leaves_told BookFull h = too_many h.0 h.1

  -- what is left of the source where the run of the workers ends by a fault
  pub leaves_by : (fault : RunFault) → Leaves Gives fault first last → LeavesTold Gives may_rest source target shared (pool_fault fault) first last
  leaves_by runs.NoMemory h = h
  leaves_by runs.NoThread h = h
  leaves_by runs.JobsFailed h = h
