-- The workers are joined one after another.
use Rattle.std.proofs.Common.{◌≡◌, ◌∙◌, ◌+◌, ◌^◌, ◌<◌, ◌≤◌, ℕ, List, [], ◌∷◌, ◌++◌, length, length-append, map, arith, ap, sym, subst, inl, inr}
use Rattle.std.proofs.lemmas.List.{length-map, append-nil, append_assoc}
use Rattle.std.specs.List.Sorted.{IsPermutation}
use Rattle.std.specs.Prelude.{Some, ◌⊎◌}
use Rattle.job_pool.specs.Lists.{Pairwise}
use Rattle.job_pool.specs.Turns.{ServedTurn, WorkerTurns, IsChain, ServedOnce, firsts_of, lasts_of, turns_of, ends_of}
use Rattle.job_pool.specs.declared.queue.NumberedJob.{NumberedJob}
use Rattle.job_pool.specs.declared.queue.Knowledge.{Knowledge}
use Rattle.job_pool.specs.declared.worker.NumberedEnd.{NumberedEnd}
use Rattle.job_pool.specs.Queue.{AreOfGiven, weight_of, weight_below}
use Rattle.job_pool.specs.Ends.{IsTurnOfGiven, IsTold, IsCount, IsWorkerJoined, AreFilled, AreJoined, AreInOrder, placed, told_by, weight_told}
use Rattle.job_pool.specs.Telling.{ToldOnce}
use Rattle.job_pool.proofs.Counts.{sum_counted, as_many, told_join, refused_join}
use Rattle.job_pool.proofs.Lists.{all_snoc, pairs_snoc, pairs_join, pairs_length}
use Rattle.job_pool.proofs.Ends.{all_given, all_placed, collected_none, filled_jobs, filled_ends, placed_length}
use Rattle.job_pool.proofs.Rule.{weights_join}
use Rattle.job_pool.proofs.Starting.{map_snoc}

told_snoc : {K E : Type 0} (told : K → List (NumberedEnd E)) (sinks : List K) (sink : K) → told_by told (sinks ++ sink ∷ []) ≡ told_by told sinks ++ told sink
told_snoc told [] sink = append-nil (told sink)
told_snoc told (other ∷ sinks) sink = ap (λ l. told other ++ l) (told_snoc told sinks sink) ∙ sym (append_assoc (told other) (told_by told sinks) (told sink))

module _ {W J E K : Type 0} (Serves : W → J → W → E → Type 0) (told : K → List (NumberedEnd E)) (jobs : List J) where
  pub none_joined : (taken : List (NumberedJob J)) (firsts rest lasts : List W) (sinks : List K) (took away : ℕ) → taken ≡ [] → rest ≡ firsts → lasts ≡ [] → sinks ≡ [] → took ≡ 0 → away ≡ 0
      → AreJoined Serves told jobs taken firsts rest lasts sinks took away
  none_joined taken firsts rest lasts sinks took away none same left empty zero_took zero_away = record {
    shares = [];
    refusals = [];
    began = same;
    left = sym left;
    chained = tt;
    each = subst (λ (ks : List K). Pairwise (IsTold {W = W} told jobs) [] ks) (sym empty) tt;
    once = λ w.
        let nothing : weight_told w (told_by told sinks) ≡ 0 = ap (λ ks. weight_told w (told_by told ks)) empty in
        let no_job : weight_of w taken ≡ 0 = ap (weight_of w) none in
        omega (arith, nothing, no_job);
    all = λ _. zero_took ∙ sym (ap length none);
    others = λ _. zero_away;
  }

  -- one more is joined
  pub one_joined : (taken taken' : List (NumberedJob J)) (firsts rest left lasts lasts' : List W) (sinks sinks' : List K) (first last : W) (sink : K) (took its_took took' away its_away away' : ℕ)
      → rest ≡ first ∷ left → lasts' ≡ lasts ++ last ∷ [] → sinks' ≡ sinks ++ sink ∷ [] → IsCount took' (took + its_took) → IsCount away' (away + its_away)
      → IsWorkerJoined Serves jobs taken taken' (told sink) its_took its_away first last → AreJoined Serves told jobs taken firsts rest lasts sinks took away
      → AreJoined Serves told jobs taken' firsts left lasts' sinks' took' away'
  one_joined taken taken' firsts rest left lasts lasts' sinks sinks' first last sink took its_took took' away its_away away' cut add adds all others one h =
      let theirs = one.0 in
      let worked = one.3 in
      let share : WorkerTurns W J E = record { first = first; turns = worked.turns; last = last } in
      let shares = h.shares ++ share ∷ [] in
      record {
        shares = shares;
        refusals = h.refusals ++ worked.refusals;
        began = map_snoc (λ (s : WorkerTurns W J E). s.first) h.shares share left ∙ ap (λ l. firsts_of h.shares ++ l) (sym cut) ∙ h.began;
        left = sym (append-nil (lasts_of shares)) ∙ map_snoc (λ (s : WorkerTurns W J E). s.last) h.shares share [] ∙ ap (λ l. l ++ last ∷ []) h.left ∙ sym add;
        chained = all_snoc (IsChain Serves) h.shares share h.chained worked.chained;
        each = subst (λ (ks : List K). Pairwise (IsTold told jobs) shares ks) (sym adds)
            (pairs_snoc (IsTold told jobs) h.shares sinks share sink h.each (all_given jobs theirs one.2 worked.turns (told sink) worked.each));
        once = λ w.
            let was = h.once w in
            let its = worked.once w in
            let grown : weight_of w taken' ≡ weight_of w taken + weight_of w theirs = ap (weight_of w) one.1 ∙ weights_join w taken theirs in
            let tells : weight_told w (told_by told sinks') ≡ weight_told w (told_by told sinks) + weight_told w (told sink) =
            ap (λ ks. weight_told w (told_by told ks)) adds ∙ ap (weight_told w) (told_snoc told sinks sink) ∙ told_join w (told_by told sinks) (told sink) in
            let refuses = refused_join w h.refusals worked.refusals in
            omega (arith, was, its, grown, tells, refuses);
        all = sum_counted took its_took took' (length taken) (length theirs) (length taken') h.all worked.all all (ap length one.1 ∙ length-append taken theirs);
        others = sum_counted away its_away away' (length h.refusals) (length worked.refusals) (length (h.refusals ++ worked.refusals)) h.others worked.others others (length-append h.refusals worked.refusals);
      }

  -- all were joined, and took as many as were given
  pub all_told : (v : Knowledge J) (firsts lasts : List W) (sinks : List K) (took away count : ℕ) → v.given ≡ jobs → AreOfGiven v → count ≡ length jobs → count < 2 ^ 64 → took ≡ count
      → AreJoined Serves told jobs v.taken firsts [] lasts sinks took away → ToldOnce Serves told jobs firsts lasts sinks took away
  all_told v firsts lasts sinks took away count given known is small same h =
      let fits = known.count in
      let many : length v.given ≡ length jobs = ap length given in
      let took_is : took ≡ length v.taken = h.all (omega (arith, fits, many, is, small)) in
      let full : length v.taken ≡ length v.given = omega (arith, took_is, same, is, many) in
      let ones = as_many (told_by told sinks) h.refusals v.taken h.once in
      let away_is : away ≡ length h.refusals = h.others (omega (arith, ones, fits, many, is, small)) in
      record {
        shares = h.shares;
        refusals = h.refusals;
        began = sym (append-nil (firsts_of h.shares)) ∙ h.began;
        left = h.left;
        chained = h.chained;
        each = h.each;
        once = λ w. h.once w ∙ known.once full w ∙ ap (weight_below w) many;
        all = same ∙ is;
        others = away_is;
        counted = omega (arith, ones, away_is, took_is);
      }

  -- the turns of all workers, with all that their sinks were told
  each_told : (shares : List (WorkerTurns W J E)) (sinks : List K) → Pairwise (IsTold told jobs) shares sinks → Pairwise (IsTurnOfGiven jobs) (turns_of shares) (told_by told sinks)
  each_told [] [] h = tt
  each_told [] (sink ∷ sinks) h = absurd h
  each_told (share ∷ shares) [] h = absurd h
  each_told (share ∷ shares) (sink ∷ sinks) h = pairs_join (IsTurnOfGiven jobs) share.turns (told sink) (turns_of shares) (told_by told sinks) h.0 (each_told shares sinks h.1)

  -- where no two had one place
  only_once : (done turns : List (ServedTurn W J E)) (ends : List E) → ends_of turns ≡ ends → length done ≤ length ends → IsPermutation done turns ⊎ (length turns < length done) → IsPermutation done turns
  only_once done turns ends is fits (inl h) = h
  only_once done turns ends is fits (inr h) = let same : length (ends_of turns) ≡ length ends = ap length is in let as_long = length-map turns (λ (turn : ServedTurn W J E). turn.end) in absurd (omega (arith, same, as_long, fits, h))

  -- and each place has an end
  pub all_ordered : (firsts lasts : List W) (sinks : List K) (given refused : ℕ) (ends : List E) → ToldOnce Serves told jobs firsts lasts sinks given refused → AreInOrder given (told_by told sinks) ends → ServedOnce Serves jobs firsts ends lasts
  all_ordered firsts lasts sinks given refused ends h order =
      let all = told_by told sinks in
      let places = order.0 in
      let each = each_told h.shares sinks h.each in
      let is_given = h.all in
      let empty = order.1 in
      let collected = all_placed jobs (turns_of h.shares) all places each [] (collected_none jobs places order.2 (omega (arith, empty, is_given))) in
      let as_long = length-map ends (λ end. Some end) in
      let same : length (map (λ end. Some end) ends) ≡ length (placed places all) = ap length order.3 in
      let kept = placed_length places all in
      let full : length ends ≡ length jobs = omega (arith, as_long, same, kept, empty, is_given) in
      let filled = subst (λ ps. AreFilled jobs ps collected.turns) (sym order.3) collected.filled in
      let ended = filled_ends jobs ends collected.turns filled in
      let turns = pairs_length (IsTurnOfGiven jobs) (turns_of h.shares) all each in
      let counted = h.counted in
      record {
        turns = collected.turns;
        shares = h.shares;
        served = filled_jobs jobs ends collected.turns full filled;
        ended = ended;
        began = h.began;
        left = h.left;
        chained = h.chained;
        once = only_once (turns_of h.shares) collected.turns ends ended (omega (arith, turns, counted, full, is_given)) collected.once;
      }
