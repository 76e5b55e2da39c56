-- The turns of the workers, and the places of their ends.
use Rattle.std.proofs.Common.{◌≡◌, ◌∙◌, ◌<◌, ◌≤◌, ◌⊎◌, ℕ, zero, suc, List, [], ◌∷◌, ◌++◌, length, length-append, map, arith, ap, sym, refl, subst, inl, inr}
use Rattle.std.proofs.lemmas.List.{append-nil, append_assoc, length-set}
use Rattle.std.proofs.lemmas.List.Sorted.{IsPermutation-refl, IsPermutation-trans, IsPermutation-sym, IsPermutation-cons, IsPermutation-middle, IsPermutation-push_more, length_permutation}
use Rattle.std.specs.List.Sorted.{IsPermutation}
use Rattle.std.specs.Prelude.{Option, Some, None, slice_get, slice_set}
use Rattle.job_pool.specs.Lists.{Every, Pairwise}
use Rattle.job_pool.specs.Turns.{ServedTurn, TurnChain, jobs_of, ends_of}
use Rattle.job_pool.specs.declared.queue.NumberedJob.{NumberedJob}
use Rattle.job_pool.specs.declared.worker.NumberedEnd.{NumberedEnd}
use Rattle.job_pool.specs.Queue.{IsNumbered}
use Rattle.job_pool.specs.Ends.{IsTurnOfTaken, IsTurnOfGiven, AreFilled, AreCollected, placed}
use Rattle.ghost_state.proofs.Lists.{get-before}
use Rattle.job_pool.proofs.Lists.{all_at, pairs_more}
use Rattle.std.proofs.lemmas.Option.{none-some as none_some}

module _ {E : Type 0} where
  pub placed_join : (places : List (Option E)) (ends more : List (NumberedEnd E)) → placed places (ends ++ more) ≡ placed (placed places ends) more
  placed_join places [] more = refl
  placed_join places (one ∷ ends) more = placed_join (slice_set places one.number (Some one.end)) ends more

  pub placed_length : (places : List (Option E)) (ends : List (NumberedEnd E)) → length (placed places ends) ≡ length places
  placed_length places [] = refl
  placed_length places (one ∷ rest) = placed_length (slice_set places one.number (Some one.end)) rest ∙ length-set places one.number (Some one.end)

-- empty places, at most one a job
filled_none : {J E : Type 0} (W : Type 0) (jobs : List J) (places : List (Option E)) → Every (λ place. place ≡ None) places → length places ≤ length jobs → AreFilled {W = W} jobs places []
filled_none W jobs [] h fit = tt
filled_none W [] (place ∷ places) h fit = absurd (omega (arith, fit))
filled_none W (job ∷ jobs) (None ∷ places) h fit = filled_none W jobs places h.1 (omega (arith, fit))
filled_none W (job ∷ jobs) (Some end ∷ places) h fit = absurd (none_some end (sym h.0))

module _ {W J E : Type 0} where
  pub taken_more : (taken more : List (NumberedJob J)) (turn : ServedTurn W J E) (done : NumberedEnd E) → IsTurnOfTaken taken turn done → IsTurnOfTaken (taken ++ more) turn done
  taken_more taken more turn done d = record { place = d.place; next = d.next; at = get-before taken more d.place d.next d.at; number = d.number; job = d.job; end = d.end }

  -- what was taken was given
  given_of_taken : (jobs : List J) (taken : List (NumberedJob J)) → Every (IsNumbered jobs) taken → (turn : ServedTurn W J E) (done : NumberedEnd E) → IsTurnOfTaken taken turn done → IsTurnOfGiven jobs turn done
  given_of_taken jobs taken all turn done d =
      let at : slice_get jobs d.next.number ≡ Some d.next.job = all_at (IsNumbered jobs) taken d.place d.next all d.at in
      record { at = subst (λ (k : ℕ). slice_get jobs k ≡ Some turn.job) (sym d.number) (at ∙ ap (λ j. Some j) (sym d.job)); end = d.end }

  pub all_given : (jobs : List J) (taken : List (NumberedJob J)) → Every (IsNumbered jobs) taken → (turns : List (ServedTurn W J E)) (dones : List (NumberedEnd E)) → Pairwise (IsTurnOfTaken taken) turns dones → Pairwise (IsTurnOfGiven jobs) turns dones
  all_given jobs taken all turns dones each = pairs_more (given_of_taken jobs taken all) turns dones each

  module _ (Serves : W → J → W → E → Type 0) where
    pub chain_more : (first : W) (turns : List (ServedTurn W J E)) (mid : W) (job : J) (last : W) (end : E) → TurnChain Serves first turns mid → Serves mid job last end
        → TurnChain Serves first (turns ++ record { before = mid; job = job; after = last; end = end } ∷ []) last
    chain_more first [] mid job last end is serves = (is, serves, refl)
    chain_more first (turn ∷ turns) mid job last end h serves = (h.0, h.1, chain_more turn.after turns mid job last end h.2 serves)

  -- none has ended
  pub collected_none : (jobs : List J) (places : List (Option E)) → Every (λ place. place ≡ None) places → length places ≤ length jobs → AreCollected {W = W} jobs [] places
  collected_none jobs places none fit = record { turns = []; filled = filled_none W jobs places none fit; once = inl (IsPermutation-refl []) }

  -- an end is laid into its place, which was empty or not
  abbrev Laid : List J → List (ServedTurn W J E) → List (Option E) → ℕ → ServedTurn W J E → Type 0
  Laid jobs turns places n turn = (now : List (ServedTurn W J E)) × AreFilled jobs (slice_set places n (Some turn.end)) now × (IsPermutation (turn ∷ turns) now ⊎ (length now ≤ length turns))

  behind : (turn other : ServedTurn W J E) (turns now : List (ServedTurn W J E)) → IsPermutation (turn ∷ turns) now ⊎ (length now ≤ length turns) → IsPermutation (turn ∷ other ∷ turns) (other ∷ now) ⊎ (length (other ∷ now) ≤ length (other ∷ turns))
  behind turn other turns now (inl h) =
      inl (IsPermutation-trans (turn ∷ other ∷ turns) (other ∷ turn ∷ turns) (other ∷ now) (IsPermutation-sym (other ∷ turn ∷ turns) (turn ∷ other ∷ turns) (IsPermutation-middle (other ∷ []) turn turns)) (IsPermutation-cons other (turn ∷ turns) now h))
  behind turn other turns now (inr h) = inr (omega (arith, h))

  laid : (jobs : List J) (places : List (Option E)) (turns : List (ServedTurn W J E)) (n : ℕ) (turn : ServedTurn W J E) → slice_get jobs n ≡ Some turn.job → AreFilled jobs places turns → Laid jobs turns places n turn
  laid jobs [] [] zero turn at h = ([], tt, inr (omega arith))
  laid jobs [] [] (suc n) turn at h = ([], tt, inr (omega arith))
  laid jobs [] (other ∷ turns) n turn at h = absurd h
  laid [] (place ∷ places) turns n turn at h = absurd h
  laid (job ∷ jobs) (None ∷ places) turns zero turn at h = let same : job ≡ turn.job = cc in (turn ∷ turns, (sym same, refl, h), inl (IsPermutation-refl (turn ∷ turns)))
  laid (job ∷ jobs) (None ∷ places) turns (suc n) turn at h = laid jobs places turns n turn at h
  laid (job ∷ jobs) (Some end ∷ places) [] n turn at h = absurd h
  laid (job ∷ jobs) (Some end ∷ places) (other ∷ turns) zero turn at h = let same : job ≡ turn.job = cc in (turn ∷ turns, (sym same, refl, h.2), inr (omega arith))
  laid (job ∷ jobs) (Some end ∷ places) (other ∷ turns) (suc n) turn at h =
      let rest = laid jobs places turns n turn at h.2 in (other ∷ rest.0, (h.0, h.1, rest.1), behind turn other turns rest.0 rest.2)

  counted : (done turns now : List (ServedTurn W J E)) (turn : ServedTurn W J E) → IsPermutation done turns ⊎ (length turns < length done) → IsPermutation (turn ∷ turns) now ⊎ (length now ≤ length turns)
      → IsPermutation (done ++ turn ∷ []) now ⊎ (length now < length (done ++ turn ∷ []))
  counted done turns now turn (inl h) (inl k) = inl (IsPermutation-push_more done turns now turn h k)
  counted done turns now turn (inl h) (inr k) = let same = length_permutation done turns h in let long = length-append done (turn ∷ []) in inr (omega (arith, same, long, k))
  counted done turns now turn (inr h) (inl k) = let same = length_permutation (turn ∷ turns) now k in let long = length-append done (turn ∷ []) in inr (omega (arith, same, long, h))
  counted done turns now turn (inr h) (inr k) = let long = length-append done (turn ∷ []) in inr (omega (arith, long, h, k))

  one_placed : (jobs : List J) (done : List (ServedTurn W J E)) (places : List (Option E)) (turn : ServedTurn W J E) (one : NumberedEnd E) → IsTurnOfGiven jobs turn one → AreCollected jobs done places
      → AreCollected jobs (done ++ turn ∷ []) (slice_set places one.number (Some one.end))
  one_placed jobs done places turn one is h =
      let now = laid jobs places h.turns one.number turn is.at h.filled in
      subst (λ (end : E). AreCollected jobs (done ++ turn ∷ []) (slice_set places one.number (Some end))) is.end
      (record { turns = now.0; filled = now.1; once = counted done h.turns now.0 turn h.once now.2 })

  pub all_placed : (jobs : List J) (turns : List (ServedTurn W J E)) (ends : List (NumberedEnd E)) (places : List (Option E)) → Pairwise (IsTurnOfGiven jobs) turns ends
      → (done : List (ServedTurn W J E)) → AreCollected jobs done places → AreCollected jobs (done ++ turns) (placed places ends)
  all_placed jobs [] [] places each done h = subst (λ l. AreCollected jobs l places) (sym (append-nil done)) h
  all_placed jobs [] (one ∷ ends) places each done h = absurd each
  all_placed jobs (turn ∷ turns) [] places each done h = absurd each
  all_placed jobs (turn ∷ turns) (one ∷ ends) places each done h =
      subst (λ l. AreCollected jobs l (placed places (one ∷ ends))) (append_assoc done (turn ∷ []) turns)
      (all_placed jobs turns ends (slice_set places one.number (Some one.end)) each.1 (done ++ turn ∷ []) (one_placed jobs done places turn one each.0 h))

  -- where each place has an end, each job was served
  pub filled_jobs : (jobs : List J) (ends : List E) (turns : List (ServedTurn W J E)) → length ends ≡ length jobs → AreFilled jobs (map (λ end. Some end) ends) turns → jobs_of turns ≡ jobs
  filled_jobs [] [] [] many h = refl
  filled_jobs [] [] (turn ∷ turns) many h = absurd h
  filled_jobs [] (end ∷ ends) turns many h = absurd h
  filled_jobs (job ∷ jobs) [] turns many h = absurd (omega (arith, many))
  filled_jobs (job ∷ jobs) (end ∷ ends) [] many h = absurd h
  filled_jobs (job ∷ jobs) (end ∷ ends) (turn ∷ turns) many h = let rest = filled_jobs jobs ends turns (omega (arith, many)) h.2 in λ i. h.0 i ∷ rest i

  pub filled_ends : (jobs : List J) (ends : List E) (turns : List (ServedTurn W J E)) → AreFilled jobs (map (λ end. Some end) ends) turns → ends_of turns ≡ ends
  filled_ends jobs [] [] h = refl
  filled_ends jobs [] (turn ∷ turns) h = absurd h
  filled_ends [] (end ∷ ends) turns h = absurd h
  filled_ends (job ∷ jobs) (end ∷ ends) [] h = absurd h
  filled_ends (job ∷ jobs) (end ∷ ends) (turn ∷ turns) h = let rest = filled_ends jobs ends turns h.2 in λ i. h.1 i ∷ rest i
