-- What a worker's calls do with its open jobs.
use Rattle.std.proofs.Common.{◌≡◌, ◌≢◌, ◌+◌, ℕ, zero, suc, List, [], ◌∷◌, ◌++◌, length, set, get_or, cond, count_by, is_some, Option, Some, None, refl, sym, ap, subst, ◌∙◌, inl, inr, arith}
use Rattle.std.specs.Prelude.{IfSome, slice_get, slice_index_or}
use Rattle.std.proofs.lemmas.Bool.{cases_eq}
use Rattle.std.proofs.lemmas.List.{get_or-set_other}
use Rattle.std.proofs.lemmas.List.Sums.{sum_by-cons}
use Rattle.slab.specs.Slab.{Slab, get, slab_len, with_value, Updates}
use Rattle.slab.proofs.SlabLemmas.{Updates-with_value}
use Rattle.ghost_state.proofs.Lists.{get-before, get-last}
use Rattle.job_pool.specs.Lists.{Pairwise}
use Rattle.job_pool.specs.Turns.{ServedTurn, TurnChain}
use Rattle.job_pool.specs.Ends.{IsTurnOfTaken, IsCount, HasWorked, weight_told, weight_refused}
use Rattle.job_pool.specs.Queue.{weight_of}
use Rattle.job_pool.specs.OpenJobs.{OpenJobView, IsOpenJob, AreOpenJobs, OpenJobsStand, weight_slot, weight_open}
use Rattle.job_pool.proofs.Rule.{weights_join}
use Rattle.job_pool.specs.declared.queue.NumberedJob.{NumberedJob}
use Rattle.job_pool.specs.declared.worker.NumberedEnd.{NumberedEnd}
use Rattle.job_pool.proofs.Lists.{pairs_more, pairs_snoc}
use Rattle.job_pool.proofs.Ends.{taken_more, chain_more}

-- another value in a slot that has one
pub count-set : {O : Type 0} → (slots : List (Option O)) (key : ℕ) (was now : O) → get_or slots key None ≡ Some was → count_by is_some (set slots key (Some now)) ≡ count_by is_some slots
count-set [] key was now found = absurd (cc)
count-set (None ∷ rest) zero was now found = absurd (cc)
count-set (Some x ∷ rest) zero was now found = omega (arith, sum_by-cons (λ o. cond (is_some o) 1 0) (Some now) rest, sum_by-cons (λ o. cond (is_some o) 1 0) (Some x) rest)
count-set (x ∷ rest) (suc key) was now found =
    omega (arith, count-set rest key was now found, sum_by-cons (λ o. cond (is_some o) 1 0) x (set rest key (Some now)), sum_by-cons (λ o. cond (is_some o) 1 0) x rest)

module _ {S J : Type 0} (service : S) where
  open_more : (taken more : List (NumberedJob J)) (open_job : OpenJobView S J) → IsOpenJob service taken open_job → IsOpenJob service (taken ++ more) open_job
  open_more taken more open_job p = record { of_service = p.of_service; place = p.place; next = p.next; at = get-before taken more p.place p.next p.at; number = p.number; job = p.job }

  open_if : (taken more : List (NumberedJob J)) (slot : Option (OpenJobView S J)) → IfSome slot (IsOpenJob service taken) → IfSome slot (IsOpenJob service (taken ++ more))
  open_if taken more None p = p
  open_if taken more (Some open_job) p = open_more taken more open_job p

  -- what is open at a slot
  pub open_job_at : (taken : List (NumberedJob J)) (jobs : Slab (OpenJobView S J)) (slot : ℕ) (open_job : OpenJobView S J) → AreOpenJobs service taken jobs → get jobs slot ≡ Some open_job → IsOpenJob service taken open_job
  open_job_at taken jobs slot open_job p found = subst (λ (o : Option (OpenJobView S J)). IfSome o (IsOpenJob service taken)) found (p slot)

  -- one slot has this now
  open_now : (taken : List (NumberedJob J)) (jobs jobs' : Slab (OpenJobView S J)) (slot : ℕ) (now : Option (OpenJobView S J)) → Updates jobs jobs' slot now → IfSome now (IsOpenJob service taken) → AreOpenJobs service taken jobs → AreOpenJobs service taken jobs'
  open_now taken jobs jobs' slot now updates is p = λ other. elim (cases_eq other slot) [
    | inl same ↦ subst (λ (o : Option (OpenJobView S J)). IfSome o (IsOpenJob service taken)) (sym (ap (λ (n : ℕ). get jobs' n) same ∙ updates.changed)) is
    | inr differs ↦ subst (λ (o : Option (OpenJobView S J)). IfSome o (IsOpenJob service taken)) (sym (updates.others other differs)) (p other)
  ]

-- the weights of what is told, refused and open
refused_more : (w : ℕ → ℕ) (refused : List ℕ) (n : ℕ) → weight_refused w (refused ++ n ∷ []) ≡ weight_refused w refused + w n
refused_more w [] n = omega arith
refused_more w (x ∷ refused) n = let rest = refused_more w refused n in omega (arith, rest)

told_more : {E : Type 0} (w : ℕ → ℕ) (told : List (NumberedEnd E)) (one : NumberedEnd E) → weight_told w (told ++ one ∷ []) ≡ weight_told w told + w one.number
told_more w [] one = omega arith
told_more w (x ∷ told) one = let rest = told_more w told one in omega (arith, rest)

module _ {S J : Type 0} (w : ℕ → ℕ) where
  slots_same : (old new : List (Option (OpenJobView S J))) → ((k : ℕ) → get_or new k None ≡ get_or old k None) → weight_open w new ≡ weight_open w old
  slots_same [] [] h = refl
  slots_same [] (n ∷ ns) h = let head : weight_slot w n ≡ 0 = ap (weight_slot w) (h 0) in let rest : weight_open w ns ≡ 0 = slots_same [] ns (λ k. h (suc k)) in omega (arith, head, rest)
  slots_same (o ∷ os) [] h = let head : 0 ≡ weight_slot w o = ap (weight_slot w) (h 0) in let rest : 0 ≡ weight_open w os = slots_same os [] (λ k. h (suc k)) in omega (arith, head, rest)
  slots_same (o ∷ os) (n ∷ ns) h = let head : weight_slot w n ≡ weight_slot w o = ap (weight_slot w) (h 0) in let rest = slots_same os ns (λ k. h (suc k)) in omega (arith, head, rest)

  none_open : (slots : List (Option (OpenJobView S J))) → count_by is_some slots ≡ 0 → weight_open w slots ≡ 0
  none_open [] none = refl
  none_open (None ∷ slots) none = let rest = none_open slots (omega (arith, none, sum_by-cons (λ o. cond (is_some o) 1 0) None slots)) in omega (arith, rest)
  none_open (Some open_job ∷ slots) none = absurd (omega (arith, none, sum_by-cons (λ o. cond (is_some o) 1 0) (Some open_job) slots))

  -- one slot has this now
  slots_updated : (old new : List (Option (OpenJobView S J))) (key : ℕ) (o : Option (OpenJobView S J)) → get_or new key None ≡ o → ((k : ℕ) → k ≢ key → get_or new k None ≡ get_or old k None) → weight_open w new + weight_slot w (get_or old key None) ≡ weight_open w old + weight_slot w o
  slots_updated [] [] zero o at others = let here : 0 ≡ weight_slot w o = ap (weight_slot w) at in omega (arith, here)
  slots_updated [] (n ∷ ns) zero o at others =
      let here : weight_slot w n ≡ weight_slot w o = ap (weight_slot w) at in
      let rest : weight_open w ns ≡ 0 = slots_same [] ns (λ k. others (suc k) (λ e. absurd (omega (arith, e)))) in
      omega (arith, here, rest)
  slots_updated (x ∷ xs) [] zero o at others =
      let here : 0 ≡ weight_slot w o = ap (weight_slot w) at in
      let rest : 0 ≡ weight_open w xs = slots_same xs [] (λ k. others (suc k) (λ e. absurd (omega (arith, e)))) in
      omega (arith, here, rest)
  slots_updated (x ∷ xs) (n ∷ ns) zero o at others =
      let here : weight_slot w n ≡ weight_slot w o = ap (weight_slot w) at in
      let rest = slots_same xs ns (λ k. others (suc k) (λ e. absurd (omega (arith, e)))) in
      omega (arith, here, rest)
  slots_updated [] [] (suc key) o at others = let here : 0 ≡ weight_slot w o = ap (weight_slot w) at in omega (arith, here)
  slots_updated [] (n ∷ ns) (suc key) o at others =
      let head : weight_slot w n ≡ 0 = ap (weight_slot w) (others 0 (λ e. absurd (omega (arith, e)))) in
      let rest : weight_open w ns + 0 ≡ 0 + weight_slot w o = slots_updated [] ns key o at (λ k d. others (suc k) (λ e. d (omega (arith, e)))) in
      omega (arith, head, rest)
  slots_updated (x ∷ xs) [] (suc key) o at others =
      let head : 0 ≡ weight_slot w x = ap (weight_slot w) (others 0 (λ e. absurd (omega (arith, e)))) in
      let rest = slots_updated xs [] key o at (λ k d. others (suc k) (λ e. d (omega (arith, e)))) in
      omega (arith, head, rest)
  slots_updated (x ∷ xs) (n ∷ ns) (suc key) o at others =
      let head : weight_slot w n ≡ weight_slot w x = ap (weight_slot w) (others 0 (λ e. absurd (omega (arith, e)))) in
      let rest = slots_updated xs ns key o at (λ k d. others (suc k) (λ e. d (omega (arith, e)))) in
      omega (arith, head, rest)

-- what is removed after a write was there before it
removed : {O : Type 0} → (slots after : Slab O) (key : ℕ) (now : O) → Updates (with_value slots key now) after key None → Updates slots after key None
removed slots after key now p = record {
  changed = p.changed;
  others = λ other differs. p.others other differs ∙ get_or-set_other slots.slots key other (Some now) None differs;
}

-- and what is removed without one is removed after it
pub rewritten : {O : Type 0} → (slots after : Slab O) (key : ℕ) (now : O) → Updates slots after key None → Updates (with_value slots key now) after key None
rewritten slots after key now p = record {
  changed = p.changed;
  others = λ other differs. p.others other differs ∙ sym (get_or-set_other slots.slots key other (Some now) None differs);
}

module _ {S W J E : Type 0} (Serves : W → J → W → E → Type 0) (service : S) where
  pub jobs_new : (taken : List (NumberedJob J)) (told : List (NumberedEnd E)) (refused : List ℕ) (first last : W) (jobs : Slab (OpenJobView S J)) → taken ≡ [] → told ≡ [] → refused ≡ [] → last ≡ first → jobs.slots ≡ []
      → OpenJobsStand Serves service taken told refused first last jobs
  jobs_new taken told refused first last jobs t o r w s = record {
    turns = [];
    chained = w;
    each = subst (λ (l : List (NumberedEnd E)). Pairwise (IsTurnOfTaken {W = W} taken) [] l) (sym o) tt;
    are_open = λ slot. subst (λ (l : List (Option (OpenJobView S J))). IfSome (slice_index_or l slot None) (IsOpenJob service taken)) (sym s) tt;
    once = λ wt.
        let a : weight_told wt told ≡ 0 = ap (weight_told wt) o in
        let b : weight_refused wt refused ≡ 0 = ap (weight_refused wt) r in
        let d : weight_open wt jobs.slots ≡ 0 = ap (weight_open wt) s in
        let e : weight_of wt taken ≡ 0 = ap (weight_of wt) t in
        omega (arith, a, b, d, e);
  }

  module _ (taken taken' : List (NumberedJob J)) (told told' : List (NumberedEnd E)) (refused refused' : List ℕ) (first last last' : W) (jobs jobs' : Slab (OpenJobView S J)) (next : NumberedJob J)
      (takes : taken' ≡ taken ++ next ∷ []) (same_told : told' ≡ told) (same_worker : last' ≡ last) (p : OpenJobsStand Serves service taken told refused first last jobs) where
    abbrev still_each : Pairwise (IsTurnOfTaken taken') p.turns told'
    still_each =
        subst (λ (l : List (NumberedJob J)). Pairwise (IsTurnOfTaken l) p.turns told') (sym takes)
        (subst (λ (l : List (NumberedEnd E)). Pairwise (IsTurnOfTaken (taken ++ next ∷ [])) p.turns l) (sym same_told)
        (pairs_more (taken_more taken (next ∷ [])) p.turns told p.each))

    abbrev still_open : AreOpenJobs service taken' jobs
    still_open = λ slot. subst (λ (l : List (NumberedJob J)). IfSome (get jobs slot) (IsOpenJob service l)) (sym takes) (open_if service taken (next ∷ []) (get jobs slot) (p.are_open slot))

    -- a job was taken, and refused
    abbrev more_taken_by : (wt : ℕ → ℕ) → weight_of wt taken' ≡ weight_of wt taken + (wt next.number + 0)
    more_taken_by wt = ap (weight_of wt) takes ∙ weights_join wt taken (next ∷ [])

    pub jobs_refused : (n : ℕ) → n ≡ next.number → refused' ≡ refused ++ n ∷ [] → jobs' ≡ jobs → OpenJobsStand Serves service taken' told' refused' first last' jobs'
    jobs_refused n is r s = subst (λ (x : Slab (OpenJobView S J)). OpenJobsStand Serves service taken' told' refused' first last' x) (sym s) (record {
      turns = p.turns;
      chained = subst (TurnChain Serves first p.turns) (sym same_worker) p.chained;
      each = still_each;
      are_open = still_open;
      once = λ wt.
          let before = p.once wt in
          let more = more_taken_by wt in
          let put : weight_refused wt refused' ≡ weight_refused wt refused + wt n = ap (weight_refused wt) r ∙ refused_more wt refused n in
          let same : wt n ≡ wt next.number = ap wt is in
          let still : weight_told wt told' ≡ weight_told wt told = ap (weight_told wt) same_told in
          omega (arith, before, more, put, same, still);
    })

    -- a job was taken, and opened
    pub jobs_opened : (slot : ℕ) (open_job : OpenJobView S J) → refused' ≡ refused → open_job.service ≡ service → open_job.number ≡ next.number → open_job.job ≡ next.job → get jobs slot ≡ None → Updates jobs jobs' slot (Some open_job)
        → OpenJobsStand Serves service taken' told' refused' first last' jobs'
    jobs_opened slot open_job r of_service number job vacant updates =
        let at : slice_get taken' (length taken) ≡ Some next = subst (λ (l : List (NumberedJob J)). slice_get l (length taken) ≡ Some next) (sym takes) (get-last taken next) in
        record {
          turns = p.turns;
          chained = subst (TurnChain Serves first p.turns) (sym same_worker) p.chained;
          each = still_each;
          are_open = open_now service taken' jobs jobs' slot (Some open_job) updates (record { of_service = of_service; place = length taken; next = next; at = at; number = number; job = job }) still_open;
          once = λ wt.
              let before = p.once wt in
              let more = more_taken_by wt in
              let put = slots_updated wt jobs.slots jobs'.slots slot (Some open_job) updates.changed updates.others in
              let was : weight_slot wt (get jobs slot) ≡ 0 = ap (weight_slot wt) vacant in
              let same : wt open_job.number ≡ wt next.number = ap wt number in
              let kept : weight_refused wt refused' ≡ weight_refused wt refused = ap (weight_refused wt) r in
              let still : weight_told wt told' ≡ weight_told wt told = ap (weight_told wt) same_told in
              omega (arith, before, more, put, was, same, kept, still);
        }

  module _ (taken : List (NumberedJob J)) (told : List (NumberedEnd E)) (refused : List ℕ) (first last last' : W) (jobs : Slab (OpenJobView S J)) (slot : ℕ) (open_job now : OpenJobView S J)
      (found : get jobs slot ≡ Some open_job) (same : now ≡ record open_job { ended = now.ended }) (p : OpenJobsStand Serves service taken told refused first last jobs) where
    abbrev was : IsOpenJob service taken open_job
    was = open_job_at service taken jobs slot open_job p.are_open found

    abbrev is_now : IsOpenJob service taken now
    is_now = subst (IsOpenJob service taken) (sym same) (record { of_service = was.of_service; place = was.place; next = was.next; at = was.at; number = was.number; job = was.job })

    pub same_len : slab_len (with_value jobs slot now) ≡ slab_len jobs
    same_len = count-set jobs.slots slot open_job now found

    -- an open job took a step
    pub jobs_stepped : last' ≡ last → OpenJobsStand Serves service taken told refused first last' (with_value jobs slot now)
    jobs_stepped w = record {
      turns = p.turns;
      chained = subst (TurnChain Serves first p.turns) (sym w) p.chained;
      each = p.each;
      are_open = open_now service taken jobs (with_value jobs slot now) slot (Some now) (Updates-with_value jobs slot now (ap is_some found)) is_now p.are_open;
      once = λ wt.
          let before = p.once wt in
          let updates = Updates-with_value jobs slot now (ap is_some found) in
          let put = slots_updated wt jobs.slots (with_value jobs slot now).slots slot (Some now) updates.changed updates.others in
          let had : weight_slot wt (get jobs slot) ≡ wt open_job.number = ap (weight_slot wt) found in
          let number : wt now.number ≡ wt open_job.number = ap (λ (v : OpenJobView S J). wt v.number) same in
          omega (arith, before, put, had, number);
    }

    -- and came to its end
    pub jobs_ended : (mid : W) (after : Slab (OpenJobView S J)) (told' : List (NumberedEnd E)) (one : NumberedEnd E) → mid ≡ last → Serves mid now.job last' one.end → one.number ≡ now.number → told' ≡ told ++ one ∷ []
        → Updates (with_value jobs slot now) after slot None → OpenJobsStand Serves service taken told' refused first last' after
    jobs_ended mid after told' one w serves number tells updates =
        let s = is_now in
        let job : now.job ≡ s.next.job = s.job in
        let turn : ServedTurn W J E = record { before = mid; job = now.job; after = last'; end = one.end } in
        record {
          turns = p.turns ++ turn ∷ [];
          chained = chain_more Serves first p.turns mid now.job last' one.end (subst (TurnChain Serves first p.turns) (sym w) p.chained) serves;
          each = subst (λ (l : List (NumberedEnd E)). Pairwise (IsTurnOfTaken taken) (p.turns ++ turn ∷ []) l) (sym tells)
              (pairs_snoc (IsTurnOfTaken taken) p.turns told turn one p.each (record { place = s.place; next = s.next; at = s.at; number = number ∙ s.number; job = job; end = refl }));
          are_open = open_now service taken jobs after slot None (removed jobs after slot now updates) tt p.are_open;
          once = λ wt.
              let before = p.once wt in
              let gone = removed jobs after slot now updates in
              let put = slots_updated wt jobs.slots after.slots slot None gone.changed gone.others in
              let had : weight_slot wt (get jobs slot) ≡ wt open_job.number = ap (weight_slot wt) found in
              let same_number : wt now.number ≡ wt open_job.number = ap (λ (v : OpenJobView S J). wt v.number) same in
              let one_number : wt one.number ≡ wt now.number = ap wt number in
              let more : weight_told wt told' ≡ weight_told wt told + wt one.number = ap (weight_told wt) tells ∙ told_more wt told one in
              omega (arith, before, put, had, same_number, one_number, more);
        }

  -- where none is open, each was served or refused
  pub jobs_done : (taken : List (NumberedJob J)) (told : List (NumberedEnd E)) (refused : List ℕ) (first last : W) (jobs : Slab (OpenJobView S J)) (took away : ℕ) → OpenJobsStand Serves service taken told refused first last jobs
      → slab_len jobs ≡ 0 → IsCount took (length taken) → IsCount away (length refused) → HasWorked Serves taken told took away first last
  jobs_done taken told refused first last jobs took away p empty all others = record {
    turns = p.turns;
    refusals = refused;
    chained = p.chained;
    each = p.each;
    once = λ w. let before = p.once w in let none = none_open w jobs.slots empty in omega (arith, before, none);
    all = all;
    others = others;
  }
