-- Each move keeps the rule of the queue.
use Rattle.std.proofs.Common.{◌≡◌, ◌≢◌, ◌∙◌, ◌+◌, ◌≤◌, arith, length-append, ℕ, zero, suc, true, true≢false, List, [], ◌∷◌, ◌++◌, length, set, sym, refl, ap, subst, ⊎_elim}
use Rattle.job_pool.specs.Lists.{Every}
use Rattle.std.specs.Prelude.{Some, slice_get}
use mathlib.Core.Option.{some, some-ne-none, some-injective}
use lib.ListN.{get_elem?}
use Rattle.crossbeam_queue.specs.Fifo.{Pushes, Pops, Forks, Merges, Learns}
use Rattle.crossbeam_queue.proofs.Lists.{at_set, at_snoc}
use Rattle.job_pool.specs.declared.queue.NumberedJob.{NumberedJob}
use Rattle.job_pool.specs.declared.queue.Task.{Task}
use Rattle.job_pool.specs.declared.queue.Task.TheVariants.{Serve, Stop}
use Rattle.job_pool.specs.declared.queue.Knowledge.{Knowledge}
use Rattle.job_pool.specs.Queue.{leader, newcomer, after_push, after_pop, together, IsNumbered, IsAcceptedTask, IsNextTask, WasGiven, Agrees, AllGiven, AreOfGiven, waiting, taken_by, weight_of, weight_waiting, weight_taken, weight_below}
use Rattle.ghost_state.proofs.Lists.{get-before, get-last}
use Rattle.job_pool.proofs.Lists.{all_more, all_join, all_snoc}

module _ {J : Type 0} where
  abbrev Each : (ℕ → Knowledge J → Type 0) → List (Knowledge J) → Type 0
  Each F views = (port : ℕ) (v : Knowledge J) → get_elem? views port ≡ some v → F port v

  each_set : (F : ℕ → Knowledge J → Type 0) (views : List (Knowledge J)) (port : ℕ) (w : Knowledge J) → F port w → ((j : ℕ) (u : Knowledge J) → j ≢ port → get_elem? views j ≡ some u → F j u) → Each F (set views port w)
  each_set F views port w mine others j u e = ⊎_elim (λ (x : (j ≡ port) × (w ≡ u)). subst (λ (y : ℕ × Knowledge J). F y.0 y.1) (λ i. (sym x.0 i, x.1 i)) mine)
      (λ (x : (j ≢ port) × (get_elem? views j ≡ some u)). others j u x.0 x.1) (at_set views port j w u e)

  -- who has taken none fits anywhere
  new_agrees : (lead : ℕ) (jobs : List J) (j : ℕ) → Agrees lead jobs j newcomer
  new_agrees lead jobs j = ((λ p. absurd (true≢false (sym p))), tt)

  more_of : (jobs : List J) (job : J) (next : NumberedJob J) → IsNumbered jobs next → IsNumbered (jobs ++ job ∷ []) next
  more_of jobs job next at = get-before jobs (job ∷ []) next.number next.job at

  more_given : (Accepts : J → Type 0) (jobs : List J) (job : J) (x : Task J) → WasGiven Accepts jobs x → WasGiven Accepts (jobs ++ job ∷ []) x
  more_given Accepts jobs job (Serve next) h = (more_of jobs job next h.0, h.1)
  more_given Accepts jobs job Stop h = tt

  taken_set : (views : List (Knowledge J)) (port : ℕ) (v w : Knowledge J) → get_elem? views port ≡ some v → taken_by (set views port w) + length v.taken ≡ taken_by views + length w.taken
  taken_set [] port v w at = absurd (some-ne-none v (sym at))
  taken_set (u ∷ views) zero v w at = let same : length u.taken ≡ length v.taken = ap (λ (x : Knowledge J). length x.taken) (some-injective u v at) in omega (arith, same)
  taken_set (u ∷ views) (suc port) v w at = let rest = taken_set views port v w at in omega (arith, rest)

  taken_snoc : (views : List (Knowledge J)) (v : Knowledge J) → taken_by (views ++ v ∷ []) ≡ taken_by views + length v.taken
  taken_snoc [] v = omega arith
  taken_snoc (u ∷ views) v = let rest = taken_snoc views v in omega (arith, rest)

  taken_at : (views : List (Knowledge J)) (port : ℕ) (v : Knowledge J) → get_elem? views port ≡ some v → length v.taken ≤ taken_by views
  taken_at [] port v at = absurd (some-ne-none v (sym at))
  taken_at (u ∷ views) zero v at = let same : length u.taken ≡ length v.taken = ap (λ (x : Knowledge J). length x.taken) (some-injective u v at) in omega (arith, same)
  taken_at (u ∷ views) (suc port) v at = let rest = taken_at views port v at in omega (arith, rest)

  waiting_snoc : (tasks : List (Task J)) (task : Task J) → waiting (tasks ++ task ∷ []) ≡ waiting tasks + waiting (task ∷ [])
  waiting_snoc [] task = omega arith
  waiting_snoc (Serve next ∷ tasks) task = let rest = waiting_snoc tasks task in omega (arith, rest)
  waiting_snoc (Stop ∷ tasks) task = let rest = waiting_snoc tasks task in omega (arith, rest)

  -- a view that took as much takes the place of one
  taken_same : (views : List (Knowledge J)) (port : ℕ) (v w : Knowledge J) → get_elem? views port ≡ some v → length w.taken ≡ length v.taken → taken_by (set views port w) ≡ taken_by views
  taken_same views port v w at same = let here = taken_set views port v w at in omega (arith, here, same)

  -- and so with weights
  module _ (w : ℕ → ℕ) where
    no_jobs : (taken : List (NumberedJob J)) → length taken ≡ 0 → weight_of w taken ≡ 0
    no_jobs [] none = refl
    no_jobs (next ∷ taken) none = absurd (omega (arith, none))

    weights_set : (views : List (Knowledge J)) (port : ℕ) (v u : Knowledge J) → get_elem? views port ≡ some v → weight_taken w (set views port u) + weight_of w v.taken ≡ weight_taken w views + weight_of w u.taken
    weights_set [] port v u at = absurd (some-ne-none v (sym at))
    weights_set (x ∷ views) zero v u at = let same : weight_of w x.taken ≡ weight_of w v.taken = ap (λ (y : Knowledge J). weight_of w y.taken) (some-injective x v at) in omega (arith, same)
    weights_set (x ∷ views) (suc port) v u at = let rest = weights_set views port v u at in omega (arith, rest)

    -- who has taken all leaves nothing for others
    none_weigh : (views : List (Knowledge J)) → taken_by views ≡ 0 → weight_taken w views ≡ 0
    none_weigh [] none = refl
    none_weigh (x ∷ views) none = let here = no_jobs x.taken (omega (arith, none)) in let rest = none_weigh views (omega (arith, none)) in omega (arith, here, rest)

    all_weigh : (views : List (Knowledge J)) (port : ℕ) (v : Knowledge J) → get_elem? views port ≡ some v → taken_by views ≡ length v.taken → weight_taken w views ≡ weight_of w v.taken
    all_weigh [] port v at all = absurd (some-ne-none v (sym at))
    all_weigh (x ∷ views) zero v at all =
        let same : weight_of w x.taken ≡ weight_of w v.taken = ap (λ (y : Knowledge J). weight_of w y.taken) (some-injective x v at) in
        let long : length x.taken ≡ length v.taken = ap (λ (y : Knowledge J). length y.taken) (some-injective x v at) in
        let rest = none_weigh views (omega (arith, all, long)) in
        omega (arith, same, rest)
    all_weigh (x ∷ views) (suc port) v at all =
        let some_of = taken_at views port v at in
        let here = no_jobs x.taken (omega (arith, all, some_of)) in
        let rest = all_weigh views port v at (omega (arith, all, some_of)) in
        omega (arith, here, rest)

    none_waiting : (tasks : List (Task J)) → waiting tasks ≡ 0 → weight_waiting w tasks ≡ 0
    none_waiting [] none = refl
    none_waiting (Serve next ∷ tasks) none = absurd (omega (arith, none))
    none_waiting (Stop ∷ tasks) none = none_waiting tasks none

    weights_snoc : (views : List (Knowledge J)) (v : Knowledge J) → weight_taken w (views ++ v ∷ []) ≡ weight_taken w views + weight_of w v.taken
    weights_snoc [] v = omega arith
    weights_snoc (u ∷ views) v = let rest = weights_snoc views v in omega (arith, rest)

    pub weights_join : (xs ys : List (NumberedJob J)) → weight_of w (xs ++ ys) ≡ weight_of w xs + weight_of w ys
    weights_join [] ys = omega arith
    weights_join (x ∷ xs) ys = let rest = weights_join xs ys in omega (arith, rest)

    waiting_more : (tasks : List (Task J)) (task : Task J) → weight_waiting w (tasks ++ task ∷ []) ≡ weight_waiting w tasks + weight_waiting w (task ∷ [])
    waiting_more [] task = omega arith
    waiting_more (Serve next ∷ tasks) task = let rest = waiting_more tasks task in omega (arith, rest)
    waiting_more (Stop ∷ tasks) task = let rest = waiting_more tasks task in omega (arith, rest)

    below_more : (jobs : List J) (job : J) → weight_below w (length (jobs ++ job ∷ [])) ≡ weight_below w (length jobs) + w (length jobs)
    below_more jobs job =
        let long : length (jobs ++ job ∷ []) ≡ suc (length jobs) = omega (arith, length-append jobs (job ∷ [])) in
        ap (weight_below w) long

    weights_same : (views : List (Knowledge J)) (port : ℕ) (v u : Knowledge J) → get_elem? views port ≡ some v → weight_of w u.taken ≡ weight_of w v.taken → weight_taken w (set views port u) ≡ weight_taken w views
    weights_same views port v u at same = let here = weights_set views port v u at in omega (arith, here, same)

  module _ (Accepts : J → Type 0) where
    pub begins : AllGiven {J = J} Accepts [] (leader ∷ [])
    begins = (0, [], tt, first, refl, λ w. refl) where
      first : Each (Agrees 0 []) (leader ∷ [])
      first zero v e = subst (λ (u : Knowledge J). Agrees 0 [] 0 u) (some-injective leader v e) ((λ _. (refl, refl)), tt)
      first (suc j) v e = absurd (some-ne-none v (sym e))

    pub pushes : (n port : ℕ) (v : Knowledge J) (x : Task J) → v.leads ≡ true → IsNextTask v.given x → IsAcceptedTask Accepts x → Pushes (AllGiven Accepts) n port v x (λ w. w ≡ after_push v x)
    pushes n port v Stop leads come for items views room h at = let mine = h.3 port v at in (
      v,
      (
        h.0,
        h.1,
        all_snoc (WasGiven Accepts h.1) items Stop h.2 tt,
        each_set (Agrees h.0 h.1) views port v mine (λ j u other e. h.3 j u e),
        let same = taken_same views port v v at refl in let more = waiting_snoc items Stop in let was = h.4 in omega (arith, same, more, was),
        λ w. let same = weights_same w views port v v at refl in let more = waiting_more w items Stop in let was = h.5 w in omega (arith, same, more, was),
      ),
      refl,
    )
    pushes n port v (Serve next) leads come for items views room h at =
        let mine = h.3 port v at in
        let jobs : List J = h.1 ++ next.job ∷ [] in
        let w : Knowledge J = after_push v (Serve next) in
        let number : next.number ≡ length h.1 = come ∙ ap length (mine.0 leads).1 in
        let here : IsNumbered jobs next = subst (λ (k : ℕ). slice_get jobs k ≡ Some next.job) (sym number) (get-last h.1 next.job) in (
          w,
          (
            h.0,
            jobs,
            all_snoc (WasGiven Accepts jobs) items (Serve next) (all_more (more_given Accepts h.1 next.job) items h.2) (here, for),
            each_set (Agrees h.0 jobs) views port w ((λ _. ((mine.0 leads).0, ap (λ l. l ++ next.job ∷ []) (mine.0 leads).1)), all_more (more_of h.1 next.job) v.taken mine.1)
                (λ j u other e. ((λ p. absurd (other (((h.3 j u e).0 p).0 ∙ sym (mine.0 leads).0))), all_more (more_of h.1 next.job) u.taken (h.3 j u e).1)),
            let same = taken_same views port v w at refl in let more = waiting_snoc items (Serve next) in let long = length-append h.1 (next.job ∷ []) in let was = h.4 in omega (arith, same, more, long, was),
            λ wt.
                let same = weights_same wt views port v w at refl in
                let more = waiting_more wt items (Serve next) in
                let long = below_more wt h.1 next.job in
                let at_end : wt next.number ≡ wt (length h.1) = ap wt number in
                let was = h.5 wt in
                omega (arith, same, more, long, at_end, was),
          ),
          refl,
        )

    pub pops : (port : ℕ) (v : Knowledge J) → Pops (AllGiven Accepts) port v (λ x w. (w ≡ after_pop v x) × IsAcceptedTask Accepts x)
    pops port v Stop items views h at = let mine = h.3 port v at in (v, (h.0, h.1, h.2.1, each_set (Agrees h.0 h.1) views port v mine (λ j u other e. h.3 j u e), let same = taken_same views port v v at refl in let was = h.4 in omega (arith, same, was), λ w. let same = weights_same w views port v v at refl in let was = h.5 w in omega (arith, same, was)), (refl, tt))
    pops port v (Serve next) items views h at =
        let mine = h.3 port v at in
        let w : Knowledge J = after_pop v (Serve next) in
        let same = taken_set views port v w at in let long = length-append v.taken (next ∷ []) in let was = h.4 in
        (w, (h.0, h.1, h.2.1, each_set (Agrees h.0 h.1) views port w (mine.0, all_snoc (IsNumbered h.1) v.taken next mine.1 h.2.0.0) (λ j u other e. h.3 j u e), omega (arith, same, long, was), λ wt. let one = weights_set wt views port v w at in let joined = weights_join wt v.taken (next ∷ []) in let before = h.5 wt in omega (arith, one, joined, before)), (refl, h.2.0.1))

    pub forks : (port : ℕ) (v : Knowledge J) → Forks (AllGiven Accepts) port v v newcomer
    forks port v items views h at =
        let vs : List (Knowledge J) = set views port v in
        let old : Each (Agrees h.0 h.1) vs = each_set (Agrees h.0 h.1) views port v (h.3 port v at) (λ j u other e. h.3 j u e) in
        let same = taken_same views port v v at refl in let more = taken_snoc vs newcomer in let was = h.4 in
        (h.0, h.1, h.2, λ j u e. ⊎_elim (λ x. old j u x) (λ (is : newcomer ≡ u). subst (λ (y : Knowledge J). Agrees h.0 h.1 j y) is (new_agrees h.0 h.1 j)) (at_snoc vs newcomer u j e), omega (arith, same, more, was), λ w. let one = weights_same w views port v v at refl in let longer = weights_snoc w vs newcomer in let before = h.5 w in omega (arith, one, longer, before))

    pub merges : (port : ℕ) (v : Knowledge J) (other : ℕ) (u : Knowledge J) → Merges (AllGiven Accepts) port v other u (together v u) newcomer
    merges port v other u items views h at two at' =
        let both : Knowledge J = together v u in
        let mine = h.3 port v at in
        let vs : List (Knowledge J) = set views port both in
        let was : get_elem? views other ≡ some u = ⊎_elim (λ x. absurd (two x.0)) (λ x. x.1) (at_set views port other both u at') in
        let now : Each (Agrees h.0 h.1) vs = each_set (Agrees h.0 h.1) views port both (mine.0, all_join (IsNumbered h.1) v.taken u.taken mine.1 (h.3 other u was).1) (λ j y apart e. h.3 j y e) in
        let more = taken_set views port v both at in let gone = taken_set vs other u newcomer at' in let long = length-append v.taken u.taken in let count = h.4 in
        (h.0, h.1, h.2, each_set (Agrees h.0 h.1) vs other newcomer (new_agrees h.0 h.1 other) (λ j y apart e. now j y e), omega (arith, more, gone, long, count), λ w. let put = weights_set w views port v both at in let left = weights_set w vs other u newcomer at' in let joined = weights_join w v.taken u.taken in let before = h.5 w in omega (arith, put, left, joined, before))

    pub learns : (port : ℕ) (v : Knowledge J) → v.leads ≡ true → Learns (AllGiven Accepts) port v (λ items. AreOfGiven v)
    learns port v leads items views h at =
        let mine = h.3 port v at in let some_of = taken_at views port v at in let all = h.4 in
        let given : h.1 ≡ v.given = sym (mine.0 leads).1 in
        let many : length h.1 ≡ length v.given = ap length given in
        record {
          numbered = subst (λ (jobs : List J). Every (IsNumbered jobs) v.taken) given mine.1;
          count = omega (arith, some_of, all, many);
          once = λ full w.
              let none : waiting items ≡ 0 = omega (arith, some_of, all, many, full) in
              let here = all_weigh w views port v at (omega (arith, some_of, all, many, full)) in
              let left = none_waiting w items none in
              let before = h.5 w in
              let same : weight_below w (length h.1) ≡ weight_below w (length v.given) = ap (weight_below w) many in
              omega (arith, here, left, before, same);
        }
