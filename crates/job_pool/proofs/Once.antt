-- What a run comes to in which each job was served once.
use Rattle.std.proofs.Common.{◌≡◌, ◌∙◌, ◌+◌, ℕ, List, [], ◌∷◌, length, arith, ap, sym, refl, subst}
use Rattle.std.proofs.lemmas.List.{length-map}
use Rattle.std.proofs.lemmas.List.Elements.{All-from_recursion, recursion_from_All}
use Rattle.std.proofs.lemmas.List.Sums.{sum_by-cons, sum_by-append}
use Rattle.std.proofs.lemmas.List.Sorted.{All-permutation, sum_by-IsPermutation}
use Rattle.std.specs.List.{sum_by}
use Rattle.std.specs.List.Sorted.{IsPermutation}
use Rattle.job_pool.specs.Lists.{Every, Pairwise}
use Rattle.job_pool.specs.Turns.{ServedTurn, WorkerTurns, TurnChain, IsChain, ServedOnce, jobs_of, ends_of, firsts_of, lasts_of, turns_of}
use Rattle.job_pool.proofs.Lists.{all_join}

every_permuted : {A : Type 0} (P : A → Type 0) (xs ys : List A) → IsPermutation xs ys → Every P xs → Every P ys
every_permuted P xs ys is h = recursion_from_All P ys (All-permutation P xs ys is (All-from_recursion P xs h))

module _ {W J E : Type 0} (Serves : W → J → W → E → Type 0) where
  abbrev pub IsCall : ServedTurn W J E → Type 0
  IsCall turn = Serves turn.before turn.job turn.after turn.end

  chain_calls : (first : W) (turns : List (ServedTurn W J E)) (last : W) → TurnChain Serves first turns last → Every IsCall turns
  chain_calls first [] last h = tt
  chain_calls first (turn ∷ turns) last h = (h.1, chain_calls turn.after turns last h.2)

  share_calls : (shares : List (WorkerTurns W J E)) → Every (IsChain Serves) shares → Every IsCall (turns_of shares)
  share_calls [] h = tt
  share_calls (share ∷ shares) h = all_join IsCall share.turns (turns_of shares) (chain_calls share.first share.turns share.last h.0) (share_calls shares h.1)

  -- each turn was a call of the service
  pub once_calls : (jobs : List J) (firsts : List W) (ends : List E) (lasts : List W) (h : ServedOnce Serves jobs firsts ends lasts) → Every IsCall h.turns
  once_calls jobs firsts ends lasts h = every_permuted IsCall (turns_of h.shares) h.turns h.once (share_calls h.shares h.chained)

  -- some call of the service brought a job to an end
  abbrev pub MayServe : J → E → Type 0
  MayServe job end = (before : W) × (after : W) × Serves before job after end

  calls_pairs : (turns : List (ServedTurn W J E)) → Every IsCall turns → Pairwise MayServe (jobs_of turns) (ends_of turns)
  calls_pairs [] h = tt
  calls_pairs (turn ∷ turns) h = ((turn.before, turn.after, h.0), calls_pairs turns h.1)

  -- the ends are the jobs' ends
  pub once_pairs : (jobs : List J) (firsts : List W) (ends : List E) (lasts : List W) → ServedOnce Serves jobs firsts ends lasts → Pairwise MayServe jobs ends
  once_pairs jobs firsts ends lasts h =
      subst (λ es. Pairwise MayServe jobs es) h.ended (subst (λ js. Pairwise MayServe js (ends_of h.turns)) h.served (calls_pairs h.turns (once_calls jobs firsts ends lasts h)))

  -- as many workers come back
  pub once_length : (jobs : List J) (firsts : List W) (ends : List E) (lasts : List W) → ServedOnce Serves jobs firsts ends lasts → length lasts ≡ length firsts
  once_length jobs firsts ends lasts h =
      sym (ap length h.left) ∙ length-map h.shares (λ (share : WorkerTurns W J E). share.last) ∙ sym (length-map h.shares (λ (share : WorkerTurns W J E). share.first)) ∙ ap length h.began

  module _ (q : W → ℕ) where
    abbrev pub sum_before : List (ServedTurn W J E) → ℕ
    sum_before turns = sum_by (λ (turn : ServedTurn W J E). q turn.before) turns

    abbrev pub sum_after : List (ServedTurn W J E) → ℕ
    sum_after turns = sum_by (λ (turn : ServedTurn W J E). q turn.after) turns

    chain_sums : (first : W) (turns : List (ServedTurn W J E)) (last : W) → TurnChain Serves first turns last → q last + sum_before turns ≡ q first + sum_after turns
    chain_sums first [] last is = let same : q last ≡ q first = ap q is in omega (arith, same)
    chain_sums first (turn ∷ turns) last h =
        let rest = chain_sums turn.after turns last h.2 in
        let here : q turn.before ≡ q first = ap q h.0 in
        let before : sum_before (turn ∷ turns) ≡ q turn.before + sum_before turns = sum_by-cons (λ (t : ServedTurn W J E). q t.before) turn turns in
        let after : sum_after (turn ∷ turns) ≡ q turn.after + sum_after turns = sum_by-cons (λ (t : ServedTurn W J E). q t.after) turn turns in
        omega (arith, rest, here, before, after)

    share_sums : (shares : List (WorkerTurns W J E)) → Every (IsChain Serves) shares → sum_by q (lasts_of shares) + sum_before (turns_of shares) ≡ sum_by q (firsts_of shares) + sum_after (turns_of shares)
    share_sums [] h = refl
    share_sums (share ∷ shares) h =
        let rest = share_sums shares h.1 in
        let one = chain_sums share.first share.turns share.last h.0 in
        let last = sum_by-cons q share.last (lasts_of shares) in
        let first = sum_by-cons q share.first (firsts_of shares) in
        let before = sum_by-append (λ (t : ServedTurn W J E). q t.before) share.turns (turns_of shares) in
        let after = sum_by-append (λ (t : ServedTurn W J E). q t.after) share.turns (turns_of shares) in
        omega (arith, rest, one, last, first, before, after)

    -- what the workers' states gained in all is what the turns gained
    pub once_sums : (jobs : List J) (firsts : List W) (ends : List E) (lasts : List W) (h : ServedOnce Serves jobs firsts ends lasts) → sum_by q lasts + sum_before h.turns ≡ sum_by q firsts + sum_after h.turns
    once_sums jobs firsts ends lasts h =
        let all = share_sums h.shares h.chained in
        let before = sum_by-IsPermutation (λ (t : ServedTurn W J E). q t.before) (turns_of h.shares) h.turns h.once in
        let after = sum_by-IsPermutation (λ (t : ServedTurn W J E). q t.after) (turns_of h.shares) h.turns h.once in
        let left : sum_by q (lasts_of h.shares) ≡ sum_by q lasts = ap (sum_by q) h.left in
        let began : sum_by q (firsts_of h.shares) ≡ sum_by q firsts = ap (sum_by q) h.began in
        omega (arith, all, before, after, left, began)
