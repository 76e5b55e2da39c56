-- What is counted, so long as it is a number of 64 bits; and what weighs one each.
use Rattle.std.proofs.Common.{◌≡◌, ◌∙◌, ◌+◌, ℕ, List, [], ◌∷◌, ◌++◌, length, length-append, arith, ap, refl}
use Rattle.job_pool.specs.Queue.{weight_of}
use Rattle.job_pool.specs.Ends.{IsCount, weight_told, weight_refused}
use Rattle.job_pool.specs.declared.queue.NumberedJob.{NumberedJob}
use Rattle.job_pool.specs.declared.worker.NumberedEnd.{NumberedEnd}

pub sum_counted : (a b c n m all : ℕ) → IsCount a n → IsCount b m → IsCount c (a + b) → all ≡ n + m → IsCount c all
sum_counted a b c n m all first second sum is = λ small.
    let one : a ≡ n = first (omega (arith, is, small)) in
    let two : b ≡ m = second (omega (arith, is, small)) in
    sum (omega (arith, one, two, is, small)) ∙ omega (arith, one, two, is)

pub one_counted : {A : Type 0} (xs ys : List A) (x : A) (count now : ℕ) → ys ≡ xs ++ x ∷ [] → IsCount count (length xs) → IsCount now (count + 1) → IsCount now (length ys)
one_counted xs ys x count now more was is = sum_counted count 1 now (length xs) 1 (length ys) was (λ _. refl) is (ap length more ∙ length-append xs (x ∷ []))

told_ones : {E : Type 0} (told : List (NumberedEnd E)) → weight_told (λ _. 1) told ≡ length told
told_ones [] = refl
told_ones (one ∷ rest) = let more = told_ones rest in omega (arith, more)

refused_ones : (refused : List ℕ) → weight_refused (λ _. 1) refused ≡ length refused
refused_ones [] = refl
refused_ones (n ∷ rest) = let more = refused_ones rest in omega (arith, more)

taken_ones : {J : Type 0} (taken : List (NumberedJob J)) → weight_of (λ _. 1) taken ≡ length taken
taken_ones [] = refl
taken_ones (next ∷ rest) = let more = taken_ones rest in omega (arith, more)

-- where the weights are the same, there are as many
pub as_many : {J E : Type 0} (told : List (NumberedEnd E)) (refused : List ℕ) (taken : List (NumberedJob J)) → ((w : ℕ → ℕ) → weight_told w told + weight_refused w refused ≡ weight_of w taken) → length told + length refused ≡ length taken
as_many told refused taken once = let ones = once (λ _. 1) in let a = told_ones told in let b = refused_ones refused in let c = taken_ones taken in omega (arith, ones, a, b, c)

pub told_join : {E : Type 0} (w : ℕ → ℕ) (xs ys : List (NumberedEnd E)) → weight_told w (xs ++ ys) ≡ weight_told w xs + weight_told w ys
told_join w [] ys = omega arith
told_join w (x ∷ xs) ys = let rest = told_join w xs ys in omega (arith, rest)

pub refused_join : (w : ℕ → ℕ) (xs ys : List ℕ) → weight_refused w (xs ++ ys) ≡ weight_refused w xs + weight_refused w ys
refused_join w [] ys = omega arith
refused_join w (x ∷ xs) ys = let rest = refused_join w xs ys in omega (arith, rest)
