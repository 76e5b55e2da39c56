-- What the workers of a run counted in all.
use Rattle.std.proofs.Common.{◌≡◌, ◌∙◌, ◌+◌, ◌≤◌, ◌^◌, ℕ, Bool, true, false, List, [], ◌∷◌, ◌++◌, arith, ap, subst, sym}
use Rattle.std.specs.Prelude.{MatchBool}
use Rattle.stats_book.specs.Counting.{ArePastFull, both, number_of, sum_of, zeros}
use Rattle.stats_book.specs.declared.totals.Totals.{Totals}
use Rattle.worker_pool.proofs.Gathering.{both_assoc, both_none, none_both, number_both, sum_append}

-- one more at the end
pub sum_more : (done : List Totals) (one : Totals) → sum_of (done ++ one ∷ []) ≡ both (sum_of done) one
sum_more done one = sum_append done (one ∷ []) ∙ ap (both (sum_of done)) (both_none one)

still_past : (last before one rest all : ℕ) → last ≤ before + one → (before + one) + rest ≡ all → last ≤ all
still_past last before one rest all past is = omega (arith, past, is)

-- where one more would pass the last number, all of them together do
pub past_on : (done : List Totals) (one : Totals) (rest : List Totals) → ArePastFull (sum_of done) one → ArePastFull zeros (sum_of (done ++ one ∷ rest))
past_on done one rest past =
    let quantity = past.0 in
    let number = number_of quantity in
    let before = both (sum_of done) one in
    let same : both before (sum_of rest) ≡ both zeros (sum_of (done ++ one ∷ rest)) = both_assoc (sum_of done) one (sum_of rest) ∙ sym (sum_append done (one ∷ rest)) ∙ sym (none_both (sum_of (done ++ one ∷ rest))) in
    let whole = ap number same in
    let first = number_both quantity (sum_of done) one in
    let second = number_both quantity before (sum_of rest) in
    let last = number_both quantity zeros (sum_of (done ++ one ∷ rest)) in
    let sums : (number (sum_of done) + number one) + number (sum_of rest) ≡ number zeros + number (sum_of (done ++ one ∷ rest)) = ap (λ (n : ℕ). n + number (sum_of rest)) first ∙ second ∙ whole ∙ sym last in
    (quantity, still_past (2 ^ 64) (number (sum_of done)) (number one) (number (sum_of rest)) (number zeros + number (sum_of (done ++ one ∷ rest))) past.1 sums)

-- a loop that adds one after another
pub sum_on : (added : Bool) (totals totals' more one : Totals) (done : List Totals) → MatchBool added (totals' ≡ both totals more) (totals' ≡ totals) → added ≡ true → more ≡ one → totals ≡ sum_of done → totals' ≡ sum_of (done ++ one ∷ [])
sum_on true totals totals' more one done is was same sum = is ∙ ap (λ (t : Totals). both totals t) same ∙ ap (λ (t : Totals). both t one) sum ∙ sym (sum_more done one)
sum_on false totals totals' more one done is was same sum = absurd (cc was)

pub past_here : (totals more one : Totals) (done rest left all : List Totals) → ArePastFull totals more → more ≡ one → totals ≡ sum_of done → left ≡ one ∷ rest → done ++ left ≡ all → ArePastFull zeros (sum_of all)
past_here totals more one done rest left all past same sum next is =
    subst (λ (l : List Totals). ArePastFull zeros (sum_of l)) (ap (λ (l : List Totals). done ++ l) (sym next) ∙ is)
    (past_on done one rest (subst (λ (t : Totals). ArePastFull t one) sum (subst (λ (t : Totals). ArePastFull totals t) same past)))
