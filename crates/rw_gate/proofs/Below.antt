-- Positions below a number.
use Rattle.std.proofs.Common.{ℕ, ◌<◌, ◌≤◌, List, [], ◌∷◌, ◌++◌, arith}
use Rattle.std.proofs.lemmas.List.Elements.{All-weaker, All-push}
use Rattle.rw_gate.specs.Histories.{AreBelow}

pub below_more : (m n : ℕ) (ks : List ℕ) → m ≤ n → AreBelow m ks → AreBelow n ks
below_more m n ks le = All-weaker (λ k. k < m) (λ k. k < n) (λ k less. omega (arith, le, less)) ks

pub below_push : (m n k : ℕ) (ks : List ℕ) → m ≤ n → k < n → AreBelow m ks → AreBelow n (ks ++ k ∷ [])
below_push m n k ks le here all = All-push (λ j. j < n) ks k (below_more m n ks le all) here
