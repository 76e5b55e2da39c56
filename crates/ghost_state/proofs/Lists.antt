-- Places of a list: one that was set, the last, and those of a list that goes on.
use Rattle.std.proofs.Common.{◌≡◌, ℕ, zero, suc, List, [], ◌∷◌, ◌++◌, length, refl}
use Rattle.std.specs.Prelude.{Some, slice_get, slice_set}

module _ {A : Type 0} where
  pub set-here : (xs : List A) (i : ℕ) (old new : A) → slice_get xs i ≡ Some old → slice_get (slice_set xs i new) i ≡ Some new
  set-here [] i old new h = cc
  set-here (x ∷ xs) zero old new h = refl
  set-here (x ∷ xs) (suc i) old new h = set-here xs i old new h

  pub get-last : (xs : List A) (x : A) → slice_get (xs ++ x ∷ []) (length xs) ≡ Some x
  get-last [] x = refl
  get-last (y ∷ xs) x = get-last xs x

  pub get-before : (xs ys : List A) (i : ℕ) (x : A) → slice_get xs i ≡ Some x → slice_get (xs ++ ys) i ≡ Some x
  get-before [] ys i x h = cc
  get-before (y ∷ xs) ys zero x h = h
  get-before (y ∷ xs) ys (suc i) x h = get-before xs ys i x h
