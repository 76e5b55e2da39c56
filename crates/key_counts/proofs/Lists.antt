-- Lists that grow.
use Rattle.std.proofs.Common.{◌≡◌, ℕ, List, [], ◌∷◌, ◌++◌, length, subst}
use Rattle.std.specs.Prelude.{Some, slice_get, zero, suc}

-- what holds of each element at its index, with one more
pub each-push : {A : Type 0} (Is : ℕ → A → Type 0) (all : List A) (more : A) → ((i : ℕ) (x : A) → slice_get all i ≡ Some x → Is i x) → Is (length all) more
    → (i : ℕ) (x : A) → slice_get (all ++ more ∷ []) i ≡ Some x → Is i x
each-push Is [] more each one zero x at = let same : more ≡ x = cc at in subst (Is 0) same one
each-push Is [] more each one (suc i) x at = cc at
each-push Is (first ∷ all) more each one zero x at = each zero x at
each-push Is (first ∷ all) more each one (suc i) x at = each-push (λ n y. Is (suc n) y) all more (λ n y there. each (suc n) y there) one i x at
