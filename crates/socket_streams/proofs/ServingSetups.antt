-- A fact of each element of a list that has one more.
use Rattle.std.proofs.Common.{List, [], ◌∷◌, ◌++◌}
use Rattle.job_pool.specs.Lists.{Every}

pub every_snoc : {A : Type 0} (P : A → Type 0) (xs : List A) (x : A) → Every P xs → P x → Every P (xs ++ x ∷ [])
every_snoc P [] x all one = (one, tt)
every_snoc P (y ∷ ys) x all one = (all.0, every_snoc P ys x all.1 one)
