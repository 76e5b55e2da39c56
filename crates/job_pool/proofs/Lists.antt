-- Lists: what each element has, and what stands at an index.
use Rattle.std.proofs.Common.{◌≡◌, ℕ, zero, suc, List, [], ◌∷◌, ◌++◌, length, ap, refl, subst}
use Rattle.job_pool.specs.Lists.{Every, Pairwise}
use Rattle.std.specs.Prelude.{Some, slice_get}
use Rattle.std.proofs.lemmas.Option.{none-some as none_some}

module _ {A : Type 0} where
  module _ {P Q : A → Type 0} where
    pub all_more : ((x : A) → P x → Q x) → (xs : List A) → Every P xs → Every Q xs
    all_more f [] h = tt
    all_more f (x ∷ xs) h = (f x h.0, all_more f xs h.1)

  module _ (P : A → Type 0) where
    pub all_join : (xs ys : List A) → Every P xs → Every P ys → Every P (xs ++ ys)
    all_join [] ys h k = k
    all_join (x ∷ xs) ys h k = (h.0, all_join xs ys h.1 k)

    pub all_snoc : (xs : List A) (x : A) → Every P xs → P x → Every P (xs ++ x ∷ [])
    all_snoc xs x h p = all_join xs (x ∷ []) h (p, tt)

    pub all_right : (xs ys : List A) → Every P (xs ++ ys) → Every P ys
    all_right [] ys h = h
    all_right (x ∷ xs) ys h = all_right xs ys h.1

    pub all_at : (xs : List A) (k : ℕ) (x : A) → Every P xs → slice_get xs k ≡ Some x → P x
    all_at [] k x h at = absurd (none_some x at)
    all_at (y ∷ xs) zero x h at = let same : y ≡ x = cc in subst P same h.0
    all_at (y ∷ xs) (suc k) x h at = all_at xs k x h.1 at

module _ {A B : Type 0} {P Q : A → B → Type 0} where
  pub pairs_more : ((x : A) (y : B) → P x y → Q x y) → (xs : List A) (ys : List B) → Pairwise P xs ys → Pairwise Q xs ys
  pairs_more f [] [] h = tt
  pairs_more f [] (y ∷ ys) h = absurd h
  pairs_more f (x ∷ xs) [] h = absurd h
  pairs_more f (x ∷ xs) (y ∷ ys) h = (f x y h.0, pairs_more f xs ys h.1)

module _ {A B : Type 0} (P : A → B → Type 0) where
  pub pairs_length : (xs : List A) (ys : List B) → Pairwise P xs ys → length xs ≡ length ys
  pairs_length [] [] h = refl
  pairs_length [] (y ∷ ys) h = absurd h
  pairs_length (x ∷ xs) [] h = absurd h
  pairs_length (x ∷ xs) (y ∷ ys) h = ap suc (pairs_length xs ys h.1)

  pub pairs_join : (xs : List A) (ys : List B) (us : List A) (vs : List B) → Pairwise P xs ys → Pairwise P us vs → Pairwise P (xs ++ us) (ys ++ vs)
  pairs_join [] [] us vs h k = k
  pairs_join [] (y ∷ ys) us vs h k = absurd h
  pairs_join (x ∷ xs) [] us vs h k = absurd h
  pairs_join (x ∷ xs) (y ∷ ys) us vs h k = (h.0, pairs_join xs ys us vs h.1 k)

  pub pairs_snoc : (xs : List A) (ys : List B) (x : A) (y : B) → Pairwise P xs ys → P x y → Pairwise P (xs ++ x ∷ []) (ys ++ y ∷ [])
  pairs_snoc [] [] x y h p = (p, tt)
  pairs_snoc [] (v ∷ ys) x y h p = absurd h
  pairs_snoc (u ∷ xs) [] x y h p = absurd h
  pairs_snoc (u ∷ xs) (v ∷ ys) x y h p = (h.0, pairs_snoc xs ys x y h.1 p)
