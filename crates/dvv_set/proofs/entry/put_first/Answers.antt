use Rattle.std.proofs.Common.{◌≡◌, ℕ, suc, List, [], ◌∷◌, ◌++◌, ◌∙◌, true, refl, sym, arith, length}
use Rattle.std.specs.Prelude.{◌==◌}
use Rattle.std.proofs.lemmas.Bool.Decides.{nat_tests}
use Rattle.dvv_set.proofs.entry.put_first.Goals as goal

is_none : (n : ℕ) → (n == 0) ≡ true → n ≡ 0
is_none n h = grind (arith, nat_tests)

none_before : {A : Type 0} (xs : List A) (x : A) → (length xs == 0) ≡ true → xs ++ x ∷ [] ≡ x ∷ xs
none_before [] x h = refl
none_before (y ∷ ys) x h = let no : suc (length ys) ≡ 0 = is_none _ h in absurd (omega (arith, no))

pub insert-requires : goal.insert-requires
insert-requires g c = let fits = c.well_formed in (omega arith, (omega arith, c.requires))

pub push_reserved-requires : goal.push_reserved-requires
push_reserved-requires g c = let fits = c.well_formed in (omega arith, c.requires)

pub returns-then-is_empty : goal.returns-then-is_empty
returns-then-is_empty g c =
    c.push_reserved.ensures.items ∙ none_before c.args.values.now.items c.args.value (sym c.is_empty.ensures ∙ c.if-is_empty.true)
