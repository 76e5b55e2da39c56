-- The counts of a key's events are a naming.
use Rattle.std.proofs.Common.{◌≡◌, ℕ, ◌+◌, Bool, true, false, not, ◌||◌, cond, List, [], ◌∷◌, ◌++◌, length, arith}
use Rattle.std.specs.Prelude.{nat_eq, filter, IsTrue, ◌↔◌}
use Rattle.std.specs.List.{list_any}
use Rattle.std.proofs.lemmas.Bool.Decides.{nat_tests}
use Rattle.std.proofs.lemmas.List.Elements.{filter-append}
use Rattle.std.proofs.lemmas.List.{length-append}
use Rattle.riak_msgs.specs.KeyOrder.{key_eq}
use Rattle.sibling_register.specs.History.{Event}
use Rattle.sibling_register.specs.Naming.{IsEquivalence, IsNamingOf}
use Rattle.sibling_register.specs.Counting.{by_count}

abbrev same : ℕ → ℕ → Bool
same a b = nat_eq a b

nat_eq-equivalence : IsEquivalence same
nat_eq-equivalence = record {
  reflexive = λ a. grind (arith, nat_tests);
  symmetric = λ a b h. grind (arith, nat_tests);
  transitive = λ a b c h k. grind (arith, nat_tests);
}

module _ {X : Type 0} where
  -- a test keeps as many elements of both, exactly where none of the first pass it
  passing : (p : X → Bool) (a b : List X) → nat_eq (length (filter p b)) (length (filter p a) + length (filter p b)) ≡ not (list_any p a)
  passing p [] b = grind (arith, nat_tests)
  passing p (x ∷ a) b = by (p x) (passing p a b)
    where
      by : (t : Bool) → nat_eq (length (filter p b)) (length (filter p a) + length (filter p b)) ≡ not (list_any p a)
          → nat_eq (length (filter p b)) (length (cond t (x ∷ filter p a) (filter p a)) + length (filter p b)) ≡ not (t || list_any p a)
      by true h = grind (arith, nat_tests)
      by false h = h

  counts : (p : X → Bool) (a b : List X) → nat_eq (length (filter p b)) (length (filter p (a ++ b))) ≡ not (list_any p a)
  counts p a b = rw (filter-append p a b, length-append (filter p a) (filter p b)) (passing p a b)

iff_of : (a b : Bool) → a ≡ b → IsTrue a ↔ IsTrue b
iff_of a b e = rw e ((λ h. h), (λ h. h))

pub counting : {V : Type 0} (history : List (Event V ℕ)) → IsNamingOf by_count history
counting history = record {
  equivalence = nat_eq-equivalence;
  names = λ later between position key is here there. iff_of _ _ (counts (λ event. key_eq event.key key) between position);
}
