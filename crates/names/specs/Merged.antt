-- Two lists of entries as one, in the order of the keys.
use Rattle.std.specs.Prelude.{◌≡◌, Bool, true, false, List, [], ◌∷◌, None}
use Rattle.std.specs.declared.cmp.Ordering.{Ordering}
use Rattle.std.specs.BTreeMap.{is_at, insert_entry}
use Rattle.std.specs.List.Sorted.{IsStrictlySortedBy}
use Rattle.std.specs.Map.{lookup, keys_of}

module _ {K X : Type 0} (cmp : K → K → Ordering) where
  -- the entries of both, each at its place in the order
  abbrev pub merged : List (K × X) → List (K × X) → List (K × X)
  merged xs [] = xs
  merged xs (y ∷ ys) = insert_entry cmp (merged xs ys) y.0 y.1

  -- the keys of each ascend; the first has no key but those of which the test holds, and the second none of these
  pub record AreApart (is_first : K → Bool) (xs ys : List (K × X)) : Type 0 where
    pub first_ordered : IsStrictlySortedBy cmp (keys_of xs)
    pub second_ordered : IsStrictlySortedBy cmp (keys_of ys)
    pub not_first : (q : K) → is_first q ≡ false → lookup (is_at (cmp q)) xs ≡ None
    pub not_second : (q : K) → is_first q ≡ true → lookup (is_at (cmp q)) ys ≡ None
