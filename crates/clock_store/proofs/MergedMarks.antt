-- The dead keys of two indexes that are merged: those that stay, and the least of them.
use Rattle.std.proofs.Common.{◌≡◌, ◌∙◌, refl, sym, ap, List, ℕ, Bool, true, false, cond}
use Rattle.std.specs.Prelude.{◌&&◌, ◌||◌, Option, Some, None, IfSome, IfNone, is_some}
use Rattle.std.specs.Option.{option_or, option_map}
use Rattle.std.specs.Borrow.{Bor}
use Rattle.std.specs.List.Sorted.{IsStrictlySortedBy}
use Rattle.std.specs.Map.{lookup, keys_of}
use Rattle.std.specs.declared.cmp.Ordering.{Ordering}
use Rattle.std.specs.declared.cmp.Ordering.TheVariants.{Less, Equal, Greater}
use Rattle.std.specs.Ordering.{is_le, is_lt, ordering_reverse}
use Rattle.std.specs.BTreeMap.{is_at}
use Rattle.std.specs.FinMap.Entries.{find}
use Rattle.riak_msgs.specs.declared.Key.{Key}
use Rattle.riak_msgs.specs.KeyOrder.{key_cmp}
use Rattle.names.specs.Merged.{merged, AreApart}
use Rattle.names.proofs.Merged.{lookup-merged, merged_sorted, found_first, found_second, apart_second, set_second}
use Rattle.vnode_machine.specs.Dead.{is_from}
use Rattle.vnode_machine.proofs.Keys.{key_cmp_total}
use Rattle.clock_store.specs.declared.clock_map.index.DeadKey.{DeadKey}
use Rattle.clock_store.specs.Index.{is_mark, without_spare, first_marked, first_unless_above, dead_key}
use Rattle.names.specs.ShortKeys.{is_short_key}
use Rattle.clock_store.proofs.Entries.{exact}
use Rattle.clock_store.proofs.Marks.{IsLeast, first_of, first_least, first_none, ordered_sorted, order, find_lookup}
use Rattle.clock_store.proofs.Ties.{clash}

abbrev pub Marks : Type 0
Marks = List (Key × ℕ)

pub same_short_key : (k q : Key) → key_cmp k q ≡ Equal → is_short_key k ≡ is_short_key q
same_short_key k q h = ap is_short_key (exact k q h)

-- ---- the marks that stay in both

module _ (spare : Option ℕ) (xs ys zs ws : Marks) (apart : AreApart key_cmp is_short_key xs ys)
    (sorted : IsStrictlySortedBy key_cmp (keys_of zs)) (sorted' : IsStrictlySortedBy key_cmp (keys_of ws))
    (left : (q : Key) → lookup (is_at (key_cmp q)) zs ≡ without_spare spare (lookup (is_at (key_cmp q)) xs))
    (left' : (q : Key) → lookup (is_at (key_cmp q)) ws ≡ without_spare spare (lookup (is_at (key_cmp q)) ys)) where
  pub apart_left : AreApart key_cmp is_short_key zs ws
  apart_left = record {
    first_ordered = sorted;
    second_ordered = sorted';
    not_first = λ q is. left q ∙ ap (without_spare spare) (apart.not_first q is);
    not_second = λ q is. left' q ∙ ap (without_spare spare) (apart.not_second q is);
  }

  pub merged_left : (q : Key) → lookup (is_at (key_cmp q)) (merged key_cmp zs ws) ≡ without_spare spare (lookup (is_at (key_cmp q)) (merged key_cmp xs ys))
  merged_left q = by (is_short_key q) refl
    where
      by : (b : Bool) → is_short_key q ≡ b → lookup (is_at (key_cmp q)) (merged key_cmp zs ws) ≡ without_spare spare (lookup (is_at (key_cmp q)) (merged key_cmp xs ys))
      by true is =
          found_first key_cmp_total is_short_key same_short_key zs ws apart_left q is ∙ left q
          ∙ ap (without_spare spare) (sym (found_first key_cmp_total is_short_key same_short_key xs ys apart q is))
      by false is =
          found_second key_cmp_total is_short_key same_short_key zs ws apart_left q is ∙ left' q
          ∙ ap (without_spare spare) (sym (found_second key_cmp_total is_short_key same_short_key xs ys apart q is))

-- ---- the least of both

le_of_not : (o : Ordering) → is_lt (ordering_reverse o) ≡ false → is_le o ≡ true
le_of_not Less h = refl
le_of_not Equal h = refl
le_of_not Greater h = cc

le_of_lt : (o : Ordering) → is_lt o ≡ true → is_le o ≡ true
le_of_lt Less h = refl
le_of_lt Equal h = cc
le_of_lt Greater h = cc

le_trans : (a b c : Key) → is_le (key_cmp a b) ≡ true → is_le (key_cmp b c) ≡ true → is_le (key_cmp a c) ≡ true
le_trans a b c ab bc = by (key_cmp a b) (key_cmp b c) refl refl ab bc
  where
    by : (o p : Ordering) → key_cmp a b ≡ o → key_cmp b c ≡ p → is_le o ≡ true → is_le p ≡ true → is_le (key_cmp a c) ≡ true
    by Less Less is is' h g = ap is_le (key_cmp_total.trans a b c is is')
    by Less Equal is is' h g = ap (λ k. is_le (key_cmp a k)) (sym (exact b c is')) ∙ ap is_le is
    by Less Greater is is' h g = cc
    by Equal p is is' h g = ap (λ k. is_le (key_cmp k c)) (exact a b is) ∙ bc
    by Greater p is is' h g = cc

module _ (p : Key × ℕ → Bool) where
  -- the first entry that passes is the one with the least key of those that do
  first_is : (es : Marks) → IsStrictlySortedBy key_cmp (keys_of es) → (k : Key) (v : ℕ) → find key_cmp k es ≡ Some v → p (k, v) ≡ true
      → ((q : Key) (w : ℕ) → find key_cmp q es ≡ Some w → p (q, w) ≡ true → is_le (key_cmp k q) ≡ true) → first_of p es ≡ Some k
  first_is es sorted k v found passes least = by (first_of p es) refl
    where
      by : (o : Option Key) → first_of p es ≡ o → o ≡ Some k
      by None is = clash (sym passes ∙ first_none p es k v is found)
      by (Some j) is =
          let l = first_least p es j (ordered_sorted es sorted) is in
          ap Some (order j k (l.least k v found passes) (least j l.value l.found l.passes))

  none_is : (es : Marks) → IsStrictlySortedBy key_cmp (keys_of es) → ((q : Key) (w : ℕ) → find key_cmp q es ≡ Some w → p (q, w) ≡ false) → first_of p es ≡ None
  none_is es sorted fails = by (first_of p es) refl
    where
      by : (o : Option Key) → first_of p es ≡ o → o ≡ None
      by None is = refl
      by (Some j) is =
          let l = first_least p es j (ordered_sorted es sorted) is in
          clash (sym l.passes ∙ fails j l.value l.found)

  module _ (xs ys : Marks) (apart : AreApart key_cmp is_short_key xs ys) where
    abbrev both : Marks
    both = merged key_cmp xs ys

    sorted_both : IsStrictlySortedBy key_cmp (keys_of both)
    sorted_both = merged_sorted key_cmp_total xs ys apart.first_ordered

    find_both : (q : Key) → find key_cmp q both ≡ option_or (find key_cmp q ys) (find key_cmp q xs)
    find_both q =
        find_lookup q both ∙ lookup-merged key_cmp_total q xs ys
        ∙ (λ i. option_or (sym (find_lookup q ys) i) (sym (find_lookup q xs) i))

    -- what one of them has, both have
    in_second : (q : Key) (v : ℕ) → find key_cmp q ys ≡ Some v → find key_cmp q both ≡ Some v
    in_second q v found = find_both q ∙ ap (λ o. option_or o (find key_cmp q xs)) found

    in_first : (q : Key) (v : ℕ) → find key_cmp q xs ≡ Some v → find key_cmp q both ≡ Some v
    in_first q v found = find_both q ∙ (λ i. option_or (absent i) (found i))
      where
        absent : find key_cmp q ys ≡ None
        absent = find_lookup q ys ∙ by (is_short_key q) refl
          where
            by : (b : Bool) → is_short_key q ≡ b → lookup (is_at (key_cmp q)) ys ≡ None
            by true is = apart.not_second q is
            by false is = let no : Some v ≡ None = sym found ∙ find_lookup q xs ∙ apart.not_first q is in cc

    -- what both have, one of them has
    module _ (Q : Key → ℕ → Type 0) (first : (q : Key) (w : ℕ) → find key_cmp q xs ≡ Some w → Q q w) (second : (q : Key) (w : ℕ) → find key_cmp q ys ≡ Some w → Q q w) where
      of_either : (q : Key) (w : ℕ) → find key_cmp q both ≡ Some w → Q q w
      of_either q w found = by (find key_cmp q ys) refl (sym (find_both q) ∙ found)
        where
          by : (o : Option ℕ) → find key_cmp q ys ≡ o → option_or o (find key_cmp q xs) ≡ Some w → Q q w
          by None is h = first q w h
          by (Some v) is h = second q w (is ∙ h)

    pub first_both : first_of p both ≡ option_or (first_unless_above (first_of p xs) (first_of p ys)) (first_of p ys)
    first_both = by (first_of p xs) (first_of p ys) refl refl
      where
        by : (a b : Option Key) → first_of p xs ≡ a → first_of p ys ≡ b → first_of p both ≡ option_or (first_unless_above a b) b
        by None None x y =
            none_is both sorted_both
            (of_either (λ q w. p (q, w) ≡ false) (λ q w found. first_none p xs q w x found) (λ q w found. first_none p ys q w y found))
        by None (Some b) x y =
            let l = first_least p ys b (ordered_sorted ys apart.second_ordered) y in
            first_is both sorted_both b l.value (in_second b l.value l.found) l.passes
            (of_either (λ q w. p (q, w) ≡ true → is_le (key_cmp b q) ≡ true) (λ q w found passes. clash (sym passes ∙ first_none p xs q w x found)) l.least)
        by (Some a) None x y =
            let l = first_least p xs a (ordered_sorted xs apart.first_ordered) x in
            first_is both sorted_both a l.value (in_first a l.value l.found) l.passes
            (of_either (λ q w. p (q, w) ≡ true → is_le (key_cmp a q) ≡ true) l.least (λ q w found passes. clash (sym passes ∙ first_none p ys q w y found)))
        by (Some a) (Some b) x y = decide (is_lt (key_cmp b a)) refl
          where
            l : IsLeast p xs a
            l = first_least p xs a (ordered_sorted xs apart.first_ordered) x

            m : IsLeast p ys b
            m = first_least p ys b (ordered_sorted ys apart.second_ordered) y

            decide : (c : Bool) → is_lt (key_cmp b a) ≡ c → first_of p both ≡ option_or (cond c None (Some a)) (Some b)
            decide true is =
                first_is both sorted_both b m.value (in_second b m.value m.found) m.passes
                (of_either (λ q w. p (q, w) ≡ true → is_le (key_cmp b q) ≡ true) (λ q w found passes. le_trans b a q (le_of_lt (key_cmp b a) is) (l.least q w found passes)) m.least)
            decide false is =
                first_is both sorted_both a l.value (in_first a l.value l.found) l.passes
                (of_either (λ q w. p (q, w) ≡ true → is_le (key_cmp a q) ≡ true) l.least
                (λ q w found passes. le_trans a b q (le_of_not (key_cmp a b) (ap is_lt (sym (key_cmp_total.antisymm b a)) ∙ is)) (m.least q w found passes)))

-- the least marked key of both
module _ (spare : Option ℕ) (from : Option Key) (xs ys : Marks) (apart : AreApart key_cmp is_short_key xs ys) where
  pub first_merged : first_marked spare from (merged key_cmp xs ys) ≡ option_or (first_unless_above (first_marked spare from xs) (first_marked spare from ys)) (first_marked spare from ys)
  first_merged = first_both (λ entry. is_from from entry.0 && is_mark spare entry.1) xs ys apart

  pub some_merged : (is_some (first_marked spare from xs) || is_some (first_marked spare from ys)) ≡ is_some (first_marked spare from (merged key_cmp xs ys))
  some_merged = by (first_marked spare from xs) (first_marked spare from ys) ∙ ap is_some (sym first_merged)
    where
      chosen : (c : Bool) (a b : Key) → true ≡ is_some (option_or (cond c None (Some a)) (Some b))
      chosen true a b = refl
      chosen false a b = refl

      by : (a b : Option Key) → (is_some a || is_some b) ≡ is_some (option_or (first_unless_above a b) b)
      by None b = refl
      by (Some a) None = refl
      by (Some a) (Some b) = chosen (is_lt (key_cmp b a)) a b

pub or_then : (b s t : Bool) → b ≡ s → b ≡ true → b ≡ (s || t)
or_then b s t same is = is ∙ ap (λ u. u || t) (sym is ∙ same)

pub or_else : (b s l t : Bool) → b ≡ s → b ≡ false → l ≡ t → l ≡ (s || t)
or_else b s l t same is same' = same' ∙ ap (λ u. u || t) (sym is ∙ same)

pub unless_above : (s : Option Key) (l : Option (Bor Key)) (a : Key) (b : Bor Key) (o : Ordering) → s ≡ Some a → l ≡ Some b → o ≡ key_cmp b.now a
    → first_unless_above s (option_map (λ (k : Bor Key). k.now) l) ≡ cond (is_lt o) None (Some a)
unless_above s l a b o is is' at =
    (λ i. first_unless_above (is i) (option_map (λ (k : Bor Key). k.now) (is' i))) ∙ ap (λ o. cond (is_lt o) None (Some a)) (sym at)

-- ---- the least of both is taken out

module _ (from : Option Key) (xs ys : Marks) (apart : AreApart key_cmp is_short_key xs ys) where
  abbrev first_in : Marks → Option Key
  first_in es = first_marked None from es

  pub taken_first : (k : Key) → Some k ≡ first_unless_above (first_in xs) (first_in ys) → Some k ≡ first_in (merged key_cmp xs ys)
  taken_first k is = ap (λ o. option_or o (first_in ys)) is ∙ sym (first_merged None from xs ys apart)

  pub taken_second : None ≡ first_unless_above (first_in xs) (first_in ys) → first_in ys ≡ first_in (merged key_cmp xs ys)
  taken_second is = ap (λ o. option_or o (first_in ys)) is ∙ sym (first_merged None from xs ys apart)

  pub taken_is_short : (k : Key) → Some k ≡ first_unless_above (first_in xs) (first_in ys) → is_short_key k ≡ true
  taken_is_short k is = by (is_short_key k) refl
    where
      of_first : (a b : Option Key) → Some k ≡ first_unless_above a b → a ≡ Some k
      of_first None b h = cc
      of_first (Some a) None h = sym h
      of_first (Some a) (Some b) h = chosen (is_lt (key_cmp b a)) h
        where
          chosen : (c : Bool) → Some k ≡ cond c None (Some a) → Some a ≡ Some k
          chosen true h = cc
          chosen false h = sym h

      by : (b : Bool) → is_short_key k ≡ b → b ≡ true
      by true at = refl
      by false at =
          let l = first_least (λ entry. is_from from entry.0 && is_mark None entry.1) xs k (ordered_sorted xs apart.first_ordered) (of_first (first_in xs) (first_in ys) is) in
          let no : Some l.value ≡ None = sym l.found ∙ find_lookup k xs ∙ apart.not_first k at in cc

  taken_is_long : (k : Key) → Some k ≡ first_in ys → is_short_key k ≡ false
  taken_is_long k is = by (is_short_key k) refl
    where
      by : (b : Bool) → is_short_key k ≡ b → b ≡ false
      by false at = refl
      by true at =
          let l = first_least (λ entry. is_from from entry.0 && is_mark None entry.1) ys k (ordered_sorted ys apart.second_ordered) (sym is) in
          let no : Some l.value ≡ None = sym l.found ∙ find_lookup k ys ∙ apart.not_second k at in cc

  module _ (zs : Marks) (sorted : IsStrictlySortedBy key_cmp (keys_of zs)) where
    pub apart_taken : (r : Option DeadKey) → option_map dead_key r ≡ first_in ys
        → IfSome r (λ key. (q : Key) → lookup (is_at (key_cmp q)) zs ≡ cond (is_at (key_cmp (dead_key key)) q) None (lookup (is_at (key_cmp q)) ys))
        → IfNone r ((q : Key) → lookup (is_at (key_cmp q)) zs ≡ lookup (is_at (key_cmp q)) ys) → AreApart key_cmp is_short_key xs zs
    apart_taken None is taken same = record {
      first_ordered = apart.first_ordered;
      second_ordered = sorted;
      not_first = apart.not_first;
      not_second = λ q short. same q ∙ apart.not_second q short;
    }
    apart_taken (Some key) is taken same =
        apart_second key_cmp_total is_short_key same_short_key xs ys zs (dead_key key) None apart sorted (taken_is_long (dead_key key) is) taken

    pub merged_taken : (r : Option DeadKey) → option_map dead_key r ≡ first_in ys
        → IfSome r (λ key. (q : Key) → lookup (is_at (key_cmp q)) zs ≡ cond (is_at (key_cmp (dead_key key)) q) None (lookup (is_at (key_cmp q)) ys))
        → IfSome r (λ key. (q : Key) → lookup (is_at (key_cmp q)) (merged key_cmp xs zs) ≡ cond (is_at (key_cmp (dead_key key)) q) None (lookup (is_at (key_cmp q)) (merged key_cmp xs ys)))
    merged_taken None is taken = taken
    merged_taken (Some key) is taken =
        set_second key_cmp_total is_short_key same_short_key xs ys zs (dead_key key) None apart sorted (taken_is_long (dead_key key) is) taken

pub merged_none : (xs ys zs : Marks) (r : Option DeadKey) → IfNone r ((q : Key) → lookup (is_at (key_cmp q)) zs ≡ lookup (is_at (key_cmp q)) ys)
    → IfNone r ((q : Key) → lookup (is_at (key_cmp q)) (merged key_cmp xs zs) ≡ lookup (is_at (key_cmp q)) (merged key_cmp xs ys))
merged_none xs ys zs None same = λ q.
    lookup-merged key_cmp_total q xs zs ∙ ap (λ o. option_or o (lookup (is_at (key_cmp q)) xs)) (same q) ∙ sym (lookup-merged key_cmp_total q xs ys)
merged_none xs ys zs (Some key) same = same
