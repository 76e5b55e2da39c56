-- A map of clocks without keys.
use Rattle.std.proofs.Common.{◌≡◌, ◌∙◌, refl, sym, ap, subst, true, ℕ, List, []}
use Rattle.std.specs.Prelude.{Option, Some, None, is_some, option_and_then, slice_index_or}
use Rattle.std.specs.BTreeMap.{is_at}
use Rattle.std.specs.List.Sorted.{IsStrictlySortedBy}
use Rattle.std.specs.Map.{lookup, keys_of}
use Rattle.slab.specs.Slab as slab
use Rattle.riak_msgs.specs.declared.Key.{Key}
use Rattle.riak_msgs.specs.KeyOrder.{key_cmp}
use Rattle.clock_store.specs.declared.stored_clock.StoredClock.{StoredClock}
use Rattle.clock_store.specs.Index.{Index, is_marked}
use Rattle.clock_store.specs.Places.{Places, Clocks, place_of, IsTied}
use Rattle.clock_store.specs.Maps.{is_dead, shown_at, IsWholeMap}

some_none : {X A : Type 0} (x : X) (o : Option X) → o ≡ None → o ≡ Some x → A
some_none x o is h = let no : None ≡ Some x = sym is ∙ h in cc

is_none : {X A : Type 0} (o : Option X) → o ≡ None → is_some o ≡ true → A
is_none None is h = cc
is_none (Some x) is h = cc

none_ascend : (X : Type 0) → IsStrictlySortedBy key_cmp (keys_of {X = X} [])
unfolding IsStrictlySortedBy
none_ascend X = tt

module _ (places : Places) (clocks : Clocks) (dead : Index) (no_keys : places.entries ≡ []) (no_clocks : clocks.slots ≡ []) (no_marks : dead.entries ≡ []) where
  no_place : (q : Key) → place_of places q ≡ None
  no_place q = ap (λ (es : List (Key × ℕ)). lookup (is_at (key_cmp q)) es) no_keys

  tied : IsTied places clocks
  tied = record {
    ordered = subst (λ (es : List (Key × ℕ)). IsStrictlySortedBy key_cmp (keys_of es)) (sym no_keys) (none_ascend ℕ);
    held = λ q p h. some_none p (place_of places q) (no_place q) h;
    one = λ q r p h g. some_none p (place_of places q) (no_place q) h;
    used = λ p h. is_none (slab.get clocks p) (ap (λ (slots : List (Option StoredClock)). slice_index_or slots p None) no_clocks) h;
  }

  pub empty_map : IsWholeMap places clocks dead None None
  empty_map = record {
    map = record {
      tied = tied;
      marks = λ q. ap (λ (es : List (Key × ℕ)). is_marked None (lookup (is_at (key_cmp q)) es)) no_marks
          ∙ sym (ap (λ (es : List (Key × ℕ)). is_dead (option_and_then (shown_at clocks None) (lookup (is_at (key_cmp q)) es))) no_keys);
      placed = λ q p h. some_none p _ (ap (λ (es : List (Key × ℕ)). lookup (is_at (key_cmp q)) es) no_marks) h;
      room = tt;
    };
    key = refl;
  }
