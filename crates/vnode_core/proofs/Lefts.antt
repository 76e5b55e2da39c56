-- A walk over the keys of a vnode, one behind another, and what it counts as left. Where none is, the other knows the last dot of each.
use Rattle.std.proofs.Common.{◌≡◌, ◌∙◌, ◌+◌, ◌<◌, ◌≤◌, ℕ, min, Bool, true, false, not, cond, List, [], ◌∷◌, length, refl, sym, ap, arith}
use Rattle.std.proofs.Math.Nat.{zero-add}
use Rattle.std.specs.Prelude.{◌==◌, nat_le, Option, Some, None, filter, option_and_then}
use Rattle.std.specs.Option.{option_map_or}
use Rattle.std.specs.List.{AllByRecursion}
use Rattle.std.specs.List.Sorted.{IsStrictlySortedBy}
use Rattle.std.specs.Map.{keys_of}
use Rattle.std.specs.declared.cmp.Ordering.TheVariants.{Less}
use Rattle.std.specs.FinMap.Entries.{find, is_sorted, below_all}
use Rattle.std.specs.Ordering.{eq_by_cmp}
use Rattle.std.proofs.lemmas.Bool.Decides.{nat_tests}
use Rattle.riak_msgs.specs.declared.Key.{Key}
use Rattle.riak_msgs.specs.Contents.{Content}
use Rattle.riak_msgs.specs.KeyOrder.{key_cmp}
pub use Rattle.clock_store.specs.Behind.{entries_behind, next_entry}
use Rattle.actor_epoch.specs.declared.Actor.{Actor}
use Rattle.actor_epoch.specs.Dots.{counter_in}
use Rattle.clock_store.proofs.NextEntry.{no_head, goes_on, all_pass}
use Rattle.clock_store.specs.Keys.{Keys}
use Rattle.vnode_machine.specs.Machine.{State, Stored, stored, clock_of}
use Rattle.vnode_machine.specs.Sound.{IsSound}
use Rattle.vnode_machine.proofs.Keys.{key_cmp_total, eq_by_key_cmp, key_eq-same}
use Rattle.vnode_machine.proofs.Seen.{less}
use Rattle.vnode_machine.proofs.Tests.{and_left, and_right}
use Rattle.copy_laws.specs.LastDots.{knows_last_dot}
use Rattle.vnode_core.specs.Left.{count_left, has_last_dot, is_copied, keys_behind, one_unless}

-- keys in order
module _ {X : Type 0} where
  below_ordered : (k : Key) (es : List (Key × X)) → below_all key_cmp k es ≡ true → AllByRecursion (λ y. key_cmp k y ≡ Less) (keys_of es)
  below_ordered k [] h = tt
  below_ordered k (e ∷ es) h = (less _ (and_left _ _ h), below_ordered k es (and_right _ _ h))

  ordered : (es : List (Key × X)) → is_sorted key_cmp es ≡ true → IsStrictlySortedBy key_cmp (keys_of es)
  unfolding IsStrictlySortedBy
  ordered [] h = tt
  ordered (e ∷ es) h = (below_ordered e.0 es (and_left _ _ h), ordered es (and_right _ _ h))

-- behind no key are all of them
pub behind-none : (state : State Content) → keys_behind None state ≡ state.keys
behind-none state = all_pass state.keys

-- the keys behind one are the next one and those behind that
pub behind-next : (state : State Content) → IsSound state → (after : Option Key) (entry : Key × Stored Content) → next_entry key_cmp after state.keys ≡ Some entry
    → keys_behind after state ≡ entry ∷ keys_behind (Some entry.0) state
behind-next state sound after entry next = goes_on key_cmp_total after state.keys entry (ordered state.keys sound.sorted) next

-- where there is no next one, none
pub behind-last : (state : State Content) (after : Option Key) → next_entry key_cmp after state.keys ≡ None → keys_behind after state ≡ []
behind-last state after next = no_head (entries_behind key_cmp after state.keys) next

-- behind the next key there are fewer
pub next-fewer : (fallback : State Content) → IsSound fallback → (at : Option Key) (parts : Key) (there : Stored Content) → next_entry key_cmp at fallback.keys ≡ Some (parts, there)
    → length (keys_behind (Some parts) fallback) < length (keys_behind at fallback)
next-fewer fallback sound at parts there next = let many = ap length (behind-next fallback sound at (parts, there) next) in omega (arith, many)

-- how many are left with one key more
left-with : (copied : Bool) (entry : Key × Stored Content) (left : Keys) → length (cond (not copied) (entry ∷ left) left) ≡ one_unless copied + length left
left-with true entry left = omega arith
left-with false entry left = omega arith

count-more : (primary : State Content) (entry : Key × Stored Content) (keys : Keys) → count_left primary (entry ∷ keys) ≡ one_unless (is_copied primary entry) + count_left primary keys
count-more primary entry keys = left-with (is_copied primary entry) entry (filter (λ e. not (is_copied primary e)) keys)

-- none, where that one is copied
pub none-more : (primary : State Content) (entry : Key × Stored Content) (keys : Keys) → is_copied primary entry ≡ true → count_left primary keys ≡ 0 → count_left primary (entry ∷ keys) ≡ 0
none-more primary entry keys copied none = count-more primary entry keys ∙ ap (λ b. one_unless b + count_left primary keys) copied ∙ zero-add (count_left primary keys) ∙ none

-- a count that stops at the greatest number, with one key more
min-next : (count one rest most : ℕ) → min (min (count + one) most + rest) most ≡ min (count + (one + rest)) most
min-next count one rest most = omega arith

pub count-first : (primary fallback : State Content) (most : ℕ) → min (0 + count_left primary (keys_behind None fallback)) most ≡ min (count_left primary fallback.keys) most
count-first primary fallback most = ap (λ n. min n most) (zero-add (count_left primary (keys_behind None fallback)) ∙ ap (count_left primary) (behind-none fallback))

pub count-next : (primary fallback : State Content) → IsSound fallback → (count more most whole : ℕ) (at : Option Key) (parts key : Key) (there : Stored Content) (copied : Bool)
    → min (count + count_left primary (keys_behind at fallback)) most ≡ whole → next_entry key_cmp at fallback.keys ≡ Some (parts, there) → key ≡ parts → copied ≡ is_copied primary (key, there)
    → more ≡ min (count + one_unless copied) most → min (more + count_left primary (keys_behind (Some parts) fallback)) most ≡ whole
count-next primary fallback sound count more most whole at parts key there copied is next same tested added =
    let rest = count_left primary (keys_behind (Some parts) fallback) in
    let here : copied ≡ is_copied primary (parts, there) = tested ∙ ap (λ k. is_copied primary (k, there)) same in
    ap (λ n. min (n + rest) most) added ∙ min-next count (one_unless copied) rest most
    ∙ ap (λ b. min (count + (one_unless b + rest)) most) here
    ∙ ap (λ n. min (count + n) most) (sym (count-more primary (parts, there) (keys_behind (Some parts) fallback)))
    ∙ sym (ap (λ (es : Keys). min (count + count_left primary es) most) (behind-next fallback sound at (parts, there) next)) ∙ is

pub count-last : (primary fallback : State Content) (count most whole : ℕ) (at : Option Key) → count ≤ most → min (count + count_left primary (keys_behind at fallback)) most ≡ whole
    → next_entry key_cmp at fallback.keys ≡ None → count ≡ whole
count-last primary fallback count most whole at few is next =
    let none : min (count + 0) most ≡ whole = sym (ap (λ (es : Keys). min (count + count_left primary es) most) (behind-last fallback at next)) ∙ is in
    omega (arith, few, none)

-- where none is left, each key that is stored is copied
none-but-copied : (primary : State Content) (entry : Key × Stored Content) (keys : Keys) → count_left primary (entry ∷ keys) ≡ 0 → (is_copied primary entry ≡ true) × (count_left primary keys ≡ 0)
none-but-copied primary entry keys none = by (is_copied primary entry) refl (sym (count-more primary entry keys) ∙ none)
  where
    by : (copied : Bool) → is_copied primary entry ≡ copied → one_unless copied + count_left primary keys ≡ 0 → (is_copied primary entry ≡ true) × (count_left primary keys ≡ 0)
    by true is h = (is, omega (arith, h))
    by false is h = absurd (omega (arith, h))

stored-copied : (primary : State Content) (keys : Keys) → count_left primary keys ≡ 0 → (key : Key) (there : Stored Content) → find key_cmp key keys ≡ Some there → is_copied primary (key, there) ≡ true
stored-copied primary [] none key there found = cc
stored-copied primary (entry ∷ keys) none key there found =
    let parts = none-but-copied primary entry keys none in
    by (eq_by_cmp key_cmp key entry.0) refl found parts.0 (stored-copied primary keys parts.1 key there)
  where
    by : (b : Bool) → eq_by_cmp key_cmp key entry.0 ≡ b → cond b (Some entry.1) (find key_cmp key keys) ≡ Some there → is_copied primary entry ≡ true
        → (find key_cmp key keys ≡ Some there → is_copied primary (key, there) ≡ true) → is_copied primary (key, there) ≡ true
    by true q found copied rest =
        let same = key_eq-same key entry.0 (sym (eq_by_key_cmp key entry.0) ∙ q) in
        let is : entry.1 ≡ there = cc in
        ap (λ k. is_copied primary (k, there)) same ∙ ap (λ (s : Stored Content). is_copied primary (entry.0, s)) (sym is) ∙ copied
    by false q found copied rest = rest found

-- a primary with the fallback's counter knows all that the fallback counted
equal-within : (here there : ℕ) → (here == there) ≡ true → nat_le there here ≡ true
equal-within here there h = grind (arith, nat_tests)

-- so where none of a fallback's keys is left, the primary knows the last dot of each
module _ (primary fallback : State Content) (none : count_left primary fallback.keys ≡ 0) (key : Key) where
  abbrev knows : (there here : Option (Stored Content)) → Bool
  knows there here =
      option_map_or
      (λ own. nat_le (counter_in (option_map_or (λ (s : Stored Content). s.clock) there (record { known = []; live = [] })).known own)
      (counter_in (option_map_or (λ (s : Stored Content). s.clock) here (record { known = []; live = [] })).known own))
      (option_and_then (λ (s : Stored Content). s.own) there) true

  copied-known : (there : Stored Content) (here : Option (Stored Content)) → option_map_or (λ h. has_last_dot h there) here false ≡ true → knows (Some there) here ≡ true
  copied-known there None h = cc
  copied-known there (Some here) h = by there.own h
    where
      by : (o : Option Actor) → option_map_or (λ own. counter_in here.clock.known own == counter_in there.clock.known own) o false ≡ true
          → option_map_or (λ own. nat_le (counter_in there.clock.known own) (counter_in here.clock.known own)) o true ≡ true
      by None h = cc
      by (Some own) h = equal-within (counter_in here.clock.known own) (counter_in there.clock.known own) h

  pub none-left-known : knows_last_dot (clock_of primary key) fallback key ≡ true
  none-left-known = by (stored fallback key) refl
    where
      by : (o : Option (Stored Content)) → stored fallback key ≡ o → knows o (stored primary key) ≡ true
      by None is = refl
      by (Some there) is = copied-known there (stored primary key) (stored-copied primary fallback.keys none key there is)
