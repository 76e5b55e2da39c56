-- The next key of a walk is stored, with what the walk says of it.
use Rattle.std.proofs.Common.{◌≡◌, Bool, true, false, cond, List, [], ◌∷◌, refl, sym, ◌∙◌, ap, subst}
use Rattle.std.specs.Prelude.{Option, Some, None, IfSome, option_map, slice_get}
use Rattle.std.specs.Borrow.{Bor}
use Rattle.std.specs.Ordering.{eq_by_cmp}
use Rattle.std.specs.FinMap.Entries.{find, is_sorted, below_all}
use Rattle.riak_msgs.specs.declared.Key.{Key}
use Rattle.riak_msgs.specs.Contents.{Content}
use Rattle.riak_msgs.specs.KeyOrder.{key_cmp}
use Rattle.clock_store.specs.Behind.{is_behind, entries_behind, next_entry}
use Rattle.clock_store.specs.KeyRefs.{key_found}
use Rattle.clock_store.specs.declared.FoundKey.{FoundKey}
use Rattle.clock_store.specs.Keys.{stored_of}
use Rattle.clock_store.specs.declared.stored_clock.StoredClock.{StoredClock}
use Rattle.vnode_machine.specs.Machine.{State, Stored}
use Rattle.vnode_machine.specs.Sound.{IsStoredClock, IsForm, IsFormed, IsSound}
use Rattle.vnode_machine.proofs.DeadKeys.{not_eq-above, eq-itself}
use Rattle.vnode_machine.proofs.Keys.{eq_by_key_cmp, key_eq-same}
use Rattle.vnode_machine.proofs.Seen.{less}
use Rattle.vnode_machine.proofs.Tests.{and_left, and_right}

module _ {X : Type 0} where
  -- a key that is found above another isn't that one
  above-other : (low key : Key) (es : List (Key × X)) (x : X) → below_all key_cmp low es ≡ true → find key_cmp key es ≡ Some x → eq_by_cmp key_cmp key low ≡ false
  above-other low key [] x h found = cc
  above-other low key (e ∷ es) x h found = by (eq_by_cmp key_cmp key e.0) refl found (above-other low key es x (and_right _ _ h))
    where
      by : (b : Bool) → eq_by_cmp key_cmp key e.0 ≡ b → cond b (Some e.1) (find key_cmp key es) ≡ Some x → (find key_cmp key es ≡ Some x → eq_by_cmp key_cmp key low ≡ false)
          → eq_by_cmp key_cmp key low ≡ false
      by true q found rest =
          let same = key_eq-same key e.0 (sym (eq_by_key_cmp key e.0) ∙ q) in
          ap (λ k. eq_by_cmp key_cmp k low) same ∙ not_eq-above e.0 low (less _ (and_left _ _ h))
      by false q found rest = rest found

  -- the next entry of a sorted list is what is found at its key
  pub next-found : (after : Option Key) (es : List (Key × X)) (e : Key × X) → is_sorted key_cmp es ≡ true → next_entry key_cmp after es ≡ Some e → find key_cmp e.0 es ≡ Some e.1
  next-found after [] e sorted h = cc
  next-found after (x ∷ xs) e sorted h = by (is_behind key_cmp after x.0) h (next-found after xs e (and_right _ _ sorted))
    where
      by : (b : Bool) → slice_get (cond b (x ∷ entries_behind key_cmp after xs) (entries_behind key_cmp after xs)) 0 ≡ Some e
          → (next_entry key_cmp after xs ≡ Some e → find key_cmp e.0 xs ≡ Some e.1) → cond (eq_by_cmp key_cmp e.0 x.0) (Some x.1) (find key_cmp e.0 xs) ≡ Some e.1
      by true h rest =
          let same : x ≡ e = cc in
          ap (λ (e : Key × X). cond (eq_by_cmp key_cmp e.0 x.0) (Some x.1) (find key_cmp e.0 xs)) (sym same)
          ∙ ap (λ b. cond b (Some x.1) (find key_cmp x.0 xs)) (eq-itself x.0) ∙ ap (λ (e : Key × X). Some e.1) same
      by false h rest =
          ap (λ b. cond b (Some x.1) (find key_cmp e.0 xs)) (above-other x.0 e.0 xs e.1 (and_left _ _ sorted) (rest h)) ∙ rest h

-- so its clock is of the form
pub next-clock : (state : State Content) → IsSound state → (after : Option Key) (key : Key) (s : Stored Content) → next_entry key_cmp after state.keys ≡ Some (key, s) → IsStoredClock s.clock
next-clock state is after key s h =
    let form : IsForm s = subst IsFormed (next-found after state.keys (key, s) is.sorted h) (is.keys key) in
    form.clock

-- as a caller is lent it
pub next-lent : (state : State Content) → IsSound state → (after : Option Key) (lent : Option (FoundKey × Bor StoredClock))
    → option_map (λ entry. (key_found entry.0, stored_of entry.1.now)) lent ≡ next_entry key_cmp after state.keys → IfSome lent (λ entry. IsStoredClock entry.1.now.clock.meaning)
next-lent state is after None h = tt
next-lent state is after (Some entry) h = next-clock state is after (key_found entry.0) (stored_of entry.1.now) (sym h)
