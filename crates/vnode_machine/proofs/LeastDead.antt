-- The first dead key at or after a key is the least.
use Rattle.std.proofs.Common.{◌≡◌, ℕ, Bool, true, false, not, ◌&&◌, cond, List, [], ◌∷◌, refl, sym, ◌∙◌, ap, map}
use Rattle.std.specs.Prelude.{Some, slice_get, filter, is_some}
use Rattle.std.specs.declared.cmp.Ordering.{Ordering}
use Rattle.std.specs.declared.cmp.Ordering.TheVariants.{Less, Equal, Greater}
use Rattle.std.specs.Ordering.{is_lt, is_le, is_eq, eq_by_cmp}
use Rattle.std.specs.FinMap.Entries.{find, is_sorted, below_all}
use Rattle.riak_msgs.specs.declared.Key.{Key}
use Rattle.riak_msgs.specs.Contents.{Content}
use Rattle.riak_msgs.specs.KeyOrder.{key_cmp}
use Rattle.vnode_machine.specs.Machine.{State, stored, has_value, holds_dead}
use Rattle.vnode_machine.specs.Replay.{History, replay}
use Rattle.vnode_machine.specs.Dead.{is_from, FirstDeadIsDead, FirstDeadIsLeast}
use Rattle.vnode_machine.proofs.DeadKeys.{keys_sorted, first_is_dead, eq-itself}
use Rattle.vnode_machine.proofs.Keys.{key_eq-same, eq_by_key_cmp}
use Rattle.vnode_machine.proofs.Tests.{and_left, and_right, and_both}

le-less : (o : Ordering) → is_lt o ≡ true → is_le o ≡ true
le-less Less h = refl
le-less Equal h = cc
le-less Greater h = cc

le-equal : (o : Ordering) → is_eq o ≡ true → is_le o ≡ true
le-equal Less h = cc
le-equal Equal h = refl
le-equal Greater h = cc

same-key : (a b : Key) → eq_by_cmp key_cmp a b ≡ true → a ≡ b
same-key a b h = key_eq-same a b (sym (eq_by_key_cmp a b) ∙ h)

module _ {X : Type 0} where
  -- a key that is found above another is greater
  below-find : (x key : Key) (es : List (Key × X)) → below_all key_cmp x es ≡ true → is_some (find key_cmp key es) ≡ true → is_lt (key_cmp x key) ≡ true
  below-find x key [] h found = cc
  below-find x key (e ∷ es) h found = by (eq_by_cmp key_cmp key e.0) refl found (below-find x key es (and_right _ _ h))
    where
      by : (b : Bool) → eq_by_cmp key_cmp key e.0 ≡ b → is_some (cond b (Some e.1) (find key_cmp key es)) ≡ true
          → (is_some (find key_cmp key es) ≡ true → is_lt (key_cmp x key) ≡ true) → is_lt (key_cmp x key) ≡ true
      by true q found rest = ap (λ k. is_lt (key_cmp x k)) (same-key key e.0 q) ∙ and_left _ _ h
      by false q found rest = rest found

  abbrev IsAtLeast : (Key → Bool) → List (Key × X) → Key → Type 0
  IsAtLeast p es key = (first : Key) × (slice_get (filter p (map (λ e. e.0) es)) 0 ≡ Some first) × (is_le (key_cmp first key) ≡ true)

  -- the first of a sorted list that passes a test is at most any that does
  least : (p : Key → Bool) (key : Key) (es : List (Key × X)) → is_sorted key_cmp es ≡ true → p key ≡ true → is_some (find key_cmp key es) ≡ true → IsAtLeast p es key
  least p key [] sorted passes found = cc
  least p key (e ∷ es) sorted passes found = by (p e.0) (eq_by_cmp key_cmp key e.0) refl refl found (least p key es (and_right _ _ sorted) passes)
    where
      by : (b c : Bool) → p e.0 ≡ b → eq_by_cmp key_cmp key e.0 ≡ c → is_some (cond c (Some e.1) (find key_cmp key es)) ≡ true
          → (is_some (find key_cmp key es) ≡ true → IsAtLeast p es key) → IsAtLeast p (e ∷ es) key
      by true true q same found rest = (
        e.0,
        ap (λ b. slice_get (cond b (e.0 ∷ filter p (map (λ e. e.0) es)) (filter p (map (λ e. e.0) es))) 0) q,
        ap (λ k. is_le (key_cmp e.0 k)) (same-key key e.0 same) ∙ le-equal (key_cmp e.0 e.0) (eq-itself e.0),
      )
      by true false q same found rest = (
        e.0,
        ap (λ b. slice_get (cond b (e.0 ∷ filter p (map (λ e. e.0) es)) (filter p (map (λ e. e.0) es))) 0) q,
        le-less (key_cmp e.0 key) (below-find e.0 key es (and_left _ _ sorted) found),
      )
      by false true q same found rest =
          let no : true ≡ false = sym passes ∙ ap p (same-key key e.0 same) ∙ q in
          cc
      by false false q same found rest =
          let r = rest found in
          (r.0, ap (λ b. slice_get (cond b (e.0 ∷ filter p (map (λ e. e.0) es)) (filter p (map (λ e. e.0) es))) 0) q ∙ r.1, r.2)

pub first_dead_is_dead : (v l : ℕ) (history : History) → FirstDeadIsDead v l history
first_dead_is_dead v l history from first h =
    let both = first_is_dead (replay v l history) from first h in
    (and_left _ _ both, and_right (is_from from first) _ both)

pub first_dead_is_least : (v l : ℕ) (history : History) → FirstDeadIsLeast v l history
first_dead_is_least v l history from key here dead =
    let state : State Content = replay v l history in
    least (λ key. is_from from key && holds_dead state key) key state.keys (keys_sorted v l history) (and_both _ _ here dead)
    (and_left (is_some (stored state key)) (not (has_value state key)) dead)
