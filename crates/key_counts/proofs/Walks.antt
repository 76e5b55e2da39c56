-- A walk over the keys of a vnode, one behind another, and what it counts.
use Rattle.std.proofs.Common.{◌≡◌, ◌∙◌, ◌+◌, ◌-◌, ◌^◌, min, ℕ, Bool, true, false, cond, List, [], ◌∷◌, ◌++◌, length, map, refl, sym, ap, arith, append_assoc}
use Rattle.std.specs.Prelude.{Option, Some, None, filter}
use Rattle.std.specs.List.{sum_by}
use Rattle.std.proofs.lemmas.List.Sums.{sum_by-cons}
use Rattle.riak_msgs.specs.declared.Key.{Key}
use Rattle.riak_msgs.specs.Contents.{Content}
use Rattle.riak_msgs.specs.KeyOrder.{key_cmp}
use Rattle.vnode_core.specs.Left.{Keys, State, Stored, keys_behind}
use Rattle.vnode_core.specs.Vnodes.{IsSound}
use Rattle.vnode_core.proofs.Lefts.{next_entry, behind-last, behind-next}
use Rattle.key_counts.specs.declared.counts.KeyCounts.{KeyCounts}
use Rattle.key_counts.specs.Stored.{IsStretch, bytes_of, counts_of, is_dead, one_if, one_key, siblings_of}
use Rattle.key_counts.specs.Sums.{capped, no_counts, plus}
use Rattle.key_counts.proofs.Sums.{capped-both, capped-nothing, plus-assoc, plus-first, same-counts}

-- a sum over what a list's elements are turned into
pub sum_by-map : {X Y : Type 0} (f : Y → ℕ) (g : X → Y) (xs : List X) → sum_by f (map g xs) ≡ sum_by (λ x. f (g x)) xs
sum_by-map f g [] = refl
sum_by-map f g (x ∷ xs) = sum_by-cons f (g x) (map g xs) ∙ ap (λ n. f (g x) + n) (sum_by-map f g xs) ∙ sym (sum_by-cons (λ x. f (g x)) x xs)

-- how many keys are dead with one more
dead-with : (dead : Bool) (entry : Key × Stored Content) (others : Keys) → length (cond dead (entry ∷ others) others) ≡ one_if dead + length others
dead-with true entry others = omega arith
dead-with false entry others = omega arith

-- it is no more than one
pub one-capped : (dead : Bool) → one_if dead ≡ min (one_if dead) (2 ^ 64 - 1)
one-capped true = refl
one-capped false = refl

counts-more : (entry : Key × Stored Content) (keys : Keys) → counts_of (entry ∷ keys) ≡ plus (one_key entry.1) (counts_of keys)
counts-more entry keys = same-counts (counts_of (entry ∷ keys)) (plus (one_key entry.1) (counts_of keys))
    (omega arith)
    (sum_by-cons (λ (e : Key × Stored Content). siblings_of e.1) entry keys)
    (dead-with (is_dead entry.1) entry (filter (λ (e : Key × Stored Content). is_dead e.1) keys))
    (sum_by-cons (λ (e : Key × Stored Content). bytes_of e.1) entry keys)

-- and in front of one more
plus-none-first : (one : KeyCounts) → plus one no_counts ≡ plus no_counts one
plus-none-first one = same-counts _ _ (omega arith) (omega arith) (omega arith) (omega arith)

-- what keys count, with one more behind them
counts-push : (keys : Keys) (entry : Key × Stored Content) → counts_of (keys ++ entry ∷ []) ≡ plus (counts_of keys) (one_key entry.1)
counts-push [] entry = counts-more entry [] ∙ plus-none-first (one_key entry.1)
counts-push (first ∷ keys) entry =
    counts-more first (keys ++ entry ∷ []) ∙ ap (plus (one_key first.1)) (counts-push keys entry)
    ∙ plus-assoc (one_key first.1) (counts_of keys) (one_key entry.1) ∙ ap (λ c. plus c (one_key entry.1)) (sym (counts-more first keys))

-- and with others behind them
pub counts-join : (keys more : Keys) → counts_of (keys ++ more) ≡ plus (counts_of keys) (counts_of more)
counts-join [] more = sym (plus-first (counts_of more))
counts-join (first ∷ keys) more =
    counts-more first (keys ++ more) ∙ ap (plus (one_key first.1)) (counts-join keys more)
    ∙ plus-assoc (one_key first.1) (counts_of keys) (counts_of more) ∙ ap (λ c. plus c (counts_of more)) (sym (counts-more first keys))

-- so much was counted of the keys that stand between two
pub record SoFar (state : State Content) (behind at : Option Key) (counts : KeyCounts) : Type 0 where
  pub keys : Keys
  pub are : keys_behind behind state ≡ keys ++ keys_behind at state
  pub counted : counts ≡ capped (counts_of keys)

module _ (state : State Content) (behind : Option Key) where
  -- a walk begins with nothing
  pub walk-first : (counts : KeyCounts) → counts ≡ no_counts → SoFar state behind behind counts
  walk-first counts is = record { keys = []; are = refl; counted = is ∙ capped-nothing }

  -- the next key is added
  pub walk-next : IsSound state → (counts one more : KeyCounts) (at : Option Key) (key : Key) (there : Stored Content)
      → SoFar state behind at counts → next_entry key_cmp at state.keys ≡ Some (key, there) → one ≡ capped (one_key there) → more ≡ capped (plus counts one)
      → SoFar state behind (Some key) more
  walk-next sound counts one more at key there so_far next weighed added =
      let entry : Key × Stored Content = (key, there) in
      let rest = keys_behind (Some key) state in
      record {
        keys = so_far.keys ++ entry ∷ [];
        are = so_far.are ∙ ap (λ (es : Keys). so_far.keys ++ es) (behind-next state sound at entry next) ∙ sym (append_assoc so_far.keys (entry ∷ []) rest);
        counted = added ∙ ap (λ c. capped (plus c one)) so_far.counted ∙ ap (λ c. capped (plus (capped (counts_of so_far.keys)) c)) weighed
            ∙ capped-both (counts_of so_far.keys) (one_key there) ∙ ap capped (sym (counts-push so_far.keys entry));
      }

  -- behind the last key there are none, whatever key is told beside it
  pub walk-last : (at up_to : Option Key) (counts : KeyCounts) → SoFar state behind at counts → next_entry key_cmp at state.keys ≡ None
      → IsStretch state behind up_to (record { counts = counts; is_last = true })
  walk-last at up_to counts so_far next = record {
    keys = so_far.keys;
    are = so_far.are ∙ ap (λ (es : Keys). so_far.keys ++ es) (behind-last state at next);
    counted = so_far.counted;
  }

  -- where the walk stops others stand behind it
  pub walk-stops : (at : Option Key) (counts : KeyCounts) → SoFar state behind at counts → IsStretch state behind at (record { counts = counts; is_last = false })
  walk-stops at counts so_far = record { keys = so_far.keys; are = so_far.are; counted = so_far.counted }
