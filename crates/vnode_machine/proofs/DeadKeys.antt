-- The keys of a state stand in their order, and which dead keys are left when the first of them is reaped.
use Rattle.std.proofs.Common.{◌≡◌, ℕ, Bool, true, false, not, ◌&&◌, cond, List, [], ◌∷◌, refl, sym, ◌∙◌, ap, map, drop}
use Rattle.std.specs.Prelude.{Option, Some, None, slice_get, filter, is_some}
use Rattle.std.specs.Option.{option_map_or}
use Rattle.std.specs.List.{list_any}
use Rattle.std.specs.declared.cmp.Ordering.TheVariants.{Less}
use Rattle.std.specs.Ordering.{is_eq, eq_by_cmp, ordering_reverse}
use Rattle.std.specs.FinMap.Entries.{find, where_key, is_sorted, below_all}
use Rattle.riak_msgs.specs.declared.Key.{Key}
use Rattle.riak_msgs.specs.Contents.{Content}
use Rattle.riak_msgs.specs.KeyOrder.{key_cmp, key_eq}
pub use Rattle.sibling_register.proofs.Following.{and_true}
use Rattle.vnode_machine.specs.Machine.{State, Stored, stored, holds_dead}
use Rattle.vnode_machine.specs.Replay.{History, replay}
use Rattle.vnode_machine.specs.Dead.{is_from, dead_keys, first_dead, reaped}
use Rattle.vnode_machine.proofs.Keys.{key_cmp_total, eq_by_key_cmp, key_eq-refl, find_reaped, sorted-step}
use Rattle.vnode_machine.proofs.Seen.{less}
use Rattle.vnode_machine.proofs.Tests.{and_left, and_right}

-- the keys are in order after each list of events
pub keys_sorted : (vnode last_epoch : ℕ) (history : History) → is_sorted key_cmp (replay vnode last_epoch history).keys ≡ true
keys_sorted vnode last_epoch [] = refl
keys_sorted vnode last_epoch (event ∷ before) =
    sorted-step (replay vnode last_epoch before) event.key event.context event.operation (keys_sorted vnode last_epoch before)

-- a key below another isn't it, on either side
pub not_eq-below : (key other : Key) → key_cmp key other ≡ Less → eq_by_cmp key_cmp key other ≡ false
not_eq-below key other h = ap is_eq h

pub not_eq-above : (key other : Key) → key_cmp other key ≡ Less → eq_by_cmp key_cmp key other ≡ false
not_eq-above key other h = ap is_eq (key_cmp_total.antisymm key other ∙ ap ordering_reverse h)

pub eq-itself : (key : Key) → eq_by_cmp key_cmp key key ≡ true
eq-itself key = eq_by_key_cmp key key ∙ key_eq-refl key

module _ {X : Type 0} where
  -- keys above one are all kept where that one is taken away
  pub where-below : (key : Key) (es : List (Key × X)) → below_all key_cmp key es ≡ true → where_key key_cmp (λ other. not (eq_by_cmp key_cmp key other)) es ≡ es
  where-below key [] h = refl
  where-below key (e ∷ es) h =
      let rest = where-below key es (and_right _ _ h) in
      let n = not_eq-below key e.0 (less _ (and_left _ _ h)) in
      ap (λ b. cond (not b) (e ∷ where_key key_cmp (λ other. not (eq_by_cmp key_cmp key other)) es) (where_key key_cmp (λ other. not (eq_by_cmp key_cmp key other)) es)) n
      ∙ ap (λ xs. e ∷ xs) rest

  -- and the same of tests of the keys alone
  filter-below : (p : Key → Bool) (key : Key) (es : List (Key × X)) → below_all key_cmp key es ≡ true
      → filter (λ other. not (eq_by_cmp key_cmp key other) && p other) (map (λ e. e.0) es) ≡ filter p (map (λ e. e.0) es)
  filter-below p key [] h = refl
  filter-below p key (e ∷ es) h =
      let rest = filter-below p key es (and_right _ _ h) in
      let n = not_eq-below key e.0 (less _ (and_left _ _ h)) in
      (λ i. cond (not (n i) && p e.0) (e.0 ∷ rest i) (rest i))

  abbrev passing : (Key → Bool) → List (Key × X) → List Key
  passing p es = filter p (map (λ e. e.0) es)

  abbrev kept : (Key → Bool) → Key → List (Key × X) → List Key
  kept p key es = filter (λ other. not (eq_by_cmp key_cmp key other) && p other) (map (λ e. e.0) es)

  -- what is left of the keys that pass a test when the first of them is taken away
  filter-left : (p : Key → Bool) (key : Key) (es : List (Key × X)) → is_sorted key_cmp es ≡ true → slice_get (filter p (map (λ e. e.0) es)) 0 ≡ Some key
      → filter (λ other. not (eq_by_cmp key_cmp key other) && p other) (map (λ e. e.0) es) ≡ drop 1 (filter p (map (λ e. e.0) es))
  filter-left p key [] sorted h = cc
  filter-left p key (e ∷ es) sorted h = by (p e.0) refl h (filter-left p key es (and_right _ _ sorted))
    where
      untaken : (b : Bool) → cond (b && false) (e.0 ∷ (kept p key es)) (kept p key es) ≡ (kept p key es)
      untaken true = refl
      untaken false = refl

      by : (b : Bool) → p e.0 ≡ b → slice_get (cond b (e.0 ∷ (passing p es)) (passing p es)) 0 ≡ Some key → (slice_get (passing p es) 0 ≡ Some key → (kept p key es) ≡ drop 1 (passing p es))
          → cond (not (eq_by_cmp key_cmp key e.0) && p e.0) (e.0 ∷ (kept p key es)) (kept p key es) ≡ drop 1 (cond b (e.0 ∷ (passing p es)) (passing p es))
      by true q h rest =
          let same : e.0 ≡ key = cc in
          let n : eq_by_cmp key_cmp key e.0 ≡ true = ap (λ k. eq_by_cmp key_cmp k e.0) (sym same) ∙ eq-itself e.0 in
          ap (λ b. cond (not b && p e.0) (e.0 ∷ (kept p key es)) (kept p key es)) n
          ∙ filter-below p key es (ap (λ k. below_all key_cmp k es) (sym same) ∙ and_left _ _ sorted)
      by false q h rest = ap (λ b. cond (not (eq_by_cmp key_cmp key e.0) && b) (e.0 ∷ (kept p key es)) (kept p key es)) q ∙ untaken (not (eq_by_cmp key_cmp key e.0)) ∙ rest h

  abbrev others : Key → List (Key × X) → List (Key × X)
  others key es = where_key key_cmp (λ other. not (eq_by_cmp key_cmp key other)) es

  -- a test of keys that fails at one needn't have that one taken away before
  filter-where : (p : Key → Bool) (key : Key) (es : List (Key × X))
      → filter (λ other. not (eq_by_cmp key_cmp key other) && p other) (map (λ e. e.0) (where_key key_cmp (λ other. not (eq_by_cmp key_cmp key other)) es))
      ≡ filter (λ other. not (eq_by_cmp key_cmp key other) && p other) (map (λ e. e.0) es)
  filter-where p key [] = refl
  filter-where p key (e ∷ es) = by (eq_by_cmp key_cmp key e.0) refl (filter-where p key es)
    where
      by : (b : Bool) → eq_by_cmp key_cmp key e.0 ≡ b → kept p key (others key es) ≡ kept p key es
          → kept p key (cond (not b) (e ∷ (others key es)) (others key es)) ≡ cond (not b && p e.0) (e.0 ∷ kept p key es) (kept p key es)
      by true q h = h
      by false q h = ap (λ b. cond (not b && p e.0) (e.0 ∷ kept p key (others key es)) (kept p key (others key es))) q ∙ ap (λ ks. cond (p e.0) (e.0 ∷ ks) ks) h

  -- a test of keys and what is found at each, of keys above an entry
  filter-above : (G : Key → Option X → Bool) (e : Key × X) (es above : List (Key × X)) → below_all key_cmp e.0 above ≡ true
      → filter (λ key. G key (find key_cmp key (e ∷ es))) (map (λ e. e.0) above) ≡ filter (λ key. G key (find key_cmp key es)) (map (λ e. e.0) above)
  filter-above G e es [] h = refl
  filter-above G e es (x ∷ above) h =
      let rest = filter-above G e es above (and_right _ _ h) in
      let n = not_eq-above x.0 e.0 (less _ (and_left _ _ h)) in
      (λ i. cond (G x.0 (cond (n i) (Some e.1) (find key_cmp x.0 es))) (x.0 ∷ rest i) (rest i))

  -- in a sorted list each entry is what is found at its key
  filter-found : (G : Key → Option X → Bool) (es : List (Key × X)) → is_sorted key_cmp es ≡ true
      → filter (λ key. G key (find key_cmp key es)) (map (λ e. e.0) es) ≡ map (λ e. e.0) (filter (λ e. G e.0 (Some e.1)) es)
  filter-found G [] h = refl
  filter-found G (e ∷ es) h =
      let above = filter-above G e es es (and_left _ _ h) in
      let rest = filter-found G es (and_right _ _ h) in
      (λ i. cond (G e.0 (cond (eq-itself e.0 i) (Some e.1) (find key_cmp e.0 es))) (e.0 ∷ (above ∙ rest) i) ((above ∙ rest) i))
      ∙ by (G e.0 (Some e.1)) (filter (λ e. G e.0 (Some e.1)) es)
    where
      by : (b : Bool) (xs : List (Key × X)) → cond b (e.0 ∷ map (λ e. e.0) xs) (map (λ e. e.0) xs) ≡ map (λ e. e.0) (cond b (e ∷ xs) xs)
      by true xs = refl
      by false xs = refl

-- whether what is stored of a key holds tombstones alone
abbrev pub dead_by : Option (Stored Content) → Bool
dead_by o = is_some o && not (list_any (λ entry. is_some entry.1) (option_map_or (λ (s : Stored Content). s.clock) o (record { known = []; live = [] })).live)

-- the dead keys by what is stored of each
pub dead_entries : (state : State Content) (from : Option Key) → is_sorted key_cmp state.keys ≡ true
    → dead_keys state from ≡ map (λ entry. entry.0) (filter (λ entry. is_from from entry.0 && dead_by (Some entry.1)) state.keys)
dead_entries state from h = filter-found (λ key o. is_from from key && dead_by o) state.keys h

module _ (state : State Content) (key : Key) where
  -- a reap leaves the other dead keys
  reaped-dead : (other : Key) → holds_dead (reaped state key) other ≡ (not (eq_by_cmp key_cmp key other) && holds_dead state other)
  reaped-dead other = ap dead_by (find_reaped key other state.keys) ∙ by (key_eq key other) ∙ ap (λ b. not b && holds_dead state other) (sym (eq_by_key_cmp key other))
    where
      by : (b : Bool) → dead_by (cond b None (stored state other)) ≡ (not b && holds_dead state other)
      by true = refl
      by false = refl

  -- where it is the first, those after it
  pub dead_left : (from : Option Key) → is_sorted key_cmp state.keys ≡ true → first_dead state from ≡ Some key → dead_keys (reaped state key) from ≡ drop 1 (dead_keys state from)
  dead_left from sorted first =
      (λ i. filter (λ other. tests other i) (map (λ entry. entry.0) (reaped state key).keys))
      ∙ filter-where (λ other. is_from from other && holds_dead state other) key state.keys
      ∙ filter-left (λ other. is_from from other && holds_dead state other) key state.keys sorted first
    where
      turned : (a b c : Bool) → (a && (b && c)) ≡ (b && (a && c))
      turned true true c = refl
      turned true false c = refl
      turned false true c = refl
      turned false false c = refl

      tests : (other : Key) → (is_from from other && holds_dead (reaped state key) other) ≡ (not (eq_by_cmp key_cmp key other) && (is_from from other && holds_dead state other))
      tests other = ap (λ b. is_from from other && b) (reaped-dead other) ∙ turned (is_from from other) (not (eq_by_cmp key_cmp key other)) (holds_dead state other)

-- the first that passes a test passes it
pub first-passes : {X : Type 0} (p : X → Bool) (xs : List X) (x : X) → slice_get (filter p xs) 0 ≡ Some x → p x ≡ true
first-passes p [] x h = cc
first-passes {X} p (y ∷ xs) x h = by (p y) refl h (first-passes p xs x)
  where
    by : (b : Bool) → p y ≡ b → slice_get (cond b (y ∷ filter p xs) (filter p xs)) 0 ≡ Some x → (slice_get (filter p xs) 0 ≡ Some x → p x ≡ true) → p x ≡ true
    by true e h rest =
        let same : x ≡ y = cc in
        ap p same ∙ e
    by false e h rest = rest h

-- the first dead key is dead, and at or after the given one
pub first_is_dead : (state : State Content) (from : Option Key) (key : Key) → first_dead state from ≡ Some key → (is_from from key && holds_dead state key) ≡ true
first_is_dead state from key h = first-passes (λ key. is_from from key && holds_dead state key) (map (λ entry. entry.0) state.keys) key h
