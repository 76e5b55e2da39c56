-- The least entry behind a key, and behind a combined one.
use Rattle.std.proofs.Common.{arith, ◌≡◌, ◌∙◌, refl, sym, ap, List, [], ◌∷◌, ◌++◌, Bool, true, false, cond}
use Rattle.std.specs.Prelude.{◌↔◌, ◌<◌, length, Option, Some, None, IsSome, IfSome, filter, slice_get, option_and_then}
use Rattle.std.specs.Borrow.{Bor}
use Rattle.std.specs.Option.{option_map}
use Rattle.std.specs.declared.cmp.Ordering.{Ordering}
use Rattle.std.specs.declared.cmp.Ordering.TheVariants.{Less, Equal, Greater}
use Rattle.std.specs.BTreeMap.{is_at}
use Rattle.std.specs.List.{AllByRecursion}
use Rattle.std.specs.List.Sorted.{IsStrictlySortedBy}
use Rattle.std.specs.Map.{lookup, lookup_key, keys_of}
use Rattle.std.specs.Ordering.{is_eq, is_lt, ordering_then}
use Rattle.std.proofs.lemmas.List.Elements.{filter-append}
use Rattle.std.proofs.lemmas.Cmp.{tied_itself}
use Rattle.std.specs.Cmp.{IsTotalOrder}
use Rattle.std.proofs.lemmas.Map.Keys.{sorted_head, sorted_tail}
use Rattle.names.specs.Behind.{is_behind, entries_behind, next_entry, entry_at}
use Rattle.names.specs.Nested.{flatten, IsNested, next_inside, first_behind}
use Rattle.std.specs.Option.{option_or}
use Rattle.names.proofs.Nested.{IsLexicographic, at, some_not_none}
use Rattle.std.proofs.lemmas.Option.{slice_get-map}
use Rattle.std.proofs.lemmas.Bool.{true≢false}

-- without a key nothing is left out
pub all_pass : {X : Type 0} (xs : List X) → filter (λ x. true) xs ≡ xs
all_pass [] = refl
all_pass (x ∷ xs) = ap (λ ys. x ∷ ys) (all_pass xs)

none_pass : {X : Type 0} (xs : List X) → filter (λ x. false) xs ≡ []
none_pass [] = refl
none_pass (x ∷ xs) = none_pass xs

next_of_all : {K X : Type 0} (cmp : K → K → Ordering) (es : List (K × X)) → next_entry cmp None es ≡ slice_get es 0
next_of_all cmp es = ap (λ xs. slice_get xs 0) (all_pass es)

-- what lies first in a map
pub first_of_all : {K X : Type 0} (cmp : K → K → Ordering) (o : Option (Bor K × Bor X)) (es : List (K × X)) → (IsSome o ↔ (0 < length es))
    → IfSome o (λ p. slice_get es 0 ≡ Some (p.0.now, p.1.now)) → option_map {T = Bor K × Bor X} {U = K × X} (λ e. (e.0.now, e.1.now)) o ≡ next_entry cmp None es
first_of_all cmp None [] variant first = refl
first_of_all cmp None (e ∷ es) variant first = let there : false ≡ true = variant.1 (omega arith) in cc
first_of_all cmp (Some p) es variant first = sym (next_of_all cmp es ∙ first)

head_append : {X : Type 0} (xs ys : List X) → slice_get (xs ++ ys) 0 ≡ option_or (slice_get xs 0) (slice_get ys 0)
head_append [] ys = refl
head_append (x ∷ xs) ys = refl

pub no_head : {X : Type 0} (xs : List X) → slice_get xs 0 ≡ None → xs ≡ []
no_head [] h = refl
no_head (x ∷ xs) h = some_not_none x h

head_cons : {X : Type 0} (xs : List X) (x : X) → slice_get xs 0 ≡ Some x → (rest : List X) × (xs ≡ x ∷ rest)
head_cons [] x h = some_not_none x (sym h)
head_cons (y ∷ ys) x h = let same : y ≡ x = cc in (ys, ap (λ z. z ∷ ys) same)

less_by : (o : Ordering) → is_lt o ≡ true → o ≡ Less
less_by Less h = refl
less_by Equal h = cc
less_by Greater h = cc

-- ---- from one entry to the next

behind_also : {K : Type 0} {cmp : K → K → Ordering} → IsTotalOrder cmp → (after : Option K) (k : K) → is_behind cmp after k ≡ true → (y : K) → cmp k y ≡ Less → is_behind cmp after y ≡ true
behind_also total None k here y less = refl
behind_also {cmp = cmp} total (Some a) k here y less = ap is_lt (total.trans a k y (less_by (cmp a k) here) less)

-- the first that passes a test passes it
head_passes : {X : Type 0} (p : X → Bool) (xs : List X) (x : X) → slice_get (filter p xs) 0 ≡ Some x → p x ≡ true
head_passes p [] x h = cc
head_passes {X} p (y ∷ xs) x h = by (p y) refl h (head_passes p xs x)
  where
    by : (b : Bool) → p y ≡ b → slice_get (cond b (y ∷ filter p xs) (filter p xs)) 0 ≡ Some x → (slice_get (filter p xs) 0 ≡ Some x → p x ≡ true) → p x ≡ true
    by true e h rest =
        let same : x ≡ y = cc in
        ap p same ∙ e
    by false e h rest = rest h

-- the next key is behind the one that was given
pub next_is_behind : {K X : Type 0} (cmp : K → K → Ordering) (after : Option K) (es : List (K × X)) (e : K × X) → next_entry cmp after es ≡ Some e → is_behind cmp after e.0 ≡ true
next_is_behind {K = K} {X = X} cmp after es e h = head_passes (λ (e : K × X). is_behind cmp after e.0) es e h

module _ {K X : Type 0} {cmp : K → K → Ordering} (total : IsTotalOrder cmp) where
  all_behind : (after : Option K) (k : K) (es : List (K × X)) → is_behind cmp after k ≡ true → AllByRecursion (λ y. cmp k y ≡ Less) (keys_of es) → entries_behind cmp after es ≡ es
  all_behind after k [] at all = refl
  all_behind after k (e ∷ es) at all =
      ap (λ b. cond b (e ∷ entries_behind cmp after es) (entries_behind cmp after es)) (behind_also total after k at e.0 all.0) ∙ ap (λ xs. e ∷ xs) (all_behind after k es at all.1)

  behind_all : (k : K) (es : List (K × X)) → AllByRecursion (λ y. cmp k y ≡ Less) (keys_of es) → entries_behind cmp (Some k) es ≡ es
  behind_all k [] all = refl
  behind_all k (e ∷ es) all =
      ap (λ o. cond (is_lt o) (e ∷ entries_behind cmp (Some k) es) (entries_behind cmp (Some k) es)) all.0 ∙ ap (λ xs. e ∷ xs) (behind_all k es all.1)

  -- what is behind the first of the entries behind a key are the others of these
  behind_first : (after : Option K) (es : List (K × X)) (e : K × X) (rest : List (K × X)) → IsStrictlySortedBy cmp (keys_of es) → entries_behind cmp after es ≡ e ∷ rest
      → entries_behind cmp (Some e.0) es ≡ rest
  behind_first after [] e rest sorted h = cc
  behind_first after (x ∷ xs) e rest sorted h = by (is_behind cmp after x.0) refl h (behind_first after xs e rest (sorted_tail cmp x.0 (keys_of xs) sorted))
    where
      above : AllByRecursion (λ y. cmp x.0 y ≡ Less) (keys_of xs)
      above = sorted_head cmp x.0 (keys_of xs) sorted

      not_before : (a : Option K) → is_behind cmp a x.0 ≡ false → is_behind cmp a e.0 ≡ true → (b : Bool) → is_lt (cmp e.0 x.0) ≡ b → b ≡ false
      not_before a at here false is = refl
      not_before a at here true is = absurd (true≢false (sym (behind_also total a e.0 here x.0 (less_by (cmp e.0 x.0) is)) ∙ at))

      by : (b : Bool) → is_behind cmp after x.0 ≡ b → cond b (x ∷ entries_behind cmp after xs) (entries_behind cmp after xs) ≡ e ∷ rest
          → (entries_behind cmp after xs ≡ e ∷ rest → entries_behind cmp (Some e.0) xs ≡ rest)
          → cond (is_lt (cmp e.0 x.0)) (x ∷ entries_behind cmp (Some e.0) xs) (entries_behind cmp (Some e.0) xs) ≡ rest
      by true at h next =
          let same : x ≡ e = cc in
          let others : entries_behind cmp after xs ≡ rest = cc in
          ap (λ (e : K × X). cond (is_lt (cmp e.0 x.0)) (x ∷ entries_behind cmp (Some e.0) xs) (entries_behind cmp (Some e.0) xs)) (sym same)
          ∙ ap (λ o. cond (is_lt o) (x ∷ entries_behind cmp (Some x.0) xs) (entries_behind cmp (Some x.0) xs)) (tied_itself total x.0)
          ∙ behind_all x.0 xs above ∙ sym (all_behind after x.0 xs at above) ∙ others
      by false at h next =
          ap (λ b. cond b (x ∷ entries_behind cmp (Some e.0) xs) (entries_behind cmp (Some e.0) xs))
          (not_before after at (head_passes (λ (e : K × X). is_behind cmp after e.0) xs e (ap (λ es. slice_get es 0) h)) (is_lt (cmp e.0 x.0)) refl)
          ∙ next h

  -- the entries behind a key are the next one, and those behind that
  pub goes_on : (after : Option K) (es : List (K × X)) (e : K × X) → IsStrictlySortedBy cmp (keys_of es) → next_entry cmp after es ≡ Some e
      → entries_behind cmp after es ≡ e ∷ entries_behind cmp (Some e.0) es
  goes_on after es e sorted h =
      let parts = head_cons (entries_behind cmp after es) e h in
      parts.1 ∙ ap (λ xs. e ∷ xs) (sym (behind_first after es e parts.0 sorted parts.1))

-- ---- through inner maps

-- the entry at a key, by what is found there
entry_found : {K X : Type 0} (cmp : K → K → Ordering) (a k : K) (x : X) (es : List (K × X)) → lookup_key (is_at (cmp a)) es ≡ Some k → lookup (is_at (cmp a)) es ≡ Some x → entry_at cmp a es ≡ Some (k, x)
entry_found cmp a k x [] key found = some_not_none k (sym key)
entry_found cmp a k x (e ∷ es) key found = by (is_at (cmp a) e.0) key found (entry_found cmp a k x es)
  where
    by : (b : Bool) → cond b (Some e.0) (lookup_key (is_at (cmp a)) es) ≡ Some k → cond b (Some e.1) (lookup (is_at (cmp a)) es) ≡ Some x
        → (lookup_key (is_at (cmp a)) es ≡ Some k → lookup (is_at (cmp a)) es ≡ Some x → entry_at cmp a es ≡ Some (k, x)) → cond b (Some e) (entry_at cmp a es) ≡ Some (k, x)
    by true key found rest =
        let k_is : e.0 ≡ k = cc in
        let x_is : e.1 ≡ x = cc in
        λ i. Some (k_is i, x_is i)
    by false key found rest = rest key found

entry_none : {K X : Type 0} (cmp : K → K → Ordering) (a : K) (es : List (K × X)) → lookup (is_at (cmp a)) es ≡ None → entry_at cmp a es ≡ None
entry_none cmp a [] found = refl
entry_none cmp a (e ∷ es) found = by (is_at (cmp a) e.0) found (entry_none cmp a es)
  where
    by : (b : Bool) → cond b (Some e.1) (lookup (is_at (cmp a)) es) ≡ None → (lookup (is_at (cmp a)) es ≡ None → entry_at cmp a es ≡ None) → cond b (Some e) (entry_at cmp a es) ≡ None
    by true found rest = some_not_none e.1 found
    by false found rest = rest found

module _ {A B C V M : Type 0} {entries_of : M → List (B × V)} {combine : A → B → C} {outer : A → A → Ordering} {inner : B → B → Ordering} {whole : C → C → Ordering}
    (order : IsLexicographic entries_of combine outer inner whole) where
  filter_at : (p : C × V → Bool) (a : A) (fs : List (B × V)) → filter p (at order a fs) ≡ at order a (filter (λ (f : B × V). p (combine a f.0, f.1)) fs)
  filter_at p a [] = refl
  filter_at p a (f ∷ fs) = by (p (combine a f.0, f.1)) (filter_at p a fs)
    where
      by : (b : Bool) → filter p (at order a fs) ≡ at order a (filter (λ (f : B × V). p (combine a f.0, f.1)) fs)
          → cond b ((combine a f.0, f.1) ∷ filter p (at order a fs)) (filter p (at order a fs))
          ≡ at order a (cond b (f ∷ filter (λ (f : B × V). p (combine a f.0, f.1)) fs) (filter (λ (f : B × V). p (combine a f.0, f.1)) fs))
      by true rest = ap (λ es. (combine a f.0, f.1) ∷ es) rest
      by false rest = rest

  -- what is above a key is above those that are not above that
  all_above : (a x : A) (es : List (A × M)) → ((y : A) → outer x y ≡ Less → outer a y ≡ Less) → AllByRecursion (λ y. outer x y ≡ Less) (keys_of es) → AllByRecursion (λ y. outer a y ≡ Less) (keys_of es)
  all_above a x [] less all = tt
  all_above a x (e ∷ es) less all = (less e.0 all.0, all_above a x es less all.1)

  none_at : (a : A) (es : List (A × M)) → AllByRecursion (λ y. outer a y ≡ Less) (keys_of es) → entry_at outer a es ≡ None
  none_at a [] all = refl
  none_at a (e ∷ es) all = ap (λ o. cond (is_eq o) (Some e) (entry_at outer a es)) all.0 ∙ none_at a es all.1

  abbrev inside : A → B → List (A × M) → Option (C × V)
  inside a b es = next_inside entries_of combine outer inner a b es

  -- by what is found of the outer key
  pub inside_none : (a : A) (b : B) (es : List (A × M)) → None ≡ lookup (is_at (outer a)) es → None ≡ inside a b es
  inside_none a b es found =
      sym (ap (option_and_then (λ (e : A × M). option_map {U = C × V} (λ (f : B × V). (combine e.0 f.0, f.1)) (next_entry inner (Some b) (entries_of e.1)))) (entry_none outer a es (sym found)))

  pub inside_some : (a : A) (b : B) (es : List (A × M)) (k : A) (m : M) (r : Option (B × V)) → Some k ≡ lookup_key (is_at (outer a)) es → Some m ≡ lookup (is_at (outer a)) es
      → r ≡ next_entry inner (Some b) (entries_of m) → option_map {U = C × V} (λ (f : B × V). (combine k f.0, f.1)) r ≡ inside a b es
  inside_some a b es k m r key found is =
      ap (option_map {U = C × V} (λ (f : B × V). (combine k f.0, f.1))) is
      ∙ sym (ap (option_and_then (λ (e : A × M). option_map {U = C × V} (λ (f : B × V). (combine e.0 f.0, f.1)) (next_entry inner (Some b) (entries_of e.1)))) (entry_found outer a k m es (sym key) (sym found)))

  abbrev beyond : A → List (A × M) → List (A × M)
  beyond a es = filter (λ (e : A × M). is_lt (outer a e.0)) es

  -- the least key behind a combined one has its outer key, or is the first of those behind that
  next_flatten : (a : A) (b : B) (es : List (A × M)) → IsStrictlySortedBy outer (keys_of es)
      → next_entry whole (Some (combine a b)) (flatten entries_of combine es) ≡ option_or (inside a b es) (first_behind entries_of combine outer (Some a) es)
  next_flatten a b [] sorted = refl
  next_flatten a b (e ∷ es) sorted =
      ap (λ xs. slice_get xs 0) (filter-append test (at order e.0 (entries_of e.1)) (flatten entries_of combine es))
      ∙ head_append (filter test (at order e.0 (entries_of e.1))) (filter test (flatten entries_of combine es))
      ∙ ap (option_or (slice_get (filter test (at order e.0 (entries_of e.1))) 0)) (next_flatten a b es (sorted_tail outer e.0 (keys_of es) sorted))
      ∙ ap (λ xs. option_or (slice_get xs 0) (option_or (inside a b es) (slice_get (flatten entries_of combine (beyond a es)) 0)))
      (filter_at test e.0 (entries_of e.1) ∙ (λ i. at order e.0 (filter (λ (f : B × V). is_lt (order.ties a e.0 b f.0 i)) (entries_of e.1))))
      ∙ by (outer a e.0) refl
    where
      test : C × V → Bool
      test c = is_lt (whole (combine a b) c.0)

      none_here : ((y : A) → outer e.0 y ≡ Less → outer a y ≡ Less) → inside a b es ≡ None
      none_here less =
          ap (option_and_then (λ (e : A × M). option_map {U = C × V} (λ (f : B × V). (combine e.0 f.0, f.1)) (next_entry inner (Some b) (entries_of e.1))))
          (none_at a es (all_above a e.0 es less (sorted_head outer e.0 (keys_of es) sorted)))

      by : (o : Ordering) → outer a e.0 ≡ o
          → option_or (slice_get (at order e.0 (filter (λ (f : B × V). is_lt (ordering_then o (inner b f.0))) (entries_of e.1))) 0)
          (option_or (inside a b es) (slice_get (flatten entries_of combine (beyond a es)) 0))
          ≡ option_or
          (option_and_then
          (λ (e : A × M). option_map {U = C × V} (λ (f : B × V). (combine e.0 f.0, f.1)) (next_entry inner (Some b) (entries_of e.1)))
          (cond (is_eq o) (Some e) (entry_at outer a es)))
          (slice_get (flatten entries_of combine (cond (is_lt o) (e ∷ beyond a es) (beyond a es))) 0)
      by Less is =
          let none = none_here (λ y h. order.total.trans a e.0 y is h) in
          ap (λ fs. option_or (slice_get (at order e.0 fs) 0) (option_or (inside a b es) (slice_get (flatten entries_of combine (beyond a es)) 0))) (all_pass (entries_of e.1))
          ∙ ap (λ o. option_or (slice_get (at order e.0 (entries_of e.1)) 0) (option_or o (slice_get (flatten entries_of combine (beyond a es)) 0))) none
          ∙ sym (head_append (at order e.0 (entries_of e.1)) (flatten entries_of combine (beyond a es)))
          ∙ sym (ap (λ o. option_or o (slice_get (flatten entries_of combine (e ∷ beyond a es)) 0)) none)
      by Equal is =
          (λ i. option_or (slice_get-map {B = C × V} (λ (f : B × V). (combine e.0 f.0, f.1)) (filter (λ (f : B × V). is_lt (inner b f.0)) (entries_of e.1)) 0 i)
          (option_or (none_here (λ y h. order.total.congr a e.0 y is ∙ h) i) (slice_get (flatten entries_of combine (beyond a es)) 0)))
      by Greater is = ap (λ fs. option_or (slice_get (at order e.0 fs) 0) (option_or (inside a b es) (slice_get (flatten entries_of combine (beyond a es)) 0))) (none_pass (entries_of e.1))

  pub next_flatten_all : (es : List (A × M)) → next_entry whole None (flatten entries_of combine es) ≡ first_behind entries_of combine outer None es
  next_flatten_all es = next_of_all whole (flatten entries_of combine es) ∙ sym (ap (λ xs. slice_get (flatten entries_of combine xs) 0) (all_pass es))

  -- so it is the one that is found with its outer key, and else the first of those behind
  pub next_within : (a : A) (b : B) (es : List (A × M)) → IsStrictlySortedBy outer (keys_of es) → (x : C × V) → Some x ≡ inside a b es
      → Some x ≡ next_entry whole (Some (combine a b)) (flatten entries_of combine es)
  next_within a b es sorted x found = ap (λ o. option_or o (first_behind entries_of combine outer (Some a) es)) found ∙ sym (next_flatten a b es sorted)

  pub next_beyond : (a : A) (b : B) (es : List (A × M)) → IsStrictlySortedBy outer (keys_of es) → None ≡ inside a b es
      → first_behind entries_of combine outer (Some a) es ≡ next_entry whole (Some (combine a b)) (flatten entries_of combine es)
  next_beyond a b es sorted none = ap (λ o. option_or o (first_behind entries_of combine outer (Some a) es)) none ∙ sym (next_flatten a b es sorted)

  -- the first combined key is the first inner one of the first outer one
  head_flatten : (e : A × M) (f : B × V) (es : List (A × M)) → slice_get es 0 ≡ Some e → slice_get (entries_of e.1) 0 ≡ Some f → slice_get (flatten entries_of combine es) 0 ≡ Some (combine e.0 f.0, f.1)
  head_flatten e f [] is has = some_not_none e (sym is)
  head_flatten e f (x ∷ es) is has =
      let same : x ≡ e = cc in
      head_append (at order x.0 (entries_of x.1)) (flatten entries_of combine es)
      ∙ ap (λ (x : A × M). option_or (slice_get (at order x.0 (entries_of x.1)) 0) (slice_get (flatten entries_of combine es) 0)) same
      ∙ ap (λ o. option_or o (slice_get (flatten entries_of combine es) 0)) (slice_get-map {B = C × V} (λ (f : B × V). (combine e.0 f.0, f.1)) (entries_of e.1) 0 ∙ ap (option_map {U = C × V} (λ (f : B × V). (combine e.0 f.0, f.1))) has)

  pub first_some : (after : Option A) (es : List (A × M)) (a : A) (m : M) (b : B) (v : V) → Some (a, m) ≡ next_entry outer after es → Some (b, v) ≡ next_entry inner None (entries_of m)
      → Some (combine a b, v) ≡ first_behind entries_of combine outer after es
  first_some after es a m b v is has = sym (head_flatten (a, m) (b, v) (entries_behind outer after es) (sym is) (sym (next_of_all inner (entries_of m)) ∙ sym has))

  pub first_none : (after : Option A) (es : List (A × M)) → None ≡ next_entry outer after es → None ≡ first_behind entries_of combine outer after es
  first_none after es is = sym (ap (λ xs. slice_get (flatten entries_of combine xs) 0) (no_head (entries_behind outer after es) (sym is)))

  -- an inner map has a first key
  pub never_empty : (es : List (A × M)) → IsNested entries_of outer inner es → (a : A) (m : M) → lookup (is_at (outer a)) es ≡ Some m → None ≡ next_entry inner None (entries_of m) → ⊥
  never_empty es nested a m found none = (nested.held a m found).filled (no_head (entries_of m) (sym (next_of_all inner (entries_of m)) ∙ sym none))
