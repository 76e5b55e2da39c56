-- Where an actor stands among entries.
use Rattle.std.proofs.Common.{◌≡◌, ℕ, zero, suc, ◌+◌, ◌<◌, ◌≤◌, true, cond, List, [], ◌∷◌, length, drop, get_or, refl, sym, ◌∙◌, ap, arith}
use Rattle.std.specs.Prelude.{T, Some, None, unwrap_or, is_some}
use Rattle.std.specs.List.{insert}
use Rattle.std.specs.declared.cmp.Ordering.{Ordering}
use Rattle.std.specs.declared.cmp.Ordering.TheVariants.{Less, Equal, Greater}
use Rattle.std.specs.Ordering.{is_lt, is_eq, ordering_reverse}
use Rattle.std.specs.FinMap.Entries.{find, put, is_sorted, below_all, by_order}
use Rattle.std.proofs.Math.ListN.{set}
use Rattle.actor_epoch.specs.declared.Actor.{Actor}
use Rattle.actor_epoch.specs.declared.Dot.{Dot}
use Rattle.actor_epoch.specs.Dots.{actor_cmp}
use Rattle.actor_epoch.proofs.Pairs.{actor_cmp-same}
use Rattle.actor_epoch.proofs.Order.{actor_cmp_total}
use Rattle.dvv_set.specs.declared.entry.Entry.{Entry}
use Rattle.dvv_set.specs.declared.entry.Place.{Place}
use Rattle.dvv_set.specs.declared.entry.Place.TheVariants.{Taken, Free}
use Rattle.dvv_set.specs.ClockEntries.{ClockEntries, entry_for, count_new, entries_of_pairs}
use Rattle.dvv_set.specs.Stored.{one_on, search_actor, clock_entry, clock_entries}
use Rattle.dvv_set.proofs.Orders.{T-first, T-second, T-less, find-below, below_all-less}

-- n places further on
abbrev pub further : ℕ → Place → Place
further n (Taken at) = Taken (n + at)
further n (Free at) = Free (n + at)

pub one_on-taken : (p : Place) (i : ℕ) → one_on p ≡ Taken i → (j : ℕ) × (p ≡ Taken j) × (i ≡ suc j)
one_on-taken (Taken at) i h = (at, refl, (let e : at + 1 ≡ i = cc in omega arith))
one_on-taken (Free at) i h = cc

pub one_on-free : (p : Place) (i : ℕ) → one_on p ≡ Free i → (j : ℕ) × (p ≡ Free j) × (i ≡ suc j)
one_on-free (Free at) i h = (at, refl, (let e : at + 1 ≡ i = cc in omega arith))
one_on-free (Taken at) i h = cc

turn : (a b : Actor) (o : Ordering) → actor_cmp a b ≡ o → actor_cmp b a ≡ ordering_reverse o
turn a b o h = actor_cmp_total.antisymm b a ∙ ap ordering_reverse h

module _ {V : Type 0} where
  -- an actor stands at a place
  pub record StandsAt (a : Actor) (entries : ClockEntries V) (i : ℕ) (d : Actor × (ℕ × List V)) : Type 0 where
    pub within : i < length entries
    pub actor : (get_or entries i d).0 ≡ a
    pub entry : entry_for a entries ≡ (get_or entries i d).1
    pub put_is : (entry : ℕ × List V) → put actor_cmp a entry entries ≡ set entries i (a, entry)

  pub search_actor-taken : (a : Actor) (entries : ClockEntries V) (i : ℕ) (d : Actor × (ℕ × List V)) → search_actor a entries ≡ Taken i → StandsAt a entries i d
  search_actor-taken a [] i d h = cc
  search_actor-taken a (r ∷ entries) i d h = by (actor_cmp r.0 a) refl h (λ j e. search_actor-taken a entries j d e)
    where
      less : (j : ℕ) → actor_cmp r.0 a ≡ Less → StandsAt a entries j d → StandsAt a (r ∷ entries) (suc j) d
      less j l t =
          let g : actor_cmp a r.0 ≡ Greater = turn r.0 a Less l in
          record {
            within = omega (arith, t.within);
            actor = t.actor;
            entry = ap (λ o. unwrap_or (cond (is_eq o) (Some r.1) (find actor_cmp a entries)) (0, [])) g ∙ t.entry;
            put_is = λ entry. ap (λ o. by_order o ((a, entry) ∷ r ∷ entries) ((r.0, entry) ∷ entries) (r ∷ put actor_cmp a entry entries)) g ∙ ap (λ rs. r ∷ rs) (t.put_is entry);
          }

      by : (o : Ordering) → actor_cmp r.0 a ≡ o → by_order o (one_on (search_actor a entries)) (Taken 0) (Free 0) ≡ Taken i
          → ((j : ℕ) → search_actor a entries ≡ Taken j → StandsAt a entries j d) → StandsAt a (r ∷ entries) i d
      by Less l e rest =
          let (j, is, next) = one_on-taken (search_actor a entries) i e in
          rw next (less j l (rest j is))
      by Equal l e rest =
          let first : 0 ≡ i = cc in
          let same : r.0 ≡ a = actor_cmp-same r.0 a l in
          let t : actor_cmp a r.0 ≡ Equal = turn r.0 a Equal l in
          rw (← first) record {
            within = omega arith;
            actor = same;
            entry = ap (λ o. unwrap_or (cond (is_eq o) (Some r.1) (find actor_cmp a entries)) (0, [])) t;
            put_is = λ entry. ap (λ o. by_order o ((a, entry) ∷ r ∷ entries) ((r.0, entry) ∷ entries) (r ∷ put actor_cmp a entry entries)) t ∙ ap (λ k. (k, entry) ∷ entries) same;
          }
      by Greater l e rest = cc

  -- an actor does not stand among entries, and would at a place
  pub record WouldStandAt (a : Actor) (entries : ClockEntries V) (i : ℕ) : Type 0 where
    pub within : i ≤ length entries
    pub none : find actor_cmp a entries ≡ None
    pub put_is : (entry : ℕ × List V) → put actor_cmp a entry entries ≡ insert entries i (a, entry)

  pub search_actor-free : (a : Actor) (entries : ClockEntries V) (i : ℕ) → T (is_sorted actor_cmp entries) → search_actor a entries ≡ Free i → WouldStandAt a entries i
  search_actor-free a [] i s h = let first : 0 ≡ i = cc in rw (← first) record { within = omega arith; none = refl; put_is = λ entry. refl }
  search_actor-free a (r ∷ entries) i s h = by (actor_cmp r.0 a) refl h (λ j e. search_actor-free a entries j (T-second (below_all actor_cmp r.0 entries) _ s) e)
    where
      less : (j : ℕ) → actor_cmp r.0 a ≡ Less → WouldStandAt a entries j → WouldStandAt a (r ∷ entries) (suc j)
      less j l t =
          let g : actor_cmp a r.0 ≡ Greater = turn r.0 a Less l in
          record {
            within = omega (arith, t.within);
            none = ap (λ o. cond (is_eq o) (Some r.1) (find actor_cmp a entries)) g ∙ t.none;
            put_is = λ entry. ap (λ o. by_order o ((a, entry) ∷ r ∷ entries) ((r.0, entry) ∷ entries) (r ∷ put actor_cmp a entry entries)) g ∙ ap (λ rs. r ∷ rs) (t.put_is entry);
          }

      by : (o : Ordering) → actor_cmp r.0 a ≡ o → by_order o (one_on (search_actor a entries)) (Taken 0) (Free 0) ≡ Free i
          → ((j : ℕ) → search_actor a entries ≡ Free j → WouldStandAt a entries j) → WouldStandAt a (r ∷ entries) i
      by Less l e rest =
          let (j, is, next) = one_on-free (search_actor a entries) i e in
          rw next (less j l (rest j is))
      by Equal l e rest = cc
      by Greater l e rest =
          let first : 0 ≡ i = cc in
          let t : actor_cmp a r.0 ≡ Less = turn r.0 a Greater l in
          let gone : find actor_cmp a entries ≡ None =
          find-below actor_cmp actor_cmp_total a entries (below_all-less actor_cmp actor_cmp_total a r.0 entries t (T-first _ (is_sorted actor_cmp entries) s)) in
          rw (← first) record {
            within = omega arith;
            none = ap (λ o. cond (is_eq o) (Some r.1) (find actor_cmp a entries)) t ∙ gone;
            put_is = λ entry. ap (λ o. by_order o ((a, entry) ∷ r ∷ entries) ((r.0, entry) ∷ entries) (r ∷ put actor_cmp a entry entries)) t;
          }

-- the index of a place
abbrev pub place_at : Place → ℕ
place_at (Taken at) = at
place_at (Free at) = at

pub place_at-one_on : (p : Place) → place_at (one_on p) ≡ suc (place_at p)
place_at-one_on (Taken at) = omega arith
place_at-one_on (Free at) = omega arith

module _ {V : Type 0} where
  -- an actor that stands among entries is found
  taken-found : (a : Actor) (entries : ClockEntries V) (i : ℕ) → search_actor a entries ≡ Taken i → is_some (find actor_cmp a entries) ≡ true
  taken-found a [] i h = cc
  taken-found a (r ∷ entries) i h = by (actor_cmp r.0 a) refl h (λ j e. taken-found a entries j e)
    where
      by : (o : Ordering) → actor_cmp r.0 a ≡ o → by_order o (one_on (search_actor a entries)) (Taken 0) (Free 0) ≡ Taken i
          → ((j : ℕ) → search_actor a entries ≡ Taken j → is_some (find actor_cmp a entries) ≡ true) → is_some (find actor_cmp a (r ∷ entries)) ≡ true
      by Less l e rest =
          let (j, is, next) = one_on-taken (search_actor a entries) i e in
          ap (λ o. is_some (cond (is_eq o) (Some r.1) (find actor_cmp a entries))) (turn r.0 a Less l) ∙ rest j is
      by Equal l e rest = ap (λ o. is_some (cond (is_eq o) (Some r.1) (find actor_cmp a entries))) (turn r.0 a Equal l)
      by Greater l e rest = cc

  -- an entry below all others is none of theirs
  count_new-above : (entry : Actor × (ℕ × List V)) (others entries : ClockEntries V) → T (below_all actor_cmp entry.0 others) → count_new others (entry ∷ entries) ≡ count_new others entries
  count_new-above entry [] entries h = refl
  count_new-above entry (other ∷ others) entries h =
      let less : actor_cmp entry.0 other.0 ≡ Less = T-less _ (T-first (is_lt (actor_cmp entry.0 other.0)) _ h) in
      let same : find actor_cmp other.0 (entry ∷ entries) ≡ find actor_cmp other.0 entries = ap (λ o. cond (is_eq o) (Some entry.1) (find actor_cmp other.0 entries)) (turn entry.0 other.0 Less less) in
      let rest = count_new-above entry others entries (T-second (is_lt (actor_cmp entry.0 other.0)) _ h) in
      λ i. cond (is_some (same i)) 0 1 + rest i

  -- actors above one are new among the entries from its place on where they are new among all
  count_new-from : (a : Actor) (others : ClockEntries V) (entries : List (Entry V)) → T (below_all actor_cmp a others)
      → count_new others (clock_entries entries) ≡ count_new others (clock_entries (drop (place_at (search_actor a (clock_entries entries))) entries))
  count_new-from a others [] h = refl
  count_new-from a others (r ∷ entries) h = by (actor_cmp (clock_entry r).0 a) refl (count_new-from a others entries h)
    where
      by : (o : Ordering) → actor_cmp (clock_entry r).0 a ≡ o
          → count_new others (clock_entries entries) ≡ count_new others (clock_entries (drop (place_at (search_actor a (clock_entries entries))) entries))
          → count_new others (clock_entries (r ∷ entries))
          ≡ count_new others (clock_entries (drop (place_at (by_order o (one_on (search_actor a (clock_entries entries))) (Taken 0) (Free 0))) (r ∷ entries)))
      by Less l rest =
          count_new-above (clock_entry r) others (clock_entries entries) (below_all-less actor_cmp actor_cmp_total (clock_entry r).0 a others l h)
          ∙ rest
          ∙ ap (λ n. count_new others (clock_entries (drop n (r ∷ entries)))) (sym (place_at-one_on (search_actor a (clock_entries entries))))
      by Equal l rest = refl
      by Greater l rest = refl

  pub is_sorted-drop : (n : ℕ) (entries : List (Entry V)) → T (is_sorted actor_cmp (clock_entries entries)) → T (is_sorted actor_cmp (clock_entries (drop n entries)))
  is_sorted-drop zero entries h = h
  is_sorted-drop (suc n) [] h = h
  is_sorted-drop (suc n) (r ∷ entries) h = is_sorted-drop n entries (T-second (below_all actor_cmp (clock_entry r).0 (clock_entries entries)) _ h)

  -- the first of pairs stands among entries: those after it are counted from its place on
  pub count_new-taken : (a : Actor) (n : ℕ) (pairs : List Dot) (entries : List (Entry V)) (i : ℕ)
      → T (is_sorted actor_cmp (entries_of_pairs {V = V} (record { actor = a; counter = n } ∷ pairs))) → search_actor a (clock_entries entries) ≡ Taken i
      → count_new (entries_of_pairs {V = V} (record { actor = a; counter = n } ∷ pairs)) (clock_entries entries) ≡ count_new (entries_of_pairs {V = V} pairs) (clock_entries (drop i entries))
  count_new-taken a n pairs entries i s t =
      let others : ClockEntries V = entries_of_pairs pairs in
      let from = count_new-from a others entries (T-first (below_all actor_cmp a others) _ s) ∙ ap (λ p. count_new others (clock_entries (drop (place_at p) entries))) t in
      let here = ap (λ b. cond b 0 1 + count_new others (clock_entries entries)) (taken-found a (clock_entries entries) i t) in
      omega (arith, from, here)

  -- the first of pairs would stand among entries: it is new
  pub count_new-free : (a : Actor) (n : ℕ) (pairs : List Dot) (entries : List (Entry V)) (i : ℕ)
      → T (is_sorted actor_cmp (entries_of_pairs {V = V} (record { actor = a; counter = n } ∷ pairs))) → T (is_sorted actor_cmp (clock_entries entries)) → search_actor a (clock_entries entries) ≡ Free i
      → count_new (entries_of_pairs {V = V} (record { actor = a; counter = n } ∷ pairs)) (clock_entries entries) ≡ 1 + count_new (entries_of_pairs {V = V} pairs) (clock_entries (drop i entries))
  count_new-free a n pairs entries i s h t =
      let others : ClockEntries V = entries_of_pairs pairs in
      let from = count_new-from a others entries (T-first (below_all actor_cmp a others) _ s) ∙ ap (λ p. count_new others (clock_entries (drop (place_at p) entries))) t in
      let here = ap (λ o. cond (is_some o) 0 1 + count_new others (clock_entries entries)) (search_actor-free a (clock_entries entries) i h t).none in
      omega (arith, from, here)
