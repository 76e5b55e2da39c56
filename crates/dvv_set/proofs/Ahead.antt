-- Entries that are below an actor, so that a search for it goes on behind them.
use Rattle.std.proofs.Common.{◌≡◌, ℕ, zero, suc, ◌+◌, ◌≤◌, Bool, true, ◌&&◌, IsTrue, List, [], ◌∷◌, length, take, drop, refl, sym, ◌∙◌, ap, arith}
use Rattle.std.specs.Prelude.{T}
use Rattle.std.specs.List.{list_all, insert}
use Rattle.std.specs.declared.cmp.Ordering.{Ordering}
use Rattle.std.specs.declared.cmp.Ordering.TheVariants.{Less, Equal, Greater}
use Rattle.std.specs.Ordering.{is_lt}
use Rattle.std.specs.FinMap.Entries.{below_all, by_order}
use Rattle.std.proofs.Math.ListN.{set}
use Rattle.actor_epoch.specs.declared.Actor.{Actor}
use Rattle.actor_epoch.specs.Dots.{actor_cmp}
use Rattle.actor_epoch.proofs.Rising.{and_first, and_second}
use Rattle.actor_epoch.proofs.Order.{actor_cmp_total}
use Rattle.dvv_set.specs.declared.entry.Entry.{Entry}
use Rattle.dvv_set.specs.declared.entry.Place.{Place}
use Rattle.dvv_set.specs.declared.entry.Place.TheVariants.{Taken, Free}
use Rattle.dvv_set.specs.ClockEntries.{ClockEntries, AreEntries}
use Rattle.dvv_set.specs.Stored.{are_below, one_on, search_actor, clock_entry, clock_entries}
use Rattle.dvv_set.proofs.Orders.{T-first, T-second, T-is, T-less}
use Rattle.dvv_set.proofs.Places.{further, one_on-taken, one_on-free, place_at, place_at-one_on}

further-none : (p : Place) → further 0 p ≡ p
further-none (Taken at) = let e : 0 + at ≡ at = omega arith in ap Taken e
further-none (Free at) = let e : 0 + at ≡ at = omega arith in ap Free e

one_on-further : (n : ℕ) (p : Place) → one_on (further n p) ≡ further (suc n) p
one_on-further n (Taken at) = let e : (n + at) + 1 ≡ suc n + at = omega arith in ap Taken e
one_on-further n (Free at) = let e : (n + at) + 1 ≡ suc n + at = omega arith in ap Free e

module _ {V : Type 0} where
  pub place-within : (a : Actor) (entries : List (Entry V)) → place_at (search_actor a (clock_entries entries)) ≤ length entries
  place-within a [] = omega arith
  place-within a (r ∷ entries) = by (actor_cmp (clock_entry r).0 a) (place-within a entries)
    where
      by : (o : Ordering) → place_at (search_actor a (clock_entries entries)) ≤ length entries
          → place_at (by_order o (one_on (search_actor a (clock_entries entries))) (Taken 0) (Free 0)) ≤ suc (length entries)
      by Less h = let one = place_at-one_on (search_actor a (clock_entries entries)) in omega arith
      by Equal h = omega arith
      by Greater h = omega arith

  -- where the first entries are below an actor, it stands where it stands among the others
  pub search_actor-behind : (a : Actor) (n : ℕ) (entries : List (Entry V)) → n ≤ length entries → IsTrue (are_below a (clock_entries (take n entries)))
      → search_actor a (clock_entries entries) ≡ further n (search_actor a (clock_entries (drop n entries)))
  search_actor-behind a zero entries h b = sym (further-none (search_actor a (clock_entries entries)))
  search_actor-behind a (suc n) [] h b = absurd (omega arith)
  search_actor-behind a (suc n) (r ∷ entries) h b =
      let first = is_lt (actor_cmp (clock_entry r).0 a) in
      let rest = are_below a (clock_entries (take n entries)) in
      ap (λ o. by_order o (one_on (search_actor a (clock_entries entries))) (Taken 0) (Free 0)) (T-less _ (T-is first (and_first first rest b)))
      ∙ ap one_on (search_actor-behind a n entries (omega arith) (and_second first rest b))
      ∙ one_on-further n (search_actor a (clock_entries (drop n entries)))

  -- the entries before that of an actor, once another has taken its place, are below what the actor is below
  pub below-taken : (a b : Actor) (entries : List (Entry V)) (n : ℕ) (next : Entry V) → search_actor a (clock_entries entries) ≡ Taken n → actor_cmp a b ≡ Less
      → IsTrue (are_below b (clock_entries (take n (set entries n next))))
  below-taken a b [] n next h l = cc
  below-taken a b (r ∷ entries) n next h l = by (actor_cmp (clock_entry r).0 a) refl h (λ j t. below-taken a b entries j next t l)
    where
      by : (o : Ordering) → actor_cmp (clock_entry r).0 a ≡ o → by_order o (one_on (search_actor a (clock_entries entries))) (Taken 0) (Free 0) ≡ Taken n
          → ((j : ℕ) → search_actor a (clock_entries entries) ≡ Taken j → IsTrue (are_below b (clock_entries (take j (set entries j next)))))
          → IsTrue (are_below b (clock_entries (take n (set (r ∷ entries) n next))))
      by Less o t rest =
          let (j, is, at) = one_on-taken (search_actor a (clock_entries entries)) n t in
          let first : is_lt (actor_cmp (clock_entry r).0 b) ≡ true = ap is_lt (actor_cmp_total.trans (clock_entry r).0 a b o l) in
          let others = rest j is in
          rw at (λ i. first i && others i)
      by Equal o t rest = let first : 0 ≡ n = cc in rw (← first) refl
      by Greater o t rest = cc

  -- the same where it had no entry
  pub below-free : (a b : Actor) (entries : List (Entry V)) (n : ℕ) (next : Entry V) → search_actor a (clock_entries entries) ≡ Free n → actor_cmp a b ≡ Less
      → IsTrue (are_below b (clock_entries (take n (insert entries n next))))
  below-free a b [] n next h l = let first : 0 ≡ n = cc in rw (← first) refl
  below-free a b (r ∷ entries) n next h l = by (actor_cmp (clock_entry r).0 a) refl h (λ j t. below-free a b entries j next t l)
    where
      by : (o : Ordering) → actor_cmp (clock_entry r).0 a ≡ o → by_order o (one_on (search_actor a (clock_entries entries))) (Taken 0) (Free 0) ≡ Free n
          → ((j : ℕ) → search_actor a (clock_entries entries) ≡ Free j → IsTrue (are_below b (clock_entries (take j (insert entries j next)))))
          → IsTrue (are_below b (clock_entries (take n (insert (r ∷ entries) n next))))
      by Less o t rest =
          let (j, is, at) = one_on-free (search_actor a (clock_entries entries)) n t in
          let first : is_lt (actor_cmp (clock_entry r).0 b) ≡ true = ap is_lt (actor_cmp_total.trans (clock_entry r).0 a b o l) in
          let others = rest j is in
          rw at (λ i. first i && others i)
      by Greater o t rest = let first : 0 ≡ n = cc in rw (← first) refl
      by Equal o t rest = cc

  -- entries are below all others
  abbrev pub are_ahead : ClockEntries V → ClockEntries V → Bool
  are_ahead before others = list_all (λ other. are_below other.0 before) others

  pub none-ahead : (others : ClockEntries V) → IsTrue (are_ahead [] others)
  none-ahead [] = refl
  none-ahead (other ∷ others) = λ i. true && none-ahead others i

  -- what is below all that an entry is below, is below all that come after it
  pub ahead-next : (a : Actor) (others before : ClockEntries V) → T (below_all actor_cmp a others) → ((b : Actor) → actor_cmp a b ≡ Less → IsTrue (are_below b before)) → IsTrue (are_ahead before others)
  ahead-next a [] before s h = refl
  ahead-next a (other ∷ others) before s h =
      let less : actor_cmp a other.0 ≡ Less = T-less _ (T-first (is_lt (actor_cmp a other.0)) _ s) in
      let rest = ahead-next a others before (T-second (is_lt (actor_cmp a other.0)) _ s) h in
      λ i. h other.0 less i && rest i

  -- the first of others
  pub ahead-first : (all before : ClockEntries V) (entry : Actor × (ℕ × List V)) (others : ClockEntries V) → all ≡ entry ∷ others → IsTrue (are_ahead before all) → IsTrue (are_below entry.0 before)
  ahead-first all before entry others e h = and_first (are_below entry.0 before) (are_ahead before others) (sym (ap (are_ahead before) e) ∙ h)

  pub insert-longer : (entries : List (Entry V)) (n : ℕ) (next : Entry V) → n ≤ length entries → length (insert entries n next) ≡ suc (length entries)
  insert-longer entries zero next h = refl
  insert-longer [] (suc n) next h = refl
  insert-longer (r ∷ entries) (suc n) next h = ap suc (insert-longer entries n next (omega arith))

  pub below-first : (all : ClockEntries V) (entry : Actor × (ℕ × List V)) (others : ClockEntries V) → all ≡ entry ∷ others → AreEntries all → T (below_all actor_cmp entry.0 others)
  below-first all entry others e g = let g' : AreEntries (entry ∷ others) = rw (← e) g in T-first (below_all actor_cmp entry.0 others) _ g'.sorted
