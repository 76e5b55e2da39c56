-- Entries of one actor alone, and what a context saw of that actor alone.
use Rattle.std.proofs.Common.{◌≡◌, ℕ, ◌+◌, ◌-◌, get_or, ◌<◌, ◌≤◌, ◌&&◌, cond, IsTrue, List, [], ◌∷◌, length, map, take, true, false, refl, sym, ◌∙◌, ap, subst, arith}
use Rattle.std.specs.Prelude.{Bool, max, Option, Some, None, nat_le, unwrap_or, is_some}
use Rattle.std.specs.List.{list_all}
use Rattle.std.specs.Cmp.{tied_itself}
use Rattle.std.specs.Ordering.{is_eq}
use Rattle.std.specs.FinMap.Entries.{put, find, by_order}
use Rattle.std.proofs.Math.ListN.{set}
use Rattle.std.proofs.lemmas.Bool.Decides.{nat_tests}
use Rattle.actor_epoch.specs.declared.Actor.{Actor}
use Rattle.actor_epoch.specs.declared.Dot.{Dot}
use Rattle.actor_epoch.specs.Dots.{actor_cmp, counter_in}
use Rattle.actor_epoch.specs.Contexts.{is_well_formed}
use Rattle.actor_epoch.proofs.Order.{actor_cmp_total, actor_eq-itself}
use Rattle.actor_epoch.proofs.Rising.{and_first}
use Rattle.dvv_set.specs.Held.{known_with, known_after}
use Rattle.dvv_set.specs.ClockEntries.{ClockEntries, AreEntries, known_of, is_entry, entry_for, merged, merge_entry, with_value, entries_of_pairs, entries_without, count_new}
use Rattle.dvv_set.proofs.ClockEntries.{is_entry-within, is_entry-positive}
use Rattle.dvv_set.proofs.Merges.{merged-none}
use Rattle.dvv_set.proofs.Pairs.{covered-own_more}
use Rattle.dvv_set.specs.declared.entry.Entry.{Entry}
use Rattle.dvv_set.specs.Soles.{SawAlone, IsSole, put_after}
use Rattle.dvv_set.specs.Stored.{clock_entry, clock_entries}
use Rattle.dvv_set.proofs.Ready.{seen-is, after-length}

both_first : (b : Bool) → (b && true) ≡ true → b ≡ true
both_first b h = and_first b true h

-- the only item of a list
pub only-item : {A : Type 0} (items : List A) (x : A) → length items ≡ 1 → x ≡ get_or items 0 x → items ≡ x ∷ []
only-item [] x one is = absurd (omega arith)
only-item (y ∷ []) x one is = ap (λ z. z ∷ []) (sym is)
only-item (y ∷ z ∷ items) x one is = absurd (omega arith)

pub set-one : {A : Type 0} (items : List A) (x : A) → length items ≡ 1 → set items 0 x ≡ x ∷ []
set-one [] x one = absurd (omega arith)
set-one (y ∷ []) x one = refl
set-one (y ∷ z ∷ items) x one = absurd (omega arith)

module _ {V : Type 0} (a : Actor) (e : ℕ × List V) where
  abbrev one : ℕ × List V → ClockEntries V
  one e = (a, e) ∷ []

  entry_for-one : entry_for a (one e) ≡ e
  entry_for-one = ap (λ o. unwrap_or (cond (is_eq o) (Some e) None) (0, [])) (tied_itself actor_cmp_total a)

  put-one : (next : ℕ × List V) → put actor_cmp a next (one e) ≡ one next
  put-one next = ap (λ o. by_order o ((a, next) ∷ (a, e) ∷ []) ((a, next) ∷ []) ((a, e) ∷ (a, next) ∷ [])) (tied_itself actor_cmp_total a)

  each-one : IsTrue (is_entry (a, e) && true) → IsTrue (is_entry (a, e))
  each-one h = both_first (is_entry (a, e)) h

module _ {V : Type 0} where
  -- the counter of an entry with a pair merged in that has no values
  pub counter-merged : (own : ℕ × List V) (n : ℕ) → (merged own (n, [])).0 ≡ max own.0 n
  counter-merged own n = by (nat_le n own.0) refl
    where
      by : (b : Bool) → nat_le n own.0 ≡ b → (let e : ℕ × List V = cond b (own.0, take (own.0 - n + 0) own.1) (n, take (n - own.0 + length own.1) []) in e).0 ≡ max own.0 n
      by true h = let within : n ≤ own.0 = grind (arith, nat_tests) in omega (arith, within)
      by false h = let above : own.0 < n = grind (arith, nat_tests) in omega (arith, above)

  -- an entry all of whose dots the pair has
  pub all-merged : (own : ℕ × List V) (n : ℕ) → own.0 ≡ n → merged own (n, []) ≡ (own.0, [])
  all-merged own n is =
      covered-own_more own n (omega (arith, is))
      ∙ (let none : own.0 - n ≡ 0 = omega (arith, is) in ap (λ k. (own.0, take k own.1)) none)

  -- an entry in the place of the only one
  pub set-only : (items : List (Entry V)) (entry next : Entry V) (f : Actor × (ℕ × List V) → Actor × (ℕ × List V)) → items ≡ entry ∷ [] → clock_entry next ≡ f (clock_entry entry)
      → clock_entries (set items 0 next) ≡ map f (clock_entries items)
  set-only items entry next f is n = ap (λ es. clock_entries (set es 0 next)) is ∙ ap (λ e. e ∷ []) n ∙ sym (ap (λ es. map f (clock_entries es)) is)

  -- what is left of them
  without-sole : (entries : ClockEntries V) (pairs : Option (List Dot)) (a : Actor) (seen : ℕ) → AreEntries entries → (sole : IsSole entries pairs a seen)
      → entries_without pairs entries ≡ (a, merged sole.entry (seen, [])) ∷ []
  without-sole entries pairs a seen h sole = by pairs sole.saw
    where
      within : length sole.entry.1 ≤ sole.entry.0
      within = is_entry-within sole.entry.0 (length sole.entry.1) (each-one a sole.entry (subst (λ es. IsTrue (list_all is_entry es)) sole.is h.each))

      by : (pairs : Option (List Dot)) → SawAlone pairs a seen → entries_without pairs entries ≡ (a, merged sole.entry (seen, [])) ∷ []
      by None zero = sole.is ∙ ap (λ e. (a, e) ∷ []) (sym (merged-none sole.entry within) ∙ ap (λ n. merged sole.entry (n, [])) (sym zero))
      by (Some ps) saw =
          (λ i. entries_without (Some (saw i)) (sole.is i))
          ∙ put-one a sole.entry (merged (entry_for a ((a, sole.entry) ∷ [])) (seen, []))
          ∙ ap (λ e. (a, merged e (seen, [])) ∷ []) (entry_for-one a sole.entry)

  -- and after a value was put there
  pub put-sole : (entries : ClockEntries V) (pairs : Option (List Dot)) (a : Actor) (seen : ℕ) (value : V) → AreEntries entries → IsSole entries pairs a seen
      → map (put_after seen value) entries ≡ put actor_cmp a (with_value value (entry_for a (entries_without pairs entries))) (entries_without pairs entries)
  put-sole entries pairs a seen value h sole =
      let left = merged sole.entry (seen, []) in
      ap (map (put_after seen value)) sole.is
      ∙ sym (
      ap (λ es. put actor_cmp a (with_value value (entry_for a es)) es) (without-sole entries pairs a seen h sole)
      ∙ put-one a left (with_value value (entry_for a ((a, left) ∷ [])))
      ∙ ap (λ e. (a, with_value value e) ∷ []) (entry_for-one a left))

  -- the counter before it
  pub counter-sole : (entries : ClockEntries V) (pairs : Option (List Dot)) (a : Actor) (seen : ℕ) → ((ps : List Dot) → pairs ≡ Some ps → IsTrue (is_well_formed ps)) → AreEntries entries
      → IsSole entries pairs a seen → (entry : Actor × (ℕ × List V)) → entries ≡ entry ∷ [] → max entry.1.0 seen ≡ counter_in (known_with pairs (known_of entries)) a
  counter-sole entries pairs a seen f h sole entry is =
      let same : entry ≡ (a, sole.entry) = (let both : entry ∷ [] ≡ (a, sole.entry) ∷ [] = sym is ∙ sole.is in cc) in
      let own : (entry_for a entries).0 ≡ entry.1.0 = ap (λ es. (entry_for a es).0) sole.is ∙ ap (λ e. e.0) (entry_for-one a sole.entry) ∙ ap (λ e. e.1.0) (sym same) in
      (λ i. max (sym own i) (sym (given pairs sole.saw) i)) ∙ seen-is entries pairs f h a
    where
      given : (pairs : Option (List Dot)) → SawAlone pairs a seen → counter_in (unwrap_or pairs []) a ≡ seen
      given None saw = sym saw
      given (Some ps) saw = ap (λ ps. counter_in ps a) saw ∙ ap (λ b. cond b (max seen 0) 0) (actor_eq-itself a) ∙ (omega arith)

  -- no actor is new
  pub after-sole : (entries : ClockEntries V) (pairs : Option (List Dot)) (a : Actor) (seen : ℕ) → ((ps : List Dot) → pairs ≡ Some ps → IsTrue (is_well_formed ps)) → AreEntries entries
      → IsSole entries pairs a seen → length (known_after a (known_with pairs (known_of entries))) ≡ length entries
  after-sole entries pairs a seen f h sole =
      let positive : 1 ≤ sole.entry.0 = is_entry-positive sole.entry.0 (length sole.entry.1) (each-one a sole.entry (subst (λ es. IsTrue (list_all is_entry es)) sole.is h.each)) in
      let own : (entry_for a entries).0 ≡ sole.entry.0 = ap (λ es. (entry_for a es).0) sole.is ∙ ap (λ e. e.0) (entry_for-one a sole.entry) in
      known (counter_in (known_with pairs (known_of entries)) a) _ _ _
      (omega (arith, seen-is entries pairs f h a, own, positive)) (none_new pairs sole.saw) (after-length entries pairs f h a)
    where
      known : (n l k new : ℕ) → 1 ≤ n → new ≡ 0 → l ≡ cond (nat_le 1 n) (k + new) (k + new + 1) → l ≡ k
      known n l k new positive zero e = grind (arith, nat_tests)

      none_new : (pairs : Option (List Dot)) → SawAlone pairs a seen → count_new (entries_of_pairs (unwrap_or pairs [])) entries ≡ 0
      none_new None saw = refl
      none_new (Some ps) saw =
          (λ i. count_new (entries_of_pairs (saw i)) (sole.is i))
          ∙ ap (λ o. cond (is_some (cond (is_eq o) (Some sole.entry) None)) 0 1 + 0) (tied_itself actor_cmp_total a)
