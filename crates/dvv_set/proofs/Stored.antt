-- The entries of the code, and where an actor stands among them.
use Rattle.std.proofs.Common.{◌≡◌, ℕ, zero, suc, ◌+◌, ◌-◌, ◌<◌, ◌≤◌, false, ◌&&◌, cond, IsTrue, List, [], ◌∷◌, length, take, get_or, refl, sym, ◌∙◌, ap, arith}
use Rattle.std.specs.Prelude.{T, nat_le, unwrap_or, is_some}
use Rattle.std.specs.List.{insert, list_all}
use Rattle.std.specs.FinMap.Entries.{put, is_sorted, length-put}
use Rattle.std.proofs.Math.ListN.{set}
use Rattle.std.proofs.lemmas.List.{take_all}
use Rattle.std.proofs.lemmas.Bool.Decides.{nat_tests}
use Rattle.actor_epoch.specs.declared.Actor.{Actor}
use Rattle.actor_epoch.specs.Dots.{actor_cmp}
use Rattle.actor_epoch.proofs.Rising.{and_first, and_second}
use Rattle.actor_epoch.proofs.Order.{actor_cmp_total}
use Rattle.dvv_set.specs.declared.entry.Entry.{Entry}
use Rattle.dvv_set.specs.declared.entry.Place.TheVariants.{Taken, Free}
use Rattle.dvv_set.specs.ClockEntries.{ClockEntries, is_entry, entry_for, merged, merge_entry}
use Rattle.dvv_set.specs.Stored.{search_actor, actor_of, clock_entry, clock_entries}
use Rattle.dvv_set.proofs.ClockEntries.{is_entry-within, is_entry-positive}
use Rattle.dvv_set.proofs.Places.{search_actor-taken, search_actor-free}

module _ {V : Type 0} where
  clock_entries-set : (entries : List (Entry V)) (i : ℕ) (entry : Entry V) → clock_entries (set entries i entry) ≡ set (clock_entries entries) i (clock_entry entry)
  clock_entries-set [] i entry = refl
  clock_entries-set (e ∷ entries) zero entry = refl
  clock_entries-set (e ∷ entries) (suc i) entry = ap (λ entries. clock_entry e ∷ entries) (clock_entries-set entries i entry)

  clock_entries-insert : (entries : List (Entry V)) (i : ℕ) (entry : Entry V) → clock_entries (insert entries i entry) ≡ insert (clock_entries entries) i (clock_entry entry)
  clock_entries-insert entries zero entry = refl
  clock_entries-insert [] (suc i) entry = refl
  clock_entries-insert (e ∷ entries) (suc i) entry = ap (λ entries. clock_entry e ∷ entries) (clock_entries-insert entries i entry)

  clock_entries-get : (entries : List (Entry V)) (i : ℕ) (d : Entry V) → get_or (clock_entries entries) i (clock_entry d) ≡ clock_entry (get_or entries i d)
  clock_entries-get [] i d = refl
  clock_entries-get (e ∷ entries) zero d = refl
  clock_entries-get (e ∷ entries) (suc i) d = clock_entries-get entries i d

  pub length-clock_entries : (entries : List (Entry V)) → length (clock_entries entries) ≡ length entries
  length-clock_entries [] = refl
  length-clock_entries (e ∷ entries) = ap suc (length-clock_entries entries)

  list_all-get : (entries : ClockEntries V) (i : ℕ) (d : Actor × (ℕ × List V)) → i < length entries → IsTrue (list_all is_entry entries) → IsTrue (is_entry (get_or entries i d))
  list_all-get [] i d h r = absurd (omega arith)
  list_all-get (counted ∷ entries) zero d h r = and_first (is_entry counted) (list_all is_entry entries) r
  list_all-get (counted ∷ entries) (suc i) d h r = list_all-get entries i d (omega arith) (and_second (is_entry counted) (list_all is_entry entries) r)

  merged-own : (other : ℕ × List V) → IsTrue (nat_le 1 other.0 && nat_le (length other.1) other.0) → merged (0, []) other ≡ other
  merged-own other h =
      let above : 1 ≤ other.0 = is_entry-positive other.0 (length other.1) h in
      let within : length other.1 ≤ other.0 = is_entry-within other.0 (length other.1) h in
      let t : nat_le other.0 0 ≡ false = grind (arith, nat_tests) in
      ap (λ b. cond b (0, take (0 - other.0 + length other.1) (let none : List V = [] in none)) (other.0, take (other.0 - 0 + 0) other.1)) t
      ∙ (λ i. (other.0, take_all (other.0 - 0 + 0) other.1 (omega arith) i))

  -- an actor that stands among entries: where, and its entry there
  pub taken-within : (entries : List (Entry V)) (a : Actor) (i : ℕ) → search_actor a (clock_entries entries) ≡ Taken i → i < length entries
  taken-within entries a i h = let t = (search_actor-taken a (clock_entries entries) i (a, (0, [])) h).within in omega (arith, length-clock_entries entries)

  pub taken-entry : (entries : List (Entry V)) (a : Actor) (i : ℕ) (entry : Entry V) → search_actor a (clock_entries entries) ≡ Taken i → entry ≡ get_or entries i entry
      → IsTrue (list_all is_entry (clock_entries entries)) → IsTrue (is_entry (clock_entry entry))
  taken-entry entries a i entry h e r =
      let is : clock_entry entry ≡ get_or (clock_entries entries) i (clock_entry entry) = ap clock_entry e ∙ sym (clock_entries-get entries i entry) in
      ap is_entry is ∙ list_all-get (clock_entries entries) i (clock_entry entry) (search_actor-taken a (clock_entries entries) i (clock_entry entry) h).within r

  pub taken-is : (entries : List (Entry V)) (a : Actor) (i : ℕ) (entry : Entry V) → search_actor a (clock_entries entries) ≡ Taken i → entry ≡ get_or entries i entry → entry_for a (clock_entries entries) ≡ (clock_entry entry).1
  taken-is entries a i entry h e =
      let there = search_actor-taken a (clock_entries entries) i (clock_entry entry) h in
      there.entry ∙ ap (λ r. r.1) (clock_entries-get entries i entry ∙ ap clock_entry (sym e))

  pub taken-put : (entries : List (Entry V)) (a : Actor) (i : ℕ) (entry next : Entry V) (counted : ℕ × List V → ℕ × List V) → search_actor a (clock_entries entries) ≡ Taken i → entry ≡ get_or entries i entry
      → clock_entry next ≡ (actor_of entry.pair, counted (clock_entry entry).1) → clock_entries (set entries i next) ≡ put actor_cmp a (counted (entry_for a (clock_entries entries))) (clock_entries entries)
  taken-put entries a i entry next counted h e n =
      let there = search_actor-taken a (clock_entries entries) i (clock_entry entry) h in
      let is : clock_entry entry ≡ get_or (clock_entries entries) i (clock_entry entry) = ap clock_entry e ∙ sym (clock_entries-get entries i entry) in
      clock_entries-set entries i next
      ∙ ap (set (clock_entries entries) i) (n ∙ (λ j. ((ap (λ r. r.0) is ∙ there.actor) j, counted ((ap (λ r. r.1) is ∙ sym there.entry) j))))
      ∙ sym (there.put_is (counted (entry_for a (clock_entries entries))))

  -- one that does not: its place, the room that it needs
  pub free-within : (entries : List (Entry V)) (a : Actor) (i : ℕ) → T (is_sorted actor_cmp (clock_entries entries)) → search_actor a (clock_entries entries) ≡ Free i → i ≤ length entries
  free-within entries a i s h = let t = (search_actor-free a (clock_entries entries) i s h).within in omega (arith, length-clock_entries entries)

  pub free-length : (entries : List (Entry V)) (a : Actor) (i : ℕ) (counted : ℕ × List V) → T (is_sorted actor_cmp (clock_entries entries)) → search_actor a (clock_entries entries) ≡ Free i
      → length (put actor_cmp a counted (clock_entries entries)) ≡ length entries + 1
  free-length entries a i counted s h =
      length-put actor_cmp actor_cmp_total a counted (clock_entries entries) s
      ∙ ap (λ o. cond (is_some o) (length (clock_entries entries)) (length (clock_entries entries) + 1)) (search_actor-free a (clock_entries entries) i s h).none
      ∙ ap (λ n. n + 1) (length-clock_entries entries)

  pub free-entry : (entries : List (Entry V)) (a : Actor) (i : ℕ) → T (is_sorted actor_cmp (clock_entries entries)) → search_actor a (clock_entries entries) ≡ Free i → entry_for a (clock_entries entries) ≡ (0, [])
  free-entry entries a i s h = ap (λ o. unwrap_or o (0, [])) (search_actor-free a (clock_entries entries) i s h).none

  pub free-put : (entries : List (Entry V)) (a : Actor) (i : ℕ) (next : Entry V) → T (is_sorted actor_cmp (clock_entries entries)) → search_actor a (clock_entries entries) ≡ Free i
      → actor_of next.pair ≡ a → clock_entries (insert entries i next) ≡ put actor_cmp a (clock_entry next).1 (clock_entries entries)
  free-put entries a i next s h e =
      clock_entries-insert entries i next
      ∙ ap (insert (clock_entries entries) i) (λ j. (e j, (clock_entry next).1))
      ∙ sym ((search_actor-free a (clock_entries entries) i s h).put_is (clock_entry next).1)

  -- an entry that is merged in where its actor has none
  pub free-merge_entry : (entries : List (Entry V)) (i : ℕ) (entry : Entry V) → T (is_sorted actor_cmp (clock_entries entries)) → IsTrue (is_entry (clock_entry entry)) → search_actor (actor_of entry.pair) (clock_entries entries) ≡ Free i
      → clock_entries (insert entries i entry) ≡ merge_entry (clock_entry entry) (clock_entries entries)
  free-merge_entry entries i entry s r h =
      free-put entries (actor_of entry.pair) i entry s h refl
      ∙ ap (λ counted. put actor_cmp (actor_of entry.pair) counted (clock_entries entries)) (sym (ap (λ own. merged own (clock_entry entry).1) (free-entry entries (actor_of entry.pair) i s h) ∙ merged-own (clock_entry entry).1 r))
