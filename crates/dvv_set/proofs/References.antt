-- Entries with other values in the places of theirs: the same are entries, and their meaning has those values.
use Rattle.std.proofs.Common.{◌≡◌, ℕ, zero, suc, ◌+◌, ◌-◌, ◌<◌, drop, get_or, arith, Bool, true, false, not, ◌&&◌, cond, List, [], ◌∷◌, ◌++◌, length, map, refl, sym, ◌∙◌, ap, subst}
use Rattle.std.specs.Prelude.{T, nat_le, filter, Option, Some, None}
use Rattle.std.specs.List.{list_all}
use Rattle.std.specs.declared.cmp.Ordering.{Ordering}
use Rattle.std.specs.declared.cmp.Ordering.TheVariants.{Less, Equal, Greater}
use Rattle.std.specs.Ordering.{is_lt}
use Rattle.std.specs.FinMap.Entries.{by_order, put, is_sorted, below_all}
use Rattle.std.proofs.lemmas.List.{map-append, length-map}
use Rattle.actor_epoch.specs.declared.Actor.{Actor}
use Rattle.actor_epoch.specs.declared.Dot.{Dot}
use Rattle.actor_epoch.specs.Dots.{actor_cmp, covers, counter_in, insert_max, union}
use Rattle.dvv_set.specs.Clocks.{DotState, show_cmp, event}
use Rattle.dvv_set.specs.Held.{without}
use Rattle.dvv_set.specs.ClockEntries.{ClockEntries, values_from, known_of, live_of, dot_state_of, is_entry, AreEntries}
use Rattle.dvv_set.specs.declared.entry.Entry.{Entry}
use Rattle.dvv_set.specs.References.{with_entry, with_values}
use Rattle.dvv_set.specs.Stored.{clock_entry, clock_entries}

module _ {V W : Type 0} (f : V → W) where
  below_all-with : (a : Actor) (entries : ClockEntries V) → below_all actor_cmp a (map (with_entry f) entries) ≡ below_all actor_cmp a entries
  below_all-with a [] = refl
  below_all-with a (entry ∷ entries) = ap (λ b. is_lt (actor_cmp a entry.0) && b) (below_all-with a entries)

  is_sorted-with : (entries : ClockEntries V) → is_sorted actor_cmp (map (with_entry f) entries) ≡ is_sorted actor_cmp entries
  is_sorted-with [] = refl
  is_sorted-with (entry ∷ entries) = λ i. below_all-with entry.0 entries i && is_sorted-with entries i

  each-with : (entries : ClockEntries V) → list_all is_entry (map (with_entry f) entries) ≡ list_all is_entry entries
  each-with [] = refl
  each-with (entry ∷ entries) = λ i. (nat_le 1 entry.1.0 && nat_le (length-map entry.1.1 f i) entry.1.0) && each-with entries i

  known-with : (entries : ClockEntries V) → known_of (map (with_entry f) entries) ≡ known_of entries
  known-with [] = refl
  known-with (entry ∷ entries) = ap (λ ps. (let d : Dot = record { actor = entry.0; counter = entry.1.0 } in d) ∷ ps) (known-with entries)

  values-with : (a : Actor) (n : ℕ) (vs : List V) → values_from a n (map f vs) ≡ map (λ entry. (entry.0, f entry.1)) (values_from a n vs)
  values-with a n [] = refl
  values-with a n (v ∷ vs) = ap (λ es. ((let d : Dot = record { actor = a; counter = n } in d), f v) ∷ es) (values-with a (n - 1) vs)

  live-with : (entries : ClockEntries V) → live_of (map (with_entry f) entries) ≡ map (λ entry. (entry.0, f entry.1)) (live_of entries)
  live-with [] = refl
  live-with (entry ∷ entries) =
      (λ i. values-with entry.0 entry.1.0 entry.1.1 i ++ live-with entries i)
      ∙ sym (map-append (λ (entry : Dot × V). (entry.0, f entry.1)) (values_from entry.0 entry.1.0 entry.1.1) (live_of entries))

  pub meaning-with : (entries : ClockEntries V) → dot_state_of (map (with_entry f) entries) ≡ with_values f (dot_state_of entries)
  meaning-with entries = λ i. record { known = known-with entries i; live = live-with entries i }

  pub are-with : (entries : ClockEntries V) → AreEntries entries → AreEntries (map (with_entry f) entries)
  are-with entries h = record { sorted = subst T (sym (is_sorted-with entries)) h.sorted; each = each-with entries ∙ h.each }

  pub are-from : (entries : ClockEntries V) → AreEntries (map (with_entry f) entries) → AreEntries entries
  are-from entries h = record { sorted = subst T (is_sorted-with entries) h.sorted; each = sym (each-with entries) ∙ h.each }

  abbrev to : Dot × V → Dot × W
  to entry = (entry.0, f entry.1)

  -- a value that is put among others, and values that pairs don't cover
  put-with : (dot : Dot) (v : V) (live : List (Dot × V)) → map to (put show_cmp dot v live) ≡ put show_cmp dot (f v) (map to live)
  put-with dot v [] = refl
  put-with dot v (entry ∷ live) = by (show_cmp dot entry.0) (put-with dot v live)
    where
      by : (o : Ordering) → map to (put show_cmp dot v live) ≡ put show_cmp dot (f v) (map to live)
          → map to (by_order o ((dot, v) ∷ entry ∷ live) ((entry.0, v) ∷ live) (entry ∷ put show_cmp dot v live))
          ≡ by_order o ((dot, f v) ∷ (entry.0, f entry.1) ∷ map to live) ((entry.0, f v) ∷ map to live)
          ((entry.0, f entry.1) ∷ put show_cmp dot (f v) (map to live))
      by Less h = refl
      by Equal h = refl
      by Greater h = ap (λ es. (entry.0, f entry.1) ∷ es) h

  kept-with : (pairs : List Dot) (live : List (Dot × V))
      → map to (filter (λ entry. not (covers pairs entry.0)) live) ≡ filter (λ entry. not (covers pairs entry.0)) (map to live)
  kept-with pairs [] = refl
  kept-with pairs (entry ∷ live) = by (covers pairs entry.0) (kept-with pairs live)
    where
      by : (b : Bool) → map to (filter (λ entry. not (covers pairs entry.0)) live) ≡ filter (λ entry. not (covers pairs entry.0)) (map to live)
          → map to (cond (not b) (entry ∷ filter (λ entry. not (covers pairs entry.0)) live) (filter (λ entry. not (covers pairs entry.0)) live))
          ≡ cond (not b) ((entry.0, f entry.1) ∷ filter (λ entry. not (covers pairs entry.0)) (map to live)) (filter (λ entry. not (covers pairs entry.0)) (map to live))
      by true h = h
      by false h = ap (λ es. (entry.0, f entry.1) ∷ es) h

  pub event-with : (actor : Actor) (v : V) (clock : DotState V) → with_values f (event actor v clock) ≡ event actor (f v) (with_values f clock)
  event-with actor v clock =
      let dot : Dot = record { actor = actor; counter = counter_in clock.known actor + 1 } in
      λ i. record { known = insert_max dot clock.known; live = put-with dot v clock.live i }

  pub without-with : (seen : Option (List Dot)) (clock : DotState V) → with_values f (without seen clock) ≡ without seen (with_values f clock)
  without-with None clock = refl
  without-with (Some pairs) clock = λ i. record { known = union clock.known pairs; live = kept-with pairs clock.live i }

-- entries that are the same but for their values
module _ {U V W : Type 0} (f : U → W) (g : V → W) (entries : ClockEntries U) (others : ClockEntries V) (same : map (with_entry f) entries ≡ map (with_entry g) others) where
  pub are-same : AreEntries others → AreEntries entries
  are-same h = are-from f entries (subst AreEntries (sym same) (are-with g others h))

  pub means-same : with_values f (dot_state_of entries) ≡ with_values g (dot_state_of others)
  means-same = sym (meaning-with f entries) ∙ ap dot_state_of same ∙ meaning-with g others

  pub length-same : length entries ≡ length others
  length-same = sym (length-map entries (with_entry f)) ∙ ap length same ∙ length-map others (with_entry g)

-- one more of the same entries
module _ {U V W : Type 0} (f : U → W) (g : V → W) where
  first_same : (own : List (Entry V)) (i : ℕ) (made : Entry U) (d : Entry V) → i < length own → with_entry f (clock_entry made) ≡ with_entry g (clock_entry (get_or own i d))
      → with_entry f (clock_entry made) ∷ map (with_entry g) (clock_entries (drop (suc i) own)) ≡ map (with_entry g) (clock_entries (drop i own))
  first_same [] i made d h n = absurd (omega arith)
  first_same (entry ∷ own) zero made d h n = ap (λ first. first ∷ map (with_entry g) (clock_entries own)) n
  first_same (entry ∷ own) (suc i) made d h n = first_same own i made d (omega arith) n

  pub next-same : (entries : List (Entry U)) (own : List (Entry V)) (i : ℕ) (made : Entry U) (d : Entry V) → i < length own → with_entry f (clock_entry made) ≡ with_entry g (clock_entry (get_or own i d))
      → map (with_entry f) (clock_entries (entries ++ made ∷ [])) ++ map (with_entry g) (clock_entries (drop (i + 1) own)) ≡ map (with_entry f) (clock_entries entries) ++ map (with_entry g) (clock_entries (drop i own))
  next-same [] own i made d h n = let one : i + 1 ≡ suc i = omega arith in rw one (first_same own i made d h n)
  next-same (entry ∷ entries) own i made d h n = ap (λ rest. with_entry f (clock_entry entry) ∷ rest) (next-same entries own i made d h n)
