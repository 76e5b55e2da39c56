-- The values of entries are those of their live dots.
use Rattle.std.proofs.Common.{◌≡◌, ℕ, ◌-◌, List, [], ◌∷◌, ◌++◌, map, refl, ◌∙◌, ap}
use Rattle.std.proofs.lemmas.List.{map-append}
use Rattle.actor_epoch.specs.declared.Actor.{Actor}
use Rattle.actor_epoch.specs.declared.Dot.{Dot}
use Rattle.dvv_set.specs.declared.entry.Entry.{Entry}
use Rattle.dvv_set.specs.ClockEntries.{values_from, live_of}
use Rattle.dvv_set.specs.Stored.{actor_of, clock_entries, values_in}

module _ {V : Type 0} where
  map-values_from : (a : Actor) (n : ℕ) (vs : List V) → map (λ entry. entry.1) (values_from a n vs) ≡ vs
  map-values_from a n [] = refl
  map-values_from a n (v ∷ vs) = ap (λ rest. v ∷ rest) (map-values_from a (n - 1) vs)

  pub map-live_of : (entries : List (Entry V)) → map (λ entry. entry.1) (live_of (clock_entries entries)) ≡ values_in entries
  map-live_of [] = refl
  map-live_of (e ∷ entries) =
      map-append (λ (entry : Dot × V). entry.1) (values_from (actor_of e.pair) e.pair.counter e.values.items) (live_of (clock_entries entries))
      ∙ (λ i. map-values_from (actor_of e.pair) e.pair.counter e.values.items i ++ map-live_of entries i)
