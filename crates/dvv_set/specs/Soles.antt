-- Entries of one actor alone. No public clause names this.
use Rattle.std.specs.Prelude.{◌≡◌, List, [], ◌∷◌, ℕ, Option, Some, None}
use Rattle.actor_epoch.specs.declared.Actor.{Actor}
use Rattle.actor_epoch.specs.declared.Dot.{Dot}
use Rattle.dvv_set.specs.ClockEntries.{ClockEntries, merged, with_value}

-- pairs that saw the dots of one actor alone, up to this counter; none saw the dot 0
abbrev pub SawAlone : Option (List Dot) → Actor → ℕ → Type 0
SawAlone None actor seen = seen ≡ 0
SawAlone (Some pairs) actor seen = pairs ≡ record { actor = actor; counter = seen } ∷ []

module _ {V : Type 0} where
  -- an entry with one value more, without those up to a counter
  abbrev pub put_after : ℕ → V → Actor × (ℕ × List V) → Actor × (ℕ × List V)
  put_after seen value entry = (entry.0, with_value value (merged entry.1 (seen, [])))

  -- an actor alone has an entry, and pairs saw its dots alone
  pub record IsSole (entries : ClockEntries V) (pairs : Option (List Dot)) (actor : Actor) (seen : ℕ) : Type 0 where
    pub entry : ℕ × List V
    pub is : entries ≡ (actor, entry) ∷ []
    pub saw : SawAlone pairs actor seen
