-- What the calls of a clock do, as laws of its meaning.
use Rattle.std.proofs.Common.{◌≡◌, Bool, true, false, not, cond, List, [], ◌∷◌, refl}
use Rattle.std.specs.Prelude.{nat_le, filter, map}
use Rattle.actor_epoch.specs.declared.Dot.{Dot}
use Rattle.actor_epoch.specs.Dots.{covers, counter_in, union}
use Rattle.dvv_set.specs.Clocks.{DotState, sync, discard, value_in}

-- to discard a context is to sync with its pairs, none live
pub discard-sync : {V : Type 0} (pairs : List Dot) (clock : DotState V) → discard pairs clock ≡ sync clock (record { known = pairs; live = [] })
discard-sync {V} pairs clock = λ i. record { known = union clock.known pairs; live = kept clock.live i }
  where
    either : (b : Bool) (v : V) → v ≡ cond b v v
    either true v = refl
    either false v = refl

    kept : (live : List (Dot × V)) → filter (λ entry. not (covers pairs entry.0)) live
        ≡ map (λ entry. (entry.0, value_in clock (record { known = pairs; live = [] }) entry)) (filter (λ entry. not (covers pairs entry.0)) live)
    kept [] = refl
    kept (entry ∷ live) = by (not (covers pairs entry.0)) (kept live)
      where
        by : (b : Bool) → filter (λ entry. not (covers pairs entry.0)) live
            ≡ map (λ entry. (entry.0, value_in clock (record { known = pairs; live = [] }) entry)) (filter (λ entry. not (covers pairs entry.0)) live)
            → cond b (entry ∷ filter (λ entry. not (covers pairs entry.0)) live) (filter (λ entry. not (covers pairs entry.0)) live)
            ≡ map (λ entry. (entry.0, value_in clock (record { known = pairs; live = [] }) entry)) (cond b (entry ∷ filter (λ entry. not (covers pairs entry.0)) live) (filter (λ entry. not (covers pairs entry.0)) live))
        by true rest = λ i. (entry.0, either (nat_le (counter_in pairs entry.0.actor) (counter_in clock.known entry.0.actor)) entry.1 i) ∷ rest i
        by false rest = rest
