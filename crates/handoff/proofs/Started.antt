-- What the primaries had when their partitions were diverted, by the partitions' places.
use Rattle.std.proofs.Common.{◌≡◌, ℕ, List, [], ◌∷◌, sym, subst}
use Rattle.std.specs.Prelude.{Option, Some, IfSome, slice_get, slice_set, zero, suc}
use Rattle.rw_gate.specs.Views.{GateId}
use Rattle.vnode_core.specs.Plans.{View}
use Rattle.handoff.specs.declared.gates.Fallback.{Fallback}
use Rattle.handoff.specs.Partitions.{AreNone}
use Rattle.handoff.specs.Started.{AreStarts, IsStartOf}
use Rattle.handoff.proofs.Opened.{none_some}

abbrev pub StartsAt : GateId View → Option Fallback → Type 0
StartsAt gate fallback = IfSome fallback (λ one. IfSome one.start (IsStartOf gate))

pub none_starts : (gates : List (GateId View)) (all : List (Option Fallback)) → AreNone all → AreStarts gates all
none_starts [] all none = tt
none_starts (gate ∷ gates) [] none = tt
none_starts (gate ∷ gates) (place ∷ all) none = (subst (StartsAt gate) (sym none.0) tt, none_starts gates all none.1)

pub starts_set : (gates : List (GateId View)) (all : List (Option Fallback)) (i : ℕ) (gate : GateId View) (fallback : Option Fallback) → AreStarts gates all → slice_get gates i ≡ Some gate → StartsAt gate fallback
    → AreStarts gates (slice_set all i fallback)
starts_set [] all i gate fallback are at one = tt
starts_set (g ∷ gates) [] i gate fallback are at one = tt
starts_set (g ∷ gates) (place ∷ all) zero gate fallback are at one = let same : gate ≡ g = sym (cc at) in (subst (λ (x : GateId View). StartsAt x fallback) same one, are.1)
starts_set (g ∷ gates) (place ∷ all) (suc i) gate fallback are at one = (are.0, starts_set gates all i gate fallback are.1 at one)

pub starts_get : (gates : List (GateId View)) (all : List (Option Fallback)) (i : ℕ) (gate : GateId View) (fallback : Option Fallback) → AreStarts gates all → slice_get gates i ≡ Some gate → slice_get all i ≡ Some fallback
    → StartsAt gate fallback
starts_get [] all i gate fallback are at there = absurd (none_some gate at)
starts_get (g ∷ gates) [] i gate fallback are at there = absurd (none_some fallback there)
starts_get (g ∷ gates) (place ∷ all) zero gate fallback are at there =
    let same : g ≡ gate = cc at in
    let stood : place ≡ fallback = cc there in
    subst (λ (x : GateId View). StartsAt x fallback) same (subst (StartsAt g) stood are.0)
starts_get (g ∷ gates) (place ∷ all) (suc i) gate fallback are at there = starts_get gates all i gate fallback are.1 at there
