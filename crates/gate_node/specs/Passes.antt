-- A caller's passes of the gates of a run, and of the fallbacks that it met.
use Rattle.std.specs.Prelude.{◌≡◌, ◌≤◌, ◌⊎◌, ◌==◌, ℕ, Bool, false, List, [], ◌∷◌, All, Option, Some, None, IfSome, IsSome, map, replicate}
use Rattle.std.specs.Option.{option_map_or}
use mathlib.Core.List.{IsPrefix}
use Rattle.handoff.specs.declared.gates.Fallback.{Fallback}
use Rattle.handoff.specs.Partitions.{AreNone, IsDiverted}
use Rattle.gate_node.specs.declared.passes.FallbackPass.{FallbackPass}
use Rattle.gate_node.specs.Asked.{Sight, HasSeenClose, IsClosedWith}
use Rattle.gate_node.specs.Gates.{Gates, handoff_of}

-- what a caller has seen and published by its pass of each gate, and by that of each fallback that it met
pub record Sights : Type 0 where
  pub primaries : List Sight
  pub fallbacks : List (Option FallbackPass)

-- the places of fallbacks' passes, one for each of so many partitions: those that were made, or else none has a pass
abbrev pub places_of : ℕ → List (Option FallbackPass) → List (Option FallbackPass)
places_of size [] = replicate size None
places_of size (place ∷ places) = place ∷ places

-- a pass whose holder has seen and published nothing
pub record IsUnused (pass : Sight) : Type 0 where
  pub prefix : pass.prefix ≡ []
  pub own : pass.own ≡ []

-- so are these, and no fallback was met
pub record AreUnused (passes : Sights) : Type 0 where
  pub primaries : All IsUnused passes.primaries
  pub fallbacks : AreNone passes.fallbacks

-- what is kept of a partition is a pass of an earlier diversion, or of the fallback that stands there, and the number of the close that it
-- has seen, where it has seen one; nothing, where the partition was never diverted
abbrev pub FitsPartition : Option Fallback → Option FallbackPass → Type 0
FitsPartition None None = Unit {0}
FitsPartition None (Some kept) = ⊥
FitsPartition (Some fallback) None = Unit {0}
FitsPartition (Some fallback) (Some kept) =
    (kept.diversion ≤ fallback.diversion) × (kept.diversion ≡ fallback.diversion → kept.pass.gate ≡ fallback.gate)
    × IfSome kept.closed (HasSeenClose kept.pass)

abbrev pub AllFit : List (Option Fallback) → List (Option FallbackPass) → Type 0
AllFit [] [] = Unit {0}
AllFit [] (kept ∷ all) = ⊥
AllFit (fallback ∷ fallbacks) [] = ⊥
AllFit (fallback ∷ fallbacks) (kept ∷ all) = FitsPartition fallback kept × AllFit fallbacks all

-- these passes are of the gates of this run, in their order, and of its fallbacks
pub record ArePassesOf (shared : Gates) (passes : Sights) : Type 0 where
  pub primaries : map (λ (pass : Sight). pass.gate) passes.primaries ≡ shared.gates
  pub fallbacks : AllFit shared.fallbacks passes.fallbacks

-- a diversion of one of these partitions leaves a caller's passes what they have to be
abbrev pub OutliveDiversion : (index : ℕ) (old new : Gates) → Sights → Type 0
OutliveDiversion index old new passes = IsDiverted index (handoff_of old) (handoff_of new) → ArePassesOf old passes → ArePassesOf new passes

-- the pass that is kept is of this fallback
abbrev pub is_pass_of : Fallback → Option FallbackPass → Bool
is_pass_of fallback kept = option_map_or (λ (pass : FallbackPass). pass.diversion == fallback.diversion) kept false

-- this pass of a fallback is kept, with the number of the close that it has seen
abbrev pub kept_of : Fallback → Sight → Option ℕ → Option FallbackPass
kept_of fallback pass closed = Some (record { diversion = fallback.diversion; pass = pass; closed = closed })

-- the pass by which a fallback is asked, and the number of the close that it has seen: what was kept of this fallback, or else a new pass
-- of its gate, which has seen none
abbrev pub Resumes : Fallback → Option FallbackPass → Sight → Option ℕ → Type 0
Resumes fallback kept pass closed =
    (kept ≡ kept_of fallback pass closed)
    ⊎ ((is_pass_of fallback kept ≡ false) × (pass.gate ≡ fallback.gate) × IsUnused pass × (closed ≡ None))

-- a pass of this fallback is kept now
pub record IsRenewed (fallback : Fallback) (old new : Option FallbackPass) : Type 0 where
  pub pass : Sight
  pub closed : Option ℕ
  pub is : new ≡ kept_of fallback pass closed
  pub gate : pass.gate ≡ fallback.gate
  pub resumes : Resumes fallback old pass closed
  pub seen : IfSome closed (HasSeenClose pass)

-- by a pass of a fallback, which hasn't seen it closed, something was answered there
pub record AnswersBy (old new : FallbackPass) (Answers : Sight → Sight → Type 0) : Type 0 where
  pub diversion : new.diversion ≡ old.diversion
  pub unclosed : old.closed ≡ None
  pub still : new.closed ≡ None
  pub gate : new.pass.gate ≡ old.pass.gate
  pub more : IsPrefix old.pass.prefix new.pass.prefix
  pub answers : Answers old.pass new.pass

-- or the fallback is closed with this number, which is kept; where the pass had seen the close, it stays
pub record IsClosedBy (number : ℕ) (old new : FallbackPass) : Type 0 where
  pub diversion : new.diversion ≡ old.diversion
  pub closed : IsClosedWith number old.pass new.pass
  pub stays : IsSome old.closed → new.pass ≡ old.pass
  pub kept : new.closed ≡ Some number

-- by the pass that is kept of a fallback something was answered there
pub record AnswersAtFallback (fallback : Fallback) (old new : Option FallbackPass) (Answers : Sight → Sight → Type 0) : Type 0 where
  pub before : Sight
  pub after : Sight
  pub resumes : Resumes fallback old before None
  pub of_gate : before.gate ≡ fallback.gate
  pub gate : after.gate ≡ before.gate
  pub more : IsPrefix before.prefix after.prefix
  pub answers : Answers before after
  pub kept : new ≡ kept_of fallback after None

-- or the fallback is closed with this number
pub record FindsClosed (fallback : Fallback) (old new : Option FallbackPass) (number : ℕ) : Type 0 where
  pub before : Sight
  pub after : Sight
  pub known : Option ℕ
  pub resumes : Resumes fallback old before known
  pub of_gate : before.gate ≡ fallback.gate
  pub closed : IsClosedWith number before after
  pub stays : IsSome known → after ≡ before
  pub kept : new ≡ kept_of fallback after (Some number)
