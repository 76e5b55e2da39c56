-- What a server's console knows of the diversions of its partitions.
use Rattle.std.specs.Prelude.{◌≡◌, ◌^◌, ℕ, List, [], ◌∷◌, length, Option, Some, None, MatchOption, slice_get}
use Rattle.handoff.specs.declared.copying.Copied.{Copied as CopyBack}
use Rattle.handoff.specs.declared.gates.Fallback.{Fallback}
use Rattle.handoff.specs.Joined.{CopyInTurn, keys_copied}
use Rattle.handoff.specs.Partitions.{AreOfNewRun, GateId, HandoffView, IsDiverted, View}
use Rattle.handoff.specs.Running.{Diversion, HaveReturned, counted_here, last_fallback}
use Rattle.handoff_tracks.specs.declared.track.Copies.{Copies}
use Rattle.handoff_tracks.specs.declared.track.LastReturn.{LastReturn}
use Rattle.handoff_tracks.specs.declared.track.HandoffTrack.{HandoffTrack}
use Rattle.handoff_tracks.specs.declared.track.HandoffTrack.TheVariants.{AtPrimary, AtFallback, Unknown}

-- this is kept of the last of these diversions
abbrev pub KeepsLast : Option LastReturn → List Diversion → Type 0
KeepsLast None [] = Unit {0}
KeepsLast None (diversion ∷ earlier) = ⊥
KeepsLast (Some kept) [] = ⊥
KeepsLast (Some kept) (diversion ∷ earlier) =
    (kept.passes ≡ diversion.passes) × (kept.commands ≡ counted_here (diversion ∷ earlier)) × (kept.diversions ≡ length (diversion ∷ earlier))

-- the last of these ended over gates that still stand
abbrev pub EndedOver : HandoffView → List Diversion → Type 0
EndedOver handoff [] = Unit {0}
EndedOver handoff (diversion ∷ earlier) = diversion.ended.gates ≡ handoff.gates

-- the diversions of a partition, all of which have returned, the last one first, as the law of running hand-offs asks; and what is kept of the last
pub record ReturnsOf (handoff : HandoffView) (index : ℕ) (kept : Option LastReturn) : Type 0 where
  pub primary : GateId View
  pub stands : slice_get handoff.gates index ≡ Some primary
  pub diversions : List Diversion
  pub returned : HaveReturned handoff.run index primary diversions
  pub ended : EndedOver handoff diversions
  pub last : KeepsLast kept diversions

-- the calls of a partition are for its primary
pub record IsAtPrimary (handoff : HandoffView) (index : ℕ) (kept : Option LastReturn) : Type 0 where
  pub returns : ReturnsOf handoff index kept
  pub stands : slice_get handoff.fallbacks index ≡ Some (last_fallback returns.diversions)

-- how much of the primary the last of these calls had seen; where there is none, so much
abbrev pub end_of : ℕ → List CopyBack → ℕ
end_of from [] = from
end_of from (call ∷ calls) = end_of (length call.primary.prefix) calls

-- these calls copied keys back one behind another, and this is the last of them
pub record AreUpTo (primary : GateId View) (fallback : Fallback) (from : ℕ) (last : CopyBack) (calls : List CopyBack) : Type 0 where
  pub turns : CopyInTurn primary fallback last.primary last.fallback.prefix from calls
  pub ends : end_of from calls ≡ length last.primary.prefix
  pub gate : last.primary.gate ≡ primary
  pub gate_there : last.fallback.gate ≡ fallback.gate

-- they copied so many keys
pub record WereMade (primary : GateId View) (fallback : Fallback) (copies : Copies) (calls : List CopyBack) : Type 0 where
  pub keys : copies.keys ≡ keys_copied calls
  pub calls_are : MatchOption copies.last (calls ≡ []) (λ last. AreUpTo primary fallback copies.from last calls)

-- a partition was diverted behind these returns, and keys of its fallback were copied back since then
pub record IsAtFallback (handoff : HandoffView) (index : ℕ) (kept : Option LastReturn) (copies : Copies) : Type 0 where
  pub returns : ReturnsOf handoff index kept
  pub found : HandoffView
  pub left : HandoffView
  pub run : found.run ≡ handoff.run
  pub diverted : IsDiverted index found left
  pub stood : slice_get found.fallbacks index ≡ Some (last_fallback returns.diversions)
  pub stands : slice_get handoff.fallbacks index ≡ Some (Some diverted.fallback)
  pub calls : List CopyBack
  pub made : WereMade returns.primary diverted.fallback copies calls

-- what is known of the diversions of the partition at an index holds
abbrev pub IsTrack : HandoffView → (index : ℕ) → HandoffTrack → Type 0
IsTrack handoff index (AtPrimary kept) = IsAtPrimary handoff index kept
IsTrack handoff index (AtFallback kept copies) = IsAtFallback handoff index kept copies
IsTrack handoff index Unknown = Unit {0}

-- so of each partition
abbrev pub AreTracks : HandoffView → List HandoffTrack → Type 0
AreTracks handoff tracks = (index : ℕ) (track : HandoffTrack) → slice_get tracks index ≡ Some track → IsTrack handoff index track

-- so of each partition of a run's gates, of which there are as many as the ring has
pub record HaveTracks (handoff : HandoffView) (tracks : List HandoffTrack) : Type 0 where
  pub tracked : AreTracks handoff tracks
  pub size : length tracks ≡ 2 ^ handoff.index_bits
  pub of_run : AreOfNewRun handoff.run handoff.gates

-- no partition of these was diverted
abbrev pub AreUndiverted : List HandoffTrack → Type 0
AreUndiverted [] = Unit {0}
AreUndiverted (track ∷ tracks) = (track ≡ AtPrimary None) × AreUndiverted tracks
