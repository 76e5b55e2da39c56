-- What is known of a partition's diversions says of its keys.
use Rattle.std.specs.Prelude.{◌≡◌, ℕ, List, ◌∷◌, length, Some, slice_get}
use Rattle.handoff.specs.Joined.{Key, IsJoinedIn}
use Rattle.handoff.specs.Partitions.{GateId, HandoffView, View}
use Rattle.handoff.specs.Running.{Diversion, GiveShown, HaveReturned, fallbacks_of, log_of, partition_of}
use Rattle.handoff_tracks.specs.declared.track.LastReturn.{LastReturn}
use Rattle.handoff_tracks.specs.declared.track.HandoffTrack.{HandoffTrack}
use Rattle.handoff_tracks.specs.declared.track.HandoffTrack.TheVariants.{AtPrimary}

module _ (run index : ℕ) (last : Diversion) (earlier : List Diversion) where
  -- behind the last of these diversions each key's siblings at the primary are the joint ones, in the state that its return showed, where each context
  -- that a command of the key carried had been shown for it
  abbrev pub KeysJoin : {primary : GateId View} → HaveReturned run index primary (last ∷ earlier) → Type 0
  KeysJoin returned =
      let diversions = last ∷ earlier in
      let partition = partition_of run index diversions in
      let fallbacks = fallbacks_of run index diversions in
      (key : Key) → GiveShown run index partition fallbacks key diversions
      → IsJoinedIn partition (log_of run index diversions) fallbacks key returned.0.returned.of_gates.sees.ended.primary

-- so it is with the diversions of the partition at an index, of which this is kept
pub record AreJoined (handoff : HandoffView) (index : ℕ) (kept : LastReturn) : Type 0 where
  pub primary : GateId View
  pub stands : slice_get handoff.gates index ≡ Some primary
  pub last : Diversion
  pub earlier : List Diversion
  pub returned : HaveReturned handoff.run index primary (last ∷ earlier)
  pub passes : kept.passes ≡ last.passes
  pub number : kept.diversions ≡ length (last ∷ earlier)
  pub joined : KeysJoin handoff.run index last earlier returned

-- and with each partition of which something is kept
abbrev pub AllJoined : HandoffView → List HandoffTrack → Type 0
AllJoined handoff tracks = (index : ℕ) (kept : LastReturn) → slice_get tracks index ≡ Some (AtPrimary (Some kept)) → AreJoined handoff index kept
