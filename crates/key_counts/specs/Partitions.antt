-- What the vnodes of a hand-off's partitions store.
use Rattle.std.specs.Prelude.{◌≡◌, ◌^◌, ℕ, List, length, map, Option, Some, None, slice_get}
use Rattle.std.specs.Option.{option_map_or}
use Rattle.handoff.specs.declared.gates.Fallback.{Fallback}
use Rattle.handoff.specs.Partitions.{GateId, HandoffView, View}
use Rattle.key_counts.specs.declared.counts.KeyCounts.{KeyCounts}
use Rattle.key_counts.specs.declared.looks.Counted.{Counted}
use Rattle.key_counts.specs.declared.partitions.PartitionCounts.{PartitionCounts}
use Rattle.key_counts.specs.Looks.{IsCountedBy}
use Rattle.key_counts.specs.Sums.{capped, no_counts, plus, sum_of}

-- the primary of a partition was counted
pub record IsPrimaryCounted (handoff : HandoffView) (index : ℕ) (counted : Counted) : Type 0 where
  pub gate : GateId View
  pub stands : slice_get handoff.gates index ≡ Some gate
  pub is_counted : IsCountedBy gate counted

-- just where there is a fallback it was counted
abbrev pub AreBoth : Option Fallback → Option Counted → Type 0
AreBoth None None = Unit {0}
AreBoth None (Some counted) = ⊥
AreBoth (Some fallback) None = ⊥
AreBoth (Some fallback) (Some counted) = IsCountedBy fallback.gate counted

-- the fallback of a partition was counted where it has one
pub record IsFallbackCounted (handoff : HandoffView) (index : ℕ) (counted : Option Counted) : Type 0 where
  pub fallback : Option Fallback
  pub stands : slice_get handoff.fallbacks index ≡ Some fallback
  pub are_both : AreBoth fallback counted

-- so was each vnode of a partition
pub record IsCountedAt (handoff : HandoffView) (index : ℕ) (partition : PartitionCounts) : Type 0 where
  pub primary : IsPrimaryCounted handoff index partition.primary
  pub fallback : IsFallbackCounted handoff index partition.fallback

-- so was each of these partitions, in their order
abbrev pub AreEachCounted : HandoffView → List PartitionCounts → Type 0
AreEachCounted handoff partitions =
    (index : ℕ) (partition : PartitionCounts) → slice_get partitions index ≡ Some partition → IsCountedAt handoff index partition

-- they are all that the ring has
pub record AreCounted (handoff : HandoffView) (partitions : List PartitionCounts) : Type 0 where
  pub size : length partitions ≡ 2 ^ handoff.index_bits
  pub each : AreEachCounted handoff partitions

-- what the vnodes of a partition store together
abbrev pub counts_at : PartitionCounts → KeyCounts
counts_at partition = plus partition.primary.counts (option_map_or (λ fallback. fallback.counts) partition.fallback no_counts)

-- what all of them store together
abbrev pub total_in : List PartitionCounts → KeyCounts
total_in partitions = capped (sum_of (map counts_at partitions))

-- these are the sums of what was counted of each partition that the ring has
abbrev pub IsCountOfAll : HandoffView → KeyCounts → Type 0
IsCountOfAll handoff counts = (partitions : List PartitionCounts) × AreCounted handoff partitions × (counts ≡ total_in partitions)
