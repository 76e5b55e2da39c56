-- The gates of a partition that has a fallback.
use Rattle.std.specs.Prelude.{◌≡◌, ℕ, Some, IfSome, slice_get}
use Rattle.handoff.specs.declared.copying.Diverted.{Diverted}
use Rattle.handoff.specs.Partitions.{HandoffView, IsFallback}
use Rattle.handoff.specs.Started.{IsStartOf}

-- at this index these gates stand
pub record IsDivertedAt (handoff : HandoffView) (index : ℕ) (partition : Diverted) : Type 0 where
  pub stands : slice_get handoff.gates index ≡ Some partition.primary.now
  pub diverted : slice_get handoff.fallbacks index ≡ Some (Some partition.fallback.now)
  pub is_fallback : IsFallback handoff.run index partition.fallback.now
  pub start : IfSome partition.fallback.now.start (IsStartOf partition.primary.now)
