-- The ids of a partition's fallbacks.
use Rattle.std.specs.Prelude.{ℕ}

-- by how much the id of a fallback is above its primary's
abbrev pub fallback_ids : ℕ
fallback_ids = 32768
