-- The sink that keeps all ends.
use Rattle.std.specs.Prelude.{◌+◌, ◌≤◌, ℕ, List, vec_len, vec_capacity}
use Rattle.job_pool.specs.declared.sink.Collected.{Collected}
use Rattle.job_pool.specs.declared.worker.NumberedEnd.{NumberedEnd}

module _ {E : Type 0} where
  abbrev pub kept : Collected E → List (NumberedEnd E)
  kept sink = sink.ends.items

  abbrev pub HasRoom : Collected E → ℕ → Type 0
  HasRoom sink n = vec_len sink.ends + n ≤ vec_capacity sink.ends
