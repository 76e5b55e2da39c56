-- What one call of a writer comes to.
use Rattle.std.specs.Prelude.{ℕ, ◌<◌, ◌≤◌, List, Option, length, take}
use Rattle.std.specs.Io.KnownBytes.{Appends, Keeps}
use Rattle.pb_frame.specs.declared.stream.Wrote.{Wrote}
use Rattle.pb_frame.specs.declared.stream.Wrote.TheVariants.{Bytes, Blocked, Failed}

-- some of the bytes were written, from the first on, or nothing was
abbrev pub WritesSome : Option (List ℕ) → Option (List ℕ) → List ℕ → Wrote → Type 0
WritesSome held held' bytes (Bytes n) = (0 < n) × (n ≤ length bytes) × Appends held held' (take n bytes)
WritesSome held held' bytes Blocked = Keeps held held'
WritesSome held held' bytes Failed = Keeps held held'
