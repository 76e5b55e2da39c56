-- Bytes that were sent, or a beginning of them.
use Rattle.std.specs.Prelude.{ℕ, List, Option, Result, Ok, Err, take}
use Rattle.std.specs.Io.KnownBytes.{Appends}
use Rattle.schedule_player.specs.declared.fault.StepsFault.{StepsFault}
use Rattle.schedule_player.specs.declared.fault.StepsFault.TheVariants.{BadStep, ReadFailed, WriteFailed, NoMemory}

-- the bytes were sent, or a beginning of them
abbrev pub Sends : Option (List ℕ) → Option (List ℕ) → List ℕ → Result (Unit {0}) StepsFault → Type 0
Sends held held' bytes (Ok u) = Appends held held' bytes
Sends held held' bytes (Err (BadStep line)) = ⊥
Sends held held' bytes (Err ReadFailed) = ⊥
Sends held held' bytes (Err WriteFailed) = (len : ℕ) × Appends held held' (take len bytes)
Sends held held' bytes (Err NoMemory) = ⊥
