-- The versions of a context's bytes.
use Rattle.std.specs.Prelude.{◌==◌, ◌+◌, if◌then◌else◌, ℕ, Option, Some, None}
use Rattle.actor_epoch.specs.declared.version.Version.{Version}
use Rattle.actor_epoch.specs.declared.version.Version.TheVariants.{One, Two}

-- the first byte of a context says its version
abbrev pub version_byte : Version → ℕ
version_byte One = 1
version_byte Two = 2

abbrev pub version_of : ℕ → Option Version
version_of byte = if byte == 1 then Some One else if byte == 2 then Some Two else None

-- how many bytes a counter has, in which alone the versions differ
abbrev pub counter_len : Version → ℕ
counter_len One = 4
counter_len Two = 8

-- how many bytes a pair has: vnode id, epoch, counter
abbrev pub entry_len : Version → ℕ
entry_len version = 12 + counter_len version
