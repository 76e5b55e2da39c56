-- What the bytes of a context decode to.
use Rattle.std.specs.Prelude.{Bool, ◌&&◌, ◌==◌, ◌/◌, ◌%◌, if◌then◌else◌, List, [], ◌∷◌, ℕ, length, Option, Some, None}
use Rattle.actor_epoch.specs.declared.dot.Dot.{Dot}
use Rattle.actor_epoch.specs.declared.version.Version.{Version}
use Rattle.actor_epoch.specs.Versions.{version_of, entry_len}
use Rattle.actor_epoch.specs.Contexts.{is_well_formed}
use Rattle.actor_epoch.specs.Entries.{entries_in}

-- a context that was given: its bytes are malformed, or these are its pairs
pub data Context : Type 0 where
  Malformed : Context
  Pairs : (pairs : List Dot) → Context

-- one pair in each entry of the version
abbrev pub pairs_in : Version → List ℕ → List Dot
pairs_in version entries = entries_in version (length entries / entry_len version) entries

-- behind the byte of a version stand whole entries, and their pairs are well-formed
abbrev pub is_context : Version → List ℕ → Bool
is_context version entries = (length entries % entry_len version == 0) && is_well_formed (pairs_in version entries)

abbrev pub context_in : Option Version → List ℕ → Context
context_in None entries = Malformed
context_in (Some version) entries = if is_context version entries then Pairs (pairs_in version entries) else Malformed

-- no bytes are no context; others are the byte of a version and entries
unfoldable pub context_of : List ℕ → Option Context
context_of [] = None
context_of (byte ∷ entries) = Some (context_in (version_of byte) entries)

-- the pairs, where bytes are given and not malformed
abbrev pub pairs_read : Option Context → Option (List Dot)
pairs_read None = None
pairs_read (Some Malformed) = None
pairs_read (Some (Pairs pairs)) = Some pairs
