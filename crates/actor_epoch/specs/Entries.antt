-- The pairs that stand in bytes, one after another.
use Rattle.std.specs.Prelude.{List, [], ◌∷◌, ℕ, zero, suc, drop, map}
use Rattle.byteorder.specs.Endian.{big_number}
use Rattle.actor_epoch.specs.declared.actor.Actor.{Actor}
use Rattle.actor_epoch.specs.declared.dot.Dot.{Dot}
use Rattle.actor_epoch.specs.declared.version.Version.{Version}
use Rattle.actor_epoch.specs.Versions.{counter_len, entry_len}

-- a pair as code has it, (actor, n)
abbrev pub entry_of : Actor × ℕ → Dot
entry_of pair = record { actor = pair.0; counter = pair.1 }

abbrev pub entries_of : List (Actor × ℕ) → List Dot
entries_of pairs = map entry_of pairs

-- the pair that the first bytes encode in a version
unfoldable pub entry_in : Version → List ℕ → Dot
entry_in version bytes = record {
  actor = record { vnode = big_number 8 bytes; epoch = big_number 4 (drop 8 bytes) };
  counter = big_number (counter_len version) (drop 12 bytes);
}

-- the pairs that the first count entries encode
abbrev pub entries_in : Version → ℕ → List ℕ → List Dot
entries_in version zero bytes = []
entries_in version (suc count) bytes = entry_in version bytes ∷ entries_in version count (drop (entry_len version) bytes)
