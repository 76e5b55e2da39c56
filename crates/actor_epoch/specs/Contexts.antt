-- The bytes of a context.
use Rattle.std.specs.Prelude.{◌≡◌, ◌⊎◌, Bool, true, ◌&&◌, ◌++◌, ◌^◌, List, [], ◌∷◌, ℕ, length, flat_map, IsTrue, nat_le, nat_lt, Option, Some, None}
use Rattle.std.specs.List.{list_all}
use Rattle.std.specs.Int.{bytes_high_first}
use Rattle.std.specs.Ordering.{is_lt}
use Rattle.actor_epoch.specs.declared.actor.Actor.{Actor}
use Rattle.actor_epoch.specs.declared.dot.Dot.{Dot}
use Rattle.actor_epoch.specs.declared.version.Version.{Version}
use Rattle.actor_epoch.specs.declared.version.Version.TheVariants.{One, Two}
use Rattle.actor_epoch.specs.Versions.{version_byte, counter_len}
use Rattle.actor_epoch.specs.Limits.{max_epoch, max_counter, max_actors}
use Rattle.actor_epoch.specs.Dots.{actor_cmp}

-- the bytes of one pair in a version: vnode id, epoch, counter, big-endian
abbrev pub entry_bytes : Version → Dot → List ℕ
entry_bytes version pair =
    bytes_high_first 8 pair.actor.vnode ++ (bytes_high_first 4 pair.actor.epoch ++ bytes_high_first (counter_len version) pair.counter)

-- the bytes of a context in a version: the version's byte, then each pair
abbrev pub encoding_as : Version → List Dot → List ℕ
encoding_as version pairs = version_byte version ∷ flat_map (entry_bytes version) pairs

-- the bytes of a context, as they are written
abbrev pub encoding : List Dot → List ℕ
encoding pairs = encoding_as Two pairs

-- an actor may follow the last one, if there is one
abbrev pub may_follow : Option Actor → Actor → Bool
may_follow None actor = true
may_follow (Some last) actor = is_lt (actor_cmp last actor)

-- each actor is below the next
abbrev pub is_rising : List Dot → Bool
is_rising [] = true
is_rising (pair ∷ []) = true
is_rising (pair ∷ next ∷ pairs) = is_lt (actor_cmp pair.actor next.actor) && is_rising (next ∷ pairs)

-- epoch and counter of a pair begin at 1, and each number is within its limit
abbrev pub is_within_limits : Dot → Bool
is_within_limits pair =
    nat_lt pair.actor.vnode (2 ^ 64)
    && ((nat_le 1 pair.actor.epoch && nat_le pair.actor.epoch max_epoch) && (nat_le 1 pair.counter && nat_le pair.counter max_counter))

-- 1 to 64 pairs within their limits, strictly rising by actor
abbrev pub is_well_formed : List Dot → Bool
is_well_formed pairs = (nat_le 1 (length pairs) && nat_le (length pairs) max_actors) && (is_rising pairs && list_all is_within_limits pairs)

-- the counter of a pair has room in the bytes of a version
abbrev pub has_room : Version → Dot → Bool
has_room version pair = nat_lt pair.counter (256 ^ counter_len version)

-- bytes encode pairs in a version
abbrev pub EncodesAs : Version → List ℕ → List Dot → Type 0
EncodesAs version bytes pairs = IsTrue (list_all (has_room version) pairs) × (bytes ≡ encoding_as version pairs)

-- what bytes read as: the pairs that they encode in one of the versions, or nothing where they encode none in either
abbrev pub DecodesContext : List ℕ → Option (List Dot) → Type 0
DecodesContext bytes (Some pairs) = IsTrue (is_well_formed pairs) × (EncodesAs One bytes pairs ⊎ EncodesAs Two bytes pairs)
DecodesContext bytes None = (version : Version) (pairs : List Dot) → IsTrue (is_well_formed pairs) → EncodesAs version bytes pairs → ⊥
