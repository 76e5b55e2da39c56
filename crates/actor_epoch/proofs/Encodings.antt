-- What stands in the bytes of a context.
use Rattle.std.proofs.Common.{◌≡◌, ℕ, ◌+◌, ◌*◌, ◌/◌, ◌<◌, ◌&&◌, cond, Bool, true, false, refl, IsTrue, List, [], ◌∷◌, ◌++◌, length, take, get_or, ◌∙◌, ap, arith}
use Rattle.std.specs.Prelude.{flat_map, nat_eq, Some, None}
use Rattle.std.proofs.lemmas.Bool.Decides.{nat_tests}
use Rattle.std.specs.List.{list_all}
use Rattle.std.proofs.lemmas.List.{take_more, map-append}
use Rattle.std.proofs.lemmas.Grind.{flat_map-append}
use Rattle.actor_epoch.specs.declared.actor.Actor.{Actor}
use Rattle.actor_epoch.specs.declared.dot.Dot.{Dot}
use Rattle.actor_epoch.specs.declared.version.Version.{Version}
use Rattle.actor_epoch.specs.declared.version.Version.TheVariants.{One, Two}
use Rattle.actor_epoch.specs.Versions.{version_byte, version_of, entry_len}
use Rattle.actor_epoch.specs.Contexts.{encoding, encoding_as, has_room, is_well_formed, is_rising, is_within_limits, entry_bytes}
use Rattle.actor_epoch.specs.Entries.{entries_in, entries_of, entry_of}
use Rattle.actor_epoch.proofs.Rising.{and_first, and_second, and_both}
use Rattle.actor_epoch.proofs.Entries.{entries_in-flat_map, length-flat_map}
use Rattle.actor_epoch.proofs.Sizes.{whole-count}

-- what stands behind the version's byte
pub tail-is : (version : Version) (byte : ℕ) (entries : List ℕ) (pairs : List Dot) → byte ∷ entries ≡ encoding_as version pairs → entries ≡ flat_map (entry_bytes version) pairs
tail-is version byte entries pairs e = cc

-- and which version it says
pub version_of-byte : (version : Version) → version_of (version_byte version) ≡ Some version
version_of-byte One = refl
version_of-byte Two = refl

pub version-is : (version : Version) (byte : ℕ) (entries : List ℕ) (pairs : List Dot) → byte ∷ entries ≡ encoding_as version pairs → version_of byte ≡ Some version
version-is version byte entries pairs e = let byte_is : byte ≡ version_byte version = cc in ap version_of byte_is ∙ version_of-byte version

pub byte-is : (byte : ℕ) (version : Version) → version_of byte ≡ Some version → byte ≡ version_byte version
byte-is byte version h = by (nat_eq byte 1) (nat_eq byte 2) refl refl version h
  where
    by : (a b : Bool) → nat_eq byte 1 ≡ a → nat_eq byte 2 ≡ b → (version : Version)
        → (cond a (Some One) (cond b (Some Two) None)) ≡ Some version → byte ≡ version_byte version
    by true b one two version e = let is : One ≡ version = cc in let same : byte ≡ 1 = grind (arith, nat_tests) in same ∙ ap version_byte is
    by false true one two version e = let is : Two ≡ version = cc in let same : byte ≡ 2 = grind (arith, nat_tests) in same ∙ ap version_byte is
    by false false one two version e = cc

pub length-is : (version : Version) (pairs : List Dot) (entries : List ℕ) → entries ≡ flat_map (entry_bytes version) pairs → length entries ≡ entry_len version * length pairs
length-is version pairs entries e = ap length e ∙ length-flat_map version pairs

-- bytes that encode pairs of the form are read as these
pub entries-are : (version : Version) (entries : List ℕ) (pairs : List Dot) → IsTrue (is_well_formed pairs) → IsTrue (list_all (has_room version) pairs)
    → entries ≡ flat_map (entry_bytes version) pairs → entries_in version (length entries / entry_len version) entries ≡ pairs
entries-are version entries pairs h room e =
    let within : IsTrue (list_all is_within_limits pairs) = and_second (is_rising pairs) (list_all is_within_limits pairs) (and_second _ (is_rising pairs && list_all is_within_limits pairs) h) in
    let count : length entries / entry_len version ≡ length pairs = whole-count version (length entries) (length pairs) (length-is version pairs entries e) in
    (λ i. entries_in version (count i) (e i)) ∙ entries_in-flat_map version pairs within room

-- each counter has room in the bytes that are written
pub has_room-written : (pairs : List Dot) → IsTrue (list_all is_within_limits pairs) → IsTrue (list_all (has_room Two) pairs)
has_room-written [] h = refl
has_room-written (pair ∷ pairs) h =
    let own : IsTrue (is_within_limits pair) = and_first (is_within_limits pair) (list_all is_within_limits pairs) h in
    let few : IsTrue (has_room Two pair) = grind (arith, nat_tests) in
    and_both (has_room Two pair) (list_all (has_room Two) pairs) few (has_room-written pairs (and_second (is_within_limits pair) (list_all is_within_limits pairs) h))

-- the bytes of one pair more
pub encoding-take : (pairs : List (Actor × ℕ)) (i : ℕ) (d : Actor × ℕ) → i < length pairs
    → encoding (entries_of (take (i + 1) pairs)) ≡ encoding (entries_of (take i pairs)) ++ entry_bytes Two (entry_of (get_or pairs i d))
encoding-take pairs i d h =
    ap (λ ps. encoding (entries_of ps)) (take_more pairs i d h)
    ∙ ap encoding (map-append entry_of (take i pairs) (get_or pairs i d ∷ []))
    ∙ ap (λ bs. 2 ∷ bs) (flat_map-append (entry_bytes Two) (entries_of (take i pairs)) (entry_of (get_or pairs i d) ∷ []))
