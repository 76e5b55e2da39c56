-- Pairs in bytes.
use Rattle.std.proofs.Common.{◌≡◌, ℕ, zero, suc, ◌+◌, ◌-◌, ◌*◌, ◌<◌, ◌≤◌, ◌^◌, IsTrue, List, [], ◌∷◌, ◌++◌, length, take, drop, get_or, refl, sym, ◌∙◌, ap, arith, length-drop, length-take-le, lit<, lit≤}
use Rattle.std.proofs.lemmas.List.{drop-drop, get_or-drop, take-append-drop}
use Rattle.std.proofs.Math.Seq.{take-add}
use Rattle.std.specs.Prelude.{flat_map}
use Rattle.std.specs.List.{list_all}
use Rattle.std.specs.Int.{bytes_high_first}
use Rattle.std.proofs.lemmas.Bool.Decides.{nat_tests}
use Rattle.byteorder.specs.Endian.{big_number}
use Rattle.byteorder.specs.Numbers.{big_number-reads_back, big_from-take, big_from-lt}
use Rattle.actor_epoch.specs.declared.dot.Dot.{Dot}
use Rattle.actor_epoch.specs.declared.version.Version.{Version}
use Rattle.actor_epoch.specs.declared.version.Version.TheVariants.{One, Two}
use Rattle.actor_epoch.specs.Versions.{counter_len, entry_len}
use Rattle.actor_epoch.specs.Contexts.{entry_bytes, has_room, is_within_limits}
use Rattle.actor_epoch.specs.Entries.{entry_in, entries_in}
use Rattle.actor_epoch.proofs.Rising.{and_first, and_second, and_both}
use Rattle.actor_epoch.proofs.Bytes.{bytes-big_number_8, bytes-big_number_4, bytes-counter}
use Rattle.actor_epoch.proofs.Sizes.{one-fits, after-one}

-- the first pair, and those after it
pub entries_in-step : (version : Version) (count : ℕ) (bytes : List ℕ) → 0 < count
    → entries_in version count bytes ≡ entry_in version bytes ∷ entries_in version (count - 1) (drop (entry_len version) bytes)
entries_in-step version zero bytes h = absurd (omega arith)
entries_in-step version (suc n) bytes h = let e : suc n - 1 ≡ n = omega arith in rw e refl

pub length-entries_in : (version : Version) (count : ℕ) (bytes : List ℕ) → length (entries_in version count bytes) ≡ count
length-entries_in version zero bytes = refl
length-entries_in version (suc n) bytes = ap suc (length-entries_in version n (drop (entry_len version) bytes))

-- the same for bytes and numbers that are known to be these
pub entries_in-next : (version : Version) (count size : ℕ) (bytes rest : List ℕ) (entry : Dot) → 0 < count → entry ≡ entry_in version bytes
    → size ≡ entry_len version → rest ≡ drop size bytes → entries_in version count bytes ≡ entry ∷ entries_in version (count - 1) rest
entries_in-next version count size bytes rest entry h e s r = rw (e, r, s) (entries_in-step version count bytes h)

-- a pair's bytes read as the pair
pub entry_in-entry_bytes : (version : Version) (entry : Dot) (rest : List ℕ) → IsTrue (is_within_limits entry) → IsTrue (has_room version entry)
    → entry_in version (entry_bytes version entry ++ rest) ≡ entry
unfolding entry_in
entry_in-entry_bytes version entry rest h room = by version room
  where
    by : (version : Version) → IsTrue (has_room version entry) → entry_in version (entry_bytes version entry ++ rest) ≡ entry
    by version room =
        let small : entry.actor.vnode < 256 ^ 8 = grind (arith, nat_tests) in
        let fits : entry.actor.epoch < 256 ^ 4 = grind (arith, nat_tests) in
        let counts : entry.counter < 256 ^ counter_len version = grind (arith, nat_tests) in
        let a = bytes_high_first 4 entry.actor.epoch ++ (bytes_high_first (counter_len version) entry.counter ++ rest) in
        let b = bytes_high_first (counter_len version) entry.counter ++ rest in
        let vnode : big_number 8 (bytes_high_first 8 entry.actor.vnode ++ a) ≡ entry.actor.vnode = big_number-reads_back 8 entry.actor.vnode a small in
        let epoch : big_number 4 (bytes_high_first 4 entry.actor.epoch ++ b) ≡ entry.actor.epoch = big_number-reads_back 4 entry.actor.epoch b fits in
        let counter : big_number (counter_len version) (bytes_high_first (counter_len version) entry.counter ++ rest) ≡ entry.counter =
        big_number-reads_back (counter_len version) entry.counter rest counts in
        λ i. record { actor = record { vnode = vnode i; epoch = epoch i }; counter = counter i }

take-small : (n : ℕ) (bytes : List ℕ) → ((i : ℕ) → get_or bytes i 0 < 256) → (i : ℕ) → get_or (take n bytes) i 0 < 256
take-small zero bytes small i = lit< tt
take-small (suc n) [] small i = lit< tt
take-small (suc n) (byte ∷ bytes) small zero = small zero
take-small (suc n) (byte ∷ bytes) small (suc i) = take-small n bytes (λ k. small (suc k)) i

drop-small : (n : ℕ) (bytes : List ℕ) → ((i : ℕ) → get_or bytes i 0 < 256) → (i : ℕ) → get_or (drop n bytes) i 0 < 256
drop-small n bytes small i = rw (get_or-drop n bytes i 0) (small (n + i))

-- the first bytes are those of the pair that they read as
pub entry_bytes-entry_in : (version : Version) (bytes : List ℕ) → entry_len version ≤ length bytes → ((i : ℕ) → get_or bytes i 0 < 256)
    → entry_bytes version (entry_in version bytes) ≡ take (entry_len version) bytes
unfolding entry_in
entry_bytes-entry_in version bytes h small =
    let wide : ℕ = counter_len version in
    let sum : 8 + (4 + wide) ≡ 12 + wide = omega arith in
    let first : List ℕ = take 8 bytes in
    let second : List ℕ = take 4 (drop 8 bytes) in
    let third : List ℕ = take wide (drop 12 bytes) in
    let vnode : bytes_high_first 8 (big_number 8 bytes) ≡ first =
    ap (bytes_high_first 8) (sym (big_from-take 0 8 8 bytes (lit≤ tt)))
    ∙ bytes-big_number_8 first (length-take-le 8 bytes (omega arith)) (take-small 8 bytes small) in
    let epoch : bytes_high_first 4 (big_number 4 (drop 8 bytes)) ≡ second =
    ap (bytes_high_first 4) (sym (big_from-take 0 4 4 (drop 8 bytes) (lit≤ tt)))
    ∙ bytes-big_number_4 second (length-take-le 4 (drop 8 bytes) (omega (arith, length-drop 8 bytes))) (take-small 4 (drop 8 bytes) (drop-small 8 bytes small)) in
    let counter : bytes_high_first wide (big_number wide (drop 12 bytes)) ≡ third =
    ap (bytes_high_first wide) (sym (big_from-take 0 wide wide (drop 12 bytes) (omega arith)))
    ∙ bytes-counter version third (length-take-le wide (drop 12 bytes) (omega (arith, length-drop 12 bytes))) (take-small wide (drop 12 bytes) (drop-small 12 bytes small)) in
    (λ i. vnode i ++ (epoch i ++ counter i))
    ∙ ap (λ rest. first ++ rest) (ap (λ more. second ++ take wide more) (sym (drop-drop 4 8 bytes)) ∙ sym (take-add 4 wide (drop 8 bytes))) ∙ sym (take-add 8 (4 + wide) bytes) ∙ ap (λ n. take n bytes) sum

-- a counter that is read has room
has_room-entry_in : (version : Version) (bytes : List ℕ) → ((i : ℕ) → get_or bytes i 0 < 256) → IsTrue (has_room version (entry_in version bytes))
unfolding entry_in
has_room-entry_in version bytes small =
    let wide : ℕ = counter_len version in
    let below : big_number wide (drop 12 bytes) < 256 ^ wide = big_from-lt 0 wide (drop 12 bytes) (drop-small 12 bytes small) in
    grind (arith, nat_tests)

pub has_room-entries_in : (version : Version) (count : ℕ) (bytes : List ℕ) → ((i : ℕ) → get_or bytes i 0 < 256)
    → IsTrue (list_all (has_room version) (entries_in version count bytes))
has_room-entries_in version zero bytes small = refl
has_room-entries_in version (suc n) bytes small =
    and_both _ _ (has_room-entry_in version bytes small)
    (has_room-entries_in version n (drop (entry_len version) bytes) (drop-small (entry_len version) bytes small))

-- the bytes of n pairs are those of the pairs that they read as
pub flat_map-entries_in : (version : Version) (count : ℕ) (bytes : List ℕ) → length bytes ≡ entry_len version * count → ((i : ℕ) → get_or bytes i 0 < 256)
    → flat_map (entry_bytes version) (entries_in version count bytes) ≡ bytes
flat_map-entries_in version zero [] h small = refl
flat_map-entries_in One zero (byte ∷ bytes) h small = absurd (omega arith)
flat_map-entries_in Two zero (byte ∷ bytes) h small = absurd (omega arith)
flat_map-entries_in version (suc n) bytes h small =
    let size : ℕ = entry_len version in
    let rest : flat_map (entry_bytes version) (entries_in version n (drop size bytes)) ≡ drop size bytes =
    flat_map-entries_in version n (drop size bytes) (length-drop size bytes ∙ after-one version (length bytes) n h) (drop-small size bytes small) in
    let first : entry_bytes version (entry_in version bytes) ≡ take size bytes = entry_bytes-entry_in version bytes (one-fits version (length bytes) n h) small in
    (λ i. first i ++ rest i) ∙ take-append-drop size bytes

-- the bytes of pairs read as the pairs
pub entries_in-flat_map : (version : Version) (entries : List Dot) → IsTrue (list_all is_within_limits entries) → IsTrue (list_all (has_room version) entries)
    → entries_in version (length entries) (flat_map (entry_bytes version) entries) ≡ entries
entries_in-flat_map version [] h room = refl
entries_in-flat_map version (entry ∷ entries) h room =
    let own : IsTrue (is_within_limits entry) = and_first (is_within_limits entry) (list_all is_within_limits entries) h in
    let others : IsTrue (list_all is_within_limits entries) = and_second (is_within_limits entry) (list_all is_within_limits entries) h in
    let fits : IsTrue (has_room version entry) = and_first (has_room version entry) (list_all (has_room version) entries) room in
    let rest : IsTrue (list_all (has_room version) entries) = and_second (has_room version entry) (list_all (has_room version) entries) room in
    (λ i. entry_in-entry_bytes version entry (flat_map (entry_bytes version) entries) own fits i
    ∷ entries_in version (length entries) (drop-entry_bytes version entry (flat_map (entry_bytes version) entries) i))
    ∙ ap (λ found. entry ∷ found) (entries_in-flat_map version entries others rest)
  where
    drop-entry_bytes : (version : Version) (entry : Dot) (rest : List ℕ) → drop (entry_len version) (entry_bytes version entry ++ rest) ≡ rest
    drop-entry_bytes One entry rest = refl
    drop-entry_bytes Two entry rest = refl

pub length-flat_map : (version : Version) (entries : List Dot) → length (flat_map (entry_bytes version) entries) ≡ entry_len version * length entries
length-flat_map One [] = refl
length-flat_map Two [] = refl
length-flat_map One (entry ∷ entries) = omega (arith, length-flat_map One entries)
length-flat_map Two (entry ∷ entries) = omega (arith, length-flat_map Two entries)
