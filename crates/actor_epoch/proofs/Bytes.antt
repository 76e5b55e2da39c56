-- Big-endian numbers, read and written.
use Rattle.std.proofs.Common.{◌≡◌, ℕ, ◌<◌, List, length, get_or, arith}
use Rattle.std.specs.Int.{bytes_high_first, from_be_bytes, w32, w64}
use Rattle.std.proofs.lemmas.Nat.{be_bytes_4, be_bytes_8}
use Rattle.byteorder.specs.Endian.{big_number}
use Rattle.actor_epoch.specs.declared.version.Version.{Version}
use Rattle.actor_epoch.specs.declared.version.Version.TheVariants.{One, Two}
use Rattle.actor_epoch.specs.Versions.{counter_len}

big_number_8 : (xs : List ℕ) → big_number 8 xs ≡ from_be_bytes w64 xs
big_number_8 xs = omega arith

big_number_4 : (xs : List ℕ) → big_number 4 xs ≡ from_be_bytes w32 xs
big_number_4 xs = omega arith

pub bytes-big_number_8 : (xs : List ℕ) → length xs ≡ 8 → ((i : ℕ) → get_or xs i 0 < 256) → bytes_high_first 8 (big_number 8 xs) ≡ xs
bytes-big_number_8 xs e h = be_bytes_8 xs (big_number 8 xs) e h (big_number_8 xs)

pub bytes-big_number_4 : (xs : List ℕ) → length xs ≡ 4 → ((i : ℕ) → get_or xs i 0 < 256) → bytes_high_first 4 (big_number 4 xs) ≡ xs
bytes-big_number_4 xs e h = be_bytes_4 xs (big_number 4 xs) e h (big_number_4 xs)

-- the bytes of a counter
pub bytes-counter : (version : Version) (xs : List ℕ) → length xs ≡ counter_len version → ((i : ℕ) → get_or xs i 0 < 256)
    → bytes_high_first (counter_len version) (big_number (counter_len version) xs) ≡ xs
bytes-counter One xs e h = bytes-big_number_4 xs e h
bytes-counter Two xs e h = bytes-big_number_8 xs e h
