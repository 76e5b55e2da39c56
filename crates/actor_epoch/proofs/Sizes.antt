-- The lengths of pairs in bytes.
use Rattle.std.proofs.Common.{◌≡◌, ℕ, suc, ◌-◌, ◌*◌, ◌/◌, ◌%◌, ◌≤◌, arith}
use Rattle.actor_epoch.specs.declared.version.Version.{Version}
use Rattle.actor_epoch.specs.declared.version.Version.TheVariants.{One, Two}
use Rattle.actor_epoch.specs.Versions.{entry_len}

-- one pair, and those behind it
pub one-fits : (version : Version) (len n : ℕ) → len ≡ entry_len version * suc n → entry_len version ≤ len
one-fits One len n h = omega arith
one-fits Two len n h = omega arith

pub after-one : (version : Version) (len n : ℕ) → len ≡ entry_len version * suc n → len - entry_len version ≡ entry_len version * n
after-one One len n h = omega arith
after-one Two len n h = omega arith

-- whole pairs
pub whole-remainder : (version : Version) (len n : ℕ) → len ≡ entry_len version * n → len % entry_len version ≡ 0
whole-remainder One len n h = omega arith
whole-remainder Two len n h = omega arith

pub whole-count : (version : Version) (len n : ℕ) → len ≡ entry_len version * n → len / entry_len version ≡ n
whole-count One len n h = omega arith
whole-count Two len n h = omega arith

pub count-whole : (version : Version) (len : ℕ) → len % entry_len version ≡ 0 → len ≡ entry_len version * (len / entry_len version)
count-whole One len h = omega arith
count-whole Two len h = omega arith
