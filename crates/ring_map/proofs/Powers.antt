-- Powers of two by their bits.
use Rattle.std.proofs.Common.{◌≡◌, ℕ, zero, suc, ◌/◌, ◌%◌, ◌^◌, ◌<◌, ◌≤◌, count_ones, refl, arith, inl, inr}
use Rattle.std.specs.Int.Count.{count_trailing_zeros, under, ones_step}
use Rattle.std.proofs.lemmas.Nat.{zero_from_ones, ones_le_self, pow_below}
use Rattle.std.proofs.lemmas.Bool.{cases_lt}
use native.Mathlib.Nat.{pow-suc}

-- one digit more, below the ones that were looked at
by_lowest : (k n d : ℕ) → n % 2 ≡ d → n < 2 ^ suc k → count_ones n ≡ 1
    → (n / 2 < 2 ^ k → count_ones (n / 2) ≡ 1 → 2 ^ count_trailing_zeros k (n / 2) ≡ n / 2)
    → 2 ^ under d (count_trailing_zeros k (n / 2)) ≡ n
by_lowest k n zero even small one higher =
    let double = pow-suc 2 k in
    let half = higher (omega arith) (omega (arith, ones_step n)) in
    rw (pow-suc 2 (count_trailing_zeros k (n / 2)), half) (omega arith)
by_lowest k n (suc d) odd small one higher =
    let rest = zero_from_ones (n / 2) (omega (arith, ones_step n)) in
    omega arith

-- a number with one digit set is 2 to the number of zeros below it
pub pow-trailing_zeros : (k n : ℕ) → n < 2 ^ k → count_ones n ≡ 1 → 2 ^ count_trailing_zeros k n ≡ n
unfolding count_trailing_zeros
pow-trailing_zeros zero n small one = absurd (omega (arith, ones_le_self n))
pow-trailing_zeros (suc k) n small one = by_lowest k n (n % 2) refl small one (pow-trailing_zeros k (n / 2))

-- 2 to the b is at most 1,024 only where b is at most 10
pub exponent_le : (b : ℕ) → 2 ^ b ≤ 1024 → b ≤ 10
exponent_le b small = elim (cases_lt 10 b) [ inl lt ↦ absurd (omega (arith, pow_below 10 b lt)) | inr ge ↦ ge ]
