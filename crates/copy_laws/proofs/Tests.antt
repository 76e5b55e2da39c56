-- Tests and what they say, beside those of the machine's laws.
use Rattle.std.proofs.Common.{◌≡◌, ◌≢◌, ℕ, ◌≤◌, Bool, true, false, ◌&&◌, ◌||◌, refl, arith, inl, inr}
use Rattle.std.specs.Prelude.{◌⊎◌, ◌==◌, nat_le}
use Rattle.std.proofs.lemmas.Bool.Decides.{nat_tests}
pub use Rattle.std.proofs.lemmas.Bool.{not-true as not_true, or_right as or_second, or_cases as one_of_two}

pub or_true : (b : Bool) → (b || true) ≡ true
or_true true = refl
or_true false = refl

pub one_of_three : (a b c : Bool) → (a || (b || c)) ≡ true → (a ≡ true) ⊎ ((b ≡ true) ⊎ (c ≡ true))
one_of_three true b c h = inl refl
one_of_three false b c h = inr (one_of_two b c h)

pub differs : (a b : ℕ) → (a == b) ≡ false → a ≢ b
differs a b h e = grind (arith, nat_tests)

pub not_zero : (n : ℕ) → 1 ≤ n → (n == 0) ≡ false
not_zero n h = grind (arith, nat_tests)

pub le-test : (a b : ℕ) → a ≤ b → nat_le a b ≡ true
le-test a b h = grind (arith, nat_tests)

pub test-le : (a b : ℕ) → nat_le a b ≡ true → a ≤ b
test-le a b h = grind (arith, nat_tests)

-- a counter that pairs cover
pub within-test : (c n : ℕ) → (nat_le 1 c && nat_le c n) ≡ true → c ≤ n
within-test c n h = grind (arith, nat_tests)

pub test-within : (c : ℕ) → nat_le 1 c ≡ true → (nat_le 1 c && nat_le c c) ≡ true
test-within c h = grind (arith, nat_tests)
