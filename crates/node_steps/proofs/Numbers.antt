-- Numbers.
use Rattle.std.proofs.Common.{◌≡◌, ◌≢◌, ℕ, suc, ◌+◌, ◌<◌, ◌≤◌, sym, ◌∙◌, arith}

pub apart : (a b c : ℕ) → a ≡ b → b ≢ c → a ≢ c
apart a b c e n = λ f. n (sym e ∙ f)

pub below : (a b c : ℕ) → a < b → b ≤ c → a < c
below a b c h k = omega (arith, h, k)

pub below_past : (a n : ℕ) → a < n → n ≤ a → ⊥
below_past a n h k = omega (arith, h, k)

pub not_past : (a n b : ℕ) → a < n → n ≤ b → a ≢ b
not_past a n b h k = λ e. absurd (omega (arith, h, k, e))

pub shift : (a b : ℕ) → (a + 1) + b ≡ a + suc b
shift a b = omega arith
