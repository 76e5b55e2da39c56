-- Shares that are held together, each one part of each of the five ledgers.
use Rattle.std.specs.Prelude.{ℕ, ◌≡◌}
use Rattle.stats_book.specs.declared.totals.Totals.{Totals}

-- of how many shares, and what they have counted in all
pub record HoldingView : Type 0 where
  pub shares : ℕ
  pub counted : Totals

-- so much of each of the five
abbrev pub AllAre : (n gets puts deletes refusals reaps : ℕ) → Type 0
AllAre n g p d f r = (g ≡ n) × (p ≡ n) × (d ≡ n) × (f ≡ n) × (r ≡ n)
