-- A pair without values, merged into an entry.
use Rattle.std.proofs.Common.{◌≡◌, ℕ, zero, suc, ◌+◌, ◌-◌, ◌<◌, ◌≤◌, true, ◌&&◌, List, [], length, take, refl, ◌∙◌, ap, arith}
use Rattle.std.specs.Prelude.{nat_le}
use Rattle.std.proofs.lemmas.Bool.Decides.{nat_tests}
use Rattle.dvv_set.specs.ClockEntries.{merged}
use Rattle.dvv_set.proofs.Walks.{merged-own_more, merged-other_more}

take_none : {A : Type 0} (n : ℕ) → take n (let none : List A = [] in none) ≡ []
take_none zero = refl
take_none (suc n) = refl

module _ {V : Type 0} where
  -- an entry with a pair merged in that has no values
  pub covered-own_more : (own : ℕ × List V) (n : ℕ) → n ≤ own.0 → merged own (n, []) ≡ (own.0, take (own.0 - n) own.1)
  covered-own_more own n h = merged-own_more own (n, []) h ∙ (let same : own.0 - n + 0 ≡ own.0 - n = omega arith in ap (λ k. (own.0, take k own.1)) same)

  pub covered-other_more : (own : ℕ × List V) (n : ℕ) → own.0 < n → merged own (n, []) ≡ (n, [])
  covered-other_more own n h = merged-other_more own (n, []) h ∙ ap (λ values. (n, values)) (take_none (n - own.0 + length own.1))

pub is_entry-pair : (n : ℕ) → 1 ≤ n → (nat_le 1 n && nat_le 0 n) ≡ true
is_entry-pair n h = grind (arith, nat_tests)
