-- The sum of the groups, group by group.
use Rattle.std.proofs.Common.{◌≡◌, ℕ, ◌+◌, ◌*◌, ◌%◌, ◌^◌, ◌<◌, List, [], ◌∷◌, ◌++◌, length, take, get_or, sym, ap, arith, ◌∙◌, zero-add, add-one}
use Rattle.std.proofs.lemmas.Grind.{common_steps}
use Rattle.std.proofs.lemmas.List.{take_more}
use Rattle.std.proofs.Math.Nat.{add-mod-mod, mod-add-mod}
use Rattle.std.proofs.lemmas.Nat.{mul-mod_first, mul-mod_second}
use Rattle.wire_varint.specs.Varint.{groups_from}

-- one more byte adds its group
groups_from-snoc : (j : ℕ) (bs : List ℕ) (b : ℕ) →
    groups_from j (bs ++ b ∷ []) ≡ groups_from j bs + b % 128 * 128 ^ (j + length bs)
groups_from-snoc j [] b = grind arith
groups_from-snoc j (x ∷ bs) b = grind (arith, groups_from-snoc (j + 1) bs b)

-- one more byte adds its group
groups_from-take_more : (j i : ℕ) (bs : List ℕ) → i < length bs →
    groups_from j (take (i + 1) bs) ≡ groups_from j (take i bs) + get_or bs i 0 % 128 * 128 ^ (j + i)
groups_from-take_more j i bs h = grind (arith, common_steps, take_more bs i 0 h, groups_from-snoc j (take i bs) (get_or bs i 0))

-- a wrapping sum with a wrapping product is the sum, wrapped once
wrapped_sum : (m v g w s p : ℕ) → v ≡ s % m → w ≡ p % m → (v + g * w % m) % m ≡ (s + g * p) % m
wrapped_sum m v g w s p hv hw =
    rw (hv, hw, mul-mod_second g p m) (mod-add-mod s m (g * p % m) ∙ add-mod-mod s (g * p) m)

-- the value so far, with the next group
pub value_more : (bs : List ℕ) (i v w : ℕ) → i < length bs → v ≡ groups_from 0 (take i bs) % 2 ^ 64 → w ≡ 128 ^ i % 2 ^ 64 →
    (v + get_or bs i 0 % 128 * w % 2 ^ 64) % 2 ^ 64 ≡ groups_from 0 (take (i + 1) bs) % 2 ^ 64
value_more bs i v w h hv hw =
    wrapped_sum (2 ^ 64) v (get_or bs i 0 % 128) w _ (128 ^ (0 + i)) hv (rw zero-add hw) ∙ ap (λ n. n % 2 ^ 64) (sym (groups_from-take_more 0 i bs h))

-- the next group's weight
pub weight_more : (i w : ℕ) → w ≡ 128 ^ i % 2 ^ 64 → w * 128 % 2 ^ 64 ≡ 128 ^ (i + 1) % 2 ^ 64
weight_more i w e = rw (e, mul-mod_first (128 ^ i) 128 (2 ^ 64), add-one) (ap (λ n. n % 2 ^ 64) (grind arith))
