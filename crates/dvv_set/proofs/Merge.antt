-- What the entry of one actor means after a merge, dot by dot.
use Rattle.std.proofs.Common.{◌≡◌, ℕ, zero, suc, ◌+◌, ◌-◌, ◌<◌, ◌≤◌, Bool, true, false, not, ◌&&◌, ◌||◌, cond, List, [], ◌∷◌, length, take, refl, sym, ◌∙◌, ap, arith}
use Rattle.std.specs.Prelude.{nat_lt, nat_le, Option, Some, None, is_some, unwrap_or}
use Rattle.std.specs.Option.{option_or, option_map}
use Rattle.std.specs.List.{slice_get}
use Rattle.std.proofs.lemmas.Bool.Decides.{nat_tests}
use Rattle.dvv_set.specs.ClockEntries.{merged}
use Rattle.dvv_set.proofs.ClockEntries.{nothing, value_at}
use Rattle.std.proofs.lemmas.Iterator.Adapters.{option_map_id}
use Rattle.std.proofs.lemmas.Option.{slice_get_past}

module _ {V : Type 0} where
  slice_get-take : (k i : ℕ) (l : List V) → slice_get (take k l) i ≡ cond (nat_lt i k) (slice_get l i) None
  slice_get-take zero i l = let t : nat_lt i 0 ≡ false = grind (arith, nat_tests) in sym (ap (λ b. cond b (slice_get l i) None) t)
  slice_get-take (suc k) i [] = by (nat_lt i (suc k))
    where
      by : (b : Bool) → let none : Option V = None in none ≡ cond b none none
      by true = refl
      by false = refl
  slice_get-take (suc k) zero (v ∷ l) = let t : nat_lt 0 (suc k) ≡ true = grind (arith, nat_tests) in sym (ap (λ b. cond b (Some v) None) t)
  slice_get-take (suc k) (suc i) (v ∷ l) =
      let t : nat_lt (suc i) (suc k) ≡ nat_lt i k = grind (arith, nat_tests) in
      slice_get-take k i l ∙ sym (ap (λ b. cond b (slice_get l i) None) t)

  pub is_some-slice_get : (l : List V) (i : ℕ) → is_some (slice_get l i) ≡ nat_lt i (length l)
  is_some-slice_get [] i = let t : nat_lt i 0 ≡ false = grind (arith, nat_tests) in sym t
  is_some-slice_get (v ∷ l) zero = let t : nat_lt 0 (suc (length l)) ≡ true = grind (arith, nat_tests) in sym t
  is_some-slice_get (v ∷ l) (suc i) = let t : nat_lt (suc i) (suc (length l)) ≡ nat_lt i (length l) = grind (arith, nat_tests) in is_some-slice_get l i ∙ sym t

  -- a dot's value after a sync, by its values on both sides and what both sides know
  abbrev pub synced_value : ℕ × List V → ℕ × List V → ℕ → Option V
  synced_value own other c =
      option_or
      (cond (not (nat_le 1 c && nat_le c own.0)) (value_at other c) None)
      (option_map (λ v. cond (nat_le other.0 own.0) v (unwrap_or (value_at other c) v))
      (cond (is_some (value_at other c) || not (nat_le 1 c && nat_le c other.0)) (value_at own c) None))

  own_kept : (n1 n2 c : ℕ) (l1 l2 : List V) → n2 ≤ n1 → length l1 ≤ n1 → length l2 ≤ n2
      → cond (nat_le c n1) (slice_get (take (n1 - n2 + length l2) l1) (n1 - c)) None
      ≡ option_or
      (cond (not (nat_le 1 c && nat_le c n1)) (cond (nat_le c n2) (slice_get l2 (n2 - c)) None) None)
      (option_map (λ v. v) (cond (is_some (cond (nat_le c n2) (slice_get l2 (n2 - c)) None) || not (nat_le 1 c && nat_le c n2)) (cond (nat_le c n1) (slice_get l1 (n1 - c)) None) None))
  own_kept n1 n2 c l1 l2 h h1 h2 = by (nat_le 1 c) (nat_le c n1) (nat_le c n2) refl refl refl
    where
      own : Option V
      own = slice_get l1 (n1 - c)

      other : Option V
      other = slice_get l2 (n2 - c)

      kept : (b k : Bool) → b ≡ k → cond k own None ≡ option_map (λ v. v) (cond b own None)
      kept b k e = ap (λ t. cond t own None) (sym e) ∙ sym (option_map_id (cond b own None))

      nones : (p1 p2 : Bool) → let none : Option V = None in cond p1 none none ≡ option_or (cond (not (false && p1)) (cond p2 none none) none)
          (option_map (λ v. v) (cond (is_some (cond p2 none none) || not (false && p2)) (cond p1 none none) none))
      nones true true = refl
      nones true false = refl
      nones false true = refl
      nones false false = refl

      by : (q p1 p2 : Bool) → nat_le 1 c ≡ q → nat_le c n1 ≡ p1 → nat_le c n2 ≡ p2
          → cond p1 (slice_get (take (n1 - n2 + length l2) l1) (n1 - c)) None
          ≡ option_or (cond (not (q && p1)) (cond p2 other None) None)
          (option_map (λ v. v) (cond (is_some (cond p2 other None) || not (q && p2)) (cond p1 own None) None))
      by false p1 p2 e e1 e2 =
          let zero : c ≡ 0 = grind (arith, nat_tests) in
          let o1 : own ≡ None = slice_get_past l1 (n1 - c) (omega arith) in
          let o2 : other ≡ None = slice_get_past l2 (n2 - c) (omega arith) in
          let gone : slice_get (take (n1 - n2 + length l2) l1) (n1 - c) ≡ None =
          slice_get-take (n1 - n2 + length l2) (n1 - c) l1 ∙ ap (λ o. cond (nat_lt (n1 - c) (n1 - n2 + length l2)) o None) o1 ∙ nothing (nat_lt (n1 - c) (n1 - n2 + length l2)) in
          ap (λ o. cond p1 o None) gone
          ∙ nones p1 p2
          ∙ (λ i. option_or (cond (not (false && p1)) (cond p2 (sym o2 i) None) None)
          (option_map (λ v. v) (cond (is_some (cond p2 (sym o2 i) None) || not (false && p2)) (cond p1 (sym o1 i) None) None)))
      by true false false e e1 e2 = refl
      by true false true e e1 e2 = absurd (let w : ⊥ = grind (arith, nat_tests) in w)
      by true true false e e1 e2 = slice_get-take (n1 - n2 + length l2) (n1 - c) l1 ∙ kept true (nat_lt (n1 - c) (n1 - n2 + length l2)) (let t : true ≡ nat_lt (n1 - c) (n1 - n2 + length l2) = grind (arith, nat_tests) in t)
      by true true true e e1 e2 =
          slice_get-take (n1 - n2 + length l2) (n1 - c) l1
          ∙ kept (is_some other || false) (nat_lt (n1 - c) (n1 - n2 + length l2)) (ap (λ b. b || false) (is_some-slice_get l2 (n2 - c)) ∙ within)
        where
          within : (nat_lt (n2 - c) (length l2) || false) ≡ nat_lt (n1 - c) (n1 - n2 + length l2)
          within = grind (arith, nat_tests)

  other_kept : (n1 n2 c : ℕ) (l1 l2 : List V) → n1 < n2 → length l1 ≤ n1 → length l2 ≤ n2
      → cond (nat_le c n2) (slice_get (take (n2 - n1 + length l1) l2) (n2 - c)) None
      ≡ option_or
      (cond (not (nat_le 1 c && nat_le c n1)) (cond (nat_le c n2) (slice_get l2 (n2 - c)) None) None)
      (option_map (λ v. unwrap_or (cond (nat_le c n2) (slice_get l2 (n2 - c)) None) v)
      (cond (is_some (cond (nat_le c n2) (slice_get l2 (n2 - c)) None) || not (nat_le 1 c && nat_le c n2)) (cond (nat_le c n1) (slice_get l1 (n1 - c)) None) None))
  other_kept n1 n2 c l1 l2 h h1 h2 = by (nat_le 1 c) (nat_le c n1) (nat_le c n2) refl refl refl
    where
      own : Option V
      own = slice_get l1 (n1 - c)

      other : Option V
      other = slice_get l2 (n2 - c)

      kept : ℕ
      kept = n2 - n1 + length l1

      -- where both know the dot, it stays live where both have it live
      shared : (o1 o2 : Option V) → cond (is_some o1) o2 None ≡ option_map (λ v. unwrap_or o2 v) (cond (is_some o2 || false) o1 None)
      shared None None = refl
      shared None (Some w) = refl
      shared (Some v) None = refl
      shared (Some v) (Some w) = refl

      new : (o : Option V) (b : Bool) → o ≡ option_or o (option_map (λ v. unwrap_or o v) (let none : Option V = None in cond b none none))
      new None true = refl
      new None false = refl
      new (Some v) b = refl

      nones : (p1 p2 : Bool) → let none : Option V = None in cond p2 none none ≡ option_or (cond (not (false && p1)) (cond p2 none none) none)
          (option_map (λ v. unwrap_or (cond p2 none none) v) (cond (is_some (cond p2 none none) || not (false && p2)) (cond p1 none none) none))
      nones true true = refl
      nones true false = refl
      nones false true = refl
      nones false false = refl

      by : (q p1 p2 : Bool) → nat_le 1 c ≡ q → nat_le c n1 ≡ p1 → nat_le c n2 ≡ p2
          → cond p2 (slice_get (take kept l2) (n2 - c)) None
          ≡ option_or (cond (not (q && p1)) (cond p2 other None) None)
          (option_map (λ v. unwrap_or (cond p2 other None) v) (cond (is_some (cond p2 other None) || not (q && p2)) (cond p1 own None) None))
      by false p1 p2 e e1 e2 =
          let zero : c ≡ 0 = grind (arith, nat_tests) in
          let o1 : own ≡ None = slice_get_past l1 (n1 - c) (omega arith) in
          let o2 : other ≡ None = slice_get_past l2 (n2 - c) (omega arith) in
          let gone : slice_get (take kept l2) (n2 - c) ≡ None =
          slice_get-take kept (n2 - c) l2 ∙ ap (λ o. cond (nat_lt (n2 - c) kept) o None) o2 ∙ nothing (nat_lt (n2 - c) kept) in
          ap (λ o. cond p2 o None) gone
          ∙ nones p1 p2
          ∙ (λ i. option_or (cond (not (false && p1)) (cond p2 (sym o2 i) None) None)
          (option_map (λ v. unwrap_or (cond p2 (sym o2 i) None) v) (cond (is_some (cond p2 (sym o2 i) None) || not (false && p2)) (cond p1 (sym o1 i) None) None)))
      by true true false e e1 e2 = absurd (let w : ⊥ = grind (arith, nat_tests) in w)
      by true false false e e1 e2 = refl
      by true false true e e1 e2 =
          let stays : nat_lt (n2 - c) kept ≡ true = grind (arith, nat_tests) in
          slice_get-take kept (n2 - c) l2 ∙ ap (λ b. cond b other None) stays ∙ new other (is_some other || false)
      by true true true e e1 e2 =
          let within : nat_lt (n2 - c) kept ≡ nat_lt (n1 - c) (length l1) = grind (arith, nat_tests) in
          slice_get-take kept (n2 - c) l2 ∙ ap (λ b. cond b other None) (within ∙ sym (is_some-slice_get l1 (n1 - c))) ∙ shared own other

  -- the entry of an actor after a merge means what a sync of both sides means
  pub value_at-merged : (own other : ℕ × List V) (c : ℕ) → length own.1 ≤ own.0 → length other.1 ≤ other.0 → value_at (merged own other) c ≡ synced_value own other c
  value_at-merged own other c h1 h2 = by (nat_le other.0 own.0) refl
    where
      by : (b : Bool) → nat_le other.0 own.0 ≡ b
          → value_at (cond b (own.0, take (own.0 - other.0 + length other.1) own.1) (other.0, take (other.0 - own.0 + length own.1) other.1)) c
          ≡ option_or
          (cond (not (nat_le 1 c && nat_le c own.0)) (value_at other c) None)
          (option_map (λ v. cond b v (unwrap_or (value_at other c) v))
          (cond (is_some (value_at other c) || not (nat_le 1 c && nat_le c other.0)) (value_at own c) None))
      by true e = own_kept own.0 other.0 c own.1 other.1 (let t : other.0 ≤ own.0 = grind (arith, nat_tests) in t) h1 h2
      by false e = other_kept own.0 other.0 c own.1 other.1 (let t : own.0 < other.0 = grind (arith, nat_tests) in t) h1 h2
