-- Numbers of a few bytes, highest byte first, are in the order of the bytes.
use Rattle.std.proofs.Common.{◌≡◌, ℕ, zero, suc, ◌+◌, ◌-◌, ◌*◌, ◌^◌, ◌<◌, ◌≤◌, List, [], ◌∷◌, length, take, drop, refl, sym, ◌∙◌, ap, arith}
use Rattle.std.specs.Prelude.{slice_index, min}
use Rattle.std.specs.declared.cmp.Ordering.{Ordering}
use Rattle.std.specs.declared.cmp.Ordering.TheVariants.{Less, Equal, Greater}
use Rattle.std.specs.Ordering.{nat_cmp, ordering_then, MatchOrdering}
use Rattle.std.specs.Cmp.{nat_cmp_is}
use Rattle.std.specs.Cmp.Lexicographic.{slice_cmp}
use Rattle.std.proofs.lemmas.Cmp.{ranked}
use Rattle.std.proofs.lemmas.Nat.{mul-add-lt}
use Rattle.std.proofs.lemmas.List.{take_rest, length-drop}
use Rattle.std.proofs.Math.Nat.{mul_comm}
use Rattle.byteorder.specs.Endian.{big_number}
use Rattle.byteorder.specs.Numbers.{big_from-cons, big_from-lt}

-- no byte is above 255, also where none stands
abbrev pub AreBytes : List ℕ → Type 0
AreBytes bytes = (k : ℕ) → slice_index bytes k < 256

below : (x y w p q : ℕ) → x < y → p < w → x * w + p < y * w + q
below x y w p q h fits = let row = mul-add-lt x w p y h fits in let turned = mul_comm w y in omega (arith, row, turned)

-- two digits decide in turn
digits_cmp : (x y w p q : ℕ) → p < w → q < w → nat_cmp (x * w + p) (y * w + q) ≡ ordering_then (nat_cmp x y) (nat_cmp p q)
digits_cmp x y w p q fits fits' = high (nat_cmp x y) (ranked x y (nat_cmp x y) refl)
  where
    low : (o : Ordering) → x ≡ y → MatchOrdering o (p < q) (p ≡ q) (q < p) → MatchOrdering o (x * w + p < y * w + q) (x * w + p ≡ y * w + q) (y * w + q < x * w + p)
    low Less e h = let rows = ap (λ (n : ℕ). n * w) e in omega (arith, rows)
    low Equal e h = let rows = ap (λ (n : ℕ). n * w) e in omega (arith, rows)
    low Greater e h = let rows = ap (λ (n : ℕ). n * w) e in omega (arith, rows)

    high : (o : Ordering) → MatchOrdering o (x < y) (x ≡ y) (y < x) → nat_cmp (x * w + p) (y * w + q) ≡ ordering_then o (nat_cmp p q)
    high Less h = sym (nat_cmp_is (x * w + p) (y * w + q) Less (below x y w p q h fits))
    high Equal h = sym (nat_cmp_is (x * w + p) (y * w + q) (nat_cmp p q) (low (nat_cmp p q) h (ranked p q (nat_cmp p q) refl)))
    high Greater h = sym (nat_cmp_is (x * w + p) (y * w + q) Greater (below y x w q p h fits'))

ordering_then-assoc : (a b c : Ordering) → ordering_then (ordering_then a b) c ≡ ordering_then a (ordering_then b c)
ordering_then-assoc Less b c = refl
ordering_then-assoc Equal b c = refl
ordering_then-assoc Greater b c = refl

-- byte strings are in the order of the numbers of their first n bytes, and where those are equal, of the rest
pub numbers_cmp : (n : ℕ) (xs ys : List ℕ) → n ≤ length xs → n ≤ length ys → AreBytes xs → AreBytes ys
    → slice_cmp nat_cmp xs ys ≡ ordering_then (nat_cmp (big_number n xs) (big_number n ys)) (slice_cmp nat_cmp (drop n xs) (drop n ys))
numbers_cmp zero xs ys long long' bytes bytes' = refl
numbers_cmp (suc n) [] ys long long' bytes bytes' = absurd (omega arith)
numbers_cmp (suc n) (x ∷ xs) [] long long' bytes bytes' = absurd (omega arith)
numbers_cmp (suc n) (x ∷ xs) (y ∷ ys) long long' bytes bytes' =
    let rest = numbers_cmp n xs ys (omega arith) (omega arith) (λ k. bytes (suc k)) (λ k. bytes' (suc k)) in
    let digits = digits_cmp x y (256 ^ n) (big_number n xs) (big_number n ys) (big_from-lt 0 n xs (λ k. bytes (suc k))) (big_from-lt 0 n ys (λ k. bytes' (suc k))) in
    ap (ordering_then (nat_cmp x y)) rest
    ∙ sym (ordering_then-assoc (nat_cmp x y) (nat_cmp (big_number n xs) (big_number n ys)) (slice_cmp nat_cmp (drop n xs) (drop n ys)))
    ∙ ap (λ (o : Ordering). ordering_then o (slice_cmp nat_cmp (drop n xs) (drop n ys)))
    (sym digits ∙ λ i. nat_cmp (x * 256 ^ n + sym (big_from-cons 0 n x xs) i) (y * 256 ^ n + sym (big_from-cons 0 n y ys) i))

-- the bytes at an index, and those after it
pub bytes_cmp : (at : ℕ) (xs ys : List ℕ) → at < length xs → at < length ys
    → slice_cmp nat_cmp (drop at xs) (drop at ys) ≡ ordering_then (nat_cmp (slice_index xs at) (slice_index ys at)) (slice_cmp nat_cmp (drop (suc at) xs) (drop (suc at) ys))
bytes_cmp zero [] ys long long' = absurd (omega arith)
bytes_cmp zero (x ∷ xs) [] long long' = absurd (omega arith)
bytes_cmp zero (x ∷ xs) (y ∷ ys) long long' = refl
bytes_cmp (suc at) [] ys long long' = absurd (omega arith)
bytes_cmp (suc at) (x ∷ xs) [] long long' = absurd (omega arith)
bytes_cmp (suc at) (x ∷ xs) (y ∷ ys) long long' = bytes_cmp at xs ys (omega arith) (omega arith)

next_cmp : (m n : ℕ) → nat_cmp m n ≡ nat_cmp (suc m) (suc n)
next_cmp m n = nat_cmp_is (suc m) (suc n) (nat_cmp m n) (next (nat_cmp m n) (ranked m n (nat_cmp m n) refl))
  where
    next : (o : Ordering) → MatchOrdering o (m < n) (m ≡ n) (n < m) → MatchOrdering o (suc m < suc n) (suc m ≡ suc n) (suc n < suc m)
    next Less h = omega arith
    next Equal h = ap suc h
    next Greater h = omega arith

-- where one has no byte any more the lengths decide
pub lengths_cmp : (n : ℕ) (xs ys : List ℕ) → n ≡ min (length xs) (length ys) → slice_cmp nat_cmp (drop n xs) (drop n ys) ≡ nat_cmp (length xs) (length ys)
lengths_cmp zero [] [] h = refl
lengths_cmp zero [] (y ∷ ys) h = nat_cmp_is 0 (length (y ∷ ys)) Less (omega arith)
lengths_cmp zero (x ∷ xs) [] h = nat_cmp_is (length (x ∷ xs)) 0 Greater (omega arith)
lengths_cmp zero (x ∷ xs) (y ∷ ys) h = absurd (omega arith)
lengths_cmp (suc n) [] ys h = absurd (omega arith)
lengths_cmp (suc n) (x ∷ xs) [] h = absurd (omega arith)
lengths_cmp (suc n) (x ∷ xs) (y ∷ ys) h = lengths_cmp n xs ys (omega arith) ∙ next_cmp (length xs) (length ys)

-- where the first n bytes are one number, bytes among them may be left out
then_equal : (a b : Ordering) → ordering_then a b ≡ Equal → (a ≡ Equal) × (b ≡ Equal)
then_equal Less b h = let no : Less ≡ Equal = h in cc
then_equal Equal b h = (refl, h)
then_equal Greater b h = let no : Greater ≡ Equal = h in cc

pub rest_cmp : (n at : ℕ) (xs ys : List ℕ) → at ≤ n → n ≤ length xs → n ≤ length ys → AreBytes xs → AreBytes ys
    → nat_cmp (big_number n xs) (big_number n ys) ≡ Equal → slice_cmp nat_cmp xs ys ≡ slice_cmp nat_cmp (drop at xs) (drop at ys)
rest_cmp n zero xs ys within long long' bytes bytes' equal = refl
rest_cmp zero (suc at) xs ys within long long' bytes bytes' equal = absurd (omega arith)
rest_cmp (suc n) (suc at) [] ys within long long' bytes bytes' equal = absurd (omega arith)
rest_cmp (suc n) (suc at) (x ∷ xs) [] within long long' bytes bytes' equal = absurd (omega arith)
rest_cmp (suc n) (suc at) (x ∷ xs) (y ∷ ys) within long long' bytes bytes' equal =
    let digits = digits_cmp x y (256 ^ n) (big_number n xs) (big_number n ys) (big_from-lt 0 n xs (λ k. bytes (suc k))) (big_from-lt 0 n ys (λ k. bytes' (suc k))) in
    let both = then_equal (nat_cmp x y) (nat_cmp (big_number n xs) (big_number n ys))
    (sym digits ∙ (λ i. nat_cmp (x * 256 ^ n + sym (big_from-cons 0 n x xs) i) (y * 256 ^ n + sym (big_from-cons 0 n y ys) i)) ∙ equal) in
    ap (λ (o : Ordering). ordering_then o (slice_cmp nat_cmp xs ys)) both.0
    ∙ rest_cmp n at xs ys (omega arith) (omega arith) (omega arith) (λ k. bytes (suc k)) (λ k. bytes' (suc k)) both.1

then-equal : (o : Ordering) → ordering_then o Equal ≡ o
then-equal Less = refl
then-equal Equal = refl
then-equal Greater = refl

-- of strings of this length it decides what the number of their bytes is
pub last_cmp : (n : ℕ) (xs ys : List ℕ) (o : Ordering) → length xs ≡ n → length ys ≡ n
    → slice_cmp nat_cmp xs ys ≡ ordering_then o (slice_cmp nat_cmp (drop n xs) (drop n ys)) → slice_cmp nat_cmp xs ys ≡ o
last_cmp n xs ys o long long' h =
    h ∙ ap (ordering_then o) (lengths_cmp n xs ys (omega arith) ∙ sym (nat_cmp_is (length xs) (length ys) Equal (long ∙ sym long'))) ∙ then-equal o

-- and so the last n bytes decide, where there are at most twice as many
pub tail_cmp : (n at : ℕ) (xs ys : List ℕ) (o : Ordering) → at ≤ n → at + n ≡ length xs → at + n ≡ length ys → AreBytes xs → AreBytes ys
    → nat_cmp (big_number n xs) (big_number n ys) ≡ Equal
    → slice_cmp nat_cmp (take (length xs - at) (drop at xs)) (take (length ys - at) (drop at ys))
    ≡ ordering_then o (slice_cmp nat_cmp (drop n (take (length xs - at) (drop at xs))) (drop n (take (length ys - at) (drop at ys))))
    → o ≡ slice_cmp nat_cmp xs ys
tail_cmp n at xs ys o within long long' bytes bytes' equal h =
    let kept = take_rest xs at in
    let kept' = take_rest ys at in
    let there = length-drop at xs in
    let there' = length-drop at ys in
    sym (rest_cmp n at xs ys within (omega arith) (omega arith) bytes bytes' equal
    ∙ last_cmp n (drop at xs) (drop at ys) o (omega arith) (omega arith)
    ((λ i. slice_cmp nat_cmp (sym kept i) (sym kept' i)) ∙ h ∙ λ i. ordering_then o (slice_cmp nat_cmp (drop n (kept i)) (drop n (kept' i)))))
