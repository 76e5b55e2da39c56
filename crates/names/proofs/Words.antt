-- The two numbers of a name have its bytes, and are in the order of names.
use Rattle.std.proofs.Common.{◌≡◌, ℕ, zero, suc, ◌+◌, ◌-◌, ◌*◌, ◌^◌, ◌/◌, ◌%◌, ◌<◌, ◌≤◌, List, [], ◌∷◌, length, take, drop, refl, sym, ◌∙◌, ap, subst, arith, bit_or}
use Rattle.std.specs.Prelude.{slice_index, Bool, ◌&&◌, true, false, nat_eq, nat_lt, cond, Some, None}
use Rattle.std.specs.declared.cmp.Ordering.{Ordering}
use Rattle.std.specs.declared.cmp.Ordering.TheVariants.{Less, Equal, Greater}
use Rattle.std.specs.Ordering.{nat_cmp, ordering_then, is_eq, is_lt, MatchOrdering}
use Rattle.std.specs.Cmp.{nat_cmp_is}
use Rattle.std.specs.Cmp.Lexicographic.{slice_cmp, pointwise}
use Rattle.std.proofs.lemmas.Cmp.{ranked}
use Rattle.std.proofs.lemmas.Nat.{mul-add-lt, div-mul-add, mod-mul-add, pow-add, or_shifted}
use Rattle.std.proofs.lemmas.List.{get_or_past}
use Rattle.std.proofs.Math.Nat.{mul_comm, mul_assoc, add-mul, mod-eq_of_lt, mod-lt, pow-suc}
use Rattle.byteorder.specs.Endian.{big_number, big_from}
use Rattle.byteorder.specs.Numbers.{big_from-cons, big_from-lt}
use Rattle.riak_msgs.proofs.ByteOrder.{AreBytes}
use Rattle.names.specs.ShortNames.{digits, high_of, low_of, name_in, words_of, AreWords, is_short, short_name}
use Rattle.names.specs.declared.short_name.ShortName.TheInside.{Inside}
use Rattle.std.proofs.lemmas.Bool.Decides.{nat_tests}

-- no bytes there
pub big_past : (i n : ℕ) (xs : List ℕ) → length xs ≤ i → big_from i n xs ≡ 0
big_past i zero xs h = refl
big_past i (suc n) xs h =
    let byte = get_or_past xs i 0 h in
    let rest = big_past (suc i) n xs (omega arith) in
    rw (byte, rest) (omega arith)

moved_up : (s p q b r : ℕ) → s * (q * p) + (b * q + r) ≡ (s * p + b) * q + r
moved_up s p q b r =
    let sum = add-mul (s * p) b q in
    let product = mul_assoc s p q in
    let turned = ap (λ (x : ℕ). s * x) (mul_comm q p) in
    omega (arith, sum, product, turned)

-- the higher bytes and the lower ones
pub big_split : (i n m : ℕ) (xs : List ℕ) → big_from i (n + m) xs ≡ big_from i m xs * 256 ^ n + big_from (i + m) n xs
big_split i n zero xs =
    let here : big_from i (n + 0) xs ≡ big_from i n xs = ap (λ (j : ℕ). big_from i j xs) (omega arith) in
    let there : big_from (i + 0) n xs ≡ big_from i n xs = ap (λ (j : ℕ). big_from j n xs) (omega arith) in
    omega (arith, here, there)
big_split i n (suc m) xs =
    let here : big_from i (n + suc m) xs ≡ big_from i (suc (n + m)) xs = ap (λ (j : ℕ). big_from i j xs) {x = n + suc m} {y = suc (n + m)} (omega arith) in
    let rest = big_split (suc i) n m xs in
    let there : big_from (suc i + m) n xs ≡ big_from (i + suc m) n xs = ap (λ (j : ℕ). big_from j n xs) {x = suc i + m} {y = i + suc m} (omega arith) in
    let power : slice_index xs i * 256 ^ (n + m) ≡ slice_index xs i * (256 ^ n * 256 ^ m) = ap (λ (p : ℕ). slice_index xs i * p) (pow-add 256 n m) in
    let up = moved_up (slice_index xs i) (256 ^ m) (256 ^ n) (big_from (suc i) m xs) (big_from (suc i + m) n xs) in
    omega (arith, here, rest, there, power, up)

-- behind the first k bytes
pub big_from-drop : (i k n : ℕ) (xs : List ℕ) → big_from i n (drop k xs) ≡ big_from (i + k) n xs
big_from-drop i zero n xs = ap (λ (j : ℕ). big_from j n xs) (omega arith)
big_from-drop i (suc k) n [] = big_past i n [] (omega arith) ∙ sym (big_past (i + suc k) n [] (omega arith))
big_from-drop i (suc k) n (x ∷ xs) = big_from-drop i k n xs ∙ sym (big_from-cons (i + k) n x xs) ∙ ap (λ (j : ℕ). big_from j n (x ∷ xs)) (omega arith)

pub number_cons : (n x : ℕ) (xs : List ℕ) → big_number (suc n) (x ∷ xs) ≡ x * 256 ^ n + big_number n xs
number_cons n x xs = ap (λ (r : ℕ). x * 256 ^ n + r) (big_from-cons 0 n x xs)

-- the digits of a name's number are its bytes
pub digits_of : (n : ℕ) (xs : List ℕ) → length xs ≤ n → AreBytes xs → take (length xs) (digits n (big_number n xs)) ≡ xs
digits_of zero [] short bytes = refl
digits_of zero (x ∷ xs) short bytes = absurd (omega arith)
digits_of (suc n) [] short bytes = refl
digits_of (suc n) (x ∷ xs) short bytes =
    let number = number_cons n x xs in
    let fits = big_from-lt 0 n xs (λ k. bytes (suc k)) in
    let head : big_number (suc n) (x ∷ xs) / 256 ^ n % 256 ≡ x = ap (λ (y : ℕ). y / 256 ^ n % 256) number ∙ ap (λ (y : ℕ). y % 256) (div-mul-add x (256 ^ n) (big_number n xs) fits) ∙ mod-eq_of_lt (bytes 0) in
    let rest : big_number (suc n) (x ∷ xs) % 256 ^ n ≡ big_number n xs = ap (λ (y : ℕ). y % 256 ^ n) number ∙ mod-mul-add x (256 ^ n) (big_number n xs) fits in
    let tail = ap (λ (y : ℕ). take (length xs) (digits n y)) rest ∙ digits_of n xs (omega arith) (λ k. bytes (suc k)) in
    λ i. head i ∷ tail i

-- a name of up to 15 bytes is that of its two numbers
pub name_of_words : (xs : List ℕ) → length xs ≤ 15 → AreBytes xs → name_in (words_of xs) ≡ xs
name_of_words xs short bytes =
    let len : low_of xs % 256 ≡ length xs = mod-mul-add (big_from 8 7 xs) 256 (length xs) (omega arith) in
    let low : low_of xs / 256 ≡ big_from 8 7 xs = div-mul-add (big_from 8 7 xs) 256 (length xs) (omega arith) in
    let number : high_of xs * 256 ^ 7 + low_of xs / 256 ≡ big_number 15 xs = ap (λ (y : ℕ). high_of xs * 256 ^ 7 + y) low ∙ sym (big_split 0 7 8 xs) in
    (λ i. take (len i) (digits 15 (number i))) ∙ digits_of 15 xs short bytes

digits_are_bytes : (n x : ℕ) → AreBytes (digits n x)
digits_are_bytes zero x k = omega arith
digits_are_bytes (suc n) x zero = mod-lt (x / 256 ^ n) (omega arith)
digits_are_bytes (suc n) x (suc k) = digits_are_bytes n (x % 256 ^ n) k

take_are_bytes : (n : ℕ) (xs : List ℕ) → AreBytes xs → AreBytes (take n xs)
take_are_bytes zero xs bytes k = omega arith
take_are_bytes (suc n) [] bytes k = omega arith
take_are_bytes (suc n) (x ∷ xs) bytes zero = bytes zero
take_are_bytes (suc n) (x ∷ xs) bytes (suc k) = take_are_bytes n xs (λ j. bytes (suc j)) k

take_digits : (m n x : ℕ) → length (take m (digits n x)) ≤ n
take_digits zero n x = omega arith
take_digits (suc m) zero x = omega arith
take_digits (suc m) (suc n) x = let rest = take_digits m n (x % 256 ^ n) in omega (arith, rest)

-- the law of the order: by the bytes as a number, with zeros behind them, and then by the length
below : (x y w p q : ℕ) → x < y → p < w → x * w + p < y * w + q
below x y w p q h fits = let row = mul-add-lt x w p y h fits in let turned = mul_comm w y in omega (arith, row, turned)

digits_cmp : (x y w p q : ℕ) → p < w → q < w → nat_cmp (x * w + p) (y * w + q) ≡ ordering_then (nat_cmp x y) (nat_cmp p q)
digits_cmp x y w p q fits fits' = high (nat_cmp x y) (ranked x y (nat_cmp x y) refl)
  where
    low : (o : Ordering) → x ≡ y → MatchOrdering o (p < q) (p ≡ q) (q < p) → MatchOrdering o (x * w + p < y * w + q) (x * w + p ≡ y * w + q) (y * w + q < x * w + p)
    low Less e h = let rows = ap (λ (n : ℕ). n * w) e in omega (arith, rows)
    low Equal e h = let rows = ap (λ (n : ℕ). n * w) e in omega (arith, rows)
    low Greater e h = let rows = ap (λ (n : ℕ). n * w) e in omega (arith, rows)

    high : (o : Ordering) → MatchOrdering o (x < y) (x ≡ y) (y < x) → nat_cmp (x * w + p) (y * w + q) ≡ ordering_then o (nat_cmp p q)
    high Less h = sym (nat_cmp_is (x * w + p) (y * w + q) Less (below x y w p q h fits))
    high Equal h = sym (nat_cmp_is (x * w + p) (y * w + q) (nat_cmp p q) (low (nat_cmp p q) h (ranked p q (nat_cmp p q) refl)))
    high Greater h = sym (nat_cmp_is (x * w + p) (y * w + q) Greater (below y x w q p h fits'))

then-assoc : (a b c : Ordering) → ordering_then (ordering_then a b) c ≡ ordering_then a (ordering_then b c)
then-assoc Less b c = refl
then-assoc Equal b c = refl
then-assoc Greater b c = refl

next_cmp : (m n : ℕ) → nat_cmp m n ≡ nat_cmp (suc m) (suc n)
next_cmp m n = nat_cmp_is (suc m) (suc n) (nat_cmp m n) (next (nat_cmp m n) (ranked m n (nat_cmp m n) refl))
  where
    next : (o : Ordering) → MatchOrdering o (m < n) (m ≡ n) (n < m) → MatchOrdering o (suc m < suc n) (suc m ≡ suc n) (suc n < suc m)
    next Less h = omega arith
    next Equal h = ap suc h
    next Greater h = omega arith

-- where one name ends, zeros tie with zeros and the length decides
ends_first : (y n : ℕ) → Less ≡ ordering_then (nat_cmp 0 y) (nat_cmp 0 (suc n))
ends_first zero n = nat_cmp_is 0 (suc n) Less (omega arith)
ends_first (suc y) n = ap (λ (o : Ordering). ordering_then o (nat_cmp 0 (suc n))) (nat_cmp_is 0 (suc y) Less (omega arith))

ends_last : (x n : ℕ) → Greater ≡ ordering_then (nat_cmp x 0) (nat_cmp (suc n) 0)
ends_last zero n = nat_cmp_is (suc n) 0 Greater (omega arith)
ends_last (suc x) n = ap (λ (o : Ordering). ordering_then o (nat_cmp (suc n) 0)) (nat_cmp_is (suc x) 0 Greater (omega arith))

pub names_cmp : (n : ℕ) (xs ys : List ℕ) → length xs ≤ n → length ys ≤ n → AreBytes xs → AreBytes ys
    → slice_cmp nat_cmp xs ys ≡ ordering_then (nat_cmp (big_number n xs) (big_number n ys)) (nat_cmp (length xs) (length ys))
names_cmp n [] [] short short' bytes bytes' =
    ap (λ (o : Ordering). ordering_then o (nat_cmp 0 0)) (nat_cmp_is (big_number n []) (big_number n []) Equal refl)
names_cmp n [] (y ∷ ys) short short' bytes bytes' =
    ends_first (big_number n (y ∷ ys)) (length ys)
    ∙ ap (λ (x : ℕ). ordering_then (nat_cmp x (big_number n (y ∷ ys))) (nat_cmp 0 (suc (length ys)))) (sym (big_past 0 n [] (omega arith)))
names_cmp n (x ∷ xs) [] short short' bytes bytes' =
    ends_last (big_number n (x ∷ xs)) (length xs)
    ∙ ap (λ (y : ℕ). ordering_then (nat_cmp (big_number n (x ∷ xs)) y) (nat_cmp (suc (length xs)) 0)) (sym (big_past 0 n [] (omega arith)))
names_cmp zero (x ∷ xs) (y ∷ ys) short short' bytes bytes' = absurd (omega arith)
names_cmp (suc n) (x ∷ xs) (y ∷ ys) short short' bytes bytes' =
    let rest = names_cmp n xs ys (omega arith) (omega arith) (λ k. bytes (suc k)) (λ k. bytes' (suc k)) in
    let digits = digits_cmp x y (256 ^ n) (big_number n xs) (big_number n ys) (big_from-lt 0 n xs (λ k. bytes (suc k))) (big_from-lt 0 n ys (λ k. bytes' (suc k))) in
    ap (ordering_then (nat_cmp x y)) rest
    ∙ sym (then-assoc (nat_cmp x y) (nat_cmp (big_number n xs) (big_number n ys)) (nat_cmp (length xs) (length ys)))
    ∙ (λ i. ordering_then (sym digits i) (next_cmp (length xs) (length ys) i))
    ∙ (λ i. ordering_then (nat_cmp (sym (number_cons n x xs) i) (sym (number_cons n y ys) i)) (nat_cmp (suc (length xs)) (suc (length ys))))

-- names of up to 15 bytes are in the order of their two numbers
pub words_cmp : (xs ys : List ℕ) → length xs ≤ 15 → length ys ≤ 15 → AreBytes xs → AreBytes ys
    → slice_cmp nat_cmp xs ys ≡ ordering_then (nat_cmp (high_of xs) (high_of ys)) (nat_cmp (low_of xs) (low_of ys))
words_cmp xs ys short short' bytes bytes' =
    let l = nat_cmp (length xs) (length ys) in
    names_cmp 15 xs ys short short' bytes bytes'
    ∙ ap (λ (o : Ordering). ordering_then o l)
    ((λ i. nat_cmp (big_split 0 7 8 xs i) (big_split 0 7 8 ys i))
    ∙ digits_cmp (high_of xs) (high_of ys) (256 ^ 7) (big_from 8 7 xs) (big_from 8 7 ys) (big_from-lt 8 7 xs bytes) (big_from-lt 8 7 ys bytes'))
    ∙ then-assoc (nat_cmp (high_of xs) (high_of ys)) (nat_cmp (big_from 8 7 xs) (big_from 8 7 ys)) l
    ∙ ap (ordering_then (nat_cmp (high_of xs) (high_of ys)))
    (sym (digits_cmp (big_from 8 7 xs) (big_from 8 7 ys) 256 (length xs) (length ys) (omega arith) (omega arith)))

pub eq_of_then : (a b : Ordering) → is_eq (ordering_then a b) ≡ is_eq a && is_eq b
eq_of_then Less b = refl
eq_of_then Equal b = refl
eq_of_then Greater b = refl

-- ---- how the numbers are read

from_there : (n : ℕ) (xs : List ℕ) (i j : ℕ) → i ≡ j → big_from i n xs ≡ big_from j n xs
from_there n xs i j same = ap (λ (j : ℕ). big_from j n xs) same

of_many : (i : ℕ) (xs : List ℕ) (m n : ℕ) → m ≡ n → big_from i m xs ≡ big_from i n xs
of_many i xs m n same = ap (λ (n : ℕ). big_from i n xs) same

-- of the last w bytes of w + k the highest k are those that stand behind the first w, and the others are shifted out
pub shifted : (w k s : ℕ) (xs : List ℕ) → s + k ≡ w → length xs ≡ w + k → AreBytes xs → big_number w (drop k xs) * 256 ^ s % 256 ^ w ≡ big_from w w xs
shifted w k s xs whole long bytes =
    let moved : big_number w (drop k xs) ≡ big_from (0 + k) w xs = big_from-drop 0 k w xs in
    let there : big_from (0 + k) w xs ≡ big_from k w xs = from_there w xs (0 + k) k (omega arith) in
    let all : big_from k w xs ≡ big_from k (k + s) xs = of_many k xs w (k + s) (omega arith) in
    let parts = big_split k k s xs in
    let low : big_from (k + s) k xs ≡ big_from w k xs = from_there k xs (k + s) w (omega arith) in
    let split : big_number w (drop k xs) ≡ big_from k s xs * 256 ^ k + big_from w k xs = omega (arith, moved, there, all, parts, low) in
    let all' : big_from w w xs ≡ big_from w (s + k) xs = of_many w xs w (s + k) (omega arith) in
    let parts' = big_split w s k xs in
    let past : big_from (w + k) s xs ≡ 0 = big_past (w + k) s xs (omega arith) in
    let none : big_from w w xs ≡ big_from w k xs * 256 ^ s = omega (arith, all', parts', past) in
    let fits : big_from w w xs < 256 ^ w = big_from-lt w w xs bytes in
    let many : 256 ^ w ≡ 256 ^ (k + s) = ap (λ (n : ℕ). 256 ^ n) {x = w} {y = k + s} (omega arith) in
    let power : 256 ^ w ≡ 256 ^ k * 256 ^ s = many ∙ pow-add 256 k s in
    let sum = add-mul (big_from k s xs * 256 ^ k) (big_from w k xs) (256 ^ s) in
    let product = mul_assoc (big_from k s xs) (256 ^ k) (256 ^ s) in
    let turned : big_from k s xs * 256 ^ w ≡ big_from k s xs * (256 ^ k * 256 ^ s) = ap (λ (x : ℕ). big_from k s xs * x) power in
    let scaled : big_number w (drop k xs) * 256 ^ s ≡ (big_from k s xs * 256 ^ k + big_from w k xs) * 256 ^ s = ap (λ (n : ℕ). n * 256 ^ s) split in
    let up : big_number w (drop k xs) * 256 ^ s ≡ big_from k s xs * 256 ^ w + big_from w w xs = omega (arith, scaled, sum, product, turned, none) in
    ap (λ (n : ℕ). n % 256 ^ w) up ∙ mod-mul-add (big_from k s xs) (256 ^ w) (big_from w w xs) fits

pow256 : (n : ℕ) → 2 ^ (8 * n) ≡ 256 ^ n
pow256 zero = refl
pow256 (suc n) =
    let rest = pow256 n in
    let more : 2 ^ (8 * suc n) ≡ 2 ^ (8 * n + 8) = ap (λ (k : ℕ). 2 ^ k) {x = 8 * suc n} {y = 8 * n + 8} (omega arith) in
    let split = pow-add 2 (8 * n) 8 in
    let up : 256 ^ suc n ≡ 256 ^ n * 256 = pow-suc 256 n in
    omega (arith, rest, more, split, up)

-- the last eight bytes, shifted, and the length below them
pub rest_is : (last : ℕ) (xs : List ℕ) → 8 < length xs → length xs ≤ 15 → AreBytes xs → last ≡ big_number 8 (drop (length xs - 8) xs)
    → bit_or (last * 2 ^ (8 * (16 - length xs)) % 18446744073709551616) (length xs) ≡ low_of xs
rest_is last xs long short bytes is =
    let up : last * 2 ^ (8 * (16 - length xs)) % 18446744073709551616 ≡ big_number 8 (drop (length xs - 8) xs) * 256 ^ (16 - length xs) % 256 ^ 8 =
    λ i. is i * pow256 (16 - length xs) i % 18446744073709551616 in
    let behind : big_number 8 (drop (length xs - 8) xs) * 256 ^ (16 - length xs) % 256 ^ 8 ≡ big_from 8 8 xs = shifted 8 (length xs - 8) (16 - length xs) xs (omega arith) (omega arith) bytes in
    let parts : big_from 8 8 xs ≡ big_from 8 7 xs * 256 ^ 1 + big_from 15 1 xs = big_split 8 1 7 xs in
    let past : big_from 15 1 xs ≡ 0 = big_past 15 1 xs (omega arith) in
    let low : big_from 8 8 xs ≡ big_from 8 7 xs * 2 ^ 8 = parts ∙ ap (λ (r : ℕ). big_from 8 7 xs * 256 + r) past ∙ omega arith in
    ap (λ (n : ℕ). bit_or n (length xs)) (up ∙ behind ∙ low) ∙ or_shifted (big_from 8 7 xs) 8 (length xs) (omega arith)

-- the first four bytes, and the last four, shifted, below them
pub some_is : (first last : ℕ) (xs : List ℕ) → 4 < length xs → length xs < 8 → AreBytes xs → first ≡ big_number 4 xs
    → last ≡ big_number 4 (drop (length xs - 4) xs) * 2 ^ (8 * (8 - length xs)) % 4294967296
    → bit_or (first * 4294967296 % 18446744073709551616) last ≡ high_of xs
some_is first last xs long short bytes is is' =
    let fits : big_number 4 xs < 256 ^ 4 = big_from-lt 0 4 xs bytes in
    let up : first * 4294967296 % 18446744073709551616 ≡ big_number 4 xs * 2 ^ 32 = ap (λ (n : ℕ). n * 4294967296 % 18446744073709551616) is ∙ mod-eq_of_lt (omega (arith, fits)) in
    let turn : big_number 4 (drop (length xs - 4) xs) * 2 ^ (8 * (8 - length xs)) % 4294967296 ≡ big_number 4 (drop (length xs - 4) xs) * 256 ^ (8 - length xs) % 256 ^ 4 =
    λ i. big_number 4 (drop (length xs - 4) xs) * pow256 (8 - length xs) i % 4294967296 in
    let behind : last ≡ big_from 4 4 xs = is' ∙ turn ∙ shifted 4 (length xs - 4) (8 - length xs) xs (omega arith) (omega arith) bytes in
    let low : big_from 4 4 xs < 256 ^ 4 = big_from-lt 4 4 xs bytes in
    (λ i. bit_or (up i) (behind i)) ∙ or_shifted (big_number 4 xs) 32 (big_from 4 4 xs) low ∙ sym (big_split 0 4 4 xs)

-- ---- two numbers as a name

-- those of a name's bytes are the name's
pub are_words : (xs : List ℕ) (high low : ℕ) → length xs ≤ 15 → AreBytes xs → high ≡ high_of xs → low ≡ low_of xs → AreWords (record { high = high; low = low })
are_words xs high low short bytes is is' =
    let name : name_in (record { high = high; low = low }) ≡ xs = (λ i. name_in (record { high = is i; low = is' i })) ∙ name_of_words xs short bytes in
    record { high = ap high_of name ∙ sym is; low = ap low_of name ∙ sym is' }

pub is_name : (xs : List ℕ) (high low : ℕ) → length xs ≤ 15 → AreBytes xs → high ≡ high_of xs → low ≡ low_of xs → name_in (record { high = high; low = low }) ≡ xs
is_name xs high low short bytes is is' = (λ i. name_in (record { high = is i; low = is' i })) ∙ name_of_words xs short bytes

pub name_is_short : (a : Inside) → length (name_in a) ≤ 15
name_is_short a = take_digits (a.low % 256) 15 (a.high * 256 ^ 7 + a.low / 256)

pub name_is_bytes : (a : Inside) → AreBytes (name_in a)
name_is_bytes a = take_are_bytes (a.low % 256) (digits 15 (a.high * 256 ^ 7 + a.low / 256)) (digits_are_bytes 15 (a.high * 256 ^ 7 + a.low / 256))

-- two names are in the order of their numbers
pub inside_cmp : (a b : Inside) → AreWords a → AreWords b → slice_cmp nat_cmp (name_in a) (name_in b) ≡ ordering_then (nat_cmp a.high b.high) (nat_cmp a.low b.low)
inside_cmp a b are are' =
    words_cmp (name_in a) (name_in b) (name_is_short a) (name_is_short b) (name_is_bytes a) (name_is_bytes b)
    ∙ λ i. ordering_then (nat_cmp (are.high i) (are'.high i)) (nat_cmp (are.low i) (are'.low i))

pub unequal_decides : (o p : Ordering) → (o ≡ Equal → ⊥) → o ≡ ordering_then o p
unequal_decides Less p apart = refl
unequal_decides Equal p apart = absurd (apart refl)
unequal_decides Greater p apart = refl

-- whether they are one
nat_eq_cmp : (x y : ℕ) → nat_eq x y ≡ is_eq (nat_cmp x y)
nat_eq_cmp x y = by (nat_cmp x y) (ranked x y (nat_cmp x y) refl)
  where
    by : (o : Ordering) → MatchOrdering o (x < y) (x ≡ y) (y < x) → nat_eq x y ≡ is_eq o
    by Less h = grind (arith, nat_tests)
    by Equal h = grind (arith, nat_tests)
    by Greater h = grind (arith, nat_tests)

pub list_eq_cmp : (xs ys : List ℕ) → pointwise nat_eq xs ys ≡ is_eq (slice_cmp nat_cmp xs ys)
list_eq_cmp [] [] = refl
list_eq_cmp [] (y ∷ ys) = refl
list_eq_cmp (x ∷ xs) [] = refl
list_eq_cmp (x ∷ xs) (y ∷ ys) = (λ i. nat_eq_cmp x y i && list_eq_cmp xs ys i) ∙ sym (eq_of_then (nat_cmp x y) (slice_cmp nat_cmp xs ys))

pub inside_eq : (a b : Inside) → AreWords a → AreWords b → nat_eq a.high b.high && nat_eq a.low b.low ≡ pointwise nat_eq (name_in a) (name_in b)
inside_eq a b are are' =
    (λ i. nat_eq_cmp a.high b.high i && nat_eq_cmp a.low b.low i)
    ∙ sym (eq_of_then (nat_cmp a.high b.high) (nat_cmp a.low b.low))
    ∙ ap is_eq (sym (inside_cmp a b are are'))
    ∙ sym (list_eq_cmp (name_in a) (name_in b))

pub same_low : (a b : Inside) → AreWords a → AreWords b → b.high ≡ a.high → nat_eq a.low b.low ≡ pointwise nat_eq (name_in a) (name_in b)
same_low a b are are' same =
    ap (λ (o : Bool). o && nat_eq a.low b.low) (sym (nat_eq_cmp a.high b.high ∙ ap is_eq (sym (nat_cmp_is a.high b.high Equal (sym same)))))
    ∙ inside_eq a b are are'

within : (n : ℕ) → n ≤ 15 → nat_lt n 16 ≡ true
within n h = grind (arith, nat_tests)

beyond : (n : ℕ) → 15 < n → nat_lt n 16 ≡ false
beyond n h = grind (arith, nat_tests)

pub fits : (xs : List ℕ) → length xs ≤ 15 → Some xs ≡ short_name xs
fits xs short = ap (λ (b : Bool). cond b (Some xs) None) (sym (within (length xs) short))

pub too_long : (xs : List ℕ) → 15 < length xs → None ≡ short_name xs
too_long xs long = ap (λ (b : Bool). cond b (Some xs) None) (sym (beyond (length xs) long))

-- what `of` answered
pub short_some : (xs ys : List ℕ) → Some ys ≡ short_name xs → (is_short xs ≡ true) × (ys ≡ xs)
short_some xs ys h = by (is_short xs) refl h
  where
    by : (b : Bool) → is_short xs ≡ b → Some ys ≡ cond b (Some xs) None → (is_short xs ≡ true) × (ys ≡ xs)
    by true is h = let same : ys ≡ xs = cc in (is, same)
    by false is h = cc

pub short_none : (xs : List ℕ) → None ≡ short_name xs → is_short xs ≡ false
short_none xs h = by (is_short xs) refl h
  where
    by : (b : Bool) → is_short xs ≡ b → None ≡ cond b (Some xs) None → is_short xs ≡ false
    by true is h = cc
    by false is h = is

then_second : (a b : Ordering) → ordering_then a b ≡ Equal → b ≡ Equal
then_second Less b h = let no : Less ≡ Equal = h in cc
then_second Equal b h = h
then_second Greater b h = let no : Greater ≡ Equal = h in cc

tied_lengths : (xs ys : List ℕ) → slice_cmp nat_cmp xs ys ≡ Equal → length xs ≡ length ys
tied_lengths [] [] h = refl
tied_lengths [] (y ∷ ys) h = let no : Less ≡ Equal = h in cc
tied_lengths (x ∷ xs) [] h = let no : Greater ≡ Equal = h in cc
tied_lengths (x ∷ xs) (y ∷ ys) h = ap suc (tied_lengths xs ys (then_second (nat_cmp x y) (slice_cmp nat_cmp xs ys) h))

pub same_short : (xs ys : List ℕ) → slice_cmp nat_cmp xs ys ≡ Equal → is_short xs ≡ is_short ys
same_short xs ys h = ap (λ (n : ℕ). nat_lt n 16) (tied_lengths xs ys h)

-- ---- against longer names

pub take_all : (n : ℕ) (xs : List ℕ) → length xs ≤ n → xs ≡ take n xs
take_all zero [] h = refl
take_all zero (x ∷ xs) h = absurd (omega arith)
take_all (suc n) [] h = refl
take_all (suc n) (x ∷ xs) h = ap (λ xs. x ∷ xs) (take_all n xs (omega arith))

-- a name of up to n bytes is behind a longer one where it is behind that one's first n bytes
pub behind_prefix : (n : ℕ) (name short : List ℕ) → length short ≤ n → is_lt (slice_cmp nat_cmp name short) ≡ is_lt (slice_cmp nat_cmp (take n name) short)
behind_prefix zero [] [] fits = refl
behind_prefix zero (x ∷ name) [] fits = refl
behind_prefix zero name (y ∷ short) fits = absurd (omega arith)
behind_prefix (suc n) [] short fits = refl
behind_prefix (suc n) (x ∷ name) [] fits = refl
behind_prefix (suc n) (x ∷ name) (y ∷ short) fits = by (nat_cmp x y) (behind_prefix n name short (omega arith))
  where
    by : (o : Ordering) → is_lt (slice_cmp nat_cmp name short) ≡ is_lt (slice_cmp nat_cmp (take n name) short)
        → is_lt (ordering_then o (slice_cmp nat_cmp name short)) ≡ is_lt (ordering_then o (slice_cmp nat_cmp (take n name) short))
    by Less rest = refl
    by Equal rest = rest
    by Greater rest = refl

pub above_prefix : (name short prefix : List ℕ) (a : Inside) → name_in a ≡ short → prefix ≡ take 15 name → is_lt (slice_cmp nat_cmp prefix short) ≡ is_lt (slice_cmp nat_cmp name short)
above_prefix name short prefix a same is =
    ap (λ p. is_lt (slice_cmp nat_cmp p short)) is
    ∙ subst (λ (s : List ℕ). is_lt (slice_cmp nat_cmp (take 15 name) s) ≡ is_lt (slice_cmp nat_cmp name s)) same (sym (behind_prefix 15 name (name_in a) (name_is_short a)))

pub short_fits : (xs : List ℕ) → is_short xs ≡ true → length xs ≤ 15
short_fits xs is = grind (arith, nat_tests)
