-- The bytes of a name's two numbers.
use Rattle.std.proofs.Common.{◌≡◌, ℕ, zero, suc, ◌+◌, ◌-◌, ◌*◌, ◌^◌, ◌/◌, ◌%◌, ◌<◌, List, [], ◌∷◌, length, take, drop, ◌++◌, refl, sym, ◌∙◌, ap, arith}
use Rattle.std.proofs.lemmas.Nat.{div-mul-add}
use Rattle.std.proofs.Math.Nat.{mod-lt}
use Rattle.std.specs.Int.{byte_at}
use Rattle.byteorder.specs.Endian.{big_number, big_from, big_bytes}
use Rattle.byteorder.specs.Numbers.{big_from-lt, big_number-reads_back, length-bytes_high_first}
use Rattle.riak_msgs.proofs.ByteOrder.{AreBytes}
use Rattle.names.specs.ShortNames.{digits, name_in, AreWords}
use Rattle.names.specs.declared.short_name.ShortName.TheInside.{Inside}
use Rattle.names.proofs.Words.{big_from-drop, big_split, digits_of, name_is_bytes, name_is_short, take_all}

byte_fits : (k x : ℕ) → byte_at k x < 256
byte_fits zero x = mod-lt x (omega arith)
byte_fits (suc k) x = mod-lt (x / 256 ^ suc k) (omega arith)

bytes_high_first_are : (n x : ℕ) → AreBytes (big_bytes n x)
bytes_high_first_are zero x k = omega arith
bytes_high_first_are (suc n) x zero = byte_fits n x
bytes_high_first_are (suc n) x (suc k) = bytes_high_first_are n x k

both_are_bytes : (xs ys : List ℕ) → AreBytes xs → AreBytes ys → AreBytes (xs ++ ys)
both_are_bytes [] ys bytes bytes' k = bytes' k
both_are_bytes (x ∷ xs) ys bytes bytes' zero = bytes zero
both_are_bytes (x ∷ xs) ys bytes bytes' (suc k) = both_are_bytes xs ys (λ j. bytes (suc j)) bytes' k

length_both : (xs ys : List ℕ) → length (xs ++ ys) ≡ length xs + length ys
length_both [] ys = omega arith
length_both (x ∷ xs) ys = let rest = length_both xs ys in omega (arith, rest)

drop_both : (n : ℕ) (xs ys : List ℕ) → length xs ≡ n → drop n (xs ++ ys) ≡ ys
drop_both zero [] ys h = refl
drop_both zero (x ∷ xs) ys h = absurd (omega arith)
drop_both (suc n) [] ys h = absurd (omega arith)
drop_both (suc n) (x ∷ xs) ys h = drop_both n xs ys (omega arith)

length_digits : (n x : ℕ) → length (digits n x) ≡ n
length_digits zero x = refl
length_digits (suc n) x = ap suc (length_digits n (x % 256 ^ n))

with_nothing : (xs : List ℕ) → xs ++ [] ≡ xs
with_nothing [] = refl
with_nothing (x ∷ xs) = ap (λ (xs : List ℕ). x ∷ xs) (with_nothing xs)

-- the digits of two numbers, of eight bytes and of seven
pub digits_of_words : (high rest : ℕ) → high < 256 ^ 8 → rest < 256 ^ 7 → digits 15 (high * 256 ^ 7 + rest) ≡ big_bytes 8 high ++ big_bytes 7 rest
digits_of_words high rest fits fits' =
    let xs : List ℕ = big_bytes 8 high ++ big_bytes 7 rest in
    let len : length (big_bytes 8 high ++ big_bytes 7 rest) ≡ 15 =
    length_both (big_bytes 8 high) (big_bytes 7 rest) ∙ (λ i. length-bytes_high_first 8 high i + length-bytes_high_first 7 rest i) in
    let bytes : AreBytes (big_bytes 8 high ++ big_bytes 7 rest) = both_are_bytes (big_bytes 8 high) (big_bytes 7 rest) (bytes_high_first_are 8 high) (bytes_high_first_are 7 rest) in
    let first : big_from 0 8 (big_bytes 8 high ++ big_bytes 7 rest) ≡ high = big_number-reads_back 8 high (big_bytes 7 rest) fits in
    let second : big_from 8 7 (big_bytes 8 high ++ big_bytes 7 rest) ≡ rest =
    sym (big_from-drop 0 8 7 (big_bytes 8 high ++ big_bytes 7 rest))
    ∙ ap (big_from 0 7) (drop_both 8 (big_bytes 8 high) (big_bytes 7 rest) (length-bytes_high_first 8 high) ∙ sym (with_nothing (big_bytes 7 rest)))
    ∙ big_number-reads_back 7 rest [] fits' in
    let number : big_number 15 (big_bytes 8 high ++ big_bytes 7 rest) ≡ high * 256 ^ 7 + rest =
    big_split 0 7 8 (big_bytes 8 high ++ big_bytes 7 rest) ∙ (λ i. first i * 256 ^ 7 + second i) in
    let all = digits_of 15 (big_bytes 8 high ++ big_bytes 7 rest) (omega (arith, len)) bytes in
    take_all 15 (digits 15 (high * 256 ^ 7 + rest)) (omega (arith, length_digits 15 (high * 256 ^ 7 + rest)))
    ∙ (λ i. take (sym len i) (digits 15 (sym number i))) ∙ all

-- the bytes of a name's two numbers, as far as its length, are the name
pub name_bytes : (a : Inside) → AreWords a → (bytes : List ℕ) → bytes ≡ big_bytes 8 a.high ++ big_bytes 7 (a.low / 256) → take (a.low % 256) bytes ≡ name_in a
name_bytes a are bytes is =
    let short = name_is_short a in
    let high : a.high < 256 ^ 8 = let fits = big_from-lt 0 8 (name_in a) (name_is_bytes a) in let same = are.high in omega (arith, fits, same) in
    let rest : a.low / 256 ≡ big_from 8 7 (name_in a) = ap (λ (y : ℕ). y / 256) (sym are.low) ∙ div-mul-add (big_from 8 7 (name_in a)) 256 (length (name_in a)) (omega (arith, short)) in
    let low : a.low / 256 < 256 ^ 7 = let fits = big_from-lt 8 7 (name_in a) (name_is_bytes a) in omega (arith, fits, rest) in
    ap (take (a.low % 256)) (is ∙ sym (digits_of_words a.high (a.low / 256) high low))
