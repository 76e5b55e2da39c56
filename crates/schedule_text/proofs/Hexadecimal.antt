-- The texts of hexadecimal in lower case and of even length are just what `encode_lower` writes of bytes.
use Rattle.std.proofs.Common.{◌≡◌, ℕ, zero, suc, ◌+◌, ◌-◌, ◌*◌, ◌/◌, ◌%◌, ◌<◌, ◌==◌, Bool, true, false, not, ◌&&◌, ◌||◌, nat_le, nat_lt, if◌then◌else◌, List, [], ◌∷◌, length, slice_index, get_or, inl, inr, refl, ap, ◌∙◌, arith, Ok}
use Rattle.std.proofs.lemmas.Bool.{and_parts, cases_lt, eqb-true}
use Rattle.std.specs.List.{list_all}
use Rattle.std.proofs.lemmas.List.Folds.{list_all_at}
use Rattle.hex.specs.Hex.{IsBytes, decode_of, encode_lower, encode_with, lower_digits}
use Rattle.hex.proofs.HexLemmas.{decode_of-encode_lower, decode_of-same, length-encode_with}
use Rattle.schedule_text.specs.Digits.{is_lower_digit, is_hex_text}
use Rattle.schedule_text.specs.Reading.{IsHexOf}

-- the test of the first n numbers
abbrev all_below : (ℕ → Bool) → ℕ → Bool
all_below test zero = true
all_below test (suc n) = test n && all_below test n

-- a number below n passed the test
all_below-at : (test : ℕ → Bool) (n k : ℕ) → all_below test n ≡ true → k < n → test k ≡ true
all_below-at test zero k h lt = absurd (omega arith)
all_below-at test (suc n) k h lt =
    let parts = and_parts (test n) (all_below test n) h in
    elim (cases_lt k n) [
      | inl below ↦ all_below-at test n k parts.1 below
      | inr top ↦
          let e : k ≡ n = omega arith in
          rw e parts.0
    ]

-- the digit of each number below 16 is one in lower case
digit_is_lower : (d : ℕ) → d < 16 → is_lower_digit (slice_index lower_digits d) ≡ true
digit_is_lower d lt = all_below-at (λ k. is_lower_digit (slice_index lower_digits k)) 16 d refl lt

-- the number of a digit in lower case
abbrev number_of : ℕ → ℕ
number_of digit = if nat_le 97 digit then digit - 87 else digit - 48

-- a digit in lower case is that of its number
abbrev is_that_of_its_number : ℕ → Bool
is_that_of_its_number digit =
    not (is_lower_digit digit)
    || (nat_lt (number_of digit) 16 && (slice_index lower_digits (number_of digit) == digit))

is_lower-small : (digit : ℕ) → is_lower_digit digit ≡ true → digit < 103
is_lower-small digit is = grind (arith)

-- what the test shows of a digit in lower case
passed : (is below : Bool) → is ≡ true → (not is || below) ≡ true → below ≡ true
passed true below h e = e
passed false below h e = cc h

number_of-small : (digit : ℕ) → is_lower_digit digit ≡ true → number_of digit < 16
number_of-small digit is = grind (arith)

digit_of_number : (digit : ℕ) → is_lower_digit digit ≡ true → slice_index lower_digits (number_of digit) ≡ digit
digit_of_number digit is =
    let test = all_below-at is_that_of_its_number 103 digit refl (is_lower-small digit is) in
    let both = passed (is_lower_digit digit) (nat_lt (number_of digit) 16 && (slice_index lower_digits (number_of digit) == digit)) is test in
    eqb-true (slice_index lower_digits (number_of digit)) digit
    (and_parts (nat_lt (number_of digit) 16) (slice_index lower_digits (number_of digit) == digit) both).1

-- what is written of bytes is digits in lower case
pub encode_is_lower : (bytes : List ℕ) → IsBytes bytes → list_all is_lower_digit (encode_lower bytes) ≡ true
unfolding encode_with
encode_is_lower [] h = refl
encode_is_lower (b ∷ bytes) h =
    let fits : b < 256 = h 0 in
    let high = digit_is_lower (b / 16) (omega arith) in
    let low = digit_is_lower (b % 16) (omega arith) in
    let rest = encode_is_lower bytes (λ k. h (suc k)) in
    rw (high, low, rest) refl

-- a byte in front of bytes
bytes_cons : (b : ℕ) (rest : List ℕ) → b < 256 → IsBytes rest → IsBytes (b ∷ rest)
bytes_cons b rest h hs zero = h
bytes_cons b rest h hs (suc i) = hs i

bytes_nil : IsBytes []
bytes_nil i = omega arith

-- two numbers below 16 as one byte
high_of : (a b : ℕ) → b < 16 → (a * 16 + b) / 16 ≡ a
high_of a b lt = omega arith

low_of : (a b : ℕ) → b < 16 → (a * 16 + b) % 16 ≡ b
low_of a b lt = omega arith

-- an even number of digits in lower case is what is written of some bytes
pub lower_is_encoded : (text : List ℕ) → length text % 2 ≡ 0 → list_all is_lower_digit text ≡ true
    → (bytes : List ℕ) × (text ≡ encode_lower bytes) × IsBytes bytes
unfolding encode_with
lower_is_encoded [] even h = ([], refl, bytes_nil)
lower_is_encoded (a ∷ []) even h = absurd (omega arith)
lower_is_encoded (a ∷ b ∷ rest) even h =
    let first = and_parts (is_lower_digit a) (is_lower_digit b && list_all is_lower_digit rest) h in
    let second = and_parts (is_lower_digit b) (list_all is_lower_digit rest) first.1 in
    let sa = number_of-small a first.0 in
    let sb = number_of-small b second.0 in
    let tail = lower_is_encoded rest (omega arith) second.1 in
    let byte = number_of a * 16 + number_of b in
    let ea : slice_index lower_digits (byte / 16) ≡ a = ap (slice_index lower_digits) (high_of (number_of a) (number_of b) sb) ∙ digit_of_number a first.0 in
    let eb : slice_index lower_digits (byte % 16) ≡ b = ap (slice_index lower_digits) (low_of (number_of a) (number_of b) sb) ∙ digit_of_number b second.0 in
    let below : byte < 256 = omega (arith, sa, sb) in
    (byte ∷ tail.0, rw (ea, eb, ← tail.1) refl, bytes_cons byte tail.0 below tail.2)

-- a text with another byte is no hexadecimal
pub not_hex : (text : List ℕ) (at other : ℕ) → at < length text → is_lower_digit (get_or text at other) ≡ false
    → false ≡ is_hex_text text
not_hex text at other lt fails = rw (list_all_at is_lower_digit text at other lt fails) refl

-- what is written of bytes is hexadecimal
pub written_is_hex : (text message : List ℕ) → IsHexOf text message → is_hex_text text ≡ true
written_is_hex text message is =
    let len = length-encode_with lower_digits message in
    let even : (length (encode_lower message) % 2 == 0) ≡ true = rw len (even_twice (length message)) in
    rw (is.whole, encode_is_lower message is.bytes, even) refl
  where
    even_twice : (n : ℕ) → (2 * n % 2 == 0) ≡ true
    even_twice n = grind (arith)

-- hexadecimal is written of some bytes
pub hex_is_written : (text : List ℕ) → is_hex_text text ≡ true → (message : List ℕ) × IsHexOf text message
hex_is_written text is =
    let parts = and_parts (list_all is_lower_digit text) (length text % 2 == 0) is in
    let all = lower_is_encoded text (eqb-true (length text % 2) 0 parts.1) parts.0 in
    (all.0, record { whole = all.1; bytes = all.2 })

-- what hexadecimal decodes to is what it writes
pub decoded : (text message : List ℕ) → is_hex_text text ≡ true → decode_of text ≡ Ok message → IsHexOf text message
decoded text message is gives =
    let written = hex_is_written text is in
    let read : decode_of text ≡ Ok written.0 = ap decode_of written.1.whole ∙ decode_of-encode_lower written.0 written.1.bytes in
    let same : written.0 ≡ message = decode_of-same text written.0 message read gives in
    rw same at written.1

-- a text writes one list of bytes
pub hex_once : (text a b : List ℕ) → IsHexOf text a → IsHexOf text b → a ≡ b
hex_once text a b x y =
    let left : decode_of text ≡ Ok a = ap decode_of x.whole ∙ decode_of-encode_lower a x.bytes in
    let right : decode_of text ≡ Ok b = ap decode_of y.whole ∙ decode_of-encode_lower b y.bytes in
    decode_of-same text a b left right
