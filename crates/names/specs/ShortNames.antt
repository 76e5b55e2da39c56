-- Names of up to 15 bytes as two numbers, highest byte first.
use Rattle.std.specs.Prelude.{◌≡◌, ◌+◌, ◌*◌, ◌^◌, ◌/◌, ◌%◌, ℕ, zero, suc, List, [], ◌∷◌, length, take, Option, Some, None, cond, nat_lt, Bool}
use Rattle.byteorder.specs.Endian.{big_number, big_from}
use Rattle.names.specs.declared.short_name.ShortName.TheInside.{Inside}

-- the digits of a number to the base of 256, n of them, the highest first
abbrev pub digits : ℕ → ℕ → List ℕ
digits zero x = []
digits (suc n) x = x / 256 ^ n % 256 ∷ digits n (x % 256 ^ n)

-- the number of a name's first eight bytes; where it has fewer, zeros stand for the others
abbrev pub high_of : List ℕ → ℕ
high_of name = big_number 8 name

-- the number of the seven bytes after them, in the same way, and of the length
abbrev pub low_of : List ℕ → ℕ
low_of name = big_from 8 7 name * 256 + length name

-- the bytes of a name
abbrev pub name_in : Inside → List ℕ
name_in words = take (words.low % 256) (digits 15 (words.high * 256 ^ 7 + words.low / 256))

abbrev pub words_of : List ℕ → Inside
words_of name = record { high = high_of name; low = low_of name }

-- the two numbers are those of the bytes
pub record AreWords (words : Inside) : Type 0 where
  pub high : high_of (name_in words) ≡ words.high
  pub low : low_of (name_in words) ≡ words.low

-- whether a name fits two numbers
abbrev pub is_short : List ℕ → Bool
is_short name = nat_lt (length name) 16

-- the name, where it does
abbrev pub short_name : List ℕ → Option (List ℕ)
short_name name = cond (is_short name) (Some name) None
