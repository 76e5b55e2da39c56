-- Hexadecimal in lower case.
use Rattle.std.specs.Prelude.{ℕ, ◌==◌, ◌%◌, Bool, nat_le, ◌&&◌, ◌||◌, List, length}
use Rattle.std.specs.List.{list_all}

-- `0` to `9` are 48 to 57, `a` to `f` 97 to 102
abbrev pub is_lower_digit : ℕ → Bool
is_lower_digit digit = (nat_le 48 digit && nat_le digit 57) || (nat_le 97 digit && nat_le digit 102)

-- digits in lower case, and an even number of them
abbrev pub is_hex_text : List ℕ → Bool
is_hex_text text = list_all is_lower_digit text && (length text % 2 == 0)
